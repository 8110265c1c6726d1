-- Paper 01, "Plain tables": what a run is given and what it gives. specs/BlockRun has the block run, specs/TreeRun the tree run.
use Rattle.std.specs.Prelude.{ℕ, List, Bool, true, false}

-- "by one answer": 0 is no, every other number is yes
abbrev pub Answers : Type 0
Answers = List ℕ

-- Why a run stops. "Return, Throw, RETURN and THROW stop the run", here with their value and id; or an answer is due and none is left.
-- The others make the runs total. The law of proofs/Law says that no accepted plain table comes to any of them, but for the last, which no list of
-- answers that is spoken of comes to
pub data Reason : Type 0 where
  returned : (value id : ℕ) → Reason
  threw : (value id : ℕ) → Reason
  no_answer_left : Reason
  -- a block that is missing, or a terminal or statement that is in no plain table or its tree
  not_plain : Reason
  -- a jump, by its id, with no statement around it to act on
  no_target : (id : ℕ) → Reason
  end_of_tree : Reason
  -- M-113: an answer at a Switch that is the place of no case
  no_such_case : Reason

-- a return, a throw, or no answer left
abbrev pub is_good : Reason → Bool
is_good (returned value id) = true
is_good (threw value id) = true
is_good no_answer_left = true
is_good not_plain = false
is_good (no_target id) = false
is_good end_of_tree = false
is_good no_such_case = false

-- the three reasons by name: proofs/Reasons has that a reason is good exactly where it is one of them
pub data IsGood : Reason → Type 0 where
  a_return : (value id : ℕ) → IsGood (returned value id)
  a_throw : (value id : ℕ) → IsGood (threw value id)
  the_answers_are_used_up : IsGood no_answer_left

-- A run: the instruction rows performed, in order, the answers left, and the reason for stopping;
-- `unfinished` where the block run is given fewer steps than it needs
pub data Run : Type 0 where
  unfinished : Run
  stopped : (performed : List ℕ) → (left : Answers) → Reason → Run
