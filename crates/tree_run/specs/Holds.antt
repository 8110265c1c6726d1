-- What the lent buffer holds while the walk goes on: the instructions of the rows reached.
use Rattle.std.specs.Prelude.{◌≡◌, ℕ, zero, suc, ◌*◌, ◌-◌, ◌<◌, ◌≤◌, List, [], ◌++◌, true, false, length, get_or, take, replicate, Option, Some, None, Result, Ok, Err}
use Rattle.tree_check.specs.Found.{word_at}
use Rattle.definition.specs.Run as definition
use Rattle.definition.specs.Run.{Answers, returned, threw, no_answer_left, not_plain, no_target, end_of_tree, no_such_case}
use Rattle.definition.specs.Completion.{normal}
use Rattle.definition.specs.TreeRun.{Completed, reason_of}
use Rattle.tree_runs.specs.Links.{before}
use Rattle.tree_runs.specs.Layout.{Layout}
use Rattle.tree_runs.specs.Machine.{Completes, enter, leave, state, going, step}
use Rattle.tree_runs.specs.Ran.{Outcome, not_run}
use Rattle.tree_run.specs.declared.performed.Performed.{Performed}
use Rattle.tree_run.specs.declared.Reason.TheVariants.{Return, Throw, End, NoAnswer}
use Rattle.tree_run.specs.declared.Run.{Run}
use Rattle.tree_run.specs.declared.RunError.{RunError}
use Rattle.tree_run.specs.declared.RunError.TheVariants.{NoTarget, NotRun, NoRoom}
use Rattle.tree_run.specs.declared.turns.Place.{Place}
use Rattle.tree_run.specs.declared.turns.Place.TheVariants.{Enter}
use Rattle.tree_run.specs.Answer.{reason_number, code_of, at_of}
use Rattle.tree_run.specs.Abstraction.{place_of}

-- the first `number` words are the instructions of the rows reached
pub record Held (words buffer : List ℕ) (number : ℕ) (reached : List ℕ) : Type 0 where
  pub count : length reached ≡ number
  pub fits : number ≤ length buffer
  pub same : (i : ℕ) → i < number → get_or buffer i 0 ≡ word_at words (get_or reached i 0) 1

-- these rows were to be performed: the buffer took them all, or the first that it cannot take is named
pub data Took (words buffer : List ℕ) (number : ℕ) (performed : Result (Unit {0}) RunError) (reached : List ℕ) : Type 0 where
  took : performed ≡ Ok tt → Held words buffer number reached → Took words buffer number performed reached
  filled : length buffer < length reached → performed ≡ Err (NoRoom (get_or reached (length buffer) 0)) → Took words buffer number performed reached

-- these rows were to be performed, behind those that the buffer holds: the same buffer, as long as it was
pub record Performs (words : List ℕ) (old new : Performed) (answer : Result (Unit {0}) RunError) (rows : List ℕ) : Type 0 where
  pub same : new.rows.ghost_name ≡ old.rows.ghost_name
  pub long : length new.rows.now ≡ length old.rows.now
  pub took : (reached : List ℕ) → Held words old.rows.now old.number reached → Took words new.rows.now new.number answer (reached ++ rows)

-- from a case back over `count` cases, in source order
abbrev pub back_by : (begin : List ℕ) → (count m : ℕ) → ℕ
back_by begin zero m = m
back_by begin (suc count) m = back_by begin count (before (get_or begin m 0))

-- an INSTR is entered at this row
abbrev pub Instructs : (words : List ℕ) → Place → (row : ℕ) → Type 0
Instructs words place row = (place ≡ Enter row) × (word_at words row 0 ≡ 4)

-- after an INSTR, which completes normally: out of it, or one turn further
pub data After (L : Layout) (row : ℕ) (place : Place) : Type 0 where
  stays : place_of place ≡ leave row normal → After L row place
  moves : ((performed left : List ℕ) → step L (state (leave row normal) performed left) ≡ going (state (place_of place) performed left)) → After L row place

-- ---- the end of the walk

-- the walk from the root's closing row comes to an end
pub record Walks (L : Layout) (rows : ℕ) (answers : Answers) : Type 0 where
  pub end : Completed
  pub gives : Completes L (suc (length answers) * suc (3 * rows)) (state (enter (rows - 1)) [] answers) end

-- what is told of a run's reason and the number of rows performed
abbrev pub told : (number : ℕ) → definition.Reason → Result Run RunError
told number (returned value id) = Ok (record { number = number; reason = Return })
told number (threw value id) = Ok (record { number = number; reason = Throw })
told number end_of_tree = Ok (record { number = number; reason = End })
told number no_answer_left = Ok (record { number = number; reason = NoAnswer })
told number (no_target at) = Err (NoTarget at)
told number not_plain = Err (NotRun 0)
told number no_such_case = Err (NotRun 0)

-- what the walk leaves and tells where it came to this end
pub data Ends (words buffer : List ℕ) (ran : Result Run RunError) (end : Completed) : Type 0 where
  filled : length buffer < length end.rows → ran ≡ Err (NoRoom (get_or end.rows (length buffer) 0)) → Ends words buffer ran end
  ended : (number : ℕ) → Held words buffer number end.rows → ran ≡ told number (reason_of end.completion) → Ends words buffer ran end

-- ---- the whole

-- the first of the `count` rows from row i on that is not run
unfoldable pub not_run_from : (words : List ℕ) → (i count : ℕ) → Option ℕ
not_run_from words i zero = None
not_run_from words i (suc count) = elim (not_run (word_at words i 0)) [ true ↦ Some i | false ↦ not_run_from words (suc i) count ]

abbrev pub outcome_of : Result Run RunError → (buffer : List ℕ) → Outcome
outcome_of (Ok run) buffer = record { code = 0; at = 0; number = run.number; reason = reason_number run.reason; buffer = buffer }
outcome_of (Err error) buffer = record { code = code_of error; at = at_of error; number = 0; reason = 0; buffer = buffer }

-- how many rows the run gives; "a refused run .. gives the number 0"
abbrev pub number_of : Result Run RunError → ℕ
number_of (Ok run) = run.number
number_of (Err error) = 0

-- so many rows, "then zeros"
abbrev pub kept : (number : ℕ) → (buffer : List ℕ) → List ℕ
kept number buffer = take number buffer ++ replicate (length buffer - number) 0
