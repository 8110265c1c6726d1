-- The tree run of a value: its rows, how it ended, and the answers left.
use Rattle.std.specs.Prelude.{ℕ, zero, suc, List, [], ◌∷◌, ◌++◌, Bool, true, false, ◌&&◌}
use Rattle.definition.specs.Tree.{Value, PLAIN, LOAD, UNDEF, SEQ, LOGICAL, COND, OPTIONAL, Instructions, no_instructions, instruction}
use Rattle.definition.specs.Run.{Answers, Reason, no_answer_left, not_plain}
use Rattle.definition.specs.ValueEnds.{seen_rows}

-- `in_short`: by the "no" of an optional chain, in a test of this chain
pub data Ending : Type 0 where
  in_whole : Ending
  in_short : Ending
  stopping : Reason → Ending

pub record Valued : Type 0 where
  pub rows : List ℕ
  pub ending : Ending
  pub left : Answers

unfoldable pub valued : List ℕ → Ending → Answers → Valued
valued rows ending left = record { rows = rows; ending = ending; left = left }

unfoldable pub value_prefix : List ℕ → Valued → Valued
value_prefix rows part = valued (rows ++ part.rows) part.ending part.left

unfoldable pub then_value_on : Ending → Valued → (Answers → Valued) → Valued
then_value_on in_whole part next = value_prefix part.rows (next part.left)
then_value_on in_short part next = part
then_value_on (stopping reason) part next = part

-- a part and, if it ended in whole, the next
unfoldable pub then_value : Valued → (Answers → Valued) → Valued
then_value part next = then_value_on part.ending part next

-- by one answer
unfoldable pub ask : (if_yes if_no : Answers → Valued) → Answers → Valued
ask if_yes if_no [] = valued [] (stopping no_answer_left) []
ask if_yes if_no (zero ∷ left) = if_no left
ask if_yes if_no (suc n ∷ left) = if_yes left

-- a "no" of an OPTIONAL: short where it is the end of a test of its chain, else its value is undefined
abbrev pub without : (tested : Bool) → Ending
without true = in_short
without false = in_whole

-- the test of an OPTIONAL that ended short is its own "no"
unfoldable pub taken_over_on : (tested : Bool) → Ending → Valued → (Answers → Valued) → Valued
taken_over_on tested in_whole part next = value_prefix part.rows (next part.left)
taken_over_on tested in_short part next = valued part.rows (without tested) part.left
taken_over_on tested (stopping reason) part next = part

unfoldable pub taken_over : (tested : Bool) → Valued → (Answers → Valued) → Valued
taken_over tested part next = taken_over_on tested part.ending part next

abbrev pub is_load : Value → Bool
is_load (PLAIN row) = false
is_load (LOAD place) = true
is_load (UNDEF span) = false
is_load (SEQ _ id value) = false
is_load (LOGICAL operator left right) = false
is_load (COND test consequent alternate) = false
is_load (OPTIONAL flag value) = false

-- whether the last of some instructions, with this value, is the test of a chain: an OPTIONAL with nothing after it
abbrev pub is_link : Value → Instructions → Bool
is_link (PLAIN row) rest = false
is_link (LOAD place) rest = false
is_link (UNDEF span) rest = false
is_link (SEQ _ id value) rest = false
is_link (LOGICAL operator left right) rest = false
is_link (COND test consequent alternate) rest = false
is_link (OPTIONAL flag value) no_instructions = true
is_link (OPTIONAL flag value) (instruction id lvalue span next rest) = false

-- "Parts run in order". `tested`: the value is the test of an OPTIONAL
unfoldable mutual
  pub run_value : (seen_row : ℕ → Bool) → Value → (tested : Bool) → Answers → Valued
  run_value seen_row (PLAIN row) tested answers = valued (seen_rows seen_row (row ∷ [])) in_whole answers
  run_value seen_row (LOAD place) tested answers = valued [] in_whole answers
  run_value seen_row (UNDEF span) tested answers = valued [] in_whole answers
  run_value seen_row (SEQ instructions id value) tested answers =
      then_value (run_all seen_row instructions (is_load value && tested) answers) (λ left. run_value seen_row value tested left)
  -- yes: the value is the left's
  run_value seen_row (LOGICAL operator left right) tested answers =
      then_value (run_value seen_row left false answers) (λ a. ask (λ a'. valued [] in_whole a') (λ a'. run_value seen_row right false a') a)
  run_value seen_row (COND test consequent alternate) tested answers =
      then_value (run_value seen_row test false answers) (λ a. ask (λ a'. run_value seen_row consequent false a') (λ a'. run_value seen_row alternate false a') a)
  run_value seen_row (OPTIONAL flag value) tested answers = run_optional seen_row value tested answers

  -- the value of an OPTIONAL is a SEQ of one INSTR, the test, and a value
  pub run_optional : (seen_row : ℕ → Bool) → Value → (tested : Bool) → Answers → Valued
  run_optional seen_row (PLAIN row) tested answers = valued [] (stopping not_plain) answers
  run_optional seen_row (LOAD place) tested answers = valued [] (stopping not_plain) answers
  run_optional seen_row (UNDEF span) tested answers = valued [] (stopping not_plain) answers
  run_optional seen_row (SEQ no_instructions id value) tested answers = valued [] (stopping not_plain) answers
  run_optional seen_row (SEQ (instruction n lvalue span test rest) id value) tested answers =
      taken_over tested (run_value seen_row test true answers)
      (λ a. ask (λ a'. run_value seen_row value false a') (λ a'. valued [] (without tested) a') a)
  run_optional seen_row (LOGICAL operator left right) tested answers = valued [] (stopping not_plain) answers
  run_optional seen_row (COND test consequent alternate) tested answers = valued [] (stopping not_plain) answers
  run_optional seen_row (OPTIONAL flag value) tested answers = valued [] (stopping not_plain) answers

  pub run_all : (seen_row : ℕ → Bool) → Instructions → (link : Bool) → Answers → Valued
  run_all seen_row no_instructions link answers = valued [] in_whole answers
  run_all seen_row (instruction id lvalue span value rest) link answers =
      then_value (run_value seen_row value (is_link value rest && link) answers) (λ left. run_all seen_row rest link left)
