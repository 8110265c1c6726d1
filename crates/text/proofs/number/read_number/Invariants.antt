-- `text::number::read_number` meets its contract. The invariant: digits of `value` stand from `start` up to `at`, and the form goes on after them. StepLaws has each byte
-- that may come: a digit, the end, any other, or none.
use Rattle.std.proofs.Common.{Bool, List, ℕ, ◌^◌, ◌<◌}
use Rattle.text.specs.Form.{Form, field, digits}
use Rattle.text.specs.Steps.{Reached}
use Rattle.text.proofs.number.read_number.Given as goal

-- digits of this value were read, from `start` up to `at`
pub record Run (file : List ℕ) (start : ℕ) (last : Bool) (value at : ℕ) : Type 0 where
  pub small : value < 2 ^ 32
  pub here : (root : Form) (words : List ℕ) (next : ℕ → Form) → Reached root file start words (field last next) → Reached root file at words (digits value last next)

abbrev pub invariant-loop-at : goal.invariant-loop-at
invariant-loop-at l = Run l.file l.start l.last l.value l.at
