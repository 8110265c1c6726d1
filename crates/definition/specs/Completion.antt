-- ECMA-262's completion records, and the operations on them by which break, continue and loops go. Each bears the standard's name.
use Rattle.std.specs.Prelude.{ℕ, List, [], ◌∷◌, Bool, true, false, ◌||◌, eqb}
use Rattle.std.proofs.Math.Option.{Option, none, some}
use Rattle.definition.specs.Run.{Reason}

-- ECMA-262, Completion Record: [[Type]] is normal, break or continue; [[Target]] is a label, or empty. `id` is the jump's, which no operation looks at:
-- it tells the jump that found no target. The completions that end the whole run are one: `stop`
pub data Completion : Type 0 where
  normal : Completion
  break : (target : Option ℕ) → (id : ℕ) → Completion
  continue : (target : Option ℕ) → (id : ℕ) → Completion
  stop : Reason → Completion

-- the labelSet of a statement: its label is the only one, or it has none
abbrev pub label_set : Option ℕ → List ℕ
label_set none = []
label_set (some label) = label ∷ []

abbrev pub contains : List ℕ → ℕ → Bool
contains [] target = false
contains (label ∷ labels) target = eqb label target || contains labels target

-- LoopContinues(completion, labelSet), step by step
unfoldable pub loop_continues : Completion → (label_set : List ℕ) → Bool
-- 1. If completion is a normal completion, return true.
loop_continues normal labels = true
-- 2. If completion is not a continue completion, return false.
loop_continues (break target id) labels = false
loop_continues (stop reason) labels = false
-- 3. If completion.[[Target]] is empty, return true.
loop_continues (continue none id) labels = true
-- 4. If labelSet contains completion.[[Target]], return true. 5. Return false.
loop_continues (continue (some target) id) labels = contains labels target

-- BreakableStatement's LabelledEvaluation: a break completion whose [[Target]] is empty becomes normal
unfoldable pub breakable : Completion → Completion
breakable normal = normal
breakable (break none id) = normal
breakable (break (some target) id) = break (some target) id
breakable (continue target id) = continue target id
breakable (stop reason) = stop reason

-- LabelledStatement's LabelledEvaluation: a break completion whose [[Target]] is the label becomes normal
unfoldable pub labelled : Option ℕ → Completion → Completion
labelled label normal = normal
labelled label (break none id) = break none id
labelled label (break (some target) id) = elim (contains (label_set label) target) [ true ↦ normal | false ↦ break (some target) id ]
labelled label (continue target id) = continue target id
labelled label (stop reason) = stop reason
