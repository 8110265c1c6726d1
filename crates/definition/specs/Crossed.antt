-- M-107: "the number of loops on the control stack above the one it found". What a jump is resolved on. proofs/Crossed proves it of every break and continue.
use Rattle.std.specs.Prelude.{◌≡◌, ◌<◌, List, [], ◌∷◌, ◌++◌, Bool, true, false}
use Rattle.definition.specs.Context.{ControlFlowTarget, is_loop, Entry, loops_on, Resolution}
use Rattle.definition.specs.Tree.{labeled}

abbrev pub NoneFits : (fits : ControlFlowTarget → Bool) → List Entry → Type 0
NoneFits fits [] = Unit {0}
NoneFits fits (entry ∷ below) = (fits entry.target ≡ false) × NoneFits fits below

-- a jump was resolved on an entry that fits it, with none above it that fits, and has the number of loops above that. "A jump whose target is a loop is
-- Labeled exactly when the number is above 0."
pub record Found (fits : ControlFlowTarget → Bool) (stack : List Entry) (found : Resolution) : Type 0 where
  pub above : List Entry
  pub entry : Entry
  pub below : List Entry
  pub whole : above ++ (entry ∷ below) ≡ stack
  pub here : fits entry.target ≡ true
  pub none_above : NoneFits fits above
  pub number : found.loops ≡ loops_on above
  pub if_labeled : is_loop entry.target ≡ true → found.kind ≡ labeled → 0 < found.loops
  pub labeled_if : is_loop entry.target ≡ true → 0 < found.loops → found.kind ≡ labeled
