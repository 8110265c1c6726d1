-- What the equation of the two entries comes to for a caller: the form of every answer, and what is seen of it.
use Rattle.std.specs.Prelude.{Result, Ok, Err}
use Prim.Native.Nat.{ℕ}
use mathlib.Core.Path.{◌≡◌, refl, sym, subst}
use mathlib.Core.List.{List}
use lib.ListN.{length}
use Rattle.definition.specs.Around.{Rule}
use Rattle.definition.specs.Build.{built}
use Rattle.definition.specs.Build as definition
use Rattle.walk.specs.declared.answer.Walked.{Walked}
use Rattle.build.specs.declared.answer.BuildError.{BuildError}
use Rattle.build.specs.Entry.{outcome}
use Rattle.build.proofs.EntryLaws.{code_some}
use Rattle.definition.proofs.Outcomes.{outcome_code, refused_form, refused_rows, accepted_form}
use Rattle.definition.proofs.Steps.{true_false}
use Rattle.definition.proofs.Visits.{visits_most}
use Rattle.theorems.specs.Answered.{Answered}
use Rattle.theorems.specs.Shown.{Shows}

module _ (rule : Rule) (words tree index tree' index' : List ℕ) (answer : Result Walked BuildError)
    (ensured : outcome answer tree' index' ≡ built rule words (length tree) (length index)) where
  pub answered : Answered (length tree) (length index) (outcome answer tree' index')
  answered =
      subst (Answered _ _) (sym ensured) (record {
        number = outcome_code rule _ _ _;
        accepted = accepted_form rule _ _ _;
        refused = refused_form rule _ _ _;
        no_rows = refused_rows rule _ _ _;
        visits = visits_most rule _ _ _;
      })

-- of the outcome that an answer and its buffers make
seen : (answer : Result Walked BuildError) (tree index : List ℕ) → Shows (outcome answer tree index) answer tree index
seen (Ok walked) tree index = record {
  accepted = (λ h. refl, λ h. refl);
  walked = (refl, refl, refl);
  error = tt;
  tree = refl;
  index = refl;
}
seen (Err error) tree index = record {
  accepted = (λ h. absurd (true_false (sym h)), λ h. absurd (code_some error h));
  walked = tt;
  error = (refl, refl, refl, refl);
  tree = refl;
  index = refl;
}

pub shown : (due : definition.Outcome) (answer : Result Walked BuildError) (tree index : List ℕ) → outcome answer tree index ≡ due
    → Shows due answer tree index
shown due answer tree index ensured = subst (λ (o : definition.Outcome). Shows o answer tree index) ensured (seen answer tree index)
