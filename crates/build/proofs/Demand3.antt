-- Demand 3 for both entries: what the buffer holds are the rows of one tree, and that tree's run agrees with the block run.
use Prim.Native.Nat.{ℕ}
use mathlib.Core.Path.{◌≡◌, refl, sym, ap, ◌∙◌, subst}
use mathlib.Core.List.{List}
use lib.ListN.{length}
use Rattle.table.specs.Table.{table_of}
use Rattle.definition.specs.Around.{Rule, language}
use Rattle.definition.specs.Build.{built}
use Rattle.definition.specs.Build as definition
use Rattle.definition.specs.Plain.{paper_01, with_switch, Plain}
use Rattle.definition.specs.Reading.{OneTree}
use Rattle.definition.specs.RunLaw.{RunLaw, SwitchLaw}
use Rattle.definition.proofs.TreeInBuffer.{one_tree}
use Rattle.definition.proofs.Law.{run_law, switch_law}
use Rattle.std.specs.Prelude.{Result, Ok, Err, OnOk}
use Rattle.walk.specs.declared.answer.Walked.{Walked}
use Rattle.build.specs.declared.answer.BuildError.{BuildError}
use Rattle.build.specs.Entry.{numbers, outcome}

-- `ensured` is what build_reactive_function ensures by the Rust's rule, and build_language by the language's
module _ (rule : Rule) (words buffer index buffer' index' : List ℕ) (r : Result Walked BuildError)
    (ensured : outcome r buffer' index' ≡ built rule words (length buffer) (length index)) (accepted : (numbers r).code ≡ 0) where
  accepts : (built rule words (length buffer) (length index)).code ≡ 0
  accepts = sym (ap (λ (o : definition.Outcome). o.code) ensured) ∙ accepted

  -- of any accepted table, plain or not
  pub entry_tree : OneTree (outcome r buffer' index')
  entry_tree = subst OneTree (sym ensured) (one_tree rule words (length buffer) (length index) accepts)

  pub entry_law : Plain paper_01 (table_of words) → RunLaw words (outcome r buffer' index')
  entry_law plain = subst (λ (o : definition.Outcome). RunLaw words o) (sym ensured) (run_law rule words (length buffer) (length index) accepts plain)

-- M-113: plain tables with switches, for build_language
module _ (words buffer index buffer' index' : List ℕ) (r : Result Walked BuildError)
    (ensured : outcome r buffer' index' ≡ built language words (length buffer) (length index)) (accepted : (numbers r).code ≡ 0) where
  pub language_law : Plain with_switch (table_of words) → SwitchLaw words (outcome r buffer' index')
  language_law plain =
      subst (λ (o : definition.Outcome). SwitchLaw words o) (sym ensured)
      (switch_law words (length buffer) (length index) (accepts language words buffer index buffer' index' r ensured accepted) plain)

-- what is said of an accepted answer, on an Ok
pub on_ok : {P : Type 0} (r : Result Walked BuildError) → ((numbers r).code ≡ 0 → P) → OnOk r P
on_ok (Ok walked) h = h refl
on_ok (Err error) h = tt
