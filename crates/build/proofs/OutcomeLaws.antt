-- Laws of outcomes that printing rests on.
use Rattle.std.specs.Prelude.{Result, Ok, Err}
use Prim.Native.Nat.{ℕ, ◌*◌}
use mathlib.Core.Path.{◌≡◌, refl, ap, ◌∙◌}
use mathlib.Core.List.{List, []}
use native.Mathlib.Omega.{arith}
use lib.ListN.{take}
use Rattle.definition.specs.Around.{Rule}
use Rattle.definition.specs.Build.{built}
use Rattle.definition.proofs.Preview.{never_41_by_rows}
use Rattle.text.specs.Printed.{printed}
use Rattle.text.proofs.PrintsLaws.{refusal_lines}
use Rattle.walk.specs.declared.answer.Walked.{Walked}
use Rattle.build.specs.declared.answer.BuildError.{BuildError}
use Rattle.build.specs.Entry.{code_of, place_of, rows_of, visits_of, outcome}
use Rattle.build.specs.Prints.{lent_words, lent_index, printed_outcome}
use Rattle.build.proofs.EntryLaws.{code_some}

-- what is written of a build is what its outcome prints
module _ (rule : Rule) (words tree index : List ℕ) {room room_index lent lent_index : ℕ} (l : room ≡ lent) (k : room_index ≡ lent_index) where
  built_printed : (r : Result Walked BuildError) → outcome r tree index ≡ built rule words room room_index
      → printed_outcome (outcome r tree index) ≡ printed_outcome (built rule words lent lent_index)
  built_printed r h = ap printed_outcome h ∙ rw (l, k) refl

  pub accepted_printed : (b : Walked) → outcome (Ok b) tree index ≡ built rule words room room_index
      → printed 0 0 b.rows b.visits (take (b.rows * 6) tree) ≡ printed_outcome (built rule words lent lent_index)
  unfolding printed_outcome
  accepted_printed b h = built_printed (Ok b) h

  pub refused_printed : (e : BuildError) → outcome (Err e) tree index ≡ built rule words room room_index
      → printed (code_of e) (place_of e) (rows_of e) (visits_of e) [] ≡ printed_outcome (built rule words lent lent_index)
  unfolding printed_outcome
  refused_printed e h = refusal_lines (code_of e) (place_of e) (rows_of e) (visits_of e) [] (take (rows_of e * 6) tree) (code_some e) ∙ built_printed (Err e) h

-- M-101: as many lines as rows are lent, so that 41 is not printed
pub never_41 : (rule : Rule) (words : List ℕ) → (built rule words lent_words lent_index).code ≡ 41 → ⊥
never_41 rule words = never_41_by_rows rule words lent_words lent_index (omega arith)
