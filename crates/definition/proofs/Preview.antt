-- M-106, proved: the preview's numbers are those of the build "with both buffers large enough"; 40 and 41 do not occur in it; and with smaller buffers
-- the build is 40, or else 41, just as the preview's rows and lines say. For whoever calls either, in either entry.
use mathlib.Core.Path.{◌≡◌, refl, sym, ap, ◌∙◌, subst}
use Prim.Native.Nat.{ℕ, ◌/◌, ◌≤◌, ◌<◌}
use native.Mathlib.Omega.{arith}
use mathlib.Core.List.{List}
use mathlib.Core.Bool.{Bool, true, false, ◌&&◌}
use lib.ListN.{length, length-map}
use lib.Dec.{T, leb, leb→le}
use borrow.Author.Tests.{le-leb, lt-leb, leb-true, leb-false}
use Rattle.table.specs.Check.{Verdict, checked}
use Rattle.table.specs.Check as check
use Rattle.table.specs.Table.{table_of}
use Rattle.definition.specs.Around.{Rule}
use Rattle.definition.specs.Result.{Result, ok, refused}
use Rattle.definition.specs.Statement.{BlockResult, build_tree}
use Rattle.definition.specs.Index.{line_of, labelled, lines}
use Rattle.definition.specs.Build.{Report, accepted, rejected, reported, report, Outcome, refusal, outcome_of, after_check, built}
use Rattle.definition.specs.Preview.{Preview, preview_of, preview_after, previewed, numbers_of}
use Rattle.definition.proofs.Never.{never_above}
use Rattle.definition.proofs.Checked.{of_check, Coded, coded, ranged}
use Rattle.definition.proofs.Accepted.{placed_fits, placed_40, placed_41}
use Rattle.definition.proofs.Emitted.{tree_few}
use Rattle.definition.proofs.Rises.{fewer_lines}

-- ---- with room

module _ (lent lent_index : ℕ) where
  report_fits : (r : Report) → (preview_of r).rows ≤ lent / 6 → (preview_of r).lines ≤ lent_index / 3 → numbers_of (outcome_of lent lent_index r) ≡ preview_of r
  unfolding outcome_of preview_of refusal
  report_fits (accepted list index visits) h k =
      ap (λ (z : Outcome). numbers_of z) (placed_fits lent lent_index list index visits (le-leb (length list) (lent / 6) h) (le-leb (length index) (lent_index / 3) k))
  report_fits (rejected code at visits) h k = refl

  -- more rows than places: 40, with the number needed
  report_40 : (r : Report) → lent / 6 < (preview_of r).rows → outcome_of lent lent_index r ≡ refusal 40 0 (preview_of r).rows (preview_of r).visits lent lent_index
  unfolding outcome_of preview_of
  report_40 (accepted list index visits) h = placed_40 lent lent_index list index visits (lt-leb (length list) (lent / 6) h)
  report_40 (rejected code at visits) h = absurd (omega (arith, h))

  -- else more lines than places: 41
  report_41 : (r : Report) → (preview_of r).rows ≤ lent / 6 → lent_index / 3 < (preview_of r).lines → outcome_of lent lent_index r ≡ refusal 41 0 0 (preview_of r).visits lent lent_index
  unfolding outcome_of preview_of
  report_41 (accepted list index visits) h k = placed_41 lent lent_index list index visits (le-leb (length list) (lent / 6) h) (lt-leb (length index) (lent_index / 3) k)
  report_41 (rejected code at visits) h k = absurd (omega (arith, k))

module _ (rule : Rule) (words : List ℕ) (lent lent_index : ℕ) where
  -- "For every input these equal what the build gives on a copy with both buffers large enough."
  pub preview_numbers : (previewed rule words).rows ≤ lent / 6 → (previewed rule words).lines ≤ lent_index / 3 → numbers_of (built rule words lent lent_index) ≡ previewed rule words
  unfolding built previewed
  preview_numbers = at (checked words)
    where
      at : (v : Verdict) → (preview_after rule v words).rows ≤ lent / 6 → (preview_after rule v words).lines ≤ lent_index / 3
          → numbers_of (after_check rule lent lent_index v words) ≡ preview_after rule v words
      at (check.refused code place) h k = unfold after_check preview_after refusal in refl
      at check.accepted h k = unfold after_check preview_after in report_fits lent lent_index (report rule (table_of words)) h k

  pub preview_40 : lent / 6 < (previewed rule words).rows → built rule words lent lent_index ≡ refusal 40 0 (previewed rule words).rows (previewed rule words).visits lent lent_index
  unfolding built previewed
  preview_40 = at (checked words)
    where
      at : (v : Verdict) → lent / 6 < (preview_after rule v words).rows
          → after_check rule lent lent_index v words ≡ refusal 40 0 (preview_after rule v words).rows (preview_after rule v words).visits lent lent_index
      at (check.refused code place) h = unfold preview_after in absurd (omega (arith, h))
      at check.accepted h = unfold after_check preview_after in report_40 lent lent_index (report rule (table_of words)) h

  pub preview_41 : (previewed rule words).rows ≤ lent / 6 → lent_index / 3 < (previewed rule words).lines
      → built rule words lent lent_index ≡ refusal 41 0 0 (previewed rule words).visits lent lent_index
  unfolding built previewed
  preview_41 = at (checked words)
    where
      at : (v : Verdict) → (preview_after rule v words).rows ≤ lent / 6 → lent_index / 3 < (preview_after rule v words).lines
          → after_check rule lent lent_index v words ≡ refusal 41 0 0 (preview_after rule v words).visits lent lent_index
      at (check.refused code place) h k = unfold preview_after in absurd (omega (arith, k))
      at check.accepted h k = unfold after_check preview_after in report_41 lent lent_index (report rule (table_of words)) h k

-- ---- "that 40 and 41 don't occur here is proved"

of_check_lem : (code : ℕ) → T (of_check code) → code ≤ 31
of_check_lem code h = at (leb 1 code) (leb code 4) refl h
  where
    at : (x y : Bool) → leb code 4 ≡ y → T (x && y) → code ≤ 31
    at true true e k = omega (arith, leb→le code 4 (subst T (sym e) tt))
    at true false e k = absurd k
    at false y e k = absurd k

pub preview_code : (rule : Rule) (words : List ℕ) → (previewed rule words).code ≤ 31
unfolding previewed
preview_code rule words = at (checked words) (coded words)
  where
    by : (r : Report) → report rule (table_of words) ≡ r → (preview_of r).code ≤ 31
    by (accepted list index visits) e = unfold preview_of in omega arith
    by (rejected code place visits) e = unfold preview_of in never_above rule (table_of words) code place visits e

    at : (v : Verdict) → Coded v → (preview_after rule v words).code ≤ 31
    at (check.refused code place) h = unfold preview_after in of_check_lem code h
    at check.accepted h = unfold preview_after in by (report rule (table_of words)) refl

-- ---- M-101: where 41 is not given

module _ (rule : Rule) (words : List ℕ) where
  abbrev Bounded : Preview → Type 0
  Bounded p = (p.lines ≤ 1023) × (p.lines ≤ p.rows)

  bounded : Bounded (previewed rule words)
  unfolding previewed
  bounded = at (checked words) refl
    where
      by : (m : Result BlockResult) → checked words ≡ check.accepted → build_tree rule (table_of words) ≡ m → Bounded (preview_of (reported m))
      by (ok r) c e = unfold preview_of reported lines in (
        omega (arith, tree_few rule (table_of words) (ranged words c).few r e, length-map (labelled r.statements) line_of),
        omega (arith, fewer_lines r.statements, length-map (labelled r.statements) line_of),
      )
      by (refused code place visits) c e = unfold preview_of reported in (omega arith, omega arith)

      at : (v : Verdict) → checked words ≡ v → Bounded (preview_after rule v words)
      at (check.refused code place) c = unfold preview_after in (omega arith, omega arith)
      at check.accepted c = unfold preview_after report in by (build_tree rule (table_of words)) c refl

  pub preview_lines : (previewed rule words).lines ≤ 1023
  preview_lines = bounded.0

  module _ (lent lent_index : ℕ) where
    -- the lines fit where the rows do
    without_41 : ((previewed rule words).rows ≤ lent / 6 → (previewed rule words).lines ≤ lent_index / 3) → (built rule words lent lent_index).code ≡ 41 → ⊥
    without_41 room e = at (leb (previewed rule words).rows (lent / 6)) refl
      where
        forty : (refusal 40 0 (previewed rule words).rows (previewed rule words).visits lent lent_index).code ≡ 41 → ⊥
        forty q = unfold refusal in omega (arith, q)

        at : (y : Bool) → leb (previewed rule words).rows (lent / 6) ≡ y → ⊥
        at true q =
            let h : (previewed rule words).rows ≤ lent / 6 = leb-true (previewed rule words).rows (lent / 6) q in
            omega (arith, preview_code rule words, sym (ap (λ (z : Preview). z.code) (preview_numbers rule words lent lent_index h (room h))) ∙ e)
        at false q = forty (sym (ap (λ (z : Outcome). z.code) (preview_40 rule words lent lent_index (leb-false (previewed rule words).rows (lent / 6) q))) ∙ e)

    -- 1,023 lines are lent
    pub never_41 : 3069 ≤ lent_index → (built rule words lent lent_index).code ≡ 41 → ⊥
    never_41 h = without_41 (λ _. omega (arith, h, preview_lines))

    -- or as many lines as rows: `treebuild` lends 2,048 of each
    pub never_41_by_rows : lent / 6 ≤ lent_index / 3 → (built rule words lent lent_index).code ≡ 41 → ⊥
    never_41_by_rows h = without_41 (λ k. omega (arith, h, k, bounded.1))
