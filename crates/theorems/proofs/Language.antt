-- M-102 from the outcomes that a caller sees: the entries differ only so, the first entry never gives 29, and the labels of an accepted tree are there.
use mathlib.Core.Path.{◌≡◌, refl, sym, ap, ◌∙◌, subst}
use Prim.Native.Nat.{ℕ, ◌/◌, ◌≤◌}
use native.Mathlib.Omega.{arith}
use mathlib.Core.List.{List, []}
use mathlib.Core.Logic.{⊎_elim}
use mathlib.Core.Bool.{Bool, true, false}
use lib.Dec.{T, leb}
use lib.ListN.{length}
use Rattle.table.specs.Check.{Verdict, checked}
use Rattle.table.specs.Check as check
use Rattle.table.specs.Table.{table_of}
use Rattle.definition.specs.Around.{Rule, rust, language}
use Rattle.definition.specs.Result.{Result, ok, refused}
use Rattle.definition.specs.Statement.{BlockResult, build_tree}
use Rattle.definition.specs.Tree.{Row, rows}
use Rattle.definition.specs.Index.{Line, lines}
use Rattle.theorems.proofs.SameLines.{same_lines}
use Rattle.definition.specs.Build.{Outcome, report, reported, refusal, placed, outcome_of, after_check, built}
use Rattle.definition.specs.Relabeled.{relabeled, Apart, AlikeBlocks, alike_blocks, visits_after}
use Rattle.theorems.specs.LabelsThere.{LabelsThere}
use Rattle.theorems.specs.Parted.{Parted, refused_alike, unnamed, relabeled_alike}
use Rattle.definition.proofs.Checked.{of_check, Coded, coded}
use Rattle.definition.proofs.Steps.{of_paper}
use Rattle.definition.proofs.Never.{never_of_paper}
use Rattle.definition.proofs.RustCodes.{rust_never_29}
use Rattle.definition.proofs.Parting.{differs_only_so}
use Rattle.definition.proofs.PartingRows.{rows_part}
use Rattle.definition.proofs.Labels.{tree_named}
use Rattle.definition.proofs.Accepted.{Accepted, accepted_of, rows_of_buffer}

-- ---- "differs only as follows"

module _ (words : List ℕ) (lent lent_index : ℕ) where
  placed_visits : (list : List Row) (index : List Line) (visits : ℕ) → (placed lent lent_index list index visits).visits ≡ visits
  unfolding placed refusal
  placed_visits list index visits = by (leb (length list) (lent / 6)) (leb (length index) (lent_index / 3)) refl refl
    where
      by : (y z : Bool) → leb (length list) (lent / 6) ≡ y → leb (length index) (lent_index / 3) ≡ z → (placed lent lent_index list index visits).visits ≡ visits
      by true true e f = rw (e, f, placed)
      by true false e f = rw (e, f, placed)
      by false z e f = rw (e, placed)

  -- `some` says that a refusal has a number
  results_part : (m n : Result BlockResult) → ((code at visits : ℕ) → m ≡ refused code at visits → code ≡ 0 → ⊥) → Apart (AlikeBlocks []) visits_after m n
      → Parted lent lent_index (outcome_of lent lent_index (reported m)) (outcome_of lent lent_index (reported n))
  unfolding outcome_of reported refusal
  results_part (ok a) (ok b) some (alike_blocks first cx) =
      subst (λ (z : List Line). Parted lent lent_index (placed lent lent_index (rows first) (lines first) cx.visits) (placed lent lent_index (rows (relabeled [] first)) z cx.visits))
      (same_lines [] first) (relabeled_alike first cx.visits (rows_part [] first))
  results_part (ok a) (refused code at visits) some e =
      let given : Outcome = placed lent lent_index (rows a.statements) (lines a.statements) (visits_after a) in
      let fewer : visits ≤ given.visits = rw (placed_visits (rows a.statements) (lines a.statements) (visits_after a)) e.1 in
      rw e.0 (unnamed given at visits fewer)
  results_part (refused code at visits) (ok b) some e = absurd e
  results_part (refused code at visits) (refused code' at' visits') some e =
      ⊎_elim (λ q. rw (sym q.0, sym q.1, sym q.2) (refused_alike (refusal code at 0 visits lent lent_index) (some code at visits refl)))
      (λ q. rw q.0 (unnamed _ at' visits' q.1)) e

  -- no table, and no word, is refused with 0
  some_number : (code at visits : ℕ) → build_tree rust (table_of words) ≡ refused code at visits → code ≡ 0 → ⊥
  unfolding report reported
  some_number code at visits e z = subst (λ (n : ℕ). T (of_paper n)) z (never_of_paper rust (table_of words) code at visits (ap reported e))

  pub entries_part : Parted lent lent_index (built rust words lent lent_index) (built language words lent lent_index)
  unfolding built after_check report refusal
  entries_part = at (checked words) refl
    where
      at : (v : Verdict) → checked words ≡ v → Parted lent lent_index (after_check rust lent lent_index v words) (after_check language lent lent_index v words)
      at check.accepted e = results_part (build_tree rust (table_of words)) (build_tree language (table_of words)) some_number (differs_only_so (table_of words))
      at (check.refused code place) e = refused_alike _ (λ h. let c : T (of_check code) = subst Coded e (coded words) in subst (λ (n : ℕ). T (of_check n)) h c)

  -- ---- the first entry never gives 29

  placed_code : (list : List Row) (index : List Line) (visits : ℕ) → (placed lent lent_index list index visits).code ≡ 29 → ⊥
  unfolding placed refusal
  placed_code list index visits = by (leb (length list) (lent / 6)) (leb (length index) (lent_index / 3)) refl refl
    where
      by : (y z : Bool) → leb (length list) (lent / 6) ≡ y → leb (length index) (lent_index / 3) ≡ z → (placed lent lent_index list index visits).code ≡ 29 → ⊥
      by true true e f h = let q : ◌≡◌ {A = ℕ} 0 29 = rw (e, f, placed) at h in omega (arith, q)
      by true false e f h = let q : ◌≡◌ {A = ℕ} 41 29 = rw (e, f, placed) at h in omega (arith, q)
      by false z e f h = let q : ◌≡◌ {A = ℕ} 40 29 = rw (e, placed) at h in omega (arith, q)

  pub first_never_29 : (built rust words lent lent_index).code ≡ 29 → ⊥
  unfolding built after_check report reported outcome_of refusal
  first_never_29 = at (checked words) refl
    where
      result : (m : Result BlockResult) → build_tree rust (table_of words) ≡ m → (outcome_of lent lent_index (reported m)).code ≡ 29 → ⊥
      result (ok root) e h = placed_code (rows root.statements) (lines root.statements) root.context.visits h
      result (refused code at visits) e h = rust_never_29 (table_of words) at visits (e ∙ ap (λ (c : ℕ). refused c at visits) h)

      at : (v : Verdict) → checked words ≡ v → (after_check rust lent lent_index v words).code ≡ 29 → ⊥
      at check.accepted e h = result (build_tree rust (table_of words)) refl h
      at (check.refused code place) e h = let c : T (of_check code) = subst Coded e (coded words) in subst (λ (n : ℕ). T (of_check n)) h c

-- ---- M-107, and "A jump that comes out Labeled must name the label of a statement around it, and a continue the label of the very loop it resolved to."

pub labels_there : (rule : Rule) (words : List ℕ) (lent lent_index : ℕ) → (built rule words lent lent_index).code ≡ 0
    → LabelsThere rule (built rule words lent lent_index)
labels_there rule words lent lent_index h =
    let a : Accepted rule words lent lent_index = accepted_of rule words lent lent_index h in
    record { root = a.root.statements; held = rows_of_buffer rule words lent lent_index a; named = tree_named rule (table_of words) a.root a.builds }
