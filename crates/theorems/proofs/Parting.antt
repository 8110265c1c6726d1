-- M-102, what a caller of both entries sees, from `Parted`: where the first entry refuses, and where it accepts.
use mathlib.Core.Path.{◌≡◌, refl, sym, ap, ◌∙◌}
use Prim.Native.Nat.{ℕ, ◌/◌, ◌≤◌}
use native.Mathlib.Omega.{arith}
use mathlib.Core.List.{List, []}
use mathlib.Core.Logic.{◌⊎◌, inl, inr}
use mathlib.Core.Bool.{Bool, true, false}
use lib.Dec.{leb}
use lib.ListN.{length}
use Rattle.definition.specs.Around.{rust, language}
use Rattle.definition.specs.Tree.{Statements, Row, rows}
use Rattle.definition.specs.Relabeled.{relabeled}
use Rattle.definition.specs.Index.{Line, lines}
use Rattle.definition.specs.Build.{Outcome, refusal, placed, built}
use Rattle.definition.specs.RelabeledRows.{RelabeledRows}
use Rattle.definition.proofs.PartingRows.{as_many_rows}
use Rattle.theorems.specs.Answered.{acceptance}
use Rattle.theorems.specs.Parted.{Parted, refused_alike, unnamed, relabeled_alike, Unnamed, AcceptedAlike}
use Rattle.theorems.proofs.Language.{entries_part}

module _ (lent lent_index : ℕ) where
  module _ (list : List Row) (index : List Line) (visits : ℕ) where
    fits_placed : leb (length list) (lent / 6) ≡ true → leb (length index) (lent_index / 3) ≡ true → placed lent lent_index list index visits ≡ acceptance lent lent_index list index visits
    unfolding placed
    fits_placed e f = rw (e, f, placed)

    full_index : leb (length list) (lent / 6) ≡ true → leb (length index) (lent_index / 3) ≡ false → placed lent lent_index list index visits ≡ refusal 41 0 0 visits lent lent_index
    unfolding placed
    full_index e f = rw (e, f, placed)

    full_placed : leb (length list) (lent / 6) ≡ false → placed lent lent_index list index visits ≡ refusal 40 0 (length list) visits lent lent_index
    unfolding placed
    full_placed e = rw (e, placed)

  refusal_29 : (outcome : Outcome) (at visits : ℕ) → visits ≤ outcome.visits → Unnamed outcome (refusal 29 at 0 visits lent lent_index)
  unfolding refusal
  refusal_29 outcome at visits h = record { code = refl; fewer = h }

  refused_some : (code at rows visits : ℕ) → 1 ≤ code → (refusal code at rows visits lent lent_index).code ≡ 0 → ⊥
  unfolding refusal
  refused_some code at rows visits some e = omega (arith, some, e)

  -- rows that fit, and rows or lines that do not
  module _ (root : Statements) (visits : ℕ) (p : RelabeledRows (rows root) (rows (relabeled [] root))) where
    abbrev list : List Row
    list = rows root

    abbrev list' : List Row
    list' = rows (relabeled [] root)

    abbrev index : List Line
    index = lines root

    many : length list' ≡ length list
    many = as_many_rows list list' p

    placed_refused : ((placed lent lent_index list index visits).code ≡ 0 → ⊥) → placed lent lent_index list' index visits ≡ placed lent lent_index list index visits
    placed_refused h = by (leb (length list) (lent / 6)) refl (leb (length index) (lent_index / 3)) refl
      where
        by : (fits : Bool) → leb (length list) (lent / 6) ≡ fits → (indexed : Bool) → leb (length index) (lent_index / 3) ≡ indexed
            → placed lent lent_index list' index visits ≡ placed lent lent_index list index visits
        by true e true f = absurd (h (ap (λ (o : Outcome). o.code) (fits_placed list index visits e f)))
        by true e false f = full_index list' index visits (rw many e) f ∙ sym (full_index list index visits e f)
        by false e indexed f =
            full_placed list' index visits (rw many e) ∙ ap (λ (n : ℕ). refusal 40 0 n visits lent lent_index) many ∙ sym (full_placed list index visits e)

    placed_accepted : (placed lent lent_index list index visits).code ≡ 0
        → AcceptedAlike lent lent_index (placed lent lent_index list index visits) (placed lent lent_index list' index visits)
    placed_accepted h = by (leb (length list) (lent / 6)) refl (leb (length index) (lent_index / 3)) refl
      where
        by : (fits : Bool) → leb (length list) (lent / 6) ≡ fits → (indexed : Bool) → leb (length index) (lent_index / 3) ≡ indexed
            → AcceptedAlike lent lent_index (placed lent lent_index list index visits) (placed lent lent_index list' index visits)
        by true e true f = record {
          root = root;
          visits = visits;
          rows = p;
          is = fits_placed list index visits e f;
          is' = fits_placed list' index visits (rw many e) f;
        }
        by true e false f = absurd (refused_some 41 0 0 visits (omega arith) (sym (ap (λ (o : Outcome). o.code) (full_index list index visits e f)) ∙ h))
        by false e indexed f = absurd (refused_some 40 0 (length list) visits (omega arith) (sym (ap (λ (o : Outcome). o.code) (full_placed list index visits e)) ∙ h))

  refused_part : (first second : Outcome) → Parted lent lent_index first second → (first.code ≡ 0 → ⊥) → (second ≡ first) ⊎ Unnamed first second
  refused_part first second (refused_alike outcome some) h = inl refl
  refused_part first second (unnamed outcome at visits fewer) h = inr (refusal_29 outcome at visits fewer)
  refused_part first second (relabeled_alike root visits p) h = inl (placed_refused root visits p h)

  accepted_part : (first second : Outcome) → Parted lent lent_index first second → first.code ≡ 0 → AcceptedAlike lent lent_index first second ⊎ Unnamed first second
  accepted_part first second (refused_alike outcome some) h = absurd (some h)
  accepted_part first second (unnamed outcome at count fewer) h = inr (refusal_29 outcome at count fewer)
  accepted_part first second (relabeled_alike root count p) h = inl (placed_accepted root count p h)

module _ (words : List ℕ) (lent lent_index : ℕ) where
  pub where_refused : ((built rust words lent lent_index).code ≡ 0 → ⊥)
      → (built language words lent lent_index ≡ built rust words lent lent_index) ⊎ Unnamed (built rust words lent lent_index) (built language words lent lent_index)
  where_refused h = refused_part lent lent_index _ _ (entries_part words lent lent_index) h

  pub where_accepted : (built rust words lent lent_index).code ≡ 0
      → AcceptedAlike lent lent_index (built rust words lent lent_index) (built language words lent lent_index)
      ⊎ Unnamed (built rust words lent lent_index) (built language words lent lent_index)
  where_accepted h = accepted_part lent lent_index _ _ (entries_part words lent lent_index) h
