-- From a row's terminal to the blocks that it names.
use mathlib.Core.Path.{◌≡◌, refl, ap, sym}
use mathlib.Core.List.{List, [], ◌∷◌, ◌++◌}
use mathlib.Core.Option.{none, some}
use Prim.Native.Nat.{ℕ, zero, suc, ◌+◌, ◌<◌, ◌≤◌}
use native.Mathlib.Omega.{arith}
use native.Mathlib.Numerals.{add-one}
use lib.ListN.{length, get_or, take, drop, length-drop}
use lib.Seq.{take-suc, get_or-drop}
use Rattle.std.specs.Prelude.{Option, Some, None}
use Rattle.table.proofs.TableLaws.{length_cases}
use Rattle.table.specs.Words.{block_count, case_count}
use Rattle.table.specs.Table.{Table, Case, Terminal, absent, unreachable, throw, return, goto, if, branch, switch, do_while, while, for, for_of, for_in}
use Rattle.table.specs.Table.{logical, ternary, optional, label, sequence, maybe_throw, try, scope, table_of}
use Rattle.table.specs.Promise.{Ends, Chooses}
use Rattle.table.specs.Lines.{case_blocks, named_by}
use Rattle.table.specs.Named.{AllBelow, Names, names_of, present}
use Rattle.table.specs.declared.lines.Named.{Named}

-- the list made of a terminal is what the terminal names
listed_by : (t : Table) (end : Terminal) → named_by t end ≡ case_blocks (take (names_of end).cases (drop (names_of end).first_case t.cases)) ++ present (names_of end).blocks
unfolding named_by
listed_by t absent = refl
listed_by t unreachable = refl
listed_by t (throw value) = refl
listed_by t (return value) = refl
listed_by t (goto block variant) = refl
listed_by t (if test consequent alternate fallthrough) = refl
listed_by t (branch test consequent alternate) = refl
listed_by t (switch test first number fallthrough) = refl
listed_by t (do_while loop test fallthrough) = refl
listed_by t (while test loop fallthrough) = refl
listed_by t (for init test none loop fallthrough) = refl
listed_by t (for init test (some update) loop fallthrough) = refl
listed_by t (for_of init test loop fallthrough) = refl
listed_by t (for_in init loop fallthrough) = refl
listed_by t (logical operator test fallthrough) = refl
listed_by t (ternary test fallthrough) = refl
listed_by t (optional flag test fallthrough) = refl
listed_by t (label block fallthrough) = refl
listed_by t (sequence block fallthrough) = refl
listed_by t (maybe_throw continuation) = refl
listed_by t (try block handler fallthrough binding) = refl
listed_by t (scope pruned block fallthrough number) = refl

module _ {ws : List ℕ} {row : ℕ} where
  within_by : (end : Terminal) → Ends ws row end → (names_of end).first_case + (names_of end).cases ≤ case_count ws
  within_by absent h = omega arith
  within_by unreachable h = omega arith
  within_by (throw value) h = omega arith
  within_by (return value) h = omega arith
  within_by (goto block variant) h = omega arith
  within_by (if test consequent alternate fallthrough) h = omega arith
  within_by (branch test consequent alternate) h = omega arith
  within_by (switch test first number fallthrough) h = h.named.1
  within_by (do_while loop test fallthrough) h = omega arith
  within_by (while test loop fallthrough) h = omega arith
  within_by (for init test update loop fallthrough) h = omega arith
  within_by (for_of init test loop fallthrough) h = omega arith
  within_by (for_in init loop fallthrough) h = omega arith
  within_by (logical operator test fallthrough) h = omega arith
  within_by (ternary test fallthrough) h = omega arith
  within_by (optional flag test fallthrough) h = omega arith
  within_by (label block fallthrough) h = omega arith
  within_by (sequence block fallthrough) h = omega arith
  within_by (maybe_throw continuation) h = omega arith
  within_by (try block handler fallthrough binding) h = omega arith
  within_by (scope pruned block fallthrough number) h = omega arith

  below_by : (end : Terminal) → Ends ws row end → AllBelow (block_count ws) (present (names_of end).blocks)
  below_by absent h = tt
  below_by unreachable h = tt
  below_by (throw value) h = tt
  below_by (return value) h = tt
  below_by (goto block variant) h = omega (arith, h.named)
  below_by (if test consequent alternate fallthrough) h = omega (arith, h.named)
  below_by (branch test consequent alternate) h = omega (arith, h.named)
  below_by (switch test first number fallthrough) h = omega (arith, h.named)
  below_by (do_while loop test fallthrough) h = omega (arith, h.named)
  below_by (while test loop fallthrough) h = omega (arith, h.named)
  below_by (for init test none loop fallthrough) h = omega (arith, h.named)
  below_by (for init test (some update) loop fallthrough) h = omega (arith, h.named)
  below_by (for_of init test loop fallthrough) h = omega (arith, h.named)
  below_by (for_in init loop fallthrough) h = omega (arith, h.named)
  below_by (logical operator test fallthrough) h = omega (arith, h.named)
  below_by (ternary test fallthrough) h = omega (arith, h.named)
  below_by (optional flag test fallthrough) h = omega (arith, h.named)
  below_by (label block fallthrough) h = omega (arith, h.named)
  below_by (sequence block fallthrough) h = omega (arith, h.named)
  below_by (maybe_throw continuation) h = omega (arith, h.named)
  below_by (try block handler fallthrough binding) h = omega (arith, h.named)
  below_by (scope pruned block fallthrough number) h = omega (arith, h.named)

  -- and so the list made of a row's terminal is what the row names
  pub names_by : {end : Terminal} {named : Named} → Ends ws row end → named ≡ names_of end → Names ws row named
  names_by {end} h made = rw made (record { few = h.few; is = ap names_of (sym h.is); are = rw h.is (listed_by (table_of ws) end); within = within_by end h; below = below_by end h })

-- ---- the list read from its begin: one case row more, one block more

cases_then : (cases : List Case) (case : Case) → case_blocks (cases ++ (case ∷ [])) ≡ case_blocks cases ++ (case.block ∷ [])
cases_then [] case = refl
cases_then (first ∷ cases) case = ap (λ (l : List ℕ). first.block ∷ l) (cases_then cases case)

pub cases_next : (ws : List ℕ) (first k : ℕ) {test block : ℕ} → first + k < case_count ws → Chooses ws (first + k) test block
    → case_blocks (take (k + 1) (drop first (table_of ws).cases)) ≡ case_blocks (take k (drop first (table_of ws).cases)) ++ (block ∷ [])
cases_next ws first k {test} {block} inside h =
    let beyond : Case = record { test = 0; block = 0 } in
    let cases = drop first (table_of ws).cases in
    let there : k < length cases = omega (arith, length-drop first (table_of ws).cases, length_cases ws) in
    rw (add-one k, take-suc cases k beyond there, get_or-drop first (table_of ws).cases k beyond, h.is beyond) (cases_then (take k cases) (record { test = test; block = block }))

present_then : (blocks : List (Option ℕ)) (block : Option ℕ) → present (blocks ++ (block ∷ [])) ≡ present blocks ++ present (block ∷ [])
present_then [] block = refl
present_then (None ∷ blocks) block = present_then blocks block
present_then (Some first ∷ blocks) block = ap (λ (l : List ℕ). first ∷ l) (present_then blocks block)

pub present_next : (blocks : List (Option ℕ)) (i : ℕ) → i < length blocks → present (take (i + 1) blocks) ≡ present (take i blocks) ++ present (get_or blocks i None ∷ [])
present_next blocks i inside = rw (add-one i, take-suc blocks i None inside) (present_then (take i blocks) (get_or blocks i None))

-- each of the blocks is below what all are
pub below_at : (most : ℕ) (blocks : List (Option ℕ)) (i : ℕ) → i < length blocks → AllBelow most (present blocks) → AllBelow most (present (get_or blocks i None ∷ []))
below_at most [] i inside h = absurd (omega arith)
below_at most (None ∷ blocks) zero inside h = tt
below_at most (Some first ∷ blocks) zero inside h = (h.0, tt)
below_at most (None ∷ blocks) (suc i) inside h = below_at most blocks i (omega arith) h
below_at most (Some first ∷ blocks) (suc i) inside h = below_at most blocks i (omega arith) h.1

pub below_more : (few most : ℕ) → few ≤ most → (blocks : List ℕ) → AllBelow few blocks → AllBelow most blocks
below_more few most le [] h = tt
below_more few most le (block ∷ blocks) h = (omega (arith, h.0), below_more few most le blocks h.1)
