-- The first row that is not run; a refusal.
use mathlib.Core.Path.{◌≡◌, refl, sym, ap}
use Prim.Native.Nat.{ℕ, zero, suc, ◌+◌, ◌<◌, ◌≤◌}
use native.Mathlib.Omega.{arith}
use mathlib.Core.List.{List}
use mathlib.Core.Bool.{Bool, true, false}
use lib.Dec.{eqb}
use borrow.Author.Tests.{eqb-true, eqb-false}
use Rattle.std.specs.Prelude.{Option, Some, None, MatchOption}
use Rattle.tree_check.specs.Found.{word_at}
use Rattle.tree_runs.specs.Ran.{not_run}
use Rattle.tree_run.specs.Holds.{not_run_from}

module _ (words : List ℕ) where
  abbrev pub Runs : ℕ → Type 0
  Runs row = false ≡ not_run (word_at words row 0)

  abbrev pub Stops : ℕ → Type 0
  Stops row = true ≡ not_run (word_at words row 0)

  none_stops : (i count : ℕ) → ((k : ℕ) → i ≤ k → k < i + count → Runs k) → None ≡ not_run_from words i count
  unfolding not_run_from
  none_stops i zero h = refl
  none_stops i (suc count) h = rw (← h i (omega arith) (omega arith), not_run_from) (none_stops (suc i) count (λ k a b. h k (omega (arith, a)) (omega (arith, b))))

  first_stops : (i count row : ℕ) → i ≤ row → row < i + count → Stops row → ((k : ℕ) → i ≤ k → k < row → Runs k) → Some row ≡ not_run_from words i count
  unfolding not_run_from
  first_stops i zero row a b s h = absurd (omega (arith, a, b))
  first_stops i (suc count) row a b s h = by (λ l. first_stops (suc i) count row l (omega (arith, b)) s (λ k c d. h k (omega (arith, c)) d)) (eqb i row) refl
    where
      by : (suc i ≤ row → Some row ≡ not_run_from words (suc i) count) → (y : Bool) → eqb i row ≡ y → Some row ≡ not_run_from words i (suc count)
      by later true e =
          let z : i ≡ row = eqb-true i row e in
          let here : Stops i = rw z s in
          rw (← here, not_run_from) (ap Some (sym z))
      by later false e = let l : suc i ≤ row = omega (arith, a, eqb-false i row e) in rw (← h i (omega arith) l, not_run_from) (later l)

  pub sought : (rows : ℕ) (found : Option ℕ)
      → MatchOption found ((k : ℕ) → 0 ≤ k → k < rows → Runs k) (λ i. (0 ≤ i) × (i < rows) × Stops i × ((k : ℕ) → 0 ≤ k → k < i → Runs k))
      → found ≡ not_run_from words 0 rows
  sought rows None h = none_stops 0 rows (λ k a b. h k a (omega (arith, b)))
  sought rows (Some row) h = first_stops 0 rows row h.0 (omega (arith, h.1)) h.2 h.3
