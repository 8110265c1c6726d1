-- Where an answer leads.
use mathlib.Core.Path.{◌≡◌, refl, ◌∙◌}
use Prim.Native.Nat.{ℕ, zero, suc, ◌+◌, ◌-◌, ◌<◌, ◌≤◌}
use native.Mathlib.Omega.{arith}
use mathlib.Core.List.{List, []}
use mathlib.Core.Option.{none, some}
use lib.ListN.{get_or}
use native.Mathlib.Numerals.{add-one}
use Rattle.tree_runs.specs.Links.{Links, before, cases_back}
use Rattle.tree_runs.specs.Machine.{case_at}
use Rattle.tree_run.specs.Holds.{back_by}

-- ---- the case at a place

pub before_is : (n : ℕ) → n - 1 ≡ before n
before_is zero = omega arith
before_is (suc n) = omega arith

pub back_more : (begin : List ℕ) (left more row row' : ℕ) → left ≡ more + 1 → row' ≡ before (get_or begin row 0) → back_by begin left row ≡ back_by begin more row'
back_more begin left more row row' e q = rw (e, add-one more, q) refl

module _ (t : Links) where
  pub case_there : (begin : List ℕ) → t.begin ≡ (λ k. get_or begin k 0) → (count m place : ℕ) (later : List ℕ) → place < count
      → case_at (cases_back t count m later) place ≡ some (back_by begin place m)
  case_there begin e zero m place later h = absurd (omega arith)
  case_there begin e (suc count) m zero later h = refl
  case_there begin e (suc count) m (suc place) later h =
      case_there begin e count (before (t.begin m)) place later (omega arith) ∙ rw e refl

  pub case_beyond : (count m place : ℕ) → count ≤ place → case_at (cases_back t count m []) place ≡ none
  case_beyond zero m place h = refl
  case_beyond (suc count) m zero h = absurd (omega arith)
  case_beyond (suc count) m (suc place) h = case_beyond count (before (t.begin m)) place (omega arith)
