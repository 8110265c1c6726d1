-- A Switch's cases, one by one: forwards, where a part of them is left, and from the last on.
use mathlib.Core.Path.{◌≡◌, refl, sym, ap, ◌∙◌}
use Prim.Native.Nat.{ℕ, zero, suc, ◌+◌, ◌-◌, ◌<◌, ◌≤◌}
use native.Mathlib.Omega.{arith}
use mathlib.Core.List.{List, [], ◌∷◌, ◌++◌, reverse, reverse-cons, reverse-append}
use mathlib.Core.Bool.{Bool, true, false, not, ◌&&◌}
use lib.Dec.{eqb}
use lib.ListN.{length, get_or, take, drop, length-drop}
use lib.Seq.{take-suc, drop-cons, get_or-drop}
use borrow.Author.Tests.{eq-eqb, ne_eqb}
use Rattle.std.specs.List.{range_with_len, list_all, list_any}
use Rattle.table.specs.Words.{case_count}
use Rattle.table.specs.Table.{Table, Case, table_of}
use Rattle.table.specs.Promise.{Chooses}
use Rattle.table.proofs.TableLaws.{length_cases}
use Rattle.definition.specs.BlockRun.{case_list}
use Rattle.definition.specs.Completion.{contains}
use Rattle.definition.specs.Statement.{cases_last_first}
use Rattle.definition.specs.Plain.{blocks_of, different}
use Rattle.definition.specs.PlainLoops.{drop_own}
use Rattle.definition.specs.PlainTest.{all_of, last_is_own}

abbrev a_case : (test block : ℕ) → Case
a_case test block = record { test = test; block = block }

-- ---- forwards: what is asked of each row is asked of its case's block

abbrev pub block_at : Table → (row : ℕ) → ℕ
block_at t row = (get_or t.cases row (a_case 0 0)).block

pub block_chosen : {ws : List ℕ} {row test block : ℕ} → Chooses ws row test block → block_at (table_of ws) row ≡ block
block_chosen chosen = ap (λ (k : Case). k.block) (chosen.is (a_case 0 0))

module _ (ws : List ℕ) where
  first_of : (first rest : ℕ) → first + suc rest ≤ case_count ws
      → blocks_of (case_list (table_of ws) first (suc rest)) ≡ block_at (table_of ws) first ∷ blocks_of (case_list (table_of ws) (first + 1) rest)
  unfolding case_list
  first_of first rest h =
      let next : suc first ≡ first + 1 = omega arith in
      ap (λ (ks : List Case). blocks_of (take (suc rest) ks)) (drop-cons (table_of ws).cases first (a_case 0 0) (omega (arith, h, length_cases ws)))
      ∙ ap (λ (i : ℕ). block_at (table_of ws) first ∷ blocks_of (take rest (drop i (table_of ws).cases))) next

  pub all_rows : (p : ℕ → Bool) (first number : ℕ) → first + number ≤ case_count ws
      → list_all (λ row. p (block_at (table_of ws) row)) (range_with_len first number) ≡ all_of (blocks_of (case_list (table_of ws) first number)) p
  unfolding case_list
  all_rows p first zero h = refl
  all_rows p first (suc n) h = rw (all_rows p (first + 1) n (omega (arith, h)), first_of first n h) refl

  pub some_row : (block first number : ℕ) → first + number ≤ case_count ws
      → list_any (λ row. eqb (block_at (table_of ws) row) block) (range_with_len first number) ≡ contains (blocks_of (case_list (table_of ws) first number)) block
  unfolding case_list
  some_row block first zero h = refl
  some_row block first (suc n) h = rw (some_row block (first + 1) n (omega (arith, h)), first_of first n h) refl

  pub differ_rows : (end first number : ℕ) → first + number ≡ end → end ≤ case_count ws
      → list_all (λ row. not (contains (blocks_of (case_list (table_of ws) (row + 1) (end - (row + 1)))) (block_at (table_of ws) row))) (range_with_len first number)
      ≡ different (blocks_of (case_list (table_of ws) first number))
  unfolding case_list
  differ_rows end first zero e h = refl
  differ_rows end first (suc n) e h =
      let rest : end - (first + 1) ≡ n = omega (arith, e) in
      rw (rest, differ_rows end (first + 1) n (omega (arith, e)) h, first_of first n (omega (arith, e, h))) refl

-- ---- from the last on

module _ {ws : List ℕ} where
  last_of : (first left i : ℕ) {test block : ℕ} → i ≡ first + left → Chooses ws i test block → first + left < case_count ws
      → cases_last_first (table_of ws) first (suc left) ≡ a_case test block ∷ cases_last_first (table_of ws) first left
  unfolding cases_last_first
  last_of first left i {test} {block} at chosen h =
      let rows : List Case = drop first (table_of ws).cases in
      let long : left < length rows = omega (arith, h, length_cases ws, length-drop first (table_of ws).cases) in
      let one : get_or rows left (a_case 0 0) ≡ a_case test block =
      get_or-drop first (table_of ws).cases left (a_case 0 0) ∙ ap (λ (n : ℕ). get_or (table_of ws).cases n (a_case 0 0)) (sym at) ∙ chosen.is (a_case 0 0) in
      ap reverse (take-suc rows left (a_case 0 0) long) ∙ reverse-append (take left rows) (get_or rows left (a_case 0 0) ∷ [])
      ∙ ap (λ (k : Case). k ∷ reverse (take left rows)) one

pub last_own : {ws : List ℕ} {test block : ℕ} (first number f : ℕ) → first + number ≤ case_count ws → (number ≡ 0 → ⊥) → Chooses ws (first + (number - 1)) test block
    → eqb block f ≡ last_is_own f (cases_last_first (table_of ws) first number)
last_own first zero f h g chosen = absurd (g refl)
last_own first (suc n) f h g chosen = sym (ap (last_is_own f) (last_of first n (first + (suc n - 1)) (omega arith) chosen (omega (arith, h))))

pub last_none : (t : Table) (first number f : ℕ) → number ≡ 0 → false ≡ last_is_own f (cases_last_first t first number)
unfolding cases_last_first
last_none t first number f e = rw e refl

-- those at the end that are its own are dropped so far
pub record Dropped (ws : List ℕ) (f first number left : ℕ) : Type 0 where
  pub most : left ≤ number
  pub same : drop_own f (cases_last_first (table_of ws) first number) ≡ drop_own f (cases_last_first (table_of ws) first left)

drop_step : (t : Table) (f first n : ℕ) (test block : ℕ) → cases_last_first t first (suc n) ≡ a_case test block ∷ cases_last_first t first n → block ≡ f
    → drop_own f (cases_last_first t first (suc n)) ≡ drop_own f (cases_last_first t first n)
drop_step t f first n test block e h = ap (drop_own f) e ∙ rw (eq-eqb block f h) refl

drop_end : (t : Table) (f first n : ℕ) (test block : ℕ) → cases_last_first t first (suc n) ≡ a_case test block ∷ cases_last_first t first n → (block ≡ f → ⊥)
    → drop_own f (cases_last_first t first (suc n)) ≡ cases_last_first t first (suc n)
drop_end t f first n test block e h = ap (drop_own f) e ∙ (rw (ne_eqb block f h) refl) ∙ sym e

module _ {ws : List ℕ} {f first number : ℕ} (h : first + number ≤ case_count ws) where
  pub dropped_more : {left test block : ℕ} → Dropped ws f first number left → 0 < left → Chooses ws (first + (left - 1)) test block → block ≡ f
      → Dropped ws f first number (left - 1)
  dropped_more {left = zero} d g chosen e = absurd (omega (arith, g))
  dropped_more {left = suc n} {test = test} {block = block} d g chosen e = record {
    most = omega (arith, d.most);
    same = d.same ∙ drop_step (table_of ws) f first n test block (last_of first n (first + (suc n - 1)) (omega arith) chosen (omega (arith, h, d.most))) e
        ∙ ap (λ (i : ℕ). drop_own f (cases_last_first (table_of ws) first i)) (omega arith);
  }

  pub dropped_end : {left test block : ℕ} → Dropped ws f first number left → 0 < left → Chooses ws (first + (left - 1)) test block → (block ≡ f → ⊥)
      → drop_own f (cases_last_first (table_of ws) first number) ≡ cases_last_first (table_of ws) first left
  dropped_end {left = zero} d g chosen e = absurd (omega (arith, g))
  dropped_end {left = suc n} {test = test} {block = block} d g chosen e =
      d.same ∙ drop_end (table_of ws) f first n test block (last_of first n (first + (suc n - 1)) (omega arith) chosen (omega (arith, h, d.most))) e

pub dropped_all : {ws : List ℕ} {f first number left : ℕ} → Dropped ws f first number left → left ≤ 0
    → drop_own f (cases_last_first (table_of ws) first number) ≡ cases_last_first (table_of ws) first left
unfolding cases_last_first
dropped_all {left = zero} d h = d.same
dropped_all {left = suc n} d h = absurd (omega (arith, h))

-- ---- in either order

all_append : (xs : List Case) (k : Case) (p : ℕ → Bool) → all_of (blocks_of (xs ++ (k ∷ []))) p ≡ p k.block && all_of (blocks_of xs) p
all_append [] k p = refl
all_append (x ∷ xs) k p = ap (λ (b : Bool). p x.block && b) (all_append xs k p) ∙ swap (p x.block) (p k.block) (all_of (blocks_of xs) p)
  where
    swap : (a b c : Bool) → a && (b && c) ≡ b && (a && c)
    swap true true c = refl
    swap true false c = refl
    swap false true c = refl
    swap false false c = refl

all_reverse : (xs : List Case) (p : ℕ → Bool) → all_of (blocks_of (reverse xs)) p ≡ all_of (blocks_of xs) p
all_reverse [] p = refl
all_reverse (x ∷ xs) p =
    ap (λ (cs : List Case). all_of (blocks_of cs) p) (reverse-cons x xs) ∙ all_append (reverse xs) x p ∙ ap (λ (b : Bool). p x.block && b) (all_reverse xs p)

pub either_order : (t : Table) (first number : ℕ) (p : ℕ → Bool) → all_of (blocks_of (cases_last_first t first number)) p ≡ all_of (blocks_of (case_list t first number)) p
unfolding cases_last_first case_list
either_order t first number p = all_reverse (take number (drop first t.cases)) p
