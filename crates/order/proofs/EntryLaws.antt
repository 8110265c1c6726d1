-- From the words written to the operations of the definition.
use mathlib.Core.Path.{◌≡◌, refl, sym, ◌∙◌, fun_ext}
use Prim.Native.Nat.{ℕ, ◌<◌, ◌≤◌}
use native.Mathlib.Omega.{arith}
use mathlib.Core.List.{List}
use mathlib.Core.Bool.{Bool, true, false}
use lib.ListN.{length, get_or, take, replicate, get_or-eq_default}
use lib.Seq.{length-take-le, get_or-take}
use lib.Dec.{ltb}
use borrow.Author.Tests.{ltb-true, ltb-false}
use Rattle.table.specs.Words.{block_count}
use Rattle.table.specs.Table.{table_of}
use Rattle.table.specs.Promise.{Promise}
use Rattle.renaming.specs.Renaming.{Renaming, renamed}
use Rattle.renaming.specs.Order.{is_permutation, old_number, new_number, walking_order, rearranged, restored_by, refused_rearrangement, refused_restoration}
use Rattle.renaming.proofs.Alike.{new_below}
use Rattle.renaming.proofs.Permutations.{get_d_any, in_place, Permutes, permutes, renaming_of}
use Rattle.renaming.proofs.OrderLaws.{walking_order_lem}
use Rattle.order.specs.Queue.{Numbers}
use Rattle.order.specs.declared.OrderError.{OrderError}
use Rattle.order.specs.Entry.{rearranging, restoring, rearranged_or_cleared, restored_or_cleared}
use Rattle.definition.proofs.Steps.{true_false}
use Rattle.std.proofs.Common.{Result, Ok, Err, is_err}
use Rattle.order.specs.Write.{number_in, renumbered, Numbering}

-- ---- a list that has numbers

pub few_blocks : (n : ℕ) (list : List ℕ) → n ≤ 1024 → is_permutation n list ≡ true → length list ≤ 1024
few_blocks n list few is = omega (arith, (permutes n list is).long)

-- there are as many new numbers at least
pub few_numbers : (list : List ℕ) {new : List ℕ} → Numbers list new → length list ≤ 1024 → length list ≤ length new
few_numbers list numbers few = omega (arith, numbers.wide, few)

pub own_blocks : (n : ℕ) (list : List ℕ) → is_permutation n list ≡ true → is_permutation (length list) list ≡ true
own_blocks n list is = rw (permutes n list is).long is

pub order_is : (ws list : List ℕ) → Promise ws → list ≡ walking_order (table_of ws) → is_permutation (block_count ws) list ≡ true
order_is ws list promise e = rw e (walking_order_lem ws promise)

-- ---- the numbers, by the list and by the places

module _ (n : ℕ) (list new : List ℕ) (p : Permutes n list) (numbers : Numbers list new) where
  renames : Renaming n (new_number list) (old_number list)
  renames = renaming_of n list p

  -- the new numbers as they are lent: those of the list's blocks alone
  abbrev lent : List ℕ
  lent = take (length list) new

  lent_long : n ≤ 1024 → length lent ≡ n
  lent_long few = length-take-le (length list) new (omega (arith, numbers.wide, p.long)) ∙ p.long

  new_numbers : n ≤ 1024 → number_in lent ≡ new_number list
  unfolding number_in
  new_numbers few = fun_ext (λ b. by b (ltb b n) refl)
    where
      by : (b : ℕ) (y : Bool) → ltb b n ≡ y → get_or lent b b ≡ new_number list b
      by b true e =
          let less : b < length list = omega (arith, ltb-true b n e, p.long) in
          get_d_any lent b b 0 (omega (arith, lent_long few, ltb-true b n e)) ∙ (get_or-take (length list) new b 0 less ∙ numbers.are b less)
      by b false e = get_or-eq_default lent b (omega (arith, ltb-false b n e, lent_long few)) ∙ sym (renames.beyond b (ltb-false b n e))

  old_numbers : number_in list ≡ old_number list
  unfolding number_in old_number
  old_numbers = refl

  list_below : (i : ℕ) → i < n → get_or list i 0 < n
  list_below i h = p.below (get_or list i 0) (in_place list i 0 (omega (arith, p.long)))

  new_small : (b : ℕ) → b < n → get_or lent b 0 < n
  new_small b h =
      rw (get_or-take (length list) new b 0 (omega (arith, p.long)), numbers.are b (omega (arith, p.long))) (new_below n (new_number list) (old_number list) renames n (omega arith) b h)

module _ (ws list new : List ℕ) (promise : Promise ws) (p : Permutes (block_count ws) list) (numbers : Numbers list new) where
  abbrev few : block_count ws ≤ 1024
  few = promise.sized.limited.blocks

  pub numbering_new : Numbering ws (take (length list) new) list
  numbering_new = record { named = lent_long (block_count ws) list new p numbers few; rowed = p.long; there = list_below (block_count ws) list new p numbers }

  pub numbering_first : Numbering ws list (take (length list) new)
  numbering_first = record { named = p.long; rowed = lent_long (block_count ws) list new p numbers few; there = new_small (block_count ws) list new p numbers }

  pub is_restored : renumbered ws list (take (length list) new) ≡ restored_by list ws
  unfolding renumbered restored_by
  is_restored = rw (new_numbers (block_count ws) list new p numbers few, old_numbers (block_count ws) list new p numbers)

  is_new : renumbered ws (take (length list) new) list ≡ renamed (new_number list) (old_number list) ws
  unfolding renumbered
  is_new = rw (new_numbers (block_count ws) list new p numbers few, old_numbers (block_count ws) list new p numbers)

pub order_permutes : (ws list : List ℕ) → Promise ws → list ≡ walking_order (table_of ws) → Permutes (block_count ws) list
order_permutes ws list promise e = permutes (block_count ws) list (order_is ws list promise e)

pub is_rearranged : (ws list new : List ℕ) (promise : Promise ws) (e : list ≡ walking_order (table_of ws)) (numbers : Numbers list new) → renumbered ws (take (length list) new) list ≡ rearranged ws
unfolding rearranged
is_rearranged ws list new promise e numbers = is_new ws list new promise (order_permutes ws list promise e) numbers ∙ rw e

-- ---- refusals

pub cleared_both : (answer : Result (Unit {0}) OrderError) → is_err answer ≡ true → (table₀ list₀ : List ℕ) {table list : List ℕ} → table ≡ replicate (length table₀) 0
    → list ≡ replicate (length list₀) 0 → rearranging answer table list ≡ rearranged_or_cleared answer table₀ list₀
unfolding refused_rearrangement
cleared_both (Ok _) e table₀ list₀ f g = absurd (true_false (sym e))
cleared_both (Err error) e table₀ list₀ f g = rw (f, g)

pub cleared_one : (answer : Result (Unit {0}) OrderError) → is_err answer ≡ true → (table₀ : List ℕ) {table : List ℕ} → table ≡ replicate (length table₀) 0
    → restoring answer table ≡ restored_or_cleared answer table₀
unfolding refused_restoration
cleared_one (Ok _) e table₀ f = absurd (true_false (sym e))
cleared_one (Err error) e table₀ f = rw f
