-- The walk, place by place.
use mathlib.Core.Path.{◌≡◌, refl, sym, ap, ◌∙◌}
use Prim.Native.Nat.{ℕ, zero, suc, ◌+◌, ◌-◌, ◌<◌, ◌≤◌}
use native.Mathlib.Omega.{arith}
use native.Mathlib.Nat.{sub-zero}
use native.Mathlib.Numerals.{add-one}
use mathlib.Core.List.{List, [], ◌∷◌, ◌++◌}
use mathlib.Core.Bool.{true}
use lib.ListN.{length, get_or, length-append}
use lib.Dec.{ltb}
use borrow.Author.Tests.{lt-ltb, le-ltb}
use Rattle.table.specs.Words.{entry_word, block_count}
use Rattle.table.specs.Table.{Table, table_of, rows_from}
use Rattle.table.specs.Promise.{Promise}
use Rattle.table.proofs.TableLaws.{length_blocks}
use Rattle.table.proofs.BlockLaws.{length_rows}
use Rattle.table.specs.Lines.{named_at}
use Rattle.renaming.specs.Order.{all_below, none_twice, with_named, walk_from, walking_order}
use Rattle.renaming.proofs.Permutations.{both_and, pick_true, pick_false, fits_in, in_rows, in_place, below_of, permutes}
use Rattle.renaming.proofs.OrderLaws.{with_step, with_once, with_below, named_here, walking_order_lem}

module _ (t : Table) where
  walk_more : (places place : ℕ) (found : List ℕ) → place < length found
      → walk_from t (suc places) place found ≡ walk_from t places (suc place) (with_named found (named_at t (get_or found place 0)))
  unfolding walk_from
  walk_more places place found h = pick_true (ltb place (length found)) _ _ (lt-ltb place (length found) h)

  walk_done : (places place : ℕ) (found : List ℕ) → length found ≤ place → walk_from t places place found ≡ found
  unfolding walk_from
  walk_done zero place found h = refl
  walk_done (suc places) place found h = pick_false (ltb place (length found)) _ _ (le-ltb place (length found) h)

with_longer : (found names : List ℕ) → length found ≤ length (with_named found names)
with_longer found [] = omega arith
with_longer found (b ∷ names) =
    with_step (λ l. length found ≤ length l) found b names (λ e. with_longer found names) (λ e. omega (arith, with_longer (found ++ (b ∷ [])) names, length-append found (b ∷ [])))

-- the blocks before `place` have named theirs
pub record Walked (t : Table) (n : ℕ) (begin list : List ℕ) (place : ℕ) : Type 0 where
  pub below : all_below n list ≡ true
  pub once : none_twice list ≡ true
  pub past : place ≤ length list
  pub rest : walk_from t n 0 begin ≡ walk_from t (n - place) place list

-- the entry has been named
pub walked_first : (ws : List ℕ) → Promise ws → {none list : List ℕ} {entry : ℕ} → none ≡ [] → entry ≡ entry_word ws → list ≡ with_named none (entry ∷ [])
    → Walked (table_of ws) (block_count ws) ((table_of ws).entry ∷ []) list 0
unfolding table_of
walked_first ws p {none} {list} {entry} empty is e = rw (first) (record {
  below = both_and (lt-ltb (entry_word ws) (block_count ws) p.entry) refl;
  once = refl;
  past = omega arith;
  rest = rw sub-zero;
})
  where
    first : list ≡ entry_word ws ∷ []
    first = e ∙ (ap (λ (l : List ℕ). with_named l (entry ∷ [])) empty ∙ ap (λ (z : ℕ). z ∷ []) is)

module _ (t : Table) (n : ℕ) (begin : List ℕ) {list : List ℕ} {place : ℕ} (w : Walked t n begin list place) where
  pub walked_few : length list ≤ n
  walked_few =
      let inside = fits_in list (rows_from 0 n) w.once (λ b h. in_rows 0 n b (omega arith) (omega (arith, below_of n list w.below b h))) in
      omega (arith, length_rows 0 n)

  pub walked_block : place < length list → {row : ℕ} → get_or list place 0 ≡ row → row < n
  walked_block less is = rw (← is) (below_of n list w.below (get_or list place 0) (in_place list place 0 less))

  pub walked_next : place < length list → {row : ℕ} → get_or list place 0 ≡ row → {list' : List ℕ} → list' ≡ with_named list (named_at t row)
      → all_below n (named_at t row) ≡ true → Walked t n begin list' (place + 1)
  walked_next less {row} is e names = rw e (record {
    below = with_below n list (named_at t row) w.below names;
    once = with_once list (named_at t row) w.once;
    past = omega (arith, with_longer list (named_at t row));
    rest =
        w.rest
        ∙ (ap (λ (z : ℕ). walk_from t z place list) some
        ∙ (walk_more t (n - (place + 1)) place list less
        ∙ rw (is, add-one place)));
  })
    where
      some : n - place ≡ suc (n - (place + 1))
      some = omega (arith, walked_few, less)

  pub walked_all : length list ≤ place → list ≡ walk_from t n 0 begin
  walked_all past = sym (w.rest ∙ walk_done t (n - place) place list past)

-- ---- the whole order

pub names_below : (ws : List ℕ) → Promise ws → (row : ℕ) → all_below (block_count ws) (named_at (table_of ws) row) ≡ true
names_below ws p row = rw (length_blocks ws) at (named_here ws p row)

pub in_order : (ws : List ℕ) {walked list : List ℕ} → walked ≡ walk_from (table_of ws) (block_count ws) 0 ((table_of ws).entry ∷ [])
    → list ≡ with_named walked (rows_from 0 (block_count ws)) → list ≡ walking_order (table_of ws)
unfolding walking_order
in_order ws e f = rw (f, e, length_blocks ws)

pub order_long : (ws : List ℕ) → Promise ws → length (walking_order (table_of ws)) ≡ block_count ws
order_long ws p = (permutes (block_count ws) (walking_order (table_of ws)) (walking_order_lem ws p)).long
