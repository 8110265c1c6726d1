-- Where the walk names every block, all renumberings of a table have one rearrangement: "Stored tables of one component differ only by block numbers".
use mathlib.Core.Path.{◌≡◌, refl, sym, ap, ◌∙◌, subst}
use Prim.Native.Nat.{ℕ, zero, suc, ◌<◌, ◌≤◌}
use native.Mathlib.Omega.{arith}
use mathlib.Core.List.{List, [], ◌∷◌, ◌++◌, map, map-append}
use mathlib.Core.Option
use mathlib.Core.Option.{Option, none, some}
use mathlib.Core.Bool.{Bool, true, false}
use lib.ListN.{length, get_or, take, drop, length-map}
use lib.Dec.{eqb, ltb}
use borrow.Author.Tests.{ltb-true, ltb-false}
use Rattle.table.specs.Words.{entry_word, block_count, block_word, case_word}
use Rattle.table.specs.Check.{accepted, checked}
use Rattle.table.specs.Table.{Table, Block, Case, Terminal, absent, unreachable, throw, return, goto, if, branch, switch, do_while, while, for, for_of, for_in}
use Rattle.table.specs.Table.{logical, ternary, optional, label, sequence, maybe_throw, try, scope, terminal_at, rows_from, table_of}
use Rattle.table.proofs.PromiseLaws.{promised}
use Rattle.table.proofs.TableLaws.{length_blocks}
use Rattle.definition.specs.Completion.{contains}
use Rattle.definition.proofs.Steps.{true_false}
use Rattle.renaming.specs.Renaming.{Renaming, names_block, renamed_if, renamed_block_row, renamed, RenamedWords}
use Rattle.table.specs.Lines.{case_blocks, unless_no, named_by}
use Rattle.renaming.specs.Order.{AllNamed, old_number, place_from, new_number, with_named, walk_from, walking_order, rearranged}
use Rattle.renaming.proofs.Alike.{Moves, moves, same_test, new_below}
use Rattle.renaming.proofs.Tables.{renamed_terminal, renamed_case, renamed_table, Reordered}
use Rattle.renaming.proofs.Walk.{map_take, map_drop}
use Rattle.renaming.proofs.Permutations.{pick_true, pick_false, in_head, in_tail, below_of, Permutes, permutes}
use Rattle.renaming.proofs.WordLaws.{renamed_is, one_renamed}
use Rattle.renaming.proofs.Checks.{inverse, renamed_checked}
use Rattle.renaming.proofs.FromWords.{blocks_reordered, table_renamed}
use Rattle.renaming.proofs.OrderLaws.{rows_below, walking_order_lem, walking_renaming}

-- ---- the walk of a renamed table

module _ (new : ℕ → ℕ) (m : Moves new) where
  blocks_renamed : (l : List Case) → case_blocks (map (renamed_case new) l) ≡ map new (case_blocks l)
  blocks_renamed [] = refl
  blocks_renamed (x ∷ l) = ap (λ (z : List ℕ). new x.block ∷ z) (blocks_renamed l)

  unless_renamed : (u : Option ℕ) (more : List ℕ) → unless_no (Option.map new u) (map new more) ≡ map new (unless_no u more)
  unless_renamed none more = refl
  unless_renamed (some b) more = refl

  names_renamed : (t : Table) (blocks : List Block) (x : Terminal) → named_by (renamed_table new blocks t) (renamed_terminal new x) ≡ map new (named_by t x)
  unfolding named_by
  names_renamed t blocks absent = refl
  names_renamed t blocks unreachable = refl
  names_renamed t blocks (throw v) = refl
  names_renamed t blocks (return v) = refl
  names_renamed t blocks (goto b v) = refl
  names_renamed t blocks (if x c a f) = refl
  names_renamed t blocks (branch x c a) = refl
  names_renamed t blocks (switch x i n f) =
      ap (λ (l : List Case). case_blocks (take n l) ++ (new f ∷ [])) (map_drop (renamed_case new) i t.cases)
      ∙ (ap (λ (l : List Case). case_blocks l ++ (new f ∷ [])) (map_take (renamed_case new) n (drop i t.cases))
      ∙ (ap (λ (l : List ℕ). l ++ (new f ∷ [])) (blocks_renamed (take n (drop i t.cases))) ∙ sym (map-append new (case_blocks (take n (drop i t.cases))) (f ∷ []))))
  names_renamed t blocks (do_while l x f) = refl
  names_renamed t blocks (while x l f) = refl
  names_renamed t blocks (for i x u l f) = ap (λ (z : List ℕ). new i ∷ new x ∷ z) (unless_renamed u (l ∷ f ∷ []))
  names_renamed t blocks (for_of i x l f) = refl
  names_renamed t blocks (for_in i l f) = refl
  names_renamed t blocks (logical o x f) = refl
  names_renamed t blocks (ternary x f) = refl
  names_renamed t blocks (optional g x f) = refl
  names_renamed t blocks (label x f) = refl
  names_renamed t blocks (sequence x f) = refl
  names_renamed t blocks (maybe_throw x) = refl
  names_renamed t blocks (try x y f n) = refl
  names_renamed t blocks (scope p x f n) = refl

  contains_renamed : (l : List ℕ) (b : ℕ) → contains (map new l) (new b) ≡ contains l b
  contains_renamed [] b = refl
  contains_renamed (x ∷ l) b = rw (same_test new m x b, contains_renamed l b)

  with_renamed : (found names : List ℕ) → with_named (map new found) (map new names) ≡ map new (with_named found names)
  with_renamed found [] = refl
  with_renamed found (b ∷ names) = by (contains found b) refl (with_renamed found names) (with_renamed (found ++ (b ∷ [])) names)
    where
      by : (y : Bool) → contains found b ≡ y → with_named (map new found) (map new names) ≡ map new (with_named found names)
          → with_named (map new (found ++ (b ∷ []))) (map new names) ≡ map new (with_named (found ++ (b ∷ [])) names)
          → with_named (map new found) (map new (b ∷ names)) ≡ map new (with_named found (b ∷ names))
      by true e p q =
          pick_true (contains (map new found) (new b)) _ _ (contains_renamed found b ∙ e) ∙ (p ∙ ap (map new) (sym (pick_true (contains found b) _ _ e)))
      by false e p q =
          pick_false (contains (map new found) (new b)) _ _ (contains_renamed found b ∙ e)
          ∙ (ap (λ (l : List ℕ). with_named l (map new names)) (sym (map-append new found (b ∷ []))) ∙ (q ∙ ap (map new) (sym (pick_false (contains found b) _ _ e))))

  get_d_new : (l : List ℕ) (i : ℕ) → i < length l → get_or (map new l) i 0 ≡ new (get_or l i 0)
  get_d_new [] i h = absurd (omega arith)
  get_d_new (x ∷ l) zero h = refl
  get_d_new (x ∷ l) (suc i) h = get_d_new l i (omega arith)

  module _ (t : Table) (blocks : List Block) (moved : Reordered new t.blocks blocks) where
    walk_renamed : (places place : ℕ) (found : List ℕ) → walk_from (renamed_table new blocks t) places place (map new found) ≡ map new (walk_from t places place found)
    unfolding walk_from
    walk_renamed zero place found = refl
    walk_renamed (suc places) place found = by (ltb place (length found)) refl (walk_renamed places (suc place) (with_named found (named_by t (terminal_at t (get_or found place 0)))))
      where
        there : Table
        there = renamed_table new blocks t

        next : place < length found → with_named (map new found) (named_by there (terminal_at there (get_or (map new found) place 0))) ≡ map new
            (with_named found (named_by t (terminal_at t (get_or found place 0))))
        next h =
            ap (λ (z : ℕ). with_named (map new found) (named_by there (terminal_at there z))) (get_d_new found place h)
            ∙ (ap (λ (k : Block). with_named (map new found) (named_by there k.terminal)) (moved (get_or found place 0))
            ∙ (ap (with_named (map new found)) (names_renamed t blocks (terminal_at t (get_or found place 0))) ∙ with_renamed found (named_by t (terminal_at t (get_or found place 0)))))

        by : (y : Bool) → ltb place (length found) ≡ y
            → walk_from there places (suc place) (map new (with_named found (named_by t (terminal_at t (get_or found place 0))))) ≡ map new
            (walk_from t places (suc place) (with_named found (named_by t (terminal_at t (get_or found place 0)))))
            → walk_from there (suc places) place (map new found) ≡ map new (walk_from t (suc places) place found)
        by true e q =
            pick_true (ltb place (length (map new found))) _ _ (ap (ltb place) (length-map found new) ∙ e)
            ∙ (ap (walk_from there places (suc place)) (next (ltb-true place (length found) e)) ∙ (q ∙ ap (map new) (sym (pick_true (ltb place (length found)) _ _ e))))
        by false e q =
            pick_false (ltb place (length (map new found))) _ _ (ap (ltb place) (length-map found new) ∙ e) ∙ ap (map new) (sym (pick_false (ltb place (length found)) _ _ e))

-- ---- where every block is named, none comes last

with_all : (found names : List ℕ) → ((b : ℕ) → contains names b ≡ true → contains found b ≡ true) → with_named found names ≡ found
with_all found [] h = refl
with_all found (b ∷ names) h = pick_true (contains found b) _ _ (h b (in_head b names)) ∙ with_all found names (λ c q. h c (in_tail b c names q))

order_walked : (t : Table) → AllNamed t → walking_order t ≡ walk_from t (length t.blocks) 0 (t.entry ∷ [])
unfolding walking_order
order_walked t h =
    with_all _ (rows_from 0 (length t.blocks))
    (λ b q. h b (below_of (length t.blocks) (rows_from 0 (length t.blocks)) (rows_below 0 (length t.blocks) (length t.blocks) (omega arith)) b q))

module _ (n : ℕ) (new old : ℕ → ℕ) (few : n ≤ 1024) (g : Renaming n new old) (t : Table) (count : length t.blocks ≡ n) (blocks : List Block) (count' : length blocks ≡ n)
    (moved : Reordered new t.blocks blocks) (all : AllNamed t) where
  walk_there : walk_from (renamed_table new blocks t) (length blocks) 0 (new t.entry ∷ []) ≡ map new (walk_from t (length t.blocks) 0 (t.entry ∷ []))
  walk_there = rw (count', count) (walk_renamed new (moves n new old g few) t blocks moved n 0 (t.entry ∷ []))

  all_there : AllNamed (renamed_table new blocks t)
  all_there b h =
      let o : old b < n = new_below n old new (inverse n new old g) n (omega arith) b (omega (arith, h, count')) in
      let W : List ℕ = walk_from t (length t.blocks) 0 (t.entry ∷ []) in
      let q : contains (map new W) (new (old b)) ≡ true = contains_renamed new (moves n new old g few) W (old b) ∙ all (old b) (omega (arith, count)) in
      subst (λ (l : List ℕ). contains l b ≡ true) (sym walk_there) (subst (λ (z : ℕ). contains (map new W) z ≡ true) (g.new_old b) q)

  pub order_renamed : walking_order (renamed_table new blocks t) ≡ map new (walking_order t)
  order_renamed = order_walked (renamed_table new blocks t) all_there ∙ (walk_there ∙ ap (map new) (sym (order_walked t all)))

-- ---- two renamings, one after the other

module _ (n₁ o₁ n₂ o₂ N O : ℕ → ℕ) (ws ws₁ ws₂ : List ℕ) (after : (b : ℕ) → n₂ (n₁ b) ≡ N b) (before : (i : ℕ) → o₁ (o₂ i) ≡ O i) (below : (i : ℕ) → i < block_count ws → o₂ i < block_count ws)
    (p : RenamedWords n₁ o₁ ws ws₁) (q : RenamedWords n₂ o₂ ws₁ ws₂) where
  twice : (y : Bool) (w : ℕ) → renamed_if y n₂ (renamed_if y n₁ w) ≡ renamed_if y N w
  twice true w = after w
  twice false w = refl

  module _ (i : ℕ) (h : i < block_count ws) where
    middle : (k : ℕ) → k < 11 → block_word ws₁ (o₂ i) k ≡ get_or (renamed_block_row n₁ ws (O i)) k 0
    middle k l = subst (λ (z : ℕ). block_word ws₁ (o₂ i) k ≡ get_or (renamed_block_row n₁ ws z) k 0) (before i) (p.block (o₂ i) (below i h) k l)

    code_middle : block_word ws₁ (o₂ i) 2 ≡ block_word ws (O i) 2
    unfolding renamed_block_row
    code_middle = middle 2 (omega arith)

    name_twice : (j w' w : ℕ) → w' ≡ renamed_if (names_block (block_word ws (O i) 2) j) n₁ w
        → renamed_if (names_block (block_word ws₁ (o₂ i) 2) j) n₂ w' ≡ renamed_if (names_block (block_word ws (O i) 2) j) N w
    name_twice j w' w e = rw (code_middle, e) (twice (names_block (block_word ws (O i) 2) j) w)

    column_twice : (k : ℕ) → k < 11 → get_or (renamed_block_row n₂ ws₁ (o₂ i)) k 0 ≡ get_or (renamed_block_row N ws (O i)) k 0
    unfolding renamed_block_row
    column_twice zero l = middle 0 l
    column_twice (suc zero) l = middle 1 l
    column_twice (suc (suc zero)) l = middle 2 l
    column_twice (suc (suc (suc zero))) l = name_twice 0 _ _ (middle 3 l)
    column_twice (suc (suc (suc (suc zero)))) l = name_twice 1 _ _ (middle 4 l)
    column_twice (suc (suc (suc (suc (suc zero))))) l = name_twice 2 _ _ (middle 5 l)
    column_twice (suc (suc (suc (suc (suc (suc zero)))))) l = name_twice 3 _ _ (middle 6 l)
    column_twice (suc (suc (suc (suc (suc (suc (suc zero))))))) l = name_twice 4 _ _ (middle 7 l)
    column_twice (suc (suc (suc (suc (suc (suc (suc (suc zero)))))))) l = middle 8 l
    column_twice (suc (suc (suc (suc (suc (suc (suc (suc (suc zero))))))))) l = middle 9 l
    column_twice (suc (suc (suc (suc (suc (suc (suc (suc (suc (suc zero)))))))))) l = middle 10 l
    column_twice (suc (suc (suc (suc (suc (suc (suc (suc (suc (suc (suc k))))))))))) l = absurd (omega arith)

  composed : RenamedWords N O ws ws₂
  composed = record {
    long = q.long ∙ p.long;
    entry = q.entry ∙ (ap n₂ p.entry ∙ after (entry_word ws));
    blocks = q.blocks ∙ p.blocks;
    instructions = q.instructions ∙ p.instructions;
    cases = q.cases ∙ p.cases;
    places = q.places ∙ p.places;
    identifiers = q.identifiers ∙ p.identifiers;
    block = λ i h k l. q.block i (omega (arith, h, p.blocks)) k l ∙ column_twice i h k l;
    instruction = λ i h k l. q.instruction i (omega (arith, h, p.instructions)) k l ∙ p.instruction i h k l;
    case_test = λ i h. q.case_test i (omega (arith, h, p.cases)) ∙ p.case_test i h;
    case_block = λ i h. q.case_block i (omega (arith, h, p.cases)) ∙ (ap n₂ (p.case_block i h) ∙ after (case_word ws i 1));
    place = λ i h. q.place i (omega (arith, h, p.places)) ∙ p.place i h;
    identifier = λ i h. q.identifier i (omega (arith, h, p.identifiers)) ∙ p.identifier i h;
  }

-- ---- the numbers of a renamed list

module _ (new : ℕ → ℕ) (m : Moves new) where
  place_renamed : (place : ℕ) (l : List ℕ) (b : ℕ) → contains l b ≡ true → place_from place (map new l) (new b) ≡ place_from place l b
  place_renamed place [] b h = absurd (true_false (sym h))
  place_renamed place (x ∷ l) b h = by (eqb x b) refl (λ e. place_renamed (suc place) l b (rest e))
    where
      rest : eqb x b ≡ false → contains l b ≡ true
      rest e = rw e at h

      by : (y : Bool) → eqb x b ≡ y → (eqb x b ≡ false → place_from (suc place) (map new l) (new b) ≡ place_from (suc place) l b)
          → place_from place (map new (x ∷ l)) (new b) ≡ place_from place (x ∷ l) b
      by true e q = pick_true (eqb (new x) (new b)) _ _ (same_test new m x b ∙ e) ∙ sym (pick_true (eqb x b) _ _ e)
      by false e q = pick_false (eqb (new x) (new b)) _ _ (same_test new m x b ∙ e) ∙ (q e ∙ sym (pick_false (eqb x b) _ _ e))

module _ (new old : ℕ → ℕ) (ws : List ℕ) (h : checked ws ≡ accepted) (g : Renaming (block_count ws) new old) (all : AllNamed (table_of ws)) where
  r : RenamedWords new old ws (renamed new old ws)
  r = renamed_is new old ws (promised ws h).sized

  h₁ : checked (renamed new old ws) ≡ accepted
  h₁ = renamed_checked new old ws (promised ws h).sized g h

  pub orders : walking_order (table_of (renamed new old ws)) ≡ map new (walking_order (table_of ws))
  orders =
      ap walking_order (table_renamed new old ws (renamed new old ws) (promised ws h) g r)
      ∙ order_renamed (block_count ws) new old (promised ws h).sized.limited.blocks g (table_of ws) (length_blocks ws) (table_of (renamed new old ws)).blocks
      (length_blocks (renamed new old ws) ∙ r.blocks)
      (blocks_reordered new old ws (renamed new old ws) (promised ws h) g r) all

  module _ (W W₁ : List ℕ) (e₁ : W₁ ≡ map new W) (f : Renaming (block_count ws) (new_number W) (old_number W)) (f₁ : Renaming (block_count ws) (new_number W₁) (old_number W₁))
      (perm : Permutes (block_count ws) W) where
    after : (b : ℕ) → new_number W₁ (new b) ≡ new_number W b
    unfolding new_number
    after b = by (contains W b) refl
      where
        by : (y : Bool) → contains W b ≡ y → new_number W₁ (new b) ≡ new_number W b
        by true e = ap (λ (l : List ℕ). place_from 0 l (new b)) e₁ ∙ place_renamed new (moves (block_count ws) new old g (promised ws h).sized.limited.blocks) 0 W b e
        by false e = beyond (ltb b (block_count ws)) refl e
          where
            beyond : (y : Bool) → ltb b (block_count ws) ≡ y → contains W b ≡ false → new_number W₁ (new b) ≡ new_number W b
            beyond true u e = absurd (true_false (sym (perm.all b (ltb-true _ _ u)) ∙ e))
            beyond false u e =
                let l : block_count ws ≤ b = ltb-false _ _ u in
                ap (new_number W₁) (g.beyond b l) ∙ (f₁.beyond b l ∙ sym (f.beyond b l))

    before : (i : ℕ) → old (old_number W₁ i) ≡ old_number W i
    before i =
        let e : new_number W₁ (new (old_number W i)) ≡ i = after (old_number W i) ∙ f.new_old i in
        let z : new (old_number W i) ≡ old_number W₁ i = sym (f₁.old_new (new (old_number W i))) ∙ ap (old_number W₁) e in
        ap old (sym z) ∙ g.old_new (old_number W i)

    one_form : RenamedWords (new_number W) (old_number W) ws (renamed (new_number W₁) (old_number W₁) (renamed new old ws))
    one_form =
        composed new old (new_number W₁) (old_number W₁) (new_number W) (old_number W) ws (renamed new old ws) (renamed (new_number W₁) (old_number W₁) (renamed new old ws)) after before
        (λ i l. new_below (block_count ws) (old_number W₁) (new_number W₁) (inverse (block_count ws) (new_number W₁) (old_number W₁) f₁) (block_count ws) (omega arith) i l)
        r (renamed_is (new_number W₁) (old_number W₁) (renamed new old ws) (promised (renamed new old ws) h₁).sized)

  -- any renumbering of a table has its rearrangement
  pub one_rearrangement : rearranged (renamed new old ws) ≡ rearranged ws
  unfolding rearranged
  one_rearrangement =
      let W : List ℕ = walking_order (table_of ws) in
      let W₁ : List ℕ = walking_order (table_of (renamed new old ws)) in
      let f₁ : Renaming (block_count ws) (new_number W₁) (old_number W₁) = subst (λ (n : ℕ). Renaming n (new_number W₁) (old_number W₁)) r.blocks
      (walking_renaming (renamed new old ws) (promised (renamed new old ws) h₁)) in
      one_renamed (new_number W) (old_number W) ws (renamed (new_number W₁) (old_number W₁) (renamed new old ws)) (renamed (new_number W) (old_number W) ws)
      (one_form W W₁ orders (walking_renaming ws (promised ws h)) f₁ (permutes (block_count ws) W (walking_order_lem ws (promised ws h))))
      (renamed_is (new_number W) (old_number W) ws (promised ws h).sized) (promised ws h).sized
