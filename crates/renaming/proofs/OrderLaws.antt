-- The walking order is a permutation of the blocks, the entry first; so the rearranged table builds what the first does, renamed, and is restored exactly.
use mathlib.Core.Path.{◌≡◌, refl, sym, ap, ◌∙◌, subst}
use Prim.Native.Nat.{ℕ, zero, suc, ◌+◌, ◌<◌, ◌≤◌}
use native.Mathlib.Omega.{arith}
use mathlib.Core.List.{List, [], ◌∷◌, ◌++◌}
use mathlib.Core.Option.{Option, none, some}
use mathlib.Core.Bool.{Bool, true, false, not, ◌||◌}
use lib.ListN.{length, get_or, take, drop, get_or-eq_default, length-append, get_or-append}
use lib.Dec.{eqb, ltb}
use borrow.Author.Tests.{eq-eqb, ne_eqb, lt-ltb, ltb-true, ltb-false, not-true}
use Rattle.table.specs.Words.{entry_word, block_count, case_count, place_count}
use Rattle.table.specs.Check.{accepted, checked}
use Rattle.table.specs.Table.{Table, Block, no_block, Case, Terminal, absent, unreachable, throw, return, goto, if, branch, switch, do_while, while, for, for_of}
use Rattle.table.specs.Table.{for_in, logical, ternary, optional, label, sequence, maybe_throw, try, scope, terminal_at, rows_from, tabulate, case_of, table_of}
use Rattle.table.specs.Promise.{Promise, InRange, BelowUnlessNone}
use Rattle.table.proofs.PromiseLaws.{promised}
use Rattle.table.proofs.RangeLaws.{in_range_lem, case_block}
use Rattle.table.proofs.TableLaws.{length_blocks}
use Rattle.table.proofs.BlockLaws.{length_rows}
use Rattle.definition.specs.Around.{Rule}
use Rattle.definition.specs.Build.{built}
use Rattle.definition.specs.Completion.{contains}
use Rattle.definition.proofs.Steps.{true_false}
use Rattle.renaming.specs.Renaming.{Renaming, RenamedWords, renamed_outcome}
use Rattle.tree_grammar.proofs.Upto.{and_both}
use Rattle.table.specs.Lines.{case_blocks, unless_no, named_by}
use Rattle.renaming.specs.Order.{all_below, none_twice, is_permutation, old_number, place_from, new_number, with_named, walk_from, walking_order, rearranged}
use Rattle.renaming.specs.Order.{restored_by, Rearrangement, rearrangement, restoration}
use Rattle.renaming.proofs.Permutations.{both_and, by_equal, pick_true, pick_false, in_head, in_other, in_cases, fits_in, in_rows, rows_once, below_of, permutes, renaming_of}
use Rattle.renaming.proofs.WordLaws.{renamed_is}
use Rattle.renaming.proofs.Checks.{restored, renamed_checked}
use Rattle.renaming.proofs.Theorem.{built_renamed}

-- ---- one more at the end

pub in_append : (l k : List ℕ) (b : ℕ) → contains (l ++ k) b ≡ contains l b || contains k b
in_append [] k b = refl
in_append (x ∷ l) k b = rw (in_append l k b) (by (eqb x b))
  where
    by : (y : Bool) → y || (contains l b || contains k b) ≡ (y || contains l b) || contains k b
    by true = refl
    by false = refl

pub in_left : (l k : List ℕ) (b : ℕ) → contains l b ≡ true → contains (l ++ k) b ≡ true
in_left l k b h = rw (in_append l k b, h)

pub in_end : (l : List ℕ) (b : ℕ) → contains (l ++ (b ∷ [])) b ≡ true
in_end l b = rw (in_append l (b ∷ []) b, eq-eqb b b refl) (by (contains l b))
  where
    by : (y : Bool) → y || true ≡ true
    by true = refl
    by false = refl

pub below_end : (n : ℕ) (l : List ℕ) (b : ℕ) → all_below n l ≡ true → ltb b n ≡ true → all_below n (l ++ (b ∷ [])) ≡ true
below_end n [] b h q = both_and q refl
below_end n (x ∷ l) b h q = both_and (and_both (ltb x n) (all_below n l) h).0 (below_end n l b (and_both (ltb x n) (all_below n l) h).1 q)

pub once_end : (l : List ℕ) (b : ℕ) → none_twice l ≡ true → contains l b ≡ false → none_twice (l ++ (b ∷ [])) ≡ true
once_end [] b h q = refl
once_end (x ∷ l) b h q =
    let t : (not (contains l x) ≡ true) × (none_twice l ≡ true) = and_both (not (contains l x)) (none_twice l) h in
    let f : x ≡ b → ⊥ = λ e. true_false (sym (subst (λ (z : ℕ). contains (x ∷ l) z ≡ true) e (in_head x l)) ∙ q) in
    let g : not (contains (l ++ (b ∷ [])) x) ≡ true = rw (in_append l (b ∷ []) x, not-true (contains l x) t.0, ne_eqb b x (λ e. f (sym e))) in
    both_and g (once_end l b t.1 (sym (in_other x b l f) ∙ q))

-- ---- names put at the end

-- one name: by whether it is there
pub with_step : (P : List ℕ → Type 0) (found : List ℕ) (b : ℕ) (names : List ℕ)
    → (contains found b ≡ true → P (with_named found names)) → (contains found b ≡ false → P (with_named (found ++ (b ∷ [])) names)) → P (with_named found (b ∷ names))
with_step P found b names f g = by (contains found b) refl
  where
    by : (y : Bool) → contains found b ≡ y → P (elim (contains found b) [ true ↦ with_named found names | false ↦ with_named (found ++ (b ∷ [])) names ])
    by true e = subst P (sym (pick_true (contains found b) (with_named found names) (with_named (found ++ (b ∷ [])) names) e)) (f e)
    by false e = subst P (sym (pick_false (contains found b) (with_named found names) (with_named (found ++ (b ∷ [])) names) e)) (g e)

pub with_once : (found names : List ℕ) → none_twice found ≡ true → none_twice (with_named found names) ≡ true
with_once found [] h = h
with_once found (b ∷ names) h = with_step (λ l. none_twice l ≡ true) found b names (λ e. with_once found names h) (λ e. with_once (found ++ (b ∷ [])) names (once_end found b h e))

pub with_below : (n : ℕ) (found names : List ℕ) → all_below n found ≡ true → all_below n names ≡ true → all_below n (with_named found names) ≡ true
with_below n found [] h q = h
with_below n found (b ∷ names) h q =
    let t : (ltb b n ≡ true) × (all_below n names ≡ true) = and_both (ltb b n) (all_below n names) q in
    with_step (λ l. all_below n l ≡ true) found b names (λ e. with_below n found names h t.1) (λ e. with_below n (found ++ (b ∷ [])) names (below_end n found b h t.0) t.1)

with_found : (found names : List ℕ) (b : ℕ) → contains found b ≡ true → contains (with_named found names) b ≡ true
with_found found [] b h = h
with_found found (c ∷ names) b h = with_step (λ l. contains l b ≡ true) found c names (λ e. with_found found names b h) (λ e. with_found (found ++ (c ∷ [])) names b (in_left found (c ∷ []) b h))

with_names : (found names : List ℕ) (b : ℕ) → contains names b ≡ true → contains (with_named found names) b ≡ true
with_names found [] b h = absurd (true_false (sym h))
with_names found (c ∷ names) b h =
    with_step (λ l. contains l b ≡ true) found c names
    (λ e. in_cases c b names h (λ q. with_found found names b (subst (λ (z : ℕ). contains found z ≡ true) q e)) (λ q. with_names found names b q))
    (λ e. in_cases c b names h (λ q. with_found (found ++ (c ∷ [])) names b (subst (λ (z : ℕ). contains (found ++ (c ∷ [])) z ≡ true) q (in_end found c)))
    (λ q. with_names (found ++ (c ∷ [])) names b q))

-- what is found stays where it is
with_prefix : (found names : List ℕ) (i d : ℕ) → i < length found → get_or (with_named found names) i d ≡ get_or found i d
with_prefix found [] i d h = refl
with_prefix found (b ∷ names) i d h =
    with_step (λ l. get_or l i d ≡ get_or found i d) found b names (λ e. with_prefix found names i d h)
    (λ e. with_prefix (found ++ (b ∷ [])) names i d (omega (arith, length-append found (b ∷ []))) ∙ get_or-append found (b ∷ []) d i h)

-- the first stays the first
abbrev Begins : ℕ → List ℕ → Type 0
Begins b [] = ⊥
Begins b (x ∷ l) = x ≡ b

begins_end : (b : ℕ) (l k : List ℕ) → Begins b l → Begins b (l ++ k)
begins_end b [] k h = absurd h
begins_end b (x ∷ l) k h = h

with_begins : (b : ℕ) (found names : List ℕ) → Begins b found → Begins b (with_named found names)
with_begins b found [] h = h
with_begins b found (c ∷ names) h = with_step (Begins b) found c names (λ e. with_begins b found names h) (λ e. with_begins b (found ++ (c ∷ [])) names (begins_end b found (c ∷ []) h))

-- ---- the walk

module _ (t : Table) (n : ℕ) (names : (b : ℕ) → all_below n (named_by t (terminal_at t b)) ≡ true) where
  -- what one step keeps, the walk keeps
  walk_keeps : (P : List ℕ → Type 0) → ((found : List ℕ) (b : ℕ) → P found → P (with_named found (named_by t (terminal_at t b))))
      → (places place : ℕ) (found : List ℕ) → P found → P (walk_from t places place found)
  unfolding walk_from
  walk_keeps P step zero place found h = h
  walk_keeps P step (suc places) place found h =
      by (ltb place (length found)) (walk_keeps P step places (suc place) (with_named found (named_by t (terminal_at t (get_or found place 0)))) (step found (get_or found place 0) h))
    where
      by : (y : Bool) → P (walk_from t places (suc place) (with_named found (named_by t (terminal_at t (get_or found place 0)))))
          → P (elim y [ true ↦ walk_from t places (suc place) (with_named found (named_by t (terminal_at t (get_or found place 0)))) | false ↦ found ])
      by true q = q
      by false q = h

  walk_once : (places place : ℕ) (found : List ℕ) → none_twice found ≡ true → none_twice (walk_from t places place found) ≡ true
  walk_once = walk_keeps (λ l. none_twice l ≡ true) (λ found b h. with_once found (named_by t (terminal_at t b)) h)

  walk_below : (places place : ℕ) (found : List ℕ) → all_below n found ≡ true → all_below n (walk_from t places place found) ≡ true
  walk_below = walk_keeps (λ l. all_below n l ≡ true) (λ found b h. with_below n found (named_by t (terminal_at t b)) h (names b))

  walk_begins : (b places place : ℕ) (found : List ℕ) → Begins b found → Begins b (walk_from t places place found)
  walk_begins b = walk_keeps (Begins b) (λ found c h. with_begins b found (named_by t (terminal_at t c)) h)

  -- ---- the walk is never cut short: it looks at every block that it finds

  -- what the first so many blocks of a list name is in the list
  abbrev Closed : List ℕ → ℕ → Type 0
  Closed found k = (i : ℕ) → i < k → i < length found → (c : ℕ) → contains (named_by t (terminal_at t (get_or found i 0))) c ≡ true → contains found c ≡ true

  closed_step : (found : List ℕ) (k : ℕ) → k < length found → Closed found k → Closed (with_named found (named_by t (terminal_at t (get_or found k 0)))) (suc k)
  closed_step found k l h i u v c e =
      let new : List ℕ = named_by t (terminal_at t (get_or found k 0)) in
      let q : contains (named_by t (terminal_at t (get_or found i 0))) c ≡ true =
      subst (λ (z : ℕ). contains (named_by t (terminal_at t z)) c ≡ true) (with_prefix found new i 0 (omega arith)) e in
      by_equal i k (λ z. with_names found new c (subst (λ (z : ℕ). contains (named_by t (terminal_at t (get_or found z 0))) c ≡ true) z q))
      (λ f. with_found found new c (h i (omega (arith, f)) (omega arith) c q))

  walk_closed : (places place : ℕ) (found : List ℕ) → none_twice found ≡ true → all_below n found ≡ true → n ≤ places + place → Closed found place
      → Closed (walk_from t places place found) (length (walk_from t places place found))
  unfolding walk_from
  walk_closed zero place found o b m h = λ i u v c e.
      h i (omega (arith, length_rows 0 n, fits_in found (rows_from 0 n) o (λ d q. in_rows 0 n d (omega arith) (omega (arith, below_of n found b d q))))) v c e
  walk_closed (suc places) place found o b m h =
      by (ltb place (length found)) refl (λ l. walk_closed places (suc place) next (with_once found names_here o)
      (with_below n found names_here b (names (get_or found place 0))) (omega arith) (closed_step found place l h))
    where
      names_here : List ℕ
      names_here = named_by t (terminal_at t (get_or found place 0))

      next : List ℕ
      next = with_named found names_here

      by : (y : Bool) → ltb place (length found) ≡ y → (place < length found → Closed (walk_from t places (suc place) next) (length (walk_from t places (suc place) next)))
          → Closed (elim y [ true ↦ walk_from t places (suc place) next | false ↦ found ]) (length {A = ℕ} (elim y [ true ↦ walk_from t places (suc place) next | false ↦ found ]))
      by true e q = q (ltb-true place (length found) e)
      by false e q = λ i u v. h i (omega (arith, ltb-false place (length found) e)) v

-- ---- the whole order

pub rows_below : (first k n : ℕ) → first + k ≤ n → all_below n (rows_from first k) ≡ true
rows_below first zero n h = refl
rows_below first (suc k) n h = both_and (lt-ltb first n (omega arith)) (rows_below (suc first) k n (omega arith))

module _ (t : Table) (entry : t.entry < length t.blocks) (names : (b : ℕ) → all_below (length t.blocks) (named_by t (terminal_at t b)) ≡ true) where
  abbrev count : ℕ
  count = length t.blocks

  order_once : none_twice (walking_order t) ≡ true
  unfolding walking_order
  order_once = with_once _ (rows_from 0 count) (walk_once t count names count 0 (t.entry ∷ []) refl)

  order_below : all_below count (walking_order t) ≡ true
  unfolding walking_order
  order_below = with_below count _ (rows_from 0 count) (walk_below t count names count 0 (t.entry ∷ []) (both_and (lt-ltb _ _ entry) refl)) (rows_below 0 count count (omega arith))

  order_all : (b : ℕ) → b < count → contains (walking_order t) b ≡ true
  unfolding walking_order
  order_all b h = with_names _ (rows_from 0 count) b (in_rows 0 count b (omega arith) (omega arith))

  order_begins : Begins t.entry (walking_order t)
  unfolding walking_order
  order_begins = with_begins t.entry _ (rows_from 0 count) (walk_begins t count names t.entry count 0 (t.entry ∷ []) refl)

  order_long : length (walking_order t) ≡ count
  order_long =
      let most : length (walking_order t) ≤ length (rows_from 0 count) =
      fits_in (walking_order t) (rows_from 0 count) order_once (λ b h. in_rows 0 count b (omega arith) (omega (arith, below_of count (walking_order t) order_below b h))) in
      let least : length (rows_from 0 count) ≤ length (walking_order t) =
      fits_in (rows_from 0 count) (walking_order t) (rows_once 0 count) (λ b h. order_all b (below_of count (rows_from 0 count) (rows_below 0 count count (omega arith)) b h)) in
      omega (arith, length_rows 0 count)

  pub order_permutes : is_permutation count (walking_order t) ≡ true
  unfolding is_permutation
  order_permutes = both_and (eq-eqb _ _ order_long) (both_and order_below order_once)

  -- every block that a block of the walk names is of the walk
  pub walk_whole : (i : ℕ) → i < length (walk_from t count 0 (t.entry ∷ [])) → (c : ℕ) → contains (named_by t (terminal_at t (get_or (walk_from t count 0 (t.entry ∷ [])) i 0))) c ≡ true
      → contains (walk_from t count 0 (t.entry ∷ [])) c ≡ true
  walk_whole i h = walk_closed t count names count 0 (t.entry ∷ []) refl (both_and (lt-ltb _ _ entry) refl) (omega arith) (λ i u. absurd (omega arith)) i h h

  -- "the entry becomes 0"
  pub entry_first : new_number (walking_order t) t.entry ≡ 0
  unfolding new_number
  entry_first = by (walking_order t) order_begins
    where
      by : (l : List ℕ) → Begins t.entry l → place_from 0 l t.entry ≡ 0
      by [] h = absurd h
      by (x ∷ l) h = pick_true (eqb x t.entry) 0 (place_from 1 l t.entry) (eq-eqb x t.entry h)

-- ---- of words that the check accepts

module _ (blocks places cases : ℕ) (t : Table) (cased : all_below blocks (case_blocks t.cases) ≡ true) where
  lt : {b : ℕ} → b < blocks → ltb b blocks ≡ true
  lt {b} h = lt-ltb b blocks h

  take_below : (k : ℕ) (l : List Case) → all_below blocks (case_blocks l) ≡ true → all_below blocks (case_blocks (take k l)) ≡ true
  take_below zero l h = refl
  take_below (suc k) [] h = refl
  take_below (suc k) (x ∷ l) h = let q : (ltb x.block blocks ≡ true) × (all_below blocks (case_blocks l) ≡ true) = and_both _ _ h in both_and q.0 (take_below k l q.1)

  drop_below : (k : ℕ) (l : List Case) → all_below blocks (case_blocks l) ≡ true → all_below blocks (case_blocks (drop k l)) ≡ true
  drop_below zero l h = h
  drop_below (suc k) [] h = refl
  drop_below (suc k) (x ∷ l) h = let q : (ltb x.block blocks ≡ true) × (all_below blocks (case_blocks l) ≡ true) = and_both _ _ h in drop_below k l q.1

  update_below : (u : Option ℕ) (more : List ℕ) → BelowUnlessNone blocks u → all_below blocks more ≡ true → all_below blocks (unless_no u more) ≡ true
  update_below none more h q = q
  update_below (some b) more h q = both_and (lt h) q

  names_below : (x : Terminal) → InRange blocks places cases x → all_below blocks (named_by t x) ≡ true
  unfolding named_by
  names_below absent r = refl
  names_below unreachable r = refl
  names_below (throw v) r = refl
  names_below (return v) r = refl
  names_below (goto b v) r = both_and (lt r) refl
  names_below (if x c a f) r = both_and (lt r.1) (both_and (lt r.2) (both_and (lt r.3) refl))
  names_below (branch x c a) r = both_and (lt r.1) (both_and (lt r.2) refl)
  names_below (switch x i n f) r = below_end blocks (case_blocks (take n (drop i t.cases))) f (take_below n (drop i t.cases) (drop_below i t.cases cased)) (lt r.2)
  names_below (do_while l x f) r = both_and (lt r.0) (both_and (lt r.1) (both_and (lt r.2) refl))
  names_below (while x l f) r = both_and (lt r.0) (both_and (lt r.1) (both_and (lt r.2) refl))
  names_below (for i x u l f) r = both_and (lt r.0) (both_and (lt r.1) (update_below u (l ∷ f ∷ []) r.2 (both_and (lt r.3) (both_and (lt r.4) refl))))
  names_below (for_of i x l f) r = both_and (lt r.0) (both_and (lt r.1) (both_and (lt r.2) (both_and (lt r.3) refl)))
  names_below (for_in i l f) r = both_and (lt r.0) (both_and (lt r.1) (both_and (lt r.2) refl))
  names_below (logical o x f) r = both_and (lt r.1) (both_and (lt r.2) refl)
  names_below (ternary x f) r = both_and (lt r.0) (both_and (lt r.1) refl)
  names_below (optional g x f) r = both_and (lt r.1) (both_and (lt r.2) refl)
  names_below (label x f) r = both_and (lt r.0) (both_and (lt r.1) refl)
  names_below (sequence x f) r = both_and (lt r.0) (both_and (lt r.1) refl)
  names_below (maybe_throw k) r = both_and (lt r) refl
  names_below (try x h f n) r = both_and (lt r.0) (both_and (lt r.1) (both_and (lt r.2) refl))
  names_below (scope p x f n) r = both_and (lt r.0) (both_and (lt r.1) refl)

module _ (ws : List ℕ) (p : Promise ws) where
  cases_below : (n : ℕ) (f : ℕ → Case) (k : ℕ) → ((i : ℕ) → i < k → (f i).block < n) → all_below n (case_blocks (tabulate f k)) ≡ true
  unfolding tabulate
  cases_below n f zero h = refl
  cases_below n f (suc k) h = both_and (lt-ltb _ _ (h 0 (omega arith))) (cases_below n (λ i. f (suc i)) k (λ i l. h (suc i) (omega arith)))

  cased : all_below (block_count ws) (case_blocks (table_of ws).cases) ≡ true
  unfolding table_of case_of
  cased = cases_below (block_count ws) (case_of ws) (case_count ws) (λ i h. case_block ws p i h)

  pub named_here : (b : ℕ) → all_below (length (table_of ws).blocks) (named_by (table_of ws) (terminal_at (table_of ws) b)) ≡ true
  unfolding named_by
  named_here b = rw (length_blocks ws) (by (ltb b (block_count ws)) refl)
    where
      by : (y : Bool) → ltb b (block_count ws) ≡ y → all_below (block_count ws) (named_by (table_of ws) (terminal_at (table_of ws) b)) ≡ true
      by true e = names_below (block_count ws) (place_count ws) (case_count ws) (table_of ws) cased (terminal_at (table_of ws) b) (in_range_lem ws p b (ltb-true _ _ e))
      by false e =
          subst (λ (k : Block). all_below (block_count ws) (named_by (table_of ws) k.terminal) ≡ true)
          (sym (get_or-eq_default (table_of ws).blocks no_block (omega (arith, ltb-false b (block_count ws) e, length_blocks ws)))) refl

  pub entry_here : (table_of ws).entry < length (table_of ws).blocks
  unfolding table_of
  entry_here = rw (length_blocks ws) p.entry

  pub walking_order_lem : is_permutation (block_count ws) (walking_order (table_of ws)) ≡ true
  walking_order_lem = rw (length_blocks ws) at (order_permutes (table_of ws) entry_here named_here)

  pub walking_renaming : Renaming (block_count ws) (new_number (walking_order (table_of ws))) (old_number (walking_order (table_of ws)))
  walking_renaming = renaming_of (block_count ws) (walking_order (table_of ws)) (permutes (block_count ws) (walking_order (table_of ws)) walking_order_lem)

module _ (ws : List ℕ) (h : checked ws ≡ accepted) where
  pub rearranged_checked : checked (rearranged ws) ≡ accepted
  unfolding rearranged
  rearranged_checked = let p : Promise ws = promised ws h in renamed_checked _ _ ws p.sized (walking_renaming ws p) h

  pub rearranged_entry : entry_word (rearranged ws) ≡ 0
  unfolding rearranged table_of
  rearranged_entry =
      let p : Promise ws = promised ws h in (renamed_is (new_number (walking_order (table_of ws))) (old_number (walking_order (table_of ws))) ws p.sized).entry ∙
      entry_first (table_of ws) (entry_here ws p) (named_here ws p)

  pub rearranged_built : (rule : Rule) (lent lent_index : ℕ)
      → built rule (rearranged ws) lent lent_index ≡ renamed_outcome (new_number (walking_order (table_of ws))) (built rule ws lent lent_index)
  unfolding rearranged
  rearranged_built rule lent lent_index = built_renamed _ _ rule ws lent lent_index (walking_renaming ws (promised ws h)) h

  -- "and so restores the first table exactly"
  pub rearranged_restored : restored_by (walking_order (table_of ws)) (rearranged ws) ≡ ws
  unfolding restored_by rearranged
  rearranged_restored = let p : Promise ws = promised ws h in restored _ _ ws p.sized (walking_renaming ws p)

  given : rearrangement ws (length ws) (block_count ws) ≡ record { code = 0; at = 0; table = rearranged ws; list = walking_order (table_of ws) }
  unfolding rearrangement
  given = rw (h, eq-eqb (length ws) (length ws) refl, eq-eqb (block_count ws) (block_count ws) refl, rearrangement)

  same_words : (length (rearranged ws) ≡ length ws) × (block_count (rearranged ws) ≡ block_count ws)
  unfolding rearranged
  same_words =
      let r : RenamedWords (new_number (walking_order (table_of ws))) (old_number (walking_order (table_of ws))) ws (rearranged ws) = renamed_is _ _ ws (promised ws h).sized in
      (r.long, r.blocks)

  taken_back : restoration (rearranged ws) (walking_order (table_of ws)) (length ws) ≡ record { code = 0; at = 0; table = restored_by (walking_order (table_of ws)) (rearranged ws) }
  unfolding restoration
  taken_back =
      let y : is_permutation (block_count (rearranged ws)) (walking_order (table_of ws)) ≡ true = rw same_words.1 (walking_order_lem ws (promised ws h)) in
      rw (rearranged_checked, eq-eqb (length ws) (length (rearranged ws)) (sym same_words.0), y, restoration)

  -- "The inverse takes both .. and so restores the first table exactly."
  pub round_trip : restoration (rearrangement ws (length ws) (block_count ws)).table (rearrangement ws (length ws) (block_count ws)).list (length ws) ≡ record { code = 0; at = 0; table = ws }
  round_trip =
      ap (λ (z : Rearrangement). restoration z.table z.list (length ws)) given
      ∙ (taken_back ∙ ap (λ (z : List ℕ). record { code = 0; at = 0; table = z }) rearranged_restored)
