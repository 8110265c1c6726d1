-- The links as the code stores them, row by row: the invariants of its two loops.
use mathlib.Core.Path.{◌≡◌, refl, sym, ap, ◌∙◌, subst, fun_ext}
use Prim.Native.Nat.{ℕ, zero, suc, ◌+◌, ◌-◌, ◌<◌, ◌≤◌}
use native.Mathlib.Omega.{arith}
use native.Mathlib.Numerals.{add-one}
use mathlib.Core.List.{List, [], ◌∷◌}
use mathlib.Core.Bool.{Bool, true, false}
use mathlib.Core.Option.{Option, none, some}
use lib.ListN.{length, get_or, set, length-set, get_or-eq_default}
use lib.Seq.{get_or-set_same, get_or-set_other}
use lib.Dec.{eqb, leb}
use borrow.Author.Tests.{eqb-true, eqb-false, leb-true, leb-false}
use Rattle.tree_grammar.specs.Needs.{Sort, serves, made_by, many, needs_by_op}
use Rattle.tree_grammar.specs.Needs as goal
use Rattle.tree_grammar.proofs.Upto.{upto, ends, ◌and◌}
use Rattle.std.specs.Prelude as code
use Rattle.std.specs.Prelude.{None, Some}
use Rattle.tree_check.specs.Found.{word_at, row_at, parts_begin, Begun}
use Rattle.tree_runs.specs.Links.{Links, parts_by_op, parts_of, put, with_part, with_row}
use Rattle.tree_runs.proofs.Linking.{Linking, Taking, linking_start, taking_start, taking_part, taking_end}
use Rattle.tree_run.specs.declared.links.Link.{Link}
use Rattle.tree_run.specs.Abstraction.{if_any, link_at, links_of, RowsLinked}

-- ---- a store is `put`

at_set : (l : List Link) (i : ℕ) (v : Link) → i < length l → (j : ℕ) (y : Bool) → eqb j i ≡ y → link_at (set l i v) j ≡ elim y [ true ↦ v | false ↦ link_at l j ]
at_set l i v h j true e = let z : j ≡ i = eqb-true j i e in rw z (get_or-set_same l i v _ h)
at_set l i v h j false e = get_or-set_other l i j v _ (eqb-false j i e)

module _ (l : List Link) (i : ℕ) (v : Link) (h : i < length l) where
  pub set_put : {A : Type 0} (field : Link → A) → ◌≡◌ {A = ℕ → A} (λ j. field (link_at (set l i v) j)) (put (λ j. field (link_at l j)) i (field v))
  unfolding put
  set_put {A} field = fun_ext (λ j. ap field (at_set l i v h j (eqb j i) refl) ∙ by (eqb j i) j)
    where
      by : (y : Bool) (j : ℕ) → field (elim y [ true ↦ v | false ↦ link_at l j ]) ≡ elim y [ true ↦ field v | false ↦ field (link_at l j) ]
      by true j = refl
      by false j = refl

  pub set_same : {A : Type 0} (field : Link → A) → field v ≡ field (link_at l i) → ◌≡◌ {A = ℕ → A} (λ j. field (link_at (set l i v) j)) (λ j. field (link_at l j))
  set_same {A} field e = fun_ext (λ j. ap field (at_set l i v h j (eqb j i) refl) ∙ by j (eqb j i) refl)
    where
      by : (j : ℕ) (y : Bool) → eqb j i ≡ y → field (elim y [ true ↦ v | false ↦ link_at l j ]) ≡ field (link_at l j)
      by j true q = let z : j ≡ i = eqb-true j i q in e ∙ ap (λ (n : ℕ). field (link_at l n)) (sym z)
      by j false q = refl

abbrev links_by : (begin : List ℕ) → (parent : ℕ → ℕ) → (next child : ℕ → Option ℕ) → Links
links_by begin parent next child = record { begin = λ j. get_or begin j 0; parent = parent; next = next; child = child }

part_stored : (begin : List ℕ) (l : List Link) (k m : ℕ) (later : code.Option ℕ) → m < length l
    → with_part (links_of begin l) k m (if_any later) ≡ links_of begin (set l m (record { parent = k; next = later; child = (link_at l m).child }))
part_stored begin l k m later h =
    let v : Link = record { parent = k; next = later; child = (link_at l m).child } in
    let p = set_put l m v h (λ z. z.parent) in
    let n = set_put l m v h (λ z. if_any z.next) in
    let c = set_same l m v h (λ z. if_any z.child) refl in
    ap (λ (f : ℕ → ℕ). links_by begin f (put (λ j. if_any (link_at l j).next) m (if_any later)) (λ j. if_any (link_at l j).child)) (sym p)
    ∙ ap (λ (f : ℕ → Option ℕ). links_by begin (λ j. (link_at (set l m v) j).parent) f (λ j. if_any (link_at l j).child)) (sym n)
    ∙ ap (λ (f : ℕ → Option ℕ). links_by begin (λ j. (link_at (set l m v) j).parent) (λ j. if_any (link_at (set l m v) j).next) f) (sym c)

row_stored : (begin : List ℕ) (l : List Link) (k : ℕ) (later : code.Option ℕ) → k < length l
    → with_row (links_of begin l) k (if_any later) ≡ links_of begin (set l k (record { parent = (link_at l k).parent; next = (link_at l k).next; child = later }))
row_stored begin l k later h =
    let v : Link = record { parent = (link_at l k).parent; next = (link_at l k).next; child = later } in
    let p = set_same l k v h (λ z. z.parent) refl in
    let n = set_same l k v h (λ z. if_any z.next) refl in
    let c = set_put l k v h (λ z. if_any z.child) in
    ap (λ (f : ℕ → Option ℕ). links_by begin (λ j. (link_at l j).parent) (λ j. if_any (link_at l j).next) f) (sym c)
    ∙ ap (λ (f : ℕ → ℕ). links_by begin f (λ j. if_any (link_at l j).next) (λ j. if_any (link_at (set l k v) j).child)) (sym p)
    ∙ ap (λ (f : ℕ → Option ℕ). links_by begin (λ j. (link_at (set l k v) j).parent) f (λ j. if_any (link_at (set l k v) j).child)) (sym n)

-- ---- so many parts as the check wants

length_many : (n : ℕ) (s : Sort) → length (many n s []) ≡ n
length_many zero s = refl
length_many (suc n) s = ap (λ (z : ℕ). suc z) (length_many n s)

module _ (a b c : ℕ) where
  flag_b : length (goal.if_present b goal.a_block (goal.a_block ∷ [])) ≡ get_or (parts_by_op a b c) 10 0
  flag_b = by b
    where
      by : (b : ℕ) → length (goal.if_present b goal.a_block (goal.a_block ∷ [])) ≡ get_or (parts_by_op a b c) 10 0
      by zero = refl
      by (suc n) = refl

  flag_c : length (goal.a_block ∷ goal.if_present c goal.a_value (goal.a_value ∷ goal.a_value ∷ [])) ≡ get_or (parts_by_op a b c) 15 0
  flag_c = by c
    where
      by : (c : ℕ) → length (goal.a_block ∷ goal.if_present c goal.a_value (goal.a_value ∷ goal.a_value ∷ [])) ≡ get_or (parts_by_op a b c) 15 0
      by zero = refl
      by (suc n) = refl

  abbrev AsMany : ℕ → Type 0
  AsMany op = length (get_or (needs_by_op a b c) op []) ≡ get_or (parts_by_op a b c) op 0

  known : (op : ℕ) → op < 26 → AsMany op
  known = upto AsMany 26
      (refl and refl and refl and refl and refl and ap (λ (z : ℕ). suc z) (length_many a goal.an_instr) and refl and refl and refl and length_many a goal.a_statement
      and flag_b and refl and length_many b goal.a_case and refl and refl and flag_c and refl and refl and refl and refl and refl and refl and refl and refl and refl and refl and ends)

  as_many : (op : ℕ) → AsMany op
  as_many op = by (leb 26 op) refl
    where
      by : (y : Bool) → leb 26 op ≡ y → AsMany op
      by true e = beyond (leb-true 26 op e)
        where
          beyond : 26 ≤ op → AsMany op
          beyond h = ap length (get_or-eq_default (needs_by_op a b c) [] {n = op} (omega (arith, h))) ∙ sym (get_or-eq_default (parts_by_op a b c) 0 h)
      by false e = known op (omega (arith, leb-false 26 op e))

parts_many : (words : List ℕ) (k : ℕ) → length (goal.parts_of (row_at words k)) ≡ parts_of (row_at words k)
unfolding parts_of
parts_many words k = as_many (word_at words k 1) (word_at words k 2) (word_at words k 3) (word_at words k 0)

-- ---- the parts of row k, back to the cursor

module _ (words begin : List ℕ) where
  pub record Joining (t : Links) (k cursor : ℕ) (later : Option ℕ) : Type 0 where
    taken : ℕ
    wanted : List Sort
    taking : Taking (row_at words) t k taken cursor later
    found : parts_begin words begin wanted cursor ≡ Some (get_or begin k 0)
    all : taken + length wanted ≡ parts_of (row_at words k)

  none_some : {n : ℕ} → None ≡ Some n → ⊥
  none_some e = let z : ◌≡◌ {A = ℕ} 0 1 = cc in omega arith

  some_is : {m n : ℕ} → Some m ≡ Some n → m ≡ n
  some_is e = cc

  -- parts that are there begin before the row after them
  parts_below : ((k : ℕ) → get_or begin k 0 ≤ k) → (wanted : List Sort) (cursor first : ℕ) → parts_begin words begin wanted cursor ≡ Some first → first ≤ cursor
  unfolding parts_begin
  parts_below low [] cursor first e = omega (arith, some_is e)
  parts_below low (sort ∷ wanted) zero first e = absurd (none_some e)
  parts_below low (sort ∷ wanted) (suc last) first e = by (serves sort (made_by (word_at words last 0))) e (λ q. parts_below low wanted (get_or begin last 0) first q)
    where
      by : (y : Bool) → elim y [ true ↦ parts_begin words begin wanted (get_or begin last 0) | false ↦ None ] ≡ Some first
          → (parts_begin words begin wanted (get_or begin last 0) ≡ Some first → first ≤ get_or begin last 0) → first ≤ suc last
      by true q on = omega (arith, on q, low last)
      by false q on = absurd (none_some q)

  part_served : (sort : Sort) (wanted : List Sort) (last first : ℕ)
      → parts_begin words begin (sort ∷ wanted) (suc last) ≡ Some first → parts_begin words begin wanted (get_or begin last 0) ≡ Some first
  unfolding parts_begin
  part_served sort wanted last first e = by (serves sort (made_by (word_at words last 0))) e
    where
      by : (y : Bool) → elim y [ true ↦ parts_begin words begin wanted (get_or begin last 0) | false ↦ None ] ≡ Some first → parts_begin words begin wanted (get_or begin last 0) ≡ Some first
      by true q = q
      by false q = absurd (none_some q)

  none_wanted : (cursor first : ℕ) → parts_begin words begin [] cursor ≡ Some first → cursor ≡ first
  unfolding parts_begin
  none_wanted cursor first e = some_is e

  none_there : (sort : Sort) (wanted : List Sort) (first : ℕ) → parts_begin words begin (sort ∷ wanted) 0 ≡ Some first → ⊥
  unfolding parts_begin
  none_there sort wanted first e = none_some e

  join_start : (t : Links) (k rows : ℕ) → k < rows → Begun words begin rows → Linking (row_at words) t k → Joining t k k none
  join_start t k rows h b l = record { taken = 0; wanted = goal.parts_of (row_at words k); taking = taking_start (row_at words) t k l; found = b.begun k h; all = omega (arith, parts_many words k) }

  module _ (low : (k : ℕ) → get_or begin k 0 ≤ k) (t : Links) (same : (j : ℕ) → t.begin j ≡ get_or begin j 0) (k m : ℕ) (later : Option ℕ) where
    join_part : get_or begin k 0 < suc m → Joining t k (suc m) later → Joining (with_part t k m later) k (get_or begin m 0) (some m)
    join_part h j = by j.wanted j.found j.all
      where
        by : (wanted : List Sort) → parts_begin words begin wanted (suc m) ≡ Some (get_or begin k 0) → j.taken + length wanted ≡ parts_of (row_at words k)
            → Joining (with_part t k m later) k (get_or begin m 0) (some m)
        by [] q all = absurd (omega (arith, none_wanted (suc m) (get_or begin k 0) q, h))
        by (sort ∷ wanted) q all = record {
          taken = suc j.taken;
          wanted = wanted;
          taking = subst (λ (z : ℕ). Taking (row_at words) (with_part t k m later) k (suc j.taken) z (some m)) (same m) (taking_part (row_at words) t k j.taken m later j.taking);
          found = part_served sort wanted m (get_or begin k 0) q;
          all = omega (arith, all);
        }

  module _ (low : (k : ℕ) → get_or begin k 0 ≤ k) (t : Links) (same : (j : ℕ) → t.begin j ≡ get_or begin j 0) (k cursor : ℕ) (later : Option ℕ) where
    join_end : cursor ≤ get_or begin k 0 → Joining t k cursor later → Linking (row_at words) (with_row t k later) (suc k)
    join_end h j = by j.wanted j.found j.all
      where
        by : (wanted : List Sort) → parts_begin words begin wanted cursor ≡ Some (get_or begin k 0) → j.taken + length wanted ≡ parts_of (row_at words k)
            → Linking (row_at words) (with_row t k later) (suc k)
        by [] q all = taking_end (row_at words) t k j.taken cursor later j.taking (omega (arith, all)) (same k ∙ sym (none_wanted cursor (get_or begin k 0) q))
        by (sort ∷ wanted) q all = strict cursor q h
          where
            strict : (cursor : ℕ) → parts_begin words begin (sort ∷ wanted) cursor ≡ Some (get_or begin k 0) → cursor ≤ get_or begin k 0 → Linking (row_at words) (with_row t k later) (suc k)
            strict zero q h = absurd (none_there sort wanted (get_or begin k 0) q)
            strict (suc last) q h =
                let l : get_or begin k 0 ≤ get_or begin last 0 = parts_below low wanted (get_or begin last 0) (get_or begin k 0) (part_served sort wanted last (get_or begin k 0) q) in
                absurd (omega (arith, l, low last, h))

-- ---- the loops

module _ (begin : List ℕ) (rows : ℕ) where
  -- the rows before this one are linked
  pub record RowsDone (l : List Link) (row : ℕ) : Type 0 where
    pub most : row ≤ rows
    pub long : length l ≡ 2048
    pub linking : (words : List ℕ) → Begun words begin rows → Linking (row_at words) (links_of begin l) row

  -- and the parts of this row from the cursor on
  pub record PartsDone (l : List Link) (row cursor : ℕ) (later : code.Option ℕ) : Type 0 where
    pub under : cursor ≤ row
    pub long : length l ≡ 2048
    pub joining : (words : List ℕ) → Begun words begin rows → Joining words begin (links_of begin l) row cursor (if_any later)

  pub cursor_falls : ((k : ℕ) → get_or begin k 0 ≤ k) → (first cursor : ℕ) → first < cursor → get_or begin (cursor - 1) 0 < cursor
  cursor_falls low first cursor h = omega (arith, low (cursor - 1), h)

  pub rows_start : {l : List Link} → length l ≡ 2048 → ((k : ℕ) → get_or begin k 0 ≤ k) → RowsDone l 0
  rows_start {l} p low = record { most = omega arith; long = p; linking = λ words b. linking_start (row_at words) (links_of begin l) low }

  pub parts_start : {l : List Link} {row : ℕ} → RowsDone l row → row < rows → PartsDone l row row None
  parts_start {l} {row} d h =
      record { under = omega arith; long = d.long; joining = λ words b. join_start words begin (links_of begin l) row rows h b (d.linking words b) }

  pub parts_more : {l : List Link} {row cursor : ℕ} {later : code.Option ℕ} → ((k : ℕ) → get_or begin k 0 ≤ k) → row < 2048 → PartsDone l row cursor later → get_or begin row 0 < cursor
      → PartsDone (set l (cursor - 1) (record { parent = row; next = later; child = (link_at l (cursor - 1)).child })) row (get_or begin (cursor - 1) 0) (Some (cursor - 1))
  parts_more {l} {row} {cursor} {later} low few d h = by cursor d h
    where
      by : (cursor : ℕ) → PartsDone l row cursor later → get_or begin row 0 < cursor
          → PartsDone (set l (cursor - 1) (record { parent = row; next = later; child = (link_at l (cursor - 1)).child })) row (get_or begin (cursor - 1) 0) (Some (cursor - 1))
      by zero d h = absurd (omega arith)
      by (suc m) d h =
          let z : suc m - 1 ≡ m = omega arith in
          rw z (record {
            under = omega (arith, low m, d.under);
            long = length-set l m _ ∙ d.long;
            joining = λ words b. subst (λ (t : Links). Joining words begin t row (get_or begin m 0) (some m))
                (part_stored begin l row m later (omega (arith, d.under, d.long, few)))
                (join_part words begin low (links_of begin l) (λ j. refl) row m (if_any later) h (d.joining words b));
          })

  pub row_done : {l : List Link} {row cursor : ℕ} {later : code.Option ℕ} → ((k : ℕ) → get_or begin k 0 ≤ k) → row < rows → rows ≤ 2048
      → PartsDone l row cursor later → cursor ≤ get_or begin row 0
      → RowsDone (set l row (record { parent = (link_at l row).parent; next = (link_at l row).next; child = later })) (row + 1)
  row_done {l} {row} {cursor} {later} low h few p e = record {
    most = omega arith;
    long = length-set l row _ ∙ p.long;
    linking = λ words b. rw (add-one row) (subst (λ (t : Links). Linking (row_at words) t (suc row))
        (row_stored begin l row later (omega (arith, p.long, h, few)))
        (join_end words begin low (links_of begin l) (λ j. refl) row cursor (if_any later) e (p.joining words b)));
  }

  pub rows_linked : {l : List Link} {row : ℕ} → RowsDone l row → rows ≤ row → (words : List ℕ) → Begun words begin rows → RowsLinked words (links_of begin l) rows
  rows_linked d h words b k e = (d.linking words b).linked k (omega (arith, e, h))
