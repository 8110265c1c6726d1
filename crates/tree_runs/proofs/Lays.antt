-- Rows whose links are right lay out the tree that they are read as, with row numbers in it.
use mathlib.Core.Path.{◌≡◌, refl, sym, ap, ◌∙◌, subst}
use mathlib.Core.Logic.{◌⊎◌, inl, inr}
use Prim.Native.Nat.{ℕ, zero, suc, ◌+◌, ◌-◌, ◌≤◌, ◌<◌}
use native.Mathlib.Omega.{arith}
use native.Mathlib.Nat.{le_refl, zero-add, add-zero}
use mathlib.Core.List.{List, [], ◌∷◌, ◌++◌, append-nil}
use mathlib.Core.Option.{Option, none, some}
use mathlib.Core.Bool.{Bool, true, false}
use borrow.Author.Tests.{ne_eqb, eq-eqb}
use Rattle.table.specs.Words.{largest}
use Rattle.table.specs.Table.{unless_none}
use Rattle.definition.specs.Tree.{Kind, implicit, labeled, unlabeled, Value, PLAIN, LOAD, UNDEF, SEQ, LOGICAL, COND, OPTIONAL, Instructions, no_instructions}
use Rattle.definition.specs.Tree.{instruction, Statement, INSTR, IF, SWITCH, DOWHILE, WHILE, FOR, FOROF, FORIN, LABEL, TRY, SCOPE, RETURN, THROW, BREAK}
use Rattle.definition.specs.Tree.{CONTINUE, Statements, done, ◌▸◌, Cases, no_cases, CASE, Row, row, instr_row, for_of_row, for_in_row, or_none, kind_number, value_rows}
use Rattle.definition.specs.Tree.{instructions_rows, count_instructions, count_statements, count_cases, statement_rows, statements_rows, block_rows, cases_rows, rows}
use Rattle.definition.specs.Reading.{BelowNone, WellFormedStatement, WellFormed, WellFormedCases}
use Rattle.definition.specs.Completion.{Completion, break, continue}
use Rattle.definition.specs.TreeRun.{performs, performs_all, jump_completion}
use Rattle.tree_runs.specs.Numbered.{close_value, end_instructions, close_statement, end_statements, end_cases, numbered_value, numbered_instructions}
use Rattle.tree_runs.specs.Numbered.{numbered_statement, numbered, numbered_cases}
use Rattle.tree_runs.specs.Layout.{an_instr, a_block, an_if, a_switch, a_loop, a_label, a_leaf, Layout, Laid, LaidBlock, LaidList, LaidCases}
use Rattle.tree_runs.specs.Links.{Links, before, parts_of, Parts, no_part, a_part, Linked, is_plain, plains_from, plains, kind_of, jump_as, cases_back}
use Rattle.tree_runs.specs.Links.{for_node, node_of, case_before, is_case, next_of, parent_of, layout_of}

-- a jump's target is a block, and not none
abbrev pub Targets : Row → Type 0
Targets (row op a b c d e) = (op ≡ 24) ⊎ (op ≡ 25) → unless_none a ≡ some a

jump_as_lem : (k : Kind) (a id : ℕ) (jump : Option ℕ → ℕ → Completion) → unless_none a ≡ some a → jump_as k (unless_none a) id jump ≡ jump_completion k a id jump
unfolding jump_completion
jump_as_lem implicit a id jump e = refl
jump_as_lem unlabeled a id jump e = refl
jump_as_lem labeled a id jump e = ap (λ (z : Option ℕ). jump z id) e

module _ (row_at : ℕ → Row) (t : Links) (number : ℕ) where
  -- these rows stand from row f on, with their links, and they are the last
  pub data Stand : ℕ → List Row → Type 0 where
    at_end : {f : ℕ} → f ≡ number → Stand f []
    stands : {f : ℕ} {r : Row} {list : List Row} → row_at f ≡ r → Targets r → Linked row_at t f → Stand (suc f) list → Stand f (r ∷ list)

  pub onward : {f : ℕ} {r : Row} {list : List Row} → Stand f (r ∷ list) → Stand (suc f) list
  onward (stands e x k h) = h

  pub the_row : {f : ℕ} {r : Row} {list : List Row} → Stand f (r ∷ list) → row_at f ≡ r
  the_row (stands e x k h) = e

  targets : {r : Row} {list : List Row} (f : ℕ) → Stand f (r ∷ list) → Targets r
  targets f (stands e x k h) = x

  linked : {r : Row} {list : List Row} (f : ℕ) → Stand f (r ∷ list) → Parts t f (parts_of r) f none
  linked f (stands e x k h) = subst (λ (z : Row). Parts t f (parts_of z) f none) e k

  stand_le : (list : List Row) (f : ℕ) → Stand f list → f ≤ number
  stand_le [] f (at_end h) = omega (arith, h)
  stand_le (r ∷ list) f h = let q : suc f ≤ number = stand_le list (suc f) (onward h) in omega (arith, q)

  inside : {r : Row} {list : List Row} (f : ℕ) → Stand f (r ∷ list) → f < number
  inside {r} {list} f h = stand_le list (suc f) (onward h)

  part : {k n m f : ℕ} {later : Option ℕ} → Parts t k (suc n) (suc m) later → t.begin m ≡ f → (t.parent m ≡ k) × (t.next m ≡ later) × Parts t k n f (some m)
  part {k} {n} {m} (a_part p q r) b = (p, q, subst (λ (c : ℕ). Parts t k n c (some m)) b r)

  whole : {k f : ℕ} {x : Option ℕ} → Parts t k 0 f x → (t.begin k ≡ f) × (t.child k ≡ x)
  whole (no_part p q) = (p, q)

  -- ---- PLAINs

  record Plains (f e : ℕ) (xs : List ℕ) : Type 0 where
    up : f ≤ e
    same : plains row_at f e ≡ xs

  split_on : (m : Bool) (f : ℕ) (a b c : List ℕ) → a ≡ b ++ c → elim m [ true ↦ f ∷ a | false ↦ a ] ≡ (elim m [ true ↦ f ∷ b | false ↦ b ]) ++ c
  split_on true f a b c e = ap (λ (z : List ℕ). f ∷ z) e
  split_on false f a b c e = e

  split : (c d f g : ℕ) → f + c ≡ g → plains_from row_at f (c + d) ≡ plains_from row_at f c ++ plains_from row_at g d
  unfolding plains_from
  split zero d f g e =
      let q : 0 + d ≡ d = omega arith in
      let h : f ≡ g = omega (arith, e) in
      ap (λ (z : ℕ). plains_from row_at f z) q ∙ ap (λ (z : ℕ). plains_from row_at z d) h
  split (suc c) d f g e =
      let q : suc c + d ≡ suc (c + d) = omega arith in
      ap (λ (z : ℕ). plains_from row_at f z) q
      ∙ split_on (is_plain (row_at f)) f (plains_from row_at (suc f) (c + d)) (plains_from row_at (suc f) c) (plains_from row_at g d) (split c d (suc f) g (omega (arith, e)))

  plains_none : (f : ℕ) → Plains f f []
  unfolding plains_from
  plains_none f = record { up = le_refl f; same = let q : f - f ≡ 0 = omega arith in ap (λ (z : ℕ). plains_from row_at f z) q }

  plains_both : {f g e : ℕ} {xs ys : List ℕ} → Plains f g xs → Plains g e ys → Plains f e (xs ++ ys)
  plains_both {f} {g} {e} {xs} {ys} p q =
      let u : f ≤ g = p.up in
      let v : g ≤ e = q.up in
      let n : e - f ≡ (g - f) + (e - g) = omega (arith, u, v) in
      record {
        up = omega (arith, u, v);
        same =
            ap (λ (z : ℕ). plains_from row_at f z) n ∙ (split (g - f) (e - g) f g (omega (arith, u)) ∙
            (ap (λ (z : List ℕ). z ++ plains_from row_at g (e - g)) p.same ∙ ap (λ (z : List ℕ). xs ++ z) q.same));
      }

  one_row : (f : ℕ) → suc f - f ≡ 1
  one_row f = omega arith

  plains_row : (f : ℕ) → is_plain (row_at f) ≡ true → Plains f (suc f) (f ∷ [])
  unfolding plains_from
  plains_row f e = record { up = omega arith; same = ap (λ (z : ℕ). plains_from row_at f z) (one_row f) ∙ ap (λ (m : Bool). elim m [ true ↦ f ∷ [] | false ↦ [] ]) e }

  other_row : (f : ℕ) → is_plain (row_at f) ≡ false → Plains f (suc f) []
  unfolding plains_from
  other_row f e = record { up = omega arith; same = ap (λ (z : ℕ). plains_from row_at f z) (one_row f) ∙ ap (λ (m : Bool). elim m [ true ↦ f ∷ [] | false ↦ [] ]) e }

  no_more : {f e : ℕ} {xs : List ℕ} → Plains f e xs → is_plain (row_at e) ≡ false → Plains f (suc e) xs
  no_more {f} {e} {xs} p q = subst (λ (z : List ℕ). Plains f (suc e) z) (append-nil xs) (plains_both p (other_row e q))

  -- ---- values

  pub record ValueAt (f : ℕ) (v : Value) (after : List Row) : Type 0 where
    begins : t.begin (close_value f v) ≡ f
    performed : Plains f (suc (close_value f v)) (performs (numbered_value f v))
    pub rest : Stand (suc (close_value f v)) after

  pub record InstructionsAt (f : ℕ) (is : Instructions) (after : List Row) : Type 0 where
    performed : Plains f (end_instructions f is) (performs_all (numbered_instructions f is))
    pub rest : Stand (end_instructions f is) after
    back : (k j : ℕ) (x : Option ℕ) → Parts t k (count_instructions is + j) (end_instructions f is) x → (y : Option ℕ) × Parts t k j f y

  plain_of : {r : Row} {list : List Row} {y : Bool} (f : ℕ) → Stand f (r ∷ list) → is_plain r ≡ y → is_plain (row_at f) ≡ y
  plain_of f h q = ap (λ (z : Row). is_plain z) (the_row h) ∙ q

  next_one : (n m : ℕ) → suc n + m ≡ n + suc m
  next_one n m = omega arith

  mutual
    unfolding parts_of

    pub value_at : (v : Value) (f : ℕ) (after : List Row) → Stand f (value_rows v after) → ValueAt f v after
    value_at (PLAIN n) f after h = record { begins = (whole (linked f h)).0; performed = plains_row f (plain_of f h refl); rest = onward h }
    value_at (LOAD n) f after h = record { begins = (whole (linked f h)).0; performed = other_row f (plain_of f h refl); rest = onward h }
    value_at (UNDEF n) f after h = record { begins = (whole (linked f h)).0; performed = other_row f (plain_of f h refl); rest = onward h }
    value_at (SEQ is i v) f after h =
        let p = instructions_at is f (value_rows v (row 5 (count_instructions is) i 0 0 0 ∷ after)) h in
        let q = value_at v (end_instructions f is) (row 5 (count_instructions is) i 0 0 0 ∷ after) p.rest in
        let k : ℕ = suc (close_value (end_instructions f is) v) in
        let z = part (linked k q.rest) q.begins in
        let y = p.back k 0 _ (subst (λ (n : ℕ). Parts t k n (end_instructions f is) (some (close_value (end_instructions f is) v))) (sym (add-zero (count_instructions is))) z.2) in
        record { begins = (whole y.1).0; performed = no_more (plains_both p.performed q.performed) (plain_of k q.rest refl); rest = onward q.rest }
    value_at (LOGICAL o l r) f after h =
        let p = value_at l f (value_rows r (row 6 o 0 0 0 0 ∷ after)) h in
        let q = value_at r (suc (close_value f l)) (row 6 o 0 0 0 0 ∷ after) p.rest in
        let k : ℕ = suc (close_value (suc (close_value f l)) r) in
        record {
          begins = (whole (part (part (linked k q.rest) q.begins).2 p.begins).2).0;
          performed = no_more (plains_both p.performed q.performed) (plain_of k q.rest refl);
          rest = onward q.rest;
        }
    value_at (COND x y z) f after h =
        let p = value_at x f (value_rows y (value_rows z (row 7 0 0 0 0 0 ∷ after))) h in
        let q = value_at y (suc (close_value f x)) (value_rows z (row 7 0 0 0 0 0 ∷ after)) p.rest in
        let r = value_at z (suc (close_value (suc (close_value f x)) y)) (row 7 0 0 0 0 0 ∷ after) q.rest in
        let k : ℕ = suc (close_value (suc (close_value (suc (close_value f x)) y)) z) in
        record {
          begins = (whole (part (part (part (linked k r.rest) r.begins).2 q.begins).2 p.begins).2).0;
          performed = no_more (plains_both (plains_both p.performed q.performed) r.performed) (plain_of k r.rest refl);
          rest = onward r.rest;
        }
    value_at (OPTIONAL g v) f after h =
        let p = value_at v f (row 8 g 0 0 0 0 ∷ after) h in
        let k : ℕ = suc (close_value f v) in
        record { begins = (whole (part (linked k p.rest) p.begins).2).0; performed = no_more p.performed (plain_of k p.rest refl); rest = onward p.rest }

    pub instructions_at : (is : Instructions) (f : ℕ) (after : List Row) → Stand f (instructions_rows is after) → InstructionsAt f is after
    instructions_at no_instructions f after h =
        record { performed = plains_none f; rest = h; back = λ k j x p. (x, subst (λ (n : ℕ). Parts t k n f x) (zero-add j) p) }
    instructions_at (instruction i l s v r) f after h =
        let p = value_at v f (instr_row i l s ∷ instructions_rows r after) h in
        let m : ℕ = suc (close_value f v) in
        let q = instructions_at r (suc m) after (onward p.rest) in
        let b : t.begin m ≡ f = (whole (part (linked m p.rest) p.begins).2).0 in
        record {
          performed = plains_both (no_more p.performed (plain_of m p.rest refl)) q.performed;
          rest = q.rest;
          back = λ k j x z.
              let y = q.back k (suc j) x (subst (λ (n : ℕ). Parts t k n (end_instructions (suc m) r) x) (next_one (count_instructions r) j) z) in
              (some m, (part y.1 b).2);
        }

  -- ---- statements

  abbrev pub L : Layout
  L = layout_of row_at t number

  parent_is : (m k : ℕ) → m < k → k < number → t.parent m ≡ k → L.parent m ≡ some k
  unfolding parent_of
  parent_is m k u v e =
      let q : suc m ≡ number → ⊥ = λ z. omega (arith, u, v, z) in
      ap (λ (y : Bool). elim y [ true ↦ none | false ↦ some (t.parent m) ]) (ne_eqb (suc m) number q) ∙ ap (λ (z : ℕ). some z) e

  node_is : {r : Row} {list : List Row} (k : ℕ) → Stand k (r ∷ list) → L.node k ≡ node_of row_at t k r
  node_is k h = ap (λ (z : Row). node_of row_at t k z) (the_row h)

  case_of : {r : Row} {list : List Row} {y : Bool} (f : ℕ) → Stand f (r ∷ list) → is_case r ≡ y → is_case (row_at f) ≡ y
  case_of f h q = ap (λ (z : Row). is_case z) (the_row h) ∙ q

  next_is : (m : ℕ) (x : Option ℕ) → is_case (row_at m) ≡ false → t.next m ≡ x → L.next m ≡ x
  unfolding next_of
  next_is m x e q = ap (λ (y : Bool). elim y [ true ↦ case_before (t.begin m) (t.begin (t.parent m)) | false ↦ t.next m ]) e ∙ q

  next_case : (m f b : ℕ) → is_case (row_at m) ≡ true → t.begin m ≡ f → t.begin (t.parent m) ≡ b → L.next m ≡ case_before f b
  unfolding next_of
  next_case m f b e q p =
      ap (λ (y : Bool). elim y [ true ↦ case_before (t.begin m) (t.begin (t.parent m)) | false ↦ t.next m ]) e
      ∙ (ap (λ (z : ℕ). case_before z (t.begin (t.parent m))) q ∙ ap (λ (z : ℕ). case_before f z) p)

  label_read : (l : Option ℕ) → BelowNone l → unless_none (or_none l) ≡ l
  unfolding unless_none
  label_read none h = refl
  label_read (some n) h = ap (λ (y : Bool). elim y [ true ↦ none | false ↦ some n ]) (ne_eqb n largest (omega arith))

  kind_read : (k : Kind) → kind_of (kind_number k) ≡ k
  kind_read implicit = refl
  kind_read labeled = refl
  kind_read unlabeled = refl

  loop_same : {l l' : Option ℕ} {b b' : Option (List ℕ)} {a a' : List ℕ} {m m' : ℕ} → l ≡ l' → b ≡ b' → a ≡ a' → m ≡ m' → a_loop l b a m ≡ a_loop l' b' a' m'
  loop_same p q r s = cc

  plains_as : {f f' e e' : ℕ} {xs : List ℕ} → f' ≡ f → e' ≡ e → Plains f e xs → plains row_at f' e' ≡ xs
  plains_as {f} {f'} {e} {e'} p q h = ap (λ (z : ℕ). plains_from row_at z (e' - z)) p ∙ (ap (λ (z : ℕ). plains_from row_at f (z - f)) q ∙ h.same)

  pub record StatementAt (f : ℕ) (s : Statement) (after : List Row) : Type 0 where
    begins : t.begin (close_statement f s) ≡ f
    up : f ≤ close_statement f s
    laid : Laid L (numbered_statement f s) (close_statement f s)
    not_case : is_case (row_at (close_statement f s)) ≡ false
    pub rest : Stand (suc (close_statement f s)) after

  pub record BlockAt (f : ℕ) (ss : Statements) (after : List Row) : Type 0 where
    begins : t.begin (end_statements f ss) ≡ f
    up : f ≤ end_statements f ss
    laid : LaidBlock L (numbered f ss) (end_statements f ss)
    pub rest : Stand (suc (end_statements f ss)) after

  pub record ListAt (f : ℕ) (ss : Statements) (after : List Row) : Type 0 where
    up : f ≤ end_statements f ss
    pub rest : Stand (end_statements f ss) after
    lays : (k j : ℕ) → end_statements f ss ≤ k → k < number → Parts t k (count_statements ss + j) (end_statements f ss) none
        → (x : Option ℕ) × Parts t k j f x × LaidList L k (numbered f ss) x

  pub record CasesAt (f : ℕ) (cs : Cases) (after : List Row) : Type 0 where
    up : f ≤ end_cases f cs
    pub rest : Stand (end_cases f cs) after
    back : (n : ℕ) (later : List ℕ) → cases_back t (count_cases cs + n) (before (end_cases f cs)) later ≡ cases_back t (count_cases cs) (before (end_cases f cs)) (cases_back t n (before f) later)
    lays : (k j : ℕ) (x : Option ℕ) → end_cases f cs ≤ k → k < number → Parts t k (count_cases cs + j) (end_cases f cs) x
        → (y : Option ℕ) × Parts t k j f y × (t.begin k ≤ f → (all later : List ℕ) (next : Option ℕ) → case_before f (t.begin k) ≡ next
        → cases_back t (count_cases cs) (before (end_cases f cs)) later ≡ all → LaidCases L k all (numbered_cases f cs) next later)

  -- the parts of a value, with its first row
  plains_up : {f e : ℕ} {xs : List ℕ} → Plains f e xs → f ≤ e
  plains_up p = p.up

  -- a BLOCK, a value and their like as the only or the last part: the row's own numbers
  last_part : {n m f : ℕ} {r : Row} {list : List Row} → Stand (suc m) (r ∷ list) → parts_of r ≡ suc n → t.begin m ≡ f → (L.parent m ≡ some (suc m)) × Parts t (suc m) n f (some m)
  last_part {n} {m} {f} {r} h e b =
      let p = part (subst (λ (z : ℕ). Parts t (suc m) z (suc m) none) e (linked (suc m) h)) b in
      (parent_is m (suc m) (le_refl (suc m)) (inside (suc m) h) p.0, p.2)

  next_part : {k n m f : ℕ} {x : Option ℕ} → Parts t k (suc n) (suc m) x → m < k → k < number → t.begin m ≡ f → (L.parent m ≡ some k) × Parts t k n f (some m)
  next_part {k} {n} {m} q u v b = let p = part q b in (parent_is m k u v p.0, p.2)

  one_more : (n : ℕ) → suc n ≡ n + 1
  one_more n = omega arith

  not_first : (m b : ℕ) → b ≤ m → case_before (suc m) b ≡ some m
  not_first m b h =
      let q : suc m ≡ b → ⊥ = λ e. omega (arith, h, e) in
      ap (λ (y : Bool). elim y [ true ↦ none | false ↦ some m ]) (ne_eqb (suc m) b q)

  module _ (r : Cases) (kc : ℕ) where
    one_back : (e : ℕ) (later : List ℕ) → ((n : ℕ) (later : List ℕ) → cases_back t (count_cases r + n) (before e) later ≡ cases_back t (count_cases r) (before e) (cases_back t n kc later))
        → cases_back t (suc (count_cases r)) (before e) later ≡ cases_back t (count_cases r) (before e) (kc ∷ later)
    one_back e later q = ap (λ (n : ℕ). cases_back t n (before e) later) (one_more (count_cases r)) ∙ q 1 later

    back_on : (f e n : ℕ) (later : List ℕ) → t.begin kc ≡ f
        → ((n : ℕ) (later : List ℕ) → cases_back t (count_cases r + n) (before e) later ≡ cases_back t (count_cases r) (before e) (cases_back t n kc later))
        → cases_back t (suc (count_cases r) + n) (before e) later ≡ cases_back t (suc (count_cases r)) (before e) (cases_back t n (before f) later)
    back_on f e n later b q =
        ap (λ (z : ℕ). cases_back t z (before e) later) (next_one (count_cases r) n)
        ∙ (q (suc n) later
        ∙ (ap (λ (z : ℕ). cases_back t (count_cases r) (before e) (kc ∷ cases_back t n (before z) later)) b
        ∙ sym (one_back e (cases_back t n (before f) later) q)))

  for_without : (l : Option ℕ) → BelowNone l → (m f g e : ℕ) (xs ys : List ℕ) → t.begin (suc m) ≡ f → t.begin m ≡ e → t.begin (before e) ≡ g → Plains f g xs → Plains g e ys
      → for_node row_at t (suc m) 0 (unless_none (or_none l)) ≡ a_loop l (some (xs ++ ys)) ([] ++ ys) m
  for_without l wl m f g e xs ys bk bm be p q =
      loop_same (label_read l wl) (ap (λ (z : List ℕ). some z) (plains_as bk bm (plains_both p q)))
      (ap (λ (z : List ℕ). z ++ plains row_at (t.begin (before (t.begin m))) (t.begin m)) (plains_as bm bm (plains_none e))
      ∙ plains_as (ap (λ (z : ℕ). t.begin (before z)) bm ∙ be) bm q) refl

  for_with : (l : Option ℕ) → BelowNone l → (m f g e d : ℕ) (xs ys zs : List ℕ) → t.begin (suc m) ≡ f → t.begin m ≡ d → t.begin (before d) ≡ e
      → t.begin (before e) ≡ g → Plains f g xs → Plains g e ys → Plains e d zs
      → for_node row_at t (suc m) 1 (unless_none (or_none l)) ≡ a_loop l (some (xs ++ ys)) (zs ++ ys) m
  for_with l wl m f g e d xs ys zs bk bm bd be p q r =
      let te : t.begin (before (t.begin m)) ≡ e = ap (λ (z : ℕ). t.begin (before z)) bm ∙ bd in
      loop_same (label_read l wl) (ap (λ (z : List ℕ). some z) (plains_as bk te (plains_both p q)))
      (ap (λ (z : List ℕ). z ++ plains row_at (t.begin (before (t.begin (before (t.begin m))))) (t.begin (before (t.begin m)))) (plains_as te bm r)
      ∙ ap (λ (z : List ℕ). zs ++ z) (plains_as (ap (λ (z : ℕ). t.begin (before z)) te ∙ be) te q)) refl

  mutual
    unfolding parts_of node_of Laid LaidBlock LaidList LaidCases numbered_statement numbered numbered_cases WellFormedStatement WellFormed WellFormedCases

    pub statement_at : (s : Statement) (f : ℕ) (after : List Row) → WellFormedStatement s → Stand f (statement_rows s after) → StatementAt f s after
    statement_at (INSTR i l s v) f after w h =
        let p = value_at v f (instr_row i l s ∷ after) h in
        let k : ℕ = suc (close_value f v) in
        let b : t.begin k ≡ f = (whole (part (linked k p.rest) p.begins).2).0 in
        record {
          begins = b;
          up = plains_up p.performed;
          laid = node_is k p.rest ∙ ap (λ (z : List ℕ). an_instr z) (plains_as b refl p.performed);
          not_case = case_of k p.rest refl;
          rest = onward p.rest;
        }
    statement_at (IF x i l c true a) f after (wl, wc, wa, we) h =
        let p = block_at_lem c f (block_rows a (row 10 x 1 i (or_none l) 0 ∷ after)) wc h in
        let m : ℕ = end_statements f c in
        let q = block_at_lem a (suc m) (row 10 x 1 i (or_none l) 0 ∷ after) wa p.rest in
        let n : ℕ = end_statements (suc m) a in
        let u : suc m ≤ n = q.up in
        let v = last_part {n = 1} q.rest refl q.begins in
        let z = next_part v.1 (omega (arith, u)) (inside (suc n) q.rest) p.begins in
        let y : f ≤ m = p.up in
        record {
          begins = (whole z.1).0;
          up = omega (arith, u, y);
          laid = (
            m,
            n,
            node_is (suc n) q.rest ∙ (ap (λ (e : Option ℕ). an_if e (before (t.begin n)) (some n)) (label_read l wl) ∙ ap
                (λ (e : ℕ). an_if l (before e) (some n)) q.begins),
            z.0,
            p.laid,
            v.0,
            q.laid,
          );
          not_case = case_of (suc n) q.rest refl;
          rest = onward q.rest;
        }
    statement_at (IF x i l c false a) f after (wl, wc, wa, we) h =
        let p = block_at_lem c f (row 10 x 0 i (or_none l) 0 ∷ after) wc h in
        let m : ℕ = end_statements f c in
        let v = last_part {n = 0} p.rest refl p.begins in
        let y : f ≤ m = p.up in
        record {
          begins = (whole v.1).0;
          up = omega (arith, y);
          laid = (m, node_is (suc m) p.rest ∙ ap (λ (e : Option ℕ). an_if e m none) (label_read l wl), v.0, p.laid);
          not_case = case_of (suc m) p.rest refl;
          rest = onward p.rest;
        }
    statement_at (SWITCH x i l cs) f after (wl, wc) h =
        let p = cases_at cs f (row 12 x (count_cases cs) i (or_none l) 0 ∷ after) wc h in
        let k : ℕ = end_cases f cs in
        let z = p.lays k 0 none (le_refl k) (inside k p.rest) (subst (λ (n : ℕ). Parts t k n k none) (sym (add-zero (count_cases cs))) (linked k p.rest)) in
        let b : t.begin k ≡ f = (whole z.1).0 in
        record {
          begins = b;
          up = p.up;
          laid = (
            cases_back t (count_cases cs) (before k) [],
            node_is k p.rest ∙ ap (λ (e : Option ℕ). a_switch e (cases_back t (count_cases cs) (before k) [])) (label_read l wl),
            z.2 (omega (arith, b)) (cases_back t (count_cases cs) (before k) []) [] none (ap (λ (y : Bool). elim y [ true ↦ none | false ↦ some (before f) ]) (eq-eqb f (t.begin k) (sym b))) refl,
          );
          not_case = case_of k p.rest refl;
          rest = onward p.rest;
        }
    statement_at (DOWHILE i l b x) f after (wl, wb) h =
        let p = block_at_lem b f (value_rows x (row 13 i (or_none l) 0 0 0 ∷ after)) wb h in
        let m : ℕ = end_statements f b in
        let q = value_at x (suc m) (row 13 i (or_none l) 0 0 0 ∷ after) p.rest in
        let n : ℕ = close_value (suc m) x in
        let u : suc m ≤ suc n = plains_up q.performed in
        let v = last_part {n = 1} q.rest refl q.begins in
        let z = next_part v.1 (omega (arith, u)) (inside (suc n) q.rest) p.begins in
        let y : f ≤ m = p.up in
        record {
          begins = (whole z.1).0;
          up = omega (arith, u, y);
          laid = (m, node_is (suc n) q.rest ∙ loop_same (label_read l wl) refl (plains_as q.begins refl q.performed) (ap (λ (e : ℕ). before e) q.begins), z.0, p.laid);
          not_case = case_of (suc n) q.rest refl;
          rest = onward q.rest;
        }
    statement_at (WHILE i l x b) f after (wl, wb) h =
        let q = value_at x f (block_rows b (row 14 i (or_none l) 0 0 0 ∷ after)) h in
        let g : ℕ = suc (close_value f x) in
        let p = block_at_lem b g (row 14 i (or_none l) 0 0 0 ∷ after) wb q.rest in
        let m : ℕ = end_statements g b in
        let v = last_part {n = 1} p.rest refl p.begins in
        let bk : t.begin (suc m) ≡ f = (whole (part v.1 q.begins).2).0 in
        let u : f ≤ g = plains_up q.performed in
        let y : g ≤ m = p.up in
        let e : plains row_at (t.begin (suc m)) (t.begin m) ≡ performs (numbered_value f x) = plains_as bk p.begins q.performed in
        record {
          begins = bk;
          up = omega (arith, u, y);
          laid = (m, node_is (suc m) p.rest ∙ loop_same (label_read l wl) (ap (λ (z : List ℕ). some z) e) e refl, v.0, p.laid);
          not_case = case_of (suc m) p.rest refl;
          rest = onward p.rest;
        }
    statement_at (FOR i l n x none b) f after (wl, wb) h =
        let q = value_at n f (value_rows x (block_rows b (row 15 i (or_none l) 0 0 0 ∷ after))) h in
        let g : ℕ = suc (close_value f n) in
        let r = value_at x g (block_rows b (row 15 i (or_none l) 0 0 0 ∷ after)) q.rest in
        let e : ℕ = suc (close_value g x) in
        let p = block_at_lem b e (row 15 i (or_none l) 0 0 0 ∷ after) wb r.rest in
        let m : ℕ = end_statements e b in
        let v = last_part {n = 2} p.rest refl p.begins in
        let bk : t.begin (suc m) ≡ f = (whole (part (part v.1 r.begins).2 q.begins).2).0 in
        let u : f ≤ g = plains_up q.performed in
        let u' : g ≤ e = plains_up r.performed in
        let y : e ≤ m = p.up in
        record {
          begins = bk;
          up = omega (arith, u, u', y);
          laid = (
            m,
            node_is (suc m) p.rest ∙ for_without l wl m f g e (performs (numbered_value f n)) (performs
                (numbered_value g x)) bk p.begins r.begins q.performed r.performed,
            v.0,
            p.laid,
          );
          not_case = case_of (suc m) p.rest refl;
          rest = onward p.rest;
        }
    statement_at (FOR i l n x (some o) b) f after (wl, wb) h =
        let q = value_at n f (value_rows x (value_rows o (block_rows b (row 15 i (or_none l) 1 0 0 ∷ after)))) h in
        let g : ℕ = suc (close_value f n) in
        let r = value_at x g (value_rows o (block_rows b (row 15 i (or_none l) 1 0 0 ∷ after))) q.rest in
        let e : ℕ = suc (close_value g x) in
        let s = value_at o e (block_rows b (row 15 i (or_none l) 1 0 0 ∷ after)) r.rest in
        let d : ℕ = suc (close_value e o) in
        let p = block_at_lem b d (row 15 i (or_none l) 1 0 0 ∷ after) wb s.rest in
        let m : ℕ = end_statements d b in
        let v = last_part {n = 3} p.rest refl p.begins in
        let bk : t.begin (suc m) ≡ f = (whole (part (part (part v.1 s.begins).2 r.begins).2 q.begins).2).0 in
        let u : f ≤ g = plains_up q.performed in
        let u' : g ≤ e = plains_up r.performed in
        let u'' : e ≤ d = plains_up s.performed in
        let y : d ≤ m = p.up in
        record {
          begins = bk;
          up = omega (arith, u, u', u'', y);
          laid = (
            m,
            node_is (suc m) p.rest ∙ for_with l wl m f g e d (performs (numbered_value f n)) (performs (numbered_value g x)) (performs
                (numbered_value e o)) bk p.begins s.begins r.begins q.performed r.performed s.performed,
            v.0,
            p.laid,
          );
          not_case = case_of (suc m) p.rest refl;
          rest = onward p.rest;
        }
    statement_at (FOROF i l s n x b) f after (wl, wb) h =
        let q = value_at n f (value_rows x (block_rows b (for_of_row i (or_none l) s ∷ after))) h in
        let g : ℕ = suc (close_value f n) in
        let r = value_at x g (block_rows b (for_of_row i (or_none l) s ∷ after)) q.rest in
        let e : ℕ = suc (close_value g x) in
        let p = block_at_lem b e (for_of_row i (or_none l) s ∷ after) wb r.rest in
        let m : ℕ = end_statements e b in
        let v = last_part {n = 2} p.rest refl p.begins in
        let u : f ≤ g = plains_up q.performed in
        let u' : g ≤ e = plains_up r.performed in
        let y : e ≤ m = p.up in
        record {
          begins = (whole (part (part v.1 r.begins).2 q.begins).2).0;
          up = omega (arith, u, u', y);
          laid = node_is (suc m) p.rest;
          not_case = case_of (suc m) p.rest refl;
          rest = onward p.rest;
        }
    statement_at (FORIN i l s n b) f after (wl, wb) h =
        let q = value_at n f (block_rows b (for_in_row i (or_none l) s ∷ after)) h in
        let g : ℕ = suc (close_value f n) in
        let p = block_at_lem b g (for_in_row i (or_none l) s ∷ after) wb q.rest in
        let m : ℕ = end_statements g b in
        let v = last_part {n = 1} p.rest refl p.begins in
        let u : f ≤ g = plains_up q.performed in
        let y : g ≤ m = p.up in
        record {
          begins = (whole (part v.1 q.begins).2).0;
          up = omega (arith, u, y);
          laid = node_is (suc m) p.rest;
          not_case = case_of (suc m) p.rest refl;
          rest = onward p.rest;
        }
    statement_at (LABEL i l b) f after (wl, wb) h =
        let p = block_at_lem b f (row 18 i (or_none l) 0 0 0 ∷ after) wb h in
        let m : ℕ = end_statements f b in
        let v = last_part {n = 0} p.rest refl p.begins in
        let y : f ≤ m = p.up in
        record {
          begins = (whole v.1).0;
          up = omega (arith, y);
          laid = (m, node_is (suc m) p.rest ∙ ap (λ (e : Option ℕ). a_label e m) (label_read l wl), v.0, p.laid);
          not_case = case_of (suc m) p.rest refl;
          rest = onward p.rest;
        }
    statement_at (TRY i l n b c) f after (wl, wn, wb, wc) h =
        let p = block_at_lem b f (block_rows c (row 19 i (or_none l) (or_none n) 0 0 ∷ after)) wb h in
        let m : ℕ = end_statements f b in
        let q = block_at_lem c (suc m) (row 19 i (or_none l) (or_none n) 0 0 ∷ after) wc p.rest in
        let o : ℕ = end_statements (suc m) c in
        let u : suc m ≤ o = q.up in
        let v = last_part {n = 1} q.rest refl q.begins in
        let y : f ≤ m = p.up in
        record {
          begins = (whole (part v.1 p.begins).2).0;
          up = omega (arith, u, y);
          laid = node_is (suc o) q.rest;
          not_case = case_of (suc o) q.rest refl;
          rest = onward q.rest;
        }
    statement_at (SCOPE true s b) f after w h =
        let p = block_at_lem b f (row 21 s 0 0 0 0 ∷ after) w h in
        let m : ℕ = end_statements f b in
        let v = last_part {n = 0} p.rest refl p.begins in
        let y : f ≤ m = p.up in
        record { begins = (whole v.1).0; up = omega (arith, y); laid = (m, node_is (suc m) p.rest, v.0, p.laid); not_case = case_of (suc m) p.rest refl; rest = onward p.rest }
    statement_at (SCOPE false s b) f after w h =
        let p = block_at_lem b f (row 20 s 0 0 0 0 ∷ after) w h in
        let m : ℕ = end_statements f b in
        let v = last_part {n = 0} p.rest refl p.begins in
        let y : f ≤ m = p.up in
        record { begins = (whole v.1).0; up = omega (arith, y); laid = (m, node_is (suc m) p.rest, v.0, p.laid); not_case = case_of (suc m) p.rest refl; rest = onward p.rest }
    statement_at (RETURN v i) f after w h = record { begins = (whole (linked f h)).0; up = le_refl f; laid = node_is f h; not_case = case_of f h refl; rest = onward h }
    statement_at (THROW v i) f after w h = record { begins = (whole (linked f h)).0; up = le_refl f; laid = node_is f h; not_case = case_of f h refl; rest = onward h }
    statement_at (BREAK x i k n) f after w h =
        record {
          begins = (whole (linked f h)).0;
          up = le_refl f;
          laid = node_is f h ∙ (ap (λ (z : Kind). a_leaf (jump_as z (unless_none x) f break)) (kind_read k) ∙ ap (λ (z : Completion). a_leaf z)
              (jump_as_lem k x f break (targets f h (inl refl))));
          not_case = case_of f h refl;
          rest = onward h;
        }
    statement_at (CONTINUE x i k n) f after w h =
        record {
          begins = (whole (linked f h)).0;
          up = le_refl f;
          laid = node_is f h ∙ (ap (λ (z : Kind). a_leaf (jump_as z (unless_none x) f continue)) (kind_read k) ∙ ap (λ (z : Completion). a_leaf z)
              (jump_as_lem k x f continue (targets f h (inr refl))));
          not_case = case_of f h refl;
          rest = onward h;
        }

    pub block_at_lem : (ss : Statements) (f : ℕ) (after : List Row) → WellFormed ss → Stand f (block_rows ss after) → BlockAt f ss after
    block_at_lem done f after w h =
        record {
          begins = (whole (linked f h)).0;
          up = le_refl f;
          laid = node_is f h ∙ ap (λ (e : Option ℕ). a_block e) (whole (linked f h)).1;
          rest = onward h;
        }
    block_at_lem (s ▸ r) f after (ws, wr) h =
        let p = statement_at s f (statements_rows r (row 9 (suc (count_statements r)) 0 0 0 0 ∷ after)) ws h in
        let m : ℕ = close_statement f s in
        let q = list_at r (suc m) (row 9 (suc (count_statements r)) 0 0 0 0 ∷ after) wr p.rest in
        let k : ℕ = end_statements (suc m) r in
        let u : suc m ≤ k = q.up in
        let y : f ≤ m = p.up in
        let z = q.lays k 1 (le_refl k) (inside k q.rest) (subst (λ (n : ℕ). Parts t k n k none) (one_more (count_statements r)) (linked k q.rest)) in
        let v = part z.1 p.begins in
        record {
          begins = (whole v.2).0;
          up = omega (arith, u, y);
          laid = (
            m,
            node_is k q.rest ∙ ap (λ (e : Option ℕ). a_block e) (whole v.2).1,
            parent_is m k (omega (arith, u)) (inside k q.rest) v.0,
            p.laid,
            subst (λ (e : Option ℕ). LaidList L k (numbered (suc m) r) e) (sym (next_is m z.0 p.not_case v.1)) z.2,
          );
          rest = onward q.rest;
        }

    pub list_at : (ss : Statements) (f : ℕ) (after : List Row) → WellFormed ss → Stand f (statements_rows ss after) → ListAt f ss after
    list_at done f after w h = record { up = le_refl f; rest = h; lays = λ k j u v p. (none, subst (λ (n : ℕ). Parts t k n f none) (zero-add j) p, refl) }
    list_at (s ▸ r) f after (ws, wr) h =
        let p = statement_at s f (statements_rows r after) ws h in
        let m : ℕ = close_statement f s in
        let q = list_at r (suc m) after wr p.rest in
        let u : suc m ≤ end_statements (suc m) r = q.up in
        let y : f ≤ m = p.up in
        record {
          up = omega (arith, u, y);
          rest = q.rest;
          lays = λ k j w v d.
              let z = q.lays k (suc j) w v (subst (λ (n : ℕ). Parts t k n (end_statements (suc m) r) none) (next_one (count_statements r) j) d) in
              let e = part z.1 p.begins in (
                some m,
                e.2,
                (
                  m,
                  refl,
                  parent_is m k (omega (arith, u, w)) v e.0,
                  p.laid,
                  subst (λ (o : Option ℕ). LaidList L k (numbered (suc m) r) o) (sym (next_is m z.0 p.not_case e.1)) z.2,
                ),
              );
        }

    pub cases_at : (cs : Cases) (f : ℕ) (after : List Row) → WellFormedCases cs → Stand f (cases_rows cs after) → CasesAt f cs after
    cases_at no_cases f after w h =
        record {
          up = le_refl f;
          rest = h;
          back = λ n later. ap (λ (z : ℕ). cases_back t z (before f) later) (zero-add n);
          lays = λ k j x u v p. (x, subst (λ (n : ℕ). Parts t k n f x) (zero-add j) p, λ g all later next e q. q);
        }
    cases_at (CASE x b r) f after (wb, wr) h =
        let p = block_at_lem b f (row 11 x 0 0 0 0 ∷ cases_rows r after) wb h in
        let kb : ℕ = end_statements f b in
        let kc : ℕ = suc kb in
        let c = last_part {n = 0} p.rest refl p.begins in
        let bc : t.begin kc ≡ f = (whole c.1).0 in
        let q = cases_at r (suc kc) after wr (onward p.rest) in
        let u : suc kc ≤ end_cases (suc kc) r = q.up in
        let y : f ≤ kb = p.up in
        record {
          up = omega (arith, u, y);
          rest = q.rest;
          back = λ n later. back_on r kc f (end_cases (suc kc) r) n later bc q.back;
          lays = λ k j d w v o.
              let z = q.lays k (suc j) d w v (subst (λ (n : ℕ). Parts t k n (end_cases (suc kc) r) d) (next_one (count_cases r) j) o) in
              let e = part z.1 bc in (
                some kc,
                e.2,
                λ g all later next a i. (
                  kc,
                  kb,
                  node_is kc p.rest,
                  parent_is kc k (omega (arith, u, w)) v e.0,
                  next_case kc f (t.begin k) (case_of kc p.rest refl) bc (ap (λ (s : ℕ). t.begin s) e.0) ∙ a,
                  c.0,
                  p.laid,
                  z.2 (omega (arith, g, y)) all (kc ∷ later) (some kc) (not_first kc (t.begin k) (omega (arith, g, y)))
                      (sym (one_back r kc (end_cases (suc kc) r) later q.back) ∙ i),
                ),
              );
        }

  -- rows that stand from 0 on lay out the tree that they are read as, and its root has no parent
  pub root_laid : (root : Statements) → WellFormed root → Stand 0 (rows root)
      → LaidBlock L (numbered 0 root) (end_statements 0 root) × (L.parent (end_statements 0 root) ≡ none) × (suc (end_statements 0 root) ≡ number)
  unfolding parent_of
  root_laid root w h =
      let p = block_at_lem root 0 [] w h in
      (p.laid, ap (λ (y : Bool). elim y [ true ↦ none | false ↦ some (t.parent (end_statements 0 root)) ]) (eq-eqb (suc (end_statements 0 root)) number (end_of p.rest)), end_of p.rest)
    where
      end_of : {f : ℕ} → Stand f [] → f ≡ number
      end_of (at_end e) = e
