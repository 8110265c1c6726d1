-- The Boolean test of plainness (specs/PlainTest, `is_plain`) holds exactly of the plain tables: a table is shown plain by computation. For proofs/Example.
use mathlib.Core.Path.{◌≡◌, refl, sym, ap, ◌∙◌, subst}
use mathlib.Core.Logic.{◌↔◌}
use Prim.Native.Nat.{ℕ, zero, suc}
use mathlib.Core.List.{List, [], ◌∷◌}
use mathlib.Core.Option.{Option, none, some}
use mathlib.Core.Bool.{Bool, true, false, not, ◌&&◌, ◌||◌}
use lib.ListN.{get_or}
use lib.Dec.{eqb}
use borrow.Author.Tests.{eqb-true, eq-eqb, ne_eqb}
use Rattle.table.specs.Table.{Table, Block, no_block, Terminal, absent, unreachable, throw, return, goto, if, branch, switch, do_while, while, for, for_of}
use Rattle.table.specs.Table.{for_in, logical, ternary, optional, label, sequence, maybe_throw, try, scope, Variant, Break, Continue, Try, code_of, terminal_at}
use Rattle.table.specs.Table.{instruction_rows_at}
use Rattle.definition.specs.Completion.{contains}
use Rattle.definition.specs.Plain.{Width, paper_01, with_switch, Plain, plain_codes, case_blocks_of, different, IsCase, is_branch, fallthrough_of, other_names, ends_in_store, NotBranch, All}
use Rattle.definition.specs.PlainTest.{every_of, some_of, all_of, shape_of, is_while, is_branch_to, not_of_loop, goto_block, not_named, no_branches, shape_test, only_of, fallthrough_test, cases_test}
use Rattle.definition.specs.PlainTest.{block_test, is_plain}
use Rattle.definition.specs.Value.{is_fallthrough}
use Rattle.definition.proofs.Steps.{true_false, none_some, some_eq}

-- ---- Booleans

pub and_left : (a b : Bool) → a && b ≡ true → a ≡ true
and_left true b h = refl
and_left false b h = h

pub and_right : (a b : Bool) → a && b ≡ true → b ≡ true
and_right true b h = h
and_right false b h = absurd (true_false (sym h))

pub and_both : (a b : Bool) → a ≡ true → b ≡ true → a && b ≡ true
and_both true b h k = k
and_both false b h k = h

pub or_else : (a b : Bool) → a || b ≡ true → (a ≡ false → b ≡ true)
or_else true b h e = absurd (true_false e)
or_else false b h e = h

pub or_left : (a b : Bool) → a ≡ true → a || b ≡ true
or_left true b h = refl
or_left false b h = absurd (true_false (sym h))

pub or_right : (a b : Bool) → b ≡ true → a || b ≡ true
or_right true b h = refl
or_right false b h = h

pub not_is : (a : Bool) → not a ≡ true → a ≡ false
not_is true h = sym h
not_is false h = refl

pub is_not : (a : Bool) → a ≡ false → not a ≡ true
is_not true h = sym h
is_not false h = refl

pub by_cases : {P : Type 0} (a : Bool) → (a ≡ true → P) → (a ≡ false → P) → P
by_cases true f g = f refl
by_cases false f g = g refl

-- ---- every block and some block

pub every_at : (bs : List Block) (p : ℕ → Terminal → Bool) → ((c : ℕ) → p c absent ≡ true) → every_of bs p ≡ true → (c : ℕ) → p c (get_or bs c no_block).terminal ≡ true
every_at [] p q h c = q c
every_at (k ∷ ks) p q h zero = and_left (p 0 k.terminal) (every_of ks (λ n. p (suc n))) h
every_at (k ∷ ks) p q h (suc c) = every_at ks (λ n. p (suc n)) (λ n. q (suc n)) (and_right (p 0 k.terminal) (every_of ks (λ n. p (suc n))) h) c

pub every_of_lem : (bs : List Block) (p : ℕ → Terminal → Bool) → ((c : ℕ) → p c (get_or bs c no_block).terminal ≡ true) → every_of bs p ≡ true
every_of_lem [] p h = refl
every_of_lem (k ∷ ks) p h = and_both (p 0 k.terminal) (every_of ks (λ n. p (suc n))) (h 0) (every_of_lem ks (λ n. p (suc n)) (λ c. h (suc c)))

some_at : (bs : List Block) (p : ℕ → Terminal → Bool) → some_of bs p ≡ true → (c : ℕ) × (p c (get_or bs c no_block).terminal ≡ true)
some_at [] p h = absurd (true_false (sym h))
some_at (k ∷ ks) p h =
    by_cases (p 0 k.terminal) (λ e. (0, e))
    (λ e. let (c, q) = some_at ks (λ n. p (suc n)) (or_else (p 0 k.terminal) (some_of ks (λ n. p (suc n))) h e) in (suc c, q))

some_of_lem : (bs : List Block) (p : ℕ → Terminal → Bool) → ((c : ℕ) → p c absent ≡ false) → (c : ℕ) → p c (get_or bs c no_block).terminal ≡ true → some_of bs p ≡ true
some_of_lem [] p q c h = absurd (true_false (sym h ∙ q c))
some_of_lem (k ∷ ks) p q zero h = or_left (p 0 k.terminal) (some_of ks (λ n. p (suc n))) h
some_of_lem (k ∷ ks) p q (suc c) h = or_right (p 0 k.terminal) (some_of ks (λ n. p (suc n))) (some_of_lem ks (λ n. p (suc n)) (λ n. q (suc n)) c h)

pub all_at : (ns : List ℕ) (p : ℕ → Bool) (k : ℕ) → all_of ns p ≡ true → contains ns k ≡ true → p k ≡ true
all_at [] p k h q = absurd (true_false (sym q))
all_at (n ∷ ns) p k h q =
    by_cases (eqb n k) (λ e. subst (λ (z : ℕ). p z ≡ true) (eqb-true n k e) (and_left (p n) (all_of ns p) h))
    (λ e. all_at ns p k (and_right (p n) (all_of ns p) h) (or_else (eqb n k) (contains ns k) q e))

pub all_of_lem : (ns : List ℕ) (p : ℕ → Bool) → ((k : ℕ) → contains ns k ≡ true → p k ≡ true) → all_of ns p ≡ true
all_of_lem [] p h = refl
all_of_lem (n ∷ ns) p h =
    and_both (p n) (all_of ns p) (h n (or_left (eqb n n) (contains ns n) (eq-eqb n n refl))) (all_of_lem ns p (λ k q. h k (or_right (eqb n k) (contains ns k) q)))

-- ---- the shapes

while_of : (x' l' f' : ℕ) (m : Terminal) → is_while x' l' f' (shape_of m) ≡ true → m ≡ while x' l' f'
while_of x' l' f' absent h = absurd (true_false (sym h))
while_of x' l' f' unreachable h = absurd (true_false (sym h))
while_of x' l' f' (throw v) h = absurd (true_false (sym h))
while_of x' l' f' (return v) h = absurd (true_false (sym h))
while_of x' l' f' (goto g Break) h = absurd (true_false (sym h))
while_of x' l' f' (goto g Continue) h = absurd (true_false (sym h))
while_of x' l' f' (goto g Try) h = absurd (true_false (sym h))
while_of x' l' f' (if x y z f) h = absurd (true_false (sym h))
while_of x' l' f' (branch x y z) h = absurd (true_false (sym h))
while_of x' l' f' (switch x i n f) h = absurd (true_false (sym h))
while_of x' l' f' (do_while l x f) h = absurd (true_false (sym h))
while_of x' l' f' (while x l f) h =
    cc (
      eqb-true x x' (and_left (eqb x x') (eqb l l') (and_left (eqb x x' && eqb l l') (eqb f f') h)),
      eqb-true l l' (and_right (eqb x x') (eqb l l') (and_left (eqb x x' && eqb l l') (eqb f f') h)),
      eqb-true f f' (and_right (eqb x x' && eqb l l') (eqb f f') h),
    )
while_of x' l' f' (for i x u l f) h = absurd (true_false (sym h))
while_of x' l' f' (for_of i x l f) h = absurd (true_false (sym h))
while_of x' l' f' (for_in i l f) h = absurd (true_false (sym h))
while_of x' l' f' (logical o x f) h = absurd (true_false (sym h))
while_of x' l' f' (ternary x f) h = absurd (true_false (sym h))
while_of x' l' f' (optional o x f) h = absurd (true_false (sym h))
while_of x' l' f' (label x f) h = absurd (true_false (sym h))
while_of x' l' f' (sequence x f) h = absurd (true_false (sym h))
while_of x' l' f' (maybe_throw n) h = absurd (true_false (sym h))
while_of x' l' f' (try x k f n) h = absurd (true_false (sym h))
while_of x' l' f' (scope p x f n) h = absurd (true_false (sym h))

is_while_lem : (x l f : ℕ) (m : Terminal) → m ≡ while x l f → is_while x l f (shape_of m) ≡ true
is_while_lem x l f m e =
    ap (λ (z : Terminal). is_while x l f (shape_of z)) e
    ∙ and_both (eqb x x && eqb l l) (eqb f f) (and_both (eqb x x) (eqb l l) (eq-eqb x x refl) (eq-eqb l l refl)) (eq-eqb f f refl)

pub branch_of : (c a : ℕ) (m : Terminal) → is_branch_to c a (shape_of m) ≡ true → (p : ℕ) × (m ≡ branch p c a)
branch_of c' a' absent h = absurd (true_false (sym h))
branch_of c' a' unreachable h = absurd (true_false (sym h))
branch_of c' a' (throw v) h = absurd (true_false (sym h))
branch_of c' a' (return v) h = absurd (true_false (sym h))
branch_of c' a' (goto g Break) h = absurd (true_false (sym h))
branch_of c' a' (goto g Continue) h = absurd (true_false (sym h))
branch_of c' a' (goto g Try) h = absurd (true_false (sym h))
branch_of c' a' (if x y z f) h = absurd (true_false (sym h))
branch_of c' a' (branch x y z) h = (x, cc (eqb-true y c' (and_left (eqb y c') (eqb z a') h), eqb-true z a' (and_right (eqb y c') (eqb z a') h)))
branch_of c' a' (switch x i n f) h = absurd (true_false (sym h))
branch_of c' a' (do_while l x f) h = absurd (true_false (sym h))
branch_of c' a' (while x l f) h = absurd (true_false (sym h))
branch_of c' a' (for i x u l f) h = absurd (true_false (sym h))
branch_of c' a' (for_of i x l f) h = absurd (true_false (sym h))
branch_of c' a' (for_in i l f) h = absurd (true_false (sym h))
branch_of c' a' (logical o x f) h = absurd (true_false (sym h))
branch_of c' a' (ternary x f) h = absurd (true_false (sym h))
branch_of c' a' (optional o x f) h = absurd (true_false (sym h))
branch_of c' a' (label x f) h = absurd (true_false (sym h))
branch_of c' a' (sequence x f) h = absurd (true_false (sym h))
branch_of c' a' (maybe_throw n) h = absurd (true_false (sym h))
branch_of c' a' (try x k f n) h = absurd (true_false (sym h))
branch_of c' a' (scope p x f n) h = absurd (true_false (sym h))

pub is_branch_to_lem : (p c a : ℕ) (m : Terminal) → m ≡ branch p c a → is_branch_to c a (shape_of m) ≡ true
is_branch_to_lem p c a m e = ap (λ (z : Terminal). is_branch_to c a (shape_of z)) e ∙ and_both (eqb c c) (eqb a a) (eq-eqb c c refl) (eq-eqb a a refl)

not_of_loop_lem : (g : ℕ) (m : Terminal) → ((x l f : ℕ) → m ≡ while x l f → g ≡ l → ⊥) → ((x l f : ℕ) → m ≡ while x l f → g ≡ x → ⊥) → not_of_loop g (shape_of m) ≡ true
not_of_loop_lem g' absent no_l no_x = refl
not_of_loop_lem g' unreachable no_l no_x = refl
not_of_loop_lem g' (throw v) no_l no_x = refl
not_of_loop_lem g' (return v) no_l no_x = refl
not_of_loop_lem g' (goto g Break) no_l no_x = refl
not_of_loop_lem g' (goto g Continue) no_l no_x = refl
not_of_loop_lem g' (goto g Try) no_l no_x = refl
not_of_loop_lem g' (if x y z f) no_l no_x = refl
not_of_loop_lem g' (branch x y z) no_l no_x = refl
not_of_loop_lem g' (switch x i n f) no_l no_x = refl
not_of_loop_lem g' (do_while l x f) no_l no_x = refl
not_of_loop_lem g' (while x l f) no_l no_x =
    and_both (not (eqb g' l)) (not (eqb g' x)) (is_not (eqb g' l) (ne_eqb g' l (no_l x l f refl))) (is_not (eqb g' x) (ne_eqb g' x (no_x x l f refl)))
not_of_loop_lem g' (for i x u l f) no_l no_x = refl
not_of_loop_lem g' (for_of i x l f) no_l no_x = refl
not_of_loop_lem g' (for_in i l f) no_l no_x = refl
not_of_loop_lem g' (logical o x f) no_l no_x = refl
not_of_loop_lem g' (ternary x f) no_l no_x = refl
not_of_loop_lem g' (optional o x f) no_l no_x = refl
not_of_loop_lem g' (label x f) no_l no_x = refl
not_of_loop_lem g' (sequence x f) no_l no_x = refl
not_of_loop_lem g' (maybe_throw n) no_l no_x = refl
not_of_loop_lem g' (try x k f n) no_l no_x = refl
not_of_loop_lem g' (scope p x f n) no_l no_x = refl

pub fallthrough_is : (f : ℕ) (o : Option ℕ) → is_fallthrough o f ≡ true → o ≡ some f
fallthrough_is f none h = absurd (true_false (sym h))
fallthrough_is f (some g) h = ap some (eqb-true g f h)

pub is_fallthrough_lem : (f : ℕ) (o : Option ℕ) → o ≡ some f → is_fallthrough o f ≡ true
is_fallthrough_lem f o e = ap (λ (z : Option ℕ). is_fallthrough z f) e ∙ eq-eqb f f refl

pub goto_of : (k : ℕ) (m : Terminal) → goto_block m ≡ some k → (v : Variant) × (m ≡ goto k v)
goto_of b absent e = absurd (none_some e)
goto_of b unreachable e = absurd (none_some e)
goto_of b (throw v) e = absurd (none_some e)
goto_of b (return v) e = absurd (none_some e)
goto_of b (goto g v) e = (v, ap (λ (z : ℕ). goto z v) (some_eq e))
goto_of b (if x y z f) e = absurd (none_some e)
goto_of b (branch x y z) e = absurd (none_some e)
goto_of b (switch x i n f) e = absurd (none_some e)
goto_of b (do_while l x f) e = absurd (none_some e)
goto_of b (while x l f) e = absurd (none_some e)
goto_of b (for i x u l f) e = absurd (none_some e)
goto_of b (for_of i x l f) e = absurd (none_some e)
goto_of b (for_in i l f) e = absurd (none_some e)
goto_of b (logical o x f) e = absurd (none_some e)
goto_of b (ternary x f) e = absurd (none_some e)
goto_of b (optional o x f) e = absurd (none_some e)
goto_of b (label x f) e = absurd (none_some e)
goto_of b (sequence x f) e = absurd (none_some e)
goto_of b (maybe_throw n) e = absurd (none_some e)
goto_of b (try x k f n) e = absurd (none_some e)
goto_of b (scope p x f n) e = absurd (none_some e)

module _ (t : Table) where
  pub branches_none : (ns : List ℕ) → no_branches t ns ≡ true → All (NotBranch t) ns
  branches_none [] h = tt
  branches_none (n ∷ ns) h = (
    not_is (is_branch (terminal_at t n)) (and_left (not (is_branch (terminal_at t n))) (no_branches t ns) h),
    branches_none ns (and_right (not (is_branch (terminal_at t n))) (no_branches t ns) h),
  )

  pub none_branches : (ns : List ℕ) → All (NotBranch t) ns → no_branches t ns ≡ true
  none_branches [] h = refl
  none_branches (n ∷ ns) (h, k) = and_both (not (is_branch (terminal_at t n))) (no_branches t ns) (is_not (is_branch (terminal_at t n)) h) (none_branches ns k)

  -- a fallthrough of one block only
  pub only_at : (b f : ℕ) → only_of t b f ≡ true → (c : ℕ) → fallthrough_of (terminal_at t c) ≡ some f → b ≡ c
  only_at b f h c e =
      let named : Bool = is_fallthrough (fallthrough_of (terminal_at t c)) f in
      let other : eqb b c || not named ≡ true
      = every_at t.blocks (λ c m. eqb b c || not (is_fallthrough (fallthrough_of m) f)) (λ c. or_right (eqb b c) true refl) h c in
      by_cases (eqb b c) (eqb-true b c)
      (λ n. absurd (true_false (sym (is_fallthrough_lem f (fallthrough_of (terminal_at t c)) e) ∙ not_is named (or_else (eqb b c) (not named) other n))))

  pub only_of_lem : (b f : ℕ) → ((c : ℕ) → fallthrough_of (terminal_at t c) ≡ some f → b ≡ c) → only_of t b f ≡ true
  only_of_lem b f h = every_of_lem t.blocks (λ c m. eqb b c || not (is_fallthrough (fallthrough_of m) f)) at
    where
      at : (c : ℕ) → eqb b c || not (is_fallthrough (fallthrough_of (terminal_at t c)) f) ≡ true
      at c =
          let named : Bool = is_fallthrough (fallthrough_of (terminal_at t c)) f in
          by_cases named (λ q. or_left (eqb b c) (not named) (eq-eqb b c (h c (fallthrough_is f (fallthrough_of (terminal_at t c)) q))))
          (λ q. or_right (eqb b c) (not named) (is_not named q))

  -- ---- what passes the test is plain

  record Passed (width : Width) (b : ℕ) (m : Terminal) : Type 0 where
    code : contains (plain_codes width) (code_of m) ≡ true
    names : no_branches t (other_names m) ≡ true
    shape : shape_test t b (shape_of m) ≡ true
    fallthrough : fallthrough_test t b (fallthrough_of m) ≡ true
    cases : cases_test t (case_blocks_of t m) ≡ true

  passed_of : (width : Width) (b : ℕ) (m : Terminal) → block_test t width b m ≡ true → Passed width b m
  passed_of width b m h =
      let a : Bool = contains (plain_codes width) (code_of m) in
      let n : Bool = no_branches t (other_names m) in
      let s : Bool = shape_test t b (shape_of m) in
      let f : Bool = fallthrough_test t b (fallthrough_of m) in
      let c : Bool = cases_test t (case_blocks_of t m) in
      let h₁ : n && (s && (f && c)) ≡ true = and_right a (n && (s && (f && c))) h in
      let h₂ : s && (f && c) ≡ true = and_right n (s && (f && c)) h₁ in
      let h₃ : f && c ≡ true = and_right s (f && c) h₂ in
      record {
        code = and_left a (n && (s && (f && c))) h;
        names = and_left n (s && (f && c)) h₁;
        shape = and_left s (f && c) h₂;
        fallthrough = and_left f c h₃;
        cases = and_right f c h₃;
      }

  absent_passes : (width : Width) (b : ℕ) → block_test t width b absent ≡ true
  absent_passes paper_01 b = refl
  absent_passes with_switch b = refl

  module _ (width : Width) (h : is_plain t width ≡ true) where
    passed : (b : ℕ) → Passed width b (terminal_at t b)
    passed b =
        passed_of width b (terminal_at t b)
        (every_at t.blocks (λ c m. block_test t width c m) (absent_passes width) (and_right (not (is_branch (terminal_at t t.entry))) (every_of t.blocks (λ c m. block_test t width c m)) h) b)

    shape_at : (b : ℕ) (m : Terminal) → terminal_at t b ≡ m → shape_test t b (shape_of m) ≡ true
    shape_at b m e = subst (λ (z : Terminal). shape_test t b (shape_of z) ≡ true) e (passed b).shape

    fallthrough_at : (b f : ℕ) → fallthrough_of (terminal_at t b) ≡ some f → fallthrough_test t b (some f) ≡ true
    fallthrough_at b f e = subst (λ (z : Option ℕ). fallthrough_test t b z ≡ true) e (passed b).fallthrough

    branch_at : (b p c a : ℕ) → terminal_at t b ≡ branch p c a → (some_of t.blocks (λ w m. is_while b c a (shape_of m)) ≡ true) × (not (ends_in_store t (instruction_rows_at t b)) ≡ true)
    branch_at b p c a e =
        let s : Bool = some_of t.blocks (λ w m. is_while b c a (shape_of m)) in
        let n : Bool = not (ends_in_store t (instruction_rows_at t b)) in
        (and_left s n (shape_at b (branch p c a) e), and_right s n (shape_at b (branch p c a) e))

    tests : (b x l f : ℕ) → terminal_at t b ≡ while x l f → (p : ℕ) × (terminal_at t x ≡ branch p l f)
    tests b x l f e = branch_of l f (terminal_at t x) (shape_at b (while x l f) e)

    branches : (b p c a : ℕ) → terminal_at t b ≡ branch p c a → (w : ℕ) × (terminal_at t w ≡ while b c a)
    branches b p c a e =
        let (w, q) = some_at t.blocks (λ w m. is_while b c a (shape_of m)) (branch_at b p c a e).0 in
        (w, while_of b c a (terminal_at t w) q)

    one_fallthrough : (b c f : ℕ) → fallthrough_of (terminal_at t b) ≡ some f → fallthrough_of (terminal_at t c) ≡ some f → b ≡ c
    one_fallthrough b c f e e' = only_at b f (and_left (only_of t b f) (every_of t.blocks (λ w m. not_of_loop f (shape_of m))) (fallthrough_at b f e)) c e'

    no_loop_at : (b f w x l g : ℕ) → fallthrough_of (terminal_at t b) ≡ some f → terminal_at t w ≡ while x l g → not (eqb f l) && not (eqb f x) ≡ true
    no_loop_at b f w x l g e e' =
        subst (λ (m : Terminal). not_of_loop f (shape_of m) ≡ true) e'
        (every_at t.blocks (λ w m. not_of_loop f (shape_of m)) (λ c. refl)
        (and_right (only_of t b f) (every_of t.blocks (λ w m. not_of_loop f (shape_of m))) (fallthrough_at b f e)) w)

    -- two Whiles with one test have one fallthrough, as their test has one alternate; so they are one
    same_alternate : (p l f p' l' f' : ℕ) → branch p l f ≡ branch p' l' f' → f ≡ f'
    same_alternate p l f p' l' f' e = cc

    one_while : (b b' x l l' f f' : ℕ) → terminal_at t b ≡ while x l f → terminal_at t b' ≡ while x l' f' → b ≡ b'
    one_while b b' x l l' f f' e e' =
        let (p, q) = tests b x l f e in
        let (p', q') = tests b' x l' f' e' in
        one_fallthrough b b' f (ap fallthrough_of e) (ap fallthrough_of e' ∙ ap some (sym (same_alternate p l f p' l' f' (sym q ∙ q'))))

    -- nothing names a case block but its Switch
    named_at : (k : ℕ) → IsCase t k → (w : ℕ) → not_named k (terminal_at t w) ≡ true
    named_at k c w =
        every_at t.blocks (λ w m. not_named k m) (λ n. refl)
        (all_at (case_blocks_of t (terminal_at t c.of)) (λ k. every_of t.blocks (λ w m. not_named k m)) k
        (and_right (different (case_blocks_of t (terminal_at t c.of)))
        (all_of (case_blocks_of t (terminal_at t c.of)) (λ k. every_of t.blocks (λ w m. not_named k m))) (passed c.of).cases) c.among) w

    case_of_loop : (k : ℕ) → IsCase t k → (w x l f : ℕ) → terminal_at t w ≡ while x l f → not (eqb k l) && not (eqb k x) ≡ true
    case_of_loop k c w x l f e =
        subst (λ (m : Terminal). not_of_loop k (shape_of m) ≡ true) e
        (and_left (not_of_loop k (shape_of (terminal_at t w))) (not (is_fallthrough (goto_block (terminal_at t w)) k))
        (and_right (not (is_fallthrough (fallthrough_of (terminal_at t w)) k)) (not_of_loop k (shape_of (terminal_at t w)) && not (is_fallthrough (goto_block (terminal_at t w)) k)) (named_at k c w)))

    not_itself : (k : ℕ) → not (eqb k k) ≡ true → ⊥
    not_itself k q = true_false (sym (eq-eqb k k refl) ∙ not_is (eqb k k) q)

    case_goto : (b k : ℕ) (v : Variant) → terminal_at t b ≡ goto k v → IsCase t k → ⊥
    case_goto b k v e c =
        not_itself k (subst (λ (m : Terminal). not (is_fallthrough (goto_block m) k) ≡ true) e
        (and_right (not_of_loop k (shape_of (terminal_at t b))) (not (is_fallthrough (goto_block (terminal_at t b)) k))
        (and_right (not (is_fallthrough (fallthrough_of (terminal_at t b)) k)) (not_of_loop k (shape_of (terminal_at t b)) && not (is_fallthrough (goto_block (terminal_at t b)) k)) (named_at k c b))))

    case_fallthrough : (b k : ℕ) → fallthrough_of (terminal_at t b) ≡ some k → IsCase t k → ⊥
    case_fallthrough b k e c =
        not_itself k (subst (λ (o : Option ℕ). not (is_fallthrough o k) ≡ true) e
        (and_left (not (is_fallthrough (fallthrough_of (terminal_at t b)) k)) (not_of_loop k (shape_of (terminal_at t b)) && not (is_fallthrough (goto_block (terminal_at t b)) k)) (named_at k c b)))

    pub is_plain_lem : Plain width t
    is_plain_lem = record {
      ends = λ b. (passed b).code;
      no_goto_try = λ b g e. true_false (sym (shape_at b (goto g Try) e));
      tests = tests;
      entry = not_is (is_branch (terminal_at t t.entry)) (and_left (not (is_branch (terminal_at t t.entry))) (every_of t.blocks (λ c m. block_test t width c m)) h);
      branches = branches;
      one_while = one_while;
      names = λ b. branches_none (other_names (terminal_at t b)) (passed b).names;
      no_store = λ b p c a e. not_is (ends_in_store t (instruction_rows_at t b)) (branch_at b p c a e).1;
      one_fallthrough = one_fallthrough;
      no_loop = λ b f w x l g e e' q. true_false (sym (eq-eqb f l q) ∙ not_is (eqb f l) (and_left (not (eqb f l)) (not (eqb f x)) (no_loop_at b f w x l g e e')));
      no_test = λ b f w x l g e e' q. true_false (sym (eq-eqb f x q) ∙ not_is (eqb f x) (and_right (not (eqb f l)) (not (eqb f x)) (no_loop_at b f w x l g e e')));
      cases_differ = λ b. and_left (different (case_blocks_of t (terminal_at t b))) (all_of (case_blocks_of t (terminal_at t b)) (λ k. every_of t.blocks (λ w m. not_named k m))) (passed b).cases;
      case_fallthrough = case_fallthrough;
      case_loop = λ w x k f e c. not_itself k (and_left (not (eqb k k)) (not (eqb k x)) (case_of_loop k c w x k f e));
      case_test = λ w k l f e c. not_itself k (and_right (not (eqb k l)) (not (eqb k k)) (case_of_loop k c w k l f e));
      case_goto = case_goto;
    }

  -- ---- what is plain passes the test

  module _ (width : Width) (pl : Plain width t) where
    shape_passes : (b : ℕ) (m : Terminal) → terminal_at t b ≡ m → shape_test t b (shape_of m) ≡ true
    shape_passes b absent e = refl
    shape_passes b unreachable e = refl
    shape_passes b (throw v) e = refl
    shape_passes b (return v) e = refl
    shape_passes b (goto g Break) e = refl
    shape_passes b (goto g Continue) e = refl
    shape_passes b (goto g Try) e = absurd (pl.no_goto_try b g e)
    shape_passes b (if x y z f) e = refl
    shape_passes b (branch x y z) e =
        let (w, q) = pl.branches b x y z e in
        and_both (some_of t.blocks (λ w m. is_while b y z (shape_of m))) (not (ends_in_store t (instruction_rows_at t b)))
        (some_of_lem t.blocks (λ w m. is_while b y z (shape_of m)) (λ c. refl) w (is_while_lem b y z (terminal_at t w) q))
        (is_not (ends_in_store t (instruction_rows_at t b)) (pl.no_store b x y z e))
    shape_passes b (switch x i n f) e = refl
    shape_passes b (do_while l x f) e = refl
    shape_passes b (while x l f) e = let (p, q) = pl.tests b x l f e in is_branch_to_lem p l f (terminal_at t x) q
    shape_passes b (for i x u l f) e = refl
    shape_passes b (for_of i x l f) e = refl
    shape_passes b (for_in i l f) e = refl
    shape_passes b (logical o x f) e = refl
    shape_passes b (ternary x f) e = refl
    shape_passes b (optional o x f) e = refl
    shape_passes b (label x f) e = refl
    shape_passes b (sequence x f) e = refl
    shape_passes b (maybe_throw n) e = refl
    shape_passes b (try x k f n) e = refl
    shape_passes b (scope p x f n) e = refl

    fallthrough_passes : (b : ℕ) (o : Option ℕ) → fallthrough_of (terminal_at t b) ≡ o → fallthrough_test t b o ≡ true
    fallthrough_passes b none e = refl
    fallthrough_passes b (some f) e =
        and_both (only_of t b f) (every_of t.blocks (λ w m. not_of_loop f (shape_of m)))
        (only_of_lem b f (λ c e'. pl.one_fallthrough b c f e e'))
        (every_of_lem t.blocks (λ w m. not_of_loop f (shape_of m))
        (λ w. not_of_loop_lem f (terminal_at t w) (λ x l g q. pl.no_loop b f w x l g e q) (λ x l g q. pl.no_test b f w x l g e q)))

    named_passes : (k : ℕ) → IsCase t k → (w : ℕ) → not_named k (terminal_at t w) ≡ true
    named_passes k c w =
        let m : Terminal = terminal_at t w in
        and_both (not (is_fallthrough (fallthrough_of m) k)) (not_of_loop k (shape_of m) && not (is_fallthrough (goto_block m) k))
        (is_not (is_fallthrough (fallthrough_of m) k) (by_cases (is_fallthrough (fallthrough_of m) k) (λ h. absurd (pl.case_fallthrough w k (fallthrough_is k (fallthrough_of m) h) c)) (λ h. h)))
        (and_both (not_of_loop k (shape_of m)) (not (is_fallthrough (goto_block m) k))
        (not_of_loop_lem k m (λ x l f q e. pl.case_loop w x l f q (subst (λ (z : ℕ). IsCase t z) e c)) (λ x l f q e. pl.case_test w x l f q (subst (λ (z : ℕ). IsCase t z) e c)))
        (is_not (is_fallthrough (goto_block m) k) (by_cases (is_fallthrough (goto_block m) k)
        (λ h. let (v, q) = goto_of k m (fallthrough_is k (goto_block m) h) in absurd (pl.case_goto w k v q c)) (λ h. h))))

    cases_pass : (b : ℕ) → cases_test t (case_blocks_of t (terminal_at t b)) ≡ true
    cases_pass b =
        and_both (different (case_blocks_of t (terminal_at t b))) (all_of (case_blocks_of t (terminal_at t b)) (λ k. every_of t.blocks (λ w m. not_named k m))) (pl.cases_differ b)
        (all_of_lem (case_blocks_of t (terminal_at t b)) (λ k. every_of t.blocks (λ w m. not_named k m))
        (λ k q. every_of_lem t.blocks (λ w m. not_named k m) (λ w. named_passes k (record { of = b; among = q }) w)))

    block_passes : (b : ℕ) → block_test t width b (terminal_at t b) ≡ true
    block_passes b =
        let m : Terminal = terminal_at t b in
        let f : Bool = fallthrough_test t b (fallthrough_of m) in
        let c : Bool = cases_test t (case_blocks_of t m) in
        and_both (contains (plain_codes width) (code_of m)) (no_branches t (other_names m) && (shape_test t b (shape_of m) && (f && c))) (pl.ends b)
        (and_both (no_branches t (other_names m)) (shape_test t b (shape_of m) && (f && c)) (none_branches (other_names m) (pl.names b))
        (and_both (shape_test t b (shape_of m)) (f && c) (shape_passes b m refl) (and_both f c (fallthrough_passes b (fallthrough_of m) refl) (cases_pass b))))

    pub plain_is : is_plain t width ≡ true
    plain_is =
        and_both (not (is_branch (terminal_at t t.entry))) (every_of t.blocks (λ b m. block_test t width b m)) (is_not (is_branch (terminal_at t t.entry)) pl.entry)
        (every_of_lem t.blocks (λ b m. block_test t width b m) block_passes)

-- the test holds exactly of the plain tables
pub plain_test : (width : Width) (t : Table) → (is_plain t width ≡ true) ↔ Plain width t
plain_test width t = (λ h. is_plain_lem t width h, λ pl. plain_is t width pl)
