-- The Boolean test of the conditions on wide plain tables (specs/ValueTest, `is_wide`) holds exactly of these tables: a table is shown to be one by computation. One
-- direction takes the test apart, the other puts it together.
use mathlib.Core.Path.{◌≡◌, refl, sym, ap, ◌∙◌, subst}
use mathlib.Core.Logic.{◌↔◌}
use Prim.Native.Nat.{ℕ}
use mathlib.Core.List.{List, [], ◌∷◌}
use mathlib.Core.Option.{Option, none, some}
use mathlib.Core.Bool.{Bool, true, false, not, ◌&&◌, ◌||◌}
use lib.Dec.{eqb}
use borrow.Author.Tests.{eqb-true, eq-eqb, ne_eqb}
use Rattle.table.specs.Table.{Table, Terminal, Break, Continue, Try, absent, unreachable, throw, return, goto, if, branch, switch, do_while, while, for, for_of, for_in}
use Rattle.table.specs.Table.{logical, ternary, optional, label, sequence, maybe_throw, try, scope, code_of, is_unreachable, terminal_at, instruction_rows_at}
use Rattle.definition.specs.Completion.{contains}
use Rattle.definition.specs.Statement.{cases_last_first}
use Rattle.definition.specs.Value.{most_depth, is_fallthrough, is_empty, Ways, branch_ways}
use Rattle.definition.specs.Plain.{Width, paper_01, with_switch, fallthrough_of, All}
use Rattle.definition.specs.PlainLoops.{Loop, new_loop, loop_of, ends_in_own_load, proper_blocks_of, IsProper, Reached, may_be_open}
use Rattle.definition.specs.PlainTest.{every_of, all_of, goto_block, shape_of, is_branch_to, not_in_loop, last_is_own, all_reached, only_of}
use Rattle.definition.specs.ValueEnds.{ValueEnd, ends_at, end_of, value_fallthrough, store_at_end}
use Rattle.definition.specs.WideLoops.{wide_codes, wide_entered_by, WideLoops}
use Rattle.definition.specs.PlainValue.{test_of, is_optional, Asks, GoesTo, NoStore, straight_to, only_its_store, owns_test, exit_of, PlainValues}
use Rattle.definition.specs.ValueLaw.{WidePlain}
use Rattle.definition.specs.ValueTest.{goes_test, no_store_test, end_passes, arm_test, ways_pass, asks_test, exit_passes, one_owner, value_test, wide_update_test, wide_part_test, wide_loop_test}
use Rattle.definition.specs.ValueTest.{wide_end_test, wide_proper_test, wide_block_test, is_wide}
use Rattle.definition.proofs.Steps.{true_false, none_some, some_eq}
use Rattle.definition.proofs.PlainTest.{and_left, and_right, and_both, or_else, or_left, or_right, not_is, is_not, by_cases, every_at, every_of_lem, all_at, all_of_lem}
use Rattle.definition.proofs.PlainTest.{branch_of, is_branch_to_lem, fallthrough_is, is_fallthrough_lem, goto_of, only_at, only_of_lem}
use Rattle.definition.proofs.LoopTest.{drop_none, drops_none, reached_all, all_reached_lem}
use Rattle.definition.proofs.ValueReads.{branch_of_ways}
use Rattle.definition.proofs.Chains.{Owns}
use Rattle.definition.proofs.ChainsRead.{owns_is, owns_passes}

both : (a b : Bool) → a && b ≡ true → (a ≡ true) × (b ≡ true)
both a b h = (and_left a b h, and_right a b h)

last_of : (a b c d : Bool) → a && (b && (c && d)) ≡ true → d ≡ true
last_of a b c d h = and_right c d (and_right b (c && d) (and_right a (b && (c && d)) h))

empty_is : (rows : List ℕ) → is_empty rows ≡ true → rows ≡ []
empty_is [] h = refl
empty_is (r ∷ rs) h = absurd (true_false (sym h))

module _ (t : Table) where
  end_at : (c h e : ℕ) (p : ℕ → ℕ → Bool) → end_passes t (end_of t c) p ≡ true → end_of t c ≡ some (ends_at h e) → p h e ≡ true
  end_at c h e p k q = sym (ap (λ (z : Option ValueEnd). end_passes t z p) q) ∙ k

  goes_at : (e f : ℕ) → goes_test t e f ≡ true → GoesTo t e f
  goes_at e f h = goto_of f (terminal_at t e) (fallthrough_is f (goto_block (terminal_at t e)) h)

  arm_at : (c f h e : ℕ) → arm_test t c f ≡ true → end_of t c ≡ some (ends_at h e) → GoesTo t e f
  arm_at c f h e k q = goes_at e f (end_at c h e (λ h' e'. goes_test t e' f) k q)

  no_store_at : (h : ℕ) → no_store_test t h ≡ true → NoStore t h
  no_store_at h k = empty_is (store_at_end t (instruction_rows_at t h)) k

  asks_at : (x h y c d place : ℕ) (p : ℕ → ℕ → ℕ → ℕ → Bool) → asks_test t x p ≡ true → end_of t x ≡ some (ends_at h y) → terminal_at t y ≡ branch place c d → p h y c d ≡ true
  asks_at x h y c d place p k q e =
      sym (ap (λ (z : Terminal). ways_pass t (branch_ways z) (λ c' d'. p h y c' d')) e) ∙ end_at x h y (λ h' y'. ways_pass t (branch_ways (terminal_at t y')) (λ c' d'. p h' y' c' d')) k q

  module _ (width : Width) (h : is_wide t width ≡ true) where
    record Passed (b : ℕ) (m : Terminal) : Type 0 where
      code : contains (wide_codes width) (code_of m) ≡ true
      entered : all_reached t (wide_entered_by m) ≡ true
      part : wide_part_test t b m ≡ true
      loop : wide_loop_test t (loop_of m) ≡ true
      end : wide_end_test t b m (fallthrough_of m) ≡ true
      proper : all_of (proper_blocks_of t m) (wide_proper_test t) ≡ true
      value : value_test t b m ≡ true

    passed_of : (b : ℕ) (m : Terminal) → wide_block_test t width b m ≡ true → Passed b m
    passed_of b m k =
        let (a₁, k₁) = both _ _ k in
        let (a₂, k₂) = both _ _ k₁ in
        let (a₃, k₃) = both _ _ k₂ in
        let (a₄, k₄) = both _ _ k₃ in
        let (a₅, k₅) = both _ _ k₄ in
        let (a₆, k₆) = both _ _ k₅ in
        record { code = a₁; entered = a₂; part = a₃; loop = a₄; end = a₅; proper = a₆; value = k₆ }

    passed : (b : ℕ) → Passed b (terminal_at t b)
    passed b = passed_of b (terminal_at t b) (every_at t.blocks (λ c m. wide_block_test t width c m) (absent_passes width) (and_right _ _ h) b)
      where
        absent_passes : (width : Width) (b : ℕ) → wide_block_test t width b absent ≡ true
        absent_passes paper_01 b = refl
        absent_passes with_switch b = refl

    value_at : (b : ℕ) (m : Terminal) → terminal_at t b ≡ m → value_test t b m ≡ true
    value_at b m e = subst (λ (z : Terminal). value_test t b z ≡ true) e (passed b).value

    part_at : (b : ℕ) (m : Terminal) → terminal_at t b ≡ m → wide_part_test t b m ≡ true
    part_at b m e = subst (λ (z : Terminal). wide_part_test t b z ≡ true) e (passed b).part

    exit_is : (o : Option ℕ) (q : ℕ → Bool) → exit_passes t o q ≡ true → (x : ℕ) × (o ≡ some x) × (q x ≡ true)
    exit_is none q k = absurd (true_false (sym k))
    exit_is (some x) q k = (x, refl, k)

    -- of a Logical's, a Ternary's and an Optional's ways
    abbrev LogicalAt : (f h y c d : ℕ) → Bool
    LogicalAt f h y c d = no_store_test t h && (arm_test t c f && (arm_test t d f && (is_fallthrough (straight_to t most_depth c) f && only_its_store t c)))

    abbrev TernaryAt : (f h y c d : ℕ) → Bool
    TernaryAt f h y c d = no_store_test t h && (arm_test t c f && arm_test t d f)

    abbrev OptionalAt : (b f exit h y c d : ℕ) → Bool
    OptionalAt b f exit h y c d = no_store_test t h && (arm_test t c f && (is_fallthrough (straight_to t most_depth d) exit && one_owner t b y))

    ways_at : (b x : ℕ) (m : Terminal) (h y c d : ℕ) (p : ℕ → ℕ → ℕ → ℕ → Bool) → test_of m ≡ some x → asks_test t x p ≡ true → Asks t b m h y c d → p h y c d ≡ true
    ways_at b x m h y c d p q k a = asks_at x h y c d a.place p k (ap (λ (z : ℕ). end_of t z) (some_eq (sym q ∙ a.tested)) ∙ a.ends) a.ways

    optional_at : (b o x f : ℕ) → terminal_at t b ≡ optional o x f → (exit : ℕ) × (exit_of t most_depth b ≡ some exit) × (asks_test t x (OptionalAt b f exit) ≡ true)
    optional_at b o x f e = exit_is (exit_of t most_depth b) (λ exit. asks_test t x (OptionalAt b f exit)) (value_at b (optional o x f) e)

    alone : (e b : ℕ) → Owns t e b → one_owner t b e ≡ true
    alone e b o =
        let (exit, q, k) = optional_at b o.flag o.test o.fallthrough o.asks.terminal in
        last_of (no_store_test t o.holder) (arm_test t o.consequent o.fallthrough) (is_fallthrough (straight_to t most_depth o.alternate) exit) (one_owner t b e)
        (ways_at b o.test (optional o.flag o.test o.fallthrough) o.holder e o.consequent o.alternate (OptionalAt b o.fallthrough exit) refl k o.asks)

    abbrev Parts : (m : Terminal) (h c d : ℕ) → Type 0
    Parts m h c d = (f : ℕ) × (value_fallthrough m ≡ some f) × (no_store_test t h ≡ true) × (arm_test t c f ≡ true) × (is_optional m ≡ false → arm_test t d f ≡ true)

    parts_of : (b : ℕ) (m : Terminal) (h y c d : ℕ) → Asks t b m h y c d → value_test t b m ≡ true → Parts m h c d
    parts_of b absent h y c d a v = absurd (none_some a.tested)
    parts_of b unreachable h y c d a v = absurd (none_some a.tested)
    parts_of b (throw value) h y c d a v = absurd (none_some a.tested)
    parts_of b (return value) h y c d a v = absurd (none_some a.tested)
    parts_of b (goto block variant) h y c d a v = absurd (none_some a.tested)
    parts_of b (if test consequent alternate fallthrough) h y c d a v = absurd (none_some a.tested)
    parts_of b (branch test consequent alternate) h y c d a v = absurd (none_some a.tested)
    parts_of b (switch test first number fallthrough) h y c d a v = absurd (none_some a.tested)
    parts_of b (do_while loop test fallthrough) h y c d a v = absurd (none_some a.tested)
    parts_of b (while test loop fallthrough) h y c d a v = absurd (none_some a.tested)
    parts_of b (for init test update loop fallthrough) h y c d a v = absurd (none_some a.tested)
    parts_of b (for_of init test loop fallthrough) h y c d a v = absurd (none_some a.tested)
    parts_of b (for_in init loop fallthrough) h y c d a v = absurd (none_some a.tested)
    parts_of b (logical operator test fallthrough) h y c d a v =
        let k : LogicalAt fallthrough h y c d ≡ true = ways_at b test (logical operator test fallthrough) h y c d (LogicalAt fallthrough) refl v a in
        (fallthrough, refl, and_left _ _ k, and_left _ _ (and_right _ _ k), λ _. and_left _ _ (and_right _ _ (and_right _ _ k)))
    parts_of b (ternary test fallthrough) h y c d a v =
        let k : TernaryAt fallthrough h y c d ≡ true = ways_at b test (ternary test fallthrough) h y c d (TernaryAt fallthrough) refl v a in
        (fallthrough, refl, and_left _ _ k, and_left _ _ (and_right _ _ k), λ _. and_right _ _ (and_right _ _ k))
    parts_of b (optional flag test fallthrough) h y c d a v =
        let (exit, s, u) = exit_is (exit_of t most_depth b) (λ exit. asks_test t test (OptionalAt b fallthrough exit)) v in
        let k : OptionalAt b fallthrough exit h y c d ≡ true = ways_at b test (optional flag test fallthrough) h y c d (OptionalAt b fallthrough exit) refl u a in
        (fallthrough, refl, and_left _ _ k, and_left _ _ (and_right _ _ k), λ o. absurd (true_false o))
    parts_of b (label block fallthrough) h y c d a v = absurd (none_some a.tested)
    parts_of b (sequence block fallthrough) h y c d a v = absurd (none_some a.tested)
    parts_of b (maybe_throw continuation) h y c d a v = absurd (none_some a.tested)
    parts_of b (try block handler fallthrough binding) h y c d a v = absurd (none_some a.tested)
    parts_of b (scope pruned block fallthrough number) h y c d a v = absurd (none_some a.tested)

    parts_at : (b : ℕ) (m : Terminal) (h y c d : ℕ) → Asks t b m h y c d → Parts m h c d
    parts_at b m h y c d a = parts_of b m h y c d a (value_at b m a.terminal)

    end_parts : (b f : ℕ) → fallthrough_of (terminal_at t b) ≡ some f
        → (only_of t b f ≡ true) × (every_of t.blocks (λ w n. not_in_loop f (loop_of n)) ≡ true) × (not (is_unreachable (terminal_at t f)) || may_be_open (terminal_at t b) ≡ true)
    end_parts b f e =
        let (a, k) = both _ _ (subst (λ (z : Option ℕ). wide_end_test t b (terminal_at t b) z ≡ true) e (passed b).end) in
        let (a', k') = both _ _ k in (a, a', k')

    one_fallthrough : (b b' f : ℕ) → fallthrough_of (terminal_at t b) ≡ some f → fallthrough_of (terminal_at t b') ≡ some f → b ≡ b'
    one_fallthrough b b' f e e' = only_at t b f (end_parts b f e).0 b' e'

    pub test_values : PlainValues t
    test_values = record {
      yes_arm = λ b m h y c d f holder e a q k.
          let (f', q', s, u, v) = parts_at b m h y c d a in arm_at c f holder e (subst (λ (z : ℕ). arm_test t c z ≡ true) (some_eq (sym q' ∙ q)) u) k;
      no_arm = λ b m h y c d f holder e a o q k.
          let (f', q', s, u, v) = parts_at b m h y c d a in arm_at d f holder e (subst (λ (z : ℕ). arm_test t d z ≡ true) (some_eq (sym q' ∙ q)) (v o)) k;
      block_arm = λ b c f holder e q k. arm_at c f holder e (value_at b (sequence c f) q) k;
      left = λ b o x f h y c d a.
          let k : LogicalAt f h y c d ≡ true = ways_at b x (logical o x f) h y c d (LogicalAt f) refl (value_at b (logical o x f) a.terminal) a in
          let (to, only) = both (is_fallthrough (straight_to t most_depth c) f) (only_its_store t c)
          (last_of (no_store_test t h) (arm_test t c f) (arm_test t d f) (is_fallthrough (straight_to t most_depth c) f && only_its_store t c) k) in
          (fallthrough_is f (straight_to t most_depth c) to, only);
      exits = λ b o x f e. let (exit, q, u) = optional_at b o x f e in (exit, q);
      no_value = λ b o x f h y c d exit a q.
          let (exit', q', u) = optional_at b o x f a.terminal in
          let k : OptionalAt b f exit' h y c d ≡ true = ways_at b x (optional o x f) h y c d (OptionalAt b f exit') refl u a in
          fallthrough_is exit' (straight_to t most_depth d) (and_left (is_fallthrough (straight_to t most_depth d) exit') (one_owner t b y)
          (and_right (arm_test t c f) _ (and_right (no_store_test t h) _ k))) ∙ sym q' ∙ q;
      one_owner = λ e b b' p q.
          let s : eqb b b' || not (owns_test t e (terminal_at t b')) ≡ true =
          every_at t.blocks (λ c m. eqb b c || not (owns_test t e m)) (λ c. or_right (eqb b c) true refl) (alone e b (owns_is t e b p)) b' in
          by_cases (eqb b b') (eqb-true b b') (λ n. absurd (true_false (sym q ∙ not_is (owns_test t e (terminal_at t b')) (or_else (eqb b b') (not (owns_test t e (terminal_at t b'))) s n))));
      tests = λ b m h y c d a. let (f', q', s, u, v) = parts_at b m h y c d a in no_store_at h s;
    }

    proper_at : (k : ℕ) → IsProper t k → wide_proper_test t k ≡ true
    proper_at k c = all_at (proper_blocks_of t (terminal_at t c.of)) (wide_proper_test t) k (passed c.of).proper c.among

    outside_of : (f w x l g k : ℕ) → every_of t.blocks (λ w n. not_in_loop f (loop_of n)) ≡ true → loop_of (terminal_at t w) ≡ some (new_loop x l g k) → (eqb f l ≡ false) × (eqb f k ≡ false)
    outside_of f w x l g k e q =
        let (y, z) = both (not (eqb f l)) (not (eqb f k)) (subst (λ (z : Option Loop). not_in_loop f z ≡ true) q (every_at t.blocks (λ w n. not_in_loop f (loop_of n)) (λ c. refl) e w)) in
        (not_is (eqb f l) y, not_is (eqb f k) z)

    loop_at : (b x l f k h y : ℕ) → loop_of (terminal_at t b) ≡ some (new_loop x l f k) → end_of t x ≡ some (ends_at h y)
        → (is_branch_to l f (shape_of (terminal_at t y)) ≡ true) × (no_store_test t h ≡ true)
    loop_at b x l f k h y e q =
        both _ _ (end_at x h y (λ h y. is_branch_to l f (shape_of (terminal_at t y)) && no_store_test t h) (subst (λ (z : Option Loop). wide_loop_test t z ≡ true) e (passed b).loop) q)

    for_at : (b i x : ℕ) (u : Option ℕ) (l f : ℕ) → terminal_at t b ≡ for i x u l f
        → (end_passes t (end_of t i) (λ h e. goes_test t e x && not (ends_in_own_load t (instruction_rows_at t h))) ≡ true) × (wide_update_test t x u ≡ true)
    for_at b i x u l f e = both _ _ (part_at b (for i x u l f) e)

    init_at : (b i x : ℕ) (u : Option ℕ) (l f h e : ℕ) → terminal_at t b ≡ for i x u l f → end_of t i ≡ some (ends_at h e)
        → (goes_test t e x ≡ true) × (not (ends_in_own_load t (instruction_rows_at t h)) ≡ true)
    init_at b i x u l f h e q k = both _ _ (end_at i h e (λ h e. goes_test t e x && not (ends_in_own_load t (instruction_rows_at t h))) (for_at b i x u l f q).0 k)

    update_at : (b i x u l f h e : ℕ) → terminal_at t b ≡ for i x (some u) l f → end_of t u ≡ some (ends_at h e) → (goes_test t e x ≡ true) × (no_store_test t h ≡ true)
    update_at b i x u l f h e q k = both _ _ (end_at u h e (λ h e. goes_test t e x && no_store_test t h) (for_at b i x (some u) l f q).1 k)

    throw_at : (b n w : ℕ) → terminal_at t b ≡ maybe_throw n → (is_fallthrough (fallthrough_of (terminal_at t w)) n ≡ false) × (not_in_loop n (loop_of (terminal_at t w)) ≡ true)
        × (contains (proper_blocks_of t (terminal_at t w)) n ≡ false)
    throw_at b n w e =
        let (a, k) = both _ _ (every_at t.blocks (λ w m. not (is_fallthrough (fallthrough_of m) n) && (not_in_loop n (loop_of m) && not (contains (proper_blocks_of t m) n))) (λ c. refl) (part_at b (maybe_throw n) e) w) in
        let (a', k') = both _ _ k in (not_is _ a, a', not_is _ k')

    pub test_loops : WideLoops width t
    test_loops = record {
      ends = λ b. (passed b).code;
      no_goto_try = λ b g e. true_false (sym (part_at b (goto g Try) e));
      tests = λ b x l f k h y e q. branch_of l f (terminal_at t y) (loop_at b x l f k h y e q).0;
      inits = λ b i x u l f h e q k. goes_at e x (init_at b i x u l f h e q k).0;
      updates = λ b i x u l f h e q k. goes_at e x (update_at b i x u l f h e q k).0;
      test_store = λ b x l f k h y e q. no_store_at h (loop_at b x l f k h y e q).1;
      update_store = λ b i x u l f h e q k. no_store_at h (update_at b i x u l f h e q k).1;
      init_load = λ b i x u l f h e q k. not_is _ (init_at b i x u l f h e q k).1;
      one_fallthrough = one_fallthrough;
      no_loop = λ b f w x l g k e q z. true_false (sym (eq-eqb f l z) ∙ (outside_of f w x l g k (end_parts b f e).1 q).0);
      no_again = λ b f w x l g k e q z. true_false (sym (eq-eqb f k z) ∙ (outside_of f w x l g k (end_parts b f e).1 q).1);
      case_fallthrough = λ b k e c.
          true_false (sym (is_fallthrough_lem k (fallthrough_of (terminal_at t b)) e) ∙ not_is (is_fallthrough (fallthrough_of (terminal_at t b)) k)
          (every_at t.blocks (λ w m. not (is_fallthrough (fallthrough_of m) k)) (λ n. refl) (and_right _ _ (proper_at k c)) b));
      entry_reached = not_is (is_unreachable (terminal_at t t.entry)) (and_left _ _ h);
      entered = λ b. reached_all t (wide_entered_by (terminal_at t b)) (passed b).entered;
      case_reached = λ k c. not_is (is_unreachable (terminal_at t k)) (and_left _ _ (proper_at k c));
      open_ends = λ b f e q. or_else (not (is_unreachable (terminal_at t f))) (may_be_open (terminal_at t b)) (end_parts b f e).2 (ap not q);
      open_cases = λ b x i n f e q.
          drop_none f (cases_last_first t i n) (not_is _ (or_else (not (is_unreachable (terminal_at t f))) (not (last_is_own f (cases_last_first t i n))) (part_at b (switch x i n f) e) (ap not q)));
      throw_fallthrough = λ b b' n e q. true_false (sym (is_fallthrough_lem n (fallthrough_of (terminal_at t b')) q) ∙ (throw_at b n b' e).0);
      throw_case = λ b n e c. true_false (sym c.among ∙ (throw_at b n c.of e).2);
      throw_loop = λ b n w x f k e q. true_false (sym (eq-eqb n n refl) ∙ not_is (eqb n n) (and_left _ _ (subst (λ (z : Option Loop). not_in_loop n z ≡ true) q (throw_at b n w e).1)));
      throw_again = λ b n w x l f e q. true_false (sym (eq-eqb n n refl) ∙ not_is (eqb n n) (and_right _ _ (subst (λ (z : Option Loop). not_in_loop n z ≡ true) q (throw_at b n w e).1)));
    }

    pub test_plain : WidePlain width t
    test_plain = record { loops = test_loops; values = test_values }

  -- ---- what has the conditions passes the test

  goes : (e f : ℕ) → GoesTo t e f → goes_test t e f ≡ true
  goes e f (k, q) = is_fallthrough_lem f (goto_block (terminal_at t e)) (ap goto_block q)

  end_all : (x : ℕ) (p : ℕ → ℕ → Bool) → ((h e : ℕ) → end_of t x ≡ some (ends_at h e) → p h e ≡ true) → end_passes t (end_of t x) p ≡ true
  end_all x p k = at (end_of t x) refl
    where
      at : (o : Option ValueEnd) → end_of t x ≡ o → end_passes t o p ≡ true
      at none q = refl
      at (some a) q = k a.holder a.end q

  arm_all : (c f : ℕ) → ((h e : ℕ) → end_of t c ≡ some (ends_at h e) → GoesTo t e f) → arm_test t c f ≡ true
  arm_all c f k = end_all c (λ h e. goes_test t e f) (λ h e q. goes e f (k h e q))

  asks_all : (b x : ℕ) (m : Terminal) (p : ℕ → ℕ → ℕ → ℕ → Bool) → terminal_at t b ≡ m → test_of m ≡ some x → ((h y c d : ℕ) → Asks t b m h y c d → p h y c d ≡ true)
      → asks_test t x p ≡ true
  asks_all b x m p e q k = end_all x (λ h y. ways_pass t (branch_ways (terminal_at t y)) (λ c d. p h y c d)) (λ h y w. at h y w (branch_ways (terminal_at t y)) refl)
    where
      at : (h y : ℕ) → end_of t x ≡ some (ends_at h y) → (o : Option Ways) → branch_ways (terminal_at t y) ≡ o → ways_pass t o (λ c d. p h y c d) ≡ true
      at h y w none s = refl
      at h y w (some ways) s =
          let (place, u) = branch_of_ways (terminal_at t y) ways s in
          k h y ways.consequent ways.alternate (record { test = x; place = place; terminal = e; tested = q; ends = w; ways = u })

  module _ (width : Width) (plain : WidePlain width t) where
    pl : WideLoops width t
    pl = plain.loops

    pv : PlainValues t
    pv = plain.values

    no_store : (h : ℕ) → NoStore t h → no_store_test t h ≡ true
    no_store h q = ap is_empty q

    alone_passes : (b o x f h y c d : ℕ) → Asks t b (optional o x f) h y c d → one_owner t b y ≡ true
    alone_passes b o x f h y c d a = every_of_lem t.blocks (λ w m. eqb b w || not (owns_test t y m)) (λ w. at w (owns_test t y (terminal_at t w)) refl)
      where
        own : owns_test t y (terminal_at t b) ≡ true
        own = owns_passes t y b (record { flag = o; test = x; fallthrough = f; holder = h; consequent = c; alternate = d; asks = a })

        at : (w : ℕ) (z : Bool) → owns_test t y (terminal_at t w) ≡ z → eqb b w || not (owns_test t y (terminal_at t w)) ≡ true
        at w true q = or_left (eqb b w) (not (owns_test t y (terminal_at t w))) (eq-eqb b w (pv.one_owner y b w own q))
        at w false q = or_right (eqb b w) (not (owns_test t y (terminal_at t w))) (is_not (owns_test t y (terminal_at t w)) q)

    value_passes : (b : ℕ) (m : Terminal) → terminal_at t b ≡ m → value_test t b m ≡ true
    value_passes b absent e = refl
    value_passes b unreachable e = refl
    value_passes b (throw value) e = refl
    value_passes b (return value) e = refl
    value_passes b (goto block variant) e = refl
    value_passes b (if test consequent alternate fallthrough) e = refl
    value_passes b (branch test consequent alternate) e = refl
    value_passes b (switch test first number fallthrough) e = refl
    value_passes b (do_while loop test fallthrough) e = refl
    value_passes b (while test loop fallthrough) e = refl
    value_passes b (for init test update loop fallthrough) e = refl
    value_passes b (for_of init test loop fallthrough) e = refl
    value_passes b (for_in init loop fallthrough) e = refl
    value_passes b (logical operator test fallthrough) e =
        asks_all b test (logical operator test fallthrough) (λ h y c d. no_store_test t h && (arm_test t c fallthrough && (arm_test t d fallthrough && (is_fallthrough (straight_to t most_depth c) fallthrough && only_its_store t c)))) e refl
        (λ h y c d a. let (to, only) = pv.left b operator test fallthrough h y c d a in
        and_both _ _ (no_store h (pv.tests b (logical operator test fallthrough) h y c d a))
        (and_both _ _ (arm_all c fallthrough (λ h' e' q. pv.yes_arm b (logical operator test fallthrough) h y c d fallthrough h' e' a refl q))
        (and_both _ _ (arm_all d fallthrough (λ h' e' q. pv.no_arm b (logical operator test fallthrough) h y c d fallthrough h' e' a refl refl q))
        (and_both _ _ (is_fallthrough_lem fallthrough (straight_to t most_depth c) to) only))))
    value_passes b (ternary test fallthrough) e =
        asks_all b test (ternary test fallthrough) (λ h y c d. no_store_test t h && (arm_test t c fallthrough && arm_test t d fallthrough)) e refl
        (λ h y c d a. and_both _ _ (no_store h (pv.tests b (ternary test fallthrough) h y c d a))
        (and_both _ _ (arm_all c fallthrough (λ h' e' q. pv.yes_arm b (ternary test fallthrough) h y c d fallthrough h' e' a refl q))
        (arm_all d fallthrough (λ h' e' q. pv.no_arm b (ternary test fallthrough) h y c d fallthrough h' e' a refl refl q))))
    value_passes b (optional flag test fallthrough) e =
        let (exit, q) = pv.exits b flag test fallthrough e in
        subst (λ (z : Option ℕ). exit_passes t z (λ exit'. asks_test t test (λ h y c d. no_store_test t h && (arm_test t c fallthrough && (is_fallthrough (straight_to t most_depth d) exit' && one_owner t b y)))) ≡ true) (sym q)
        (asks_all b test (optional flag test fallthrough) (λ h y c d. no_store_test t h && (arm_test t c fallthrough && (is_fallthrough (straight_to t most_depth d) exit && one_owner t b y))) e refl
        (λ h y c d a. and_both _ _ (no_store h (pv.tests b (optional flag test fallthrough) h y c d a))
        (and_both _ _ (arm_all c fallthrough (λ h' e' k. pv.yes_arm b (optional flag test fallthrough) h y c d fallthrough h' e' a refl k))
        (and_both _ _ (is_fallthrough_lem exit (straight_to t most_depth d) (pv.no_value b flag test fallthrough h y c d exit a q)) (alone_passes b flag test fallthrough h y c d a)))))
    value_passes b (label block fallthrough) e = refl
    value_passes b (sequence block fallthrough) e = arm_all block fallthrough (λ h e' q. pv.block_arm b block fallthrough h e' e q)
    value_passes b (maybe_throw continuation) e = refl
    value_passes b (try block handler fallthrough binding) e = refl
    value_passes b (scope pruned block fallthrough number) e = refl

    throw_passes : (b n : ℕ) → terminal_at t b ≡ maybe_throw n → wide_part_test t b (maybe_throw n) ≡ true
    throw_passes b n e =
        every_of_lem t.blocks (λ w m. not (is_fallthrough (fallthrough_of m) n) && (not_in_loop n (loop_of m) && not (contains (proper_blocks_of t m) n)))
        (λ w. and_both _ _ (is_not _ (no_end w)) (and_both _ _ (no_loop w (loop_of (terminal_at t w)) refl) (is_not _ (no_case w))))
      where
        no_end : (w : ℕ) → is_fallthrough (fallthrough_of (terminal_at t w)) n ≡ false
        no_end w =
            by_cases (is_fallthrough (fallthrough_of (terminal_at t w)) n) (λ q. absurd (pl.throw_fallthrough b w n e (fallthrough_is n (fallthrough_of (terminal_at t w)) q))) (λ q. q)

        no_loop : (w : ℕ) (o : Option Loop) → loop_of (terminal_at t w) ≡ o → not_in_loop n o ≡ true
        no_loop w none q = refl
        no_loop w (some k) q =
            and_both _ _ (is_not _ (ne_eqb n k.body (λ i. pl.throw_loop b k.body w k.test k.fallthrough k.again (e ∙ ap maybe_throw i) q)))
            (is_not _ (ne_eqb n k.again (λ i. pl.throw_again b k.again w k.test k.body k.fallthrough (e ∙ ap maybe_throw i) q)))

        no_case : (w : ℕ) → contains (proper_blocks_of t (terminal_at t w)) n ≡ false
        no_case w = by_cases (contains (proper_blocks_of t (terminal_at t w)) n) (λ q. absurd (pl.throw_case b n e (record { of = w; among = q }))) (λ q. q)

    init_passes : (b i x : ℕ) (u : Option ℕ) (l f : ℕ) → terminal_at t b ≡ for i x u l f
        → end_passes t (end_of t i) (λ h e. goes_test t e x && not (ends_in_own_load t (instruction_rows_at t h))) ≡ true
    init_passes b i x u l f e =
        end_all i (λ h e. goes_test t e x && not (ends_in_own_load t (instruction_rows_at t h)))
        (λ h g q. and_both _ _ (goes g x (pl.inits b i x u l f h g e q)) (is_not _ (pl.init_load b i x u l f h g e q)))

    open_passes : (b x i n f : ℕ) → terminal_at t b ≡ switch x i n f → not (is_unreachable (terminal_at t f)) || not (last_is_own f (cases_last_first t i n)) ≡ true
    open_passes b x i n f e =
        let reached : Bool = not (is_unreachable (terminal_at t f)) in
        let own : Bool = last_is_own f (cases_last_first t i n) in
        by_cases (is_unreachable (terminal_at t f)) (λ q. or_right reached (not own) (is_not own (drops_none f (cases_last_first t i n) (pl.open_cases b x i n f e q))))
        (λ q. or_left reached (not own) (is_not (is_unreachable (terminal_at t f)) q))

    part_passes : (b : ℕ) (m : Terminal) → terminal_at t b ≡ m → wide_part_test t b m ≡ true
    part_passes b absent e = refl
    part_passes b unreachable e = refl
    part_passes b (throw value) e = refl
    part_passes b (return value) e = refl
    part_passes b (goto block Break) e = refl
    part_passes b (goto block Continue) e = refl
    part_passes b (goto block Try) e = absurd (pl.no_goto_try b block e)
    part_passes b (if test consequent alternate fallthrough) e = refl
    part_passes b (branch test consequent alternate) e = refl
    part_passes b (switch test first number fallthrough) e = open_passes b test first number fallthrough e
    part_passes b (do_while loop test fallthrough) e = refl
    part_passes b (while test loop fallthrough) e = refl
    part_passes b (for init test none loop fallthrough) e = and_both _ _ (init_passes b init test none loop fallthrough e) refl
    part_passes b (for init test (some update) loop fallthrough) e =
        and_both _ _ (init_passes b init test (some update) loop fallthrough e)
        (end_all update (λ h g. goes_test t g test && no_store_test t h)
        (λ h g q. and_both _ _ (goes g test (pl.updates b init test update loop fallthrough h g e q)) (no_store h (pl.update_store b init test update loop fallthrough h g e q))))
    part_passes b (for_of init test loop fallthrough) e = refl
    part_passes b (for_in init loop fallthrough) e = refl
    part_passes b (logical operator test fallthrough) e = refl
    part_passes b (ternary test fallthrough) e = refl
    part_passes b (optional flag test fallthrough) e = refl
    part_passes b (label block fallthrough) e = refl
    part_passes b (sequence block fallthrough) e = refl
    part_passes b (maybe_throw continuation) e = throw_passes b continuation e
    part_passes b (try block handler fallthrough binding) e = refl
    part_passes b (scope pruned block fallthrough number) e = refl

    loop_passes : (b : ℕ) (o : Option Loop) → loop_of (terminal_at t b) ≡ o → wide_loop_test t o ≡ true
    loop_passes b none e = refl
    loop_passes b (some k) e =
        end_all k.test (λ h y. is_branch_to k.body k.fallthrough (shape_of (terminal_at t y)) && no_store_test t h)
        (λ h y q. let (p, w) = pl.tests b k.test k.body k.fallthrough k.again h y e q in
        and_both _ _ (is_branch_to_lem p k.body k.fallthrough (terminal_at t y) w) (no_store h (pl.test_store b k.test k.body k.fallthrough k.again h y e q)))

    outside : (b f w : ℕ) → fallthrough_of (terminal_at t b) ≡ some f → (o : Option Loop) → loop_of (terminal_at t w) ≡ o → not_in_loop f o ≡ true
    outside b f w e none q = refl
    outside b f w e (some k) q =
        and_both _ _ (is_not _ (ne_eqb f k.body (pl.no_loop b f w k.test k.body k.fallthrough k.again e q)))
        (is_not _ (ne_eqb f k.again (pl.no_again b f w k.test k.body k.fallthrough k.again e q)))

    fallthrough_passes : (b : ℕ) (o : Option ℕ) → fallthrough_of (terminal_at t b) ≡ o → wide_end_test t b (terminal_at t b) o ≡ true
    fallthrough_passes b none e = refl
    fallthrough_passes b (some f) e =
        and_both _ _ (only_of_lem t b f (λ c e'. pl.one_fallthrough b c f e e'))
        (and_both _ _ (every_of_lem t.blocks (λ w n. not_in_loop f (loop_of n)) (λ w. outside b f w e (loop_of (terminal_at t w)) refl))
        (by_cases (is_unreachable (terminal_at t f)) (λ q. or_right (not (is_unreachable (terminal_at t f))) (may_be_open (terminal_at t b)) (pl.open_ends b f e q))
        (λ q. or_left (not (is_unreachable (terminal_at t f))) (may_be_open (terminal_at t b)) (is_not (is_unreachable (terminal_at t f)) q))))

    proper_passes : (k : ℕ) → IsProper t k → wide_proper_test t k ≡ true
    proper_passes k c = and_both _ _ (is_not _ (pl.case_reached k c)) (every_of_lem t.blocks (λ w m. not (is_fallthrough (fallthrough_of m) k)) no_end)
      where
        no_end : (w : ℕ) → not (is_fallthrough (fallthrough_of (terminal_at t w)) k) ≡ true
        no_end w =
            is_not _ (by_cases (is_fallthrough (fallthrough_of (terminal_at t w)) k)
            (λ q. absurd (pl.case_fallthrough w k (fallthrough_is k (fallthrough_of (terminal_at t w)) q) c)) (λ q. q))

    block_passes : (b : ℕ) → wide_block_test t width b (terminal_at t b) ≡ true
    block_passes b =
        and_both _ _ (pl.ends b) (and_both _ _ (all_reached_lem t (wide_entered_by (terminal_at t b)) (pl.entered b)) (and_both _ _ (part_passes b (terminal_at t b) refl)
        (and_both _ _ (loop_passes b (loop_of (terminal_at t b)) refl) (and_both _ _ (fallthrough_passes b (fallthrough_of (terminal_at t b)) refl)
        (and_both _ _ (all_of_lem (proper_blocks_of t (terminal_at t b)) (wide_proper_test t) (λ k q. proper_passes k (record { of = b; among = q })))
        (value_passes b (terminal_at t b) refl))))))

    pub plain_passes : is_wide t width ≡ true
    plain_passes = and_both _ _ (is_not _ pl.entry_reached) (every_of_lem t.blocks (λ b m. wide_block_test t width b m) block_passes)

-- the test holds exactly of the tables with these conditions
pub value_test_lem : (width : Width) (t : Table) → (is_wide t width ≡ true) ↔ WidePlain width t
value_test_lem width t = (λ h. test_plain t width h, λ plain. plain_passes t width plain)
