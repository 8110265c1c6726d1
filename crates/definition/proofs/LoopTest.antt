-- The Boolean test of the conditions beyond the papers (specs/PlainTest, `is_plain_loops`) holds exactly of the tables of specs/PlainLoops: a table is shown to be one
-- by computation. For proofs/LoopLawExample. One direction takes the test apart field by field, the other puts it together; both go by the terminal.
use mathlib.Core.Path.{◌≡◌, refl, sym, ap, ◌∙◌, subst}
use mathlib.Core.Logic.{◌↔◌}
use Prim.Native.Nat.{ℕ, suc, ◌≤◌}
use native.Mathlib.Omega.{arith}
use mathlib.Core.List.{List, [], ◌∷◌}
use lib.ListN.{length}
use mathlib.Core.Option.{Option, none, some}
use mathlib.Core.Bool.{Bool, true, false, not, ◌&&◌, ◌||◌, cond}
use lib.Dec.{eqb}
use borrow.Author.Tests.{eq-eqb, ne_eqb}
use Rattle.table.specs.Table.{Table, Case, Terminal, absent, unreachable, throw, return, goto, if, branch, switch, do_while, while, for, for_of}
use Rattle.table.specs.Table.{for_in, logical, ternary, optional, label, sequence, maybe_throw, try, scope, Variant, Break, Continue, Try, code_of, is_unreachable, terminal_at}
use Rattle.table.specs.Table.{instruction_rows_at}
use Rattle.definition.specs.Completion.{contains}
use Rattle.definition.specs.Statement.{cases_last_first}
use Rattle.definition.specs.Value.{is_fallthrough}
use Rattle.definition.specs.Plain.{Width, paper_01, with_switch, is_branch, fallthrough_of, other_names, NotBranch, All}
use Rattle.definition.specs.PlainLoops.{Loop, new_loop, loop_of, loop_codes, ends_in_unnamed, ends_in_own_load, drop_own, proper_blocks_of, IsProper, Reached, entered_by, may_be_open, PlainLoops}
use Rattle.definition.specs.PlainTest.{every_of, all_of, shape_of, is_branch_to, goto_block}
use Rattle.definition.specs.PlainTest.{no_branches, only_of, part_of, not_in_loop, last_is_own, all_reached, goes_on, update_test, part_test, loop_test, end_test}
use Rattle.definition.specs.PlainTest.{proper_test, loop_block_test, is_plain_loops}
use Rattle.definition.proofs.Steps.{true_false}
use Rattle.definition.proofs.PlainTest.{and_left, and_right, and_both, or_else, or_left, or_right, not_is, is_not, by_cases, every_at, every_of_lem, all_at, all_of_lem}
use Rattle.definition.proofs.PlainTest.{branch_of, is_branch_to_lem, fallthrough_is, is_fallthrough_lem, goto_of, branches_none, none_branches, only_at, only_of_lem}

and_split : (a b : Bool) → a && b ≡ true → (a ≡ true) × (b ≡ true)
and_split a b h = (and_left a b h, and_right a b h)

and_split₃ : (a b c : Bool) → a && (b && c) ≡ true → (a ≡ true) × (b ≡ true) × (c ≡ true)
and_split₃ a b c h = (and_left a (b && c) h, and_left b c (and_right a (b && c) h), and_right b c (and_right a (b && c) h))

-- ---- the last cases

-- where the last case is not the fallthrough none is left out; where it is, one is
pub drop_none : (f : ℕ) (cases : List Case) → last_is_own f cases ≡ false → drop_own f cases ≡ cases
drop_none f [] h = refl
drop_none f (k ∷ ks) h = ap (λ (z : Bool). cond z (drop_own f ks) (k ∷ ks)) h

drop_shorter : (f : ℕ) (cases : List Case) → length (drop_own f cases) ≤ length cases
drop_shorter f [] = omega arith
drop_shorter f (k ∷ ks) = at (eqb k.block f) (drop_shorter f ks)
  where
    at : (y : Bool) → length (drop_own f ks) ≤ length ks → length (cond y (drop_own f ks) (k ∷ ks)) ≤ suc (length ks)
    at true h = omega (arith, h)
    at false h = omega arith

pub drops_none : (f : ℕ) (cases : List Case) → drop_own f cases ≡ cases → last_is_own f cases ≡ false
drops_none f [] h = refl
drops_none f (k ∷ ks) h = by_cases (eqb k.block f) (λ e. absurd (shorter e)) (λ e. e)
  where
    shorter : eqb k.block f ≡ true → ⊥
    shorter e =
        let q : length (drop_own f ks) ≡ suc (length ks) = ap length (sym (ap (λ (z : Bool). cond z (drop_own f ks) (k ∷ ks)) e) ∙ h) in omega (arith, q, drop_shorter f ks)

module _ (t : Table) where
  pub reached_all : (ns : List ℕ) → all_reached t ns ≡ true → All (Reached t) ns
  reached_all [] h = tt
  reached_all (n ∷ ns) h =
      let (q, r) = and_split (not (is_unreachable (terminal_at t n))) (all_reached t ns) h in (not_is (is_unreachable (terminal_at t n)) q, reached_all ns r)

  pub all_reached_lem : (ns : List ℕ) → All (Reached t) ns → all_reached t ns ≡ true
  all_reached_lem [] h = refl
  all_reached_lem (n ∷ ns) (h, k) = and_both _ _ (is_not _ h) (all_reached_lem ns k)

  -- ---- what passes the test has the conditions

  record Passed (width : Width) (b : ℕ) (m : Terminal) : Type 0 where
    code : contains (loop_codes width) (code_of m) ≡ true
    names : no_branches t (other_names m) ≡ true
    entered : all_reached t (entered_by m) ≡ true
    part : part_test t b (part_of m) ≡ true
    loop : loop_test t (loop_of m) ≡ true
    end : end_test t b m (fallthrough_of m) ≡ true
    proper : all_of (proper_blocks_of t m) (proper_test t) ≡ true

  passed_of : (width : Width) (b : ℕ) (m : Terminal) → loop_block_test t width b m ≡ true → Passed width b m
  passed_of width b m h =
      let p : Bool = part_test t b (part_of m) in
      let l : Bool = loop_test t (loop_of m) in
      let f : Bool = end_test t b m (fallthrough_of m) in
      let c : Bool = all_of (proper_blocks_of t m) (proper_test t) in
      let (code, names, h₂) = and_split₃ (contains (loop_codes width) (code_of m)) (no_branches t (other_names m)) (all_reached t (entered_by m) && (p && (l && (f && c)))) h in
      let (entered, part, h₄) = and_split₃ (all_reached t (entered_by m)) p (l && (f && c)) h₂ in
      let (loop, end, proper) = and_split₃ l f c h₄ in
      record { code = code; names = names; entered = entered; part = part; loop = loop; end = end; proper = proper }

  absent_passes : (width : Width) (b : ℕ) → loop_block_test t width b absent ≡ true
  absent_passes paper_01 b = refl
  absent_passes with_switch b = refl

  module _ (width : Width) (h : is_plain_loops t width ≡ true) where
    whole : (not (is_branch (terminal_at t t.entry)) ≡ true) × (not (is_unreachable (terminal_at t t.entry)) ≡ true)
        × (every_of t.blocks (λ b m. loop_block_test t width b m) ≡ true)
    whole = and_split₃ _ _ _ h

    passed : (b : ℕ) → Passed width b (terminal_at t b)
    passed b = passed_of width b (terminal_at t b) (every_at t.blocks (λ c m. loop_block_test t width c m) (absent_passes width) whole.2 b)

    part_at : (b : ℕ) (m : Terminal) → terminal_at t b ≡ m → part_test t b (part_of m) ≡ true
    part_at b m e = subst (λ (z : Terminal). part_test t b (part_of z) ≡ true) e (passed b).part

    loop_at : (b : ℕ) (loop : Loop) → loop_of (terminal_at t b) ≡ some loop → loop_test t (some loop) ≡ true
    loop_at b loop e = subst (λ (z : Option Loop). loop_test t z ≡ true) e (passed b).loop

    end_at : (b f : ℕ) → fallthrough_of (terminal_at t b) ≡ some f → end_test t b (terminal_at t b) (some f) ≡ true
    end_at b f e = subst (λ (z : Option ℕ). end_test t b (terminal_at t b) z ≡ true) e (passed b).end

    proper_at : (k : ℕ) → IsProper t k → proper_test t k ≡ true
    proper_at k c = all_at (proper_blocks_of t (terminal_at t c.of)) (proper_test t) k (passed c.of).proper c.among

    -- of an init or an update
    goes_to : (b x : ℕ) → goes_on t b x ≡ true → ((variant : Variant) × (terminal_at t b ≡ goto x variant)) × (ends_in_unnamed t (instruction_rows_at t b) ≡ false)
    goes_to b x h =
        let (q, r) = and_split (is_fallthrough (goto_block (terminal_at t b)) x) (not (ends_in_unnamed t (instruction_rows_at t b))) h in
        (goto_of x (terminal_at t b) (fallthrough_is x (goto_block (terminal_at t b)) q), not_is (ends_in_unnamed t (instruction_rows_at t b)) r)

    for_at : (b i x : ℕ) (u : Option ℕ) (l f : ℕ) → terminal_at t b ≡ for i x u l f
        → (goes_on t i x ≡ true) × (not (ends_in_own_load t (instruction_rows_at t i)) ≡ true) × (update_test t x u ≡ true)
    for_at b i x u l f e = and_split₃ (goes_on t i x) (not (ends_in_own_load t (instruction_rows_at t i))) (update_test t x u) (part_at b (for i x u l f) e)

    loop_parts : (b x l f k : ℕ) → loop_of (terminal_at t b) ≡ some (new_loop x l f k)
        → (is_branch_to l f (shape_of (terminal_at t x)) ≡ true) × (no_branches t (l ∷ f ∷ []) ≡ true)
    loop_parts b x l f k e = and_split (is_branch_to l f (shape_of (terminal_at t x))) (no_branches t (l ∷ f ∷ [])) (loop_at b (new_loop x l f k) e)

    end_parts : (b f : ℕ) → fallthrough_of (terminal_at t b) ≡ some f
        → (only_of t b f ≡ true) × (every_of t.blocks (λ w n. not_in_loop f (loop_of n)) ≡ true) × (not (is_unreachable (terminal_at t f)) || may_be_open (terminal_at t b) ≡ true)
    end_parts b f e =
        and_split₃ (only_of t b f) (every_of t.blocks (λ w n. not_in_loop f (loop_of n))) (not (is_unreachable (terminal_at t f)) || may_be_open (terminal_at t b)) (end_at b f e)

    proper_parts : (k : ℕ) → IsProper t k → (not (is_branch (terminal_at t k)) ≡ true) × (not (is_unreachable (terminal_at t k)) ≡ true)
        × (every_of t.blocks (λ w m. not (is_fallthrough (fallthrough_of m) k)) ≡ true)
    proper_parts k c =
        and_split₃ (not (is_branch (terminal_at t k))) (not (is_unreachable (terminal_at t k))) (every_of t.blocks (λ w m. not (is_fallthrough (fallthrough_of m) k))) (proper_at k c)

    outside_loops : (b f w x l g k : ℕ) → fallthrough_of (terminal_at t b) ≡ some f → loop_of (terminal_at t w) ≡ some (new_loop x l g k) → (eqb f l ≡ false) × (eqb f k ≡ false)
    outside_loops b f w x l g k e q =
        let (y, z) = and_split (not (eqb f l)) (not (eqb f k)) (subst (λ (z : Option Loop). not_in_loop f z ≡ true) q
        (every_at t.blocks (λ w n. not_in_loop f (loop_of n)) (λ c. refl) (end_parts b f e).1 w)) in
        (not_is (eqb f l) y, not_is (eqb f k) z)

    bodies : (b x l f k : ℕ) → loop_of (terminal_at t b) ≡ some (new_loop x l f k) → NotBranch t l × NotBranch t f
    bodies b x l f k e = let q : All (NotBranch t) (l ∷ f ∷ []) = branches_none t (l ∷ f ∷ []) (loop_parts b x l f k e).1 in (q.0, q.1.0)

    case_fallthrough : (b k : ℕ) → fallthrough_of (terminal_at t b) ≡ some k → IsProper t k → ⊥
    case_fallthrough b k e c =
        true_false (sym (is_fallthrough_lem k (fallthrough_of (terminal_at t b)) e) ∙ not_is (is_fallthrough (fallthrough_of (terminal_at t b)) k)
        (every_at t.blocks (λ w m. not (is_fallthrough (fallthrough_of m) k)) (λ n. refl) (proper_parts k c).2 b))

    open_ends : (b f : ℕ) → fallthrough_of (terminal_at t b) ≡ some f → is_unreachable (terminal_at t f) ≡ true → may_be_open (terminal_at t b) ≡ true
    open_ends b f e q = or_else (not (is_unreachable (terminal_at t f))) (may_be_open (terminal_at t b)) (end_parts b f e).2 (ap not q)

    open_cases : (b x i n f : ℕ) → terminal_at t b ≡ switch x i n f → is_unreachable (terminal_at t f) ≡ true → drop_own f (cases_last_first t i n) ≡ cases_last_first t i n
    open_cases b x i n f e q =
        let own : Bool = last_is_own f (cases_last_first t i n) in
        drop_none f (cases_last_first t i n) (not_is own (or_else (not (is_unreachable (terminal_at t f))) (not own) (part_at b (switch x i n f) e) (ap not q)))

    pub is_plain_loops_lem : PlainLoops width t
    is_plain_loops_lem = record {
      ends = λ b. (passed b).code;
      no_goto_try = λ b g e. true_false (sym (part_at b (goto g Try) e));
      tests = λ b x l f k e. branch_of l f (terminal_at t x) (loop_parts b x l f k e).0;
      inits = λ b i x u l f e. (goes_to i x (for_at b i x u l f e).0).0;
      updates = λ b i x u l f e. (goes_to u x (for_at b i x (some u) l f e).2).0;
      entry = not_is (is_branch (terminal_at t t.entry)) whole.0;
      names = λ b. branches_none t (other_names (terminal_at t b)) (passed b).names;
      bodies = bodies;
      case_not_branch = λ k c. not_is (is_branch (terminal_at t k)) (proper_parts k c).0;
      test_store = λ b p c a e. not_is (ends_in_unnamed t (instruction_rows_at t b)) (part_at b (branch p c a) e);
      init_store = λ b i x u l f e. (goes_to i x (for_at b i x u l f e).0).1;
      init_load = λ b i x u l f e. not_is (ends_in_own_load t (instruction_rows_at t i)) (for_at b i x u l f e).1;
      update_store = λ b i x u l f e. (goes_to u x (for_at b i x (some u) l f e).2).1;
      one_fallthrough = λ b c f e. only_at t b f (end_parts b f e).0 c;
      no_loop = λ b f w x l g k e q z. true_false (sym (eq-eqb f l z) ∙ (outside_loops b f w x l g k e q).0);
      no_again = λ b f w x l g k e q z. true_false (sym (eq-eqb f k z) ∙ (outside_loops b f w x l g k e q).1);
      case_fallthrough = case_fallthrough;
      entry_reached = not_is (is_unreachable (terminal_at t t.entry)) whole.1;
      entered = λ b. reached_all (entered_by (terminal_at t b)) (passed b).entered;
      case_reached = λ k c. not_is (is_unreachable (terminal_at t k)) (proper_parts k c).1;
      open_ends = open_ends;
      open_cases = open_cases;
    }

  -- ---- what has the conditions passes the test

  module _ (width : Width) (pl : PlainLoops width t) where
    goes : (b x : ℕ) → (variant : Variant) × (terminal_at t b ≡ goto x variant) → ends_in_unnamed t (instruction_rows_at t b) ≡ false → goes_on t b x ≡ true
    goes b x (v, e) q = and_both _ _ (is_fallthrough_lem x (goto_block (terminal_at t b)) (ap goto_block e)) (is_not _ q)

    open_passes : (b x i n f : ℕ) → terminal_at t b ≡ switch x i n f → not (is_unreachable (terminal_at t f)) || not (last_is_own f (cases_last_first t i n)) ≡ true
    open_passes b x i n f e =
        let reached : Bool = not (is_unreachable (terminal_at t f)) in
        let own : Bool = last_is_own f (cases_last_first t i n) in
        by_cases (is_unreachable (terminal_at t f)) (λ q. or_right reached (not own) (is_not own (drops_none f (cases_last_first t i n) (pl.open_cases b x i n f e q))))
        (λ q. or_left reached (not own) (is_not (is_unreachable (terminal_at t f)) q))

    part_passes : (b : ℕ) (m : Terminal) → terminal_at t b ≡ m → part_test t b (part_of m) ≡ true
    part_passes b absent e = refl
    part_passes b unreachable e = refl
    part_passes b (throw v) e = refl
    part_passes b (return v) e = refl
    part_passes b (goto g Break) e = refl
    part_passes b (goto g Continue) e = refl
    part_passes b (goto g Try) e = absurd (pl.no_goto_try b g e)
    part_passes b (if x y z f) e = refl
    part_passes b (branch x y z) e = is_not (ends_in_unnamed t (instruction_rows_at t b)) (pl.test_store b x y z e)
    part_passes b (switch x i n f) e = open_passes b x i n f e
    part_passes b (do_while l x f) e = refl
    part_passes b (while x l f) e = refl
    part_passes b (for i x none l f) e =
        and_both _ _ (goes i x (pl.inits b i x none l f e) (pl.init_store b i x none l f e)) (and_both _ _ (is_not _ (pl.init_load b i x none l f e)) refl)
    part_passes b (for i x (some u) l f) e =
        and_both _ _ (goes i x (pl.inits b i x (some u) l f e) (pl.init_store b i x (some u) l f e))
        (and_both _ _ (is_not _ (pl.init_load b i x (some u) l f e)) (goes u x (pl.updates b i x u l f e) (pl.update_store b i x u l f e)))
    part_passes b (for_of i x l f) e = refl
    part_passes b (for_in i l f) e = refl
    part_passes b (logical o x f) e = refl
    part_passes b (ternary x f) e = refl
    part_passes b (optional o x f) e = refl
    part_passes b (label x f) e = refl
    part_passes b (sequence x f) e = refl
    part_passes b (maybe_throw n) e = refl
    part_passes b (try x k f n) e = refl
    part_passes b (scope p x f n) e = refl

    loop_passes : (b : ℕ) (o : Option Loop) → loop_of (terminal_at t b) ≡ o → loop_test t o ≡ true
    loop_passes b none e = refl
    loop_passes b (some k) e =
        let (p, q) = pl.tests b k.test k.body k.fallthrough k.again e in
        let (l, f) = pl.bodies b k.test k.body k.fallthrough k.again e in
        and_both _ _ (is_branch_to_lem p k.body k.fallthrough (terminal_at t k.test) q) (none_branches t (k.body ∷ k.fallthrough ∷ []) (l, (f, tt)))

    outside : (b f w : ℕ) → fallthrough_of (terminal_at t b) ≡ some f → (o : Option Loop) → loop_of (terminal_at t w) ≡ o → not_in_loop f o ≡ true
    outside b f w e none q = refl
    outside b f w e (some k) q =
        and_both _ _ (is_not _ (ne_eqb f k.body (pl.no_loop b f w k.test k.body k.fallthrough k.again e q)))
        (is_not _ (ne_eqb f k.again (pl.no_again b f w k.test k.body k.fallthrough k.again e q)))

    end_passes : (b : ℕ) (o : Option ℕ) → fallthrough_of (terminal_at t b) ≡ o → end_test t b (terminal_at t b) o ≡ true
    end_passes b none e = refl
    end_passes b (some f) e =
        and_both _ _ (only_of_lem t b f (λ c e'. pl.one_fallthrough b c f e e'))
        (and_both _ _ (every_of_lem t.blocks (λ w n. not_in_loop f (loop_of n)) (λ w. outside b f w e (loop_of (terminal_at t w)) refl))
        (by_cases (is_unreachable (terminal_at t f)) (λ q. or_right (not (is_unreachable (terminal_at t f))) (may_be_open (terminal_at t b)) (pl.open_ends b f e q))
        (λ q. or_left (not (is_unreachable (terminal_at t f))) (may_be_open (terminal_at t b)) (is_not (is_unreachable (terminal_at t f)) q))))

    no_end : (k : ℕ) → IsProper t k → (w : ℕ) → not (is_fallthrough (fallthrough_of (terminal_at t w)) k) ≡ true
    no_end k c w =
        let named : Bool = is_fallthrough (fallthrough_of (terminal_at t w)) k in
        is_not named (by_cases named (λ q. absurd (pl.case_fallthrough w k (fallthrough_is k (fallthrough_of (terminal_at t w)) q) c)) (λ q. q))

    proper_passes : (k : ℕ) → IsProper t k → proper_test t k ≡ true
    proper_passes k c =
        and_both _ _ (is_not _ (pl.case_not_branch k c)) (and_both _ _ (is_not _ (pl.case_reached k c))
        (every_of_lem t.blocks (λ w m. not (is_fallthrough (fallthrough_of m) k)) (no_end k c)))

    block_passes : (b : ℕ) → loop_block_test t width b (terminal_at t b) ≡ true
    block_passes b =
        and_both _ _ (pl.ends b) (and_both _ _ (none_branches t (other_names (terminal_at t b)) (pl.names b))
        (and_both _ _ (all_reached_lem (entered_by (terminal_at t b)) (pl.entered b)) (and_both _ _ (part_passes b (terminal_at t b) refl)
        (and_both _ _ (loop_passes b (loop_of (terminal_at t b)) refl) (and_both _ _ (end_passes b (fallthrough_of (terminal_at t b)) refl)
        (all_of_lem (proper_blocks_of t (terminal_at t b)) (proper_test t) (λ k q. proper_passes k (record { of = b; among = q }))))))))

    pub plain_loops_is : is_plain_loops t width ≡ true
    plain_loops_is =
        and_both _ _ (is_not _ pl.entry) (and_both _ _ (is_not _ pl.entry_reached) (every_of_lem t.blocks (λ b m. loop_block_test t width b m) block_passes))

-- the test holds exactly of the tables with these conditions
pub loop_test_lem : (width : Width) (t : Table) → (is_plain_loops t width ≡ true) ↔ PlainLoops width t
loop_test_lem width t = (λ h. is_plain_loops_lem t width h, λ pl. plain_loops_is t width pl)
