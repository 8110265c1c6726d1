-- Plain tables with loops are wide plain tables; all their rows are seen, and the wide block run is the block run. For proofs/Law.
use mathlib.Core.Path.{◌≡◌, refl, sym, ap, ◌∙◌, subst}
use Prim.Native.Nat.{ℕ, zero, suc}
use mathlib.Core.List.{List, [], ◌∷◌, ◌++◌}
use lib.ListN.{get_or}
use mathlib.Core.Option.{Option, some}
use mathlib.Core.Bool.{Bool, true, false, not, cond}
use lib.Dec.{eqb}
use Rattle.table.specs.Table.{Table, Block, no_block, block_at, Terminal, Variant, absent, unreachable, throw, return, goto, if, branch, switch, do_while, while, for, for_of, for_in}
use Rattle.table.specs.Table.{logical, ternary, optional, label, sequence, maybe_throw, try, scope, code_of, is_unreachable, terminal_at, instruction_at, instruction_rows_at}
use Rattle.definition.specs.Run.{Answers, Run, stopped}
use Rattle.definition.specs.BlockRun.{Move, go, halt, move, performing, block_run}
use Rattle.definition.specs.WideRun.{wide_move, wide_run}
use Rattle.definition.specs.Completion.{contains}
use Rattle.definition.specs.Value.{stored_to_named, last}
use Rattle.definition.specs.Plain.{Width, with_switch, All}
use Rattle.definition.specs.PlainLoops.{PlainLoops, loop_codes, new_loop, loop_of, ends_in_unnamed, ends_in_own_load, Reached, entered_by}
use Rattle.definition.proofs.PlainEnough.{wide_enough}
use Rattle.definition.proofs.PlainTest.{or_right}
use Rattle.definition.proofs.Steps.{true_false, none_some, some_eq}
use Rattle.definition.proofs.StraightValues.{value_codes, NoValues}
use Rattle.definition.specs.ValueEnds.{ValueEnd, ends_at, value_end_at, value_end, end_of, store_at_end, store_of_end, unseen_of, unseen_of_all, seen, seen_rows}
use Rattle.definition.specs.PlainValue.{test_of, Asks, GoesTo, NoStore, owns_test, PlainValues}
use Rattle.definition.proofs.Chains.{Owns}
use Rattle.definition.proofs.ChainsRead.{owns_is}
use Rattle.definition.specs.WideLoops.{wide_codes, wide_entered_by, WideLoops}
use Rattle.definition.specs.ValueLaw.{WidePlain}

ends_eq : {a b c d : ℕ} → some (ends_at a b) ≡ some (ends_at c d) → (a ≡ c) × (b ≡ d)
ends_eq e = (ap (λ (z : ValueEnd). z.holder) (some_eq e), ap (λ (z : ValueEnd). z.end) (some_eq e))

module _ (t : Table) where
  end_branch : (x p c d : ℕ) → terminal_at t x ≡ branch p c d → end_of t x ≡ some (ends_at x x)
  unfolding end_of value_end value_end_at
  end_branch x p c d e = ap (λ (z : Terminal). value_end_at t (λ n. value_end t 127 n) x z) e

  end_goto : (x g : ℕ) (k : Variant) → terminal_at t x ≡ goto g k → end_of t x ≡ some (ends_at x x)
  unfolding end_of value_end value_end_at
  end_goto x g k e = ap (λ (z : Terminal). value_end_at t (λ n. value_end t 127 n) x z) e

  last_named : (r : ℕ) (rs : List ℕ) → ends_in_unnamed t (r ∷ rs) ≡ eqb (stored_to_named t (instruction_at t (last r rs)).operation) 0
  unfolding last
  last_named r [] = refl
  last_named r (q ∷ rs) = last_named q rs

  no_store : (rows : List ℕ) → ends_in_unnamed t rows ≡ false → store_at_end t rows ≡ []
  no_store [] h = refl
  no_store (r ∷ rs) h = ap (λ (y : Bool). cond y (last r rs ∷ []) []) (sym (last_named r rs) ∙ h)

  module _ (width : Width) (pl : PlainLoops width t) where
    coded : (b : ℕ) (m : Terminal) → terminal_at t b ≡ m → contains (loop_codes with_switch) (code_of m) ≡ true
    coded b m e = ap (λ (z : Terminal). contains (loop_codes with_switch) (code_of z)) (sym e) ∙ wide_enough width (code_of (terminal_at t b)) (pl.ends b)

    not_coded : (b : ℕ) (m : Terminal) → terminal_at t b ≡ m → contains (loop_codes with_switch) (code_of m) ≡ false → ⊥
    not_coded b m e h = true_false (sym (coded b m e) ∙ h)

    pub no_values : NoValues t
    no_values b = at (terminal_at t b) refl
      where
        at : (m : Terminal) → terminal_at t b ≡ m → contains value_codes (code_of m) ≡ false
        at absent e = refl
        at unreachable e = refl
        at (throw value) e = refl
        at (return value) e = refl
        at (goto block variant) e = refl
        at (if test consequent alternate fallthrough) e = refl
        at (branch test consequent alternate) e = refl
        at (switch test first number fallthrough) e = refl
        at (do_while loop test fallthrough) e = refl
        at (while test loop fallthrough) e = refl
        at (for init test update loop fallthrough) e = refl
        at (for_of init test loop fallthrough) e = refl
        at (for_in init loop fallthrough) e = refl
        at (logical operator test fallthrough) e = absurd (not_coded b (logical operator test fallthrough) e refl)
        at (ternary test fallthrough) e = absurd (not_coded b (ternary test fallthrough) e refl)
        at (optional flag test fallthrough) e = absurd (not_coded b (optional flag test fallthrough) e refl)
        at (label block fallthrough) e = refl
        at (sequence block fallthrough) e = absurd (not_coded b (sequence block fallthrough) e refl)
        at (maybe_throw continuation) e = refl
        at (try block handler fallthrough binding) e = refl
        at (scope false block fallthrough number) e = refl
        at (scope true block fallthrough number) e = refl

    asks_none : (b h y c d : ℕ) (m : Terminal) → Asks t b m h y c d → ⊥
    asks_none b h y c d m a = at m a.terminal a.tested
      where
        at : (m : Terminal) → terminal_at t b ≡ m → test_of m ≡ some a.test → ⊥
        at absent e q = none_some q
        at unreachable e q = none_some q
        at (throw value) e q = none_some q
        at (return value) e q = none_some q
        at (goto block variant) e q = none_some q
        at (if test consequent alternate fallthrough) e q = none_some q
        at (branch test consequent alternate) e q = none_some q
        at (switch test first number fallthrough) e q = none_some q
        at (do_while loop test fallthrough) e q = none_some q
        at (while test loop fallthrough) e q = none_some q
        at (for init test update loop fallthrough) e q = none_some q
        at (for_of init test loop fallthrough) e q = none_some q
        at (for_in init loop fallthrough) e q = none_some q
        at (logical operator test fallthrough) e q = not_coded b (logical operator test fallthrough) e refl
        at (ternary test fallthrough) e q = not_coded b (ternary test fallthrough) e refl
        at (optional flag test fallthrough) e q = not_coded b (optional flag test fallthrough) e refl
        at (label block fallthrough) e q = none_some q
        at (sequence block fallthrough) e q = none_some q
        at (maybe_throw continuation) e q = none_some q
        at (try block handler fallthrough binding) e q = none_some q
        at (scope pruned block fallthrough number) e q = none_some q

    owns_none : (b e : ℕ) → owns_test t e (terminal_at t b) ≡ true → ⊥
    owns_none b e h = let o : Owns t e b = owns_is t e b h in asks_none b o.holder e o.consequent o.alternate (optional o.flag o.test o.fallthrough) o.asks

    pub old_values : PlainValues t
    old_values = record {
      yes_arm = λ b m h y c d f holder e a q k. absurd (asks_none b h y c d m a);
      no_arm = λ b m h y c d f holder e a o q k. absurd (asks_none b h y c d m a);
      block_arm = λ b c f holder e q k. absurd (not_coded b (sequence c f) q refl);
      left = λ b o x f h y c d a. absurd (asks_none b h y c d (logical o x f) a);
      exits = λ b o x f e. absurd (not_coded b (optional o x f) e refl);
      no_value = λ b o x f h y c d exit a k. absurd (asks_none b h y c d (optional o x f) a);
      one_owner = λ e b b' h k. absurd (owns_none b e h);
      tests = λ b m h y c d a. absurd (asks_none b h y c d m a);
    }

    at_test : (b x l f k h y : ℕ) → loop_of (terminal_at t b) ≡ some (new_loop x l f k) → end_of t x ≡ some (ends_at h y) → (x ≡ h) × (x ≡ y)
    at_test b x l f k h y e q = let (p, w) = pl.tests b x l f k e in ends_eq (sym (end_branch x p l f w) ∙ q)

    at_goto : (x g h e : ℕ) → GoesTo t x g → end_of t x ≡ some (ends_at h e) → (x ≡ h) × (x ≡ e)
    at_goto x g h e (k, w) q = ends_eq (sym (end_goto x g k w) ∙ q)

    entered_at : (b : ℕ) (m : Terminal) → terminal_at t b ≡ m → All (Reached t) (entered_by m)
    entered_at b m e = subst (λ (z : Terminal). All (Reached t) (entered_by z)) e (pl.entered b)

    entered_of : (b : ℕ) (m : Terminal) → terminal_at t b ≡ m → All (Reached t) (wide_entered_by m)
    entered_of b absent e = tt
    entered_of b unreachable e = tt
    entered_of b (throw value) e = tt
    entered_of b (return value) e = tt
    entered_of b (goto block variant) e = entered_at b (goto block variant) e
    entered_of b (if test consequent alternate fallthrough) e = entered_at b (if test consequent alternate fallthrough) e
    entered_of b (branch test consequent alternate) e = entered_at b (branch test consequent alternate) e
    entered_of b (switch test first number fallthrough) e = tt
    entered_of b (do_while loop test fallthrough) e = entered_at b (do_while loop test fallthrough) e
    entered_of b (while test loop fallthrough) e = let (p, w) = pl.tests b test loop fallthrough test (ap loop_of e) in (ap is_unreachable w, entered_at b (while test loop fallthrough) e)
    entered_of b (for init test update loop fallthrough) e = let (k, w) = pl.inits b init test update loop fallthrough e in (ap is_unreachable w, entered_at b (for init test update loop fallthrough) e)
    entered_of b (for_of init test loop fallthrough) e = tt
    entered_of b (for_in init loop fallthrough) e = tt
    entered_of b (logical operator test fallthrough) e = absurd (not_coded b (logical operator test fallthrough) e refl)
    entered_of b (ternary test fallthrough) e = absurd (not_coded b (ternary test fallthrough) e refl)
    entered_of b (optional flag test fallthrough) e = absurd (not_coded b (optional flag test fallthrough) e refl)
    entered_of b (label block fallthrough) e = entered_at b (label block fallthrough) e
    entered_of b (sequence block fallthrough) e = absurd (not_coded b (sequence block fallthrough) e refl)
    entered_of b (maybe_throw continuation) e = absurd (not_coded b (maybe_throw continuation) e refl)
    entered_of b (try block handler fallthrough binding) e = tt
    entered_of b (scope pruned block fallthrough number) e = entered_at b (scope pruned block fallthrough number) e

    more_codes : (code : ℕ) → contains (loop_codes width) code ≡ true → contains (wide_codes width) code ≡ true
    more_codes code h =
        or_right (eqb 13 code) _ (or_right (eqb 14 code) _ (or_right (eqb 15 code) _ (or_right (eqb 17 code) _ (or_right (eqb 18 code) _ h))))

    pub old_loops : WideLoops width t
    old_loops = record {
      ends = λ b. more_codes (code_of (terminal_at t b)) (pl.ends b);
      no_goto_try = pl.no_goto_try;
      tests = λ b x l f k h y e q. let (p, w) = pl.tests b x l f k e in (p, ap (λ (z : ℕ). terminal_at t z) (sym (at_test b x l f k h y e q).1) ∙ w);
      inits = λ b i x u l f h e q k. let (v, w) = pl.inits b i x u l f q in (v, ap (λ (z : ℕ). terminal_at t z) (sym (at_goto i x h e (v, w) k).1) ∙ w);
      updates = λ b i x u l f h e q k. let (v, w) = pl.updates b i x u l f q in (v, ap (λ (z : ℕ). terminal_at t z) (sym (at_goto u x h e (v, w) k).1) ∙ w);
      test_store = λ b x l f k h y e q.
          let (p, w) = pl.tests b x l f k e in
          subst (λ (z : ℕ). NoStore t z) (at_test b x l f k h y e q).0 (no_store (instruction_rows_at t x) (pl.test_store x p l f w));
      update_store = λ b i x u l f h e q k. subst (λ (z : ℕ). NoStore t z) (at_goto u x h e (pl.updates b i x u l f q) k).0 (no_store (instruction_rows_at t u) (pl.update_store b i x u l f q));
      init_load = λ b i x u l f h e q k. subst (λ (z : ℕ). ends_in_own_load t (instruction_rows_at t z) ≡ false) (at_goto i x h e (pl.inits b i x u l f q) k).0 (pl.init_load b i x u l f q);
      one_fallthrough = pl.one_fallthrough;
      no_loop = pl.no_loop;
      no_again = pl.no_again;
      case_fallthrough = pl.case_fallthrough;
      entry_reached = pl.entry_reached;
      entered = λ b. entered_of b (terminal_at t b) refl;
      case_reached = pl.case_reached;
      open_ends = pl.open_ends;
      open_cases = pl.open_cases;
      throw_fallthrough = λ b b' n e q. not_coded b (maybe_throw n) e refl;
      throw_case = λ b n e c. not_coded b (maybe_throw n) e refl;
      throw_loop = λ b n w x f k e q. not_coded b (maybe_throw n) e refl;
      throw_again = λ b n w x l f e q. not_coded b (maybe_throw n) e refl;
    }

    pub old_wide : WidePlain width t
    old_wide = record { loops = old_loops; values = old_values }

    -- ---- all rows are seen, and the block run is the old one

    unseen_none : (b : ℕ) (m : Terminal) → terminal_at t b ≡ m → unseen_of t m ≡ []
    unseen_none b absent e = refl
    unseen_none b unreachable e = refl
    unseen_none b (throw value) e = refl
    unseen_none b (return value) e = refl
    unseen_none b (goto block variant) e = refl
    unseen_none b (if test consequent alternate fallthrough) e = refl
    unseen_none b (branch test consequent alternate) e = refl
    unseen_none b (switch test first number fallthrough) e = refl
    unseen_none b (do_while loop test fallthrough) e = refl
    unseen_none b (while test loop fallthrough) e = refl
    unseen_none b (for init test update loop fallthrough) e = let (k, w) = pl.inits b init test update loop fallthrough e in ap (λ (z : Option ValueEnd). store_of_end t z) (end_goto init test k w) ∙ no_store (instruction_rows_at t init) (pl.init_store b init test update loop fallthrough e)
    unseen_none b (for_of init test loop fallthrough) e = absurd (not_coded b (for_of init test loop fallthrough) e refl)
    unseen_none b (for_in init loop fallthrough) e = absurd (not_coded b (for_in init loop fallthrough) e refl)
    unseen_none b (logical operator test fallthrough) e = absurd (not_coded b (logical operator test fallthrough) e refl)
    unseen_none b (ternary test fallthrough) e = absurd (not_coded b (ternary test fallthrough) e refl)
    unseen_none b (optional flag test fallthrough) e = absurd (not_coded b (optional flag test fallthrough) e refl)
    unseen_none b (label block fallthrough) e = refl
    unseen_none b (sequence block fallthrough) e = absurd (not_coded b (sequence block fallthrough) e refl)
    unseen_none b (maybe_throw continuation) e = refl
    unseen_none b (try block handler fallthrough binding) e = refl
    unseen_none b (scope pruned block fallthrough number) e = refl

    none_of_all : (blocks : List Block) → ((b : ℕ) → unseen_of t (get_or blocks b no_block).terminal ≡ []) → unseen_of_all t blocks ≡ []
    none_of_all [] h = refl
    none_of_all (k ∷ ks) h = ap (λ (z : List ℕ). z ++ unseen_of_all t ks) (h 0) ∙ none_of_all ks (λ b. h (suc b))

    pub old_seen : (row : ℕ) → seen t row ≡ true
    unfolding seen
    old_seen row = ap (λ (z : List ℕ). not (contains z row)) (none_of_all t.blocks (λ b. unseen_none b (terminal_at t b) refl))

    seen_same : (rows : List ℕ) → seen_rows (seen t) rows ≡ rows
    seen_same [] = refl
    seen_same (r ∷ rs) = ap (λ (y : Bool). cond y (r ∷ seen_rows (seen t) rs) (seen_rows (seen t) rs)) (old_seen r) ∙ ap (λ (z : List ℕ). r ∷ z) (seen_same rs)

    move_same : (b : ℕ) (m : Terminal) → terminal_at t b ≡ m → (id : ℕ) (a : Answers) → wide_move t m id a ≡ move t m id a
    unfolding wide_move
    move_same b absent e id a = refl
    move_same b unreachable e id a = refl
    move_same b (throw value) e id a = refl
    move_same b (return value) e id a = refl
    move_same b (goto block variant) e id a = refl
    move_same b (if test consequent alternate fallthrough) e id a = refl
    move_same b (branch test consequent alternate) e id a = refl
    move_same b (switch test first number fallthrough) e id a = refl
    move_same b (do_while loop test fallthrough) e id a = refl
    move_same b (while test loop fallthrough) e id a = refl
    move_same b (for init test update loop fallthrough) e id a = refl
    move_same b (for_of init test loop fallthrough) e id a = refl
    move_same b (for_in init loop fallthrough) e id a = refl
    move_same b (logical operator test fallthrough) e id a = absurd (not_coded b (logical operator test fallthrough) e refl)
    move_same b (ternary test fallthrough) e id a = absurd (not_coded b (ternary test fallthrough) e refl)
    move_same b (optional flag test fallthrough) e id a = absurd (not_coded b (optional flag test fallthrough) e refl)
    move_same b (label block fallthrough) e id a = refl
    move_same b (sequence block fallthrough) e id a = absurd (not_coded b (sequence block fallthrough) e refl)
    move_same b (maybe_throw continuation) e id a = absurd (not_coded b (maybe_throw continuation) e refl)
    move_same b (try block handler fallthrough binding) e id a = refl
    move_same b (scope pruned block fallthrough number) e id a = refl

    pub old_run : (n b : ℕ) (a : Answers) → wide_run t (seen t) n b a ≡ block_run t n b a
    unfolding wide_run block_run
    old_run zero b a = refl
    old_run (suc n) b a =
        ap (λ (z : List ℕ). performing z (elim (wide_move t (terminal_at t b) (block_at t b).id a) [ go next left ↦ wide_run t (seen t) n next left | halt reason ↦ stopped [] a reason ]))
        (seen_same (instruction_rows_at t b))
        ∙ ap (λ (z : Run). performing (instruction_rows_at t b) z)
        (ap (λ (m : Move). elim m [ go next left ↦ wide_run t (seen t) n next left | halt reason ↦ stopped [] a reason ]) (move_same b (terminal_at t b) refl (block_at t b).id a)
        ∙ at (move t (terminal_at t b) (block_at t b).id a) (λ b' a'. old_run n b' a'))
      where
        at : (m : Move) → ((b' : ℕ) (a' : Answers) → wide_run t (seen t) n b' a' ≡ block_run t n b' a')
            → ◌≡◌ {A = Run} (elim m [ go next left ↦ wide_run t (seen t) n next left | halt reason ↦ stopped [] a reason ]) (elim m [ go next left ↦ block_run t n next left | halt reason ↦ stopped [] a reason ])
        at (go b' a') h = h b' a'
        at (halt r) h = refl
