-- What the value walk makes: `Reads b v h e` says that the value v stands for the blocks from b to the Goto or Branch block e, and that its last row is one of the
-- block h's. From an accepted visit, by one induction on the depth left. For proofs/ValueLeads.
use mathlib.Core.Path.{◌≡◌, refl, sym, ap, ◌∙◌, subst}
use Prim.Native.Nat.{ℕ, zero, suc, ◌+◌, ◌-◌, ◌≤◌}
use native.Mathlib.Omega.{arith}
use mathlib.Core.List.{List, [], ◌∷◌}
use mathlib.Core.Option.{Option, none, some}
use mathlib.Core.Bool.{Bool, true, false}
use Rattle.table.specs.declared.columns.Span.{Span}
use Rattle.table.specs.Table.{Table, Terminal, Variant, absent, unreachable, throw, return, goto, if, branch, switch, do_while, while, for, for_of, for_in}
use Rattle.table.specs.Table.{logical, ternary, optional, label, sequence, maybe_throw, try, scope, block_at, terminal_at, instruction_at, instruction_rows_at}
use Rattle.table.specs.Table.{Operation, other, load_local, store_local}
use Rattle.definition.specs.Result.{Result, ok, refused}
use Rattle.definition.specs.Tree.{Value, PLAIN, LOAD, SEQ, LOGICAL, COND, OPTIONAL}
use Rattle.definition.specs.Value.{most_depth, visit_value_block, Ways, branch_ways, begin_visit, ValueBlockResult, ValueTerminalResult, TestBlockResult, VisitValueBlock}
use Rattle.definition.specs.Value.{innermost_value, final_place, instructions_of, wrap_with_sequence, final_value, stored_to_named, all_but_last, last, extract_value_block_result, extract_or_refuse}
use Rattle.definition.specs.Value.{test_block_ended, visit_test_block, single_instruction, visit_value_block_terminal, then_fallthrough, branch_value, maybe_throw_value}
use Rattle.definition.specs.Value.{visit_value_block_at, is_empty_goto}
use Rattle.definition.proofs.Steps.{none_some, some_eq, Good, good_bind, good_unless}
use Rattle.definition.specs.ValueEnds.{ValueEnd, ends_at, value_end_at, value_end, end_of}

pub branch_of_ways : (m : Terminal) (w : Ways) → branch_ways m ≡ some w → (place : ℕ) × (m ≡ branch place w.consequent w.alternate)
branch_of_ways absent w e = absurd (none_some e)
branch_of_ways unreachable w e = absurd (none_some e)
branch_of_ways (throw value) w e = absurd (none_some e)
branch_of_ways (return value) w e = absurd (none_some e)
branch_of_ways (goto block variant) w e = absurd (none_some e)
branch_of_ways (if test consequent alternate fallthrough) w e = absurd (none_some e)
branch_of_ways (branch test consequent alternate) w e = (test, ap (λ (z : Ways). branch test z.consequent z.alternate) (some_eq e))
branch_of_ways (switch test first number fallthrough) w e = absurd (none_some e)
branch_of_ways (do_while loop test fallthrough) w e = absurd (none_some e)
branch_of_ways (while test loop fallthrough) w e = absurd (none_some e)
branch_of_ways (for init test update loop fallthrough) w e = absurd (none_some e)
branch_of_ways (for_of init test loop fallthrough) w e = absurd (none_some e)
branch_of_ways (for_in init loop fallthrough) w e = absurd (none_some e)
branch_of_ways (logical operator test fallthrough) w e = absurd (none_some e)
branch_of_ways (ternary test fallthrough) w e = absurd (none_some e)
branch_of_ways (optional flag test fallthrough) w e = absurd (none_some e)
branch_of_ways (label block fallthrough) w e = absurd (none_some e)
branch_of_ways (sequence block fallthrough) w e = absurd (none_some e)
branch_of_ways (maybe_throw continuation) w e = absurd (none_some e)
branch_of_ways (try block handler fallthrough binding) w e = absurd (none_some e)
branch_of_ways (scope pruned block fallthrough number) w e = absurd (none_some e)

module _ (t : Table) where
  -- ---- more steps

  more_at : (f g : ℕ → Option ValueEnd) → ((n : ℕ) (x : ValueEnd) → f n ≡ some x → g n ≡ some x) → (b : ℕ) (m : Terminal) (x : ValueEnd)
      → value_end_at t f b m ≡ some x → value_end_at t g b m ≡ some x
  unfolding value_end_at
  more_at f g h b absent x e = absurd (none_some e)
  more_at f g h b unreachable x e = absurd (none_some e)
  more_at f g h b (throw value) x e = absurd (none_some e)
  more_at f g h b (return value) x e = absurd (none_some e)
  more_at f g h b (goto block variant) x e = e
  more_at f g h b (if test consequent alternate fallthrough) x e = absurd (none_some e)
  more_at f g h b (branch test consequent alternate) x e = e
  more_at f g h b (switch test first number fallthrough) x e = absurd (none_some e)
  more_at f g h b (do_while loop test fallthrough) x e = absurd (none_some e)
  more_at f g h b (while test loop fallthrough) x e = absurd (none_some e)
  more_at f g h b (for init test update loop fallthrough) x e = absurd (none_some e)
  more_at f g h b (for_of init test loop fallthrough) x e = absurd (none_some e)
  more_at f g h b (for_in init loop fallthrough) x e = absurd (none_some e)
  more_at f g h b (logical operator test fallthrough) x e = h fallthrough x e
  more_at f g h b (ternary test fallthrough) x e = h fallthrough x e
  more_at f g h b (optional flag test fallthrough) x e = h fallthrough x e
  more_at f g h b (label block fallthrough) x e = absurd (none_some e)
  more_at f g h b (sequence block fallthrough) x e = h fallthrough x e
  more_at f g h b (maybe_throw continuation) x e = by (is_empty_goto (block_at t continuation)) e
    where
      by : (y : Bool) → elim y [ true ↦ some (ends_at b continuation) | false ↦ f continuation ] ≡ some x
          → elim y [ true ↦ some (ends_at b continuation) | false ↦ g continuation ] ≡ some x
      by true q = q
      by false q = h continuation x q
  more_at f g h b (try block handler fallthrough binding) x e = absurd (none_some e)
  more_at f g h b (scope pruned block fallthrough number) x e = absurd (none_some e)

  more_steps : (d b : ℕ) (x : ValueEnd) → value_end t d b ≡ some x → value_end t (suc d) b ≡ some x
  unfolding value_end
  more_steps zero b x e = absurd (none_some e)
  more_steps (suc d) b x e = more_at (λ n. value_end t d n) (λ n. value_end t (suc d) n) (λ n y q. more_steps d n y q) b (terminal_at t b) x e

  many_steps : (k d b : ℕ) (x : ValueEnd) → value_end t d b ≡ some x → value_end t (k + d) b ≡ some x
  many_steps zero d b x e = subst (λ (z : ℕ). value_end t z b ≡ some x) (omega arith) e
  many_steps (suc k) d b x e = subst (λ (z : ℕ). value_end t z b ≡ some x) (omega arith) (more_steps (k + d) b x (many_steps k d b x e))

  -- a value that ends within the depth of the walk
  pub ends_in : (d b : ℕ) (x : ValueEnd) → d ≤ most_depth → value_end t d b ≡ some x → end_of t b ≡ some x
  unfolding end_of
  ends_in d b x h e = subst (λ (z : ℕ). value_end t z b ≡ some x) (omega (arith, h)) (many_steps (most_depth - d) d b x e)

  -- ---- the relation

  -- of the rows row ∷ rows at a value's end
  abbrev pub end_value : ℕ → List ℕ → Value
  end_value row rows =
      wrap_with_sequence t (all_but_last row rows) (instruction_at t (last row rows)).id
      (final_value (last row rows) (instruction_at t (last row rows)).operation (stored_to_named t (instruction_at t (last row rows)).operation))

  mutual
    pub data Reads : ℕ → Value → ℕ → ℕ → Type 0 where
      reads_goto : {b : ℕ} {v : Value} (g : ℕ) (k : Variant) (row : ℕ) (rows : List ℕ) → terminal_at t b ≡ goto g k → instruction_rows_at t b ≡ row ∷ rows
          → v ≡ end_value row rows → Reads b v b b
      reads_branch : {b : ℕ} {v : Value} (p c d row : ℕ) (rows : List ℕ) → terminal_at t b ≡ branch p c d → instruction_rows_at t b ≡ row ∷ rows
          → v ≡ end_value row rows → Reads b v b b
      reads_empty : {b : ℕ} {v : Value} (p c d : ℕ) → terminal_at t b ≡ branch p c d → instruction_rows_at t b ≡ [] → v ≡ LOAD p → Reads b v b b
      reads_last_throw : {b : ℕ} {v : Value} (n row : ℕ) (rows : List ℕ) → terminal_at t b ≡ maybe_throw n → is_empty_goto (block_at t n) ≡ true
          → instruction_rows_at t b ≡ row ∷ rows → v ≡ end_value row rows → Reads b v b n
      reads_throw : {b h e : ℕ} {v w : Value} (n i : ℕ) → terminal_at t b ≡ maybe_throw n → is_empty_goto (block_at t n) ≡ false
          → Reads n w h e → v ≡ wrap_with_sequence t (instruction_rows_at t b) i w → Reads b v h e
      -- a terminal's value w becomes an instruction, and the value is that of its fallthrough
      reads_on : {b h e : ℕ} {v w u : Value} (m : Terminal) (f i j l : ℕ) (s : Span) → terminal_at t b ≡ m → ReadsTerminal m w f → Reads f u h e
          → v ≡ SEQ (instructions_of t (instruction_rows_at t b) (single_instruction j l s w)) i u → Reads b v h e

    -- the value of a terminal with the fallthrough f
    pub data ReadsTerminal : Terminal → Value → ℕ → Type 0 where
      reads_logical : {m : Terminal} {w vx vl vr : Value} (o x f y p c d hx hl el hr er j l i : ℕ) (s : Span) → m ≡ logical o x f
          → end_of t x ≡ some (ends_at hx y) → terminal_at t y ≡ branch p c d → end_of t c ≡ some (ends_at hl el) → end_of t d ≡ some (ends_at hr er)
          → Reads x vx hx y → Reads c vl hl el → Reads d vr hr er → w ≡ LOGICAL o (SEQ (single_instruction j l s vx) i vl) vr → ReadsTerminal m w f
      reads_ternary : {m : Terminal} {w vx vl vr : Value} (x f y p c d hx hl el hr er : ℕ) → m ≡ ternary x f
          → end_of t x ≡ some (ends_at hx y) → terminal_at t y ≡ branch p c d → end_of t c ≡ some (ends_at hl el) → end_of t d ≡ some (ends_at hr er)
          → Reads x vx hx y → Reads c vl hl el → Reads d vr hr er → w ≡ COND vx vl vr → ReadsTerminal m w f
      reads_optional : {m : Terminal} {w vx vl : Value} (o x f y p c d hx hl el j l i : ℕ) (s : Span) → m ≡ optional o x f
          → end_of t x ≡ some (ends_at hx y) → terminal_at t y ≡ branch p c d → end_of t c ≡ some (ends_at hl el)
          → Reads x vx hx y → Reads c vl hl el → w ≡ OPTIONAL o (SEQ (single_instruction j l s vx) i vl) → ReadsTerminal m w f
      reads_sequence : {m : Terminal} {w : Value} (c f hl el : ℕ) → m ≡ sequence c f → end_of t c ≡ some (ends_at hl el) → Reads c w hl el → ReadsTerminal m w f

  -- ---- from the build

  -- the row is the last one of the block h
  abbrev pub LastRow : (h row : ℕ) → Type 0
  LastRow h row = (first : ℕ) × (rest : List ℕ) × (instruction_rows_at t h ≡ first ∷ rest) × (last first rest ≡ row)

  -- `place` holds the value: where that is a row, its lvalue
  abbrev pub Placed : (v : Value) → (place h : ℕ) → Type 0
  Placed v place h = (row : ℕ) → innermost_value v ≡ PLAIN row → (place ≡ (instruction_at t row).lvalue) × LastRow h row

  innermost_wrapped : (rows : List ℕ) (i : ℕ) (v : Value) → innermost_value (wrap_with_sequence t rows i v) ≡ innermost_value v
  unfolding wrap_with_sequence
  innermost_wrapped [] i v = refl
  innermost_wrapped (r ∷ rows) i v = refl

  plain_eq : {x y : ℕ} → PLAIN x ≡ PLAIN y → x ≡ y
  plain_eq e = cc

  load_plain : {x y : ℕ} → LOAD x ≡ PLAIN y → ⊥
  load_plain e = let z : ◌≡◌ {A = ℕ} 0 1 = cc in omega arith

  final_placed : (row : ℕ) (op : Operation) (named l row' : ℕ) → innermost_value (final_value row op named) ≡ PLAIN row' → (final_place op named l ≡ l) × (row ≡ row')
  unfolding final_value final_place
  final_placed row other named l row' q = (refl, plain_eq q)
  final_placed row (load_local p) named l row' q = (refl, plain_eq q)
  final_placed row (store_local p s) zero l row' q = absurd (load_plain q)
  final_placed row (store_local p s) (suc named) l row' q = (refl, plain_eq q)

  end_placed : (b row : ℕ) (rows : List ℕ) → instruction_rows_at t b ≡ row ∷ rows
      → Placed (end_value row rows)
      (final_place (instruction_at t (last row rows)).operation (stored_to_named t (instruction_at t (last row rows)).operation) (instruction_at t (last row rows)).lvalue) b
  end_placed b row rows r row' q =
      let (p, s) = final_placed (last row rows) (instruction_at t (last row rows)).operation (stored_to_named t (instruction_at t (last row rows)).operation)
      (instruction_at t (last row rows)).lvalue row' (sym (innermost_wrapped (all_but_last row rows) (instruction_at t (last row rows)).id
      (final_value (last row rows) (instruction_at t (last row rows)).operation (stored_to_named t (instruction_at t (last row rows)).operation))) ∙ q) in
      (p ∙ ap (λ (z : ℕ). (instruction_at t z).lvalue) s, (row, rows, r, s))

  pub record ReadTo (d b : ℕ) (v : Value) (place e : ℕ) : Type 0 where
    pub holder : ℕ
    pub placed : Placed v place holder
    pub reads : Reads b v holder e
    pub ends : value_end t d b ≡ some (ends_at holder e)

  abbrev Visited : ℕ → ℕ → ValueBlockResult → Type 0
  Visited d b r = ReadTo d b r.value r.place r.block

  pub record TerminalRead (m : Terminal) (r : ValueTerminalResult) : Type 0 where
    pub reads : ReadsTerminal m r.value r.fallthrough

  record TestRead (d b : ℕ) (r : TestBlockResult) : Type 0 where
    read : ReadTo d b r.test.value r.test.place r.test.block
    place : ℕ
    ways : terminal_at t r.test.block ≡ branch place r.ways.consequent r.ways.alternate

  abbrev pub ReadsOf : ℕ → VisitValueBlock → Type 0
  ReadsOf d visit = (b : ℕ) (fallthrough : Option ℕ) (span : Span) (visits : ℕ) → Good (Visited d b) (visit b fallthrough span visits)

  module _ (d : ℕ) (few : d ≤ most_depth) (visit : VisitValueBlock) (nested : ReadsOf d visit) where
    ended : (b h e : ℕ) → value_end t d b ≡ some (ends_at h e) → end_of t b ≡ some (ends_at h e)
    ended b h e q = ends_in d b (ends_at h e) few q

    test_reads : (block : ℕ) (span : Span) (visits at : ℕ) → Good (TestRead d block) (visit_test_block t visit block span visits at)
    unfolding visit_test_block test_block_ended
    test_reads block span visits at =
        good_bind (Visited d block) (TestRead d block) _ _ (nested block none span visits) (λ test a. by test a (branch_ways (terminal_at t test.block)) refl)
      where
        by : (test : ValueBlockResult) → Visited d block test → (w : Option Ways) → branch_ways (terminal_at t test.block) ≡ w
            → Good (TestRead d block) (test_block_ended test w at)
        by test a none e = tt
        by test a (some w) e = let (p, q) = branch_of_ways (terminal_at t test.block) w e in record { read = a; place = p; ways = q }

    pub terminal_reads : (m : Terminal) (id : ℕ) (span : Span) (visits at : ℕ) → Good (TerminalRead m) (visit_value_block_terminal t visit m id span visits at)
    unfolding visit_value_block_terminal
    terminal_reads absent id span visits at = tt
    terminal_reads unreachable id span visits at = tt
    terminal_reads (throw value) id span visits at = tt
    terminal_reads (return value) id span visits at = tt
    terminal_reads (goto block variant) id span visits at = tt
    terminal_reads (if test consequent alternate fallthrough) id span visits at = tt
    terminal_reads (branch test consequent alternate) id span visits at = tt
    terminal_reads (switch test first number fallthrough) id span visits at = tt
    terminal_reads (do_while loop test fallthrough) id span visits at = tt
    terminal_reads (while test loop fallthrough) id span visits at = tt
    terminal_reads (for init test update loop fallthrough) id span visits at = tt
    terminal_reads (for_of init test loop fallthrough) id span visits at = tt
    terminal_reads (for_in init loop fallthrough) id span visits at = tt
    terminal_reads (logical operator test fallthrough) id span visits at =
        good_bind (TestRead d test) (TerminalRead (logical operator test fallthrough)) _ _ (test_reads test span visits at) (λ tested a.
        good_bind (Visited d tested.ways.consequent) (TerminalRead (logical operator test fallthrough)) _ _ (nested tested.ways.consequent (some fallthrough) span tested.test.visits) (λ left b.
        good_bind (Visited d tested.ways.alternate) (TerminalRead (logical operator test fallthrough)) _ _ (nested tested.ways.alternate (some fallthrough) span left.visits) (λ right c.
        record {
          reads =
              reads_logical operator test fallthrough tested.test.block a.place tested.ways.consequent tested.ways.alternate a.read.holder b.holder left.block c.holder right.block
              tested.test.id tested.test.place left.id span refl (ended test a.read.holder tested.test.block a.read.ends) a.ways
              (ended tested.ways.consequent b.holder left.block b.ends) (ended tested.ways.alternate c.holder right.block c.ends) a.read.reads b.reads c.reads refl;
        })))
    terminal_reads (ternary test fallthrough) id span visits at =
        good_bind (TestRead d test) (TerminalRead (ternary test fallthrough)) _ _ (test_reads test span visits at) (λ tested a.
        good_bind (Visited d tested.ways.consequent) (TerminalRead (ternary test fallthrough)) _ _ (nested tested.ways.consequent (some fallthrough) span tested.test.visits) (λ left b.
        good_bind (Visited d tested.ways.alternate) (TerminalRead (ternary test fallthrough)) _ _ (nested tested.ways.alternate (some fallthrough) span left.visits) (λ right c.
        record {
          reads =
              reads_ternary test fallthrough tested.test.block a.place tested.ways.consequent tested.ways.alternate a.read.holder b.holder left.block c.holder right.block
              refl (ended test a.read.holder tested.test.block a.read.ends) a.ways
              (ended tested.ways.consequent b.holder left.block b.ends) (ended tested.ways.alternate c.holder right.block c.ends) a.read.reads b.reads c.reads refl;
        })))
    terminal_reads (optional flag test fallthrough) id span visits at =
        good_bind (TestRead d test) (TerminalRead (optional flag test fallthrough)) _ _ (test_reads test span visits at) (λ tested a.
        good_bind (Visited d tested.ways.consequent) (TerminalRead (optional flag test fallthrough)) _ _ (nested tested.ways.consequent (some fallthrough) span tested.test.visits) (λ left b.
        record {
          reads =
              reads_optional flag test fallthrough tested.test.block a.place tested.ways.consequent tested.ways.alternate a.read.holder b.holder left.block
              tested.test.id tested.test.place left.id (block_at t tested.test.block).span refl (ended test a.read.holder tested.test.block a.read.ends) a.ways
              (ended tested.ways.consequent b.holder left.block b.ends) a.read.reads b.reads refl;
        }))
    terminal_reads (label block fallthrough) id span visits at = tt
    terminal_reads (sequence block fallthrough) id span visits at =
        good_bind (Visited d block) (TerminalRead (sequence block fallthrough)) _ _ (nested block (some fallthrough) span visits) (λ inner b.
        record { reads = reads_sequence block fallthrough b.holder inner.block refl (ended block b.holder inner.block b.ends) b.reads })
    terminal_reads (maybe_throw continuation) id span visits at = tt
    terminal_reads (try block handler fallthrough binding) id span visits at = tt
    terminal_reads (scope pruned block fallthrough number) id span visits at = tt

    -- where the value terminal's fallthrough ends, the value does
    end_on : (b h e : ℕ) (m : Terminal) (w : Value) (f : ℕ) → terminal_at t b ≡ m → ReadsTerminal m w f → value_end t d f ≡ some (ends_at h e) → value_end t (suc d) b ≡ some (ends_at h e)
    unfolding value_end value_end_at
    end_on b h e m w f q (reads_logical o x f' y p c d' hx hl el hr er j l i s q' _ _ _ _ _ _ _ _) k = ap (λ (z : Terminal). value_end_at t (λ n. value_end t d n) b z) (q ∙ q') ∙ k
    end_on b h e m w f q (reads_ternary x f' y p c d' hx hl el hr er q' _ _ _ _ _ _ _ _) k = ap (λ (z : Terminal). value_end_at t (λ n. value_end t d n) b z) (q ∙ q') ∙ k
    end_on b h e m w f q (reads_optional o x f' y p c d' hx hl el j l i s q' _ _ _ _ _ _) k = ap (λ (z : Terminal). value_end_at t (λ n. value_end t d n) b z) (q ∙ q') ∙ k
    end_on b h e m w f q (reads_sequence c f' hl el q' _ _) k = ap (λ (z : Terminal). value_end_at t (λ n. value_end t d n) b z) (q ∙ q') ∙ k

    block_reads : (m : Terminal) (b : ℕ) → terminal_at t b ≡ m → (outer : Option ℕ) (span : Span) (visits : ℕ)
        → Good (Visited (suc d) b) (visit_value_block_at t visit m b (block_at t b) outer span visits)
    unfolding visit_value_block_at value_end value_end_at then_fallthrough extract_or_refuse extract_value_block_result branch_value maybe_throw_value
    block_reads m b q outer span visits = at m q
      where
        steps : (m : Terminal) (x : Option ValueEnd) → terminal_at t b ≡ m → value_end_at t (λ n. value_end t d n) b m ≡ x → value_end t (suc d) b ≡ x
        steps m x e k = ap (λ (z : Terminal). value_end_at t (λ n. value_end t d n) b z) e ∙ k

        through : (m : Terminal) → terminal_at t b ≡ m
            → Good (Visited (suc d) b) (then_fallthrough t visit (block_at t b) span (visit_value_block_terminal t visit m (block_at t b).id (block_at t b).span visits b))
        through m e =
            good_bind (TerminalRead m) (Visited (suc d) b) _ _ (terminal_reads m (block_at t b).id (block_at t b).span visits b) (λ init a.
            good_bind (Visited d init.fallthrough) (Visited (suc d) b) _ _ (nested init.fallthrough none span init.visits) (λ final c.
            record {
              holder = c.holder;
              placed = c.placed;
              reads = reads_on m init.fallthrough final.id init.id init.place span e a.reads c.reads refl;
              ends = end_on b c.holder final.block m init.value init.fallthrough e a.reads c.ends;
            }))

        of_goto : (g : ℕ) (k : Variant) → terminal_at t b ≡ goto g k → (rs : List ℕ) → instruction_rows_at t b ≡ rs
            → Good (Visited (suc d) b) (extract_or_refuse t b rs visits 24 b)
        of_goto g k e [] q = tt
        of_goto g k e (row ∷ rows) q = record { holder = b; placed = end_placed b row rows q; reads = reads_goto g k row rows e q refl; ends = steps (goto g k) (some (ends_at b b)) e refl }

        of_branch : (p x y : ℕ) → terminal_at t b ≡ branch p x y → (rs : List ℕ) → instruction_rows_at t b ≡ rs
            → Good (Visited (suc d) b) (branch_value t b p (block_at t b).id rs visits)
        of_branch p x y e [] q = record { holder = b; placed = λ row' w. absurd (load_plain w); reads = reads_empty p x y e q refl; ends = steps (branch p x y) (some (ends_at b b)) e refl }
        of_branch p x y e (row ∷ rows) q = record { holder = b; placed = end_placed b row rows q; reads = reads_branch p x y row rows e q refl; ends = steps (branch p x y) (some (ends_at b b)) e refl }

        of_last : (n : ℕ) → terminal_at t b ≡ maybe_throw n → is_empty_goto (block_at t n) ≡ true → (rs : List ℕ) → instruction_rows_at t b ≡ rs
            → Good (Visited (suc d) b) (extract_or_refuse t n rs visits 28 b)
        of_last n e i [] q = tt
        of_last n e i (row ∷ rows) q = record {
          holder = b;
          placed = end_placed b row rows q;
          reads = reads_last_throw n row rows e i q refl;
          ends = steps (maybe_throw n) (some (ends_at b n)) e (ap (λ (z : Bool). elim z [ true ↦ some (ends_at b n) | false ↦ value_end t d n ]) i);
        }

        of_throw : (n : ℕ) → terminal_at t b ≡ maybe_throw n → (y : Bool) → is_empty_goto (block_at t n) ≡ y
            → Good (Visited (suc d) b) (maybe_throw_value t visit b n (instruction_rows_at t b) outer span visits y)
        of_throw n e true i = of_last n e i (instruction_rows_at t b) refl
        of_throw n e false i =
            good_bind (Visited d n) (Visited (suc d) b) _ _ (nested n outer span visits) (λ final c.
            record {
              holder = c.holder;
              placed = λ row' w. c.placed row' (sym (innermost_wrapped (instruction_rows_at t b) final.id final.value) ∙ w);
              reads = reads_throw n final.id e i c.reads refl;
              ends = steps (maybe_throw n) (some (ends_at c.holder final.block)) e (ap (λ (z : Bool). elim z [ true ↦ some (ends_at b n) | false ↦ value_end t d n ]) i ∙ c.ends);
            })

        at : (m : Terminal) → terminal_at t b ≡ m → Good (Visited (suc d) b) (visit_value_block_at t visit m b (block_at t b) outer span visits)
        at absent e = through absent e
        at unreachable e = through unreachable e
        at (throw value) e = through (throw value) e
        at (return value) e = through (return value) e
        at (goto block variant) e = of_goto block variant e (instruction_rows_at t b) refl
        at (if test consequent alternate fallthrough) e = through (if test consequent alternate fallthrough) e
        at (branch test consequent alternate) e = of_branch test consequent alternate e (instruction_rows_at t b) refl
        at (switch test first number fallthrough) e = through (switch test first number fallthrough) e
        at (do_while loop test fallthrough) e = through (do_while loop test fallthrough) e
        at (while test loop fallthrough) e = through (while test loop fallthrough) e
        at (for init test update loop fallthrough) e = through (for init test update loop fallthrough) e
        at (for_of init test loop fallthrough) e = through (for_of init test loop fallthrough) e
        at (for_in init loop fallthrough) e = through (for_in init loop fallthrough) e
        at (logical operator test fallthrough) e = through (logical operator test fallthrough) e
        at (ternary test fallthrough) e = through (ternary test fallthrough) e
        at (optional flag test fallthrough) e = through (optional flag test fallthrough) e
        at (label block fallthrough) e = through (label block fallthrough) e
        at (sequence block fallthrough) e = through (sequence block fallthrough) e
        at (maybe_throw continuation) e = good_unless (Visited (suc d) b) _ 10 continuation visits _ (λ _. of_throw continuation e (is_empty_goto (block_at t continuation)) refl)
        at (try block handler fallthrough binding) e = through (try block handler fallthrough binding) e
        at (scope pruned block fallthrough number) e = through (scope pruned block fallthrough number) e

  pub value_reads : (d : ℕ) → d ≤ most_depth → ReadsOf d (visit_value_block t d)
  unfolding visit_value_block
  value_reads zero h b fallthrough span visits = tt
  value_reads (suc d) h b fallthrough span visits =
      good_bind (λ (n : ℕ). Unit {0}) (Visited (suc d) b) _ _ (any_good (begin_visit t b visits)) (λ begun _.
      good_unless (Visited (suc d) b) _ 23 b begun _ (λ _.
      block_reads d (omega (arith, h)) (visit_value_block t d) (value_reads d (omega (arith, h))) (terminal_at t b) b refl fallthrough span begun))
    where
      any_good : (step : Result ℕ) → Good (λ (n : ℕ). Unit {0}) step
      any_good (ok a) = tt
      any_good (refused code at visits) = tt
