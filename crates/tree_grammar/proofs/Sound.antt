-- What the reader gives back is a reading: over rows in range, the parts that it holds have just the rows read so far.
use mathlib.Core.Path.{◌≡◌, refl, sym, ap, subst}
use Prim.Native.Nat.{ℕ, zero, suc, ◌+◌, ◌<◌, ◌≤◌}
use native.Mathlib.Omega.{arith}
use mathlib.Core.List.{List, [], ◌∷◌}
use mathlib.Core.Option.{none, some}
use mathlib.Core.Bool.{Bool, true, false}
use mathlib.Core.Logic.{◌⊎◌, inl, inr}
use lib.ListN.{get_or}
use lib.Dec.{eqb, leb}
use borrow.Author.Tests.{eqb-true, eqb-false, leb-true}
use Rattle.table.specs.Words.{largest}
use Rattle.table.specs.Table.{unless_none}
use Rattle.table.specs.Check.{unused, row_or_none, fits}
use Rattle.table.proofs.PromiseLaws.{unused_zero, number_most, none_or_below}
use Rattle.definition.specs.Tree.{Value, PLAIN, LOAD, UNDEF, SEQ, LOGICAL, COND, OPTIONAL, Instructions, no_instructions, instruction, Statement, INSTR}
use Rattle.definition.specs.Tree.{IF, SWITCH, DOWHILE, WHILE, FOR, FOROF, FORIN, LABEL, TRY, SCOPE, RETURN, THROW, BREAK, CONTINUE, Statements, done, ◌▸◌}
use Rattle.definition.specs.Tree.{Cases, no_cases, CASE, Row, row, or_none, kind_number, value_rows, instructions_rows, count_instructions, count_statements}
use Rattle.definition.specs.Tree.{count_cases, statement_rows, statements_rows, block_rows, cases_rows}
use Rattle.table.specs.declared.columns.Span.{Span}
use Rattle.definition.specs.Reading.{BelowNone, WellFormedStatement, WellFormed, WellFormedCases, Part, value, statement, block, case, part_rows, WellFormedPart, Forest, forest_rows, WellFormedForest}
use Rattle.definition.proofs.Steps.{none_some}
use Rattle.definition.specs.Reader.{Step, take_value, take_statement, take_block, take_case, as_instruction, take_instructions, take_statements, take_cases, pushes}
use Rattle.definition.specs.Reader.{kind_of, close_if, close_for, closings, close}
use Rattle.tree_grammar.proofs.Upto.{upto, ends, ◌and◌, and_both}
use Rattle.tree_grammar.specs.Ranges.{rules_by_op, row_rules, fits_column, in_range}

-- a step over the parts S, whose rows are followed by `rows after`, leaves parts that are followed by `after`
abbrev Sound : (List Row → List Row) → Step → Type 0
Sound rows step = (S S' : Forest) → WellFormedForest S → step S ≡ some S' → ((after : List Row) → forest_rows S (rows after) ≡ forest_rows S' after) × WellFormedForest S'

some_is : {A : Type 0} {a b : A} → some a ≡ some b → a ≡ b
some_is e = cc

sound_none : (rows : List Row → List Row) → Sound rows (λ S. none)
sound_none rows S S' w e = absurd (none_some e)

sound_push : (rows : List Row → List Row) (p : Part) → ((after : List Row) → rows after ≡ part_rows p after) → WellFormedPart p → Sound rows (pushes p)
unfolding pushes
sound_push rows p r h S S' w e =
    subst (λ (Z : Forest). ((after : List Row) → forest_rows S (rows after) ≡ forest_rows Z after) × WellFormedForest Z) (some_is e)
    ((λ after. ap (forest_rows S) (r after)), (h, w))

sound_value : (rows : List Row → List Row) (then : Value → Step) → ((v : Value) → Sound (λ after. value_rows v (rows after)) (then v)) → Sound rows (take_value then)
unfolding take_value
sound_value rows then k [] S' w e = absurd (none_some e)
sound_value rows then k (value v ∷ S) S' w e = k v S S' w.1 e
sound_value rows then k (statement s ∷ S) S' w e = absurd (none_some e)
sound_value rows then k (block b ∷ S) S' w e = absurd (none_some e)
sound_value rows then k (case n b ∷ S) S' w e = absurd (none_some e)

sound_statement : (rows : List Row → List Row) (then : Statement → Step)
    → ((s : Statement) → WellFormedStatement s → Sound (λ after. statement_rows s (rows after)) (then s)) → Sound rows (take_statement then)
unfolding take_statement
sound_statement rows then k [] S' w e = absurd (none_some e)
sound_statement rows then k (value v ∷ S) S' w e = absurd (none_some e)
sound_statement rows then k (statement s ∷ S) S' w e = k s w.0 S S' w.1 e
sound_statement rows then k (block b ∷ S) S' w e = absurd (none_some e)
sound_statement rows then k (case n b ∷ S) S' w e = absurd (none_some e)

sound_block : (rows : List Row → List Row) (then : Statements → Step) → ((b : Statements) → WellFormed b → Sound (λ after. block_rows b (rows after)) (then b)) → Sound rows (take_block then)
unfolding take_block
sound_block rows then k [] S' w e = absurd (none_some e)
sound_block rows then k (value v ∷ S) S' w e = absurd (none_some e)
sound_block rows then k (statement s ∷ S) S' w e = absurd (none_some e)
sound_block rows then k (block b ∷ S) S' w e = k b w.0 S S' w.1 e
sound_block rows then k (case n b ∷ S) S' w e = absurd (none_some e)

sound_case : (rows : List Row → List Row) (then : ℕ → Statements → Step)
    → ((n : ℕ) (b : Statements) → WellFormed b → Sound (λ after. block_rows b (row 11 n 0 0 0 0 ∷ rows after)) (then n b)) → Sound rows (take_case then)
unfolding take_case
sound_case rows then k [] S' w e = absurd (none_some e)
sound_case rows then k (value v ∷ S) S' w e = absurd (none_some e)
sound_case rows then k (statement s ∷ S) S' w e = absurd (none_some e)
sound_case rows then k (block b ∷ S) S' w e = absurd (none_some e)
sound_case rows then k (case n b ∷ S) S' w e = k n b w.0 S S' w.1 e

-- ---- many of a kind

sound_instruction : (rows : List Row → List Row) (more : Instructions) (then : Instructions → Step)
    → ((i l : ℕ) (s : Span) (v : Value) → Sound (λ after. instructions_rows (instruction i l s v more) (rows after)) (then (instruction i l s v more)))
    → (s : Statement) → Sound (λ after. statement_rows s (instructions_rows more (rows after))) (as_instruction then more s)
unfolding as_instruction
sound_instruction rows more then k (INSTR i l s v) = k i l s v
sound_instruction rows more then k (IF t i l c p a) = sound_none _
sound_instruction rows more then k (SWITCH t i l cs) = sound_none _
sound_instruction rows more then k (DOWHILE i l b t) = sound_none _
sound_instruction rows more then k (WHILE i l t b) = sound_none _
sound_instruction rows more then k (FOR i l n t u b) = sound_none _
sound_instruction rows more then k (FOROF i l s n t b) = sound_none _
sound_instruction rows more then k (FORIN i l s n b) = sound_none _
sound_instruction rows more then k (LABEL i l b) = sound_none _
sound_instruction rows more then k (TRY i l n b h) = sound_none _
sound_instruction rows more then k (SCOPE p s b) = sound_none _
sound_instruction rows more then k (RETURN v i) = sound_none _
sound_instruction rows more then k (THROW v i) = sound_none _
sound_instruction rows more then k (BREAK t i d n) = sound_none _
sound_instruction rows more then k (CONTINUE t i d n) = sound_none _

sound_instructions : (rows : List Row → List Row) (n : ℕ) (more : Instructions) (then : Instructions → Step)
    → ((is : Instructions) → count_instructions is ≡ count_instructions more + n → Sound (λ after. instructions_rows is (rows after)) (then is))
    → Sound (λ after. instructions_rows more (rows after)) (take_instructions n more then)
unfolding take_instructions
sound_instructions rows zero more then k = k more (omega arith)
sound_instructions rows (suc n) more then k =
    sound_statement _ _ (λ s w. sound_instruction rows more _ (λ i l p v. sound_instructions rows n (instruction i l p v more) then (λ is e. k is (omega (arith, e)))) s)

sound_statements : (rows : List Row → List Row) (n : ℕ) (more : Statements) (then : Statements → Step) → WellFormed more
    → ((ss : Statements) → count_statements ss ≡ count_statements more + n → WellFormed ss → Sound (λ after. statements_rows ss (rows after)) (then ss))
    → Sound (λ after. statements_rows more (rows after)) (take_statements n more then)
unfolding take_statements WellFormed
sound_statements rows zero more then h k = k more (omega arith) h
sound_statements rows (suc n) more then h k =
    sound_statement _ _ (λ s w. sound_statements rows n (s ▸ more) then (w, h) (λ ss e. k ss (omega (arith, e))))

sound_cases : (rows : List Row → List Row) (n : ℕ) (more : Cases) (then : Cases → Step) → WellFormedCases more
    → ((cs : Cases) → count_cases cs ≡ count_cases more + n → WellFormedCases cs → Sound (λ after. cases_rows cs (rows after)) (then cs))
    → Sound (λ after. cases_rows more (rows after)) (take_cases n more then)
unfolding take_cases WellFormed
sound_cases rows zero more then h k = k more (omega arith) h
sound_cases rows (suc n) more then h k =
    sound_case _ _ (λ t b w. sound_cases rows n (CASE t b more) then (w, h) (λ cs e. k cs (omega (arith, e))))

block_rows_lem : (ss : Statements) (after : List Row) → block_rows ss after ≡ statements_rows ss (row 9 (count_statements ss) 0 0 0 0 ∷ after)
block_rows_lem done after = refl
block_rows_lem (s ▸ rest) after = refl

-- ---- columns

or_none_lem : (d : ℕ) → or_none (unless_none d) ≡ d
unfolding unless_none
or_none_lem d = by (eqb d largest) refl
  where
    by : (y : Bool) → eqb d largest ≡ y → or_none (elim y [ true ↦ none | false ↦ some d ]) ≡ d
    by true e = sym (eqb-true d largest e)
    by false e = refl

below_none : (rows d : ℕ) → rows ≤ 65535 → fits (row_or_none rows) d ≡ true → BelowNone (unless_none d)
unfolding unless_none
below_none rows d few h = by (eqb d largest) refl (none_or_below rows d h)
  where
    by : (y : Bool) → eqb d largest ≡ y → (d ≡ largest) ⊎ (d < rows) → BelowNone (elim y [ true ↦ none | false ↦ some d ])
    by true e q = tt
    by false e (inl q) = absurd (eqb-false d largest e q)
    by false e (inr q) = omega arith

kind_number_lem : (c : ℕ) → c ≤ 2 → kind_number (kind_of c) ≡ c
unfolding kind_of
kind_number_lem zero h = refl
kind_number_lem (suc zero) h = refl
kind_number_lem (suc (suc zero)) h = refl
kind_number_lem (suc (suc (suc c))) h = absurd (omega arith)

-- ---- each op

pub record Columns (op a b c d e : ℕ) : Type 0 where
  pub fit_a : fits (get_or (get_or rules_by_op op []) 0 unused) a ≡ true
  pub fit_b : fits (get_or (get_or rules_by_op op []) 1 unused) b ≡ true
  pub fit_c : fits (get_or (get_or rules_by_op op []) 2 unused) c ≡ true
  pub fit_d : fits (get_or (get_or rules_by_op op []) 3 unused) d ≡ true
  pub fit_e : fits (get_or (get_or rules_by_op op []) 4 unused) e ≡ true

module _ (a b c d e : ℕ) where
  abbrev ClosesWell : ℕ → Type 0
  ClosesWell op = Columns op a b c d e → Sound (λ after. row op a b c d e ∷ after) (get_or (closings a b c d e) op (λ S. none))

  b0 : fits unused b ≡ true → b ≡ 0
  b0 h = unused_zero b h

  c0 : fits unused c ≡ true → c ≡ 0
  c0 h = unused_zero c h

  d0 : fits unused d ≡ true → d ≡ 0
  d0 h = unused_zero d h

  e0 : fits unused e ≡ true → e ≡ 0
  e0 h = unused_zero e h

  sound_0 : ClosesWell 0
  unfolding closings
  sound_0 f = sound_none _

  sound_1 : ClosesWell 1
  unfolding closings
  sound_1 f = sound_push _ (value (PLAIN a)) (λ after. rw (b0 f.fit_b, c0 f.fit_c, d0 f.fit_d, e0 f.fit_e)) tt

  sound_2 : ClosesWell 2
  unfolding closings
  sound_2 f = sound_push _ (value (LOAD a)) (λ after. rw (b0 f.fit_b, c0 f.fit_c, d0 f.fit_d, e0 f.fit_e)) tt

  sound_3 : ClosesWell 3
  unfolding closings
  sound_3 f = sound_push _ (value (UNDEF (record { from = a; to = b }))) (λ after. rw (c0 f.fit_c, d0 f.fit_d, e0 f.fit_e)) tt

  sound_4 : ClosesWell 4
  unfolding closings WellFormed
  sound_4 f = sound_value _ _ (λ v. sound_push _ (statement (INSTR a b (record { from = c; to = d }) v)) (λ after. rw (e0 f.fit_e)) tt)

  sound_5 : ClosesWell 5
  unfolding closings
  sound_5 f = sound_value _ _ (λ v.
      sound_instructions (λ after. value_rows v (row 5 a b c d e ∷ after)) a no_instructions _ (λ is q.
      sound_push _ (value (SEQ is b v)) (λ after. let z : count_instructions is ≡ a = omega (arith, q) in rw (z, c0 f.fit_c, d0 f.fit_d, e0 f.fit_e)) tt))

  sound_6 : ClosesWell 6
  unfolding closings
  sound_6 f = sound_value _ _ (λ r. sound_value _ _ (λ l. sound_push _ (value (LOGICAL a l r)) (λ after. rw (b0 f.fit_b, c0 f.fit_c, d0 f.fit_d, e0 f.fit_e)) tt))

  sound_7 : ClosesWell 7
  unfolding closings
  sound_7 f = sound_value _ _ (λ z. sound_value _ _ (λ y. sound_value _ _ (λ x.
      sound_push _ (value (COND x y z)) (λ after. rw (unused_zero a f.fit_a, b0 f.fit_b, c0 f.fit_c, d0 f.fit_d, e0 f.fit_e)) tt)))

  sound_8 : ClosesWell 8
  unfolding closings
  sound_8 f = sound_value _ _ (λ v. sound_push _ (value (OPTIONAL a v)) (λ after. rw (b0 f.fit_b, c0 f.fit_c, d0 f.fit_d, e0 f.fit_e)) tt)

  sound_9 : ClosesWell 9
  unfolding closings WellFormed
  sound_9 f = sound_statements (λ after. row 9 a b c d e ∷ after) a done _ tt (λ ss q w.
      sound_push _ (block ss) (λ after. let z : count_statements ss ≡ a = omega (arith, q) in rw (block_rows_lem ss after, z, b0 f.fit_b, c0 f.fit_c, d0 f.fit_d, e0 f.fit_e)) w)

  sound_10 : ClosesWell 10
  unfolding closings close_if WellFormed
  sound_10 f = by b (number_most 1 b f.fit_b) (or_none_lem d) (e0 f.fit_e) (below_none 1024 d (omega arith) f.fit_d)
    where
      by : (b : ℕ) → b ≤ 1 → or_none (unless_none d) ≡ d → e ≡ 0 → BelowNone (unless_none d) → Sound (λ after. row 10 a b c d e ∷ after) (close_if b a c (unless_none d))
      by zero h o z l = sound_block _ _ (λ x w. sound_push _ (statement (IF a c (unless_none d) x false done)) (λ after.
          let r : row 10 a 0 c d e ≡ row 10 a 0 c (or_none (unless_none d)) 0 = rw (o, z) in ap (λ (k : Row). block_rows x (k ∷ after)) r) (l, w, tt, tt))
      by (suc zero) h o z l = sound_block _ _ (λ y v. sound_block _ _ (λ x w. sound_push _ (statement (IF a c (unless_none d) x true y)) (λ after.
          let r : row 10 a 1 c d e ≡ row 10 a 1 c (or_none (unless_none d)) 0 = rw (o, z) in ap (λ (k : Row). block_rows x (block_rows y (k ∷ after))) r) (l, w, v, tt)))
      by (suc (suc b)) h o z l = absurd (omega arith)

  sound_11 : ClosesWell 11
  unfolding closings
  sound_11 f = sound_block _ _ (λ s w. sound_push _ (case a s) (λ after. rw (b0 f.fit_b, c0 f.fit_c, d0 f.fit_d, e0 f.fit_e)) w)

  sound_12 : ClosesWell 12
  unfolding closings WellFormed
  sound_12 f = sound_cases (λ after. row 12 a b c d e ∷ after) b no_cases _ tt (λ cs q w.
      sound_push _ (statement (SWITCH a c (unless_none d) cs)) (λ after.
      let z : count_cases cs ≡ b = omega (arith, q) in
      let r : row 12 a b c d e ≡ row 12 a (count_cases cs) c (or_none (unless_none d)) 0 = rw (z, or_none_lem d, e0 f.fit_e) in ap (λ (k : Row). cases_rows cs (k ∷ after)) r)
      (below_none 1024 d (omega arith) f.fit_d, w))

  -- the row of a statement with a label in b: the other columns are 0
  labelled : (op : ℕ) → c ≡ 0 → d ≡ 0 → e ≡ 0 → row op a b c d e ≡ row op a (or_none (unless_none b)) 0 0 0
  labelled op x y z = rw (or_none_lem b, x, y, z)

  sound_13 : ClosesWell 13
  unfolding closings WellFormed
  sound_13 f = sound_value _ _ (λ t. sound_block _ _ (λ s w.
      sound_push _ (statement (DOWHILE a (unless_none b) s t)) (λ after. ap (λ (k : Row). block_rows s (value_rows t (k ∷ after))) (labelled 13 (c0 f.fit_c) (d0 f.fit_d) (e0 f.fit_e)))
      (below_none 1024 b (omega arith) f.fit_b, w)))

  sound_14 : ClosesWell 14
  unfolding closings WellFormed
  sound_14 f = sound_block _ _ (λ s w. sound_value _ _ (λ t.
      sound_push _ (statement (WHILE a (unless_none b) t s)) (λ after. ap (λ (k : Row). value_rows t (block_rows s (k ∷ after))) (labelled 14 (c0 f.fit_c) (d0 f.fit_d) (e0 f.fit_e)))
      (below_none 1024 b (omega arith) f.fit_b, w)))

  sound_15 : ClosesWell 15
  unfolding closings close_for WellFormed
  sound_15 f = sound_block _ _ (λ s w. by c (number_most 1 c f.fit_c) (or_none_lem b) (d0 f.fit_d) (e0 f.fit_e) (below_none 1024 b (omega arith) f.fit_b) s w)
    where
      by : (c : ℕ) → c ≤ 1 → or_none (unless_none b) ≡ b → d ≡ 0 → e ≡ 0 → BelowNone (unless_none b) → (s : Statements) → WellFormed s
          → Sound (λ after. block_rows s (row 15 a b c d e ∷ after)) (close_for c a (unless_none b) s)
      by zero h o y z l s w = sound_value _ _ (λ t. sound_value _ _ (λ n. sound_push _ (statement (FOR a (unless_none b) n t none s)) (λ after.
          let r : row 15 a b 0 d e ≡ row 15 a (or_none (unless_none b)) 0 0 0 = rw (o, y, z) in ap (λ (k : Row). value_rows n (value_rows t (block_rows s (k ∷ after)))) r) (l, w)))
      by (suc zero) h o y z l s w = sound_value _ _ (λ u. sound_value _ _ (λ t. sound_value _ _ (λ n. sound_push _ (statement (FOR a (unless_none b) n t (some u) s)) (λ after.
          let r : row 15 a b 1 d e ≡ row 15 a (or_none (unless_none b)) 1 0 0 = rw (o, y, z) in ap (λ (k : Row). value_rows n (value_rows t (value_rows u (block_rows s (k ∷ after))))) r) (l, w))))
      by (suc (suc c)) h o y z l s w = absurd (omega arith)

  spanned : (op : ℕ) → e ≡ 0 → row op a b c d e ≡ row op a (or_none (unless_none b)) c d 0
  spanned op z = rw (or_none_lem b, z)

  sound_16 : ClosesWell 16
  unfolding closings WellFormed
  sound_16 f = sound_block _ _ (λ s w. sound_value _ _ (λ t. sound_value _ _ (λ n.
      sound_push _ (statement (FOROF a (unless_none b) (record { from = c; to = d }) n t s))
      (λ after. ap (λ (k : Row). value_rows n (value_rows t (block_rows s (k ∷ after)))) (spanned 16 (e0 f.fit_e)))
      (below_none 1024 b (omega arith) f.fit_b, w))))

  sound_17 : ClosesWell 17
  unfolding closings WellFormed
  sound_17 f = sound_block _ _ (λ s w. sound_value _ _ (λ n.
      sound_push _ (statement (FORIN a (unless_none b) (record { from = c; to = d }) n s)) (λ after. ap (λ (k : Row). value_rows n (block_rows s (k ∷ after))) (spanned 17 (e0 f.fit_e)))
      (below_none 1024 b (omega arith) f.fit_b, w)))

  sound_18 : ClosesWell 18
  unfolding closings WellFormed
  sound_18 f = sound_block _ _ (λ s w.
      sound_push _ (statement (LABEL a (unless_none b) s)) (λ after. ap (λ (k : Row). block_rows s (k ∷ after)) (labelled 18 (c0 f.fit_c) (d0 f.fit_d) (e0 f.fit_e)))
      (below_none 1024 b (omega arith) f.fit_b, w))

  sound_19 : ClosesWell 19
  unfolding closings WellFormed
  sound_19 f = sound_block _ _ (λ h v. sound_block _ _ (λ s w.
      sound_push _ (statement (TRY a (unless_none b) (unless_none c) s h)) (λ after.
      let r : row 19 a b c d e ≡ row 19 a (or_none (unless_none b)) (or_none (unless_none c)) 0 0 = rw (or_none_lem b, or_none_lem c, d0 f.fit_d, e0 f.fit_e) in ap
      (λ (k : Row). block_rows s (block_rows h (k ∷ after))) r)
      (below_none 1024 b (omega arith) f.fit_b, below_none 4096 c (omega arith) f.fit_c, w, v)))

  plain : (op : ℕ) → b ≡ 0 → c ≡ 0 → d ≡ 0 → e ≡ 0 → row op a b c d e ≡ row op a 0 0 0 0
  plain op w x y z = rw (w, x, y, z)

  sound_20 : ClosesWell 20
  unfolding closings WellFormed
  sound_20 f =
      sound_block _ _ (λ s w. sound_push _ (statement (SCOPE false a s))
      (λ after. ap (λ (k : Row). block_rows s (k ∷ after)) (plain 20 (b0 f.fit_b) (c0 f.fit_c) (d0 f.fit_d) (e0 f.fit_e))) w)

  sound_21 : ClosesWell 21
  unfolding closings WellFormed
  sound_21 f =
      sound_block _ _ (λ s w. sound_push _ (statement (SCOPE true a s))
      (λ after. ap (λ (k : Row). block_rows s (k ∷ after)) (plain 21 (b0 f.fit_b) (c0 f.fit_c) (d0 f.fit_d) (e0 f.fit_e))) w)

  sound_22 : ClosesWell 22
  unfolding closings WellFormed
  sound_22 f = sound_push _ (statement (RETURN a b)) (λ after. rw (c0 f.fit_c, d0 f.fit_d, e0 f.fit_e)) tt

  sound_23 : ClosesWell 23
  unfolding closings WellFormed
  sound_23 f = sound_push _ (statement (THROW a b)) (λ after. rw (c0 f.fit_c, d0 f.fit_d, e0 f.fit_e)) tt

  sound_24 : ClosesWell 24
  unfolding closings WellFormed
  sound_24 f =
      sound_push _ (statement (BREAK a b (kind_of c) d)) (λ after. rw (kind_number_lem c (number_most 2 c f.fit_c), e0 f.fit_e)) (number_most 128 d f.fit_d)

  sound_25 : ClosesWell 25
  unfolding closings WellFormed
  sound_25 f =
      sound_push _ (statement (CONTINUE a b (kind_of c) d)) (λ after. rw (kind_number_lem c (number_most 2 c f.fit_c), e0 f.fit_e)) (number_most 128 d f.fit_d)

  every_op : (op : ℕ) → op < 26 → ClosesWell op
  every_op = upto ClosesWell 26
      (sound_0
      and sound_1
      and sound_2
      and sound_3
      and sound_4
      and sound_5
      and sound_6
      and sound_7
      and sound_8
      and sound_9
      and sound_10
      and sound_11
      and sound_12
      and sound_13
      and sound_14
      and sound_15
      and sound_16
      and sound_17
      and sound_18
      and sound_19
      and sound_20
      and sound_21
      and sound_22
      and sound_23
      and sound_24
      and sound_25
      and ends)

-- ---- a row in range, and rows

pub record InRange (op a b c d e : ℕ) : Type 0 where
  pub some_op : 1 ≤ op
  pub known : op < 26
  pub columns : Columns op a b c d e

pub in_range_lem : (op a b c d e : ℕ) → in_range (row op a b c d e) ≡ true → InRange op a b c d e
unfolding in_range fits_column row_rules
in_range_lem op a b c d e h =
    let s : (leb 1 op ≡ true) × _ = and_both _ _ h in
    let t : (leb op 25 ≡ true) × _ = and_both _ _ s.1 in
    let u : (fits_column op 0 a ≡ true) × _ = and_both _ _ t.1 in
    let v : (fits_column op 1 b ≡ true) × _ = and_both _ _ u.1 in
    let w : (fits_column op 2 c ≡ true) × _ = and_both _ _ v.1 in
    let x : (fits_column op 3 d ≡ true) × (fits_column op 4 e ≡ true) = and_both _ _ w.1 in
    record { some_op = leb-true 1 op s.0; known = omega (arith, leb-true op 25 t.0); columns = record { fit_a = u.0; fit_b = v.0; fit_c = w.0; fit_d = x.0; fit_e = x.1 } }

pub close_sound : (r : Row) → in_range r ≡ true → (S S' : Forest) → WellFormedForest S → close r S ≡ some S'
    → ((after : List Row) → forest_rows S (r ∷ after) ≡ forest_rows S' after) × WellFormedForest S'
unfolding close
close_sound (row op a b c d e) h = let q : InRange op a b c d e = in_range_lem op a b c d e h in every_op a b c d e op q.known q.columns
