-- A flattened value, as a For's init is, performs what the value does, unless a row that is a load is dropped. For proofs/WideStructure.
use mathlib.Core.Path.{◌≡◌, refl, sym, ap, ◌∙◌}
use Prim.Native.Nat.{ℕ}
use mathlib.Core.List.{List, [], ◌∷◌, ◌++◌, append_assoc}
use mathlib.Core.Option.{none}
use mathlib.Core.Bool.{Bool, true, false, ◌&&◌}
use Rattle.table.specs.declared.columns.Span.{Span}
use Rattle.table.specs.Table.{Table, instruction_at, instruction_rows_at}
use Rattle.definition.specs.Run.{Answers}
use Rattle.definition.specs.Tree.{Value, PLAIN, LOAD, UNDEF, SEQ, LOGICAL, COND, OPTIONAL, Instructions, no_instructions, instruction}
use Rattle.definition.specs.Value.{ValueBlockResult, single_instruction, appended, sequenced_instructions, innermost_value, loaded_by, loaded_place, same_identifier, unless_same, value_block_result_to_sequence}
use Rattle.definition.specs.Value.{last}
use Rattle.definition.specs.PlainLoops.{ends_in_own_load}
use Rattle.definition.proofs.Steps.{true_false}
use Rattle.definition.specs.ValueRun.{Ending, in_whole, in_short, stopping, Valued, valued, value_prefix, then_value_on, then_value, is_load, is_link, run_value, run_all}
use Rattle.definition.proofs.ValueReads.{Placed}
use Rattle.definition.proofs.ValueLead.{then_whole, then_same}

then_then_on : (k : Ending) (rows : List ℕ) (left : Answers) (f g : Answers → Valued)
    → then_value (then_value_on k (valued rows k left) f) g ≡ then_value_on k (valued rows k left) (λ l. then_value (f l) g)
unfolding then_value_on then_value valued value_prefix
then_then_on in_whole rows left f g = at (f left).ending (f left).rows (f left).left
  where
    at : (k : Ending) (rows' : List ℕ) (left' : Answers)
        → then_value (valued (rows ++ rows') k left') g ≡ value_prefix rows (then_value (valued rows' k left') g)
    at in_whole rows' left' = ap (λ (z : List ℕ). valued z (g left').ending (g left').left) (append_assoc rows rows' (g left').rows)
    at in_short rows' left' = refl
    at (stopping r) rows' left' = refl
then_then_on in_short rows left f g = refl
then_then_on (stopping r) rows left f g = refl

then_then : (o : Valued) (f g : Answers → Valued) → then_value (then_value o f) g ≡ then_value o (λ l. then_value (f l) g)
unfolding then_value valued
then_then o f g = then_then_on o.ending o.rows o.left f g

and_none : (y : Bool) → y && false ≡ false
and_none true = refl
and_none false = refl

module _ (t : Table) (seen_row : ℕ → Bool) where
  run_appended : (is more : Instructions) (a : Answers)
      → run_all seen_row (appended is more) false a ≡ then_value (run_all seen_row is false a) (λ l. run_all seen_row more false l)
  unfolding appended run_all
  run_appended no_instructions more a = unfold then_value then_value_on value_prefix valued in refl
  run_appended (instruction i p s v rest) more a =
      ap (λ (y : Bool). then_value (run_value seen_row v y a) (λ l. run_all seen_row (appended rest more) false l)) (and_none (is_link v (appended rest more)))
      ∙ then_same (run_value seen_row v false a) (λ l. run_all seen_row (appended rest more) false l) (λ l. then_value (run_all seen_row rest false l) (λ l'. run_all seen_row more false l'))
      (λ l. run_appended rest more l)
      ∙ sym (then_then (run_value seen_row v false a) (λ l. run_all seen_row rest false l) (λ l. run_all seen_row more false l))
      ∙ ap (λ (y : Bool). then_value (then_value (run_value seen_row v y a) (λ l. run_all seen_row rest false l)) (λ l. run_all seen_row more false l)) (sym (and_none (is_link v rest)))

  run_seq : (is : Instructions) (i : ℕ) (v : Value) (a : Answers)
      → then_value (run_all seen_row is (is_load v && false) a) (λ l. run_value seen_row v false l) ≡ run_value seen_row (SEQ is i v) false a
  unfolding run_value
  run_seq is i v a = refl

  -- with its trailing sequences taken apart, if what stands at their end performs what `more` does
  run_sequenced : (v : Value) (more : Instructions) → ((a : Answers) → run_all seen_row more false a ≡ run_value seen_row (innermost_value v) false a) → (a : Answers)
      → run_all seen_row (sequenced_instructions v more) false a ≡ run_value seen_row v false a
  run_sequenced (PLAIN r) more h a = h a
  run_sequenced (LOAD p) more h a = h a
  run_sequenced (UNDEF s) more h a = h a
  run_sequenced (SEQ is i v) more h a =
      run_appended is (sequenced_instructions v more) a
      ∙ then_same (run_all seen_row is false a) (λ l. run_all seen_row (sequenced_instructions v more) false l) (λ l. run_value seen_row v false l) (λ l. run_sequenced v more h l)
      ∙ whole is i v a
    where
      whole : (is : Instructions) (i : ℕ) (v : Value) (a : Answers) → then_value (run_all seen_row is false a) (λ l. run_value seen_row v false l) ≡ run_value seen_row (SEQ is i v) false a
      whole is i v a = ap (λ (y : Bool). then_value (run_all seen_row is y a) (λ l. run_value seen_row v false l)) (sym (and_none (is_load v))) ∙ run_seq is i v a
  run_sequenced (LOGICAL o x y) more h a = h a
  run_sequenced (COND x y z) more h a = h a
  run_sequenced (OPTIONAL f v) more h a = h a

  last_own : (first : ℕ) (rest : List ℕ) → ends_in_own_load t (first ∷ rest) ≡ same_identifier t (instruction_at t (last first rest)).lvalue (loaded_by (instruction_at t (last first rest)).operation)
  unfolding last
  last_own first [] = refl
  last_own first (next ∷ rest) = last_own next rest

  run_one : (id place : ℕ) (span : Span) (u : Value) (a : Answers) → run_all seen_row (single_instruction id place span u) false a
      ≡ then_value (run_value seen_row u (is_link u no_instructions && false) a) (λ l. valued [] in_whole l)
  unfolding run_all
  run_one id place span u a = refl

  run_none : (p : ℕ) (a : Answers) → run_all seen_row no_instructions false a ≡ run_value seen_row (LOAD p) false a
  unfolding run_all run_value
  run_none p a = refl

  same_none : (place : ℕ) → same_identifier t place none ≡ false
  unfolding same_identifier
  same_none place = refl

  run_undef : (is : Instructions) (i : ℕ) (span : Span) (a : Answers) → run_value seen_row (SEQ is i (UNDEF span)) false a ≡ run_all seen_row is false a
  unfolding run_value
  run_undef is i span a = then_whole (run_all seen_row is false a)

  -- what is dropped performs nothing
  run_unless : (v : Value) (place id h : ℕ) (span : Span) → Placed t v place h → ends_in_own_load t (instruction_rows_at t h) ≡ false → (a : Answers)
      → run_all seen_row (unless_same (same_identifier t place (loaded_place t (innermost_value v))) (single_instruction id place span (innermost_value v))) false a
      ≡ run_value seen_row (innermost_value v) false a
  unfolding unless_same
  run_unless v place id h span placed own a = by (innermost_value v) refl (same_identifier t place (loaded_place t (innermost_value v))) refl
    where
      kept : (u : Value) → run_all seen_row (single_instruction id place span u) false a ≡ run_value seen_row u false a
      kept u =
          run_one id place span u a ∙ then_whole (run_value seen_row u (is_link u no_instructions && false) a)
          ∙ ap (λ (y : Bool). run_value seen_row u y a) (and_none (is_link u no_instructions))

      by : (u : Value) → innermost_value v ≡ u → (y : Bool) → same_identifier t place (loaded_place t u) ≡ y
          → run_all seen_row (unless_same y (single_instruction id place span u)) false a ≡ run_value seen_row u false a
      by u q false k = kept u
      by (PLAIN row) q true k =
          let (p, l) = placed row q in
          let (first, rest, r, s) = l in
          absurd (true_false (sym k ∙ ap (λ (z : ℕ). same_identifier t z (loaded_by (instruction_at t row).operation)) p
          ∙ ap (λ (z : ℕ). same_identifier t (instruction_at t z).lvalue (loaded_by (instruction_at t z).operation)) (sym s)
          ∙ sym (last_own first rest) ∙ ap (λ (z : List ℕ). ends_in_own_load t z) (sym r) ∙ own))
      by (LOAD p) q true k = run_none p a
      by (UNDEF s) q true k = absurd (true_false (sym k ∙ same_none place))
      by (SEQ is i u) q true k = absurd (true_false (sym k ∙ same_none place))
      by (LOGICAL o x z) q true k = absurd (true_false (sym k ∙ same_none place))
      by (COND x w z) q true k = absurd (true_false (sym k ∙ same_none place))
      by (OPTIONAL f u) q true k = absurd (true_false (sym k ∙ same_none place))

  pub run_flattened : (r : ValueBlockResult) (span : Span) (h : ℕ) → Placed t r.value r.place h → ends_in_own_load t (instruction_rows_at t h) ≡ false → (a : Answers)
      → run_value seen_row (value_block_result_to_sequence t r span) false a ≡ run_value seen_row r.value false a
  unfolding value_block_result_to_sequence
  run_flattened r span h placed own a =
      run_undef (sequenced_instructions r.value (unless_same (same_identifier t r.place (loaded_place t (innermost_value r.value))) (single_instruction r.id r.place span (innermost_value r.value)))) r.id span a
      ∙ run_sequenced r.value (unless_same (same_identifier t r.place (loaded_place t (innermost_value r.value))) (single_instruction r.id r.place span (innermost_value r.value)))
      (run_unless r.value r.place r.id h span placed own) a
