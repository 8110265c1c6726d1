-- A value of a table without value terminals is run as it stands: it has no LOGICAL, COND or OPTIONAL. For proofs/Semantics, which says so of a whole tree.
use mathlib.Core.Path.{◌≡◌, sym, ap, ◌∙◌, subst}
use Prim.Native.Nat.{ℕ, zero, suc}
use mathlib.Core.List.{List, [], ◌∷◌}
use mathlib.Core.Bool.{Bool, true, false}
use Rattle.table.specs.declared.columns.Span.{Span}
use Rattle.table.specs.Table.{Table, Terminal, Operation, other, load_local, store_local, code_of, terminal_at, instruction_at, instruction_rows_at}
use Rattle.definition.specs.Completion.{contains}
use Rattle.definition.specs.Tree.{Value, PLAIN, LOAD, UNDEF, SEQ, LOGICAL, COND, OPTIONAL, Instructions, no_instructions, instruction}
use Rattle.definition.specs.Value.{ValueBlockResult, final_value, stored_to_named, all_but_last, last, instructions_of, wrap_with_sequence, single_instruction, appended}
use Rattle.definition.specs.Value.{sequenced_instructions, innermost_value, loaded_place, same_identifier, unless_same, value_block_result_to_sequence}
use Rattle.definition.proofs.Steps.{true_false}
use Rattle.definition.proofs.Runnable.{Straight, StraightAll}
use Rattle.definition.proofs.ValueReads.{Reads, reads_goto, reads_branch, reads_empty, reads_last_throw, reads_throw, reads_on, end_value}
use Rattle.definition.proofs.ValueLead.{value_code}

abbrev pub value_codes : List ℕ
value_codes = 13 ∷ 14 ∷ 15 ∷ 17 ∷ []

-- no block ends in Logical, Ternary, Optional or Sequence
abbrev pub NoValues : Table → Type 0
NoValues t = (b : ℕ) → contains value_codes (code_of (terminal_at t b)) ≡ false

straight_final : (row : ℕ) (op : Operation) (named : ℕ) → Straight (final_value row op named)
unfolding final_value
straight_final row other named = tt
straight_final row (load_local place) named = tt
straight_final row (store_local stored_to stored_value) zero = tt
straight_final row (store_local stored_to stored_value) (suc named) = tt

straight_appended : (is more : Instructions) → StraightAll is → StraightAll more → StraightAll (appended is more)
unfolding appended
straight_appended no_instructions more p q = q
straight_appended (instruction i l sp v rest) more (h, p) q = (h, straight_appended rest more p q)

straight_sequenced : (v : Value) (more : Instructions) → Straight v → StraightAll more → StraightAll (sequenced_instructions v more)
straight_sequenced (PLAIN row) more p q = q
straight_sequenced (LOAD place) more p q = q
straight_sequenced (UNDEF span) more p q = q
straight_sequenced (SEQ is i v) more (h, p) q = straight_appended is (sequenced_instructions v more) h (straight_sequenced v more p q)
straight_sequenced (LOGICAL o x y) more p q = q
straight_sequenced (COND x y z) more p q = q
straight_sequenced (OPTIONAL f v) more p q = q

straight_innermost : (v : Value) → Straight v → Straight (innermost_value v)
straight_innermost (PLAIN row) p = p
straight_innermost (LOAD place) p = p
straight_innermost (UNDEF span) p = p
straight_innermost (SEQ is i v) (h, p) = straight_innermost v p
straight_innermost (LOGICAL o x y) p = p
straight_innermost (COND x y z) p = p
straight_innermost (OPTIONAL f v) p = p

straight_unless : (y : Bool) (is : Instructions) → StraightAll is → StraightAll (unless_same y is)
unfolding unless_same
straight_unless true is p = tt
straight_unless false is p = p

module _ (t : Table) where
  straight_instructions : (rows : List ℕ) → StraightAll (instructions_of t rows no_instructions)
  unfolding instructions_of
  straight_instructions [] = tt
  straight_instructions (r ∷ rows) = (tt, straight_instructions rows)

  straight_wrapped : (rows : List ℕ) (i : ℕ) (v : Value) → Straight v → Straight (wrap_with_sequence t rows i v)
  unfolding wrap_with_sequence
  straight_wrapped [] i v p = p
  straight_wrapped (r ∷ rows) i v p = (straight_instructions (r ∷ rows), p)

  straight_end : (row : ℕ) (rows : List ℕ) → Straight (end_value t row rows)
  straight_end row rows =
      straight_wrapped (all_but_last row rows) (instruction_at t (last row rows)).id
      (final_value (last row rows) (instruction_at t (last row rows)).operation (stored_to_named t (instruction_at t (last row rows)).operation))
      (straight_final (last row rows) (instruction_at t (last row rows)).operation (stored_to_named t (instruction_at t (last row rows)).operation))

  is_straight : {v w : Value} → v ≡ w → Straight w → Straight v
  is_straight q p = subst (λ (z : Value). Straight z) (sym q) p

  pub straight_read : NoValues t → {b h e : ℕ} {v : Value} → Reads t b v h e → Straight v
  straight_read none (reads_goto g k row rows e r q) = is_straight q (straight_end row rows)
  straight_read none (reads_branch p c d row rows e r q) = is_straight q (straight_end row rows)
  straight_read none (reads_empty p c d e r q) = is_straight q tt
  straight_read none (reads_last_throw n row rows e i r q) = is_straight q (straight_end row rows)
  straight_read none {b} (reads_throw {w} n i e y p q) = is_straight q (straight_wrapped (instruction_rows_at t b) i w (straight_read none p))
  straight_read none {b} (reads_on m f i j l s e p p' q) =
      absurd (true_false (sym (value_code t (λ _. true) p) ∙ ap (λ (z : Terminal). contains value_codes (code_of z)) (sym e) ∙ none b))

  -- flattened, as a For's init is
  pub straight_sequence : (r : ValueBlockResult) (span : Span) → Straight r.value → Straight (value_block_result_to_sequence t r span)
  unfolding value_block_result_to_sequence
  straight_sequence r span p = (
    straight_sequenced r.value (unless_same (same_identifier t r.place (loaded_place t (innermost_value r.value))) (single_instruction r.id r.place span (innermost_value r.value))) p
        (straight_unless (same_identifier t r.place (loaded_place t (innermost_value r.value))) (single_instruction r.id r.place span (innermost_value r.value)) (straight_innermost r.value p, tt)),
    tt,
  )
