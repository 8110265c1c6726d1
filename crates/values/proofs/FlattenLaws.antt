-- Flattening, in rows taken back and put: the closing SEQ rows at a value's end are popped, perhaps the load before them too, and UNDEF and one
-- SEQ row over all are pushed.
use mathlib.Core.Path.{◌≡◌, refl, sym, ap, ◌∙◌}
use mathlib.Core.Bool.{Bool, true, false}
use mathlib.Core.List.{List, ◌∷◌}
use Prim.Native.Nat.{ℕ, suc, ◌+◌, ◌-◌}
use native.Mathlib.Omega.{arith}
use Rattle.table.specs.declared.columns.Span.{Span}
use Rattle.table.specs.Table.{Table}
use Rattle.definition.specs.Tree.{Row, row, Value, PLAIN, LOAD, UNDEF, SEQ, LOGICAL, COND, OPTIONAL, Instructions, no_instructions, instruction, count_instructions, undef_row, instr_row}
use Rattle.definition.specs.Value.{ValueBlockResult, appended, sequenced_instructions, innermost_value, loaded_place, same_identifier, unless_same, single_instruction, value_block_result_to_sequence}
use Rattle.values.specs.Met.{trailing_sequences, trailing_instructions}
use Rattle.values.specs.Rows.{Holds}
use Rattle.values.specs.Stack.{push_value, push_instructions}
use Rattle.values.proofs.RowLaws.{holds_pop}

-- the instructions of all trailing sequences
abbrev pub leading : Value → List Row → List Row
leading v below = push_instructions (sequenced_instructions v no_instructions) below

push_appended : (is more : Instructions) (below : List Row) → push_instructions (appended is more) below ≡ push_instructions more (push_instructions is below)
unfolding appended push_value
push_appended no_instructions more below = refl
push_appended (instruction i l s v rest) more below = push_appended rest more _

push_sequenced : (v : Value) (more : Instructions) (below : List Row) → push_instructions (sequenced_instructions v more) below ≡ push_instructions more (leading v below)
unfolding push_value
push_sequenced (PLAIN r) more below = refl
push_sequenced (LOAD p) more below = refl
push_sequenced (UNDEF s) more below = refl
push_sequenced (SEQ is i v) more below =
    push_appended is (sequenced_instructions v more) below ∙ push_sequenced v more (push_instructions is below)
    ∙ ap (push_instructions more) (sym (push_appended is (sequenced_instructions v no_instructions) below))
push_sequenced (LOGICAL o l r) more below = refl
push_sequenced (COND x y z) more below = refl
push_sequenced (OPTIONAL f v) more below = refl

count_appended : (is more : Instructions) → count_instructions (appended is more) ≡ count_instructions is + count_instructions more
unfolding appended
count_appended no_instructions more = omega arith
count_appended (instruction i l s v rest) more = omega (arith, count_appended rest more)

count_sequenced : (v : Value) (more : Instructions) → count_instructions (sequenced_instructions v more) ≡ trailing_instructions v + count_instructions more
count_sequenced (PLAIN r) more = omega arith
count_sequenced (LOAD p) more = omega arith
count_sequenced (UNDEF s) more = omega arith
count_sequenced (SEQ is i v) more = omega (arith, count_appended is (sequenced_instructions v more), count_sequenced v more)
count_sequenced (LOGICAL o l r) more = omega arith
count_sequenced (COND x y z) more = omega arith
count_sequenced (OPTIONAL f v) more = omega arith

-- the closing SEQ rows taken back
pub holds_open : (b : List ℕ) (v : Value) (n : ℕ) (below : List Row) → Holds b n (push_value v below) → Holds b (n - trailing_sequences v) (push_value (innermost_value v) (leading v below))
unfolding push_value
holds_open b (PLAIN r) n below h = record { count = omega (arith, h.count); rows = h.rows }
holds_open b (LOAD p) n below h = record { count = omega (arith, h.count); rows = h.rows }
holds_open b (UNDEF s) n below h = record { count = omega (arith, h.count); rows = h.rows }
holds_open b (SEQ is i v) n below h =
    let e : n - suc (trailing_sequences v) ≡ n - 1 - trailing_sequences v = omega arith in
    rw (e, push_appended is (sequenced_instructions v no_instructions) below) (holds_open b v (n - 1) (push_instructions is below) (holds_pop b n _ _ h))
holds_open b (LOGICAL o l r) n below h = record { count = omega (arith, h.count); rows = h.rows }
holds_open b (COND x y z) n below h = record { count = omega (arith, h.count); rows = h.rows }
holds_open b (OPTIONAL f v) n below h = record { count = omega (arith, h.count); rows = h.rows }

-- a load is one row
pub holds_load : (t : Table) (b : List ℕ) (place : ℕ) (v : Value) (n : ℕ) (below : List Row) → same_identifier t place (loaded_place t v) ≡ true
    → Holds b n (push_value v below) → Holds b (n - 1) below
unfolding push_value same_identifier
holds_load t b place (PLAIN r) n below e h = holds_pop b n _ below h
holds_load t b place (LOAD p) n below e h = holds_pop b n _ below h
holds_load t b place (UNDEF s) n below e h = let z : ◌≡◌ {A = ℕ} 0 1 = cc in absurd (omega arith)
holds_load t b place (SEQ is i v) n below e h = let z : ◌≡◌ {A = ℕ} 0 1 = cc in absurd (omega arith)
holds_load t b place (LOGICAL o l r) n below e h = let z : ◌≡◌ {A = ℕ} 0 1 = cc in absurd (omega arith)
holds_load t b place (COND x y z) n below e h = let w : ◌≡◌ {A = ℕ} 0 1 = cc in absurd (omega arith)
holds_load t b place (OPTIONAL f v) n below e h = let z : ◌≡◌ {A = ℕ} 0 1 = cc in absurd (omega arith)

-- the rows of the flattened value
module _ (t : Table) (r : ValueBlockResult) (span : Span) (below : List Row) where
  abbrev final : Instructions
  final = single_instruction r.id r.place span (innermost_value r.value)

  abbrev drops : Bool
  drops = same_identifier t r.place (loaded_place t (innermost_value r.value))

  flatten_by : (y : Bool) → drops ≡ y → push_value (value_block_result_to_sequence t r span) below
      ≡ row 5 (trailing_instructions r.value + count_instructions (unless_same y final)) r.id 0 0 0 ∷ undef_row span ∷ push_instructions (unless_same y final) (leading r.value below)
  unfolding push_value value_block_result_to_sequence
  flatten_by y e = rw e (rw (count_sequenced r.value (unless_same y final), push_sequenced r.value (unless_same y final) below))

  pub flatten_same : drops ≡ true → push_value (value_block_result_to_sequence t r span) below ≡ row 5 (trailing_instructions r.value) r.id 0 0 0 ∷ undef_row span ∷ leading r.value below
  unfolding unless_same push_value
  flatten_same e = flatten_by true e ∙ ap (λ (n : ℕ). row 5 n r.id 0 0 0 ∷ undef_row span ∷ leading r.value below) (omega arith)

  pub flatten_other : drops ≡ false → push_value (value_block_result_to_sequence t r span) below
      ≡ row 5 (trailing_instructions r.value + 1) r.id 0 0 0 ∷ undef_row span ∷ instr_row r.id r.place span ∷ push_value (innermost_value r.value) (leading r.value below)
  unfolding unless_same push_value
  flatten_other e = flatten_by false e
