-- The stack has the definition's rows: what is pushed are the rows of the value, in their order.
use mathlib.Core.Path.{◌≡◌, refl, sym, ◌∙◌}
use mathlib.Core.List.{List, [], ◌∷◌, ◌++◌}
use Prim.Native.Nat.{ℕ, zero, suc, ◌+◌}
use native.Mathlib.Omega.{arith}
use lib.ListN.{length}
use Rattle.table.specs.Table.{Table, instruction_at, rows_from}
use Rattle.definition.specs.Tree.{Row, row, Value, PLAIN, LOAD, UNDEF, SEQ, LOGICAL, COND, OPTIONAL, Instructions, no_instructions, instruction, value_rows}
use Rattle.definition.specs.Tree.{instructions_rows, count_instructions, instr_row}
use Rattle.definition.specs.Output.{value_out, instructions_out}
use Rattle.definition.specs.Value.{instructions_of}
use Rattle.values.specs.Stack.{pushed, push_value, push_instructions, push_instruction_rows}

pub pushed_append : (rows more below : List Row) → pushed (rows ++ more) below ≡ pushed more (pushed rows below)
unfolding pushed
pushed_append [] more below = refl
pushed_append (r ∷ rows) more below = pushed_append rows more (r ∷ below)

pub length_pushed : (rows below : List Row) → length (pushed rows below) ≡ length rows + length below
unfolding pushed
length_pushed [] below = omega arith
length_pushed (r ∷ rows) below = omega (arith, length_pushed rows (r ∷ below))

mutual
  unfolding pushed push_value

  value_pushed : (v : Value) (after below : List Row) → pushed (value_rows v after) below ≡ pushed after (push_value v below)
  value_pushed (PLAIN i) after below = refl
  value_pushed (LOAD p) after below = refl
  value_pushed (UNDEF s) after below = refl
  value_pushed (SEQ is id v) after below = instructions_pushed is (value_rows v (row 5 (count_instructions is) id 0 0 0 ∷ after)) below ∙ value_pushed v _ (push_instructions is below)
  value_pushed (LOGICAL o l r) after below = value_pushed l (value_rows r (row 6 o 0 0 0 0 ∷ after)) below ∙ value_pushed r _ (push_value l below)
  value_pushed (COND x y z) after below =
      value_pushed x (value_rows y (value_rows z (row 7 0 0 0 0 0 ∷ after))) below ∙ value_pushed y (value_rows z (row 7 0 0 0 0 0 ∷ after)) (push_value x below) ∙
      value_pushed z _ (push_value y (push_value x below))
  value_pushed (OPTIONAL f v) after below = value_pushed v (row 8 f 0 0 0 0 ∷ after) below

  instructions_pushed : (is : Instructions) (after below : List Row) → pushed (instructions_rows is after) below ≡ pushed after (push_instructions is below)
  instructions_pushed no_instructions after below = refl
  instructions_pushed (instruction i l s v rest) after below = value_pushed v (instr_row i l s ∷ instructions_rows rest after) below ∙ instructions_pushed rest after _

-- a value's rows, in the order of the tree's rows
pub push_value_lem : (v : Value) (below : List Row) → push_value v below ≡ pushed (value_out v) below
unfolding value_out pushed
push_value_lem v below = sym (value_pushed v [] below)

-- the same behind rows that are out already
pub push_value_after : (v : Value) (rows : List Row) → push_value v (pushed rows []) ≡ pushed (rows ++ value_out v) []
push_value_after v rows = push_value_lem v (pushed rows []) ∙ sym (pushed_append rows (value_out v) [])

pub push_row_after : (r : Row) (rows : List Row) → r ∷ pushed rows [] ≡ pushed (rows ++ (r ∷ [])) []
unfolding pushed
push_row_after r rows = sym (pushed_append rows (r ∷ []) [])

-- ---- a block's instruction rows

pub push_instruction_rows_lem : (t : Table) (rows : List ℕ) (below : List Row) → push_instruction_rows t rows below ≡ pushed (instructions_out t rows) below
unfolding push_instruction_rows pushed instructions_out
push_instruction_rows_lem t [] below = refl
push_instruction_rows_lem t (i ∷ rows) below = push_instruction_rows_lem t rows _

pub push_instruction_rows_after : (t : Table) (is : List ℕ) (rows : List Row) → push_instruction_rows t is (pushed rows []) ≡ pushed (rows ++ instructions_out t is) []
push_instruction_rows_after t is rows = push_instruction_rows_lem t is (pushed rows []) ∙ sym (pushed_append rows (instructions_out t is) [])

pub push_instructions_of : (t : Table) (rows : List ℕ) (more : Instructions) (below : List Row)
    → push_instructions (instructions_of t rows more) below ≡ push_instructions more (push_instruction_rows t rows below)
unfolding push_instruction_rows push_value instructions_of
push_instructions_of t [] more below = refl
push_instructions_of t (i ∷ rows) more below = push_instructions_of t rows more _

-- one row more, at the end
pub push_next_row : (t : Table) (first count : ℕ) (below : List Row)
    → push_instruction_rows t (rows_from first (suc count)) below
    ≡ instr_row (instruction_at t (first + count)).id (instruction_at t (first + count)).lvalue (instruction_at t (first + count)).span ∷ row 1 (first + count) 0
    0 0 0 ∷ push_instruction_rows t (rows_from first count) below
unfolding push_instruction_rows
push_next_row t first zero below =
    let e : first + 0 ≡ first = omega arith in rw e
push_next_row t first (suc count) below =
    let e : first + suc count ≡ suc first + count = omega arith in rw e (push_next_row t (suc first) count _)
