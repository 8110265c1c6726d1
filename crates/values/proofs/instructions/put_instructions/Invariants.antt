-- `values::instructions::put_instructions` meets its contract. The invariant: two rows are out for each instruction so far, and the buffer holds them above what it held.
use Rattle.values.specs.Stack.{push_instruction_rows}
use Rattle.values.specs.Rows.{Holds}
use Rattle.definition.specs.Tree.{Row}
use Rattle.table.specs.Table.{table_of, rows_from}
use Prim.Native.Nat.{ℕ, ◌+◌, ◌-◌, ◌*◌}
use mathlib.Core.List.{List}
use mathlib.Core.Path.{◌≡◌}
use Rattle.values.proofs.instructions.put_instructions.Given as goal

-- the rows of k instructions are out
pub record Run (words buffer₀ : List ℕ) (rows first : ℕ) (buffer : List ℕ) (out k : ℕ) : Type 0 where
  pub more : out ≡ rows + k * 2
  pub kept : (stack : List Row) → Holds buffer₀ rows stack → Holds buffer out (push_instruction_rows (table_of words) (rows_from first k) stack)

abbrev pub invariant-loop-i : goal.invariant-loop-i
invariant-loop-i l = Run l.table.words.now l.initial.buffer l.rows l.first l.buffer l.out (l.i - l.first)
