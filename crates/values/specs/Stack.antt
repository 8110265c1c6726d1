-- The rows of a value, pushed onto the rows below them. `proofs/StackLaws.antt` proves that they are the rows of the definition.
use Rattle.std.specs.Prelude.{List, [], ◌∷◌, ℕ}
use Rattle.table.specs.Table.{Table, instruction_at}
use Rattle.definition.specs.Tree.{Row, row, undef_row, instr_row, Value, PLAIN, LOAD, UNDEF, SEQ, LOGICAL, COND, OPTIONAL, Instructions, no_instructions, instruction, count_instructions}

-- rows in their order, pushed one after the other
unfoldable pub pushed : List Row → List Row → List Row
pushed [] below = below
pushed (r ∷ rows) below = pushed rows (r ∷ below)

-- "parts come first, then the closing row": so the closing row is on top
unfoldable mutual
  pub push_value : Value → List Row → List Row
  push_value (PLAIN instruction_row) below = row 1 instruction_row 0 0 0 0 ∷ below
  push_value (LOAD place) below = row 2 place 0 0 0 0 ∷ below
  push_value (UNDEF span) below = undef_row span ∷ below
  push_value (SEQ instructions id value) below = row 5 (count_instructions instructions) id 0 0 0 ∷ push_value value (push_instructions instructions below)
  push_value (LOGICAL operator left right) below = row 6 operator 0 0 0 0 ∷ push_value right (push_value left below)
  push_value (COND test consequent alternate) below = row 7 0 0 0 0 0 ∷ push_value alternate (push_value consequent (push_value test below))
  push_value (OPTIONAL flag value) below = row 8 flag 0 0 0 0 ∷ push_value value below

  pub push_instructions : Instructions → List Row → List Row
  push_instructions no_instructions below = below
  push_instructions (instruction id lvalue span value rest) below = push_instructions rest (instr_row id lvalue span ∷ push_value value below)

-- two rows for each instruction row of the input: "PLAIN instruction row, whatever its code", and its INSTR
unfoldable pub push_instruction_rows : Table → List ℕ → List Row → List Row
push_instruction_rows t [] below = below
push_instruction_rows t (i ∷ rows) below =
    push_instruction_rows t rows (instr_row (instruction_at t i).id (instruction_at t i).lvalue (instruction_at t i).span ∷ row 1 i 0 0 0 0 ∷ below)
