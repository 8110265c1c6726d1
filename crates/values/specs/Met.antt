-- What the functions of the value walk promise: the definition's result or refusal, and the rows of its value in the buffer.
use Rattle.std.specs.Prelude.{◌≡◌, List, ◌∷◌, ℕ, suc, ◌+◌, ◌*◌, ◌≤◌, ◌<◌, Ok, Err, None, Some, IfOk, IfSome, MatchResult}
use Rattle.std.specs.Prelude as std
use Rattle.table.specs.declared.columns.Span.{Span}
use Rattle.table.specs.Words.{block_count, place_count}
use Rattle.table.specs.Table.{Operation, store_local, table_of, rows_from}
use Rattle.definition.specs.Result.{Result, ok}
use Rattle.definition.specs.Tree.{Row, row, Value, PLAIN, LOAD, UNDEF, SEQ, LOGICAL, COND, OPTIONAL, count_instructions}
use Rattle.definition.specs.Value.{ValueBlockResult, ValueTerminalResult, stored_to_named, innermost_value, loaded_place, value_block_result_to_sequence}
use Rattle.table.specs.Columns.{maybe_of}
use Rattle.values.specs.Refusal.{refused_by}
use Rattle.values.specs.Rows.{placed, Holds}
use Rattle.values.specs.Stack.{push_value, push_instruction_rows}
use Rattle.values.specs.declared.result.Tally.{Tally}
use Rattle.values.specs.declared.result.Trailing.{Trailing}
use Rattle.values.specs.declared.result.ValueBlockResult as code
use Rattle.values.specs.declared.refusal.Refused.{Refused}

-- ---- the code's results, and the definition's

-- the end of a value that is one row: the place that it loads, or none
abbrev pub loads : std.Option ℕ → Trailing
loads place = record { sequences = 0; instructions = 0; loaded = place }

-- of a value block and of a value terminal: the definition's result with the code's numbers
abbrev pub block_result : code.ValueBlockResult → Value → ValueBlockResult
block_result r value = record { block = r.block; place = r.place; value = value; id = r.id; visits = r.tally.visits }

abbrev pub terminal_result : code.ValueBlockResult → Value → ValueTerminalResult
terminal_result r value = record { value = value; place = r.place; fallthrough = r.block; id = r.id; visits = r.tally.visits }

abbrev pub answered : {A : Type 0} → (code.ValueBlockResult → Value → A) → std.Result code.ValueBlockResult Refused → Value → Result A
answered of (Ok r) value = ok (of r value)
answered of (Err e) value = refused_by e

-- ---- contracts

-- What a visit of a block requires: the block is there; the count of rows cannot wrap, since each visit pays for 8,200 rows and `spare` of them are not used yet
pub record Fit (words : List ℕ) (tally : Tally) (spare block : ℕ) : Type 0 where
  pub at : block < block_count words
  pub visits : tally.visits ≤ 8192
  pub room : tally.rows + spare ≤ 1000000000 + 8200 * tally.visits

-- the SEQ rows that stand at a value's end
abbrev pub trailing_sequences : Value → ℕ
trailing_sequences (PLAIN instruction_row) = 0
trailing_sequences (LOAD place) = 0
trailing_sequences (UNDEF span) = 0
trailing_sequences (SEQ _ id value) = suc (trailing_sequences value)
trailing_sequences (LOGICAL operator left right) = 0
trailing_sequences (COND test consequent alternate) = 0
trailing_sequences (OPTIONAL flag value) = 0

-- the instructions that they count together
abbrev pub trailing_instructions : Value → ℕ
trailing_instructions (PLAIN instruction_row) = 0
trailing_instructions (LOAD place) = 0
trailing_instructions (UNDEF span) = 0
trailing_instructions (SEQ instructions id value) = count_instructions instructions + trailing_instructions value
trailing_instructions (LOGICAL operator left right) = 0
trailing_instructions (COND test consequent alternate) = 0
trailing_instructions (OPTIONAL flag value) = 0

-- the end of a value in numbers
pub record Ends (words : List ℕ) (value : Value) (trailing : Trailing) : Type 0 where
  pub sequences : trailing.sequences ≡ trailing_sequences value
  pub instructions : trailing.instructions ≡ trailing_instructions value
  pub loaded : maybe_of trailing.loaded ≡ loaded_place (table_of words) (innermost_value value)
  pub there : IfSome trailing.loaded (λ p. p < place_count words)

-- what a value that is found says: whatever rows the buffer held, it holds them and the value's
pub record Found (words : List ℕ) (start : Tally) (value : Value) (buffer : List ℕ) (r : code.ValueBlockResult) (buffer' : List ℕ) : Type 0 where
  pub held : (stack : List Row) → Holds buffer start.rows stack → Holds buffer' r.tally.rows (push_value value stack)
  pub block : r.block < block_count words
  pub place : r.place < place_count words
  pub ends : Ends words value r.trailing
  pub more : start.rows + r.trailing.sequences + r.trailing.instructions < r.tally.rows

-- visits only rise, to at most 8,192
pub record Begun (start : Tally) (begun : ℕ) : Type 0 where
  pub visits : begun ≤ 8192
  pub rises : start.visits ≤ begun

-- at most `unpaid` rows are not paid for by the visits begun
pub record Numbers (start : Tally) (unpaid : ℕ) (tally : Tally) : Type 0 where
  pub visits : tally.visits ≤ 8192
  pub rises : start.visits ≤ tally.visits
  pub paid : tally.rows + 8200 * start.visits ≤ start.rows + 8200 * tally.visits + unpaid

-- the code's result is the definition's, `outcome`, and the buffer holds its value's rows. Nothing is said of a refused buffer: it is cleared later
pub record Met {A : Type 0} (words : List ℕ) (of : code.ValueBlockResult → Value → A) (outcome : Result A) (start : Tally) (unpaid : ℕ) (buffer : List ℕ)
    (r : std.Result code.ValueBlockResult Refused) (buffer' : List ℕ) : Type 0 where
  pub value : Value
  pub same : outcome ≡ answered of r value
  pub found : IfOk r (λ v. Found words start value buffer v buffer')
  pub numbers : MatchResult r (λ v. Numbers start unpaid v.tally) (λ e. Begun start e.visits)

-- ---- the helpers

-- a row was put behind those that were out
pub record RowPut (buffer : List ℕ) (tally : Tally) (r : Row) (buffer' : List ℕ) (tally' : Tally) : Type 0 where
  pub rows : tally'.rows ≡ tally.rows + 1
  pub visits : tally'.visits ≡ tally.visits
  pub words : buffer' ≡ placed buffer tally.rows r

-- a block's instruction rows were written, two rows for each
pub record InstructionsPut (words : List ℕ) (first count : ℕ) (buffer : List ℕ) (rows : ℕ) (buffer' : List ℕ) (rows' : ℕ) : Type 0 where
  pub more : rows' ≡ rows + count * 2
  pub kept : (stack : List Row) → Holds buffer rows stack → Holds buffer' rows' (push_instruction_rows (table_of words) (rows_from first count) stack)

-- the Rust's wrap_with_sequence: a SEQ row over `count` instructions, and none where there are none
abbrev pub wrap_trailing : Trailing → ℕ → Trailing
wrap_trailing trailing count = record { sequences = trailing.sequences + 1; instructions = trailing.instructions + count; loaded = trailing.loaded }

pub record Wrappable (count : ℕ) (v : code.ValueBlockResult) : Type 0 where
  pub few : count ≤ 4097
  pub more : v.trailing.sequences + v.trailing.instructions < v.tally.rows
  pub room : v.tally.rows < 3000000000

pub record Wrapped (count : ℕ) (v : code.ValueBlockResult) (buffer : List ℕ) (r : code.ValueBlockResult) (buffer' : List ℕ) : Type 0 where
  pub same : (value : Value) → block_result r value ≡ block_result v value
  pub none : count ≡ 0 → (r ≡ v) × (buffer' ≡ buffer)
  pub some : (count ≡ 0 → ⊥) → (r.trailing ≡ wrap_trailing v.trailing count) × (r.tally.rows ≡ v.tally.rows + 1)
  pub kept : (count ≡ 0 → ⊥) → (stack : List Row) → Holds buffer v.tally.rows stack → Holds buffer' r.tally.rows (row 5 count v.id 0 0 0 ∷ stack)
  pub visits : r.tally.visits ≡ v.tally.visits
  pub most : r.tally.rows ≤ v.tally.rows + 1

-- what an instruction stores, the place and the value, if it is a StoreLocal to an identifier that is not named
abbrev pub UnnamedStore : List ℕ → Operation → std.Option (ℕ × ℕ) → Type 0
UnnamedStore words operation None = stored_to_named (table_of words) operation ≡ 0 → ⊥
UnnamedStore words operation (Some store) = (operation ≡ store_local store.0 store.1) × (stored_to_named (table_of words) operation ≡ 0)

-- what value_block_result_to_sequence requires of a result; `Found` gives it
pub record Flattens (words : List ℕ) (result : code.ValueBlockResult) : Type 0 where
  pub place : result.place < place_count words
  pub there : IfSome result.trailing.loaded (λ p. p < place_count words)
  pub more : result.trailing.sequences + result.trailing.instructions < result.tally.rows
  pub room : result.tally.rows < 3000000000

-- the buffer held the rows of the result's value, and holds those of the flattened value
pub record Flattened (words : List ℕ) (result : code.ValueBlockResult) (span : Span) (buffer : List ℕ) (buffer' : List ℕ) (rows' : ℕ) : Type 0 where
  pub held : (value : Value) → Ends words value result.trailing → (stack : List Row) → Holds buffer result.tally.rows (push_value value stack)
      → Holds buffer' rows' (push_value (value_block_result_to_sequence (table_of words) (block_result result value) span) stack)
  pub most : rows' ≤ result.tally.rows + 3
