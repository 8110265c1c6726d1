-- What an accepted table promises: the rooms of the walk index by it alone. `Promise` holds of the words where `checked` accepts them, and only there
-- (proofs/PromiseLaws.antt: `promised`, `promise_checked`).
use Rattle.std.specs.Prelude.{ℕ, ◌<◌, ◌≤◌, ◌+◌, List, true, ◌≡◌, get_or, length}
use Rattle.std.proofs.Math.Option.{Option, none, some}
use Rattle.table.specs.declared.columns.Span.{Span}
use Rattle.table.specs.Words.{entry_word, block_count, instruction_count, case_count, place_count, identifier_count, words_needed, block_word, instruction_word, case_word}
use Rattle.table.specs.Words.{place_word, identifier_word, largest}
use Rattle.table.specs.Check.{unused, fits, block_rules, instruction_rules, case_rules}
use Rattle.table.specs.Table.{Terminal, absent, unreachable, throw, return, goto, if, branch, switch, do_while, while, for, for_of, for_in, logical, ternary}
use Rattle.table.specs.Table.{optional, label, sequence, maybe_throw, try, scope, Operation, other, load_local, store_local, Case, table_of, block_at, terminal_at}
use Rattle.table.specs.Table.{instruction_at, unless_none}

-- there is a head, and no count is over its limit
pub record Limited (ws : List ℕ) : Type 0 where
  pub head : 6 ≤ length ws
  pub blocks : block_count ws ≤ 1024
  pub instructions : instruction_count ws ≤ 4096
  pub cases : case_count ws ≤ 1024
  pub places : place_count ws ≤ 4096
  pub identifiers : identifier_count ws ≤ 4096

-- and there are as many words as the head says
pub record Sized (ws : List ℕ) : Type 0 where
  pub limited : Limited ws
  pub long : length ws ≡ words_needed ws

-- and every word fits its rule
pub record Promise (ws : List ℕ) : Type 0 where
  pub sized : Sized ws
  pub entry : entry_word ws < block_count ws
  pub block : (row : ℕ) → row < block_count ws → (column : ℕ) → column < 11 → fits (get_or (block_rules ws row) column unused) (block_word ws row column) ≡ true
  pub instruction : (row : ℕ) → row < instruction_count ws → (column : ℕ) → column < 7
      → fits (get_or (instruction_rules ws row) column unused) (instruction_word ws row column) ≡ true
  pub case : (row : ℕ) → row < case_count ws → (column : ℕ) → column < 2 → fits (get_or (case_rules ws row) column unused) (case_word ws row column) ≡ true
  pub place : (row : ℕ) → row < place_count ws → place_word ws row < identifier_count ws
  pub identifier : (row : ℕ) → row < identifier_count ws → identifier_word ws row ≤ 1

-- ---- the same of a table's rows: what they name is there

abbrev pub BelowUnlessNone : ℕ → Option ℕ → Type 0
BelowUnlessNone count none = Unit {0}
BelowUnlessNone count (some row) = row < count

-- for a table with `blocks` blocks, `places` places and `cases` cases
module _ (blocks places cases : ℕ) where
  abbrev pub InRange : Terminal → Type 0
  InRange absent = Unit {0}
  InRange unreachable = Unit {0}
  InRange (throw value) = value < places
  InRange (return value) = value < places
  InRange (goto block variant) = block < blocks
  InRange (if test consequent alternate fallthrough) = (test < places) × (consequent < blocks) × (alternate < blocks) × (fallthrough < blocks)
  InRange (branch test consequent alternate) = (test < places) × (consequent < blocks) × (alternate < blocks)
  InRange (switch test first number fallthrough) = (test < places) × (first + number ≤ cases) × (fallthrough < blocks)
  InRange (do_while loop test fallthrough) = (loop < blocks) × (test < blocks) × (fallthrough < blocks)
  InRange (while test loop fallthrough) = (test < blocks) × (loop < blocks) × (fallthrough < blocks)
  InRange (for init test update loop fallthrough) = (init < blocks) × (test < blocks) × BelowUnlessNone blocks update × (loop < blocks) × (fallthrough < blocks)
  InRange (for_of init test loop fallthrough) = (init < blocks) × (test < blocks) × (loop < blocks) × (fallthrough < blocks)
  InRange (for_in init loop fallthrough) = (init < blocks) × (loop < blocks) × (fallthrough < blocks)
  InRange (logical operator test fallthrough) = (operator ≤ 2) × (test < blocks) × (fallthrough < blocks)
  InRange (ternary test fallthrough) = (test < blocks) × (fallthrough < blocks)
  InRange (optional flag test fallthrough) = (flag ≤ 1) × (test < blocks) × (fallthrough < blocks)
  InRange (label block fallthrough) = (block < blocks) × (fallthrough < blocks)
  InRange (sequence block fallthrough) = (block < blocks) × (fallthrough < blocks)
  InRange (maybe_throw continuation) = continuation < blocks
  InRange (try block handler fallthrough binding) = (block < blocks) × (handler < blocks) × (fallthrough < blocks) × BelowUnlessNone places binding
  InRange (scope pruned block fallthrough number) = (block < blocks) × (fallthrough < blocks) × (number ≤ largest)

-- the block's terminal is `e`, and what it names is there, among the 1,024 blocks
pub record Ends (ws : List ℕ) (block : ℕ) (e : Terminal) : Type 0 where
  pub few : block_count ws ≤ 1024
  pub is : terminal_at (table_of ws) block ≡ e
  pub named : InRange (block_count ws) (place_count ws) (case_count ws) e

-- beside its terminal, the block's row says so, and its instructions are there
pub record Heads (ws : List ℕ) (block first count id : ℕ) (span : Span) : Type 0 where
  pub few : instruction_count ws ≤ 4096
  pub is_first : (block_at (table_of ws) block).first ≡ first
  pub is_count : (block_at (table_of ws) block).count ≡ count
  pub is_id : (block_at (table_of ws) block).id ≡ id
  pub is_span : (block_at (table_of ws) block).span ≡ span
  pub there : first + count ≤ instruction_count ws

-- for a table with `places` places
module _ (places : ℕ) where
  abbrev pub OperandsInRange : Operation → Type 0
  OperandsInRange other = Unit {0}
  OperandsInRange (load_local place) = place < places
  OperandsInRange (store_local stored_to stored_value) = (stored_to < places) × (stored_value < places)

-- the instruction's operation is `o`, and the places that it names are there
pub record Operates (ws : List ℕ) (instruction : ℕ) (o : Operation) : Type 0 where
  pub few : place_count ws ≤ 4096
  pub is : (instruction_at (table_of ws) instruction).operation ≡ o
  pub named : OperandsInRange (place_count ws) o

-- beside its operation, the instruction's row says so, and its lvalue is there
pub record Instructs (ws : List ℕ) (instruction id lvalue : ℕ) (span : Span) : Type 0 where
  pub few : place_count ws ≤ 4096
  pub is_id : (instruction_at (table_of ws) instruction).id ≡ id
  pub is_lvalue : (instruction_at (table_of ws) instruction).lvalue ≡ lvalue
  pub is_span : (instruction_at (table_of ws) instruction).span ≡ span
  pub there : lvalue < place_count ws

-- the case's row says so, whatever stands beyond the table, and what it names is there
pub record Chooses (ws : List ℕ) (case test block : ℕ) : Type 0 where
  pub few : block_count ws ≤ 1024
  pub is : (beyond : Case) → get_or (table_of ws).cases case beyond ≡ record { test = test; block = block }
  pub tested : BelowUnlessNone (place_count ws) (unless_none test)
  pub there : block < block_count ws
