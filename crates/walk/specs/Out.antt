-- What is put out: the rows and lines that the two lent buffers hold, and what the steps that put some out promise.
use Rattle.std.specs.Prelude as std
use Rattle.std.specs.Prelude.{ℕ, ◌≡◌, ◌+◌, ◌*◌, ◌/◌, ◌≤◌, ◌<◌, true, false, List, [], ◌∷◌, ◌++◌, ltb, length, take, Ok, Err, None, Some, MatchResult}
use Rattle.std.proofs.Math.Option.{Option}
use Rattle.std.proofs.lemmas.List.Edits.{sets}
use Rattle.table.specs.Words.{block_count, place_count}
use Rattle.table.specs.Table.{table_of, rows_from}
use Rattle.definition.specs.Index.{Line, line_words}
use Rattle.definition.specs.Output.{Output, ◌⊕◌, line_out, value_out, update_out, instructions_out}
use Rattle.definition.specs.Result.{Result, ok}
use Rattle.definition.specs.Statement.{OptionalValue}
use Rattle.definition.specs.Tree.{Row, Value, update_present}
use Rattle.table.specs.declared.columns.Span.{Span}
use Rattle.definition.specs.Value.{ValueBlockResult, ValueTerminalResult, value_block_result_to_sequence}
use Rattle.values.specs.Met.{block_result, terminal_result, Ends}
use Rattle.values.specs.Rows.{Holds}
use Rattle.values.specs.Stack.{pushed}
use Rattle.values.specs.declared.result.ValueBlockResult as values
use Rattle.walk.specs.State.{refused_by}
use Rattle.walk.specs.declared.refusal.Refused.{Refused}
use Rattle.walk.specs.declared.state.Walk.{Walk}

-- the buffer with a line at the place n, if it has that place whole
unfoldable pub line_placed : List ℕ → (n label first closing : ℕ) → List ℕ
line_placed index n label first closing = elim (ltb n (length index / 3)) [ true ↦ sets index (n * 3) (label ∷ first ∷ closing ∷ []) | false ↦ index ]

-- the buffer holds these lines, n of them. Nothing is said where it has fewer places: then the entry clears it
pub record HoldsLines (index : List ℕ) (n : ℕ) (lines : List Line) : Type 0 where
  pub count : length lines ≡ n
  pub words : n ≤ length index / 3 → take (n * 3) index ≡ line_words lines

-- the walk has put this out, into the buffers that `origin` was lent
pub record Out (origin w : Walk) (out : Output) : Type 0 where
  pub tree : w.tree.ghost_name ≡ origin.tree.ghost_name
  pub index : w.index.ghost_name ≡ origin.index.ghost_name
  pub rows : Holds w.tree.now w.tally.rows (pushed out.rows [])
  pub lines : HoldsLines w.index.now w.lines out.lines

-- whatever was out, this stands behind it
abbrev pub Puts : (start : Walk) → (put : Output → Output) → (end : Walk) → Type 0
Puts start put end = (origin : Walk) (out : Output) → Out origin start out → Out origin end (put out)

-- a row
pub record RowMade (r : Row) (start end : Walk) : Type 0 where
  pub puts : Puts start (λ out. out ⊕ (r ∷ [])) end
  pub cx : end.cx ≡ start.cx
  pub rows : end.tally.rows ≡ start.tally.rows + 1
  pub visits : end.tally.visits ≡ start.tally.visits
  pub lines : end.lines ≡ start.lines

-- a statement's closing row, and its line
abbrev pub closed : Option ℕ → (first : ℕ) → Row → Output → Output
closed label first r out = record { rows = out.rows ++ (r ∷ []); lines = out.lines ++ line_out label first (length out.rows) }

pub record Closes (label : Option ℕ) (first : ℕ) (r : Row) (start end : Walk) : Type 0 where
  pub puts : Puts start (closed label first r) end
  pub cx : end.cx ≡ start.cx
  pub rows : end.tally.rows ≡ start.tally.rows + 1
  pub visits : end.tally.visits ≡ start.tally.visits
  pub lines : end.lines ≤ start.lines + 1

-- a block's instructions
pub record InstructionsMade (words : List ℕ) (first count : ℕ) (start end : Walk) : Type 0 where
  pub puts : Puts start (λ out. out ⊕ instructions_out (table_of words) (rows_from first count)) end
  pub cx : end.cx ≡ start.cx
  pub rows : end.tally.rows ≡ start.tally.rows + count * 2
  pub visits : end.tally.visits ≡ start.tally.visits
  pub lines : end.lines ≡ start.lines

-- what a value may be begun with
pub record Budget (w : Walk) : Type 0 where
  pub visits : w.tally.visits ≤ 8192
  pub rows : w.tally.rows ≤ 8210 * w.tally.visits

-- a value: the definition's, with its rows, `unpaid` of them not paid by the visits begun
pub record Valued {A : Type 0} (words : List ℕ) (of : values.ValueBlockResult → Value → A) (outcome : Result A) (unpaid : ℕ) (start : Walk) (v : values.ValueBlockResult) (end : Walk) : Type 0 where
  pub value : Value
  pub same : outcome ≡ ok (of v value)
  pub puts : Puts start (λ out. out ⊕ value_out value) end
  pub block : v.block < block_count words
  pub place : v.place < place_count words
  pub ends : Ends words value v.trailing
  pub more : v.trailing.sequences + v.trailing.instructions < v.tally.rows
  pub tally : end.tally ≡ v.tally
  pub cx : end.cx ≡ start.cx
  pub lines : end.lines ≡ start.lines
  pub visits : end.tally.visits ≤ 8192
  pub rises : start.tally.visits ≤ end.tally.visits
  pub paid : end.tally.rows + 8200 * start.tally.visits ≤ start.tally.rows + 8200 * end.tally.visits + unpaid

abbrev pub ValueMade : List ℕ → Result ValueBlockResult → Walk → std.Result values.ValueBlockResult Refused → Walk → Type 0
ValueMade words outcome start r end = MatchResult r (λ v. Valued words block_result outcome 0 start v end) (λ e. outcome ≡ refused_by e)

abbrev pub TerminalMade : List ℕ → Result ValueTerminalResult → Walk → std.Result values.ValueBlockResult Refused → Walk → Type 0
TerminalMade words outcome start r end = MatchResult r (λ v. Valued words terminal_result outcome 3 start v end) (λ e. outcome ≡ refused_by e)

-- what every value leaves as it was, and the bounds of its rows
pub record Spent (unpaid : ℕ) (start end : Walk) : Type 0 where
  pub cx : end.cx ≡ start.cx
  pub lines : end.lines ≡ start.lines
  pub visits : end.tally.visits ≤ 8192
  pub rises : start.tally.visits ≤ end.tally.visits
  pub paid : end.tally.rows + 8200 * start.tally.visits ≤ start.tally.rows + 8200 * end.tally.visits + unpaid

-- a flattened value
pub record Flat (words : List ℕ) (span : Span) (outcome : Result ValueBlockResult) (start end : Walk) : Type 0 where
  pub value : ValueBlockResult
  pub same : outcome ≡ ok value
  pub begun : value.visits ≡ end.tally.visits
  pub puts : Puts start (λ out. out ⊕ value_out (value_block_result_to_sequence (table_of words) value span)) end
  pub spent : Spent 3 start end

abbrev pub FlatMade : List ℕ → Span → Result ValueBlockResult → Walk → std.Result (Unit {0}) Refused → Walk → Type 0
FlatMade words span outcome start r end = MatchResult r (λ _. Flat words span outcome start end) (λ e. outcome ≡ refused_by e)

-- an update, if there is one
pub record Updated (outcome : Result OptionalValue) (start : Walk) (n : ℕ) (end : Walk) : Type 0 where
  pub value : OptionalValue
  pub same : outcome ≡ ok value
  pub begun : value.visits ≡ end.tally.visits
  pub present : update_present value.value ≡ n
  pub puts : Puts start (λ out. out ⊕ update_out value.value) end
  pub spent : Spent 0 start end

abbrev pub UpdateMade : Result OptionalValue → Walk → std.Result ℕ Refused → Walk → Type 0
UpdateMade outcome start r end = MatchResult r (λ n. Updated outcome start n end) (λ e. outcome ≡ refused_by e)
