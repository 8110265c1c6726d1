-- What the functions of the statement walk promise: the definition's result or refusal, and its rows and lines in the two buffers.
use Rattle.std.specs.Prelude as std
use Rattle.std.specs.Prelude.{ℕ, Bool, true, false, List, ◌++◌, length, ◌≡◌, ◌+◌, ◌*◌, ◌≤◌, ◌<◌, Ok, Err, MatchResult, IfSome}
use Rattle.std.proofs.Math.Option.{Option, none}
use Rattle.table.specs.Words.{block_count}
use Rattle.table.specs.Table.{scope, table_of, terminal_at, block_at}
use Rattle.table.specs.Promise.{Ends}
use Rattle.table.specs.declared.terminals.Scope.{Scope}
use Rattle.values.specs.Ops.{number_of}
use Rattle.values.specs.declared.op.Op.{Op}
use Rattle.table.specs.Columns.{maybe_of}
use Rattle.definition.specs.Around.{Around, a_loop, another, within}
use Rattle.definition.specs.Context as definition
use Rattle.definition.specs.Output.{Output, added}
use Rattle.definition.specs.Result.{Result, ok, ◌>>=◌, refuse_if}
use Rattle.definition.specs.Statement.{AlternateResult, BlockResult, CasesResult, TerminalResult, TraverseBlock, visit_terminal, traverse_block, traverse_cases, traverse_consequent, cases_last_first, visit_value_statement}
use Rattle.definition.specs.Tree.{Statement, Statements, count_statements, flag_of, Cases, count_cases}
use Rattle.definition.specs.Value.{visit_value_block}
use Rattle.definition.specs.Marks.{marks}
use Rattle.definition.specs.Put.{block_put, list_put, step_put, cases_put}
use Rattle.walk.specs.Out.{Puts}
use Rattle.walk.specs.State.{state, ids_on, refused_by, Whole}
use Rattle.walk.specs.declared.refusal.Refused.{Refused}
use Rattle.walk.specs.declared.state.Walk.{Walk}
use Rattle.walk.specs.declared.visit.TerminalResult as code

-- ---- the definition's outcomes over the words

abbrev pub traverse_outcome : List ℕ → (levels : ℕ) → Around → TraverseBlock
traverse_outcome words levels = traverse_block (table_of words) levels

-- a block and those that follow at the same depth: nested blocks have `levels` levels left
abbrev pub visit_outcome : List ℕ → (levels : ℕ) → Around → TraverseBlock
visit_outcome words levels = traverse_block (table_of words) (levels + 1)

abbrev pub terminal_outcome : List ℕ → (levels : ℕ) → Around → (block : ℕ) → definition.Context → Result TerminalResult
terminal_outcome words levels around block cx =
    visit_terminal (table_of words) (visit_value_block (table_of words) levels) (traverse_block (table_of words) levels) around
    (terminal_at (table_of words) block) block (block_at (table_of words) block) cx

-- ---- contracts

-- The bounds again. Each block that was entered paid; `blocks` of them were entered before the start
pub record Numbers (start end : Walk) (blocks : ℕ) : Type 0 where
  pub visits : end.tally.visits ≤ 8192
  pub rises : start.tally.visits ≤ end.tally.visits
  pub rows : end.tally.rows + 9 + 8210 * start.tally.visits ≤ start.tally.rows + 8210 * end.tally.visits + 17 * blocks
  pub len : end.cx.len + marks start.cx.emitted + 1 ≤ start.cx.len + marks end.cx.emitted + blocks
  pub id : end.cx.next_schedule_id + 2 * marks start.cx.emitted + 1 ≤ start.cx.next_schedule_id + 2 * marks end.cx.emitted + 2 * blocks
  pub lines : end.lines + marks start.cx.emitted ≤ start.lines + marks end.cx.emitted + blocks

-- the code's result is the definition's, of the part that was built, and the buffers hold it
pub record Found {A P : Type 0} (of : P → definition.Context → A) (put : Output → P → Output) (claim : P → Type 0) (blocks : ℕ) (outcome : Result A) (start end : Walk) : Type 0 where
  pub part : P
  pub same : outcome ≡ ok (of part (state end))
  pub puts : Puts start (λ out. put out part) end
  pub says : claim part
  pub whole : Whole end.cx
  pub numbers : Numbers start end blocks

abbrev pub block_result : Statements → definition.Context → BlockResult
block_result statements cx = record { statements = statements; context = cx }

abbrev pub terminal_result : Option ℕ → Option Statement → definition.Context → TerminalResult
terminal_result next statement cx = record { statement = statement; next = next; context = cx }

-- a nested block, with its BLOCK row
abbrev pub Traversed : Result BlockResult → Walk → std.Result (Unit {0}) Refused → Walk → Type 0
Traversed outcome start r end = MatchResult r (λ _. Found block_result block_put (λ _. Unit {0}) 0 outcome start end) (λ e. outcome ≡ refused_by e)

-- a list of so many statements
pub record Counts (start end : Walk) (n : ℕ) (statements : Statements) : Type 0 where
  pub count : count_statements statements ≡ n
  pub few : n + 8210 * start.tally.visits ≤ 8210 * end.tally.visits
  pub block_row : end.tally.rows + 10 + 8210 * start.tally.visits ≤ start.tally.rows + 8210 * end.tally.visits

abbrev pub Listed : Result BlockResult → Walk → std.Result ℕ Refused → Walk → Type 0
Listed outcome start r end = MatchResult r (λ n. Found block_result list_put (Counts start end n) 0 outcome start end) (λ e. outcome ≡ refused_by e)

-- a terminal, whose block was entered: its statement, if it has one, and the block to go on with
pub record Leads (words : List ℕ) (r : code.TerminalResult) (statement : Option Statement) : Type 0 where
  pub count : added statement 0 ≡ r.count
  pub few : r.count ≤ 1
  pub there : IfSome r.next (λ block. block < block_count words)

abbrev pub Ended : List ℕ → Result TerminalResult → Walk → std.Result code.TerminalResult Refused → Walk → Type 0
Ended words outcome start r end = MatchResult r (λ v. Found (terminal_result (maybe_of v.next)) step_put (Leads words v) 1 outcome start end) (λ e. outcome ≡ refused_by e)

-- an alternate, if it is present
abbrev pub alternate_result : Bool × Statements → definition.Context → AlternateResult
alternate_result (present, statements) cx = record { present = present; statements = statements; context = cx }

abbrev pub alternate_put : Output → Bool × Statements → Output
alternate_put out (true, statements) = block_put out statements
alternate_put out (false, statements) = out

pub record Alternate (start end : Walk) (n : ℕ) (made : Bool × Statements) : Type 0 where
  pub present : flag_of made.0 ≡ n
  pub lines : end.lines + marks start.cx.emitted ≤ start.lines + marks end.cx.emitted

abbrev pub Alternated : Result AlternateResult → Walk → std.Result ℕ Refused → Walk → Type 0
Alternated outcome start r end = MatchResult r (λ n. Found alternate_result alternate_put (Alternate start end n) 1 outcome start end) (λ e. outcome ≡ refused_by e)

-- the body of a loop whose values are made
unfoldable pub body_outcome : List ℕ → (levels : ℕ) → Around → (at : ℕ) → (label : Option ℕ) → (loop : ℕ) → (taken : Bool) → definition.Context → Result BlockResult
body_outcome words levels around at label loop taken cx =
    refuse_if taken 16 at cx.visits >>= λ _. traverse_outcome words levels (within (a_loop label) around) loop cx

-- a Branch's consequent, in its own BLOCK: a break enters no block
pub record Lines (start end : Walk) : Type 0 where
  pub lines : end.lines + marks start.cx.emitted ≤ start.lines + marks end.cx.emitted

abbrev pub Consequent : Result BlockResult → Walk → std.Result (Unit {0}) Refused → Walk → Type 0
Consequent outcome start r end = MatchResult r (λ _. Found block_result block_put (λ _. Lines start end) 1 outcome start end) (λ e. outcome ≡ refused_by e)

abbrev pub consequent_outcome : List ℕ → (levels : ℕ) → Around → (at consequent : ℕ) → definition.Context → Result BlockResult
consequent_outcome words levels around at consequent cx =
    traverse_consequent around (traverse_outcome words levels (within (another none) around)) at consequent (block_at (table_of words) at).id cx

-- a Switch's cases, under the ids of the entries that the Switch itself has
abbrev pub cases_outcome : List ℕ → (levels : ℕ) → Around → (at fallthrough first left : ℕ) → (own : List ℕ) → definition.Context → Result CasesResult
cases_outcome words levels around at fallthrough first left = traverse_cases (traverse_outcome words levels around) at fallthrough (cases_last_first (table_of words) first left)

-- the cases that were built, and the ids of their entries, which are on the stack
abbrev pub cases_result : (own : List ℕ) → Cases × List ℕ → definition.Context → CasesResult
cases_result own (cases, ids) cx = record { cases = cases; ids = ids ++ own; context = cx }

abbrev pub built_put : Output → Cases × List ℕ → Output
built_put out (cases, ids) = cases_put out cases

pub record Built (start end : Walk) (left n : ℕ) (made : Cases × List ℕ) : Type 0 where
  pub count : count_cases made.0 ≡ n
  pub held : length made.1 ≡ n
  pub stack : ids_on (state end) ≡ made.1 ++ ids_on (state start)
  pub lines : end.lines + marks start.cx.emitted ≤ start.lines + marks end.cx.emitted
  pub rows : end.tally.rows + 8210 * start.tally.visits ≤ start.tally.rows + 8210 * end.tally.visits
  pub id : end.cx.next_schedule_id + 2 * marks start.cx.emitted ≤ start.cx.next_schedule_id + 2 * marks end.cx.emitted
  pub few : n ≤ left

abbrev pub Cased : (left : ℕ) → (own : List ℕ) → Result CasesResult → Walk → std.Result ℕ Refused → Walk → Type 0
Cased left own outcome start r end = MatchResult r (λ n. Found (cases_result own) built_put (Built start end left n) 1 outcome start end) (λ e. outcome ≡ refused_by e)

-- a block whose terminal is a scope or a pruned scope, by its op
pub record Scoped (words : List ℕ) (block : ℕ) (end : Scope) (op : Op) : Type 0 where
  pub pruned : Bool
  pub ends : Ends words block (scope pruned end.block end.fallthrough end.scope)
  pub row : number_of op ≡ elim pruned [ true ↦ 21 | false ↦ 20 ]

-- a block whose terminal is a value terminal, with its fallthrough
pub record ValueEnds (words : List ℕ) (block fallthrough : ℕ) : Type 0 where
  pub few : block_count words ≤ 1024
  pub there : fallthrough < block_count words
  pub visits : (levels : ℕ) (around : Around) (cx : definition.Context) → terminal_outcome words levels around block cx
      ≡ visit_value_statement (table_of words) (visit_value_block (table_of words) levels) (terminal_at (table_of words) block) block (block_at (table_of words) block) fallthrough cx
