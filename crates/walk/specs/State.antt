-- The walk's state as the definition's Context, and what the steps that change one part of it promise.
use Rattle.std.specs.Prelude.{ℕ, ◌≡◌, ◌+◌, ◌*◌, ◌≤◌, ◌<◌, Bool, true, false, List, length, map, take, None, Some, Ok, Err, MatchResult, IfSome}
use Rattle.std.specs.Prelude as std
use Rattle.table.specs.Table.{table_of, terminal_at, is_absent}
use Rattle.table.specs.Columns.{maybe_of}
use Rattle.definition.specs.Context as definition
use Rattle.definition.specs.Context.{Flags}
use Rattle.definition.specs.Result.{Result, ok, refused}
use Rattle.definition.specs.Statement.{unless_unreachable}
use Rattle.definition.specs.Marks.{marks}
use Rattle.definition.specs.Context.{block_asked}
use Rattle.control.specs.Abstraction.{target_of, context_of}
use Rattle.control.specs.declared.Blocked.{Blocked}
use Rattle.control.specs.declared.Blocked.TheVariants.{ContinueBlock, Block}
use Rattle.control.specs.declared.ControlFlowTarget.{ControlFlowTarget}
use Rattle.walk.specs.declared.refusal.Refusal.{Refusal}
use Rattle.walk.specs.declared.refusal.Refusal.TheVariants.{ContinueBlockScheduled, AlreadyScheduled}
use Rattle.control.specs.Contract.{Bounded}
use Rattle.control.specs.declared.Context.{Context}
use Rattle.walk.specs.Refusal.{refusal_code, refusal_place, refused_after}
use Rattle.walk.specs.declared.refusal.Refused.{Refused}
use Rattle.walk.specs.declared.state.Walk.{Walk}

abbrev pub state : Walk → definition.Context
state w = context_of w.tally.visits w.cx

-- the ids of the stack's entries, and of so many of the last
abbrev pub ids_on : definition.Context → List ℕ
ids_on cx = map (λ (entry : definition.Entry). entry.id) cx.stack

abbrev pub last_ids : ℕ → definition.Context → List ℕ
last_ids n cx = take n (ids_on cx)

-- the definition's refusal
abbrev pub refused_by : {A : Type 0} → Refused → Result A
refused_by e = refused (refusal_code e.refusal) (refusal_place e.refusal) e.visits

-- the sizes of the arrays, and the blocks that the stack names
pub record Whole (cx : Context) : Type 0 where
  pub emitted : length cx.emitted ≡ 1024
  pub stack : length cx.stack ≡ 1152
  pub bounded : Bounded cx.stack cx.len

-- The bounds of a walk. Each block is entered once, so at most 1,024 are (11): each of them pays for one entry of the stack, two ids, one line, and
-- 8,210 rows. `blocks` of them and `unused` rows are not used yet
pub record Fine (w : Walk) (blocks unused : ℕ) : Type 0 where
  pub whole : Whole w.cx
  pub visits : w.tally.visits ≤ 8192
  pub rows : w.tally.rows + unused ≤ 8210 * w.tally.visits
  pub len : w.cx.len + blocks ≤ marks w.cx.emitted
  pub id : w.cx.next_schedule_id + 2 * blocks ≤ 2 * marks w.cx.emitted
  pub lines : w.lines + blocks ≤ marks w.cx.emitted

-- room for one more entry and its id
pub record Room (cx : Context) : Type 0 where
  pub whole : Whole cx
  pub len : cx.len < 1024
  pub id : cx.next_schedule_id < 65535

-- why `schedule` refuses a target, at the block that it tested
abbrev pub blocked_so : Blocked → ControlFlowTarget → Refusal
blocked_so ContinueBlock target = ContinueBlockScheduled (block_asked (target_of target))
blocked_so Block target = AlreadyScheduled (block_asked (target_of target))

-- nothing was put out
pub record Quiet (start end : Walk) : Type 0 where
  pub tree : end.tree ≡ start.tree
  pub index : end.index ≡ start.index
  pub rows : end.tally.rows ≡ start.tally.rows
  pub lines : end.lines ≡ start.lines

-- a block was entered
pub record Entered (words : List ℕ) (block : ℕ) (start end : Walk) : Type 0 where
  pub present : is_absent (terminal_at (table_of words) block) ≡ false
  pub quiet : Quiet start end
  pub visits : end.tally.visits ≡ start.tally.visits + 1
  pub marks : marks end.cx.emitted ≡ marks start.cx.emitted + 1
  pub len : end.cx.len ≡ start.cx.len
  pub id : end.cx.next_schedule_id ≡ start.cx.next_schedule_id
  pub fine : Fine end 1 8210

abbrev pub Enters : List ℕ → (block : ℕ) → Result definition.Context → Walk → std.Result (Unit {0}) Refused → Walk → Type 0
Enters words block outcome start r end = MatchResult r (λ _. (outcome ≡ ok (state end)) × Entered words block start end) (λ e. outcome ≡ refused_by e)

-- entries went onto the stack, or came off it
pub record Shifted (start end : Walk) (more less : ℕ) : Type 0 where
  pub quiet : Quiet start end
  pub visits : end.tally.visits ≡ start.tally.visits
  pub marks : marks end.cx.emitted ≡ marks start.cx.emitted
  pub len : end.cx.len + less ≡ start.cx.len + more
  pub id : end.cx.next_schedule_id ≡ start.cx.next_schedule_id + more
  pub whole : Whole end.cx

abbrev pub Does : Result definition.Context → Walk → (more less : ℕ) → std.Result (Unit {0}) Refused → Walk → Type 0
Does outcome start more less r end = MatchResult r (λ _. (outcome ≡ ok (state end)) × Shifted start end more less) (λ e. outcome ≡ refused_by e)

-- a statement has an entry of its own if it has a label
abbrev pub entries_if : std.Option ℕ → ℕ
entries_if None = 0
entries_if (Some label) = 1

abbrev pub Reaches : List ℕ → definition.Context → (fallthrough : ℕ) → std.Result (std.Option ℕ) Refused → Type 0
Reaches words cx fallthrough r =
    MatchResult r (λ label. (unless_unreachable (table_of words) cx fallthrough ≡ ok (maybe_of label)) × IfSome label (λ block. block ≡ fallthrough))
    (λ e. unless_unreachable (table_of words) cx fallthrough ≡ refused_by e)

-- a refusal where the test holds
abbrev pub Refuses : (test : Bool) → Refusal → Walk → std.Result (Unit {0}) Refused → Type 0
Refuses test refusal w r = MatchResult r (λ _. test ≡ false) (λ e. (test ≡ true) × (e ≡ refused_after refusal w.tally.visits))

-- a block was put into a set, and nothing else changed
pub record Marked (outcome : definition.Context) (start end : Walk) : Type 0 where
  pub same : state end ≡ outcome
  pub quiet : Quiet start end
  pub visits : end.tally.visits ≡ start.tally.visits
  pub marks : marks end.cx.emitted ≡ marks start.cx.emitted
  pub len : end.cx.len ≡ start.cx.len
  pub id : end.cx.next_schedule_id ≡ start.cx.next_schedule_id
  pub whole : Whole end.cx
