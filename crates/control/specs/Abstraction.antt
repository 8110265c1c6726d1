-- From the code's Context to the definition's.
use Rattle.std.specs.Prelude.{ℕ, zero, suc, ◌-◌, false, List, [], ◌∷◌, get_or, set, None, Some}
use Rattle.std.specs.Prelude as std
use Rattle.std.proofs.Math.Option.{Option, none, some}
use Rattle.definition.specs.Result.{Result, ok, refused}
use Rattle.definition.specs.Tree.{Kind, implicit, labeled, unlabeled}
use Rattle.definition.specs.Context as definition
use Rattle.definition.specs.Context.{target_if, target_switch, target_case, target_loop, target_block, block_asked}
use Rattle.control.specs.declared.ControlFlowTarget.{ControlFlowTarget}
use Rattle.control.specs.declared.ControlFlowTarget.TheVariants.{If, Switch, Case, Loop}
use Rattle.control.specs.declared.Entry.{Entry}
use Rattle.control.specs.declared.Context.{Context}
use Rattle.control.specs.declared.ReactiveTerminalTargetKind.{ReactiveTerminalTargetKind}
use Rattle.control.specs.declared.ReactiveTerminalTargetKind.TheVariants.{Implicit, Labeled, Unlabeled}
use Rattle.control.specs.declared.Resolution.{Resolution}
use Rattle.control.specs.declared.Blocked.{Blocked}
use Rattle.control.specs.declared.Blocked.TheVariants.{ContinueBlock, Block}

abbrev pub target_of : ControlFlowTarget → definition.ControlFlowTarget
target_of (If block) = target_if block
target_of (Switch block) = target_switch block
target_of (Case block) = target_case block
target_of (Loop block continue_block loop_block) = target_loop block continue_block loop_block

abbrev pub entry_of : Entry → definition.Entry
entry_of entry = record { id = entry.id; target = target_of entry.target; owns_loop = entry.owns_loop }

-- what a read past an array's end gives in the logic
abbrev pub no_entry : Entry
no_entry = record { id = 0; target = If 0; owns_loop = false }

-- the first entries of the array, as many as the number says, the last of them first
unfoldable pub stack_of : List Entry → ℕ → List definition.Entry
stack_of entries zero = []
stack_of entries (suc n) = entry_of (get_or entries n no_entry) ∷ stack_of entries n

-- The visits are counted outside the code's Context. Entries of the array above the length are not looked at.
unfoldable pub context_of : (visits : ℕ) → Context → definition.Context
context_of visits cx = record {
  next_id = cx.next_schedule_id;
  emitted = cx.emitted;
  scope_fallthroughs = cx.scope_fallthroughs;
  scheduled = cx.scheduled;
  catch_handlers = cx.catch_handlers;
  stack = stack_of cx.stack cx.len;
  visits = visits;
}

-- The same for a Context that `schedule` hands back: the stack's last entry is `pushed`, which is not yet in the array.
unfoldable pub entered_of : (visits : ℕ) → Context → definition.Context
entered_of visits cx = record (context_of visits cx) { stack = entry_of cx.pushed ∷ stack_of cx.stack (cx.len - 1) }

-- the number of a refusal of `schedule`
abbrev pub blocked_number : Blocked → ℕ
blocked_number ContinueBlock = 15
blocked_number Block = 90

-- What `schedule` gives: the next Context, or a refusal at the block that the target asks about.
abbrev pub result_by : std.Option Blocked → (visits : ℕ) → Context → Result definition.Context
result_by None visits cx = ok (entered_of visits cx)
result_by (Some why) visits cx = refused (blocked_number why) (block_asked (target_of cx.pushed.target)) visits

abbrev pub result_of : (visits : ℕ) → Context → Result definition.Context
result_of visits cx = result_by cx.refused visits cx

-- the Context once its caller has stored the new entry at its place in the array
unfoldable pub stored : Context → Context
stored cx = record cx { stack = set cx.stack (cx.len - 1) cx.pushed }

abbrev pub kind_of : ReactiveTerminalTargetKind → Kind
kind_of Implicit = implicit
kind_of Labeled = labeled
kind_of Unlabeled = unlabeled

-- the block that the jump's row names
abbrev pub found_block : Resolution → ℕ
found_block resolution = target_block (target_of resolution.entry.target)

abbrev pub resolution_of : Resolution → definition.Resolution
resolution_of resolution = record { target = found_block resolution; kind = kind_of resolution.kind; loops = resolution.loops }

abbrev pub resolved_of : std.Option Resolution → Option definition.Resolution
resolved_of None = none
resolved_of (Some resolution) = some (resolution_of resolution)
