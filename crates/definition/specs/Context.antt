-- The Rust's `ControlFlowTarget` and `Context`, with the count of visits.
use Rattle.std.specs.Prelude.{ℕ, zero, suc, ◌+◌, List, [], ◌∷◌, Bool, true, false, not, ◌||◌, get_or, set, replicate, eqb}
use Rattle.std.proofs.Math.Option.{Option, none, some}
use Rattle.definition.specs.Result.{Result, ok, refused, ◌>>=◌, refuse_if, already_scheduled, unschedule_out_of_order}
use Rattle.definition.specs.Tree.{Kind, implicit, labeled, unlabeled}

-- ---- sets of blocks: "one flag for each of the 1,024 blocks"

abbrev pub Flags : Type 0
Flags = List Bool

unfoldable pub no_flags : Flags
no_flags = replicate 1024 false

unfoldable pub has : Flags → ℕ → Bool
has flags block = get_or flags block false

unfoldable pub add : Flags → ℕ → Flags
add flags block = set flags block true

unfoldable pub remove : Flags → ℕ → Flags
remove flags block = set flags block false

-- ---- the control stack

-- a loop's `block` is its fallthrough
pub data ControlFlowTarget : Type 0 where
  target_if : (block : ℕ) → ControlFlowTarget
  target_switch : (block : ℕ) → ControlFlowTarget
  target_case : (block : ℕ) → ControlFlowTarget
  target_loop : (block continue_block loop_block : ℕ) → ControlFlowTarget

abbrev pub target_block : ControlFlowTarget → ℕ
target_block (target_if block) = block
target_block (target_switch block) = block
target_block (target_case block) = block
target_block (target_loop block continue_block loop_block) = block

abbrev pub is_loop : ControlFlowTarget → Bool
is_loop (target_if block) = false
is_loop (target_switch block) = false
is_loop (target_case block) = false
is_loop (target_loop block continue_block loop_block) = true

-- an entry counted as a loop, or not
abbrev pub loops_of : ControlFlowTarget → ℕ
loops_of (target_if block) = 0
loops_of (target_switch block) = 0
loops_of (target_case block) = 0
loops_of (target_loop block continue_block loop_block) = 1

abbrev pub continues_at : ControlFlowTarget → ℕ → Bool
continues_at (target_if block) wanted = false
continues_at (target_switch block) wanted = false
continues_at (target_case block) wanted = false
continues_at (target_loop block continue_block loop_block) wanted = eqb continue_block wanted

-- `owns_loop`: the target is a loop, and its loop block was not scheduled before
pub record Entry : Type 0 where
  pub id : ℕ
  pub target : ControlFlowTarget
  pub owns_loop : Bool

-- the loops among some entries
abbrev pub loops_on : List Entry → ℕ
loops_on [] = 0
loops_on (entry ∷ below) = loops_of entry.target + loops_on below

-- the stack's top comes first
pub record Context : Type 0 where
  pub next_id : ℕ
  pub emitted : Flags
  pub scope_fallthroughs : Flags
  pub scheduled : Flags
  pub catch_handlers : Flags
  pub stack : List Entry
  pub visits : ℕ

unfoldable pub start : Context
unfolding no_flags
start = record { next_id = 0; emitted = no_flags; scope_fallthroughs = no_flags; scheduled = no_flags; catch_handlers = no_flags; stack = []; visits = 0 }

-- a catch handler counts as scheduled here, and nowhere else
unfoldable pub is_scheduled : Context → ℕ → Bool
is_scheduled cx block = has cx.scheduled block || has cx.catch_handlers block

-- ---- steps that change one field

unfoldable pub emit : ℕ → Context → Context
emit block cx = record cx { emitted = add cx.emitted block }

unfoldable pub with_visits : ℕ → Context → Context
with_visits visits cx = record cx { visits = visits }

unfoldable pub mark_scope_fallthrough : ℕ → Context → Context
mark_scope_fallthrough block cx = record cx { scope_fallthroughs = add cx.scope_fallthroughs block }

unfoldable pub schedule_catch_handler : ℕ → Context → Context
schedule_catch_handler block cx = record cx { catch_handlers = add cx.catch_handlers block }

-- ---- schedule, unschedule

-- the test before a target is scheduled: of which block, and with which refusal. "`schedule_loop` inserts the fallthrough without a test
-- and only then tests the continue block."
abbrev pub is_blocked : ControlFlowTarget → Flags → Bool
is_blocked (target_if block) scheduled = has scheduled block
is_blocked (target_switch block) scheduled = has scheduled block
is_blocked (target_case block) scheduled = has scheduled block
is_blocked (target_loop block continue_block loop_block) scheduled = has (add scheduled block) continue_block

abbrev pub block_asked : ControlFlowTarget → ℕ
block_asked (target_if block) = block
block_asked (target_switch block) = block
block_asked (target_case block) = block
block_asked (target_loop block continue_block loop_block) = continue_block

abbrev pub blocked_code : ControlFlowTarget → ℕ
blocked_code (target_if block) = already_scheduled
blocked_code (target_switch block) = already_scheduled
blocked_code (target_case block) = already_scheduled
blocked_code (target_loop block continue_block loop_block) = 15

-- the scheduled set with a target's blocks
abbrev pub scheduled_by : ControlFlowTarget → Flags → Flags
scheduled_by (target_if block) scheduled = add scheduled block
scheduled_by (target_switch block) scheduled = add scheduled block
scheduled_by (target_case block) scheduled = add scheduled block
scheduled_by (target_loop block continue_block loop_block) scheduled = add (add (add scheduled block) continue_block) loop_block

abbrev pub owns : ControlFlowTarget → Flags → Bool
owns (target_if block) scheduled = false
owns (target_switch block) scheduled = false
owns (target_case block) scheduled = false
owns (target_loop block continue_block loop_block) scheduled = not (has (add (add scheduled block) continue_block) loop_block)

-- a target on the stack under the next id, and its blocks in the scheduled set
unfoldable pub pushed : ControlFlowTarget → Context → Context
pushed target cx = record cx {
  next_id = suc cx.next_id;
  scheduled = scheduled_by target cx.scheduled;
  stack = record { id = cx.next_id; target = target; owns_loop = owns target cx.scheduled } ∷ cx.stack;
}

-- the one way to schedule: any target, a loop with its three blocks
unfoldable pub schedule : ControlFlowTarget → Context → Result Context
schedule target cx =
    refuse_if (is_blocked target cx.scheduled) (blocked_code target) (block_asked target) cx.visits >>= λ _.
    ok (pushed target cx)

-- "`unschedule` of a loop removes its fallthrough and continue block from the scheduled set even where an outer statement put them there.
-- The loop block is removed only if this loop owns it."
unfoldable pub unscheduled_by : ControlFlowTarget → (owns_loop : Bool) → Flags → Flags
unscheduled_by (target_if block) owns_loop scheduled = remove scheduled block
unscheduled_by (target_switch block) owns_loop scheduled = remove scheduled block
unscheduled_by (target_case block) owns_loop scheduled = remove scheduled block
unscheduled_by (target_loop block continue_block loop_block) false scheduled = remove (remove scheduled block) continue_block
unscheduled_by (target_loop block continue_block loop_block) true scheduled = remove (remove (remove scheduled block) continue_block) loop_block

unfoldable pub popped : List Entry → Flags → Context → Context
popped stack scheduled cx = record cx { scheduled = scheduled; stack = stack }

unfoldable pub unschedule_top : List Entry → ℕ → Context → Result Context
unschedule_top [] id cx = refused unschedule_out_of_order 0 cx.visits
unschedule_top (top ∷ below) id cx =
    elim (eqb top.id id) [
      | true ↦ ok (popped below (unscheduled_by top.target top.owns_loop cx.scheduled) cx)
      | false ↦ refused unschedule_out_of_order 0 cx.visits
    ]

unfoldable pub unschedule : ℕ → Context → Result Context
unschedule id cx = unschedule_top cx.stack id cx

-- ---- get_break_target, get_continue_target

-- what a jump resolves to: the block that its row names, its kind, and (M-107) "the number of loops on the control stack above the one it found"
pub record Resolution : Type 0 where
  pub target : ℕ
  pub kind : Kind
  pub loops : ℕ

-- "A loop gives Unlabeled, or Labeled if a loop lies above. Another entry gives Implicit at the top, else Labeled."
unfoldable pub break_kind : (loop top : Bool) → (loops_above : ℕ) → Kind
break_kind true top zero = unlabeled
break_kind true top (suc loops_above) = labeled
break_kind false true loops_above = implicit
break_kind false false loops_above = labeled

-- "A break resolves on the innermost stack entry whose block is the target."
unfoldable pub break_target_from : List Entry → (block : ℕ) → (top : Bool) → (loops_above : ℕ) → Option Resolution
break_target_from [] block top loops_above = none
break_target_from (entry ∷ below) block top loops_above =
    elim (eqb (target_block entry.target) block) [
      | true ↦ some (record { target = block; kind = break_kind (is_loop entry.target) top loops_above; loops = loops_above })
      | false ↦ break_target_from below block false (loops_of entry.target + loops_above)
    ]

unfoldable pub get_break_target : Context → (block : ℕ) → Option Resolution
get_break_target cx block = break_target_from cx.stack block true 0

-- "Labeled if a loop lies above, else Implicit at the top, else Unlabeled."
unfoldable pub continue_kind : (top : Bool) → (loops_above : ℕ) → Kind
continue_kind top (suc loops_above) = labeled
continue_kind true zero = implicit
continue_kind false zero = unlabeled

-- "A continue resolves on the loop with that continue block … Its target is the loop's fallthrough." (The innermost, of several.)
unfoldable pub continue_target_from : List Entry → (block : ℕ) → (top : Bool) → (loops_above : ℕ) → Option Resolution
continue_target_from [] block top loops_above = none
continue_target_from (entry ∷ below) block top loops_above =
    elim (continues_at entry.target block) [
      | true ↦ some (record { target = target_block entry.target; kind = continue_kind top loops_above; loops = loops_above })
      | false ↦ continue_target_from below block false (loops_of entry.target + loops_above)
    ]

unfoldable pub get_continue_target : Context → (block : ℕ) → Option Resolution
get_continue_target cx block = continue_target_from cx.stack block true 0
