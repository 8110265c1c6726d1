-- What the methods promise of the Context that they hand back.
use Rattle.std.specs.Prelude.{ℕ, ◌+◌, ◌-◌, ◌≤◌, ◌<◌, ◌≡◌, Bool, List, get_or, set, replicate}
use Rattle.std.specs.Bool.{then_some}
use Rattle.definition.specs.Result.{ok}
use Rattle.definition.specs.Context as definition
use Rattle.definition.specs.Context.{target_block, is_loop, is_blocked, scheduled_by, owns, unscheduled_by, break_kind, continue_kind, start, schedule, unschedule}
use Rattle.control.specs.declared.ControlFlowTarget.{ControlFlowTarget}
use Rattle.control.specs.declared.ControlFlowTarget.TheVariants.{If, Switch, Case, Loop}
use Rattle.control.specs.declared.Entry.{Entry}
use Rattle.control.specs.declared.Blocked.{Blocked}
use Rattle.control.specs.declared.Blocked.TheVariants.{ContinueBlock, Block}
use Rattle.control.specs.declared.Context.{Context}
use Rattle.control.specs.Abstraction.{target_of, no_entry, context_of, result_of}

-- the blocks that a target names are among the 1,024
abbrev pub Named : ControlFlowTarget → Type 0
Named (If block) = block < 1024
Named (Switch block) = block < 1024
Named (Case block) = block < 1024
Named (Loop block continue_block loop_block) = (block < 1024) × (continue_block < 1024) × (loop_block < 1024)

-- what a walk carries along: the stack's bound, and the blocks of its entries
pub record Bounded (entries : List Entry) (len : ℕ) : Type 0 where
  pub most : len ≤ 1152
  pub named : (k : ℕ) → k < len → Named (get_or entries k no_entry).target

-- what the methods require: room for one more entry and its id; the stack's last entry, as the caller reads it
pub record Room (cx : Context) : Type 0 where
  pub len : cx.len < 1152
  pub id : cx.next_schedule_id < 65535

pub record Last (cx : Context) (entry : Entry) : Type 0 where
  pub nonempty : 0 < cx.len
  pub read : entry ≡ get_or cx.stack (cx.len - 1) no_entry
  pub named : Named entry.target

-- why a target is refused, where it is
abbrev pub reason : ControlFlowTarget → Blocked
reason (If block) = Block
reason (Switch block) = Block
reason (Case block) = Block
reason (Loop block continue_block loop_block) = ContinueBlock

-- ---- the Contexts that the methods hand back

-- a target under the next id, and its blocks in the scheduled set
abbrev pub with_entry : ControlFlowTarget → Context → Context
with_entry target cx = record cx {
  len = cx.len + 1;
  scheduled = scheduled_by (target_of target) cx.scheduled;
  pushed = record { id = cx.next_schedule_id; target = target; owns_loop = owns (target_of target) cx.scheduled };
  refused = then_some (is_blocked (target_of target) cx.scheduled) (reason target);
  next_schedule_id = cx.next_schedule_id + 1;
}

-- one entry less, and its blocks out of the set; the array of entries is as it was
abbrev pub without_last : Entry → Context → Context
without_last last cx = record cx {
  len = cx.len - 1;
  scheduled = unscheduled_by (target_of last.target) last.owns_loop cx.scheduled;
}

-- ---- the promises. `context` is the equation with the definition, refusals included. `state` says what every field is

pub record Created (r : Context) : Type 0 where
  pub context : context_of 0 r ≡ start
  pub len : r.len ≡ 0
  pub id : r.next_schedule_id ≡ 0
  pub stack : r.stack ≡ replicate 1152 no_entry
  pub bounded : Bounded r.stack r.len

pub record Scheduled (target : ControlFlowTarget) (self r : Context) : Type 0 where
  pub state : r ≡ with_entry target self
  pub context : (visits : ℕ) → schedule (target_of target) (context_of visits self) ≡ result_of visits r
  pub len : r.len ≡ self.len + 1
  pub id : r.next_schedule_id ≡ self.next_schedule_id + 1
  pub bounded : Bounded self.stack self.len → Bounded (set r.stack (r.len - 1) r.pushed) r.len

pub record Unscheduled (last : Entry) (self r : Context) : Type 0 where
  pub state : r ≡ without_last last self
  pub context : (visits : ℕ) → unschedule last.id (context_of visits self) ≡ ok (context_of visits r)
  pub len : r.len ≡ self.len - 1
  pub id : r.next_schedule_id ≡ self.next_schedule_id
  pub bounded : Bounded self.stack self.len → Bounded r.stack r.len

-- ---- a jump's entry, once it is found

abbrev pub break_to : definition.ControlFlowTarget → (top : Bool) → (loops_above : ℕ) → definition.Resolution
break_to found top loops_above = record { target = target_block found; kind = break_kind (is_loop found) top loops_above; loops = loops_above }

abbrev pub continue_to : definition.ControlFlowTarget → (top : Bool) → (loops_above : ℕ) → definition.Resolution
continue_to found top loops_above = record { target = target_block found; kind = continue_kind top loops_above; loops = loops_above }
