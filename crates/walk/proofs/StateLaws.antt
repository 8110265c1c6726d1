-- The steps of the state against the definition's steps.
use mathlib.Core.Path.{◌≡◌, refl, sym, ap, ◌∙◌}
use mathlib.Core.Bool.{Bool, true, false}
use mathlib.Core.List.{List, [], ◌∷◌}
use mathlib.Core.Option.{none}
use Prim.Native.Nat.{ℕ, zero, suc, ◌+◌, ◌-◌, ◌≤◌, ◌<◌}
use native.Mathlib.Numerals.{add-one}
use native.Mathlib.Omega.{arith}
use lib.Dec.{leb}
use lib.ListN.{length, get_or}
use borrow.Author.Tests.{lt-leb, ne_eqb}
use Rattle.std.specs.Prelude.{Some, None}
use Rattle.std.specs.Prelude as std
use Rattle.table.specs.Table.{Table, table_of, terminal_at, is_absent, is_unreachable}
use Rattle.table.specs.Table as table
use Rattle.table.specs.Promise.{Ends}
use Rattle.table.specs.Ending.{ending}
use Rattle.table.specs.declared.terminals.Terminal as end
use Rattle.table.specs.declared.terminals.Terminal.TheVariants as end_as
use Rattle.definition.specs.Result.{ok, refused, ◌>>=◌, refuse_if}
use Rattle.definition.specs.Context as definition
use Rattle.definition.specs.Context.{Flags, has, add, block_asked, schedule, unschedule, unschedule_top, emit, with_visits}
use Rattle.definition.specs.Value.{begin_visit}
use Rattle.definition.specs.Statement.{enter_block, unless_scheduled, unless_unreachable}
use Rattle.definition.specs.Marks.{marks}
use Rattle.control.specs.declared.ControlFlowTarget.{ControlFlowTarget}
use Rattle.control.specs.declared.Entry.{Entry}
use Rattle.control.specs.declared.Context.{Context}
use Rattle.control.specs.declared.Blocked.{Blocked}
use Rattle.control.specs.declared.Blocked.TheVariants as why
use Rattle.control.specs.Abstraction.{target_of, no_entry, stack_of, context_of, result_by, stored}
use Rattle.control.specs.Contract.{Scheduled}
use Rattle.control.proofs.ContextLaws.{stores, stack_last}
use Rattle.walk.specs.Refusal.{refused_after}
use Rattle.walk.specs.State.{refused_by, blocked_so}

-- one flag more
pub marks_add : (s : Flags) (b : ℕ) → b < length s → has s b ≡ false → marks (add s b) ≡ marks s + 1
unfolding has add
marks_add [] b h e = absurd (omega (arith, h))
marks_add (true ∷ s) zero h e = absurd (let z : ◌≡◌ {A = ℕ} 0 1 = cc in omega arith)
marks_add (false ∷ s) zero h e = omega arith
marks_add (true ∷ s) (suc b) h e = omega (arith, marks_add s b (omega (arith, h)) e)
marks_add (false ∷ s) (suc b) h e = marks_add s b (omega (arith, h)) e

-- ---- a visit begins

module _ (t : Table) (block visits : ℕ) (cx : Context) where
  entering : (full absent emitted : Bool) → leb 8192 visits ≡ full → is_absent (terminal_at t block) ≡ absent → has cx.emitted block ≡ emitted
      → enter_block t block (context_of visits cx) ≡ (refuse_if full 31 block visits >>= λ _. refuse_if absent 10 block (suc visits) >>= λ _.
      refuse_if emitted 11 block (suc visits) >>= λ _. ok (emit block (with_visits (suc visits) (context_of visits cx))))
  unfolding enter_block begin_visit context_of ◌>>=◌ refuse_if
  entering true absent emitted a b c = rw a refl
  entering false true emitted a b c = rw (a, b) refl
  entering false false true a b c = rw (a, b, c) refl
  entering false false false a b c = rw (a, b, c) refl

  pub enters_31 : visits ≡ 8192 → enter_block t block (context_of visits cx) ≡ refused 31 block visits
  unfolding ◌>>=◌ refuse_if
  enters_31 e = entering true _ _ (rw e) refl refl

  module _ (few : visits < 8192) where
    pub enters_10 : is_absent (terminal_at t block) ≡ true → enter_block t block (context_of visits cx) ≡ refused 10 block (visits + 1)
    unfolding ◌>>=◌ refuse_if
    enters_10 e = rw (add-one visits) (entering false true _ (lt-leb 8192 visits few) e refl)

    module _ (there : is_absent (terminal_at t block) ≡ false) where
      pub enters_11 : has cx.emitted block ≡ true → enter_block t block (context_of visits cx) ≡ refused 11 block (visits + 1)
      unfolding ◌>>=◌ refuse_if
      enters_11 e = rw (add-one visits) (entering false false true (lt-leb 8192 visits few) there e)

      pub enters_on : has cx.emitted block ≡ false → enter_block t block (context_of visits cx) ≡ ok (emit block (with_visits (visits + 1) (context_of visits cx)))
      unfolding ◌>>=◌ refuse_if
      enters_on e = rw (add-one visits) (entering false false false (lt-leb 8192 visits few) there e)

-- ---- schedule, unschedule

pub schedule_blocked : {target : ControlFlowTarget} {self r : Context} {reason : Blocked} (visits : ℕ) → Scheduled target self r → r.refused ≡ Some reason
    → schedule (target_of target) (context_of visits self) ≡ refused_by (refused_after (blocked_so reason target) visits)
schedule_blocked {reason = why.ContinueBlock} visits s e = s.context visits ∙ rw (e, ap (λ (c : Context). c.pushed.target) s.state) refl
schedule_blocked {reason = why.Block} visits s e = s.context visits ∙ rw (e, ap (λ (c : Context). c.pushed.target) s.state) refl

pub schedule_on : {target : ControlFlowTarget} {self r : Context} (visits : ℕ) → Scheduled target self r → r.refused ≡ None → 0 < r.len → r.len ≤ length r.stack
    → schedule (target_of target) (context_of visits self) ≡ ok (context_of visits (stored r))
schedule_on {r = r} visits s e h k = s.context visits ∙ ap (λ (o : std.Option Blocked). result_by o visits r) e ∙ ap ok (sym (stores visits r h k))

pub unschedule_empty : (visits id : ℕ) (cx : Context) → cx.len ≡ 0 → unschedule id (context_of visits cx) ≡ refused 91 0 visits
unfolding unschedule unschedule_top context_of stack_of
unschedule_empty visits id cx e = rw e refl

pub unschedule_other : (visits id : ℕ) (cx : Context) (last : Entry) → 0 < cx.len → last ≡ get_or cx.stack (cx.len - 1) no_entry → (last.id ≡ id → ⊥)
    → unschedule id (context_of visits cx) ≡ refused 91 0 visits
unfolding unschedule unschedule_top context_of
unschedule_other visits id cx last h at other =
    ap (λ (stack : List definition.Entry). unschedule_top stack id (context_of visits cx)) (stack_last cx.stack cx.len last h at) ∙ rw (unschedule_top, ne_eqb last.id id other) refl

-- ---- fallthroughs

reach_code : (t : Table) (cx : definition.Context) (f : ℕ) (e : end.Terminal) → terminal_at t f ≡ ending e → (e ≡ end_as.Absent → ⊥) → (e ≡ end_as.Unreachable → ⊥)
    → unless_unreachable t cx f ≡ ok (unless_scheduled cx f)
unfolding unless_unreachable ◌>>=◌ refuse_if
reach_code t cx f end_as.Absent is a u = absurd (a refl)
reach_code t cx f end_as.Unreachable is a u = absurd (u refl)
reach_code t cx f (end_as.Throw _) is a u = rw is refl
reach_code t cx f (end_as.Return _) is a u = rw is refl
reach_code t cx f (end_as.Goto _) is a u = rw is refl
reach_code t cx f (end_as.If _) is a u = rw is refl
reach_code t cx f (end_as.Branch _) is a u = rw is refl
reach_code t cx f (end_as.Switch _) is a u = rw is refl
reach_code t cx f (end_as.DoWhile _) is a u = rw is refl
reach_code t cx f (end_as.While _) is a u = rw is refl
reach_code t cx f (end_as.For _) is a u = rw is refl
reach_code t cx f (end_as.ForOf _) is a u = rw is refl
reach_code t cx f (end_as.ForIn _) is a u = rw is refl
reach_code t cx f (end_as.Logical _) is a u = rw is refl
reach_code t cx f (end_as.Ternary _) is a u = rw is refl
reach_code t cx f (end_as.Optional _) is a u = rw is refl
reach_code t cx f (end_as.Label _) is a u = rw is refl
reach_code t cx f (end_as.Sequence _) is a u = rw is refl
reach_code t cx f (end_as.MaybeThrow _) is a u = rw is refl
reach_code t cx f (end_as.Try _) is a u = rw is refl
reach_code t cx f (end_as.Scope _) is a u = rw is refl
reach_code t cx f (end_as.PrunedScope _) is a u = rw is refl

module _ {ws : List ℕ} (cx : definition.Context) {f : ℕ} where
  pub reach_missing : Ends ws f table.absent → unless_unreachable (table_of ws) cx f ≡ refused 10 f cx.visits
  unfolding unless_unreachable ◌>>=◌ refuse_if
  reach_missing ends = rw ends.is refl

  pub reach_none : Ends ws f table.unreachable → unless_unreachable (table_of ws) cx f ≡ ok none
  unfolding unless_unreachable ◌>>=◌ refuse_if
  reach_none ends = rw ends.is refl

  pub reach_other : (e : end.Terminal) → Ends ws f (ending e) → (e ≡ end_as.Absent → ⊥) → (e ≡ end_as.Unreachable → ⊥)
      → unless_unreachable (table_of ws) cx f ≡ ok (unless_scheduled cx f)
  reach_other e ends a u = reach_code (table_of ws) cx f e ends.is a u
