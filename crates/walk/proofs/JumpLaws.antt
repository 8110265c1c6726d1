-- The search of the stack, an entry at a time.
use mathlib.Core.Path.{◌≡◌, refl, sym, ap, subst, ◌∙◌}
use Rattle.definition.proofs.Steps.{Good}
use mathlib.Core.Bool.{true, false}
use mathlib.Core.Option.{Option, none, some}
use Prim.Native.Nat.{ℕ, ◌+◌, ◌-◌, ◌≤◌}
use native.Mathlib.Omega.{arith}
use lib.Dec.{eqb}
use borrow.Author.Tests.{eq-eqb, ne_eqb}
use Rattle.definition.specs.Context.{target_block, loops_of, continues_at, break_target_from, continue_target_from, get_break_target, get_continue_target}
use Rattle.definition.proofs.Lines.{Unlined, UnlinedStep, break_unlined, continue_unlined}
use Rattle.definition.specs.Around.{Around, break_kind_in, break_unnamed, continue_unnamed}
use Rattle.definition.specs.Context as definition
use Rattle.definition.specs.Context.{has, Resolution}
use Rattle.definition.specs.Result.{Result, ok, refused, ◌>>=◌, refuse_if}
use Rattle.definition.specs.Statement.{visit_break, break_resolved, break_to_scope, visit_continue, continue_resolved}
use Rattle.definition.specs.Tree.{BREAK, CONTINUE, Statement}
use Rattle.control.specs.declared.Context.{Context}
use Rattle.control.specs.Abstraction.{stack_of, context_of, kind_of}
use Rattle.control.specs.declared.ReactiveTerminalTargetKind as code
use Rattle.control.specs.declared.ReactiveTerminalTargetKind.TheVariants as kind
use Rattle.control.specs.Contract.{break_to, continue_to}
use Rattle.control.proofs.SearchLaws.{last_target, break_none, break_found, break_missed, continue_none, continue_found, continue_missed}

-- the first so many entries give what all give
pub record Breaking (cx : Context) (block at above : ℕ) : Type 0 where
  pub within : above + at ≤ cx.len
  pub rest : break_target_from (stack_of cx.stack cx.len) block true 0 ≡ break_target_from (stack_of cx.stack at) block (eqb at cx.len) above

pub record Continuing (cx : Context) (block at above : ℕ) : Type 0 where
  pub within : above + at ≤ cx.len
  pub rest : continue_target_from (stack_of cx.stack cx.len) block true 0 ≡ continue_target_from (stack_of cx.stack at) block (eqb at cx.len) above

module _ (cx : Context) (block : ℕ) where
  pub break_start : Breaking cx block cx.len 0
  break_start = record { within = omega arith; rest = rw (eq-eqb cx.len cx.len refl) refl }

  pub continue_start : Continuing cx block cx.len 0
  continue_start = record { within = omega arith; rest = rw (eq-eqb cx.len cx.len refl) refl }

  module _ (at above : ℕ) where
    below_top : above + at ≤ cx.len → (at ≡ 0 → ⊥) → eqb (at - 1) cx.len ≡ false
    below_top h f = ne_eqb (at - 1) cx.len (λ (q : at - 1 ≡ cx.len). omega (arith, h, f, q))

    pub break_on : {counted : ℕ} → Breaking cx block at above → (at ≡ 0 → ⊥) → (target_block (last_target cx.stack at) ≡ block → ⊥)
        → (counted ≡ loops_of (last_target cx.stack at) + above) × (counted ≤ above + 1) → Breaking cx block (at - 1) counted
    break_on h f m (e, one) = record { within = omega (arith, h.within, one); rest = h.rest ∙ rw (e, below_top h.within f) (break_missed _ _ _ _ _ f m) }

    pub continue_on : {counted : ℕ} → Continuing cx block at above → (at ≡ 0 → ⊥) → continues_at (last_target cx.stack at) block ≡ false
        → (counted ≡ loops_of (last_target cx.stack at) + above) × (counted ≤ above + 1) → Continuing cx block (at - 1) counted
    continue_on h f m (e, one) = record { within = omega (arith, h.within, one); rest = h.rest ∙ rw (e, below_top h.within f) (continue_missed _ _ _ _ _ f m) }

    pub break_nowhere : Breaking cx block at above → at ≡ 0 → (visits : ℕ) → none ≡ get_break_target (context_of visits cx) block
    unfolding get_break_target context_of
    break_nowhere h e visits = sym (h.rest ∙ break_none _ _ _ _ _ e)

    pub continue_nowhere : Continuing cx block at above → at ≡ 0 → (visits : ℕ) → none ≡ get_continue_target (context_of visits cx) block
    unfolding get_continue_target context_of
    continue_nowhere h e visits = sym (h.rest ∙ continue_none _ _ _ _ _ e)

    pub break_here : Breaking cx block at above → (at ≡ 0 → ⊥) → target_block (last_target cx.stack at) ≡ block → (visits : ℕ)
        → some (break_to (last_target cx.stack at) (eqb at cx.len) above) ≡ get_break_target (context_of visits cx) block
    unfolding get_break_target context_of
    break_here h f m visits = sym (h.rest ∙ break_found _ _ _ _ _ f m)

    pub continue_here : Continuing cx block at above → (at ≡ 0 → ⊥) → continues_at (last_target cx.stack at) block ≡ true → (visits : ℕ)
        → some (continue_to (last_target cx.stack at) (eqb at cx.len) above) ≡ get_continue_target (context_of visits cx) block
    unfolding get_continue_target context_of
    continue_here h f m visits = sym (h.rest ∙ continue_found _ _ _ _ _ f m)

-- ---- a jump, by what the search found

module _ (around : Around) (at block id : ℕ) (cx : definition.Context) where
  leap : (found : Option Resolution) → found ≡ get_break_target cx block → visit_break around at block id cx ≡ break_resolved around at block id cx found
  unfolding visit_break
  leap found e = ap (break_resolved around at block id cx) (sym e)

  pub leaps_nowhere : none ≡ get_break_target cx block → visit_break around at block id cx ≡ refused 20 block cx.visits
  unfolding break_resolved
  leaps_nowhere e = leap none e

  pub resumes_nowhere : none ≡ get_continue_target cx block → visit_continue around at block id cx ≡ refused 21 block cx.visits
  unfolding visit_continue continue_resolved
  resumes_nowhere e = ap (continue_resolved around at block id cx) (sym e)

  module _ {found : Resolution} where
    module _ (e : some found ≡ get_break_target cx block) where
      pub leaps_scope : has cx.scope_fallthroughs found.target ≡ true → visit_break around at block id cx ≡ break_to_scope found.kind at cx.visits
      unfolding break_resolved
      leaps_scope s = leap (some found) e ∙ rw (break_resolved, s) refl

      pub leaps_unnamed : has cx.scope_fallthroughs found.target ≡ false → break_unnamed around found ≡ true → visit_break around at block id cx ≡ refused 29 at cx.visits
      unfolding break_resolved ◌>>=◌ refuse_if
      leaps_unnamed s u = leap (some found) e ∙ rw (break_resolved, s, u) refl

      pub leaps_named : has cx.scope_fallthroughs found.target ≡ false → break_unnamed around found ≡ false
          → visit_break around at block id cx ≡ ok (some (BREAK found.target id (break_kind_in around found.kind) found.loops))
      unfolding break_resolved ◌>>=◌ refuse_if
      leaps_named s u = leap (some found) e ∙ rw (break_resolved, s, u) refl

    module _ (e : some found ≡ get_continue_target cx block) where
      pub resumes_unnamed : continue_unnamed around found ≡ true → visit_continue around at block id cx ≡ refused 29 at cx.visits
      unfolding visit_continue continue_resolved ◌>>=◌ refuse_if
      resumes_unnamed u = ap (continue_resolved around at block id cx) (sym e) ∙ rw u refl

      pub resumes_named : continue_unnamed around found ≡ false → visit_continue around at block id cx ≡ ok (CONTINUE found.target id found.kind found.loops)
      unfolding visit_continue continue_resolved ◌>>=◌ refuse_if
      resumes_named u = ap (continue_resolved around at block id cx) (sym e) ∙ rw u refl

pub scope_implicit : (k : code.ReactiveTerminalTargetKind) (at visits : ℕ) → k ≡ kind.Implicit → break_to_scope (kind_of k) at visits ≡ ok none
unfolding break_to_scope
scope_implicit k at visits e = rw e refl

pub scope_refused : (k : code.ReactiveTerminalTargetKind) (at visits : ℕ) → (k ≡ kind.Implicit → ⊥) → break_to_scope (kind_of k) at visits ≡ refused 22 at visits
unfolding break_to_scope
scope_refused kind.Implicit at visits f = absurd (f refl)
scope_refused kind.Labeled at visits f = refl
scope_refused kind.Unlabeled at visits f = refl

-- a jump's statement has no line

pub break_unlined_by : (around : Around) (at block id : ℕ) (cx : definition.Context) (o : Option Statement) → visit_break around at block id cx ≡ ok o → UnlinedStep o
break_unlined_by around at block id cx o e = subst (λ (r : Result (Option Statement)). Good UnlinedStep r) e (break_unlined around at block id cx)

pub continue_unlined_by : (around : Around) (at block id : ℕ) (cx : definition.Context) (s : Statement) → visit_continue around at block id cx ≡ ok s → Unlined s
continue_unlined_by around at block id cx s e = subst (λ (r : Result Statement). Good Unlined r) e (continue_unlined around at block id cx)
