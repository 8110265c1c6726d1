-- What the definition does at an end that the code's `match` leaves to its last arm: one case for each variant of the code's `Terminal`.
use mathlib.Core.Path.{◌≡◌, refl}
use mathlib.Core.Bool.{false}
use mathlib.Core.Option.{Option, none}
use Prim.Native.Nat.{ℕ}
use Rattle.table.specs.declared.columns.Span.{Span}
use Rattle.table.specs.declared.terminals.Terminal.{Terminal}
use Rattle.table.specs.declared.terminals.Terminal.TheVariants as code
use Rattle.table.specs.declared.terminals.Goto.{Goto}
use Rattle.table.specs.declared.terminals.Branch.{Branch}
use Rattle.table.specs.declared.terminals.Logical.{Logical}
use Rattle.table.specs.declared.terminals.Ternary.{Ternary}
use Rattle.table.specs.declared.terminals.Optional.{Optional}
use Rattle.table.specs.declared.terminals.Label.{Label}
use Rattle.table.specs.declared.terminals.Sequence.{Sequence}
use Rattle.table.specs.declared.terminals.MaybeThrow.{MaybeThrow}
use Rattle.table.specs.Ending.{ending}
use Rattle.table.specs.Table.{Table, Block, is_goto}
use Rattle.definition.specs.Result.{refused}
use Rattle.definition.specs.Value.{VisitValueBlock, visit_value_block_at, visit_value_block_terminal, then_fallthrough, branch_ways}

-- none of the three ends that a value block treats by themselves
pub record OtherEnd (e : Terminal) : Type 0 where
  pub not_goto : (end : Goto) → e ≡ code.Goto end → ⊥
  pub not_branch : (end : Branch) → e ≡ code.Branch end → ⊥
  pub not_maybe_throw : (end : MaybeThrow) → e ≡ code.MaybeThrow end → ⊥

pub other_end : (t : Table) (deeper : VisitValueBlock) (e : Terminal) → OtherEnd e → (number : ℕ) (block : Block) (fallthrough : Option ℕ) (span : Span) (visits : ℕ)
    → visit_value_block_at t deeper (ending e) number block fallthrough span visits
    ≡ then_fallthrough t deeper block span (visit_value_block_terminal t deeper (ending e) block.id block.span visits number)
unfolding visit_value_block_at
other_end t v code.Absent other n k ft s w = refl
other_end t v code.Unreachable other n k ft s w = refl
other_end t v (code.Throw end) other n k ft s w = refl
other_end t v (code.Return end) other n k ft s w = refl
other_end t v (code.Goto end) other n k ft s w = absurd (other.not_goto end refl)
other_end t v (code.If end) other n k ft s w = refl
other_end t v (code.Branch end) other n k ft s w = absurd (other.not_branch end refl)
other_end t v (code.Switch end) other n k ft s w = refl
other_end t v (code.DoWhile end) other n k ft s w = refl
other_end t v (code.While end) other n k ft s w = refl
other_end t v (code.For end) other n k ft s w = refl
other_end t v (code.ForOf end) other n k ft s w = refl
other_end t v (code.ForIn end) other n k ft s w = refl
other_end t v (code.Logical end) other n k ft s w = refl
other_end t v (code.Ternary end) other n k ft s w = refl
other_end t v (code.Optional end) other n k ft s w = refl
other_end t v (code.Label end) other n k ft s w = refl
other_end t v (code.Sequence end) other n k ft s w = refl
other_end t v (code.MaybeThrow end) other n k ft s w = absurd (other.not_maybe_throw end refl)
other_end t v (code.Try end) other n k ft s w = refl
other_end t v (code.Scope end) other n k ft s w = refl
other_end t v (code.PrunedScope end) other n k ft s w = refl

-- no value terminal: nor a Label or a MaybeThrow, which have refusals of their own
pub record NoValue (e : Terminal) : Type 0 where
  pub not_logical : (end : Logical) → e ≡ code.Logical end → ⊥
  pub not_ternary : (end : Ternary) → e ≡ code.Ternary end → ⊥
  pub not_optional : (end : Optional) → e ≡ code.Optional end → ⊥
  pub not_label : (end : Label) → e ≡ code.Label end → ⊥
  pub not_sequence : (end : Sequence) → e ≡ code.Sequence end → ⊥
  pub not_maybe_throw : (end : MaybeThrow) → e ≡ code.MaybeThrow end → ⊥

pub no_value : (t : Table) (deeper : VisitValueBlock) (e : Terminal) → NoValue e → (id : ℕ) (span : Span) (visits at : ℕ)
    → visit_value_block_terminal t deeper (ending e) id span visits at ≡ refused 27 at visits
unfolding visit_value_block_terminal
no_value t v code.Absent not_value i s w a = refl
no_value t v code.Unreachable not_value i s w a = refl
no_value t v (code.Throw end) not_value i s w a = refl
no_value t v (code.Return end) not_value i s w a = refl
no_value t v (code.Goto end) not_value i s w a = refl
no_value t v (code.If end) not_value i s w a = refl
no_value t v (code.Branch end) not_value i s w a = refl
no_value t v (code.Switch end) not_value i s w a = refl
no_value t v (code.DoWhile end) not_value i s w a = refl
no_value t v (code.While end) not_value i s w a = refl
no_value t v (code.For end) not_value i s w a = refl
no_value t v (code.ForOf end) not_value i s w a = refl
no_value t v (code.ForIn end) not_value i s w a = refl
no_value t v (code.Logical end) not_value i s w a = absurd (not_value.not_logical end refl)
no_value t v (code.Ternary end) not_value i s w a = absurd (not_value.not_ternary end refl)
no_value t v (code.Optional end) not_value i s w a = absurd (not_value.not_optional end refl)
no_value t v (code.Label end) not_value i s w a = absurd (not_value.not_label end refl)
no_value t v (code.Sequence end) not_value i s w a = absurd (not_value.not_sequence end refl)
no_value t v (code.MaybeThrow end) not_value i s w a = absurd (not_value.not_maybe_throw end refl)
no_value t v (code.Try end) not_value i s w a = refl
no_value t v (code.Scope end) not_value i s w a = refl
no_value t v (code.PrunedScope end) not_value i s w a = refl

pub no_ways : (e : Terminal) → ((end : Branch) → e ≡ code.Branch end → ⊥) → branch_ways (ending e) ≡ none
no_ways code.Absent f = refl
no_ways code.Unreachable f = refl
no_ways (code.Throw end) f = refl
no_ways (code.Return end) f = refl
no_ways (code.Goto end) f = refl
no_ways (code.If end) f = refl
no_ways (code.Branch end) f = absurd (f end refl)
no_ways (code.Switch end) f = refl
no_ways (code.DoWhile end) f = refl
no_ways (code.While end) f = refl
no_ways (code.For end) f = refl
no_ways (code.ForOf end) f = refl
no_ways (code.ForIn end) f = refl
no_ways (code.Logical end) f = refl
no_ways (code.Ternary end) f = refl
no_ways (code.Optional end) f = refl
no_ways (code.Label end) f = refl
no_ways (code.Sequence end) f = refl
no_ways (code.MaybeThrow end) f = refl
no_ways (code.Try end) f = refl
no_ways (code.Scope end) f = refl
no_ways (code.PrunedScope end) f = refl

pub no_goto : (e : Terminal) → ((end : Goto) → e ≡ code.Goto end → ⊥) → is_goto (ending e) ≡ false
no_goto code.Absent f = refl
no_goto code.Unreachable f = refl
no_goto (code.Throw end) f = refl
no_goto (code.Return end) f = refl
no_goto (code.Goto end) f = absurd (f end refl)
no_goto (code.If end) f = refl
no_goto (code.Branch end) f = refl
no_goto (code.Switch end) f = refl
no_goto (code.DoWhile end) f = refl
no_goto (code.While end) f = refl
no_goto (code.For end) f = refl
no_goto (code.ForOf end) f = refl
no_goto (code.ForIn end) f = refl
no_goto (code.Logical end) f = refl
no_goto (code.Ternary end) f = refl
no_goto (code.Optional end) f = refl
no_goto (code.Label end) f = refl
no_goto (code.Sequence end) f = refl
no_goto (code.MaybeThrow end) f = refl
no_goto (code.Try end) f = refl
no_goto (code.Scope end) f = refl
no_goto (code.PrunedScope end) f = refl
