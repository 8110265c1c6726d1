-- Laws of the walk's answer: its errors are refusals, and what any words give.
use Rattle.std.proofs.Common.{arith}
use Prim.Native.Nat.{ℕ}
use mathlib.Core.Path.{◌≡◌, sym, ap}
use mathlib.Core.List.{List}
use Rattle.table.specs.Check.{Verdict, checked}
use Rattle.table.specs.Check as check
use Rattle.table.specs.Table.{table_of}
use Rattle.table.proofs.RefusalLaws.{refusal_some}
use Rattle.definition.specs.Around.{Rule}
use Rattle.definition.specs.Build.{rejected, report}
use Rattle.values.specs.declared.refusal.Refusal.{Refusal}
use Rattle.values.specs.declared.refusal.Refusal.TheVariants.{MissingBlock, FallthroughReached, EmptyGoto, TestNotEndedByBranch, LabelInValueBlock}
use Rattle.values.specs.declared.refusal.Refusal.TheVariants.{OtherKindInValueBlock, NoInstruction, TooDeep, TooManyVisits, MaybeThrowInValueTerminal}
use Rattle.values.specs.Refusal as values
use Rattle.walk.specs.Refusal.{refusal_code}
use Rattle.walk.specs.declared.refusal.Refusal as walk
use Rattle.walk.specs.declared.refusal.Refusal.TheVariants as kind
use Rattle.walk.specs.Answer.{code_of}
use Rattle.walk.specs.Report.{report_after, words_report}
use Rattle.walk.specs.declared.answer.WalkError.{WalkError}
use Rattle.walk.specs.declared.answer.WalkError.TheVariants.{Table, Walk}

-- no refusal has the code 0
refuses : (r : Refusal) → values.code_of r ≡ 0 → ⊥
refuses (MissingBlock at) e = omega arith
refuses (FallthroughReached at) e = omega arith
refuses (EmptyGoto at) e = omega arith
refuses (TestNotEndedByBranch at) e = omega arith
refuses (LabelInValueBlock at) e = omega arith
refuses (OtherKindInValueBlock at) e = omega arith
refuses (NoInstruction at) e = omega arith
refuses (TooDeep at) e = omega arith
refuses (TooManyVisits at) e = omega arith
refuses (MaybeThrowInValueTerminal at) e = omega arith

numbered : (r : walk.Refusal) → refusal_code r ≡ 0 → ⊥
numbered (kind.MissingBlock at) e = omega arith
numbered (kind.AlreadyEmitted at) e = omega arith
numbered (kind.ConsequentScheduled at) e = omega arith
numbered (kind.AlternateScheduled at) e = omega arith
numbered (kind.CaseScheduled at) e = omega arith
numbered (kind.ContinueBlockScheduled at) e = omega arith
numbered (kind.LoopScheduled at) e = omega arith
numbered (kind.LabelBlockScheduled at) e = omega arith
numbered (kind.ScopeBlockScheduled at) e = omega arith
numbered (kind.BranchAlternateScheduled at) e = omega arith
numbered (kind.NoBreakTarget at) e = omega arith
numbered (kind.NoContinueTarget at) e = omega arith
numbered (kind.ScopeBreak at) e = omega arith
numbered (kind.NoSuchLabel at) e = omega arith
numbered (kind.TooDeep at) e = omega arith
numbered (kind.TooManyVisits at) e = omega arith
numbered (kind.AlreadyScheduled at) e = omega arith
numbered kind.UnscheduleOutOfOrder e = omega arith
numbered (kind.Value r) e = refuses r e

-- an error is a refusal: its code does not say accepted
pub code_some : (error : WalkError) → code_of error ≡ 0 → ⊥
code_some (Table refusal) e = refusal_some refusal e
code_some (Walk refused) e = numbered refused.refusal e

-- what words give that are no table, and words that are one
module _ (rule : Rule) (words : List ℕ) where
  pub refused_words : {code at : ℕ} → check.refused code at ≡ checked words → words_report rule words ≡ rejected code at 0
  unfolding words_report
  refused_words e = ap (λ (v : Verdict). report_after rule v words) (sym e)

  pub table_words : check.accepted ≡ checked words → words_report rule words ≡ report rule (table_of words)
  unfolding words_report
  table_words e = ap (λ (v : Verdict). report_after rule v words) (sym e)
