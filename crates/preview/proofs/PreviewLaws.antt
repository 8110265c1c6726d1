-- From the walk's report to the preview.
use Rattle.std.specs.Prelude.{Result, Ok, Err}
use native.Mathlib.Omega.{arith}
use Prim.Native.Nat.{ℕ}
use mathlib.Core.Path.{◌≡◌, refl, sym, ap, ◌∙◌}
use mathlib.Core.List.{List, []}
use lib.ListN.{length}
use Rattle.table.specs.Check.{Verdict, checked}
use Rattle.table.specs.Check as check
use Rattle.definition.specs.Around.{Rule}
use Rattle.definition.specs.Build.{Report}
use Rattle.definition.specs.Preview.{preview_of, preview_after, previewed}
use Rattle.values.proofs.StackLaws.{length_pushed}
use Rattle.walk.specs.declared.answer.Walked.{Walked}
use Rattle.walk.specs.declared.answer.WalkError.{WalkError}
use Rattle.walk.specs.Report.{report_after, words_report, Reported}
use Rattle.preview.specs.Entry.{numbers}

-- a preview goes by the report of its words
by_report : (rule : Rule) (words : List ℕ) {report : Report} → words_report rule words ≡ report → preview_of report ≡ previewed rule words
unfolding words_report previewed preview_of preview_after
by_report rule words e = ap preview_of (sym e) ∙ by (checked words)
  where
    by : (v : Verdict) → preview_of (report_after rule v words) ≡ preview_after rule v words
    by (check.refused code at) = refl
    by check.accepted = refl

pub reported_previewed : (rule : Rule) (words tree index : List ℕ) (answer : Result Walked WalkError) → Reported (words_report rule words) answer tree index → numbers answer ≡ previewed rule words
unfolding preview_of
reported_previewed rule words tree index (Ok walked) a =
    let n : length a.rows ≡ walked.rows = omega (arith, length_pushed a.rows [], a.held.count) in
    rw (← n, ← a.indexed.count) refl ∙ by_report rule words a.is
reported_previewed rule words tree index (Err error) e = by_report rule words e
