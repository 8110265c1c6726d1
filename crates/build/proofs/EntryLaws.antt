-- From the walk's report to the outcome: paper 01, "Result and refusals".
use Rattle.std.specs.Prelude.{Ok, Err}
use Prim.Native.Nat.{ℕ, ◌*◌, ◌-◌, ◌/◌, ◌≤◌, ◌<◌}
use native.Mathlib.Omega.{arith}
use mathlib.Core.Path.{◌≡◌, refl, sym, ap, ◌∙◌, subst}
use mathlib.Core.Bool.{true}
use mathlib.Core.List.{List, []}
use lib.Dec.{leb}
use lib.ListN.{length, take}
use borrow.Author.Tests.{le-leb, lt-leb}
use Rattle.table.specs.Check.{Verdict, checked}
use Rattle.table.specs.Check as check
use Rattle.definition.specs.Around.{Rule}
use Rattle.definition.specs.Build.{Report, rejected, refusal, words_of, outcome_of, after_check, built}
use Rattle.definition.specs.Build as definition
use Rattle.definition.specs.Index.{line_words}
use Rattle.definition.proofs.Accepted.{placed_fits, placed_40, placed_41}
use Rattle.definition.proofs.Outcomes.{acceptance, accepted_fits}
use Rattle.values.proofs.RowLaws.{words_held}
use Rattle.values.proofs.StackLaws.{length_pushed}
use Rattle.walk.proofs.AnswerLaws.{code_some as walk_some}
use Rattle.walk.specs.Report.{report_after, words_report, Accepted}
use Rattle.walk.specs.declared.answer.Walked.{Walked}
use Rattle.walk.specs.declared.answer.WalkError.{WalkError}
use Rattle.walk.specs.Answer as walk
use Rattle.build.specs.declared.answer.BuildError.{BuildError}
use Rattle.build.specs.declared.answer.BuildError.TheVariants.{Walk, NoRoomForRows, NoRoomForLines}
use Rattle.build.specs.Entry.{code_of, outcome, kept, outcome_cleared}

-- an error is a refusal: its code does not say accepted
pub code_some : (error : BuildError) → code_of error ≡ 0 → ⊥
code_some (Walk error) e = walk_some error e
code_some (NoRoomForRows rows visits) e = omega (arith, e)
code_some (NoRoomForLines visits) e = omega (arith, e)

-- what is accepted stands within the lent words
pub accepted_within : (rule : Rule) (words : List ℕ) (lent lent_index : ℕ) (o : definition.Outcome) → o ≡ built rule words lent lent_index → o.code ≡ 0
    → (o.rows * 6 ≤ lent) × (o.lines * 3 ≤ lent_index)
accepted_within rule words lent lent_index o e =
    subst (λ (o : definition.Outcome). o.code ≡ 0 → (o.rows * 6 ≤ lent) × (o.lines * 3 ≤ lent_index)) (sym e) (accepted_fits rule words lent lent_index)

-- ---- before the buffers are cleared

module _ (rule : Rule) (words buffer index : List ℕ) {lent lent_index : ℕ} (l : length buffer ≡ lent) (k : length index ≡ lent_index) where
  -- a build goes by the report of its words
  by_report : {report : Report} → words_report rule words ≡ report → outcome_of (length buffer) (length index) report ≡ built rule words lent lent_index
  unfolding words_report built outcome_of after_check
  by_report e = ap (outcome_of (length buffer) (length index)) (sym e) ∙ by (checked words) ∙ rw (l, k) refl
    where
      by : (v : Verdict) → outcome_of (length buffer) (length index) (report_after rule v words) ≡ after_check rule (length buffer) (length index) v words
      by (check.refused code at) = refl
      by check.accepted = refl

  -- a walk that was refused
  pub refused_walk : (error : WalkError) → words_report rule words ≡ rejected (walk.code_of error) (walk.place_of error) (walk.visits_of error)
      → outcome_cleared (Err (Walk error)) buffer index ≡ built rule words lent lent_index
  unfolding outcome_of
  refused_walk error e = by_report e

  module _ (walked : Walked) (a : Accepted (words_report rule words) walked buffer index) where
    row_count : length a.rows ≡ walked.rows
    row_count = omega (arith, length_pushed a.rows [], a.held.count)

    -- too many rows
    pub overfull : length buffer / 6 < walked.rows → outcome_cleared (Err (NoRoomForRows walked.rows walked.visits)) buffer index ≡ built rule words lent lent_index
    unfolding outcome_of
    overfull m =
        rw (← row_count) (sym (placed_40 (length buffer) (length index) a.rows a.lines walked.visits (lt-leb (length a.rows) (length buffer / 6) (omega (arith, row_count, m)))))
        ∙ by_report a.is

    module _ (fits : walked.rows ≤ length buffer / 6) where
      within : leb (length a.rows) (length buffer / 6) ≡ true
      within = le-leb (length a.rows) (length buffer / 6) (omega (arith, row_count, fits))

      -- else too many lines
      pub overlined : length index / 3 < walked.lines → outcome_cleared (Err (NoRoomForLines walked.visits)) buffer index ≡ built rule words lent lent_index
      unfolding outcome_of
      overlined m =
          sym (placed_41 (length buffer) (length index) a.rows a.lines walked.visits within (lt-leb (length a.lines) (length index / 3) (omega (arith, a.indexed.count, m))))
          ∙ by_report a.is

      -- the rows and the lines, then zeros
      pub fitting : walked.lines ≤ length index / 3 → outcome_cleared (Ok walked) buffer index ≡ built rule words lent lent_index
      unfolding outcome_of
      fitting m =
          let w : take (walked.rows * 6) buffer ≡ words_of a.rows = words_held buffer walked.rows a.rows a.held (omega arith) in
          let v : take (walked.lines * 3) index ≡ line_words a.lines = a.indexed.words m in
          let same : outcome_cleared (Ok walked) buffer index ≡ acceptance (length buffer) (length index) a.rows a.lines walked.visits = rw (row_count, a.indexed.count, w, v) refl in
          same
          ∙ sym (placed_fits (length buffer) (length index) a.rows a.lines walked.visits within (le-leb (length a.lines) (length index / 3) (omega (arith, a.indexed.count, m))))
          ∙ by_report a.is

-- ---- where they are cleared: zeros in both buffers

pub refused_cleared : (error : BuildError) (buffer index buffer' index' : List ℕ) → buffer' ≡ kept 0 buffer → index' ≡ kept 0 index
    → outcome (Err error) buffer' index' ≡ outcome_cleared (Err error) buffer index
unfolding refusal
refused_cleared error buffer index buffer' index' e f =
    let z : length buffer - 0 ≡ length buffer = omega arith in
    let y : length index - 0 ≡ length index = omega arith in
    rw (e, f, z, y) refl
