-- The runner over the rows of a tree does what the block run does: from the law with loops and switches (tree_runs/proofs/LoopRuns).
use mathlib.Core.Path.{◌≡◌, refl, ap, ◌∙◌}
use Prim.Native.Nat.{ℕ, ◌≤◌}
use mathlib.Core.List.{List}
use Rattle.table.specs.Table.{table_of}
use Rattle.definition.specs.Around.{language}
use Rattle.definition.specs.Build.{built}
use Rattle.definition.specs.Plain.{with_switch}
use Rattle.definition.specs.PlainLoops.{PlainLoops}
use Rattle.definition.specs.Run.{Answers}
use Rattle.definition.specs.RunLaw.{Agree, Spoken, SwitchLaw}
use Rattle.definition.proofs.Reasons.{good_reason}
use Rattle.tree_grammar.specs.Grammar.{Answer}
use Rattle.tree_grammar.proofs.BuiltReads.{built_answered}
use Rattle.tree_runs.specs.Given.{run_of}
use Rattle.tree_runs.specs.Ran.{Outcome, ran}
use Rattle.tree_runs.proofs.OneOutcome.{is_given}
use Rattle.tree_runs.proofs.SwitchRuns.{RunsAs}
use Rattle.tree_runs.proofs.LoopRuns.{the_law, runner_runs, runner_gives}
use Rattle.theorems.specs.Runner.{tree_words, RunsAsBlocks}

pub runs_as_blocks : (words : List ℕ) (lent lent_index : ℕ) → (built language words lent lent_index).code ≡ 0
    → PlainLoops with_switch (table_of words) → (built language words lent lent_index).rows ≤ 2048
    → (answers : Answers) → Spoken (table_of words) answers
    → RunsAsBlocks (table_of words) (tree_words (built language words lent lent_index)) answers
runs_as_blocks words lent lent_index h plain few answers spoken =
    let tree : List ℕ = tree_words (built language words lent lent_index) in
    let law : SwitchLaw words (built language words lent lent_index) = the_law words lent lent_index h plain in
    let both : Agree (table_of words) law.one.tree answers = law.agree answers spoken in
    let runs : (room : ℕ) → RunsAs law.one.tree answers room both.performed both.reason =
    runner_runs words lent lent_index h plain answers spoken in
    let check : Answer tree 0 0 = built_answered language words lent lent_index h few in
    let given : (room : ℕ) → run_of tree answers room ≡ ran law.one.tree answers room =
    λ room. runner_gives words lent lent_index h plain answers room 0 (run_of tree answers room) check
    (is_given tree answers room refl) in
    record {
      performed = both.performed;
      left = both.left;
      reason = both.reason;
      steps = both.steps;
      block_stops = both.block_stops;
      good = good_reason both.reason both.good;
      fits = λ room l. given room ∙ (runs room).fits l;
      short = λ room l. ap (λ (o : Outcome). o.code) (given room) ∙ (runs room).short l;
    }
