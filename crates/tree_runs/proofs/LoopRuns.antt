-- Beyond the papers: the runner of M-103 does what the law's tree run does on the trees of plain tables with DoWhile, For and Switch too.
use mathlib.Core.Path.{◌≡◌, sym, ap, ◌∙◌}
use Prim.Native.Nat.{ℕ, ◌*◌}
use mathlib.Core.List.{List}
use mathlib.Core.Logic.{◌⊎◌}
use lib.ListN.{take}
use Rattle.table.specs.Table.{table_of}
use Rattle.definition.specs.Tree.{Statements, rows}
use Rattle.definition.specs.Around.{language}
use Rattle.definition.specs.Build.{built}
use Rattle.definition.specs.Run.{Answers}
use Rattle.definition.specs.Plain.{with_switch}
use Rattle.definition.specs.PlainLoops.{PlainLoops}
use Rattle.definition.specs.RunLaw.{Agree, Spoken, SwitchLaw}
use Rattle.definition.proofs.Readings.{one_reading}
use Rattle.definition.proofs.Law.{loops_and_switches_law, tree_runnable}
use Rattle.tree_grammar.specs.Grammar.{Answer}
use Rattle.tree_grammar.proofs.Words.{words_answer_is}
use Rattle.tree_runs.specs.Ran.{Outcome, ended, ran}
use Rattle.tree_runs.specs.Given.{RunGives, refused, runs}
use Rattle.tree_runs.proofs.OneOutcome.{words_inj}
use Rattle.tree_runs.proofs.SwitchRuns.{RunsAs, runs_as, unless_65, nought_or_65}

module _ (words : List ℕ) (lent lent_index : ℕ) (h : (built language words lent lent_index).code ≡ 0) (pl : PlainLoops with_switch (table_of words)) where
  pub the_law : SwitchLaw words (built language words lent lent_index)
  the_law = loops_and_switches_law words lent lent_index h pl

  pub runner_runs : (answers : Answers) (spoken : Spoken (table_of words) answers) (room : ℕ)
      → RunsAs the_law.one.tree answers room (the_law.agree answers spoken).performed (the_law.agree answers spoken).reason
  runner_runs answers spoken room =
      let a : Agree (table_of words) the_law.one.tree answers = the_law.agree answers spoken in
      runs_as the_law.one.tree the_law.one.held.well_formed (tree_runnable language words lent lent_index tt h pl the_law.one) answers room
      a.performed a.left a.reason a.tree_stops a.good

  pub runner_does : (answers : Answers) (spoken : Spoken (table_of words) answers) (room : ℕ) → ((ran the_law.one.tree answers room).code ≡ 65 → ⊥)
      → ran the_law.one.tree answers room ≡ ended (the_law.agree answers spoken).performed room (the_law.agree answers spoken).reason
  runner_does answers spoken room f = unless_65 (runner_runs answers spoken room) f

  pub never_63_64 : (answers : Answers) → Spoken (table_of words) answers → (room : ℕ)
      → ((ran the_law.one.tree answers room).code ≡ 0) ⊎ ((ran the_law.one.tree answers room).code ≡ 65)
  never_63_64 answers spoken room = nought_or_65 (runner_runs answers spoken room) (the_law.agree answers spoken).good

  pub runner_gives : (answers : Answers) (room at : ℕ) (o : Outcome) → Answer (take ((built language words lent lent_index).rows * 6) (built language words lent lent_index).buffer) 0 at
      → RunGives (take ((built language words lent lent_index).rows * 6) (built language words lent lent_index).buffer) answers room o → o ≡ ran the_law.one.tree answers room
  runner_gives answers room at o q (refused code at' p f) =
      absurd (f ((words_answer_is (take ((built language words lent lent_index).rows * 6) (built language words lent lent_index).buffer) p).0
      ∙ sym (words_answer_is (take ((built language words lent lent_index).rows * 6) (built language words lent lent_index).buffer) q).0))
  runner_gives answers room at o q (runs list w l m r root d) =
      let s : list ≡ rows the_law.one.tree = words_inj list (rows the_law.one.tree) (w ∙ sym the_law.one.held.held) in
      ap (λ (z : Statements). ran z answers room)
      (one_reading list root the_law.one.tree d (record { well_formed = the_law.one.held.well_formed; same_rows = sym s }))
