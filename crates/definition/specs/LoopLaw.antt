-- Beyond the papers, the claims: the run law of plain tables with DoWhile and For, and with Switch as a compiler makes it. proofs/Law proves both.
use Rattle.std.specs.Prelude.{◌≡◌, ℕ, List}
use Rattle.table.specs.Table.{table_of}
use Rattle.definition.specs.Around.{Rule, language}
use Rattle.definition.specs.Build.{built}
use Rattle.definition.specs.Plain.{with_switch}
use Rattle.definition.specs.PlainLoops.{PlainLoops, without_switch}
use Rattle.definition.specs.RunLaw.{RunLaw, SwitchLaw}

-- in both entries without Switch, and with it in the language entry
abbrev pub LawOfLoops : Type 0
LawOfLoops =
    (rule : Rule) (words : List ℕ) (lent lent_index : ℕ) → (built rule words lent lent_index).code ≡ 0 → PlainLoops without_switch (table_of words)
    → RunLaw words (built rule words lent lent_index)

abbrev pub LawOfLoopsAndSwitches : Type 0
LawOfLoopsAndSwitches =
    (words : List ℕ) (lent lent_index : ℕ) → (built language words lent lent_index).code ≡ 0 → PlainLoops with_switch (table_of words)
    → SwitchLaw words (built language words lent lent_index)
