-- The claims on tables with values, each proved as the contract of a function of src/value_claims.rt.
use Rattle.std.specs.Prelude.{◌≡◌, ℕ, List, true}
use Rattle.table.specs.Table.{Table, table_of}
use Rattle.definition.specs.Around.{Rule, language}
use Rattle.definition.specs.Build.{built}
use Rattle.definition.specs.Reading.{OneTree}
use Rattle.definition.specs.Run.{Answers}
use Rattle.definition.specs.BlockRun.{block_run}
use Rattle.definition.specs.TreeRun.{tree_run}
use Rattle.definition.specs.Plain.{Width, with_switch}
use Rattle.definition.specs.PlainLoops.{PlainLoops, without_switch}
use Rattle.definition.specs.ValueEnds.{seen}
use Rattle.definition.specs.WideRun.{wide_run}
use Rattle.definition.specs.WideTreeRun.{wide_tree_run}
use Rattle.definition.specs.ValueLaw.{WidePlain, LawOfValues, LawOfValuesAndSwitches}
use Rattle.definition.specs.ValueTest.{is_wide}
use Rattle.definition.specs.ValueExamples.{AllRuns, AllAccepted}

-- For every table that a compiler makes without Try, ForOf and ForIn, the runs agree: where every arm of `a && b`, `c ? d : e`, `x?.y` and `(a, b)` ends in its store and a
-- Goto to the fallthrough, an Optional's "no" leaves its whole chain, and the rest is as in a plain table with loops (definition/specs/WideLoops and PlainValue).
abbrev pub WithValues : Type 0
WithValues = LawOfValues × LawOfValuesAndSwitches

-- Plain tables with loops are wide plain tables, whatever their width.
abbrev pub LoopsAreWide : Type 0
LoopsAreWide = (width : Width) (t : Table) → PlainLoops width t → WidePlain width t

-- On them the wide runs are the runs without values, rows and all: what is built of an accepted table
abbrev pub SameRuns : Rule → Width → Type 0
SameRuns rule width =
    (words : List ℕ) (lent lent_index : ℕ) → (built rule words lent lent_index).code ≡ 0 → PlainLoops width (table_of words)
    → (one : OneTree (built rule words lent lent_index)) (answers : Answers)
    → ((steps block : ℕ) → wide_run (table_of words) (seen (table_of words)) steps block answers ≡ block_run (table_of words) steps block answers)
    × (wide_tree_run (seen (table_of words)) one.tree answers ≡ tree_run one.tree answers)

-- On plain tables with loops both runs are those of the laws without values.
abbrev pub LoopsRunAsBefore : Type 0
LoopsRunAsBefore = ((rule : Rule) → SameRuns rule without_switch) × SameRuns language with_switch

-- The Boolean test of the conditions holds exactly of the tables with them.
abbrev pub TheTestOfValuesIsRight : Type 0
TheTestOfValuesIsRight = (width : Width) (t : Table) → ((is_wide t width ≡ true) → WidePlain width t) × (WidePlain width t → is_wide t width ≡ true)

-- Five small tables with values are accepted, and their runs are those written by hand (definition/specs/ValueExamples).
abbrev pub ValuesRunAsTold : Type 0
ValuesRunAsTold = AllRuns × AllAccepted
