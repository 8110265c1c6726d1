-- What is proved: each claim in a sentence, and its statement, which is the contract of the function of its name in src/lib.rt. First
-- what a call of the build gives, then how its tree runs, then the laws of the features. `built` is the definition
-- (definition/specs/Build).
use Rattle.std.specs.Prelude.{◌≡◌, ℕ, ◌/◌, ◌≤◌, List, map, length, Result}
use Rattle.table.specs.Check.{accepted, checked}
use Rattle.table.specs.Table.{Table, table_of}
use Rattle.table.specs.Words.{block_count}
use Rattle.definition.specs.Around.{Rule, rust, language}
use Rattle.definition.specs.Build.{Outcome, report, rejected, built}
use Rattle.definition.specs.Context.{ControlFlowTarget}
use Rattle.definition.specs.Plain.{with_switch, Plain}
use Rattle.definition.specs.PlainLoops.{PlainLoops, without_switch}
use Rattle.definition.specs.Preview.{previewed, numbers_of}
use Rattle.definition.specs.Reading.{ReadAs, TreeOf, OneTree}
use Rattle.definition.specs.Result.{already_scheduled, unschedule_out_of_order, maybe_throw_in_value_terminal}
use Rattle.definition.specs.Run.{Answers, IsGood}
use Rattle.definition.specs.RunLaw.{Agree, RunLaw, Spoken, SwitchLaw}
use Rattle.definition.specs.Samples.{Sample, samples, built_for}
use Rattle.definition.specs.Statement.{build_tree}
use Rattle.definition.specs.Tree.{Statements, Row}
use Rattle.definition.specs.Watched.{at_most_entries, at_most_deep, watched}
use Rattle.tree_grammar.specs.Grammar.{Answer}
use Rattle.convert.specs.Convert.{old_to_new, new_to_old, text_of_answer, wholly}
use Rattle.renaming.specs.Renaming.{Renaming, renamed, renamed_outcome}
use Rattle.walk.specs.declared.answer.Walked.{Walked}
use Rattle.build.specs.declared.answer.BuildError.{BuildError}
use Rattle.build.specs.Entry.{outcome}
use Rattle.theorems.specs.Answered.{Answered}
use Rattle.theorems.specs.Bounds.{AnArmAddsOneEntry}
use Rattle.theorems.specs.Messages.{IsKnown}
use Rattle.theorems.specs.Indexed.{OneLineEach, InOrder, FindsLabelled}
use Rattle.theorems.specs.LabelsThere.{LabelsThere}
use Rattle.theorems.specs.Parted.{Parted}
use Rattle.theorems.specs.Rearranged.{InWalkingOrder}
use Rattle.theorems.specs.Runner.{tree_words, RunsAsBlocks}
use Rattle.theorems.specs.Shown.{Shows}

-- ---- a call of the build, by either rule: it lends `tree` and `index`, and finds tree' and index' there after it

-- Every call answers: with any words and buffers of any lengths it ends, with a number of the rules; with the rows of a tree and its
-- lines, then zeros, where it accepts, and else with zeros alone.
abbrev pub EveryCallAnswers : (tree index : List ℕ) → Result Walked BuildError → (tree' index' : List ℕ) → Type 0
EveryCallAnswers tree index answer tree' index' = Answered (length tree) (length index) (outcome answer tree' index')

-- Every answer is the definition's: the Ok or the error, each of its numbers, and every word of both buffers.
abbrev pub EveryAnswerIsTheDefinitions : Rule → (words tree index : List ℕ) → Result Walked BuildError → (tree' index' : List ℕ) → Type 0
EveryAnswerIsTheDefinitions rule words tree index answer tree' index' =
    Shows (built rule words (length tree) (length index)) answer tree' index'

-- ---- what holds of every accepted build

abbrev pub AcceptedBy : Rule → (List ℕ → Outcome → Type 0) → Type 0
AcceptedBy rule P =
    (words : List ℕ) (lent lent_index : ℕ) → (built rule words lent lent_index).code ≡ 0 → P words (built rule words lent lent_index)

-- The tree runs as the blocks do: on a plain table, over every list of answers, both runs stop, take the same answers, perform the same
-- instruction rows in the same order and stop for the same reason.
abbrev pub TheTreeRunsAsTheBlocks : Type 0
TheTreeRunsAsTheBlocks = (rule : Rule) → AcceptedBy rule (λ words given. Plain without_switch (table_of words) → RunLaw words given)

-- The same with Switch by the language's rule, over every list whose answers name existing cases.
abbrev pub WithSwitches : Type 0
WithSwitches = AcceptedBy language (λ words given. Plain with_switch (table_of words) → SwitchLaw words given)

-- The same with DoWhile and For, with Switch as a compiler makes it, and with ends that are not reached.
abbrev pub WithLoopsAndSwitches : Type 0
WithLoopsAndSwitches =
    ((rule : Rule) → AcceptedBy rule (λ words given. PlainLoops without_switch (table_of words) → RunLaw words given))
    × AcceptedBy language (λ words given. PlainLoops with_switch (table_of words) → SwitchLaw words given)

-- Neither ever stops otherwise: runs that agree stop for a return, for a throw, or because no answer is left.
abbrev pub NeitherEverStopsOtherwise : Type 0
NeitherEverStopsOtherwise = (t : Table) (root : Statements) (answers : Answers) (both : Agree t root answers) → IsGood both.reason

-- Accepted rows are read as one tree, and as no other.
abbrev pub WhatIsBuiltIsOneTree : Type 0
WhatIsBuiltIsOneTree = (rule : Rule) → AcceptedBy rule (λ words given. OneTree given)

-- Any list of rows is read as one tree at most.
abbrev pub RowsHaveOneReading : Type 0
RowsHaveOneReading = (list : List Row) (root root' : Statements) → ReadAs list root → ReadAs list root' → root ≡ root'

-- What is built, of at most 2,048 rows, passes the row check.
abbrev pub WhatIsBuiltPassesTheCheck : Type 0
WhatIsBuiltPassesTheCheck = (rule : Rule) → AcceptedBy rule (λ words given. given.rows ≤ 2048 → Answer (tree_words given) 0 0)

-- No two lines of the index have the same label, and they stand in the order of closing rows.
abbrev pub NoLabelStandsTwice : Type 0
NoLabelStandsTwice = (rule : Rule) → AcceptedBy rule (λ words given. OneLineEach given × InOrder given)

-- A lookup of a statement's label gives just that statement's rows.
abbrev pub ALookupFindsTheStatement : Type 0
ALookupFindsTheStatement =
    (rule : Rule) → AcceptedBy rule (λ words given. (root : Statements) → TreeOf given root → FindsLabelled given root)

-- A jump's number counts the loops that it leaves; by the language's rule each Labeled jump stands in a statement with its label, a
-- continue in its own loop.
abbrev pub TheLabelsAreThere : Type 0
TheLabelsAreThere = (rule : Rule) → AcceptedBy rule (λ words given. LabelsThere rule given)

-- ---- the laws of the other features

-- The two entries differ only so: they refuse alike, or the language entry gives 29, or its tree is the first's with some breaks Labeled;
-- the first never gives 29.
abbrev pub TheEntriesDifferOnlySo : Type 0
TheEntriesDifferOnlySo =
    (words : List ℕ) (lent lent_index : ℕ)
    → Parted lent lent_index (built rust words lent lent_index) (built language words lent lent_index)
    × ((built rust words lent lent_index).code ≡ 29 → ⊥)

-- A preview gives the five numbers of a build with room for its rows and lines, and is never 40 or 41.
abbrev pub APreviewIsTheBuilds : Type 0
APreviewIsTheBuilds =
    (rule : Rule) (words : List ℕ) (lent lent_index : ℕ)
    → ((previewed rule words).rows ≤ lent / 6 → (previewed rule words).lines ≤ lent_index / 3
    → numbers_of (built rule words lent lent_index) ≡ previewed rule words)
    × ((previewed rule words).code ≤ 31)

-- A table with its blocks renumbered builds the same with its blocks renumbered.
abbrev pub AnyRenumberingBuildsTheSame : Type 0
AnyRenumberingBuildsTheSame =
    (words : List ℕ) → checked words ≡ accepted → (new old : ℕ → ℕ) → Renaming (block_count words) new old
    → (rule : Rule) (lent lent_index : ℕ)
    → built rule (renamed new old words) lent lent_index ≡ renamed_outcome new (built rule words lent lent_index)

-- A table in walking order is a renumbering, from which the first table can be restored.
abbrev pub TheWalkingOrderCanBeUndone : Type 0
TheWalkingOrderCanBeUndone = (words : List ℕ) → checked words ≡ accepted → InWalkingOrder words

-- A text of the old form, converted to the new form and back, is the same text; and so is one of the new form, to the old form and back.
abbrev pub TextsComeBack : Type 0
TextsComeBack =
    ((file : List ℕ) (lent lent' : ℕ) → (old_to_new file lent).code ≡ 0 → (old_to_new file lent).length ≤ 32768 → length file ≤ lent'
    → new_to_old (text_of_answer (old_to_new file lent)) lent' ≡ wholly lent' file)
    × ((file : List ℕ) (lent lent' : ℕ) → (new_to_old file lent).code ≡ 0 → length file ≤ lent'
    → old_to_new (text_of_answer (new_to_old file lent)) lent' ≡ wholly lent' file)

-- The runner gives the rows that the blocks perform and the reason for which they stop, where the lent buffer takes them.
abbrev pub TheRunnerDoesWhatTheRunsDo : Type 0
TheRunnerDoesWhatTheRunsDo =
    AcceptedBy language (λ words given. PlainLoops with_switch (table_of words) → given.rows ≤ 2048
    → (answers : Answers) → Spoken (table_of words) answers → RunsAsBlocks (table_of words) (tree_words given) answers)

-- No build makes more than 8,192 visits.
abbrev pub VisitsAreAtMost8192 : Type 0
VisitsAreAtMost8192 = (rule : Rule) (words : List ℕ) (lent lent_index : ℕ) → (built rule words lent lent_index).visits ≤ 8192

-- The control stack holds at most 1,152 entries: a build that is refused where a block's walk begins or ends with more than 1,151 is the
-- definition's, and between two of those points an arm adds one at most.
abbrev pub TheStackHoldsAtMost1152Entries : Type 0
TheStackHoldsAtMost1152Entries =
    ((rule : Rule) (words : List ℕ) → checked words ≡ accepted
    → watched (at_most_entries 1151) rule (table_of words) ≡ build_tree rule (table_of words))
    × AnArmAddsOneEntry

-- The depth is at most 128: a build that is refused where a block has more than 127 statements around it is the definition's.
abbrev pub TheDepthIsAtMost128 : Type 0
TheDepthIsAtMost128 =
    (rule : Rule) (words : List ℕ) → checked words ≡ accepted
    → watched (at_most_deep 128) rule (table_of words) ≡ build_tree rule (table_of words)

-- Four messages of the Rust never occur: no build comes to three of them, and the fourth has no target to name.
abbrev pub FourMessagesNeverOccur : Type 0
FourMessagesNeverOccur =
    ((rule : Rule) (t : Table) (at visits : ℕ)
    → (report rule t ≡ rejected already_scheduled at visits → ⊥) × (report rule t ≡ rejected unschedule_out_of_order at visits → ⊥)
    × (report rule t ≡ rejected maybe_throw_in_value_terminal at visits → ⊥))
    × ((target : ControlFlowTarget) → IsKnown target)

-- The samples of the rules come out as the rules say, by either rule.
abbrev pub TheSamplesComeOut : Type 0
TheSamplesComeOut = (rule : Rule) → map (built_for rule) samples ≡ map (λ (sample : Sample). sample.outcome) samples
