-- Theorems beside the claims (specs/Claims): statements only, each by the lemma that proves it. First that each entry meets its contract,
-- asks nothing and tells its caller what the definition gives; then what the laws rest on.
use Prim.Native.Nat.{ℕ, suc, ◌+◌, ◌*◌, ◌≤◌, ◌<◌}
use mathlib.Core.Path.{◌≡◌, refl, sym, subst}
use mathlib.Core.List.{List, [], map}
use mathlib.Core.Logic.{◌⊎◌}
use mathlib.Core.Option.{some}
use lib.ListN.{length, take}
use lib.Dec.{T, eqb}
use contract.Lifetimes.{Lfts}
use denote.Ref.{Bor, MutBor}
use Rattle.std.specs.Prelude.{Result, Ok, Err, IfOk, OnOk, is_ok}
use Rattle.table.specs.Check.{checked, accepted}
use Rattle.table.specs.Table.{Table, Block, Terminal, table_of}
use Rattle.table.specs.Answer as table
use Rattle.table.specs.declared.Refusal.{Refusal}
use Rattle.table.specs.declared.checked.Table.{Table as CheckedTable}
use Rattle.table.proofs.Refusal.code.Statement as code_stated
use Rattle.table.proofs.Refusal.code.Met as code_proved
use Rattle.table.proofs.Refusal.code.Reads as code_method
use Rattle.table.proofs.Refusal.place.Statement as place_stated
use Rattle.table.proofs.Refusal.place.Met as place_proved
use Rattle.table.proofs.Refusal.place.Reads as place_method
use Rattle.table_check.proofs.check.Statement as check_stated
use Rattle.table_check.proofs.check.Met as check_proved
use Rattle.table_check.proofs.check.Reads as check_entry
use Rattle.table_check.proofs.table_check.Statement as check_export_stated
use Rattle.table_check.proofs.table_check.Met as check_export_proved
use Rattle.table_check.proofs.table_check.Reads as check_export
use Rattle.definition.specs.Around.{Rule, rust, language, Around, is_switch_inside, kind_by}
use Rattle.definition.specs.Relabeled.{relabeled}
use Rattle.definition.specs.Result.{ok, already_scheduled, unschedule_out_of_order, maybe_throw_in_value_terminal}
use Rattle.definition.specs.Tree.{Value, unlabeled, WHILE, BREAK, Statements, done, ◌▸◌, rows}
use Rattle.definition.specs.Context.{ControlFlowTarget, target_if, target_switch, target_case, target_loop, target_block, continues_at, Context, Resolution, get_break_target, get_continue_target}
use Rattle.definition.specs.Value.{most_visits, VisitValueBlock, visit_value_block}
use Rattle.definition.specs.Statement.{BlockResult, TerminalResult, TraverseInside, visit_terminal, visit_block, traverse_block, build_tree}
use Rattle.definition.specs.Watched.{at_most_entries, at_most_deep, watch, watched}
use Rattle.definition.specs.Build.{rejected, report, refusal, built}
use Rattle.definition.specs.Build as definition
use Rattle.definition.specs.Run.{Answers, Reason, stopped}
use Rattle.definition.specs.BlockRun.{block_run}
use Rattle.definition.specs.Plain.{Width, paper_01, with_switch, Plain}
use Rattle.definition.specs.Reading.{OneTree, TreeOf, JumpsWithin}
use Rattle.definition.specs.Index.{lines}
use Rattle.definition.proofs.Preview.{never_41}
use Rattle.theorems.specs.Indexed.{OneLineEach, InOrder, FindsLabelled}
use Rattle.theorems.proofs.Found.{one_line_each, lines_in_order, finds_labelled}
use Rattle.definition.specs.RunLaw.{RunLaw, SwitchLaw, LawOfSwitches}
use Rattle.definition.proofs.Outcomes.{outcome_code, refused_form, refused_rows, accepted_form}
use Rattle.definition.proofs.Visits.{visits_most}
use Rattle.definition.proofs.Never.{target_known, never_already_scheduled, never_unschedule_out_of_order, never_maybe_throw_in_value_terminal}
use Rattle.definition.proofs.Enough.{blocks_enough}
use Rattle.definition.proofs.Bounds.{stack_most, depth_most, one_entry_an_arm}
use Rattle.definition.proofs.Checked.{ranged}
use Rattle.definition.specs.PlainLoops.{PlainLoops}
use Rattle.definition.specs.LoopLaw.{LawOfLoops, LawOfLoopsAndSwitches}
use Rattle.definition.proofs.PlainEnough.{plain_enough}
use Rattle.definition.proofs.TreeInBuffer.{one_tree}
use Rattle.definition.proofs.Law.{switch_law, loops_law as law_of_loops, loops_and_switches_law, more_steps}
use Rattle.definition.specs.Crossed.{Found}
use Rattle.definition.proofs.Crossed.{break_found, continue_found}
use Rattle.definition.proofs.JumpRows.{built_within}
use Rattle.definition.proofs.Example.{W-law, loops_law, picks_law, not_for_rust}
use Rattle.definition.specs.Examples.{W, loops, picks}
use Rattle.definition.proofs.LoopLawExample.{counts_law}
use Rattle.definition.specs.LoopExamples.{counts}
use Rattle.definition.proofs.Samples.{the_samples}
use Rattle.definition.specs.Samples.{Sample, samples, built_for}
use Rattle.definition.specs.Tree.{Row}
use Rattle.definition.specs.Reading.{ReadAs}
use Rattle.definition.proofs.Readings.{one_reading}
use Rattle.tree_grammar.specs.Grammar.{Answer}
use Rattle.tree_grammar.specs.Needs.{tree_verdict, code_of, at_of}
use Rattle.tree_grammar.proofs.Words.{words_answered, words_answer_is}
use Rattle.tree_grammar.proofs.BuiltReads.{built_answered}
use Rattle.tree_check.specs.declared.TreeError.{TreeError}
use Rattle.tree_check.specs.Found.{TreeChecked, checked_of, tree_checked}
use Rattle.tree_check.proofs.check_tree.Statement as tree_stated
use Rattle.tree_check.proofs.check_tree.Met as tree_proved
use Rattle.tree_check.proofs.check_tree.Reads as check_tree
use Rattle.tree_check.proofs.tree_check.Statement as tree_export_stated
use Rattle.tree_check.proofs.tree_check.Met as tree_export_proved
use Rattle.tree_check.proofs.tree_check.Reads as tree_export
use Rattle.text.specs.Ascii.{ascii}
use Rattle.text.specs.Decimal.{digits_of}
use Rattle.text.proofs.DecimalLaws.{steps}
use Rattle.control.specs.Abstraction.{context_of}
use Rattle.control.specs.declared.Context.{Context as CodeContext}
use Rattle.control.specs.declared.ControlFlowTarget.{ControlFlowTarget as CodeTarget}
use Rattle.control.proofs.ContextLaws.{stack_length}
use Rattle.control.proofs.Context.schedule.Reads as schedule
use Rattle.walk.specs.declared.answer.Walked.{Walked}
use Rattle.build.specs.declared.answer.BuildError.{BuildError}
use Rattle.build.specs.Entry.{numbers, outcome}
use Rattle.build.proofs.EntryLaws.{code_some as build_refuses}
use Rattle.std.proofs.lemmas.Bool.{ne_eqb}
use Rattle.build.proofs.Demand3.{entry_tree, entry_law, language_law}
use Rattle.build.proofs.build_reactive_function.Statement as entry_stated
use Rattle.build.proofs.build_reactive_function.Met as entry_proved
use Rattle.build.proofs.build_reactive_function.Reads as entry
use Rattle.build.proofs.reactive_build.Statement as export_stated
use Rattle.build.proofs.reactive_build.Met as export_proved
use Rattle.build.proofs.reactive_build.Reads as export
use Rattle.build.proofs.build_language.Statement as language_stated
use Rattle.build.proofs.build_language.Met as language_proved
use Rattle.build.proofs.build_language.Reads as language_entry
use Rattle.build.proofs.reactive_build_language.Statement as language_export_stated
use Rattle.build.proofs.reactive_build_language.Met as language_export_proved
use Rattle.build.proofs.reactive_build_language.Reads as language_export
use Rattle.theorems.specs.Answered.{is_number, acceptance}
use Rattle.theorems.specs.LabelsThere.{LabelsThere}
use Rattle.theorems.specs.Parted.{Parted, Unnamed, AcceptedAlike}
use Rattle.theorems.proofs.Language.{entries_part, first_never_29, labels_there}
use Rattle.theorems.proofs.Parting.{where_refused, where_accepted}
use Rattle.build.specs.Prints.{lent_words, lent_index, Prints}
use Rattle.build.proofs.OutcomeLaws.{never_41 as file_never_41}
use Rattle.build.proofs.Sample.{sample_prints}

-- ---- the entries (demand 2): build_reactive_function and build_language (M-102) give what the definition gives, each by its rule

-- Its contract is met: for any words and any lent buffer it ends, asks nothing, and its `ensures` holds. The same for the export
pub build_meets_its_contract : {M : Type 1} → entry_stated.statement M
build_meets_its_contract = entry_proved.met

pub export_meets_its_contract : {M : Type 1} → export_stated.statement M
export_meets_its_contract = export_proved.met

pub the_language_entry_meets_its_contract : {M : Type 1} → language_stated.statement M
the_language_entry_meets_its_contract = language_proved.met

pub the_language_export_meets_its_contract : {M : Type 1} → language_export_stated.statement M
the_language_export_meets_its_contract = language_export_proved.met

-- a call's references, before or after it: the words, the lent tree and the lent index
abbrev pub Lent : Type 0
Lent = Bor (List ℕ) × (MutBor (List ℕ) × (MutBor (List ℕ) × Unit {0}))

pub build_asks_nothing : (κs : Lfts 3) (before : Lent) → entry.Asked κs before
build_asks_nothing κs before = tt

-- what a caller learns from that contract: code, at, rows, visits, lines and every lent word of both buffers, refused or not
pub build_gives_the_definition : (κs : Lfts 3) (before after : Lent) (answer : Result Walked BuildError) → entry.Learnt κs before answer after
    → outcome answer after.1.0.now after.1.1.0.now ≡ built rust before.0.now (length before.1.0.now) (length before.1.1.0.now)
build_gives_the_definition κs before after answer learnt = learnt.0

pub build_gives_the_run_law : (κs : Lfts 3) (before after : Lent) (answer : Result Walked BuildError) → entry.Learnt κs before answer after
    → OnOk answer (Plain paper_01 (table_of before.0.now) → RunLaw before.0.now (outcome answer after.1.0.now after.1.1.0.now))
build_gives_the_run_law κs before after answer learnt = learnt.1

pub the_language_entry_asks_nothing : (κs : Lfts 3) (before : Lent) → language_entry.Asked κs before
the_language_entry_asks_nothing κs before = tt

pub the_language_entry_gives_the_definition : (κs : Lfts 3) (before after : Lent) (answer : Result Walked BuildError) → language_entry.Learnt κs before answer after
    → outcome answer after.1.0.now after.1.1.0.now ≡ built language before.0.now (length before.1.0.now) (length before.1.1.0.now)
the_language_entry_gives_the_definition κs before after answer learnt = learnt.0

-- without Switch, and with it
pub the_language_entry_gives_the_run_laws : (κs : Lfts 3) (before after : Lent) (answer : Result Walked BuildError)
    → language_entry.Learnt κs before answer after
    → OnOk answer (Plain paper_01 (table_of before.0.now) → RunLaw before.0.now (outcome answer after.1.0.now after.1.1.0.now))
    × OnOk answer (Plain with_switch (table_of before.0.now) → SwitchLaw before.0.now (outcome answer after.1.0.now after.1.1.0.now))
the_language_entry_gives_the_run_laws κs before after answer learnt = (learnt.1.0, learnt.1.1)

-- a build's answer is Ok where it is accepted
pub ok_is_built : (answer : Result Walked BuildError) → is_ok answer ≡ eqb (numbers answer).code 0
ok_is_built (Ok _) = refl
ok_is_built (Err error) = sym (ne_eqb _ _ (build_refuses error))

-- the export's references: the words, the lent tree and index, and the four words of its answer beside the code
abbrev pub LentWithAnswer : Type 0
LentWithAnswer = Bor (List ℕ) × (MutBor (List ℕ) × (MutBor (List ℕ) × (MutBor ℕ × (MutBor ℕ × (MutBor ℕ × (MutBor ℕ × Unit {0}))))))

pub export_asks_nothing : (κs : Lfts 7) (before : LentWithAnswer) → export.Asked κs before
export_asks_nothing κs before = tt

pub export_gives_the_definition : (κs : Lfts 7) (before after : LentWithAnswer) (code : ℕ) → export.Learnt κs before code after
    → record {
      code = code;
      at = after.1.1.1.0.now;
      rows = after.1.1.1.1.0.now;
      visits = after.1.1.1.1.1.0.now;
      lines = after.1.1.1.1.1.1.0.now;
      buffer = after.1.0.now;
      index = after.1.1.0.now;
    } ≡ built rust before.0.now (length before.1.0.now) (length before.1.1.0.now)
export_gives_the_definition κs before after code learnt = learnt

pub the_language_export_asks_nothing : (κs : Lfts 7) (before : LentWithAnswer) → language_export.Asked κs before
the_language_export_asks_nothing κs before = tt

pub the_language_export_gives_the_definition : (κs : Lfts 7) (before after : LentWithAnswer) (code : ℕ) → language_export.Learnt κs before code after
    → record {
      code = code;
      at = after.1.1.1.0.now;
      rows = after.1.1.1.1.0.now;
      visits = after.1.1.1.1.1.0.now;
      lines = after.1.1.1.1.1.1.0.now;
      buffer = after.1.0.now;
      index = after.1.1.0.now;
    } ≡ built language before.0.now (length before.1.0.now) (length before.1.1.0.now)
the_language_export_gives_the_definition κs before after code learnt = learnt

-- the table's check gives the definition's verdict
pub check_meets_its_contract : {M : Type 1} → check_stated.statement M
check_meets_its_contract = check_proved.met

pub check_asks_nothing : (κs : Lfts 1) (before : Bor (List ℕ) × Unit {0}) → check_entry.Asked κs before
check_asks_nothing κs before = tt

pub check_gives_the_definition : (κs : Lfts 1) (before after : Bor (List ℕ) × Unit {0}) (answer : Result CheckedTable Refusal) → check_entry.Learnt κs before answer after
    → table.verdict_of answer ≡ checked before.0.now
check_gives_the_definition κs before after answer learnt = learnt.0

-- and the table that it gives is of these words
pub check_gives_the_words : (κs : Lfts 1) (before after : Bor (List ℕ) × Unit {0}) (answer : Result CheckedTable Refusal) → check_entry.Learnt κs before answer after
    → IfOk answer (λ given. given.words.now ≡ before.0.now)
check_gives_the_words κs before after answer learnt = learnt.1

-- an answer is Ok where it is accepted, and the two methods of a refusal give its code and place
pub ok_is_accepted : {A : Type 0} (answer : Result A Refusal) → is_ok answer ≡ table.is_accepted (table.verdict_of answer)
ok_is_accepted (Ok _) = refl
ok_is_accepted (Err _) = refl

pub the_methods_of_a_refusal_meet_their_contracts : {M : Type 1} → code_stated.statement M × place_stated.statement M
the_methods_of_a_refusal_meet_their_contracts = (code_proved.met, place_proved.met)

pub refusal_code_gives_the_definition : (κs : Lfts 0) (before after : Refusal × Unit {0}) (code : ℕ) → code_method.Learnt κs before code after
    → code ≡ table.code_of (table.verdict_of {A = Unit {0}} (Err before.0))
refusal_code_gives_the_definition κs before after code learnt = learnt

pub refusal_place_gives_the_definition : (κs : Lfts 0) (before after : Refusal × Unit {0}) (place : ℕ) → place_method.Learnt κs before place after
    → place ≡ table.place_of (table.verdict_of {A = Unit {0}} (Err before.0))
refusal_place_gives_the_definition κs before after place learnt = learnt

pub the_methods_of_a_refusal_ask_nothing : (κs : Lfts 0) (before : Refusal × Unit {0}) → code_method.Asked κs before × place_method.Asked κs before
the_methods_of_a_refusal_ask_nothing κs before = (tt, tt)

-- and its export the verdict's code, with its place by reference
pub table_check_meets_its_contract : {M : Type 1} → check_export_stated.statement M
table_check_meets_its_contract = check_export_proved.met

abbrev pub WordsAndPlace : Type 0
WordsAndPlace = Bor (List ℕ) × (MutBor ℕ × Unit {0})

pub table_check_asks_nothing : (κs : Lfts 2) (before : WordsAndPlace) → check_export.Asked κs before
table_check_asks_nothing κs before = tt

pub table_check_gives_the_definition : (κs : Lfts 2) (before after : WordsAndPlace) (code : ℕ) → check_export.Learnt κs before code after
    → (code ≡ table.code_of (checked before.0.now)) × (after.1.0.now ≡ table.place_of (checked before.0.now))
table_check_gives_the_definition κs before after code learnt = learnt

-- ---- the run laws: the claims `the_tree_runs_as_the_blocks`, `with_switches` and `with_loops_and_switches`

-- paper 01's plain tables, and M-113's, are among those
pub a_plain_table_is_plain_with_loops : (width : Width) (t : Table) → Plain width t → PlainLoops width t
a_plain_table_is_plain_with_loops width t = plain_enough t

-- it is not empty: W with instructions, and two loops of which the inner continues the outer
pub the_runs_of_w_agree : (rule : Rule) → RunLaw W (built rule W 600 300)
the_runs_of_w_agree = W-law

pub the_runs_of_two_loops_agree : (rule : Rule) → RunLaw loops (built rule loops 600 300)
the_runs_of_two_loops_agree = loops_law

-- nor is that with loops: a For whose init is its loop block
pub the_runs_of_a_for_agree : (rule : Rule) → RunLaw counts (built rule counts 600 300)
the_runs_of_a_for_agree = counts_law

-- it is not empty: a loop with a switch of three cases, one of which leaves the loop; and it is not so for the first entry
pub the_runs_of_a_switch_agree : SwitchLaw picks (built language picks 900 300)
the_runs_of_a_switch_agree = picks_law

pub the_first_entry_has_no_such_law : SwitchLaw picks (built rust picks 900 300) → ⊥
the_first_entry_has_no_such_law = not_for_rust

-- ---- the bound of the control stack, in the code (specs/Claims has those of the definition)

-- the code's `schedule` alone puts an entry onto the code's stack, and asks of its caller, who had to prove it, that one more fits
pub the_code_schedules_where_an_entry_fits : (κs : Lfts 0) (before : CodeContext × (CodeTarget × Unit {0})) → schedule.Asked κs before
    → length (context_of 0 before.0).stack < 1152
unfolding context_of
the_code_schedules_where_an_entry_fits κs before asked = rw (stack_length before.0.stack before.0.len) asked.1.len

-- ---- M-107: how many loops a jump leaves

-- the number is that of the loops on the stack above the entry found, and no entry that fits lies above it; where it is a loop, the jump is Labeled exactly when
-- the number is above 0
pub a_break_gives_the_loops_above_its_entry : (cx : Context) (block : ℕ) (found : Resolution) → get_break_target cx block ≡ some found
    → Found (λ target. eqb (target_block target) block) cx.stack found
a_break_gives_the_loops_above_its_entry = break_found

pub a_continue_gives_the_loops_above_its_loop : (cx : Context) (block : ℕ) (found : Resolution) → get_continue_target cx block ≡ some found
    → Found (λ target. continues_at target block) cx.stack found
a_continue_gives_the_loops_above_its_loop = continue_found

pub no_row_has_more_than_128_loops : (rule : Rule) (words : List ℕ) (lent lent_index : ℕ) → (built rule words lent lent_index).code ≡ 0
    → (root : Statements) → TreeOf (built rule words lent lent_index) root → JumpsWithin (rows root)
no_row_has_more_than_128_loops rule words lent lent_index accepts root held =
    subst (λ (tree : Statements). JumpsWithin (rows tree)) (sym ((one_tree rule words lent lent_index accepts).only root held)) (built_within rule words lent lent_index accepts)

-- ---- M-100: read a tree back

pub check_tree_meets_its_contract : {M : Type 1} → tree_stated.statement M
check_tree_meets_its_contract = tree_proved.met

pub check_tree_asks_nothing : (κs : Lfts 1) (before : Bor (List ℕ) × Unit {0}) → check_tree.Asked κs before
check_tree_asks_nothing κs before = tt

pub check_tree_gives_the_definition : (κs : Lfts 1) (before after : Bor (List ℕ) × Unit {0}) (answer : Result (Unit {0}) TreeError) → check_tree.Learnt κs before answer after
    → checked_of answer ≡ tree_checked before.0.now
check_tree_gives_the_definition κs before after answer learnt = learnt

-- it gives the grammar's answer: "accepts a list .. exactly when it reads as one tree", 60 and 61 at the first row, 62
pub check_tree_gives_the_grammars_answer : (κs : Lfts 1) (before after : Bor (List ℕ) × Unit {0}) (answer : Result (Unit {0}) TreeError) → check_tree.Learnt κs before answer after
    → Answer before.0.now (checked_of answer).code (checked_of answer).at
check_tree_gives_the_grammars_answer κs before after answer learnt =
    let given : checked_of answer ≡ tree_checked before.0.now = learnt in
    subst (λ (c : TreeChecked). Answer before.0.now c.code c.at) (sym given) (words_answered before.0.now)

-- its export, the place by reference
pub tree_check_meets_its_contract : {M : Type 1} → tree_export_stated.statement M
tree_check_meets_its_contract = tree_export_proved.met

pub tree_check_asks_nothing : (κs : Lfts 2) (before : WordsAndPlace) → tree_export.Asked κs before
tree_check_asks_nothing κs before = tt

pub tree_check_gives_the_definition : (κs : Lfts 2) (before after : WordsAndPlace) (code : ℕ) → tree_export.Learnt κs before code after
    → record { code = code; at = after.1.0.now } ≡ tree_checked before.0.now
tree_check_gives_the_definition κs before after code learnt = learnt

pub tree_check_gives_the_grammars_answer : (κs : Lfts 2) (before after : WordsAndPlace) (code : ℕ) → tree_export.Learnt κs before code after
    → Answer before.0.now code after.1.0.now
tree_check_gives_the_grammars_answer κs before after code learnt =
    let given : record { code = code; at = after.1.0.now } ≡ tree_checked before.0.now = learnt in
    subst (λ (c : TreeChecked). Answer before.0.now c.code c.at) (sym given) (words_answered before.0.now)

-- any words have an answer, and no other
pub any_words_have_an_answer : (words : List ℕ) → Answer words (code_of (tree_verdict words)) (at_of (tree_verdict words))
any_words_have_an_answer = words_answered

pub they_have_no_other : (words : List ℕ) {code at : ℕ} → Answer words code at → (code ≡ code_of (tree_verdict words)) × (at ≡ at_of (tree_verdict words))
they_have_no_other = words_answer_is

-- ---- M-102: the language entry

-- where the first entry refuses (40 and 41 included), the language entry refuses alike, or gives 29 with no more visits
pub where_the_first_entry_refuses : (words : List ℕ) (lent lent_index : ℕ) → ((built rust words lent lent_index).code ≡ 0 → ⊥)
    → (built language words lent lent_index ≡ built rust words lent lent_index) ⊎ Unnamed (built rust words lent lent_index) (built language words lent lent_index)
where_the_first_entry_refuses = where_refused

-- where it accepts, the language entry accepts after the same visits with the rows of its tree relabeled, the same but for BREAK kinds that go from Unlabeled to
-- Labeled, and the same lines, or gives 29 with no more visits
pub where_the_first_entry_accepts : (words : List ℕ) (lent lent_index : ℕ) → (built rust words lent lent_index).code ≡ 0
    → AcceptedAlike lent lent_index (built rust words lent lent_index) (built language words lent lent_index)
    ⊎ Unnamed (built rust words lent lent_index) (built language words lent lent_index)
where_the_first_entry_accepts = where_accepted

-- so that a bare break with no switch between stays as it is: "every bare break is Labeled" is another relation
pub a_bare_break_in_a_loop_stays : (id target jump : ℕ) (test : Value)
    → relabeled [] (WHILE id (some target) test (BREAK target jump unlabeled 0 ▸ done) ▸ done) ≡ WHILE id (some target) test (BREAK target jump unlabeled 0 ▸ done) ▸ done
unfolding relabeled is_switch_inside kind_by
a_bare_break_in_a_loop_stays id target jump test = refl

-- ---- M-101: find a statement by its label

-- 3,069 words of index are enough for any table; and so are as many lines as rows, which treebuild lends: there 41 is not printed
pub a_table_has_at_most_1023_lines : (rule : Rule) (words : List ℕ) (lent lent_index : ℕ) → 3069 ≤ lent_index → (built rule words lent lent_index).code ≡ 41 → ⊥
a_table_has_at_most_1023_lines = never_41

pub treebuild_never_gives_41 : (rule : Rule) (words : List ℕ) → (built rule words lent_words lent_index).code ≡ 41 → ⊥
treebuild_never_gives_41 = file_never_41

-- ---- samples

-- the sample file prints the sample's output
pub the_sample_file_prints_its_output :
    Prints rust
    (ascii
    "entry blocks instructions cases places identifiers\n0 1 0 0 1 1\nfirst count code a b c d e id from to\n0 0 3 0 0 0 0 0 7 0 0\nid lvalue code p q from to\ntest block\nidentifier\n0\nnamed\n1\n")
    (ascii "code at rows visits\n0 0 2 1\nop a b c d e\n22 0 7 0 0 0\n9 1 0 0 0 0\n")
the_sample_file_prints_its_output = sample_prints

-- ---- no count that a definition recurses on is ever too small. (The depth, 128, is the paper's own bound, and gives 30.)

-- 8,193 blocks at one depth: more change nothing
pub more_blocks_change_nothing : (t : Table) (around : Around) (depth_left more block : ℕ) (cx : Context)
    → visit_block t (visit_value_block t depth_left) (traverse_block t depth_left) around (more + suc most_visits) block cx ≡ traverse_block t (suc depth_left) around block cx
more_blocks_change_nothing = blocks_enough

-- a block run that has stopped
pub more_steps_change_nothing : (t : Table) (more steps block : ℕ) (answers : Answers) (performed : List ℕ) (left : Answers) (reason : Reason)
    → block_run t steps block answers ≡ stopped performed left reason → block_run t (more + steps) block answers ≡ stopped performed left reason
more_steps_change_nothing = more_steps

-- the digits of a number
pub more_digits_change_nothing : (k m n : ℕ) → n ≤ k → n ≤ m → digits_of k n ≡ digits_of m n
more_digits_change_nothing = steps
