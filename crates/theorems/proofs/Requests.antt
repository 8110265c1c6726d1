-- The entries of paper 02's requests beside the build: each contract is met for any input and demands nothing (`asks_nothing`), and what a caller learns from it is what
-- the definition gives, every lent word of it (`gives_the_definition`).
-- Statements only, each by the lemma that proves it. M-111's stand in WalkingOrder.
use Prim.Native.Nat.{ℕ, ◌*◌, ◌^◌, ◌<◌, ◌≤◌}
use mathlib.Core.Path.{◌≡◌, refl, ap, sym, ◌∙◌, subst}
use mathlib.Core.List.{List}
use mathlib.Core.Logic.{◌⊎◌}
use mathlib.Core.Option.{none, some}
use Rattle.std.specs.Prelude.{Result}
use lib.ListN.{length, take, get_or}
use contract.Lifetimes.{Lfts}
use Rattle.std.specs.declared.ops.Range.{Range}
use denote.Ref.{Bor, MutBor}
use Rattle.table.specs.Table.{table_of}
use Rattle.table.specs.Check.{accepted, checked}
use Rattle.table.proofs.PromiseLaws.{promised}
use Rattle.text.specs.File.{Good}
use Rattle.text.specs.Layout.{Layout, layout}
use Rattle.text.specs.declared.version.Version.TheVariants.{Old, New}
use Rattle.text.specs.Answer.{Accepted}
use Rattle.text.specs.Placed.{Placing}
use Rattle.dot.specs.Answer as drawing
use Rattle.dot.specs.declared.DrawError.{DrawError}
use Rattle.convert.specs.WriteAnswer as writing
use Rattle.convert.specs.declared.writing.WriteError.{WriteError}
use Rattle.convert.specs.ConvertAnswer as converting
use Rattle.convert.specs.declared.ConvertError.{ConvertError}
use Rattle.control.specs.Abstraction.{target_of, context_of, result_of}
use Rattle.definition.specs.Result.{ok}
use Rattle.control.specs.Contract.{Named, Room, Last, Scheduled, Unscheduled}
use Rattle.control.specs.declared.Entry.{Entry}
use Rattle.control.specs.declared.Context.{Context}
use Rattle.control.specs.declared.ControlFlowTarget.{ControlFlowTarget}
use Rattle.definition.specs.Context.{schedule, unschedule}
use Rattle.definition.specs.Around.{language}
use Rattle.definition.specs.Build.{built}
use Rattle.definition.specs.Plain.{with_switch, Plain}
use Rattle.definition.specs.PlainLoops.{PlainLoops}
use Rattle.definition.specs.Tree.{Statements, rows}
use Rattle.definition.specs.TreeRun.{tree_run}
use Rattle.definition.specs.Run.{Answers}
use Rattle.definition.specs.RunLaw.{Spoken, SwitchLaw}
use Rattle.tree_grammar.specs.Grammar.{Answer}
use Rattle.tree_runs.specs.Given.{RunGives, run_of}
use Rattle.tree_runs.specs.Ran.{Outcome, refusal, first_not_run, ended, ran}
use Rattle.tree_runs.specs.Numbered.{numbered}
use Rattle.tree_runs.proofs.OneOutcome.{one_outcome, is_given}
use Rattle.tree_runs.proofs.SwitchRuns.{the_law, runner_gives, runner_does, never_63_64}
use Rattle.tree_runs.proofs.LoopRuns as loops
use Rattle.tree_run.specs.declared.Run as runner
use Rattle.tree_run.specs.declared.Reason.{Reason}
use Rattle.tree_run.specs.declared.RunError.{RunError}
use Rattle.tree_run.specs.Answer as runner_answer
use Rattle.tree_run.specs.Holds.{outcome_of}
use Rattle.lookup.specs.Lookup.{found_of, found, looked_of, looked}
use Rattle.lookup.specs.declared.LookupError.{LookupError}
use Rattle.dot.specs.Dot.{drawn}
use Rattle.convert.specs.Write.{table_text, table_written}
use Rattle.convert.proofs.GoodLaws.{text_good, good_is_text}
use Rattle.convert.proofs.TextLaws.{sized_shaped}
use Rattle.convert.specs.OldCheck.{old_checked}
use Rattle.convert.specs.Widen.{widened}
use Rattle.convert.specs.Convert.{Converted, new_of_old, old_of_new, old_to_new, new_to_old, spans_verdict, old_text, text_of_answer, wholly}
use Rattle.convert.proofs.OneAnswer.{converted_so, converted_one}
use Rattle.convert.proofs.RoundTrip.{new_wholly, old_wholly}
use Rattle.convert.proofs.Trips.{old_again, new_again}
use Rattle.theorems.specs.Stops.{Stops}
use Rattle.theorems.proofs.RunReasons.{tree_stops, only_before_running}
use Rattle.dot.proofs.dot.Statement as dot_stated
use Rattle.dot.proofs.dot.Met as dot_proved
use Rattle.dot.proofs.dot.Reads as dot_entry
use Rattle.dot.proofs.blocks_to_dot.Statement as dot_export_stated
use Rattle.dot.proofs.blocks_to_dot.Met as dot_export_proved
use Rattle.dot.proofs.blocks_to_dot.Reads as dot_export
use Rattle.convert.proofs.writing.write_table.Statement as write_stated
use Rattle.convert.proofs.writing.write_table.Met as write_proved
use Rattle.convert.proofs.writing.write_table.Reads as write_entry
use Rattle.convert.proofs.writing.table_write.Statement as write_export_stated
use Rattle.convert.proofs.writing.table_write.Met as write_export_proved
use Rattle.convert.proofs.writing.table_write.Reads as write_export
use Rattle.convert.proofs.old_to_new.Statement as old_to_new_stated
use Rattle.convert.proofs.old_to_new.Met as old_to_new_proved
use Rattle.convert.proofs.old_to_new.Reads as old_to_new_entry
use Rattle.convert.proofs.table_old_to_new.Statement as old_to_new_export_stated
use Rattle.convert.proofs.table_old_to_new.Met as old_to_new_export_proved
use Rattle.convert.proofs.table_old_to_new.Reads as old_to_new_export
use Rattle.convert.proofs.new_to_old.Statement as new_to_old_stated
use Rattle.convert.proofs.new_to_old.Met as new_to_old_proved
use Rattle.convert.proofs.new_to_old.Reads as new_to_old_entry
use Rattle.convert.proofs.table_new_to_old.Statement as new_to_old_export_stated
use Rattle.convert.proofs.table_new_to_old.Met as new_to_old_export_proved
use Rattle.convert.proofs.table_new_to_old.Reads as new_to_old_export
use Rattle.lookup.proofs.find.Statement as find_stated
use Rattle.lookup.proofs.find.Met as find_proved
use Rattle.lookup.proofs.find.Reads as find_entry
use Rattle.lookup.proofs.lookup.Statement as lookup_stated
use Rattle.lookup.proofs.lookup.Met as lookup_proved
use Rattle.lookup.proofs.lookup.Reads as lookup_entry
use Rattle.lookup.proofs.tree_lookup.Statement as lookup_export_stated
use Rattle.lookup.proofs.tree_lookup.Met as lookup_export_proved
use Rattle.lookup.proofs.tree_lookup.Reads as lookup_export
use Rattle.control.proofs.Context.schedule.Statement as schedule_stated
use Rattle.control.proofs.Context.schedule.Met as schedule_proved
use Rattle.control.proofs.Context.schedule.Reads as schedule_entry
use Rattle.control.proofs.Context.unschedule.Statement as unschedule_stated
use Rattle.control.proofs.Context.unschedule.Met as unschedule_proved
use Rattle.control.proofs.Context.unschedule.Reads as unschedule_entry
use Rattle.tree_run.proofs.run_tree.Statement as run_stated
use Rattle.tree_run.proofs.run_tree.Met as run_proved
use Rattle.tree_run.proofs.run_tree.Reads as run_entry
use Rattle.tree_run.proofs.RunErrorCoded.code.Statement as run_code_stated
use Rattle.tree_run.proofs.RunErrorCoded.code.Met as run_code_proved
use Rattle.tree_run.proofs.RunErrorCoded.code.Reads as run_code
use Rattle.tree_run.proofs.RunErrorCoded.place.Statement as run_place_stated
use Rattle.tree_run.proofs.RunErrorCoded.place.Met as run_place_proved
use Rattle.tree_run.proofs.RunErrorCoded.place.Reads as run_place
use Rattle.tree_run.proofs.Reason.number.Statement as reason_stated
use Rattle.tree_run.proofs.Reason.number.Met as reason_proved
use Rattle.tree_run.proofs.Reason.number.Reads as reason_entry
use Rattle.tree_run.proofs.tree_run.Statement as run_export_stated
use Rattle.tree_run.proofs.tree_run.Met as run_export_proved
use Rattle.tree_run.proofs.tree_run.Reads as run_export

-- ---- a call's references, before or after it

-- words or a file, and the lent text
abbrev pub Lent : Type 0
Lent = Bor (List ℕ) × (MutBor (List ℕ) × Unit {0})

-- the export's: at and length too
abbrev pub LentWithAnswer : Type 0
LentWithAnswer = Bor (List ℕ) × (MutBor (List ℕ) × (MutBor ℕ × (MutBor ℕ × Unit {0})))

-- ---- M-109: one way to schedule. The operation's promise is one equation for every target and Context: the stack and the set handed back, or 15

pub schedule_meets_its_contract : {M : Type 1} → schedule_stated.statement M
schedule_meets_its_contract = schedule_proved.met

pub unschedule_meets_its_contract : {M : Type 1} → unschedule_stated.statement M
unschedule_meets_its_contract = unschedule_proved.met

-- it asks that the target's blocks are among the 1,024, and room for one entry and its id; a call learns the definition's stack and set, or 15
abbrev pub Scheduling : Type 0
Scheduling = Context × (ControlFlowTarget × Unit {0})

pub schedule_asks_for_room_alone : (κs : Lfts 0) (before : Scheduling) → Named before.1.0 → Room before.0 → schedule_entry.Asked κs before
schedule_asks_for_room_alone κs before named room = (named, room)

pub schedule_gives_the_definition : (κs : Lfts 0) (before after : Scheduling) (answer : Context) → schedule_entry.Learnt κs before answer after → (visits : ℕ)
    → schedule (target_of before.1.0) (context_of visits before.0) ≡ result_of visits answer
schedule_gives_the_definition κs before after answer learnt = let promised : Scheduled before.1.0 before.0 answer = learnt in promised.context

-- it asks for the stack's last entry, which it takes off
abbrev pub Unscheduling : Type 0
Unscheduling = Context × (Entry × Unit {0})

pub unschedule_asks_for_the_last_entry_alone : (κs : Lfts 0) (before : Unscheduling) → Last before.0 before.1.0 → unschedule_entry.Asked κs before
unschedule_asks_for_the_last_entry_alone κs before last = last

pub unschedule_gives_the_definition : (κs : Lfts 0) (before after : Unscheduling) (answer : Context) → unschedule_entry.Learnt κs before answer after → (visits : ℕ)
    → unschedule before.1.0.id (context_of visits before.0) ≡ ok (context_of visits answer)
unschedule_gives_the_definition κs before after answer learnt = let promised : Unscheduled before.1.0 before.0 answer = learnt in promised.context

-- ---- M-110: draw the blocks

pub dot_meets_its_contract : {M : Type 1} → dot_stated.statement M
dot_meets_its_contract = dot_proved.met

pub dot_asks_nothing : (κs : Lfts 2) (before : Lent) → dot_entry.Asked κs before
dot_asks_nothing κs before = tt

pub dot_gives_the_definition : (κs : Lfts 2) (before after : Lent) (answer : Result ℕ DrawError) → dot_entry.Learnt κs before answer after
    → drawing.placing answer after.1.0.now ≡ drawn before.0.now (length before.1.0.now)
dot_gives_the_definition κs before after answer learnt = learnt

pub blocks_to_dot_meets_its_contract : {M : Type 1} → dot_export_stated.statement M
blocks_to_dot_meets_its_contract = dot_export_proved.met

pub blocks_to_dot_asks_nothing : (κs : Lfts 4) (before : LentWithAnswer) → dot_export.Asked κs before
blocks_to_dot_asks_nothing κs before = tt

pub blocks_to_dot_gives_the_definition : (κs : Lfts 4) (before after : LentWithAnswer) (code : ℕ) → dot_export.Learnt κs before code after
    → record { code = code; at = after.1.1.0.now; length = after.1.1.1.0.now; buffer = after.1.0.now } ≡ drawn before.0.now (length before.1.0.now)
blocks_to_dot_gives_the_definition κs before after code learnt = learnt

-- ---- M-112: old files into the new form and back

pub write_table_meets_its_contract : {M : Type 1} → write_stated.statement M
write_table_meets_its_contract = write_proved.met

pub write_table_asks_nothing : (κs : Lfts 2) (before : Lent) → write_entry.Asked κs before
write_table_asks_nothing κs before = tt

pub write_table_gives_the_definition : (κs : Lfts 2) (before after : Lent) (answer : Result ℕ WriteError) → write_entry.Learnt κs before answer after
    → writing.placing answer after.1.0.now ≡ table_written before.0.now (length before.1.0.now)
write_table_gives_the_definition κs before after answer learnt = learnt

pub table_write_meets_its_contract : {M : Type 1} → write_export_stated.statement M
table_write_meets_its_contract = write_export_proved.met

pub table_write_asks_nothing : (κs : Lfts 4) (before : LentWithAnswer) → write_export.Asked κs before
table_write_asks_nothing κs before = tt

pub table_write_gives_the_definition : (κs : Lfts 4) (before after : LentWithAnswer) (code : ℕ) → write_export.Learnt κs before code after
    → record { code = code; at = after.1.1.0.now; length = after.1.1.1.0.now; buffer = after.1.0.now } ≡ table_written before.0.now (length before.1.0.now)
table_write_gives_the_definition κs before after code learnt = learnt

pub old_to_new_meets_its_contract : {M : Type 1} → old_to_new_stated.statement M
old_to_new_meets_its_contract = old_to_new_proved.met

pub old_to_new_asks_nothing : (κs : Lfts 2) (before : Lent) → old_to_new_entry.Asked κs before
old_to_new_asks_nothing κs before = tt

pub old_to_new_gives_the_definition : (κs : Lfts 2) (before after : Lent) (answer : Result ℕ ConvertError) → old_to_new_entry.Learnt κs before answer after
    → converting.placing answer after.1.0.now ≡ old_to_new before.0.now (length before.1.0.now)
old_to_new_gives_the_definition κs before after answer learnt = learnt

pub table_old_to_new_meets_its_contract : {M : Type 1} → old_to_new_export_stated.statement M
table_old_to_new_meets_its_contract = old_to_new_export_proved.met

pub table_old_to_new_asks_nothing : (κs : Lfts 4) (before : LentWithAnswer) → old_to_new_export.Asked κs before
table_old_to_new_asks_nothing κs before = tt

pub table_old_to_new_gives_the_definition : (κs : Lfts 4) (before after : LentWithAnswer) (code : ℕ) → old_to_new_export.Learnt κs before code after
    → record { code = code; at = after.1.1.0.now; length = after.1.1.1.0.now; buffer = after.1.0.now } ≡ old_to_new before.0.now (length before.1.0.now)
table_old_to_new_gives_the_definition κs before after code learnt = learnt

pub new_to_old_meets_its_contract : {M : Type 1} → new_to_old_stated.statement M
new_to_old_meets_its_contract = new_to_old_proved.met

pub new_to_old_asks_nothing : (κs : Lfts 2) (before : Lent) → new_to_old_entry.Asked κs before
new_to_old_asks_nothing κs before = tt

pub new_to_old_gives_the_definition : (κs : Lfts 2) (before after : Lent) (answer : Result ℕ ConvertError) → new_to_old_entry.Learnt κs before answer after
    → converting.placing answer after.1.0.now ≡ new_to_old before.0.now (length before.1.0.now)
new_to_old_gives_the_definition κs before after answer learnt = learnt

pub table_new_to_old_meets_its_contract : {M : Type 1} → new_to_old_export_stated.statement M
table_new_to_old_meets_its_contract = new_to_old_export_proved.met

pub table_new_to_old_asks_nothing : (κs : Lfts 4) (before : LentWithAnswer) → new_to_old_export.Asked κs before
table_new_to_old_asks_nothing κs before = tt

pub table_new_to_old_gives_the_definition : (κs : Lfts 4) (before after : LentWithAnswer) (code : ℕ) → new_to_old_export.Learnt κs before code after
    → record { code = code; at = after.1.1.0.now; length = after.1.1.1.0.now; buffer = after.1.0.now } ≡ new_to_old before.0.now (length before.1.0.now)
table_new_to_old_gives_the_definition κs before after code learnt = learnt

-- what the converters give, with no reader in it: of a good file what its words give, of any other its refusal
pub old_to_new_is_of_the_file : (file : List ℕ) (lent : ℕ) → Converted (layout Old) new_of_old file lent (old_to_new file lent)
unfolding old_to_new
old_to_new_is_of_the_file file lent = converted_so (layout Old) new_of_old file lent

pub new_to_old_is_of_the_file : (file : List ℕ) (lent : ℕ) → Converted (layout New) old_of_new file lent (new_to_old file lent)
unfolding new_to_old
new_to_old_is_of_the_file file lent = converted_so (layout New) old_of_new file lent

-- and a file and a length have one such answer, every byte of it
pub a_conversion_has_one_answer : (f : Layout) (of : List ℕ → ℕ → Placing) (file : List ℕ) (lent : ℕ) (a b : Placing) → Converted f of file lent a → Converted f of file lent b → a ≡ b
a_conversion_has_one_answer = converted_one

-- a file that is not refused has code 0 wherever its text has room
pub old_to_new_has_room : (file words : List ℕ) (lent : ℕ) → Accepted (layout Old) file words → old_checked words ≡ accepted → length (table_text (widened words)) ≤ lent
    → old_to_new file lent ≡ wholly lent (table_text (widened words))
old_to_new_has_room = new_wholly

pub new_to_old_has_room : (file words : List ℕ) (lent : ℕ) → Accepted (layout New) file words → checked words ≡ accepted → spans_verdict words ≡ accepted → length (old_text words) ≤ lent
    → new_to_old file lent ≡ wholly lent (old_text words)
new_to_old_has_room = old_wholly

-- the writer's text of words of 32 bits with no refusal 1 to 4 is a good file with these words, and the only one: every file of that form that has them is that text
pub the_writers_text_is_the_good_file : (words : List ℕ) → checked words ≡ accepted → ((i : ℕ) → get_or words i 0 < 2 ^ 32)
    → Good (layout New) (table_text words) words × ((file : List ℕ) → Good (layout New) file words → file ≡ table_text words)
the_writers_text_is_the_good_file words passed narrow =
    (text_good New words (sized_shaped words (promised words passed).sized) narrow, λ file good. good_is_text New file words good)

-- ---- M-101: the lookup

pub find_meets_its_contract : {M : Type 1} → find_stated.statement M
find_meets_its_contract = find_proved.met

-- the index, its lines, the label and the tree
abbrev pub Searched : Type 0
Searched = Bor (List ℕ) × (ℕ × (ℕ × (Bor (List ℕ) × Unit {0})))

pub find_asks_nothing : (κs : Lfts 2) (before : Searched) → find_entry.Asked κs before
find_asks_nothing κs before = tt

pub find_gives_the_definition : (κs : Lfts 2) (before after : Searched) (answer : Result (Range ℕ) LookupError) → find_entry.Learnt κs before answer after
    → found_of answer ≡ found before.0.now before.1.0 before.1.1.0 (length before.1.1.1.0.now)
find_gives_the_definition κs before after answer learnt = learnt

pub lookup_meets_its_contract : {M : Type 1} → lookup_stated.statement M
lookup_meets_its_contract = lookup_proved.met

pub lookup_asks_nothing : (κs : Lfts 2) (before : Searched) → lookup_entry.Asked κs before
lookup_asks_nothing κs before = tt

-- the code, at, and the words of the part given back
pub lookup_gives_the_definition : (κs : Lfts 2) (before after : Searched) (answer : Result (Bor (List ℕ)) LookupError) → lookup_entry.Learnt κs before answer after
    → looked_of answer ≡ looked before.0.now before.1.0 before.1.1.0 before.1.1.1.0.now
lookup_gives_the_definition κs before after answer learnt = learnt

pub tree_lookup_meets_its_contract : {M : Type 1} → lookup_export_stated.statement M
tree_lookup_meets_its_contract = lookup_export_proved.met

-- and at, begin and end
abbrev pub SearchedWithPart : Type 0
SearchedWithPart = Bor (List ℕ) × (ℕ × (ℕ × (Bor (List ℕ) × (MutBor ℕ × (MutBor ℕ × (MutBor ℕ × Unit {0}))))))

pub tree_lookup_asks_nothing : (κs : Lfts 5) (before : SearchedWithPart) → lookup_export.Asked κs before
tree_lookup_asks_nothing κs before = tt

pub tree_lookup_gives_the_definition : (κs : Lfts 5) (before after : SearchedWithPart) (code : ℕ) → lookup_export.Learnt κs before code after
    → record { code = code; at = after.1.1.1.1.0.now; begin = after.1.1.1.1.1.0.now; end = after.1.1.1.1.1.1.0.now }
    ≡ found before.0.now before.1.0 before.1.1.0 (length before.1.1.1.0.now)
tree_lookup_gives_the_definition κs before after code learnt = learnt

-- ---- M-103: run a tree on paper

pub run_tree_meets_its_contract : {M : Type 1} → run_stated.statement M
run_tree_meets_its_contract = run_proved.met

-- the tree, the answers and the lent buffer
abbrev pub Run : Type 0
Run = Bor (List ℕ) × (Bor (List ℕ) × (MutBor (List ℕ) × Unit {0}))

pub run_tree_asks_nothing : (κs : Lfts 3) (before : Run) → run_entry.Asked κs before
run_tree_asks_nothing κs before = tt

pub run_tree_gives_the_definition : (κs : Lfts 3) (before after : Run) (answer : Result runner.Run RunError) → run_entry.Learnt κs before answer after
    → outcome_of answer after.1.1.0.now ≡ run_of before.0.now before.1.0.now (length before.1.1.0.now)
run_tree_gives_the_definition κs before after answer learnt = learnt

-- the methods of a run's error and of its reason give the papers' numbers
pub the_methods_of_a_run_meet_their_contracts : {M : Type 1} → run_code_stated.statement M × run_place_stated.statement M × reason_stated.statement M
the_methods_of_a_run_meet_their_contracts = (run_code_proved.met, run_place_proved.met, reason_proved.met)

pub the_methods_of_a_run_ask_nothing : (κs : Lfts 0) (before : RunError × Unit {0}) (reason : Reason × Unit {0})
    → run_code.Asked κs before × run_place.Asked κs before × reason_entry.Asked κs reason
the_methods_of_a_run_ask_nothing κs before reason = (tt, tt, tt)

pub run_code_gives_the_definition : (κs : Lfts 0) (before after : RunError × Unit {0}) (code : ℕ) → run_code.Learnt κs before code after → code ≡ runner_answer.code_of before.0
run_code_gives_the_definition κs before after code learnt = learnt

pub run_place_gives_the_definition : (κs : Lfts 0) (before after : RunError × Unit {0}) (place : ℕ) → run_place.Learnt κs before place after → place ≡ runner_answer.at_of before.0
run_place_gives_the_definition κs before after place learnt = learnt

pub reason_number_gives_the_definition : (κs : Lfts 0) (before after : Reason × Unit {0}) (number : ℕ) → reason_entry.Learnt κs before number after
    → number ≡ runner_answer.reason_number before.0
reason_number_gives_the_definition κs before after number learnt = learnt

pub tree_run_meets_its_contract : {M : Type 1} → run_export_stated.statement M
tree_run_meets_its_contract = run_export_proved.met

-- and at, number and reason
abbrev pub RunWithAnswer : Type 0
RunWithAnswer = Bor (List ℕ) × (Bor (List ℕ) × (MutBor (List ℕ) × (MutBor ℕ × (MutBor ℕ × (MutBor ℕ × Unit {0})))))

pub tree_run_asks_nothing : (κs : Lfts 6) (before : RunWithAnswer) → run_export.Asked κs before
tree_run_asks_nothing κs before = tt

pub tree_run_gives_the_definition : (κs : Lfts 6) (before after : RunWithAnswer) (code : ℕ) → run_export.Learnt κs before code after
    → record {
      code = code;
      at = after.1.1.1.0.now;
      number = after.1.1.1.1.0.now;
      reason = after.1.1.1.1.1.0.now;
      buffer = after.1.1.0.now;
    } ≡ run_of before.0.now before.1.0.now (length before.1.1.0.now)
tree_run_gives_the_definition κs before after code learnt = learnt

-- what that definition gives, with no reader in it: of words that the check refuses its refusal, of any others the run of the tree that they read as
pub a_run_is_of_the_tree_read : (words : List ℕ) (answers : Answers) (lent : ℕ) → RunGives words answers lent (run_of words answers lent)
a_run_is_of_the_tree_read words answers lent = is_given words answers lent refl

-- and any words, answers and length have one such outcome, every lent word of it
pub a_run_has_one_outcome : (words : List ℕ) (answers : Answers) (lent : ℕ) {o o' : Outcome} → RunGives words answers lent o → RunGives words answers lent o' → o ≡ o'
a_run_has_one_outcome = one_outcome

-- no run of a tree stops for another reason than "return, throw, end of the tree, or no answer left", or a jump without target (63); the run with row numbers neither
pub a_tree_stops_for_a_reason_of_the_paper : (root : Statements) (answers : Answers) → first_not_run (rows root) 0 ≡ none
    → Stops (tree_run root answers) × Stops (tree_run (numbered 0 root) answers)
a_tree_stops_for_a_reason_of_the_paper = tree_stops

-- "64, before running, at the first LOGICAL, COND, OPTIONAL, TRY, FOROF or FORIN": where one stands, and never after running
pub only_such_a_row_gives_64 : (root : Statements) (answers : Answers) (lent : ℕ) → (ran root answers lent).code ≡ 64
    → (i : ℕ) × (first_not_run (rows root) 0 ≡ some i) × (ran root answers lent ≡ refusal 64 i lent)
only_such_a_row_gives_64 = only_before_running
