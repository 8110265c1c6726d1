-- The reader, the writer of results and the programs as functions: each contract is met for any input and demands nothing (`asks_nothing`), and what a caller learns from
-- it is what the definition gives, in the answer and in every lent word or byte (`gives_the_definition`).
-- Statements only, each by the lemma that proves it.
use Rattle.std.specs.Prelude.{Ok}
use Prim.Native.Nat.{ℕ, ◌≤◌, ◌<◌}
use mathlib.Core.Path.{◌≡◌, refl}
use mathlib.Core.List.{List}
use lib.ListN.{length}
use contract.Lifetimes.{Lfts}
use denote.Ref.{Bor, MutBor}
use Rattle.text.specs.Layout.{Layout, layout}
use Rattle.text.specs.Answer.{Answer, Answered}
use Rattle.text.specs.Reading.{reading, read_into}
use Rattle.text.specs.Printed.{printed, Written, written_of, lent_of}
use Rattle.text.specs.Prints.{printing}
use Rattle.text.specs.declared.version.Version.{Version}
use Rattle.text.specs.declared.write.Numbers.{Numbers}
use Rattle.text.specs.declared.version.Version.TheVariants.{New}
use Rattle.text.proofs.AnswerLaws.{answered_one}
use Rattle.text.proofs.ReadingLaws.{is_answered}
use Rattle.text.proofs.PrintsLaws.{file_prints, prints_one}
use Rattle.text.proofs.read.read.Statement as read_stated
use Rattle.text.proofs.read.read.Met as read_proved
use Rattle.text.proofs.read.read.Reads as read_entry
use Rattle.text.proofs.read.read_as.Statement as read_as_stated
use Rattle.text.proofs.read.read_as.Met as read_as_proved
use Rattle.text.proofs.read.read_as.Reads as read_as_entry
use Rattle.text.proofs.write.write.Statement as write_stated
use Rattle.text.proofs.write.write.Met as write_proved
use Rattle.text.proofs.write.write.Reads as write_entry
use Rattle.definition.specs.Around.{Rule}
use Rattle.control.specs.declared.rule.Rule as code
use Rattle.control.specs.Rule.{rule_of}
use Rattle.tree_runs.specs.Ran.{Outcome}
use Rattle.convert.specs.Convert.{old_to_new, new_to_old}
use Rattle.convert.proofs.CodeLaws.{new_fits, old_fits}
use Rattle.build.specs.Prints.{built_text}
use Rattle.build.specs.Prints as tree
use Rattle.build.proofs.file.build_file.Statement as build_stated
use Rattle.build.proofs.file.build_file.Met as build_proved
use Rattle.build.proofs.file.build_file.Reads as build_entry
use Rattle.preview.specs.Prints.{sized_text}
use Rattle.preview.specs.Prints as size
use Rattle.preview.proofs.file.size_file.Statement as size_stated
use Rattle.preview.proofs.file.size_file.Met as size_proved
use Rattle.preview.proofs.file.size_file.Reads as size_entry
use Rattle.dot.specs.Prints.{drawn_text}
use Rattle.dot.specs.Prints as drawing
use Rattle.dot.proofs.file.draw_file.Statement as draw_stated
use Rattle.dot.proofs.file.draw_file.Met as draw_proved
use Rattle.dot.proofs.file.draw_file.Reads as draw_entry
use Rattle.tree_check.specs.Prints.{check_text}
use Rattle.tree_check.proofs.file.check_file.Statement as check_stated
use Rattle.tree_check.proofs.file.check_file.Met as check_proved
use Rattle.tree_check.proofs.file.check_file.Reads as check_entry
use Rattle.tree_run.specs.Given.{file_run, FileGives}
use Rattle.tree_run.specs.Prints.{most_printed, run_text}
use Rattle.tree_run.proofs.OneRun.{is_gives, gives_is}
use Rattle.tree_run.proofs.file.run_file.Statement as run_stated
use Rattle.tree_run.proofs.file.run_file.Met as run_proved
use Rattle.tree_run.proofs.file.run_file.Reads as run_entry
use Rattle.order.specs.Prints.{order_text}
use Rattle.order.specs.Prints as order
use Rattle.order.proofs.file.order_file.Statement as order_stated
use Rattle.order.proofs.file.order_file.Met as order_proved
use Rattle.order.proofs.file.order_file.Reads as order_entry
use Rattle.convert.specs.Prints.{new_text, old_text}
use Rattle.convert.proofs.file.print_new.Statement as new_stated
use Rattle.convert.proofs.file.print_new.Met as new_proved
use Rattle.convert.proofs.file.print_new.Reads as new_entry
use Rattle.convert.proofs.file.print_old.Statement as old_stated
use Rattle.convert.proofs.file.print_old.Met as old_proved
use Rattle.convert.proofs.file.print_old.Reads as old_entry

-- ---- the reader of a table's file

-- the file, and the lent words; in the programs below the file, and the lent bytes
abbrev pub Lent : Type 0
Lent = Bor (List ℕ) × (MutBor (List ℕ) × Unit {0})

pub read_meets_its_contract : {M : Type 1} → read_stated.statement M
read_meets_its_contract = read_proved.met

pub read_asks_nothing : (κs : Lfts 2) (before : Lent) → read_entry.Asked κs before
read_asks_nothing κs before = tt

pub read_gives_the_definition : (κs : Lfts 2) (before after : Lent) (answer : Answer) → read_entry.Learnt κs before answer after
    → record { answer = answer; lent = after.1.0.now } ≡ read_into (length before.1.0.now) (reading (layout New) before.0.now)
read_gives_the_definition κs before after answer learnt = learnt

-- the file, the form and the lent words
abbrev pub LentForm : Type 0
LentForm = Bor (List ℕ) × (Version × (MutBor (List ℕ) × Unit {0}))

pub read_as_meets_its_contract : {M : Type 1} → read_as_stated.statement M
read_as_meets_its_contract = read_as_proved.met

pub read_as_asks_nothing : (κs : Lfts 2) (before : LentForm) → read_as_entry.Asked κs before
read_as_asks_nothing κs before = tt

pub read_as_gives_the_definition : (κs : Lfts 2) (before after : LentForm) (answer : Answer) → read_as_entry.Learnt κs before answer after
    → record { answer = answer; lent = after.1.1.0.now } ≡ read_into (length before.1.1.0.now) (reading (layout before.1.0) before.0.now)
read_as_gives_the_definition κs before after answer learnt = learnt

-- what that definition gives, with no reader in it: the words of a good file, or its refusal with its place; and a file has one such answer, every lent word of it
pub a_reading_is_of_the_file : (f : Layout) (file : List ℕ) (room : ℕ) → Answered f file room (read_into room (reading f file)).lent (read_into room (reading f file)).answer
a_reading_is_of_the_file f file room = is_answered f file room refl

pub a_reading_has_one_answer : (f : Layout) (file : List ℕ) (room : ℕ) (l m : List ℕ) (a b : Answer) → Answered f file room l a → Answered f file room m b → (a ≡ b) × (l ≡ m)
a_reading_has_one_answer = answered_one

-- ---- the writer of a result

-- the lent bytes, the four numbers and the tree
abbrev pub Result : Type 0
Result = MutBor (List ℕ) × (Numbers × (Bor (List ℕ) × Unit {0}))

abbrev pub result_text : Result → List ℕ
result_text before = let n = before.1.0 in printed n.code n.at n.rows n.visits before.1.1.0.now

pub write_meets_its_contract : {M : Type 1} → write_stated.statement M
write_meets_its_contract = write_proved.met

pub write_asks_nothing : (κs : Lfts 2) (before : Result) → write_entry.Asked κs before
write_asks_nothing κs before = tt

pub write_gives_the_definition : (κs : Lfts 2) (before after : Result) (answer : Written) → write_entry.Learnt κs before answer after
    → (answer ≡ written_of (length before.0.now) (result_text before)) × (after.0.now ≡ lent_of (length before.0.now) (result_text before))
write_gives_the_definition κs before after answer learnt = (learnt.answer, learnt.bytes)

-- ---- treebuild and treebuild_language: build_file, by either rule

pub build_file_meets_its_contract : {M : Type 1} → build_stated.statement M
build_file_meets_its_contract = build_proved.met

-- the rule, the file and the lent bytes
abbrev pub Ruled : Type 0
Ruled = code.Rule × (Bor (List ℕ) × (MutBor (List ℕ) × Unit {0}))

pub build_file_asks_nothing : (κs : Lfts 2) (before : Ruled) → build_entry.Asked κs before
build_file_asks_nothing κs before = tt

-- a file in the form prints the definition's outcome of its words, any other its refusal; 135,245 bytes are enough
pub build_file_gives_the_definition : (κs : Lfts 2) (before after : Ruled) (answer : Written) → build_entry.Learnt κs before answer after
    → (record { answer = answer; bytes = after.1.1.0.now } ≡ printing (length before.1.1.0.now) (built_text (rule_of before.0) before.1.0.now))
    × (135245 ≤ length before.1.1.0.now → answer ≡ Ok (length (built_text (rule_of before.0) before.1.0.now)))
build_file_gives_the_definition κs before after answer learnt = learnt

-- the same text with no reader in the definition, and no other
pub a_file_prints_its_tree : (rule : Rule) (file : List ℕ) → tree.Prints rule file (built_text rule file)
a_file_prints_its_tree rule = file_prints _ _ _

pub a_file_prints_one_tree : (rule : Rule) (file text text' : List ℕ) → tree.Prints rule file text → tree.Prints rule file text' → text ≡ text'
a_file_prints_one_tree rule = prints_one _ _ _

-- ---- treesize: size_file

pub size_file_meets_its_contract : {M : Type 1} → size_stated.statement M
size_file_meets_its_contract = size_proved.met

pub size_file_asks_nothing : (κs : Lfts 2) (before : Lent) → size_entry.Asked κs before
size_file_asks_nothing κs before = tt

pub size_file_gives_the_definition : (κs : Lfts 2) (before after : Lent) (answer : Written) → size_entry.Learnt κs before answer after
    → (record { answer = answer; bytes = after.1.0.now } ≡ printing (length before.1.0.now) (sized_text before.0.now))
    × (81 ≤ length before.1.0.now → answer ≡ Ok (length (sized_text before.0.now)))
size_file_gives_the_definition κs before after answer learnt = learnt

pub a_file_prints_its_size : (file : List ℕ) → size.Prints file (sized_text file)
a_file_prints_its_size = file_prints _ _ _

pub a_file_prints_one_size : (file text text' : List ℕ) → size.Prints file text → size.Prints file text' → text ≡ text'
a_file_prints_one_size = prints_one _ _ _

-- ---- treedot: draw_file

pub draw_file_meets_its_contract : {M : Type 1} → draw_stated.statement M
draw_file_meets_its_contract = draw_proved.met

pub draw_file_asks_nothing : (κs : Lfts 2) (before : Lent) → draw_entry.Asked κs before
draw_file_asks_nothing κs before = tt

pub draw_file_gives_the_definition : (κs : Lfts 2) (before after : Lent) (answer : Written) → draw_entry.Learnt κs before answer after
    → (record { answer = answer; bytes = after.1.0.now } ≡ printing (length before.1.0.now) (drawn_text (length before.1.0.now) before.0.now))
    × (77 ≤ length before.1.0.now → answer ≡ Ok (length (drawn_text (length before.1.0.now) before.0.now)))
draw_file_gives_the_definition κs before after answer learnt = learnt

pub a_file_prints_its_drawing : (file : List ℕ) (room : ℕ) → drawing.Prints file room (drawn_text room file)
a_file_prints_its_drawing file room = file_prints _ _ _ file

pub a_file_prints_one_drawing : (file : List ℕ) (room : ℕ) (text text' : List ℕ) → drawing.Prints file room text → drawing.Prints file room text' → text ≡ text'
a_file_prints_one_drawing file room = prints_one _ _ _ file

-- ---- treecheck: check_file

pub check_file_meets_its_contract : {M : Type 1} → check_stated.statement M
check_file_meets_its_contract = check_proved.met

pub check_file_asks_nothing : (κs : Lfts 2) (before : Lent) → check_entry.Asked κs before
check_file_asks_nothing κs before = tt

pub check_file_gives_the_definition : (κs : Lfts 2) (before after : Lent) (answer : Written) → check_entry.Learnt κs before answer after
    → (record { answer = answer; bytes = after.1.0.now } ≡ printing (length before.1.0.now) (check_text before.0.now))
    × (30 ≤ length before.1.0.now → answer ≡ Ok (length (check_text before.0.now)))
check_file_gives_the_definition κs before after answer learnt = learnt

-- ---- treerun: run_file

pub run_file_meets_its_contract : {M : Type 1} → run_stated.statement M
run_file_meets_its_contract = run_proved.met

pub run_file_asks_nothing : (κs : Lfts 2) (before : Lent) → run_entry.Asked κs before
run_file_asks_nothing κs before = tt

pub run_file_gives_the_definition : (κs : Lfts 2) (before after : Lent) (answer : Written) → run_entry.Learnt κs before answer after
    → (record { answer = answer; bytes = after.1.0.now } ≡ printing (length before.1.0.now) (run_text before.0.now))
    × (most_printed ≤ length before.1.0.now → answer ≡ Ok (length (run_text before.0.now)))
run_file_gives_the_definition κs before after answer learnt = learnt

-- the run of a file with no reader of trees in the definition, and no other
pub a_file_gives_its_run : (file : List ℕ) (lent : ℕ) → FileGives file lent (file_run file lent)
a_file_gives_its_run = is_gives

pub a_file_gives_no_other_run : (file : List ℕ) (lent : ℕ) {outcome : Outcome} → FileGives file lent outcome → outcome ≡ file_run file lent
a_file_gives_no_other_run = gives_is

-- ---- treeorder: order_file

pub order_file_meets_its_contract : {M : Type 1} → order_stated.statement M
order_file_meets_its_contract = order_proved.met

pub order_file_asks_nothing : (κs : Lfts 2) (before : Lent) → order_entry.Asked κs before
order_file_asks_nothing κs before = tt

pub order_file_gives_the_definition : (κs : Lfts 2) (before after : Lent) (answer : Written) → order_entry.Learnt κs before answer after
    → (record { answer = answer; bytes = after.1.0.now } ≡ printing (length before.1.0.now) (order_text before.0.now))
    × (180368 ≤ length before.1.0.now → answer ≡ Ok (length (order_text before.0.now)))
order_file_gives_the_definition κs before after answer learnt = learnt

pub a_file_prints_its_rearrangement : (file : List ℕ) → order.Prints file (order_text file)
a_file_prints_its_rearrangement = file_prints _ _ _

pub a_file_prints_one_rearrangement : (file text text' : List ℕ) → order.Prints file text → order.Prints file text' → text ≡ text'
a_file_prints_one_rearrangement = prints_one _ _ _

-- ---- oldtonew and newtoold: print_new and print_old

pub print_new_meets_its_contract : {M : Type 1} → new_stated.statement M
print_new_meets_its_contract = new_proved.met

pub print_new_asks_nothing : (κs : Lfts 2) (before : Lent) → new_entry.Asked κs before
print_new_asks_nothing κs before = tt

pub print_new_gives_the_definition : (κs : Lfts 2) (before after : Lent) (answer : Written) → new_entry.Learnt κs before answer after
    → (record { answer = answer; bytes = after.1.0.now } ≡ printing (length before.1.0.now) (new_text (length before.1.0.now) before.0.now))
    × (77 ≤ length before.1.0.now → answer ≡ Ok (length (new_text (length before.1.0.now) before.0.now)))
print_new_gives_the_definition κs before after answer learnt = learnt

pub print_old_meets_its_contract : {M : Type 1} → old_stated.statement M
print_old_meets_its_contract = old_proved.met

pub print_old_asks_nothing : (κs : Lfts 2) (before : Lent) → old_entry.Asked κs before
print_old_asks_nothing κs before = tt

pub print_old_gives_the_definition : (κs : Lfts 2) (before after : Lent) (answer : Written) → old_entry.Learnt κs before answer after
    → (record { answer = answer; bytes = after.1.0.now } ≡ printing (length before.1.0.now) (old_text (length before.1.0.now) before.0.now))
    × (77 ≤ length before.1.0.now → answer ≡ Ok (length (old_text (length before.1.0.now) before.0.now)))
print_old_gives_the_definition κs before after answer learnt = learnt

-- with what the programs lend the text always fits: 53 is not printed
pub oldtonew_never_prints_53 : (file : List ℕ) (room : ℕ) → 65542 ≤ room → (old_to_new file room).code < 53
oldtonew_never_prints_53 = new_fits

pub newtoold_never_prints_53 : (file : List ℕ) (room : ℕ) → 32768 ≤ room → (new_to_old file room).code < 53
newtoold_never_prints_53 = old_fits
