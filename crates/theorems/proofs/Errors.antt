-- The methods `code` and `place` of the errors of the code, and `rows` and `visits` of a walk's and a build's: each contract is met and demands nothing, and what a
-- caller learns is the papers' number, as the specs of its crate give it. `table::Refusal`'s stand in Theorems, and those of a run's error and reason in Requests.
-- Statements only, each by the lemma that proves it.
use Prim.Native.Nat.{ℕ}
use mathlib.Core.Path.{◌≡◌}
use contract.Lifetimes.{Lfts}
use Rattle.tree_grammar.specs.Needs as checking
use Rattle.tree_check.specs.Found as tree_check
use Rattle.lookup.specs.Lookup as looking_up
use Rattle.text.specs.Answer as reading
use Rattle.dot.specs.Answer as drawing
use Rattle.convert.specs.WriteAnswer as writing
use Rattle.convert.specs.ConvertAnswer as converting
use Rattle.order.specs.Entry as ordering
use Rattle.values.specs.Refusal as value_walk
use Rattle.walk.specs.Refusal as statement_walk
use Rattle.walk.specs.Answer as walking
use Rattle.build.specs.Entry as building
use Rattle.walk.specs.declared.answer.WalkError.{WalkError}
use Rattle.build.specs.declared.answer.BuildError.{BuildError}
use Rattle.tree_check.specs.declared.TreeError.{TreeError}
use Rattle.lookup.specs.declared.LookupError.{LookupError}
use Rattle.text.specs.declared.read.ReadError.{ReadError}
use Rattle.dot.specs.declared.DrawError.{DrawError}
use Rattle.convert.specs.declared.writing.WriteError.{WriteError}
use Rattle.convert.specs.declared.ConvertError.{ConvertError}
use Rattle.order.specs.declared.OrderError.{OrderError}
use Rattle.values.specs.declared.refusal.Refusal.{Refusal as ValueRefusal}
use Rattle.walk.specs.declared.refusal.Refusal.{Refusal as StatementRefusal}
use Rattle.tree_check.proofs.TreeErrorCoded.code.Statement as tree_error_code_stated
use Rattle.tree_check.proofs.TreeErrorCoded.code.Met as tree_error_code_proved
use Rattle.tree_check.proofs.TreeErrorCoded.code.Reads as tree_error_code
use Rattle.tree_check.proofs.TreeErrorCoded.place.Statement as tree_error_place_stated
use Rattle.tree_check.proofs.TreeErrorCoded.place.Met as tree_error_place_proved
use Rattle.tree_check.proofs.TreeErrorCoded.place.Reads as tree_error_place
use Rattle.lookup.proofs.LookupError.code.Statement as lookup_error_code_stated
use Rattle.lookup.proofs.LookupError.code.Met as lookup_error_code_proved
use Rattle.lookup.proofs.LookupError.code.Reads as lookup_error_code
use Rattle.text.proofs.read.ReadErrorCoded.code.Statement as read_error_code_stated
use Rattle.text.proofs.read.ReadErrorCoded.code.Met as read_error_code_proved
use Rattle.text.proofs.read.ReadErrorCoded.code.Reads as read_error_code
use Rattle.text.proofs.read.ReadErrorCoded.place.Statement as read_error_place_stated
use Rattle.text.proofs.read.ReadErrorCoded.place.Met as read_error_place_proved
use Rattle.text.proofs.read.ReadErrorCoded.place.Reads as read_error_place
use Rattle.dot.proofs.DrawErrorCoded.code.Statement as draw_error_code_stated
use Rattle.dot.proofs.DrawErrorCoded.code.Met as draw_error_code_proved
use Rattle.dot.proofs.DrawErrorCoded.code.Reads as draw_error_code
use Rattle.dot.proofs.DrawErrorCoded.place.Statement as draw_error_place_stated
use Rattle.dot.proofs.DrawErrorCoded.place.Met as draw_error_place_proved
use Rattle.dot.proofs.DrawErrorCoded.place.Reads as draw_error_place
use Rattle.convert.proofs.writing.WriteErrorCoded.code.Statement as write_error_code_stated
use Rattle.convert.proofs.writing.WriteErrorCoded.code.Met as write_error_code_proved
use Rattle.convert.proofs.writing.WriteErrorCoded.code.Reads as write_error_code
use Rattle.convert.proofs.writing.WriteErrorCoded.place.Statement as write_error_place_stated
use Rattle.convert.proofs.writing.WriteErrorCoded.place.Met as write_error_place_proved
use Rattle.convert.proofs.writing.WriteErrorCoded.place.Reads as write_error_place
use Rattle.convert.proofs.ConvertErrorCoded.code.Statement as convert_error_code_stated
use Rattle.convert.proofs.ConvertErrorCoded.code.Met as convert_error_code_proved
use Rattle.convert.proofs.ConvertErrorCoded.code.Reads as convert_error_code
use Rattle.convert.proofs.ConvertErrorCoded.place.Statement as convert_error_place_stated
use Rattle.convert.proofs.ConvertErrorCoded.place.Met as convert_error_place_proved
use Rattle.convert.proofs.ConvertErrorCoded.place.Reads as convert_error_place
use Rattle.order.proofs.OrderErrorCoded.code.Statement as order_error_code_stated
use Rattle.order.proofs.OrderErrorCoded.code.Met as order_error_code_proved
use Rattle.order.proofs.OrderErrorCoded.code.Reads as order_error_code
use Rattle.order.proofs.OrderErrorCoded.place.Statement as order_error_place_stated
use Rattle.order.proofs.OrderErrorCoded.place.Met as order_error_place_proved
use Rattle.order.proofs.OrderErrorCoded.place.Reads as order_error_place
use Rattle.values.proofs.refusal.Refusal.code.Statement as value_refusal_code_stated
use Rattle.values.proofs.refusal.Refusal.code.Met as value_refusal_code_proved
use Rattle.values.proofs.refusal.Refusal.code.Reads as value_refusal_code
use Rattle.values.proofs.refusal.Refusal.place.Statement as value_refusal_place_stated
use Rattle.values.proofs.refusal.Refusal.place.Met as value_refusal_place_proved
use Rattle.values.proofs.refusal.Refusal.place.Reads as value_refusal_place
use Rattle.walk.proofs.refusal.Refusal.code.Statement as statement_refusal_code_stated
use Rattle.walk.proofs.refusal.Refusal.code.Met as statement_refusal_code_proved
use Rattle.walk.proofs.refusal.Refusal.code.Reads as statement_refusal_code
use Rattle.walk.proofs.refusal.Refusal.place.Statement as statement_refusal_place_stated
use Rattle.walk.proofs.refusal.Refusal.place.Met as statement_refusal_place_proved
use Rattle.walk.proofs.refusal.Refusal.place.Reads as statement_refusal_place
use Rattle.walk.proofs.answer.WalkErrorNumbered.code.Statement as walk_error_code_stated
use Rattle.walk.proofs.answer.WalkErrorNumbered.code.Met as walk_error_code_proved
use Rattle.walk.proofs.answer.WalkErrorNumbered.code.Reads as walk_error_code
use Rattle.walk.proofs.answer.WalkErrorNumbered.place.Statement as walk_error_place_stated
use Rattle.walk.proofs.answer.WalkErrorNumbered.place.Met as walk_error_place_proved
use Rattle.walk.proofs.answer.WalkErrorNumbered.place.Reads as walk_error_place
use Rattle.walk.proofs.answer.WalkErrorNumbered.rows.Statement as walk_error_rows_stated
use Rattle.walk.proofs.answer.WalkErrorNumbered.rows.Met as walk_error_rows_proved
use Rattle.walk.proofs.answer.WalkErrorNumbered.rows.Reads as walk_error_rows
use Rattle.walk.proofs.answer.WalkErrorNumbered.visits.Statement as walk_error_visits_stated
use Rattle.walk.proofs.answer.WalkErrorNumbered.visits.Met as walk_error_visits_proved
use Rattle.walk.proofs.answer.WalkErrorNumbered.visits.Reads as walk_error_visits
use Rattle.build.proofs.answer.BuildErrorNumbered.code.Statement as build_error_code_stated
use Rattle.build.proofs.answer.BuildErrorNumbered.code.Met as build_error_code_proved
use Rattle.build.proofs.answer.BuildErrorNumbered.code.Reads as build_error_code
use Rattle.build.proofs.answer.BuildErrorNumbered.place.Statement as build_error_place_stated
use Rattle.build.proofs.answer.BuildErrorNumbered.place.Met as build_error_place_proved
use Rattle.build.proofs.answer.BuildErrorNumbered.place.Reads as build_error_place
use Rattle.build.proofs.answer.BuildErrorNumbered.rows.Statement as build_error_rows_stated
use Rattle.build.proofs.answer.BuildErrorNumbered.rows.Met as build_error_rows_proved
use Rattle.build.proofs.answer.BuildErrorNumbered.rows.Reads as build_error_rows
use Rattle.build.proofs.answer.BuildErrorNumbered.visits.Statement as build_error_visits_stated
use Rattle.build.proofs.answer.BuildErrorNumbered.visits.Met as build_error_visits_proved
use Rattle.build.proofs.answer.BuildErrorNumbered.visits.Reads as build_error_visits

-- ---- a tree that the check refuses

pub the_methods_of_tree_error_meet_their_contracts : {M : Type 1} → tree_error_code_stated.statement M × tree_error_place_stated.statement M
the_methods_of_tree_error_meet_their_contracts = (tree_error_code_proved.met, tree_error_place_proved.met)

pub the_methods_of_tree_error_ask_nothing : (κs : Lfts 0) (before : TreeError × Unit {0}) → tree_error_code.Asked κs before × tree_error_place.Asked κs before
the_methods_of_tree_error_ask_nothing κs before = (tt, tt)

pub tree_error_code_gives_the_definition : (κs : Lfts 0) (before after : TreeError × Unit {0}) (code : ℕ) → tree_error_code.Learnt κs before code after
    → code ≡ checking.code_of (tree_check.verdict_of before.0)
tree_error_code_gives_the_definition κs before after code learnt = learnt

pub tree_error_place_gives_the_definition : (κs : Lfts 0) (before after : TreeError × Unit {0}) (place : ℕ) → tree_error_place.Learnt κs before place after
    → place ≡ checking.at_of (tree_check.verdict_of before.0)
tree_error_place_gives_the_definition κs before after place learnt = learnt

-- ---- a lookup that finds nothing, which has no place

pub lookup_error_code_meets_its_contract : {M : Type 1} → lookup_error_code_stated.statement M
lookup_error_code_meets_its_contract = lookup_error_code_proved.met

pub lookup_error_code_asks_nothing : (κs : Lfts 0) (before : LookupError × Unit {0}) → lookup_error_code.Asked κs before
lookup_error_code_asks_nothing κs before = tt

pub lookup_error_code_gives_the_definition : (κs : Lfts 0) (before after : LookupError × Unit {0}) (code : ℕ) → lookup_error_code.Learnt κs before code after
    → code ≡ looking_up.code_of before.0
lookup_error_code_gives_the_definition κs before after code learnt = learnt

-- ---- a table's file that is not read

pub the_methods_of_read_error_meet_their_contracts : {M : Type 1} → read_error_code_stated.statement M × read_error_place_stated.statement M
the_methods_of_read_error_meet_their_contracts = (read_error_code_proved.met, read_error_place_proved.met)

pub the_methods_of_read_error_ask_nothing : (κs : Lfts 0) (before : ReadError × Unit {0}) → read_error_code.Asked κs before × read_error_place.Asked κs before
the_methods_of_read_error_ask_nothing κs before = (tt, tt)

pub read_error_code_gives_the_definition : (κs : Lfts 0) (before after : ReadError × Unit {0}) (code : ℕ) → read_error_code.Learnt κs before code after
    → code ≡ reading.code_of before.0
read_error_code_gives_the_definition κs before after code learnt = learnt

pub read_error_place_gives_the_definition : (κs : Lfts 0) (before after : ReadError × Unit {0}) (place : ℕ) → read_error_place.Learnt κs before place after
    → place ≡ reading.place_of before.0
read_error_place_gives_the_definition κs before after place learnt = learnt

-- ---- words that are not drawn

pub the_methods_of_draw_error_meet_their_contracts : {M : Type 1} → draw_error_code_stated.statement M × draw_error_place_stated.statement M
the_methods_of_draw_error_meet_their_contracts = (draw_error_code_proved.met, draw_error_place_proved.met)

pub the_methods_of_draw_error_ask_nothing : (κs : Lfts 0) (before : DrawError × Unit {0}) → draw_error_code.Asked κs before × draw_error_place.Asked κs before
the_methods_of_draw_error_ask_nothing κs before = (tt, tt)

pub draw_error_code_gives_the_definition : (κs : Lfts 0) (before after : DrawError × Unit {0}) (code : ℕ) → draw_error_code.Learnt κs before code after
    → code ≡ drawing.code_of before.0
draw_error_code_gives_the_definition κs before after code learnt = learnt

pub draw_error_place_gives_the_definition : (κs : Lfts 0) (before after : DrawError × Unit {0}) (place : ℕ) → draw_error_place.Learnt κs before place after
    → place ≡ drawing.place_of before.0
draw_error_place_gives_the_definition κs before after place learnt = learnt

-- ---- words that are not written

pub the_methods_of_write_error_meet_their_contracts : {M : Type 1} → write_error_code_stated.statement M × write_error_place_stated.statement M
the_methods_of_write_error_meet_their_contracts = (write_error_code_proved.met, write_error_place_proved.met)

pub the_methods_of_write_error_ask_nothing : (κs : Lfts 0) (before : WriteError × Unit {0}) → write_error_code.Asked κs before × write_error_place.Asked κs before
the_methods_of_write_error_ask_nothing κs before = (tt, tt)

pub write_error_code_gives_the_definition : (κs : Lfts 0) (before after : WriteError × Unit {0}) (code : ℕ) → write_error_code.Learnt κs before code after
    → code ≡ writing.code_of before.0
write_error_code_gives_the_definition κs before after code learnt = learnt

pub write_error_place_gives_the_definition : (κs : Lfts 0) (before after : WriteError × Unit {0}) (place : ℕ) → write_error_place.Learnt κs before place after
    → place ≡ writing.place_of before.0
write_error_place_gives_the_definition κs before after place learnt = learnt

-- ---- a file that is not converted

pub the_methods_of_convert_error_meet_their_contracts : {M : Type 1} → convert_error_code_stated.statement M × convert_error_place_stated.statement M
the_methods_of_convert_error_meet_their_contracts = (convert_error_code_proved.met, convert_error_place_proved.met)

pub the_methods_of_convert_error_ask_nothing : (κs : Lfts 0) (before : ConvertError × Unit {0}) → convert_error_code.Asked κs before × convert_error_place.Asked κs before
the_methods_of_convert_error_ask_nothing κs before = (tt, tt)

pub convert_error_code_gives_the_definition : (κs : Lfts 0) (before after : ConvertError × Unit {0}) (code : ℕ) → convert_error_code.Learnt κs before code after
    → code ≡ converting.code_of before.0
convert_error_code_gives_the_definition κs before after code learnt = learnt

pub convert_error_place_gives_the_definition : (κs : Lfts 0) (before after : ConvertError × Unit {0}) (place : ℕ) → convert_error_place.Learnt κs before place after
    → place ≡ converting.place_of before.0
convert_error_place_gives_the_definition κs before after place learnt = learnt

-- ---- blocks that are not moved

pub the_methods_of_order_error_meet_their_contracts : {M : Type 1} → order_error_code_stated.statement M × order_error_place_stated.statement M
the_methods_of_order_error_meet_their_contracts = (order_error_code_proved.met, order_error_place_proved.met)

pub the_methods_of_order_error_ask_nothing : (κs : Lfts 0) (before : OrderError × Unit {0}) → order_error_code.Asked κs before × order_error_place.Asked κs before
the_methods_of_order_error_ask_nothing κs before = (tt, tt)

pub order_error_code_gives_the_definition : (κs : Lfts 0) (before after : OrderError × Unit {0}) (code : ℕ) → order_error_code.Learnt κs before code after
    → code ≡ ordering.code_of before.0
order_error_code_gives_the_definition κs before after code learnt = learnt

pub order_error_place_gives_the_definition : (κs : Lfts 0) (before after : OrderError × Unit {0}) (place : ℕ) → order_error_place.Learnt κs before place after
    → place ≡ ordering.place_of before.0
order_error_place_gives_the_definition κs before after place learnt = learnt

-- ---- a value walk's refusal

pub the_methods_of_value_refusal_meet_their_contracts : {M : Type 1} → value_refusal_code_stated.statement M × value_refusal_place_stated.statement M
the_methods_of_value_refusal_meet_their_contracts = (value_refusal_code_proved.met, value_refusal_place_proved.met)

pub the_methods_of_value_refusal_ask_nothing : (κs : Lfts 0) (before : ValueRefusal × Unit {0}) → value_refusal_code.Asked κs before × value_refusal_place.Asked κs before
the_methods_of_value_refusal_ask_nothing κs before = (tt, tt)

pub value_refusal_code_gives_the_definition : (κs : Lfts 0) (before after : ValueRefusal × Unit {0}) (code : ℕ) → value_refusal_code.Learnt κs before code after
    → code ≡ value_walk.code_of before.0
value_refusal_code_gives_the_definition κs before after code learnt = learnt

pub value_refusal_place_gives_the_definition : (κs : Lfts 0) (before after : ValueRefusal × Unit {0}) (place : ℕ) → value_refusal_place.Learnt κs before place after
    → place ≡ value_walk.place_of before.0
value_refusal_place_gives_the_definition κs before after place learnt = learnt

-- ---- a statement walk's refusal

pub the_methods_of_statement_refusal_meet_their_contracts : {M : Type 1} → statement_refusal_code_stated.statement M × statement_refusal_place_stated.statement M
the_methods_of_statement_refusal_meet_their_contracts = (statement_refusal_code_proved.met, statement_refusal_place_proved.met)

pub the_methods_of_statement_refusal_ask_nothing : (κs : Lfts 0) (before : StatementRefusal × Unit {0}) → statement_refusal_code.Asked κs before × statement_refusal_place.Asked κs before
the_methods_of_statement_refusal_ask_nothing κs before = (tt, tt)

pub statement_refusal_code_gives_the_definition : (κs : Lfts 0) (before after : StatementRefusal × Unit {0}) (code : ℕ) → statement_refusal_code.Learnt κs before code after
    → code ≡ statement_walk.refusal_code before.0
statement_refusal_code_gives_the_definition κs before after code learnt = learnt

pub statement_refusal_place_gives_the_definition : (κs : Lfts 0) (before after : StatementRefusal × Unit {0}) (place : ℕ) → statement_refusal_place.Learnt κs before place after
    → place ≡ statement_walk.refusal_place before.0
statement_refusal_place_gives_the_definition κs before after place learnt = learnt

-- ---- words or a table that the walk refuses: rows and visits too

pub the_methods_of_walk_error_meet_their_contracts : {M : Type 1}
    → walk_error_code_stated.statement M × walk_error_place_stated.statement M × walk_error_rows_stated.statement M × walk_error_visits_stated.statement M
the_methods_of_walk_error_meet_their_contracts = (walk_error_code_proved.met, walk_error_place_proved.met, walk_error_rows_proved.met, walk_error_visits_proved.met)

pub the_methods_of_walk_error_ask_nothing : (κs : Lfts 0) (before : WalkError × Unit {0})
    → walk_error_code.Asked κs before × walk_error_place.Asked κs before × walk_error_rows.Asked κs before × walk_error_visits.Asked κs before
the_methods_of_walk_error_ask_nothing κs before = (tt, tt, tt, tt)

pub walk_error_code_gives_the_definition : (κs : Lfts 0) (before after : WalkError × Unit {0}) (code : ℕ) → walk_error_code.Learnt κs before code after
    → code ≡ walking.code_of before.0
walk_error_code_gives_the_definition κs before after code learnt = learnt

pub walk_error_place_gives_the_definition : (κs : Lfts 0) (before after : WalkError × Unit {0}) (place : ℕ) → walk_error_place.Learnt κs before place after
    → place ≡ walking.place_of before.0
walk_error_place_gives_the_definition κs before after place learnt = learnt

pub walk_error_rows_gives_the_definition : (κs : Lfts 0) (before after : WalkError × Unit {0}) (rows : ℕ) → walk_error_rows.Learnt κs before rows after
    → rows ≡ walking.rows_of before.0
walk_error_rows_gives_the_definition κs before after rows learnt = learnt

pub walk_error_visits_gives_the_definition : (κs : Lfts 0) (before after : WalkError × Unit {0}) (visits : ℕ) → walk_error_visits.Learnt κs before visits after
    → visits ≡ walking.visits_of before.0
walk_error_visits_gives_the_definition κs before after visits learnt = learnt

-- ---- a build that is refused

pub the_methods_of_build_error_meet_their_contracts : {M : Type 1}
    → build_error_code_stated.statement M × build_error_place_stated.statement M × build_error_rows_stated.statement M × build_error_visits_stated.statement M
the_methods_of_build_error_meet_their_contracts = (build_error_code_proved.met, build_error_place_proved.met, build_error_rows_proved.met, build_error_visits_proved.met)

pub the_methods_of_build_error_ask_nothing : (κs : Lfts 0) (before : BuildError × Unit {0})
    → build_error_code.Asked κs before × build_error_place.Asked κs before × build_error_rows.Asked κs before × build_error_visits.Asked κs before
the_methods_of_build_error_ask_nothing κs before = (tt, tt, tt, tt)

pub build_error_code_gives_the_definition : (κs : Lfts 0) (before after : BuildError × Unit {0}) (code : ℕ) → build_error_code.Learnt κs before code after
    → code ≡ building.code_of before.0
build_error_code_gives_the_definition κs before after code learnt = learnt

pub build_error_place_gives_the_definition : (κs : Lfts 0) (before after : BuildError × Unit {0}) (place : ℕ) → build_error_place.Learnt κs before place after
    → place ≡ building.place_of before.0
build_error_place_gives_the_definition κs before after place learnt = learnt

pub build_error_rows_gives_the_definition : (κs : Lfts 0) (before after : BuildError × Unit {0}) (rows : ℕ) → build_error_rows.Learnt κs before rows after
    → rows ≡ building.rows_of before.0
build_error_rows_gives_the_definition κs before after rows learnt = learnt

pub build_error_visits_gives_the_definition : (κs : Lfts 0) (before after : BuildError × Unit {0}) (visits : ℕ) → build_error_visits.Learnt κs before visits after
    → visits ≡ building.visits_of before.0
build_error_visits_gives_the_definition κs before after visits learnt = learnt
