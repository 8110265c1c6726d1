-- The value walk: the Rust's visit_value_block, visit_value_block_terminal, visit_test_block and their helpers.
-- It holds no Context: "Value visits never test or set the emitted set." Only the visits are counted on.
use Rattle.std.specs.Prelude.{ℕ, zero, suc, List, [], ◌∷◌, Bool, true, false, ◌&&◌, get_or, eqb, leb}
use Rattle.std.proofs.Math.Option.{Option, none, some}
use Rattle.table.specs.declared.columns.Span.{Span}
use Rattle.table.specs.Table.{Table, Block, Terminal, Instruction, Operation, absent, unreachable, throw, return, goto, if, branch, switch, do_while, while, for}
use Rattle.table.specs.Table.{for_of, for_in, logical, ternary, optional, sequence, maybe_throw, try, scope, other, load_local, store_local, is_absent, is_goto, block_at}
use Rattle.table.specs.Table.{terminal_at, instruction_at, instruction_rows, label}
use Rattle.definition.specs.Result.{Result, ok, refused, ◌>>=◌, refuse_if, maybe_throw_in_value_terminal}
use Rattle.definition.specs.Tree.{Value, PLAIN, LOAD, UNDEF, SEQ, LOGICAL, COND, OPTIONAL, Instructions, no_instructions, instruction}

-- ---- visits

-- "Depth at most 128, visits at most 8,192."
abbrev pub most_depth : ℕ
most_depth = 128

abbrev pub most_visits : ℕ
most_visits = 8192

-- "Order at a visit: 30, 31, 10": 30 is given where no depth is left, before this. A visit refused 10 counts
unfoldable pub begin_visit : Table → (block visits : ℕ) → Result ℕ
begin_visit t block visits =
    refuse_if (leb most_visits visits) 31 block visits >>= λ _.
    refuse_if (is_absent (terminal_at t block)) 10 block (suc visits) >>= λ _.
    ok (suc visits)

-- ---- the value of instruction rows

-- a value block's value: `place` holds it, `block` is the block that it ends in, `id` the final value's
pub record ValueBlockResult : Type 0 where
  pub block : ℕ
  pub place : ℕ
  pub value : Value
  pub id : ℕ
  pub visits : ℕ

-- a value terminal's value, and the fallthrough that comes after it
pub record ValueTerminalResult : Type 0 where
  pub value : Value
  pub place : ℕ
  pub fallthrough : ℕ
  pub id : ℕ
  pub visits : ℕ

abbrev pub is_empty : List ℕ → Bool
is_empty [] = true
is_empty (row ∷ rows) = false

-- the instructions of some rows, and then more: "PLAIN instruction row, whatever its code"
unfoldable pub instructions_of : Table → List ℕ → Instructions → Instructions
instructions_of t [] more = more
instructions_of t (row ∷ rows) more = instruction (instruction_at t row).id (instruction_at t row).lvalue (instruction_at t row).span (PLAIN row) (instructions_of t rows more)

-- the Rust's wrap_with_sequence: no SEQ where there is no instruction
unfoldable pub wrap_with_sequence : Table → List ℕ → (id : ℕ) → Value → Value
wrap_with_sequence t [] id value = value
wrap_with_sequence t (row ∷ rows) id value = SEQ (instructions_of t (row ∷ rows) no_instructions) id value

-- "Last instruction StoreLocal to an unnamed identifier: the value is a LOAD of the place whose value is stored (q), and the result's place
-- is the one stored to (p)." `named` is what `stored_to_named` gives
unfoldable pub final_value : (row : ℕ) → Operation → (named : ℕ) → Value
final_value row other named = PLAIN row
final_value row (load_local place) named = PLAIN row
final_value row (store_local stored_to stored_value) zero = LOAD stored_value
final_value row (store_local stored_to stored_value) (suc named) = PLAIN row

unfoldable pub final_place : Operation → (named lvalue : ℕ) → ℕ
final_place other named lvalue = lvalue
final_place (load_local place) named lvalue = lvalue
final_place (store_local stored_to stored_value) zero lvalue = stored_to
final_place (store_local stored_to stored_value) (suc named) lvalue = lvalue

-- 0 for a store to an unnamed identifier, and for nothing else
unfoldable pub stored_to_named : Table → Operation → ℕ
stored_to_named t other = 1
stored_to_named t (load_local place) = 1
stored_to_named t (store_local stored_to stored_value) = get_or t.named (get_or t.places stored_to 0) 0

-- of the rows row ∷ rows: all but the last, and the last
unfoldable pub all_but_last : ℕ → List ℕ → List ℕ
all_but_last row [] = []
all_but_last row (next ∷ rows) = row ∷ all_but_last next rows

unfoldable pub last : ℕ → List ℕ → ℕ
last row [] = row
last row (next ∷ rows) = last next rows

-- the Rust's extract_value_block_result, of the rows row ∷ rows
unfoldable pub extract_value_block_result : Table → (block row : ℕ) → List ℕ → (visits : ℕ) → ValueBlockResult
extract_value_block_result t block row rows visits =
    let final : ℕ = last row rows in
    let instr : Instruction = instruction_at t final in
    let named : ℕ = stored_to_named t instr.operation in
    record {
      block = block;
      place = final_place instr.operation named instr.lvalue;
      value = wrap_with_sequence t (all_but_last row rows) instr.id (final_value final instr.operation named);
      id = instr.id;
      visits = visits;
    }

-- the same of rows that may be none, which is refused
unfoldable pub extract_or_refuse : Table → (block : ℕ) → List ℕ → (visits code at : ℕ) → Result ValueBlockResult
extract_or_refuse t block [] visits code at = refused code at visits
extract_or_refuse t block (row ∷ rows) visits code at = ok (extract_value_block_result t block row rows visits)

-- ---- tests and value terminals. `visit` is the value walk one level deeper

-- a visit of a block: the fallthrough that must not be reached, if any, the span passed down, and the visits so far
abbrev pub VisitValueBlock : Type 0
VisitValueBlock = (block : ℕ) → (fallthrough : Option ℕ) → (span : Span) (visits : ℕ) → Result ValueBlockResult

-- the two ways of a Branch, and none of another terminal
pub record Ways : Type 0 where
  pub consequent : ℕ
  pub alternate : ℕ

abbrev pub branch_ways : Terminal → Option Ways
branch_ways absent = none
branch_ways unreachable = none
branch_ways (throw value) = none
branch_ways (return value) = none
branch_ways (goto block variant) = none
branch_ways (if test consequent alternate fallthrough) = none
branch_ways (branch test consequent alternate) = some (record { consequent = consequent; alternate = alternate })
branch_ways (switch test first number fallthrough) = none
branch_ways (do_while loop test fallthrough) = none
branch_ways (while test loop fallthrough) = none
branch_ways (for init test update loop fallthrough) = none
branch_ways (for_of init test loop fallthrough) = none
branch_ways (for_in init loop fallthrough) = none
branch_ways (logical operator test fallthrough) = none
branch_ways (ternary test fallthrough) = none
branch_ways (optional flag test fallthrough) = none
branch_ways (label block fallthrough) = none
branch_ways (sequence block fallthrough) = none
branch_ways (maybe_throw continuation) = none
branch_ways (try block handler fallthrough binding) = none
branch_ways (scope pruned block fallthrough number) = none

pub record TestBlockResult : Type 0 where
  pub test : ValueBlockResult
  pub ways : Ways

-- "25 test not ended by Branch", at the block with the value terminal
unfoldable pub test_block_ended : ValueBlockResult → Option Ways → (at : ℕ) → Result TestBlockResult
test_block_ended test none at = refused 25 at test.visits
test_block_ended test (some ways) at = ok (record { test = test; ways = ways })

unfoldable pub visit_test_block : Table → VisitValueBlock → (block : ℕ) (span : Span) (visits at : ℕ) → Result TestBlockResult
visit_test_block t visit block span visits at = visit block none span visits >>= λ test. test_block_ended test (branch_ways (terminal_at t test.block)) at

abbrev pub single_instruction : (id lvalue : ℕ) (span : Span) → Value → Instructions
single_instruction id lvalue span value = instruction id lvalue span value no_instructions

-- the value terminal at the end of the block `at`, with that block's id and span. "26 Label, 27 another kind, in a value block"
unfoldable pub visit_value_block_terminal : Table → VisitValueBlock → Terminal → (id : ℕ) (span : Span) (visits at : ℕ) → Result ValueTerminalResult
visit_value_block_terminal t visit absent id span visits at = refused 27 at visits
visit_value_block_terminal t visit unreachable id span visits at = refused 27 at visits
visit_value_block_terminal t visit (throw value) id span visits at = refused 27 at visits
visit_value_block_terminal t visit (return value) id span visits at = refused 27 at visits
visit_value_block_terminal t visit (goto block variant) id span visits at = refused 27 at visits
visit_value_block_terminal t visit (if test consequent alternate fallthrough) id span visits at = refused 27 at visits
visit_value_block_terminal t visit (branch test consequent alternate) id span visits at = refused 27 at visits
visit_value_block_terminal t visit (switch test first number fallthrough) id span visits at = refused 27 at visits
visit_value_block_terminal t visit (do_while loop test fallthrough) id span visits at = refused 27 at visits
visit_value_block_terminal t visit (while test loop fallthrough) id span visits at = refused 27 at visits
visit_value_block_terminal t visit (for init test update loop fallthrough) id span visits at = refused 27 at visits
visit_value_block_terminal t visit (for_of init test loop fallthrough) id span visits at = refused 27 at visits
visit_value_block_terminal t visit (for_in init loop fallthrough) id span visits at = refused 27 at visits
visit_value_block_terminal t visit (logical operator test fallthrough) id span visits at =
    visit_test_block t visit test span visits at >>= λ tested.
    visit tested.ways.consequent (some fallthrough) span tested.test.visits >>= λ left.
    visit tested.ways.alternate (some fallthrough) span left.visits >>= λ right.
    ok (record {
      value = LOGICAL operator (SEQ (single_instruction tested.test.id tested.test.place span tested.test.value) left.id left.value) right.value;
      place = left.place;
      fallthrough = fallthrough;
      id = id;
      visits = right.visits;
    })
visit_value_block_terminal t visit (ternary test fallthrough) id span visits at =
    visit_test_block t visit test span visits at >>= λ tested.
    visit tested.ways.consequent (some fallthrough) span tested.test.visits >>= λ consequent.
    visit tested.ways.alternate (some fallthrough) span consequent.visits >>= λ alternate.
    ok (record {
      value = COND tested.test.value consequent.value alternate.value;
      place = consequent.place;
      fallthrough = fallthrough;
      id = id;
      visits = alternate.visits;
    })
visit_value_block_terminal t visit (optional flag test fallthrough) id span visits at =
    visit_test_block t visit test span visits at >>= λ tested.
    visit tested.ways.consequent (some fallthrough) span tested.test.visits >>= λ consequent.
    ok (record {
      value = OPTIONAL flag (SEQ (single_instruction tested.test.id tested.test.place (block_at t tested.test.block).span tested.test.value) consequent.id consequent.value);
      place = consequent.place;
      fallthrough = fallthrough;
      id = id;
      visits = consequent.visits;
    })
visit_value_block_terminal t visit (label block fallthrough) id span visits at = refused 26 at visits
visit_value_block_terminal t visit (sequence block fallthrough) id span visits at =
    visit block (some fallthrough) span visits >>= λ inner.
    ok (record { value = inner.value; place = inner.place; fallthrough = fallthrough; id = id; visits = inner.visits })
visit_value_block_terminal t visit (maybe_throw continuation) id span visits at = refused maybe_throw_in_value_terminal at visits
visit_value_block_terminal t visit (try block handler fallthrough binding) id span visits at = refused 27 at visits
visit_value_block_terminal t visit (scope pruned block fallthrough number) id span visits at = refused 27 at visits

-- ---- a block in a value walk

-- a value terminal's value becomes an instruction, and the value is that of its fallthrough. The instruction has the span passed down
unfoldable pub then_fallthrough : Table → VisitValueBlock → Block → (span : Span) → Result ValueTerminalResult → Result ValueBlockResult
then_fallthrough t visit block span terminal =
    terminal >>= λ init. visit init.fallthrough none span init.visits >>= λ final.
    ok (record {
      block = final.block;
      place = final.place;
      value = SEQ (instructions_of t (instruction_rows block) (single_instruction init.id init.place span init.value)) final.id final.value;
      id = final.id;
      visits = final.visits;
    })

-- a Branch: its last instruction, or a LOAD of its test where it has none
unfoldable pub branch_value : Table → (number test id : ℕ) → List ℕ → (visits : ℕ) → Result ValueBlockResult
branch_value t number test id [] visits = ok (record { block = number; place = test; value = LOAD test; id = id; visits = visits })
branch_value t number test id (row ∷ rows) visits = ok (extract_value_block_result t number row rows visits)

unfoldable pub is_empty_goto : Block → Bool
is_empty_goto block = is_empty (instruction_rows block) && is_goto block.terminal

-- "A value block ending in MaybeThrow whose continuation is an empty Goto block takes its own last instruction as value.
-- With no instruction the Rust panics; here 28." The result's block is the continuation
unfoldable pub maybe_throw_value : Table → VisitValueBlock → (number continuation : ℕ) → List ℕ → Option ℕ → (span : Span) (visits : ℕ) → Bool → Result ValueBlockResult
maybe_throw_value t visit number continuation rows fallthrough span visits true = extract_or_refuse t continuation rows visits 28 number
maybe_throw_value t visit number continuation rows fallthrough span visits false =
    visit continuation fallthrough span visits >>= λ final.
    ok (record { block = final.block; place = final.place; value = wrap_with_sequence t rows final.id final.value; id = final.id; visits = final.visits })

-- of a block that ends in a value terminal, or in one that a value block must not have: the terminal, and then its fallthrough
abbrev pub terminal_then_fallthrough : Table → VisitValueBlock → Terminal → ℕ → Block → (span : Span) (visits : ℕ) → Result ValueBlockResult
terminal_then_fallthrough t visit terminal number block span visits =
    then_fallthrough t visit block span (visit_value_block_terminal t visit terminal block.id block.span visits number)

-- by the terminal of the block `number`, which is present and not `outer`, the fallthrough that must not be reached.
-- "24 empty Goto value block (named)". "That continuation is looked up first, before any visit: 10 if missing."
unfoldable pub visit_value_block_at : Table → VisitValueBlock → Terminal → ℕ → Block → (outer : Option ℕ) → (span : Span) (visits : ℕ) → Result ValueBlockResult
visit_value_block_at t visit absent number block outer span visits = terminal_then_fallthrough t visit absent number block span visits
visit_value_block_at t visit unreachable number block outer span visits = terminal_then_fallthrough t visit unreachable number block span visits
visit_value_block_at t visit (throw value) number block outer span visits = terminal_then_fallthrough t visit (throw value) number block span visits
visit_value_block_at t visit (return value) number block outer span visits = terminal_then_fallthrough t visit (return value) number block span visits
visit_value_block_at t visit (goto target variant) number block outer span visits = extract_or_refuse t number (instruction_rows block) visits 24 number
visit_value_block_at t visit (if test consequent alternate fallthrough) number block outer span visits =
    terminal_then_fallthrough t visit (if test consequent alternate fallthrough) number block span visits
visit_value_block_at t visit (branch test consequent alternate) number block outer span visits = branch_value t number test block.id (instruction_rows block) visits
visit_value_block_at t visit (switch test first cases fallthrough) number block outer span visits = terminal_then_fallthrough t visit (switch test first cases fallthrough) number block span visits
visit_value_block_at t visit (do_while loop test fallthrough) number block outer span visits = terminal_then_fallthrough t visit (do_while loop test fallthrough) number block span visits
visit_value_block_at t visit (while test loop fallthrough) number block outer span visits = terminal_then_fallthrough t visit (while test loop fallthrough) number block span visits
visit_value_block_at t visit (for init test update loop fallthrough) number block outer span visits = terminal_then_fallthrough t visit (for init test update loop fallthrough) number block span visits
visit_value_block_at t visit (for_of init test loop fallthrough) number block outer span visits = terminal_then_fallthrough t visit (for_of init test loop fallthrough) number block span visits
visit_value_block_at t visit (for_in init loop fallthrough) number block outer span visits = terminal_then_fallthrough t visit (for_in init loop fallthrough) number block span visits
visit_value_block_at t visit (logical operator test fallthrough) number block outer span visits = terminal_then_fallthrough t visit (logical operator test fallthrough) number block span visits
visit_value_block_at t visit (ternary test fallthrough) number block outer span visits = terminal_then_fallthrough t visit (ternary test fallthrough) number block span visits
visit_value_block_at t visit (optional flag test fallthrough) number block outer span visits = terminal_then_fallthrough t visit (optional flag test fallthrough) number block span visits
visit_value_block_at t visit (label body fallthrough) number block outer span visits = terminal_then_fallthrough t visit (label body fallthrough) number block span visits
visit_value_block_at t visit (sequence body fallthrough) number block outer span visits = terminal_then_fallthrough t visit (sequence body fallthrough) number block span visits
visit_value_block_at t visit (maybe_throw continuation) number block outer span visits =
    refuse_if (is_absent (terminal_at t continuation)) 10 continuation visits >>= λ _.
    maybe_throw_value t visit number continuation (instruction_rows block) outer span visits (is_empty_goto (block_at t continuation))
visit_value_block_at t visit (try body handler fallthrough binding) number block outer span visits = terminal_then_fallthrough t visit (try body handler fallthrough binding) number block span visits
visit_value_block_at t visit (scope pruned body fallthrough scoped) number block outer span visits = terminal_then_fallthrough t visit (scope pruned body fallthrough scoped) number block span visits

-- whether a visit reaches the fallthrough that it must not reach, if there is one
abbrev pub is_fallthrough : Option ℕ → ℕ → Bool
is_fallthrough none block = false
is_fallthrough (some fallthrough) block = eqb fallthrough block

-- the value walk with `depth_left` levels of depth left. "Order at a visit: 30, 31, 10, then 11 or 23"
unfoldable pub visit_value_block : Table → (depth_left : ℕ) → VisitValueBlock
unfolding visit_value_block_at
visit_value_block t zero block fallthrough span visits = refused 30 block visits
visit_value_block t (suc depth_left) block fallthrough span visits =
    begin_visit t block visits >>= λ begun.
    refuse_if (is_fallthrough fallthrough block) 23 block begun >>= λ _.
    visit_value_block_at t (visit_value_block t depth_left) (terminal_at t block) block (block_at t block) fallthrough span begun

-- ---- value_block_result_to_sequence: "flattened through every trailing sequence"

unfoldable pub appended : Instructions → Instructions → Instructions
appended no_instructions more = more
appended (instruction id lvalue span value rest) more = instruction id lvalue span value (appended rest more)

-- the instructions of all trailing sequences of a value, and then more
abbrev pub sequenced_instructions : Value → Instructions → Instructions
sequenced_instructions (PLAIN row) more = more
sequenced_instructions (LOAD place) more = more
sequenced_instructions (UNDEF span) more = more
sequenced_instructions (SEQ instructions id value) more = appended instructions (sequenced_instructions value more)
sequenced_instructions (LOGICAL operator left right) more = more
sequenced_instructions (COND test consequent alternate) more = more
sequenced_instructions (OPTIONAL flag value) more = more

-- what the trailing sequences end in
abbrev pub innermost_value : Value → Value
innermost_value (PLAIN row) = PLAIN row
innermost_value (LOAD place) = LOAD place
innermost_value (UNDEF span) = UNDEF span
innermost_value (SEQ _ id value) = innermost_value value
innermost_value (LOGICAL operator left right) = LOGICAL operator left right
innermost_value (COND test consequent alternate) = COND test consequent alternate
innermost_value (OPTIONAL flag value) = OPTIONAL flag value

abbrev pub loaded_by : Operation → Option ℕ
loaded_by other = none
loaded_by (load_local place) = some place
loaded_by (store_local stored_to stored_value) = none

-- the place that a value loads: an input LoadLocal's, or that of a LOAD that the walk made
abbrev pub loaded_place : Table → Value → Option ℕ
loaded_place t (PLAIN row) = loaded_by (instruction_at t row).operation
loaded_place t (LOAD place) = some place
loaded_place t (UNDEF span) = none
loaded_place t (SEQ _ id value) = none
loaded_place t (LOGICAL operator left right) = none
loaded_place t (COND test consequent alternate) = none
loaded_place t (OPTIONAL flag value) = none

-- identifiers are compared, not places
unfoldable pub same_identifier : Table → (place : ℕ) → Option ℕ → Bool
same_identifier t place none = false
same_identifier t place (some loaded) = eqb (get_or t.places loaded 0) (get_or t.places place 0)

unfoldable pub unless_same : Bool → Instructions → Instructions
unless_same true _ = no_instructions
unless_same false instructions = instructions

-- "A final load of the result's own identifier is dropped."
unfoldable pub value_block_result_to_sequence : Table → ValueBlockResult → (span : Span) → Value
value_block_result_to_sequence t result span =
    let innermost : Value = innermost_value result.value in
    let final : Instructions = single_instruction result.id result.place span innermost in
    SEQ (sequenced_instructions result.value (unless_same (same_identifier t result.place (loaded_place t innermost)) final)) result.id (UNDEF span)
