-- Small tables with values, and the rows that both runs perform, written by hand.
use Rattle.std.specs.Prelude.{◌≡◌, ℕ, List, [], ◌∷◌, true, false}
use Rattle.table.specs.Table.{Table, Block, Instruction, Terminal, goto, return, branch, while, logical, ternary, optional, maybe_throw, sequence, Break, Continue, other, store_local, no_span}
use Rattle.definition.specs.Result.{Result, ok, refused}
use Rattle.definition.specs.Around.{rust}
use Rattle.definition.specs.Tree.{Statements, done}
use Rattle.definition.specs.Statement.{BlockResult, build_tree}
use Rattle.definition.specs.Run.{Answers, Run, returned, no_answer_left, stopped}
use Rattle.definition.specs.Plain.{paper_01}
use Rattle.definition.specs.ValueTest.{is_wide}
use Rattle.definition.specs.ValueEnds.{seen}
use Rattle.definition.specs.WideRun.{wide_run}
use Rattle.definition.specs.WideTreeRun.{wide_tree_run}

abbrev pub a_block : (first count id : ℕ) → Terminal → Block
a_block first count id terminal = record { first = first; count = count; terminal = terminal; id = id; span = no_span }

abbrev pub a_row : Instruction
a_row = record { id = 7; lvalue = 1; operation = other; span = no_span }

-- of place 1, to a place of an unnamed identifier
abbrev pub a_store : (place : ℕ) → Instruction
a_store place = record { id = 7; lvalue = 1; operation = store_local place 1; span = no_span }

-- places 0 and 1 are of a named identifier, 2 and 3 of unnamed ones
abbrev pub a_table : List Block → List Instruction → Table
a_table blocks instructions =
    record { entry = 0; blocks = blocks; instructions = instructions; cases = []; places = 0 ∷ 0 ∷ 1 ∷ 2 ∷ []; named = 1 ∷ 0 ∷ 0 ∷ [] }

-- x = a && b
abbrev pub ands : Table
ands = a_table
    (a_block 0 0 1 (logical 1 1 2) ∷ a_block 0 1 2 (branch 0 3 4) ∷ a_block 1 1 3 (return 0) ∷ a_block 2 1 4 (goto 2 Break) ∷ a_block 3 2 5 (goto 2 Break) ∷ [])
    (a_row ∷ a_row ∷ a_store 2 ∷ a_row ∷ a_store 2 ∷ [])

-- x = a ? b : c
abbrev pub picks : Table
picks = a_table
    (a_block 0 0 1 (ternary 1 2) ∷ a_block 0 1 2 (branch 0 3 4) ∷ a_block 1 1 3 (return 0) ∷ a_block 2 2 4 (goto 2 Break) ∷ a_block 4 2 5 (goto 2 Break) ∷ [])
    (a_row ∷ a_row ∷ a_row ∷ a_store 2 ∷ a_row ∷ a_store 2 ∷ [])

-- x = a?.b.c
abbrev pub chain : Table
chain = a_table
    (a_block 0 0 1 (optional 0 1 2) ∷ a_block 0 0 2 (optional 1 5 6) ∷ a_block 0 1 3 (return 0) ∷ a_block 1 2 4 (goto 2 Break) ∷ a_block 3 2 5 (goto 2 Break)
    ∷ a_block 5 1 6 (branch 0 7 4) ∷ a_block 6 0 7 (branch 3 3 4) ∷ a_block 6 2 8 (goto 6 Break) ∷ [])
    (a_row ∷ a_row ∷ a_store 2 ∷ a_row ∷ a_store 2 ∷ a_row ∷ a_row ∷ a_store 3 ∷ [])

-- while (a && b) c: the test is a Logical, and its fallthrough an empty Branch
abbrev pub rounds : Table
rounds = a_table
    (a_block 0 0 1 (while 1 5 6) ∷ a_block 0 0 2 (logical 1 2 3) ∷ a_block 0 1 3 (branch 0 4 7) ∷ a_block 0 0 4 (branch 2 5 6) ∷ a_block 1 1 5 (goto 3 Break)
    ∷ a_block 4 1 6 (goto 1 Continue) ∷ a_block 5 1 7 (return 0) ∷ a_block 2 2 8 (goto 3 Break) ∷ [])
    (a_row ∷ a_store 2 ∷ a_row ∷ a_store 2 ∷ a_row ∷ a_row ∷ [])

-- x = (a, b ? c : d), each instruction may throw
abbrev pub throws : Table
throws = a_table
    (a_block 0 0 1 (sequence 1 7) ∷ a_block 0 1 2 (maybe_throw 2) ∷ a_block 1 0 3 (ternary 3 6) ∷ a_block 1 1 4 (branch 0 4 5) ∷ a_block 2 2 5 (maybe_throw 8)
    ∷ a_block 4 2 6 (maybe_throw 8) ∷ a_block 6 1 7 (goto 7 Break) ∷ a_block 7 1 8 (return 0) ∷ a_block 8 0 9 (goto 6 Break) ∷ [])
    (a_row ∷ a_row ∷ a_row ∷ a_store 2 ∷ a_row ∷ a_store 2 ∷ a_store 3 ∷ a_row ∷ [])

abbrev pub tree_of : Result BlockResult → Statements
tree_of (ok built) = built.statements
tree_of (refused code at visits) = done

abbrev pub Accepted : Result BlockResult → Type 0
Accepted (ok built) = Unit {0}
Accepted (refused code at visits) = ⊥

abbrev pub Both : Table → Answers → Run → Type 0
Both t answers run = (wide_run t (seen t) 40 t.entry answers ≡ run) × (wide_tree_run (seen t) (tree_of (build_tree rust t)) answers ≡ run)

abbrev pub AllRuns : Type 0
AllRuns =
    Both ands [] (stopped (0 ∷ []) [] no_answer_left)
    × Both ands (1 ∷ []) (stopped (0 ∷ 1 ∷ []) [] (returned 0 3))
    × Both ands (0 ∷ []) (stopped (0 ∷ 3 ∷ 1 ∷ []) [] (returned 0 3))
    × Both picks (1 ∷ []) (stopped (0 ∷ 2 ∷ 1 ∷ []) [] (returned 0 3))
    × Both picks (0 ∷ []) (stopped (0 ∷ 4 ∷ 1 ∷ []) [] (returned 0 3))
    × Both chain (0 ∷ []) (stopped (5 ∷ 0 ∷ []) [] (returned 0 3))
    × Both chain (1 ∷ []) (stopped (5 ∷ 6 ∷ []) [] no_answer_left)
    × Both chain (1 ∷ 1 ∷ []) (stopped (5 ∷ 6 ∷ 1 ∷ 0 ∷ []) [] (returned 0 3))
    × Both chain (1 ∷ 0 ∷ []) (stopped (5 ∷ 6 ∷ 0 ∷ []) [] (returned 0 3))
    × Both rounds (1 ∷ 1 ∷ 0 ∷ 1 ∷ 1 ∷ []) (stopped (0 ∷ 4 ∷ 0 ∷ 2 ∷ 4 ∷ 0 ∷ []) [] no_answer_left)
    × Both rounds (0 ∷ 0 ∷ []) (stopped (0 ∷ 2 ∷ 5 ∷ []) [] (returned 0 7))
    × Both throws (1 ∷ []) (stopped (0 ∷ 1 ∷ 2 ∷ 7 ∷ []) [] (returned 0 8))
    × Both throws (0 ∷ []) (stopped (0 ∷ 1 ∷ 4 ∷ 7 ∷ []) [] (returned 0 8))

abbrev pub AllAccepted : Type 0
AllAccepted =
    Accepted (build_tree rust ands) × Accepted (build_tree rust picks) × Accepted (build_tree rust chain) × Accepted (build_tree rust rounds) × Accepted (build_tree rust throws)

-- they pass the test of the conditions
abbrev pub AllWide : Type 0
AllWide =
    (is_wide ands paper_01 ≡ true) × (is_wide picks paper_01 ≡ true) × (is_wide chain paper_01 ≡ true) × (is_wide rounds paper_01 ≡ true) × (is_wide throws paper_01 ≡ true)

-- x = a && b whose left performs a row; (a?.b)?.c with an alternate of its own, which goes to the inner fallthrough; while (a && b) with a store at its test's end
abbrev pub left_performs : Table
left_performs = a_table
    (a_block 0 1 1 (logical 0 1 2) ∷ a_block 1 1 2 (branch 0 3 4) ∷ a_block 2 1 3 (return 0) ∷ a_block 3 2 4 (goto 2 Break) ∷ a_block 5 2 5 (goto 2 Break) ∷ [])
    (a_row ∷ a_row ∷ a_row ∷ a_row ∷ a_store 2 ∷ a_row ∷ a_store 2 ∷ [])

abbrev pub parentheses : Table
parentheses = a_table
    (a_block 0 0 1 (optional 0 1 2) ∷ a_block 0 0 2 (optional 1 5 6) ∷ a_block 0 1 3 (return 0) ∷ a_block 1 2 4 (goto 2 Break) ∷ a_block 3 2 5 (goto 2 Break)
    ∷ a_block 5 1 6 (branch 0 7 8) ∷ a_block 6 0 7 (branch 3 3 4) ∷ a_block 6 2 8 (goto 6 Break) ∷ a_block 8 2 9 (goto 6 Break) ∷ [])
    (a_row ∷ a_row ∷ a_store 2 ∷ a_row ∷ a_store 2 ∷ a_row ∷ a_row ∷ a_store 3 ∷ a_row ∷ a_store 3 ∷ [])

abbrev pub OddOnes : Type 0
OddOnes = (is_wide left_performs paper_01 ≡ false) × (is_wide parentheses paper_01 ≡ false)
