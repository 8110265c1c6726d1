-- Example tables of the run law with loops (beyond the papers), each with what it shows.
use Rattle.std.specs.Prelude.{ℕ, zero, suc, Bool, true, false, List, [], ◌∷◌, ◌++◌, length, eqb}

-- ---- words of a table, from its ends

-- code and columns a to e
abbrev pub a_throw : List ℕ
a_throw = 2 ∷ 0 ∷ 0 ∷ 0 ∷ 0 ∷ 0 ∷ []

abbrev pub a_return : List ℕ
a_return = 3 ∷ 0 ∷ 0 ∷ 0 ∷ 0 ∷ 0 ∷ []

abbrev pub an_unreachable : List ℕ
an_unreachable = 1 ∷ 0 ∷ 0 ∷ 0 ∷ 0 ∷ 0 ∷ []

abbrev pub a_break : (block : ℕ) → List ℕ
a_break block = 4 ∷ block ∷ 0 ∷ 0 ∷ 0 ∷ 0 ∷ []

abbrev pub a_continue : (block : ℕ) → List ℕ
a_continue block = 4 ∷ block ∷ 1 ∷ 0 ∷ 0 ∷ 0 ∷ []

abbrev pub an_if : (consequent alternate ft : ℕ) → List ℕ
an_if consequent alternate ft = 5 ∷ 0 ∷ consequent ∷ alternate ∷ ft ∷ 0 ∷ []

abbrev pub a_branch : (consequent alternate : ℕ) → List ℕ
a_branch consequent alternate = 6 ∷ 0 ∷ consequent ∷ alternate ∷ 0 ∷ 0 ∷ []

-- of all case rows
abbrev pub a_switch : (cases ft : ℕ) → List ℕ
a_switch cases ft = 7 ∷ 0 ∷ 0 ∷ cases ∷ ft ∷ 0 ∷ []

abbrev pub a_do_while : (loop test ft : ℕ) → List ℕ
a_do_while loop test ft = 8 ∷ loop ∷ test ∷ ft ∷ 0 ∷ 0 ∷ []

abbrev pub a_while : (test loop ft : ℕ) → List ℕ
a_while test loop ft = 9 ∷ test ∷ loop ∷ ft ∷ 0 ∷ 0 ∷ []

-- an update of 65,535 is none
abbrev pub a_for : (init test update loop ft : ℕ) → List ℕ
a_for init test update loop ft = 10 ∷ init ∷ test ∷ update ∷ loop ∷ ft ∷ []

abbrev pub blocks : (number : ℕ) → List (List ℕ) → List ℕ
blocks n [] = []
blocks n (end ∷ ends) = n ∷ 1 ∷ (end ++ (suc n ∷ 0 ∷ 0 ∷ blocks (suc n) ends))

-- code, lvalue, p and q: all others are 0
abbrev pub instructions : (op lvalue p q : ℕ) → (special : ℕ → Bool) → (left row : ℕ) → List ℕ
instructions op lvalue p q special zero row = []
instructions op lvalue p q special (suc left) row =
    elim (special row) [ true ↦ 0 ∷ lvalue ∷ op ∷ p ∷ q ∷ 0 ∷ 0 ∷ [] | false ↦ 0 ∷ 0 ∷ 0 ∷ 0 ∷ 0 ∷ 0 ∷ 0 ∷ [] ] ++ instructions op lvalue p q special left (suc row)

abbrev pub case_rows : List ℕ → List ℕ
case_rows [] = []
case_rows (case ∷ cases) = 0 ∷ case ∷ case_rows cases

-- the instruction of block `at` has these columns; places 0 and 1 are of identifier 0, place 2 of identifier 1, which is unnamed
abbrev pub table_with : (op lvalue p q at : ℕ) → List (List ℕ) → (cases : List ℕ) → List ℕ
table_with op lvalue p q at ends cases =
    0 ∷ length ends ∷ length ends ∷ length cases ∷ 3 ∷ 2
    ∷ (blocks 0 ends ++ (instructions op lvalue p q (eqb at) (length ends) 0 ++ (case_rows cases ++ (0 ∷ 0 ∷ 1 ∷ 1 ∷ 0 ∷ []))))

abbrev pub table : List (List ℕ) → (cases : List ℕ) → List ℕ
table = table_with 0 0 0 0 0

-- ---- the corners

-- a For with an update, which runs after a continue from either side of an If
abbrev pub updates : List ℕ
updates = table (a_for 1 2 3 4 5 ∷ a_break 2 ∷ a_branch 4 5 ∷ a_break 2 ∷ an_if 6 7 7 ∷ a_return ∷ a_continue 3 ∷ a_continue 3 ∷ []) []

-- a For whose init is its loop block
abbrev pub counts : List ℕ
counts = table (a_for 1 2 65535 1 3 ∷ a_continue 2 ∷ a_branch 1 3 ∷ a_return ∷ []) []

-- a For whose init is its update
abbrev pub again : List ℕ
again = table (a_for 1 2 1 3 4 ∷ a_break 2 ∷ a_branch 3 4 ∷ a_continue 1 ∷ a_return ∷ []) []

-- a DoWhile: the body first, the test after a continue
abbrev pub does : List ℕ
does = table (a_do_while 1 2 3 ∷ an_if 4 5 5 ∷ a_branch 1 3 ∷ a_throw ∷ a_continue 2 ∷ a_continue 2 ∷ []) []

-- a DoWhile that is left before its test
abbrev pub once : List ℕ
once = table (a_do_while 1 2 3 ∷ a_break 3 ∷ a_branch 1 3 ∷ a_return ∷ []) []

-- a do inside a for: 9 continues the for and 11 leaves it, both Labeled
abbrev pub nested : List ℕ
nested = table (a_for 1 2 3 4 5 ∷ a_break 2 ∷ a_branch 4 5 ∷ a_break 2 ∷ a_do_while 6 7 8 ∷ a_return ∷ an_if 9 10 10 ∷ a_branch 6 8 ∷ a_continue 3 ∷ a_continue 3 ∷ an_if 11 12 12
    ∷ a_break 5 ∷ a_continue 7 ∷ []) []

-- an end that is not reached: one side of the If returns, the other goes round
abbrev pub ends : List ℕ
ends = table (a_while 1 2 3 ∷ a_branch 2 3 ∷ an_if 4 5 6 ∷ a_return ∷ a_return ∷ a_continue 1 ∷ an_unreachable ∷ []) []

-- a scope whose end is not reached
abbrev pub scoped : List ℕ
scoped = table ((20 ∷ 1 ∷ 2 ∷ 5 ∷ 0 ∷ 0 ∷ []) ∷ an_if 3 4 4 ∷ an_unreachable ∷ a_return ∷ a_throw ∷ []) []

-- a switch in a for, with no default: its last case is its fallthrough. Case 7 leaves the for
abbrev pub switches : List ℕ
switches = table (a_for 1 2 3 4 5 ∷ a_break 2 ∷ a_branch 4 5 ∷ a_break 2 ∷ a_switch 3 8 ∷ a_return ∷ a_continue 3 ∷ a_break 5 ∷ a_continue 3 ∷ []) (6 ∷ 7 ∷ 8 ∷ [])

-- a case that goes on into the next
abbrev pub falls : List ℕ
falls = table (a_switch 3 4 ∷ a_break 2 ∷ a_break 4 ∷ a_break 4 ∷ a_return ∷ []) (1 ∷ 2 ∷ 3 ∷ [])
