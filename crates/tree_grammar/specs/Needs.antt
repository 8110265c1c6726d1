-- The check as a machine over sorts of parts: what each row takes off a stack, and what it leaves there. The code follows this.
-- proofs/Words proves that it answers what the grammar says.
use Rattle.std.specs.Prelude.{ℕ, zero, suc, List, [], ◌∷◌, Bool, true, false, ◌&&◌, get_or, length, leb}
use Rattle.std.proofs.Math.Option.{Option, none, some}
use Rattle.definition.specs.Tree.{Row, row, Statement, INSTR, IF, SWITCH, DOWHILE, WHILE, FOR, FOROF, FORIN, LABEL, TRY, SCOPE, RETURN, THROW, BREAK, CONTINUE}
use Rattle.definition.specs.Reading.{Part, value, statement, block, case, Forest}
use Rattle.tree_grammar.specs.Ranges.{in_range}
use Rattle.tree_grammar.specs.Grammar.{most_rows}

-- a SEQ takes INSTRs, a BLOCK any statement
pub data Sort : Type 0 where
  a_value an_instr a_statement a_block a_case : Sort

-- whether a part serves: an INSTR is a statement too
abbrev pub serves : (wanted found : Sort) → Bool
serves a_value a_value = true
serves a_value an_instr = false
serves a_value a_statement = false
serves a_value a_block = false
serves a_value a_case = false
serves an_instr a_value = false
serves an_instr an_instr = true
serves an_instr a_statement = false
serves an_instr a_block = false
serves an_instr a_case = false
serves a_statement a_value = false
serves a_statement an_instr = true
serves a_statement a_statement = true
serves a_statement a_block = false
serves a_statement a_case = false
serves a_block a_value = false
serves a_block an_instr = false
serves a_block a_statement = false
serves a_block a_block = true
serves a_block a_case = false
serves a_case a_value = false
serves a_case an_instr = false
serves a_case a_statement = false
serves a_case a_block = false
serves a_case a_case = true

-- so many of one sort, and then others
abbrev pub many : ℕ → Sort → List Sort → List Sort
many zero sort more = more
many (suc n) sort more = sort ∷ many n sort more

-- one more, where a row's flag says that it is present
abbrev pub if_present : (flag : ℕ) → Sort → List Sort → List Sort
if_present zero sort more = more
if_present (suc n) sort more = sort ∷ more

-- the parts of a row, the latest first, by its op: its columns a, b and c say how many
abbrev pub needs_by_op : (a b c : ℕ) → List (List Sort)
needs_by_op a b c =
    []
    ∷ []
    ∷ []
    ∷ []
    ∷ (a_value ∷ [])
    ∷ (a_value ∷ many a an_instr [])
    ∷ (a_value ∷ a_value ∷ [])
    ∷ (a_value ∷ a_value ∷ a_value ∷ [])
    ∷ (a_value ∷ [])
    ∷ many a a_statement []
    ∷ if_present b a_block (a_block ∷ [])
    ∷ (a_block ∷ [])
    ∷ many b a_case []
    ∷ (a_value ∷ a_block ∷ [])
    ∷ (a_block ∷ a_value ∷ [])
    ∷ (a_block ∷ if_present c a_value (a_value ∷ a_value ∷ []))
    ∷ (a_block ∷ a_value ∷ a_value ∷ [])
    ∷ (a_block ∷ a_value ∷ [])
    ∷ (a_block ∷ [])
    ∷ (a_block ∷ a_block ∷ [])
    ∷ (a_block ∷ [])
    ∷ (a_block ∷ [])
    ∷ []

abbrev pub parts_of : Row → List Sort
parts_of (row op a b c d e) = get_or (needs_by_op a b c) op []

-- what a row leaves, by its op. "values ops 1 to 3 and 5 to 8, statements 4, 10 and 12 to 25"
abbrev pub makes_by_op : List Sort
makes_by_op =
    a_value
    ∷ a_value
    ∷ a_value
    ∷ a_value
    ∷ an_instr
    ∷ a_value
    ∷ a_value
    ∷ a_value
    ∷ a_value
    ∷ a_block
    ∷ a_statement
    ∷ a_case
    ∷ []

unfoldable pub made_by : (op : ℕ) → Sort
made_by op = get_or makes_by_op op a_statement

abbrev pub Sorts : Type 0
Sorts = List Sort

-- what is left when the wanted parts have come off
abbrev pub taken : (wanted : List Sort) → Sorts → Option Sorts
taken [] stack = some stack
taken (w ∷ wanted) [] = none
taken (w ∷ wanted) (found ∷ stack) = elim (serves w found) [ true ↦ taken wanted stack | false ↦ none ]

unfoldable pub sort_step : Row → Sorts → Option Sorts
sort_step (row op a b c d e) stack = elim (taken (parts_of (row op a b c d e)) stack) [ none ↦ none | some left ↦ some (made_by op ∷ left) ]

pub data RowsVerdict : Type 0 where
  accepted : RowsVerdict
  refused : (code at : ℕ) → RowsVerdict

abbrev pub code_of : RowsVerdict → ℕ
code_of accepted = 0
code_of (refused code at) = code

abbrev pub at_of : RowsVerdict → ℕ
at_of accepted = 0
at_of (refused code at) = at

-- "and one root BLOCK is left at the end"
abbrev pub remainder : Sorts → RowsVerdict
remainder [] = refused 62 0
remainder (a_value ∷ stack) = refused 62 0
remainder (an_instr ∷ stack) = refused 62 0
remainder (a_statement ∷ stack) = refused 62 0
remainder (a_block ∷ []) = accepted
remainder (a_block ∷ sort ∷ stack) = refused 62 0
remainder (a_case ∷ stack) = refused 62 0

-- the rows from row i on, over what is left of those before
unfoldable pub rows_verdict : List Row → (i : ℕ) → Sorts → RowsVerdict
rows_verdict [] i stack = remainder stack
rows_verdict (r ∷ list) i stack =
    elim (in_range r) [
      | true ↦ elim (sort_step r stack) [ none ↦ refused 61 i | some next ↦ rows_verdict list (suc i) next ]
      | false ↦ refused 60 i
    ]

-- the rows of words, if they are a multiple of six
abbrev pub rows_of_words : List ℕ → Option (List Row)
rows_of_words [] = some []
rows_of_words (op ∷ []) = none
rows_of_words (op ∷ a ∷ []) = none
rows_of_words (op ∷ a ∷ b ∷ []) = none
rows_of_words (op ∷ a ∷ b ∷ c ∷ []) = none
rows_of_words (op ∷ a ∷ b ∷ c ∷ d ∷ []) = none
rows_of_words (op ∷ a ∷ b ∷ c ∷ d ∷ e ∷ words) = elim (rows_of_words words) [ none ↦ none | some list ↦ some (row op a b c d e ∷ list) ]

-- "62 for a longer or empty list .., tested first"
abbrev pub sized_verdict : List Row → RowsVerdict
sized_verdict list = elim (leb 1 (length list) && leb (length list) most_rows) [ true ↦ rows_verdict list 0 [] | false ↦ refused 62 0 ]

unfoldable pub tree_verdict : List ℕ → RowsVerdict
tree_verdict words = elim (rows_of_words words) [ none ↦ refused 62 0 | some list ↦ sized_verdict list ]

-- ---- the sort of a part

abbrev pub sort_of_statement : Statement → Sort
sort_of_statement (INSTR id lvalue span v) = an_instr
sort_of_statement (IF test id label consequent present alternate) = a_statement
sort_of_statement (SWITCH test id label cases) = a_statement
sort_of_statement (DOWHILE id label body test) = a_statement
sort_of_statement (WHILE id label test body) = a_statement
sort_of_statement (FOR id label init test update body) = a_statement
sort_of_statement (FOROF id label span init test body) = a_statement
sort_of_statement (FORIN id label span init body) = a_statement
sort_of_statement (LABEL id label body) = a_statement
sort_of_statement (TRY id label binding body handler) = a_statement
sort_of_statement (SCOPE pruned scope body) = a_statement
sort_of_statement (RETURN v id) = a_statement
sort_of_statement (THROW v id) = a_statement
sort_of_statement (BREAK target id kind loops) = a_statement
sort_of_statement (CONTINUE target id kind loops) = a_statement

abbrev pub sort_of : Part → Sort
sort_of (value v) = a_value
sort_of (statement s) = sort_of_statement s
sort_of (block b) = a_block
sort_of (case test b) = a_case

abbrev pub sorts_of : Forest → Sorts
sorts_of [] = []
sorts_of (part ∷ before) = sort_of part ∷ sorts_of before
