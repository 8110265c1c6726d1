-- What the code's small answers mean: sorts of parts, the limits of a row's columns, the parts that a row takes.
use Rattle.std.specs.Prelude.{ℕ, List, [], ◌∷◌, get_or}
use Rattle.table.specs.Check.{unused}
use Rattle.table.specs.Answer.{limit}
use Rattle.tree_grammar.specs.Ranges.{row_rules}
use Rattle.tree_grammar.specs.Needs.{Sort, a_value, an_instr, a_statement, a_block, a_case, many}
use Rattle.tree_check.specs.declared.parts.Part.{Part}
use Rattle.tree_check.specs.declared.parts.Part.TheVariants.{Value, Instr, Statement, Block, Case}
use Rattle.tree_check.specs.declared.parts.Takes.{Takes}

abbrev pub sort_of : Part → Sort
sort_of Value = a_value
sort_of Instr = an_instr
sort_of Statement = a_statement
sort_of Block = a_block
sort_of Case = a_case

-- a number of parts of a first sort, the latest first, and then a number of a second sort
abbrev pub parts_taken : Takes → List Sort
parts_taken takes = many takes.count (sort_of takes.first) (many takes.more (sort_of takes.then) [])

-- the limit of each column a to d: a word fits if it is below
abbrev pub limit_of : (op column word : ℕ) → ℕ
limit_of op column word = limit (get_or (row_rules op) column unused) word

abbrev pub limits_of : (op a b c d : ℕ) → List ℕ
limits_of op a b c d = limit_of op 0 a ∷ limit_of op 1 b ∷ limit_of op 2 c ∷ limit_of op 3 d ∷ []
