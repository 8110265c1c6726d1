-- The laws' numbers; and a Branch's condition, as a definition by itself.
use Rattle.std.specs.Prelude.{ℕ, Bool, not, ◌&&◌, Option, Some, None}
use Rattle.table.specs.Table.{Table, instruction_rows_at}
use Rattle.definition.specs.Plain.{ends_in_store}
use Rattle.definition.specs.PlainTest.{some_of, shape_of, is_while}
use Rattle.plain.specs.declared.laws.Law.{Law}
use Rattle.plain.specs.declared.laws.Law.TheVariants.{Paper01, Switches, Loops}

-- 1 paper 01's, 2 M-113's, 3 the one beyond the papers, 0 none
abbrev pub number_of : Law → ℕ
number_of Paper01 = 1
number_of Switches = 2
number_of Loops = 3

abbrev pub maybe_number : Option Law → ℕ
maybe_number None = 0
maybe_number (Some law) = number_of law

abbrev pub branch_test : Table → (block consequent alternate : ℕ) → Bool
branch_test t block consequent alternate =
    some_of t.blocks (λ w m. is_while block consequent alternate (shape_of m)) && not (ends_in_store t (instruction_rows_at t block))
