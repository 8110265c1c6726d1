-- Beyond the papers: what `table_plain` gives. It gives the check's code and place. For words that the check accepts it also gives the number of the first run law
-- that speaks of their table (1 paper 01's, 2 M-113's, 3 the one with loops), or 0.
use Rattle.std.specs.Prelude.{ℕ, List}
use Rattle.table.specs.Check.{Verdict, accepted, refused, checked}
use Rattle.table.specs.Table.{table_of}
use Rattle.definition.specs.PlainTest.{plainness}

abbrev pub if_accepted : Verdict → (number : ℕ) → ℕ
if_accepted accepted number = number
if_accepted (refused code at) number = 0

unfoldable pub plainness_of : List ℕ → ℕ
plainness_of words = if_accepted (checked words) (plainness (table_of words))
