-- The form of a file: what its six tables' lines of names are, and how many numbers a line of each has. There are two: a span is one
-- word in paper 01's, two in paper 02's (M-108).
use Rattle.std.specs.Prelude.{List, ℕ}
use Rattle.text.specs.Ascii.{ascii}
use Rattle.text.specs.declared.version.Version.{Version}
use Rattle.text.specs.declared.version.Version.TheVariants.{Old, New}

-- a table's line of names, and the numbers in a line
pub record Columns : Type 0 where
  pub names : List ℕ
  pub width : ℕ

pub record Layout : Type 0 where
  pub head : Columns
  pub blocks : Columns
  pub instructions : Columns
  pub cases : Columns
  pub places : Columns
  pub identifiers : Columns

abbrev pub block_columns : Version → Columns
block_columns Old = record { names = ascii "first count code a b c d e id span\n"; width = 10 }
block_columns New = record { names = ascii "first count code a b c d e id from to\n"; width = 11 }

abbrev pub instruction_columns : Version → Columns
instruction_columns Old = record { names = ascii "id lvalue code p q span\n"; width = 6 }
instruction_columns New = record { names = ascii "id lvalue code p q from to\n"; width = 7 }

abbrev pub layout : Version → Layout
layout version = record {
  head = record { names = ascii "entry blocks instructions cases places identifiers\n"; width = 6 };
  blocks = block_columns version;
  instructions = instruction_columns version;
  cases = record { names = ascii "test block\n"; width = 2 };
  places = record { names = ascii "identifier\n"; width = 1 };
  identifiers = record { names = ascii "named\n"; width = 1 };
}
