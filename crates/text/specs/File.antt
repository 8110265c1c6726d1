-- What a good file is (paper 01, "Samples"), with no reader in it: the text of six tables whose head counts the rows of the other five.
use Rattle.std.specs.Prelude.{◌≡◌, List, [], ◌∷◌, ◌++◌, ℕ, ◌+◌, ◌^◌, ◌<◌, ◌≤◌, length, get_or, take}
use Rattle.text.specs.Line.{line, lines, flat}
use Rattle.text.specs.Layout.{Layout}

-- the rows of the tables; the head is one row
pub record Tables : Type 0 where
  pub head : List ℕ
  pub blocks : List (List ℕ)
  pub instructions : List (List ℕ)
  pub cases : List (List ℕ)
  pub places : List (List ℕ)
  pub identifiers : List (List ℕ)

-- each number has 32 bits
abbrev pub Words : List ℕ → Type 0
Words [] = Unit {0}
Words (n ∷ ns) = (n < 2 ^ 32) × Words ns

-- a row of `width` words
pub record Row (width : ℕ) (row : List ℕ) : Type 0 where
  pub long : length row ≡ width
  pub words : Words row

abbrev pub Rows : ℕ → List (List ℕ) → Type 0
Rows width [] = Unit {0}
Rows width (row ∷ rows) = Row width row × Rows width rows

-- a table has as many rows as the head says, whatever its limit
pub record Table (count width : ℕ) (rows : List (List ℕ)) : Type 0 where
  pub many : length rows ≡ count
  pub each : Rows width rows

pub record Formed (f : Layout) (t : Tables) : Type 0 where
  pub head : Row f.head.width t.head
  pub blocks : Table (get_or t.head 1 0) f.blocks.width t.blocks
  pub instructions : Table (get_or t.head 2 0) f.instructions.width t.instructions
  pub cases : Table (get_or t.head 3 0) f.cases.width t.cases
  pub places : Table (get_or t.head 4 0) f.places.width t.places
  pub identifiers : Table (get_or t.head 5 0) f.identifiers.width t.identifiers

-- the file of the tables: for each its line of names, then a line for each row
abbrev pub text_of : Layout → Tables → List ℕ
text_of f t =
    f.head.names ++ line t.head
    ++ f.blocks.names ++ lines t.blocks
    ++ f.instructions.names ++ lines t.instructions
    ++ f.cases.names ++ lines t.cases
    ++ f.places.names ++ lines t.places
    ++ f.identifiers.names ++ lines t.identifiers

-- their words, in the same order
abbrev pub words_of : Tables → List ℕ
words_of t = t.head ++ flat t.blocks ++ flat t.instructions ++ flat t.cases ++ flat t.places ++ flat t.identifiers

-- the file is good and has these words
pub record Good (f : Layout) (file words : List ℕ) : Type 0 where
  pub tables : Tables
  pub formed : Formed f tables
  pub text : file ≡ text_of f tables
  pub word : words ≡ words_of tables

-- some good file begins so
pub record Viable (f : Layout) (start : List ℕ) : Type 0 where
  pub rest : List ℕ
  pub words : List ℕ
  pub good : Good f (start ++ rest) words

-- the file is not good, and `at` is the first byte that no good file could have there, or the file's length if it is short
pub record Refused (f : Layout) (file : List ℕ) (at : ℕ) : Type 0 where
  pub within : at ≤ length file
  pub viable : Viable f (take at file)
  pub no_further : at < length file → Viable f (take (at + 1) file) → ⊥
  pub not_good : (words : List ℕ) → Good f file words → ⊥
