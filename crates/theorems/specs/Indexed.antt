-- M-101 of an outcome: what holds of its index and of lookups in it. proofs/Found proves it of every accepted build, in either entry. Quotes are M-101's.
use Rattle.std.specs.Prelude.{◌≡◌, ℕ, ◌<◌, []}
use Rattle.definition.specs.Tree.{Statements, statement_rows}
use Rattle.definition.specs.Index.{Labelled, labelled, Each}
use Rattle.definition.specs.Build.{Outcome, words_of}
use Rattle.lookup.specs.Lookup.{line_word, looked}

-- "No two lines of one accepted tree bear the same label"
abbrev pub OneLineEach : Outcome → Type 0
OneLineEach outcome = (i j : ℕ) → i < outcome.lines → j < outcome.lines → line_word outcome.index i 0 ≡ line_word outcome.index j 0 → i ≡ j

-- "in the order of closing rows"
abbrev pub InOrder : Outcome → Type 0
InOrder outcome = (i j : ℕ) → i < j → j < outcome.lines → line_word outcome.index i 2 < line_word outcome.index j 2

-- "gives back the statement's own rows as a part of the caller's tree buffer": code 0, at 0 and just its rows
abbrev pub Finds : Outcome → Labelled → Type 0
Finds outcome entry =
    looked outcome.index outcome.lines entry.label outcome.buffer ≡ record { code = 0; at = 0; words = words_of (statement_rows entry.statement []) }

-- so it is with each labelled statement of a tree
abbrev pub FindsLabelled : Outcome → (root : Statements) → Type 0
FindsLabelled outcome root = Each (Finds outcome) (labelled root)
