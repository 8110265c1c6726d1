-- What treebuild prints of a file (paper 01, "Samples"), and treebuild_language by the other rule (M-102). `Prints` says it with no reader in it.
use Rattle.std.specs.Prelude.{ℕ, ◌*◌, List, take}
use Rattle.definition.specs.Around.{Rule}
use Rattle.definition.specs.Build.{Outcome, built}
use Rattle.text.specs.Layout.{layout}
use Rattle.text.specs.declared.version.Version.TheVariants.{New}
use Rattle.text.specs.Printed.{printed}
use Rattle.text.specs.Prints.{file_text, refusal_text}
use Rattle.text.specs.Reading.{reading}
use Rattle.text.specs.Prints as text

-- "It lends 2,048 rows", of six words each
abbrev pub lent_words : ℕ
lent_words = 12288

-- M-101: it "lends 2,048 lines and prints as before"; lines have three words
abbrev pub lent_index : ℕ
lent_index = 6144

-- the lines of an outcome: its rows, where it is accepted
unfoldable pub printed_outcome : Outcome → List ℕ
printed_outcome outcome = printed outcome.code outcome.at outcome.rows outcome.visits (take (outcome.rows * 6) outcome.buffer)

-- what a table's words print
abbrev pub tree_text : Rule → List ℕ → List ℕ
tree_text rule words = printed_outcome (built rule words lent_words lent_index)

-- what a file prints: what its table's words give, or its refusal
abbrev pub built_text : Rule → (file : List ℕ) → List ℕ
built_text rule file = file_text (tree_text rule) refusal_text (reading (layout New) file)

-- the same with no reader in it: it is this text alone (`text/proofs/PrintsLaws`)
abbrev pub Prints : Rule → (file text : List ℕ) → Type 0
Prints rule file printed = text.Prints (layout New) (tree_text rule) refusal_text file printed
