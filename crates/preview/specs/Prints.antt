-- What treesize prints of a file (M-106): `code at rows visits lines` and the five numbers. `Prints` says it with no reader in it.
use Rattle.std.specs.Prelude.{List, [], ◌∷◌, ◌++◌, ℕ}
use Rattle.text.specs.Ascii.{ascii}
use Rattle.text.specs.Layout.{layout}
use Rattle.text.specs.Line.{line}
use Rattle.text.specs.Prints.{file_text}
use Rattle.text.specs.Prints as text
use Rattle.text.specs.Reading.{reading}
use Rattle.text.specs.declared.version.Version.TheVariants.{New}
use Rattle.definition.specs.Around.{rust}
use Rattle.definition.specs.Preview.{Preview, previewed}

abbrev pub size_names : List ℕ
size_names = ascii "code at rows visits lines\n"

unfoldable pub size_text : Preview → List ℕ
size_text p = size_names ++ line (p.code ∷ p.at ∷ p.rows ∷ p.visits ∷ p.lines ∷ [])

-- of a file that is refused: its own refusal, the other numbers 0
abbrev pub refused_file : (code at : ℕ) → Preview
refused_file code at = record { code = code; at = at; rows = 0; visits = 0; lines = 0 }

abbrev pub words_text : List ℕ → List ℕ
words_text words = size_text (previewed rust words)

abbrev pub refused_text : (code at : ℕ) → List ℕ
refused_text code at = size_text (refused_file code at)

-- what a file prints: the preview of its words, or its refusal
abbrev pub sized_text : (file : List ℕ) → List ℕ
sized_text file = file_text words_text refused_text (reading (layout New) file)

-- the same with no reader in it: it is this text alone (`text/proofs/PrintsLaws`)
abbrev pub Prints : (file text : List ℕ) → Type 0
Prints file printed = text.Prints (layout New) words_text refused_text file printed
