-- What treedot prints of a file. `Prints` says it with no reader in it.
use Rattle.std.specs.Prelude.{ℕ, List}
use Rattle.text.specs.Layout.{layout}
use Rattle.text.specs.declared.version.Version.TheVariants.{New}
use Rattle.text.specs.Placed.{printed_placing}
use Rattle.text.specs.Prints.{file_text, refusal_text}
use Rattle.text.specs.Reading.{reading}
use Rattle.text.specs.Prints as text
use Rattle.dot.specs.Dot.{drawn}

-- what a table's words print, in `room` bytes
abbrev pub drawing_text : (room : ℕ) → List ℕ → List ℕ
drawing_text room words = printed_placing (drawn words room)

-- what a file prints: its table's drawing, or its refusal
abbrev pub drawn_text : (room : ℕ) → (file : List ℕ) → List ℕ
drawn_text room file = file_text (drawing_text room) refusal_text (reading (layout New) file)

-- the same with no reader in it: it is this text alone (`text/proofs/PrintsLaws`)
abbrev pub Prints : (file : List ℕ) → (room : ℕ) → (text : List ℕ) → Type 0
Prints file room printed = text.Prints (layout New) (drawing_text room) refusal_text file printed
