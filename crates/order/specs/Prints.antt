-- What treeorder prints of a file (M-111). `Prints` says it with no reader in it.
use Rattle.std.specs.Prelude.{ℕ, List, []}
use Rattle.table.specs.Check.{Verdict, accepted, refused, checked}
use Rattle.text.specs.declared.version.Version.TheVariants.{New}
use Rattle.text.specs.Layout.{layout}
use Rattle.text.specs.Printed.{printed}
use Rattle.text.specs.Prints.{file_text, refusal_text}
use Rattle.text.specs.Reading.{reading}
use Rattle.text.specs.Prints as text
use Rattle.renaming.specs.Order.{rearranged}
use Rattle.convert.specs.Write.{table_text}

-- the text; of a refusal two lines, with no rows and no visits
unfoldable pub unless_refused : Verdict → (text : List ℕ) → List ℕ
unless_refused accepted text = text
unless_refused (refused code at) text = printed code at 0 0 []

-- what a table's words print: the file of the rearranged words
abbrev pub ordered_text : List ℕ → List ℕ
ordered_text words = unless_refused (checked words) (table_text (rearranged words))

-- what a file prints: its table rearranged, or its refusal
abbrev pub order_text : (file : List ℕ) → List ℕ
order_text file = file_text ordered_text refusal_text (reading (layout New) file)

-- the same with no reader in it: it is this text alone (`text/proofs/PrintsLaws`)
abbrev pub Prints : (file text : List ℕ) → Type 0
Prints file printed = text.Prints (layout New) ordered_text refusal_text file printed
