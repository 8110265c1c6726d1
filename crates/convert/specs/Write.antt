-- M-112: "a canonical writer of the new text for any table with no refusal 1 to 4".
use Rattle.std.specs.Prelude.{ℕ, List}
use Rattle.table.specs.Check.{Verdict, accepted, refused, checked}
use Rattle.text.specs.Layout.{layout}
use Rattle.text.specs.Placed.{Placing, refusal, placed}
use Rattle.text.specs.declared.version.Version.TheVariants.{New}
use Rattle.convert.specs.Cut.{text_in}

-- the text of a table's words in the new form
abbrev pub table_text : List ℕ → List ℕ
table_text words = text_in (layout New) (layout New) words

-- "A refusal leaves zeros and gives length 0"; else the text, or "53, at 0, when the written text doesn't fit"
unfoldable pub unless_refused : Verdict → (lent : ℕ) → (text : List ℕ) → Placing
unless_refused (refused code at) lent text = refusal code at lent
unless_refused accepted lent text = placed 53 lent text

-- the writer, over any words, for a lent buffer of this many bytes
unfoldable pub table_written : (words : List ℕ) → (lent : ℕ) → Placing
table_written words lent = unless_refused (checked words) lent (table_text words)
