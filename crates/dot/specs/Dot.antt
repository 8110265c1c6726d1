-- M-110: the lines of a table in DOT, the Graphviz language, in a lent buffer.
use Rattle.std.specs.Prelude.{ℕ, List, [], ◌∷◌, ◌++◌}
use Rattle.table.specs.Check.{Verdict, accepted, refused, checked}
use Rattle.table.specs.Table.{Table, table_of}
use Rattle.text.specs.Ascii.{ascii}
use Rattle.text.specs.Decimal.{decimal}
use Rattle.text.specs.Placed.{Placing, refusal, placed}
use Rattle.table.specs.Lines.{Line, lines}

-- "`n0 -> n1;`", LF
unfoldable pub line_text : Line → List ℕ
line_text line = ascii "n" ++ (decimal line.from ++ (ascii " -> n" ++ (decimal line.to ++ ascii ";\n")))

unfoldable pub lines_text : List Line → List ℕ
lines_text [] = []
lines_text (line ∷ lines) = line_text line ++ lines_text lines

-- "`digraph g {`, then one line .. then `}`, each with LF"
unfoldable pub graph_text : Table → List ℕ
graph_text t = ascii "digraph g {\n" ++ (lines_text (lines t) ++ ascii "}\n")

-- "1 to 4 as in the build, then 44, at 0, when the text doesn't fit"
unfoldable pub after_check : (lent : ℕ) → Verdict → (words : List ℕ) → Placing
after_check lent (refused code at) words = refusal code at lent
after_check lent accepted words = placed 44 lent (graph_text (table_of words))

-- the drawing of any words, for a lent buffer of this many bytes
unfoldable pub drawn : (words : List ℕ) → (lent : ℕ) → Placing
drawn words lent = after_check lent (checked words) words
