-- `text::reader::Reader::rows` meets its contract. The invariant: i lines were read and stored, and the form goes on with the lines that are left.
-- PartLaws has one line more and the end.
use Rattle.std.proofs.Common.{◌≡◌, List, ◌++◌, ℕ, ◌-◌}
use Rattle.text.specs.Form.{Form, rows}
use Rattle.text.specs.Steps.{ReaderAt}
use Rattle.text.specs.declared.reader.Reader.{Reader}
use Rattle.text.proofs.reader.Reader.rows.Given as goal

-- the first i lines were read
pub record Run (width lines : ℕ) (from r : Reader) (i : ℕ) : Type 0 where
  pub file : r.file ≡ from.file
  pub lent : r.words.ghost_name ≡ from.words.ghost_name
  pub here : (root : Form) (before : List ℕ) (next : Form) → ReaderAt root from before (rows width lines next)
      → (new : List ℕ) × ReaderAt root r (before ++ new) (rows width (lines - i) next)

abbrev pub invariant-loop : goal.invariant-loop
invariant-loop l = Run l.width l.lines l.initial.self l.self l.counter
