-- `text::reader::Reader::row` meets its contract. The invariant: i numbers were read and stored, and the form goes on with the rest of the row.
-- PartLaws has one number more and the end; LentLaws the store.
use Rattle.std.proofs.Common.{◌≡◌, List, [], ◌++◌, ℕ, ◌-◌, ◌≤◌, length}
use Rattle.text.specs.Form.{Form, row}
use Rattle.text.specs.Steps.{At, ReaderAt}
use Rattle.text.specs.declared.reader.Reader.{Reader}
use Rattle.text.proofs.reader.Reader.row.Given as goal

-- the first i numbers were read: up to the byte `at`, `count` words in all
pub record Run (width : ℕ) (from r : Reader) (at count i : ℕ) : Type 0 where
  pub file : r.file ≡ from.file
  pub lent : r.words.ghost_name ≡ from.words.ghost_name
  pub long : length r.words.now ≡ length from.words.now
  pub within : at ≤ length from.file.now
  pub few : count ≤ at
  pub numbers : List ℕ
  pub many : length numbers ≡ i
  pub here : (root : Form) (before : List ℕ) (next : List ℕ → Form) → ReaderAt root from before (row width [] next)
      → At root from.file.now r.words.now at count (before ++ numbers) (row (width - i) numbers next)

abbrev pub invariant-loop-i : goal.invariant-loop-i
invariant-loop-i l = Run l.width l.initial.self l.self l.at l.count l.i
