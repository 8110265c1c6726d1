-- How far a reading has come: the contracts of the functions below `read`.
use Rattle.std.specs.Prelude.{◌≡◌, Bool, cond, List, [], ◌∷◌, ◌++◌, ℕ, ◌+◌, ◌-◌, ◌*◌, ◌≤◌, ◌<◌, length, take, Option, Some, None, Result, Ok, Err}
use Rattle.text.specs.Lent.{Holds}
use Rattle.text.specs.Layout.{Columns, Layout, layout}
use Rattle.text.specs.Form.{Form, field, finished, literal, row, tables, whole, Text}
use Rattle.text.specs.Answer.{Answer, Accepted, Fails}
use Rattle.text.specs.Reading.{is_digit, may_follow}
use Rattle.text.specs.declared.reader.Reader.{Reader}
use Rattle.text.specs.declared.version.Version.{Version}
use Rattle.text.specs.declared.version.Columns as code
use Rattle.text.specs.declared.number.Number.{Number}

-- after the first `at` bytes, which have these words, what is left of a file of the form `root` is of the form `next`, and of no other
pub record Reached (root : Form) (file : List ℕ) (at : ℕ) (words : List ℕ) (next : Form) : Type 0 where
  pub sound : (bytes more : List ℕ) → Text next bytes more → Text root (take at file ++ bytes) (words ++ more)
  pub only : (bytes all : List ℕ) → Text root (take at file ++ bytes) all → (more : List ℕ) × (all ≡ words ++ more) × Text next bytes more

-- `File.Refused`, said of the form `root`
pub record Stopped (root : Form) (file : List ℕ) (at : ℕ) : Type 0 where
  pub within : at ≤ length file
  pub rest : List ℕ
  pub words : List ℕ
  pub viable : Text root (take at file ++ rest) words
  pub no_further : at < length file → (bytes all : List ℕ) → Text root (take (at + 1) file ++ bytes) all → ⊥
  pub not_good : (all : List ℕ) → Text root file all → ⊥

-- a digit's value
abbrev pub digit_of : ℕ → Option ℕ
digit_of byte = cond (is_digit byte) (Some (byte - 48)) None

-- the value with a digit more, where the byte may follow: there is no leading zero, and the number stays within 32 bits
abbrev pub extended_by : ℕ → ℕ → Option ℕ
extended_by value byte = cond (may_follow value byte) (Some (value * 10 + (byte - 48))) None

-- a number was read, from `at` on, and what ends it
pub record NumberEnd (file : List ℕ) (at : ℕ) (last : Bool) (r : Number) : Type 0 where
  pub within : r.end ≤ length file
  pub long : at + 2 ≤ r.end
  pub reached : (root : Form) (words : List ℕ) (next : ℕ → Form) → Reached root file at words (field last next) → Reached root file r.end (words ++ (r.value ∷ [])) (next r.value)

-- what reading it gives, or the byte that the reading stops at
abbrev pub NumberRead : (file : List ℕ) → (at : ℕ) → (last : Bool) → Result Number ℕ → Type 0
NumberRead file at last (Ok r) = NumberEnd file at last r
NumberRead file at last (Err stop) = (root : Form) (words : List ℕ) (next : ℕ → Form) → Reached root file at words (field last next) → Stopped root file stop

-- ---- parts of the file

-- what the code holds of a table's columns
abbrev pub columns_of : code.Columns → Columns
columns_of columns = record { names = columns.names.now; width = columns.width }

-- the reading has come so far, and the words are in the buffer
pub record At (root : Form) (file buffer : List ℕ) (at count : ℕ) (words : List ℕ) (next : Form) : Type 0 where
  pub reached : Reached root file at words next
  pub holds : Holds buffer count words

-- so far of the reader's file, with the words in its buffer
abbrev pub ReaderAt : (root : Form) → Reader → (words : List ℕ) → (next : Form) → Type 0
ReaderAt root r words next = At root r.file.now r.words.now r.at r.count words next

-- a part of the file was read, whatever comes after the part
pub record PartEnd (part : Form → Form) (r r' : Reader) : Type 0 where
  pub reached : (root : Form) (words : List ℕ) (next : Form) → ReaderAt root r words (part next) → (new : List ℕ) × ReaderAt root r' (words ++ new) next

abbrev pub PartRead : (part : Form → Form) → (r : Reader) → Result (Unit {0}) ℕ → (r' : Reader) → Type 0
PartRead part r (Ok _) r' = PartEnd part r r'
PartRead part r (Err stop) r' = (root : Form) (words : List ℕ) (next : Form) → ReaderAt root r words (part next) → Stopped root r.file.now stop

-- a line of names was read
pub record NamesEnd (file names : List ℕ) (at end : ℕ) : Type 0 where
  pub within : end ≤ length file
  pub onward : at ≤ end
  pub reached : (root : Form) (words : List ℕ) (next : Form) → Reached root file at words (literal names next) → Reached root file end words next

abbrev pub NamesRead : (file names : List ℕ) → (at : ℕ) → Result ℕ ℕ → Type 0
NamesRead file names at (Ok end) = NamesEnd file names at end
NamesRead file names at (Err stop) = (root : Form) (words : List ℕ) (next : Form) → Reached root file at words (literal names next) → Stopped root file stop

-- the numbers of a row that was read
pub record RowNumbers (root : Form) (width : ℕ) (words : List ℕ) (next : List ℕ → Form) (r : Reader) : Type 0 where
  pub numbers : List ℕ
  pub long : length numbers ≡ width
  pub at : ReaderAt root r (words ++ numbers) (next numbers)

-- a row was read: its numbers decide what comes next
pub record RowEnd (width : ℕ) (r r' : Reader) : Type 0 where
  pub reached : (root : Form) (words : List ℕ) (next : List ℕ → Form) → ReaderAt root r words (row width [] next) → RowNumbers root width words next r'

abbrev pub RowRead : (width : ℕ) → (r : Reader) → Result (Unit {0}) ℕ → (r' : Reader) → Type 0
RowRead width r (Ok _) r' = RowEnd width r r'
RowRead width r (Err stop) r' = (root : Form) (words : List ℕ) (next : List ℕ → Form) → ReaderAt root r words (row width [] next) → Stopped root r.file.now stop

-- the head was read into six words, the same in either form: they are its numbers
pub record HeadEnd (file : List ℕ) (at : ℕ) (head : List ℕ) : Type 0 where
  pub within : at ≤ length file
  pub few : 6 ≤ at
  pub reached : (version : Version) → At (whole (layout version)) file head at 6 head (tables (layout version) head finished)

abbrev pub HeadRead : (file : List ℕ) → Result ℕ ℕ → (head : List ℕ) → Type 0
HeadRead file (Ok at) head = HeadEnd file at head
HeadRead file (Err stop) head = (version : Version) → Stopped (whole (layout version)) file stop

-- what reading the whole file gives
abbrev pub FileRead : Layout → (file : List ℕ) → Result ℕ ℕ → (buffer : List ℕ) → Type 0
FileRead f file (Ok count) buffer = (words : List ℕ) × Text (whole f) file words × Holds buffer count words
FileRead f file (Err stop) buffer = Stopped (whole f) file stop

-- the file's words stand in the buffer, whatever stands after them
abbrev pub WordsStored : Layout → (file : List ℕ) → Answer → (buffer : List ℕ) → Type 0
WordsStored f file (Ok count) buffer = (words : List ℕ) × Accepted f file words × Holds buffer count words × (count ≤ length buffer)
WordsStored f file (Err error) buffer = Fails f file (length buffer) error
