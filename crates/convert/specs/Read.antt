-- What `table_read` gives for a file and a number of lent words: what the file reads as (text, `Reading.reading`: 51 and 50 as paper 01 has them),
-- in the lent words. The words of a good file are not looked at: refusals 1 to 4 are those of `table_check` and of whatever takes the words.
use Rattle.std.specs.Prelude.{ℕ, true, false, List, leb, length, replicate}
use Rattle.text.specs.Layout.{layout}
use Rattle.text.specs.Lent.{padded}
use Rattle.text.specs.Reading.{Reading, reads, refuses, reading}
use Rattle.text.specs.declared.version.Version.TheVariants.{New}

-- code (0 accepted), at, the number of words, and what the lent words hold
pub record WordsPlaced : Type 0 where
  pub code : ℕ
  pub at : ℕ
  pub count : ℕ
  pub lent : List ℕ

-- a refusal leaves zeros and gives no words
unfoldable pub refusal : (code at room : ℕ) → WordsPlaced
refusal code at room = record { code = code; at = at; count = 0; lent = replicate room 0 }

-- the words, then zeros; 54, at 0, where they are more than the lent ones
unfoldable pub placed_in : (room : ℕ) → Reading → WordsPlaced
placed_in room (reads words) =
    elim (leb (length words) room) [
      | true ↦ record { code = 0; at = 0; count = length words; lent = padded room words }
      | false ↦ refusal 54 0 room
    ]
placed_in room (refuses code at) = refusal code at room

unfoldable pub table_read : (file : List ℕ) → (room : ℕ) → WordsPlaced
table_read file room = placed_in room (reading (layout New) file)
