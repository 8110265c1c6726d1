-- The reader of a table's file, the export `table_read` (ours): its contract is met for any bytes and any lent words and demands nothing, what a caller learns from
-- it is what the definition gives, every lent word of it; how many lent words are enough; and that what the writer of M-112 writes is read back.
-- Statements only, each by the lemma that proves it.
use Prim.Native.Nat.{ℕ, ◌+◌, ◌*◌, ◌^◌, ◌≤◌, ◌<◌}
use mathlib.Core.Path.{◌≡◌}
use mathlib.Core.List.{List}
use lib.ListN.{length, get_or}
use contract.Lifetimes.{Lfts}
use denote.Ref.{Bor, MutBor}
use Rattle.table.specs.Check.{accepted, checked}
use Rattle.text.specs.Answer.{Accepted, Refusal}
use Rattle.text.specs.Layout.{layout}
use Rattle.text.specs.Lent.{padded}
use Rattle.text.specs.Reading.{reads, refuses, reading}
use Rattle.text.specs.declared.version.Version.TheVariants.{New}
use Rattle.text.proofs.ReadingLaws.{accepted_reads, refusal_refuses}
use Rattle.convert.specs.Write.{table_text}
use Rattle.convert.specs.Read.{table_read}
use Rattle.convert.proofs.PlacedLaws.{good_read}
use Rattle.convert.proofs.RoomLaws.{half_enough, most_enough}
use Rattle.convert.proofs.table_read.table_read.Statement as read_export_stated
use Rattle.convert.proofs.table_read.table_read.Met as read_export_proved
use Rattle.convert.proofs.table_read.table_read.Reads as read_export
use Rattle.theorems.proofs.Requests.{the_writers_text_is_the_good_file}

pub table_read_meets_its_contract : {M : Type 1} → read_export_stated.statement M
table_read_meets_its_contract = read_export_proved.met

-- a call's references, before or after it: the file, the lent words, at and the number of words
abbrev pub FileAndWords : Type 0
FileAndWords = Bor (List ℕ) × (MutBor (List ℕ) × (MutBor ℕ × (MutBor ℕ × Unit {0})))

pub table_read_asks_nothing : (κs : Lfts 4) (before : FileAndWords) → read_export.Asked κs before
table_read_asks_nothing κs before = tt

pub table_read_gives_the_definition : (κs : Lfts 4) (before after : FileAndWords) (code : ℕ) → read_export.Learnt κs before code after
    → record { code = code; at = after.1.1.0.now; count = after.1.1.1.0.now; lent = after.1.0.now } ≡ table_read before.0.now (length before.1.0.now)
table_read_gives_the_definition κs before after code learnt = learnt

-- what the file reads as, in that definition, with no reader in it: a good file its words, any other its refusal and place (text/specs/Answer)
pub a_good_file_reads_as_its_words : (file words : List ℕ) → Accepted (layout New) file words → reading (layout New) file ≡ reads words
a_good_file_reads_as_its_words = accepted_reads (layout New)

pub any_other_file_reads_as_its_refusal : (file : List ℕ) (code at : ℕ) → Refusal (layout New) file code at → reading (layout New) file ≡ refuses code at
any_other_file_reads_as_its_refusal = refusal_refuses (layout New)

-- 54 does not come where half as many words are lent as the file has bytes, nor where 16,384 are
pub half_as_many_words_are_enough : (file : List ℕ) (room : ℕ) → length file ≤ room * 2 + 1 → (table_read file room).code ≡ 54 → ⊥
half_as_many_words_are_enough = half_enough

pub words_enough_for_any_file : (file : List ℕ) (room : ℕ) → 16384 ≤ room → (table_read file room).code ≡ 54 → ⊥
words_enough_for_any_file = most_enough

-- the writer's text of words of 32 bits with no refusal 1 to 4 is read as these words, where it is not too long to be read
pub what_is_written_is_read_back : (words : List ℕ) → checked words ≡ accepted → ((i : ℕ) → get_or words i 0 < 2 ^ 32) → length (table_text words) ≤ 32768
    → (room : ℕ) → length words ≤ room → table_read (table_text words) room ≡ record { code = 0; at = 0; count = length words; lent = padded room words }
what_is_written_is_read_back words passed narrow short room =
    good_read (table_text words) room words (record { short = short; good = (the_writers_text_is_the_good_file words passed narrow).0 })
