-- From the tables' texts to the text of the whole; and where the tables lie in the words.
use Prim.Native.Nat.{ℕ, ◌+◌, ◌-◌, ◌*◌, ◌≤◌}
use mathlib.Core.Path.{◌≡◌}
use mathlib.Core.List.{List, [], ◌∷◌, ◌++◌, append-nil}
use native.Mathlib.Omega.{arith}
use lib.ListN.{length, get_or, take, drop}
use Rattle.table.specs.Words.{word, block_count, instruction_count, case_count, place_count, identifier_count}
use Rattle.table.specs.Words.{blocks_begin, instructions_begin, cases_begin, places_begin, identifiers_begin, words_needed}
use Rattle.table.specs.Check.{accepted, refused, checked}
use Rattle.table.specs.Promise.{Sized}
use Rattle.text.specs.Layout.{Layout, Columns, layout, block_columns, instruction_columns}
use Rattle.text.specs.File.{Tables, text_of}
use Rattle.text.specs.Line.{lines, cut, rows_in}
use Rattle.text.specs.Placed.{Placing, refusal, placed}
use Rattle.text.specs.Writer.{written}
use Rattle.text.specs.declared.version.Version.{Version}
use Rattle.text.specs.declared.version.Version.TheVariants.{Old, New}
use Rattle.text.specs.declared.write.Writer.{Writer}
use Rattle.text.proofs.WriterLaws.{written_append}
use Rattle.convert.specs.Cut.{instructions_at, cases_at, places_at, identifiers_at, end_at, Shaped, tables_in, text_in}
use Rattle.convert.proofs.CutLaws.{rows_taken, rows_between}
use Rattle.convert.specs.Write.{unless_refused, table_written, table_text}

-- ---- where the tables lie

-- each table ends where the next begins, and none has more than 4,096 rows
pub record Within (words : List ℕ) : Type 0 where
  pub head : 6 ≤ length words
  pub blocks : instructions_begin words ≡ 6 + block_count words * 11
  pub instructions : cases_begin words ≡ instructions_begin words + instruction_count words * 7
  pub cases : places_begin words ≡ cases_begin words + case_count words * 2
  pub places : identifiers_begin words ≡ places_begin words + place_count words
  pub identifiers : length words ≡ identifiers_begin words + identifier_count words
  pub few_blocks : block_count words ≤ 1024
  pub few_instructions : instruction_count words ≤ 4096
  pub few_cases : case_count words ≤ 1024
  pub few_places : place_count words ≤ 4096
  pub few_identifiers : identifier_count words ≤ 4096

pub sized_within : (words : List ℕ) → Sized words → Within words
unfolding words_needed identifiers_begin places_begin cases_begin instructions_begin blocks_begin
sized_within words s = omega (arith, s.long, s.limited)

-- today's words that are as many as their head says
pub sized_shaped : (words : List ℕ) → Sized words → Shaped (layout New) words
unfolding words_needed identifiers_begin places_begin cases_begin instructions_begin blocks_begin block_count instruction_count case_count place_count identifier_count
    word end_at identifiers_at places_at cases_at instructions_at
sized_shaped words s = record { head = s.limited.head; long = omega (arith, s.long) }

-- ---- the text

-- a row has at least so many words
blocks_narrow : (version : Version) → (block_columns version).width ≤ 11
blocks_narrow Old = omega arith
blocks_narrow New = omega arith

instructions_narrow : (version : Version) → (instruction_columns version).width ≤ 7
instructions_narrow Old = omega arith
instructions_narrow New = omega arith

-- the tables, one after the other
abbrev part : Writer → (names : List ℕ) → (rows : List (List ℕ)) → Writer
part w names rows = written w (names ++ lines rows)

pub tables_written : (w : Writer) (f : Layout) (t : Tables)
    → part (part (part (part (part (part w f.head.names (t.head ∷ [])) f.blocks.names t.blocks) f.instructions.names t.instructions)
    f.cases.names t.cases) f.places.names t.places) f.identifiers.names t.identifiers
    ≡ written w (text_of f t)
unfolding lines
tables_written w f t = simp (written_append, append-nil)

-- the same of their rows as slices of the words have them
pub text_written : (w : Writer) (version : Version) (words : List ℕ) (blocks instructions : Columns) {first case place identifier : ℕ} → Sized words
    → blocks ≡ block_columns version → instructions ≡ instruction_columns version
    → first ≡ instructions_begin words → case ≡ cases_begin words → place ≡ places_begin words → identifier ≡ identifiers_begin words
    → part (part (part (part (part (part w (layout New).head.names (rows_in 6 6 (take 6 words)))
    blocks.names (rows_in 11 blocks.width (take (first - 6) (drop 6 words))))
    instructions.names (rows_in 7 instructions.width (take (case - first) (drop first words))))
    (layout New).cases.names (rows_in 2 2 (take (place - case) (drop case words))))
    (layout New).places.names (rows_in 1 1 (take (identifier - place) (drop place words))))
    (layout New).identifiers.names (rows_in 1 1 (take (length words - identifier) (drop identifier words)))
    ≡ written w (text_in (layout New) (layout version) words)
unfolding text_in tables_in cut identifiers_begin places_begin cases_begin instructions_begin blocks_begin block_count instruction_count case_count place_count
    identifier_count word identifiers_at places_at cases_at instructions_at
text_written w version words blocks instructions {first} {case} {place} {identifier} sized b i at_instructions at_cases at_places at_identifiers =
    let within = sized_within words sized in
    let one : get_or words 4 0 * 1 ≡ get_or words 4 0 = omega arith in
    let block_rows = rows_between 11 (block_columns version).width (block_count words) 6 first words (omega arith) (blocks_narrow version)
    (omega (arith, at_instructions, within)) (omega (arith, at_instructions, within)) in
    let instruction_rows = rows_between 7 (instruction_columns version).width (instruction_count words) first case words (omega arith) (instructions_narrow version)
    (omega (arith, at_instructions, at_cases, within)) (omega (arith, at_cases, within)) in
    let case_rows = rows_between 2 2 (case_count words) case place words (omega arith) (omega arith) (omega (arith, at_cases, at_places, within)) (omega (arith, at_places, within)) in
    let place_rows = rows_between 1 1 (place_count words) place identifier words (omega arith) (omega arith)
    (omega (arith, at_places, at_identifiers, within)) (omega (arith, at_identifiers, within)) in
    let identifier_rows = rows_between 1 1 (identifier_count words) identifier (length words) words (omega arith) (omega arith) (omega (arith, at_identifiers, within)) (omega arith) in
    let head_row = rows_taken 6 6 1 words (omega arith) (omega arith) within.head in
    rw (b, i, head_row, block_rows, instruction_rows, case_rows, place_rows, identifier_rows, at_instructions, at_cases, at_places, at_identifiers, one)
    (rw one at (tables_written w (layout version) (tables_in (layout New) (layout version) words)))

-- ---- the answer

module _ (words : List ℕ) (lent : ℕ) {answer : Placing} where
  pub table_accepted : accepted ≡ checked words → answer ≡ placed 53 lent (table_text words) → answer ≡ table_written words lent
  unfolding table_written unless_refused
  table_accepted v e = rw (← v) e

  pub table_refused : (code at : ℕ) → refused code at ≡ checked words → answer ≡ refusal code at lent → answer ≡ table_written words lent
  unfolding table_written unless_refused
  table_refused code at v e = rw (← v) e
