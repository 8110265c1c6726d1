-- Paper 01, "Input words", with spans of two words (paper 02, M-108): six head words, then the five tables in the head's order, nothing after.
use Rattle.std.specs.Prelude.{ℕ, ◌+◌, ◌*◌, List, get_or}

-- the word at a place; 0 beyond the end
unfoldable pub word : List ℕ → ℕ → ℕ
word ws i = get_or ws i 0

-- "Six head words: entry, then counts of blocks, instructions, cases, places, identifiers"
unfoldable pub entry_word : List ℕ → ℕ
entry_word ws = word ws 0

unfoldable pub block_count : List ℕ → ℕ
block_count ws = word ws 1

unfoldable pub instruction_count : List ℕ → ℕ
instruction_count ws = word ws 2

unfoldable pub case_count : List ℕ → ℕ
case_count ws = word ws 3

unfoldable pub place_count : List ℕ → ℕ
place_count ws = word ws 4

unfoldable pub identifier_count : List ℕ → ℕ
identifier_count ws = word ws 5

-- where each table begins. Words of a row: block 11, instruction 7, case 2, place 1, identifier 1
unfoldable pub blocks_begin : ℕ
blocks_begin = 6

unfoldable pub instructions_begin : List ℕ → ℕ
instructions_begin ws = blocks_begin + block_count ws * 11

unfoldable pub cases_begin : List ℕ → ℕ
cases_begin ws = instructions_begin ws + instruction_count ws * 7

unfoldable pub places_begin : List ℕ → ℕ
places_begin ws = cases_begin ws + case_count ws * 2

unfoldable pub identifiers_begin : List ℕ → ℕ
identifiers_begin ws = places_begin ws + place_count ws

unfoldable pub words_needed : List ℕ → ℕ
words_needed ws = identifiers_begin ws + identifier_count ws

-- the word in a column of a row of each table
unfoldable pub block_word : List ℕ → ℕ → ℕ → ℕ
block_word ws row column = word ws (blocks_begin + row * 11 + column)

-- the code of a block's terminal
abbrev pub code_at : List ℕ → ℕ → ℕ
code_at ws row = block_word ws row 2

unfoldable pub instruction_word : List ℕ → ℕ → ℕ → ℕ
instruction_word ws row column = word ws (instructions_begin ws + row * 7 + column)

-- the code of an instruction's operation
abbrev pub operation_code_at : List ℕ → ℕ → ℕ
operation_code_at ws row = instruction_word ws row 2

unfoldable pub case_word : List ℕ → ℕ → ℕ → ℕ
case_word ws row column = word ws (cases_begin ws + row * 2 + column)

unfoldable pub place_word : List ℕ → ℕ → ℕ
place_word ws row = word ws (places_begin ws + row)

unfoldable pub identifier_word : List ℕ → ℕ → ℕ
identifier_word ws row = word ws (identifiers_begin ws + row)

-- 65,535: the largest row word, and "none" where a column allows it
abbrev pub largest : ℕ
largest = 65535
