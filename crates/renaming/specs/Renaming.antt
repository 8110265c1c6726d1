-- M-111: a table with every block renamed, and what the build gives of it.
-- `new` gives a block's new number, `old` the old one. Both leave a number as it is if it is no block of the table, so that 65,535 stays none.
use Rattle.std.specs.Prelude.{ℕ, zero, suc, ◌<◌, ◌≤◌, ◌≡◌, List, [], ◌∷◌, ◌++◌, Bool, true, false, ◌&&◌, get_or, length, leb}
use Rattle.table.specs.Words.{entry_word, block_count, instruction_count, case_count, place_count, identifier_count, block_word, instruction_word, case_word, place_word, identifier_word}
use Rattle.definition.specs.Tree.{Row, row}
use Rattle.definition.specs.Build.{Outcome}

-- a permutation of the numbers below n, and the one that undoes it
pub record Renaming (n : ℕ) (new old : ℕ → ℕ) : Type 0 where
  pub old_new : (b : ℕ) → old (new b) ≡ b
  pub new_old : (b : ℕ) → new (old b) ≡ b
  pub beyond : (b : ℕ) → n ≤ b → new b ≡ b

-- ---- the words of a table

-- which of the columns a to e name a block, in the order of the codes; those not listed do not. A For's update may be none
abbrev pub names_by_code : List (List Bool)
names_by_code =
    []
    ∷ []
    ∷ []
    ∷ []
    ∷ (true ∷ [])
    ∷ (false ∷ true ∷ true ∷ true ∷ [])
    ∷ (false ∷ true ∷ true ∷ [])
    ∷ (false ∷ false ∷ false ∷ true ∷ [])
    ∷ (true ∷ true ∷ true ∷ [])
    ∷ (true ∷ true ∷ true ∷ [])
    ∷ (true ∷ true ∷ true ∷ true ∷ true ∷ [])
    ∷ (true ∷ true ∷ true ∷ true ∷ [])
    ∷ (true ∷ true ∷ true ∷ [])
    ∷ (false ∷ true ∷ true ∷ [])
    ∷ (true ∷ true ∷ [])
    ∷ (false ∷ true ∷ true ∷ [])
    ∷ (true ∷ true ∷ [])
    ∷ (true ∷ true ∷ [])
    ∷ (true ∷ [])
    ∷ (true ∷ true ∷ true ∷ [])
    ∷ (true ∷ true ∷ [])
    ∷ (true ∷ true ∷ [])
    ∷ []

-- column 0 is a
unfoldable pub names_block : (code column : ℕ) → Bool
names_block code column = get_or (get_or names_by_code code []) column false

abbrev pub renamed_if : Bool → (ℕ → ℕ) → ℕ → ℕ
renamed_if true new w = new w
renamed_if false new w = w

-- a row with the blocks that it names renamed
unfoldable pub renamed_block_row : (new : ℕ → ℕ) → List ℕ → (b : ℕ) → List ℕ
renamed_block_row new ws b =
    let column : ℕ → ℕ = block_word ws b in
    let name : ℕ → ℕ → ℕ = λ k. renamed_if (names_block (column 2) k) new in
    column 0 ∷ column 1 ∷ column 2 ∷ name 0 (column 3) ∷ name 1 (column 4) ∷ name 2 (column 5) ∷ name 3 (column 6) ∷ name 4 (column 7) ∷ column 8 ∷ column 9 ∷ column 10 ∷ []

unfoldable pub instruction_row : List ℕ → (i : ℕ) → List ℕ
instruction_row ws i =
    let column : ℕ → ℕ = instruction_word ws i in
    column 0 ∷ column 1 ∷ column 2 ∷ column 3 ∷ column 4 ∷ column 5 ∷ column 6 ∷ []

-- "every case row renamed whether used or not"
unfoldable pub renamed_case_row : (new : ℕ → ℕ) → List ℕ → (i : ℕ) → List ℕ
renamed_case_row new ws i = case_word ws i 0 ∷ new (case_word ws i 1) ∷ []

-- the rows f 0, f 1, .. one after the other, up to a number
unfoldable pub rows_of : (ℕ → List ℕ) → ℕ → List ℕ
rows_of f zero = []
rows_of f (suc n) = f 0 ++ rows_of (λ i. f (suc i)) n

-- row b of the new table is the old table's row `old b`
unfoldable pub renamed : (new old : ℕ → ℕ) → List ℕ → List ℕ
renamed new old ws =
    new (entry_word ws) ∷ block_count ws ∷ instruction_count ws ∷ case_count ws ∷ place_count ws ∷ identifier_count ws
    ∷ (rows_of (λ b. renamed_block_row new ws (old b)) (block_count ws)
    ++ (rows_of (instruction_row ws) (instruction_count ws)
    ++ (rows_of (renamed_case_row new ws) (case_count ws)
    ++ (rows_of (λ i. place_word ws i ∷ []) (place_count ws)
    ++ rows_of (λ i. identifier_word ws i ∷ []) (identifier_count ws)))))

-- ---- the same, word by word: words that are so related to a table's are its renamed words, and no others (proofs/WordLaws)

pub record RenamedWords (new old : ℕ → ℕ) (ws ws' : List ℕ) : Type 0 where
  pub long : length ws' ≡ length ws
  pub entry : entry_word ws' ≡ new (entry_word ws)
  pub blocks : block_count ws' ≡ block_count ws
  pub instructions : instruction_count ws' ≡ instruction_count ws
  pub cases : case_count ws' ≡ case_count ws
  pub places : place_count ws' ≡ place_count ws
  pub identifiers : identifier_count ws' ≡ identifier_count ws
  pub block : (row : ℕ) → row < block_count ws → (column : ℕ) → column < 11 → block_word ws' row column ≡ get_or (renamed_block_row new ws (old row)) column 0
  pub instruction : (row : ℕ) → row < instruction_count ws → (column : ℕ) → column < 7 → instruction_word ws' row column ≡ instruction_word ws row column
  pub case_test : (row : ℕ) → row < case_count ws → case_word ws' row 0 ≡ case_word ws row 0
  pub case_block : (row : ℕ) → row < case_count ws → case_word ws' row 1 ≡ new (case_word ws row 1)
  pub place : (row : ℕ) → row < place_count ws → place_word ws' row ≡ place_word ws row
  pub identifier : (row : ℕ) → row < identifier_count ws → identifier_word ws' row ≡ identifier_word ws row

-- ---- what the build gives

-- the columns of a tree's row that name a block: the target of BREAK and CONTINUE, and a statement's label. By the op, in the order of the ops
abbrev pub rows_by_op : (new : ℕ → ℕ) → (op a b c d e : ℕ) → List Row
rows_by_op new op a b c d e =
    let kept : Row = row op a b c d e in
    let name_a : Row = row op (new a) b c d e in
    let name_b : Row = row op a (new b) c d e in
    let name_d : Row = row op a b c (new d) e in
    kept ∷ kept ∷ kept ∷ kept ∷ kept ∷ kept ∷ kept ∷ kept ∷ kept ∷ kept
    ∷ name_d ∷ kept ∷ name_d
    ∷ name_b ∷ name_b ∷ name_b ∷ name_b ∷ name_b ∷ name_b ∷ name_b
    ∷ kept ∷ kept ∷ kept ∷ kept
    ∷ name_a ∷ name_a ∷ []

abbrev pub renamed_row : (new : ℕ → ℕ) → Row → Row
renamed_row new (row op a b c d e) = get_or (rows_by_op new op a b c d e) op (row op a b c d e)

abbrev pub row_words : Row → List ℕ → List ℕ
row_words (row op a b c d e) after = op ∷ a ∷ b ∷ c ∷ d ∷ e ∷ after

-- six words a row, and the words after the last whole row
unfoldable pub renamed_buffer : (new : ℕ → ℕ) → List ℕ → List ℕ
renamed_buffer new [] = []
renamed_buffer new (op ∷ []) = op ∷ []
renamed_buffer new (op ∷ a ∷ []) = op ∷ a ∷ []
renamed_buffer new (op ∷ a ∷ b ∷ []) = op ∷ a ∷ b ∷ []
renamed_buffer new (op ∷ a ∷ b ∷ c ∷ []) = op ∷ a ∷ b ∷ c ∷ []
renamed_buffer new (op ∷ a ∷ b ∷ c ∷ d ∷ []) = op ∷ a ∷ b ∷ c ∷ d ∷ []
renamed_buffer new (op ∷ a ∷ b ∷ c ∷ d ∷ e ∷ after) = row_words (renamed_row new (row op a b c d e)) (renamed_buffer new after)

-- "`at` renamed where it is a block": paper 01's refusals 10 to 31
unfoldable pub renamed_at : (new : ℕ → ℕ) → (code at : ℕ) → ℕ
renamed_at new code at = renamed_if (leb 10 code && leb code 31) new at

-- M-101: the label of each line is a block; the words after the lines are none
unfoldable pub renamed_index : (new : ℕ → ℕ) → (lines : ℕ) → List ℕ → List ℕ
renamed_index new zero index = index
renamed_index new (suc lines) [] = []
renamed_index new (suc lines) (label ∷ []) = label ∷ []
renamed_index new (suc lines) (label ∷ first ∷ []) = label ∷ first ∷ []
renamed_index new (suc lines) (label ∷ first ∷ closing ∷ after) = new label ∷ first ∷ closing ∷ renamed_index new lines after

unfoldable pub renamed_outcome : (new : ℕ → ℕ) → Outcome → Outcome
renamed_outcome new o = record {
  code = o.code;
  at = renamed_at new o.code o.at;
  rows = o.rows;
  visits = o.visits;
  lines = o.lines;
  buffer = renamed_buffer new o.buffer;
  index = renamed_index new o.lines o.index;
}
