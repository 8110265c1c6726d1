-- Paper 01, "Whoever fills the words": refusals 1 to 4 with their places, in the paper's order.
use Rattle.std.specs.Prelude.{ℕ, zero, suc, ◌+◌, List, [], ◌∷◌, Bool, true, false, ◌||◌, ◌&&◌, get_or, length, replicate, eqb, leb, ltb}
use Rattle.table.specs.Words.{word, entry_word, block_count, instruction_count, case_count, place_count, identifier_count}
use Rattle.table.specs.Words.{blocks_begin, instructions_begin, cases_begin, places_begin, identifiers_begin, words_needed, block_word, instruction_word, largest}

pub data Verdict : Type 0 where
  accepted : Verdict
  refused : (code at : ℕ) → Verdict

-- ---- what a word must be

pub data Rule : Type 0 where
  unused : Rule
  -- a number of at most `most`
  number : (most : ℕ) → Rule
  -- a row of a table that has `rows` rows
  row : (rows : ℕ) → Rule
  row_or_none : (rows : ℕ) → Rule
  -- a number of rows, from `first` on, of a table that has `rows` rows
  rows_from : (first rows : ℕ) → Rule
  -- the end of a span that begins here: at least that, and a row word
  end_of : (from : ℕ) → Rule

unfoldable pub fits : Rule → ℕ → Bool
fits unused w = eqb w 0
fits (number most) w = leb w most
fits (row rows) w = ltb w rows
fits (row_or_none rows) w = eqb w largest || ltb w rows
fits (rows_from first rows) w = leb (first + w) rows
fits (end_of from) w = leb from w && leb w largest

-- the paper's words for the rules of a column
module _ (ws : List ℕ) where
  unfoldable pub block : Rule
  block = row (block_count ws)

  unfoldable pub block_or_none : Rule
  block_or_none = row_or_none (block_count ws)

  unfoldable pub place : Rule
  place = row (place_count ws)

  unfoldable pub place_or_none : Rule
  place_or_none = row_or_none (place_count ws)

  -- the columns a to e of each code, in the order of the codes; those not listed are unused. A Switch's number of cases is charged with its sum
  abbrev pub rules_by_code : (first_case : ℕ) → List (List Rule)
  rules_by_code first_case =
      []
      ∷ []
      ∷ (place ∷ [])
      ∷ (place ∷ [])
      ∷ (block ∷ number 2 ∷ [])
      ∷ (place ∷ block ∷ block ∷ block ∷ [])
      ∷ (place ∷ block ∷ block ∷ [])
      ∷ (place ∷ number largest ∷ rows_from first_case (case_count ws) ∷ block ∷ [])
      ∷ (block ∷ block ∷ block ∷ [])
      ∷ (block ∷ block ∷ block ∷ [])
      ∷ (block ∷ block ∷ block_or_none ∷ block ∷ block ∷ [])
      ∷ (block ∷ block ∷ block ∷ block ∷ [])
      ∷ (block ∷ block ∷ block ∷ [])
      ∷ (number 2 ∷ block ∷ block ∷ [])
      ∷ (block ∷ block ∷ [])
      ∷ (number 1 ∷ block ∷ block ∷ [])
      ∷ (block ∷ block ∷ [])
      ∷ (block ∷ block ∷ [])
      ∷ (block ∷ [])
      ∷ (block ∷ block ∷ block ∷ place_or_none ∷ [])
      ∷ (block ∷ block ∷ number largest ∷ [])
      ∷ (block ∷ block ∷ number largest ∷ [])
      ∷ []

  unfoldable pub terminal_rules : (code first_case : ℕ) → List Rule
  terminal_rules code first_case = get_or (rules_by_code first_case) code []

  -- "0 no such block (whole row 0)"; else first, count, code, a to e, id, from, to. "a bad sum is charged to count"; "4 is also
  -- given at `to` where it is less than `from`"
  unfoldable pub block_rules : ℕ → List Rule
  block_rules b =
      let code : ℕ = block_word ws b 2 in
      let terminal : List Rule = terminal_rules code (block_word ws b 4) in
      elim (eqb code 0) [
        | true ↦ replicate 11 unused
        | false ↦
            number largest
            ∷ rows_from (block_word ws b 0) (instruction_count ws)
            ∷ number 21
            ∷ get_or terminal 0 unused
            ∷ get_or terminal 1 unused
            ∷ get_or terminal 2 unused
            ∷ get_or terminal 3 unused
            ∷ get_or terminal 4 unused
            ∷ number largest
            ∷ number largest
            ∷ end_of (block_word ws b 9)
            ∷ []
      ]

  -- p and q of an instruction, by its code; those not listed are unused
  abbrev pub operands_by_code : List (List Rule)
  operands_by_code = [] ∷ (place ∷ []) ∷ (place ∷ place ∷ []) ∷ []

  unfoldable pub operand_rules : (code : ℕ) → List Rule
  operand_rules code = get_or operands_by_code code []

  -- id, lvalue, code, p, q, from, to
  unfoldable pub instruction_rules : ℕ → List Rule
  instruction_rules i =
      let operands : List Rule = operand_rules (instruction_word ws i 2) in
      number largest ∷ place ∷ number 2 ∷ get_or operands 0 unused ∷ get_or operands 1 unused ∷ number largest ∷ end_of (instruction_word ws i 5) ∷ []

  unfoldable pub case_rules : ℕ → List Rule
  case_rules i = place_or_none ∷ block ∷ []

  unfoldable pub place_rules : ℕ → List Rule
  place_rules i = row (identifier_count ws) ∷ []

  unfoldable pub identifier_rules : ℕ → List Rule
  identifier_rules i = number 1 ∷ []

-- ---- the first bad word

unfoldable pub and_then : Verdict → Verdict → Verdict
and_then accepted next = next
and_then (refused code at) next = refused code at

-- of a row that begins at the word `at`
unfoldable pub row_verdict : List ℕ → ℕ → List Rule → Verdict
row_verdict ws at [] = accepted
row_verdict ws at (rule ∷ rules) = elim (fits rule (word ws at)) [ true ↦ row_verdict ws (suc at) rules | false ↦ refused 4 at ]

-- of `count` rows from the row `first` on, which begins at the word `at`
unfoldable pub rows_verdict : List ℕ → (ℕ → List Rule) → (at first count : ℕ) → Verdict
rows_verdict ws rules at first zero = accepted
rows_verdict ws rules at first (suc count) = and_then (row_verdict ws at (rules first)) (rows_verdict ws rules (at + length (rules first)) (suc first) count)

-- "4 first bad word, at it"
unfoldable pub words_verdict : List ℕ → Verdict
words_verdict ws =
    and_then (rows_verdict ws (block_rules ws) blocks_begin 0 (block_count ws))
    (and_then (rows_verdict ws (instruction_rules ws) (instructions_begin ws) 0 (instruction_count ws))
    (and_then (rows_verdict ws (case_rules ws) (cases_begin ws) 0 (case_count ws))
    (and_then (rows_verdict ws (place_rules ws) (places_begin ws) 0 (place_count ws))
    (rows_verdict ws (identifier_rules ws) (identifiers_begin ws) 0 (identifier_count ws)))))

-- ---- the whole

-- "counts of blocks (at most 1,024), instructions (4,096), cases (1,024), places (4,096), identifiers (4,096)"
abbrev pub limits : List ℕ
limits = 1024 ∷ 4096 ∷ 1024 ∷ 4096 ∷ 4096 ∷ []

-- "2 the first count over its limit, at its word"
unfoldable pub counts_verdict : List ℕ → ℕ → List ℕ → Verdict
counts_verdict ws at [] = accepted
counts_verdict ws at (limit ∷ limits) = elim (leb (word ws at) limit) [ true ↦ counts_verdict ws (suc at) limits | false ↦ refused 2 at ]

unfoldable pub checked : List ℕ → Verdict
checked ws =
    elim (ltb (length ws) 6) [
      | true ↦ refused 1 0
      | false ↦
          elim (counts_verdict ws 1 limits) [
            | refused code at ↦ refused code at
            | accepted ↦
                elim (eqb (length ws) (words_needed ws)) [
                  | false ↦ refused 1 0
                  | true ↦ elim (ltb (entry_word ws) (block_count ws)) [ false ↦ refused 3 0 | true ↦ words_verdict ws ]
                ]
          ]
    ]
