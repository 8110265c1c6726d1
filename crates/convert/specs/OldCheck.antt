-- Refusals 1 to 4 of paper 01's words, in which a span is one word: the rules of `table`'s Check, with rows of 10 and 6 words. "1 to 4 with
-- at in words of the form read" (M-112).
use Rattle.std.specs.Prelude.{ℕ, ◌+◌, ◌*◌, List, [], ◌∷◌, true, false, get_or, length, replicate, eqb, ltb}
use Rattle.table.specs.Words.{word, entry_word, block_count, instruction_count, case_count, place_count, identifier_count, largest}
use Rattle.table.specs.Check.{Verdict, accepted, refused, Rule, unused, number, rows_from, place, terminal_rules, operand_rules, case_rules, place_rules}
use Rattle.table.specs.Check.{identifier_rules, and_then, rows_verdict, limits, counts_verdict}
use Rattle.text.specs.Layout.{layout}
use Rattle.text.specs.declared.version.Version.TheVariants.{Old}
use Rattle.convert.specs.Cut.{instructions_at, cases_at, places_at, identifiers_at, end_at}

module _ (ws : List ℕ) where
  unfoldable pub old_block_word : (row column : ℕ) → ℕ
  old_block_word row column = word ws (6 + row * 10 + column)

  unfoldable pub old_instruction_word : (row column : ℕ) → ℕ
  old_instruction_word row column = word ws (instructions_at (layout Old) ws + row * 6 + column)

  -- first, count, code, a to e, id, span
  unfoldable pub old_block_rules : ℕ → List Rule
  old_block_rules b =
      let code : ℕ = old_block_word b 2 in
      let terminal : List Rule = terminal_rules ws code (old_block_word b 4) in
      elim (eqb code 0) [
        | true ↦ replicate 10 unused
        | false ↦
            number largest
            ∷ rows_from (old_block_word b 0) (instruction_count ws)
            ∷ number 21
            ∷ get_or terminal 0 unused
            ∷ get_or terminal 1 unused
            ∷ get_or terminal 2 unused
            ∷ get_or terminal 3 unused
            ∷ get_or terminal 4 unused
            ∷ number largest
            ∷ number largest
            ∷ []
      ]

  -- id, lvalue, code, p, q, span
  unfoldable pub old_instruction_rules : ℕ → List Rule
  old_instruction_rules i =
      let operands : List Rule = operand_rules ws (old_instruction_word i 2) in
      number largest ∷ place ws ∷ number 2 ∷ get_or operands 0 unused ∷ get_or operands 1 unused ∷ number largest ∷ []

  unfoldable pub old_words_verdict : Verdict
  old_words_verdict =
      and_then (rows_verdict ws old_block_rules 6 0 (block_count ws))
      (and_then (rows_verdict ws old_instruction_rules (instructions_at (layout Old) ws) 0 (instruction_count ws))
      (and_then (rows_verdict ws (case_rules ws) (cases_at (layout Old) ws) 0 (case_count ws))
      (and_then (rows_verdict ws (place_rules ws) (places_at (layout Old) ws) 0 (place_count ws))
      (rows_verdict ws (identifier_rules ws) (identifiers_at (layout Old) ws) 0 (identifier_count ws)))))

  unfoldable pub old_checked : Verdict
  old_checked =
      elim (ltb (length ws) 6) [
        | true ↦ refused 1 0
        | false ↦
            elim (counts_verdict ws 1 limits) [
              | refused code at ↦ refused code at
              | accepted ↦
                  elim (eqb (length ws) (end_at (layout Old) ws)) [
                    | false ↦ refused 1 0
                    | true ↦ elim (ltb (entry_word ws) (block_count ws)) [ false ↦ refused 3 0 | true ↦ old_words_verdict ]
                  ]
            ]
      ]
