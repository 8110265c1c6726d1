-- `table_check::blocks::block_row` meets its contract.
use mathlib.Core.Path.{refl, sym, ◌∙◌}
use mathlib.Core.List.{[], ◌∷◌}
use Rattle.table.specs.Check.{number, end_of, terminal_rules}
use Rattle.table.specs.Answer.{five}
use Rattle.table_check.proofs.RowLaws.{passed, failed, all_fit, within, beyond}
use Rattle.table.proofs.RuleLaws.{absent, present}
use Rattle.table_check.proofs.blocks.block_row.Goals as goal

pub returns-then-code-eq0 : goal.returns-then-code-eq0
returns-then-code-eq0 c = rw (absent _ _ (sym c.block_word-code.ensures ∙ c.if-code-eq0.true)) c.absent_row.ensures

pub returns-then-first-ge-ANY : goal.returns-then-first-ge-ANY
returns-then-first-ge-ANY c =
    rw (present _ _ (λ e. c.if-code-eq0.false (c.block_word-code.ensures ∙ e)))
    (failed _ _ _ _ c.block_word-first.ensures refl c.if-first-ge-ANY.true)

pub returns-then-block_word-most : goal.returns-then-block_word-most
returns-then-block_word-most c =
    rw (present _ _ (λ e. c.if-code-eq0.false (c.block_word-code.ensures ∙ e)), ← c.block_word-first.ensures, ← c.instruction_count.ensures)
    (passed _ _ _ _ c.block_word-first.ensures refl c.if-first-ge-ANY.false
    (failed _ _ _ _ c.block_word.ensures c.rows_from-most.ensures c.if-block_word-most.true))

pub returns-then-code-ge22 : goal.returns-then-code-ge22
returns-then-code-ge22 c =
    rw (present _ _ (λ e. c.if-code-eq0.false (c.block_word-code.ensures ∙ e)), ← c.block_word-first.ensures, ← c.instruction_count.ensures)
    (passed _ _ _ _ c.block_word-first.ensures refl c.if-first-ge-ANY.false
    (passed _ _ _ _ c.block_word.ensures c.rows_from-most.ensures c.if-block_word-most.false
    (failed _ _ _ _ c.block_word-code.ensures refl c.if-code-ge22.true)))

pub returns-in-Some : goal.returns-in-Some
returns-in-Some c =
    rw (present _ _ (λ e. c.if-code-eq0.false (c.block_word-code.ensures ∙ e)), ← c.block_word-first.ensures, ← c.instruction_count.ensures, ← c.block_word-code.ensures)
    (passed _ _ _ _ c.block_word-first.ensures refl c.if-first-ge-ANY.false
    (passed _ _ _ _ c.block_word.ensures c.rows_from-most.ensures c.if-block_word-most.false
    (passed _ _ _ _ c.block_word-code.ensures refl c.if-code-ge22.false
    (within _ 3 (five (terminal_rules _ _ _)) (number 65535 ∷ number 65535 ∷ end_of _ ∷ []) c.in-Some.ensures))))

pub returns-then-block_word-ge-ANY : goal.returns-then-block_word-ge-ANY
returns-then-block_word-ge-ANY c =
    rw (present _ _ (λ e. c.if-code-eq0.false (c.block_word-code.ensures ∙ e)), ← c.block_word-first.ensures, ← c.instruction_count.ensures, ← c.block_word-code.ensures)
    (passed _ _ _ _ c.block_word-first.ensures refl c.if-first-ge-ANY.false
    (passed _ _ _ _ c.block_word.ensures c.rows_from-most.ensures c.if-block_word-most.false
    (passed _ _ _ _ c.block_word-code.ensures refl c.if-code-ge22.false
    (beyond _ 3 (five (terminal_rules _ _ _)) (number 65535 ∷ number 65535 ∷ end_of _ ∷ []) c.in_default.ensures
    (failed _ _ _ _ c.block_word-2.ensures refl c.if-block_word-ge-ANY.true)))))

pub returns-then-from-ge-ANY : goal.returns-then-from-ge-ANY
returns-then-from-ge-ANY c =
    rw (present _ _ (λ e. c.if-code-eq0.false (c.block_word-code.ensures ∙ e)), ← c.block_word-first.ensures, ← c.instruction_count.ensures, ← c.block_word-code.ensures)
    (passed _ _ _ _ c.block_word-first.ensures refl c.if-first-ge-ANY.false
    (passed _ _ _ _ c.block_word.ensures c.rows_from-most.ensures c.if-block_word-most.false
    (passed _ _ _ _ c.block_word-code.ensures refl c.if-code-ge22.false
    (beyond _ 3 (five (terminal_rules _ _ _)) (number 65535 ∷ number 65535 ∷ end_of _ ∷ []) c.in_default.ensures
    (passed _ _ _ _ c.block_word-2.ensures refl c.if-block_word-ge-ANY.false
    (failed _ _ _ _ c.block_word-from.ensures refl c.if-from-ge-ANY.true))))))

pub returns-then-to-end_of : goal.returns-then-to-end_of
returns-then-to-end_of c =
    rw (
      present _ _ (λ e. c.if-code-eq0.false (c.block_word-code.ensures ∙ e)),
      ← c.block_word-first.ensures,
      ← c.instruction_count.ensures,
      ← c.block_word-code.ensures,
      ← c.block_word-from.ensures,
    )
    (passed _ _ _ _ c.block_word-first.ensures refl c.if-first-ge-ANY.false
    (passed _ _ _ _ c.block_word.ensures c.rows_from-most.ensures c.if-block_word-most.false
    (passed _ _ _ _ c.block_word-code.ensures refl c.if-code-ge22.false
    (beyond _ 3 (five (terminal_rules _ _ _)) (number 65535 ∷ number 65535 ∷ end_of _ ∷ []) c.in_default.ensures
    (passed _ _ _ _ c.block_word-2.ensures refl c.if-block_word-ge-ANY.false
    (passed _ _ _ _ c.block_word-from.ensures refl c.if-from-ge-ANY.false
    (failed _ _ _ _ c.block_word-to.ensures c.end_of.ensures c.if-to-end_of.true)))))))

pub returns : goal.returns
returns c =
    rw (
      present _ _ (λ e. c.if-code-eq0.false (c.block_word-code.ensures ∙ e)),
      ← c.block_word-first.ensures,
      ← c.instruction_count.ensures,
      ← c.block_word-code.ensures,
      ← c.block_word-from.ensures,
    )
    (passed _ _ _ _ c.block_word-first.ensures refl c.if-first-ge-ANY.false
    (passed _ _ _ _ c.block_word.ensures c.rows_from-most.ensures c.if-block_word-most.false
    (passed _ _ _ _ c.block_word-code.ensures refl c.if-code-ge22.false
    (beyond _ 3 (five (terminal_rules _ _ _)) (number 65535 ∷ number 65535 ∷ end_of _ ∷ []) c.in_default.ensures
    (passed _ _ _ _ c.block_word-2.ensures refl c.if-block_word-ge-ANY.false
    (passed _ _ _ _ c.block_word-from.ensures refl c.if-from-ge-ANY.false
    (passed _ _ _ _ c.block_word-to.ensures c.end_of.ensures c.if-to-end_of.false
    (all_fit _ _))))))))
