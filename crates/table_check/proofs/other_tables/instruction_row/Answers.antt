-- `table_check::other_tables::instruction_row` meets its contract.
use mathlib.Core.Path.{refl}
use mathlib.Core.List.{[], ◌∷◌}
use Rattle.table.specs.Check.{number, end_of, operand_rules, instruction_rules, place}
use Rattle.table_check.specs.Found.{two}
use Rattle.table_check.proofs.RowLaws.{passed, failed, all_fit, within, beyond}
use Rattle.table_check.proofs.other_tables.instruction_row.Goals as goal

pub returns-then-instruction_word-ge-ANY : goal.returns-then-instruction_word-ge-ANY
unfolding instruction_rules place
returns-then-instruction_word-ge-ANY c = failed _ _ _ _ c.instruction_word.ensures refl c.if-instruction_word-ge-ANY.true

pub returns-then-instruction_word-place_count : goal.returns-then-instruction_word-place_count
unfolding instruction_rules place
returns-then-instruction_word-place_count c =
    rw (← c.place_count.ensures)
    (passed _ _ _ _ c.instruction_word.ensures refl c.if-instruction_word-ge-ANY.false
    (failed _ _ _ _ c.instruction_word-2.ensures refl c.if-instruction_word-place_count.true))

pub returns-then-code-ge3 : goal.returns-then-code-ge3
unfolding instruction_rules place
returns-then-code-ge3 c =
    rw (← c.place_count.ensures)
    (passed _ _ _ _ c.instruction_word.ensures refl c.if-instruction_word-ge-ANY.false
    (passed _ _ _ _ c.instruction_word-2.ensures refl c.if-instruction_word-place_count.false
    (failed _ _ _ _ c.instruction_word-code.ensures refl c.if-code-ge3.true)))

pub returns-in-Some : goal.returns-in-Some
unfolding instruction_rules place
returns-in-Some c =
    rw (← c.place_count.ensures, ← c.instruction_word-code.ensures)
    (passed _ _ _ _ c.instruction_word.ensures refl c.if-instruction_word-ge-ANY.false
    (passed _ _ _ _ c.instruction_word-2.ensures refl c.if-instruction_word-place_count.false
    (passed _ _ _ _ c.instruction_word-code.ensures refl c.if-code-ge3.false
    (within _ 3 (two (operand_rules _ _)) (number 65535 ∷ end_of _ ∷ []) c.in-Some.ensures))))

pub returns-then-from-ge-ANY : goal.returns-then-from-ge-ANY
unfolding instruction_rules place
returns-then-from-ge-ANY c =
    rw (← c.place_count.ensures, ← c.instruction_word-code.ensures)
    (passed _ _ _ _ c.instruction_word.ensures refl c.if-instruction_word-ge-ANY.false
    (passed _ _ _ _ c.instruction_word-2.ensures refl c.if-instruction_word-place_count.false
    (passed _ _ _ _ c.instruction_word-code.ensures refl c.if-code-ge3.false
    (beyond _ 3 (two (operand_rules _ _)) (number 65535 ∷ end_of _ ∷ []) c.in_default.ensures
    (failed _ _ _ _ c.instruction_word-from.ensures refl c.if-from-ge-ANY.true)))))

pub returns-then-to-end_of : goal.returns-then-to-end_of
unfolding instruction_rules place
returns-then-to-end_of c =
    rw (← c.place_count.ensures, ← c.instruction_word-code.ensures, ← c.instruction_word-from.ensures)
    (passed _ _ _ _ c.instruction_word.ensures refl c.if-instruction_word-ge-ANY.false
    (passed _ _ _ _ c.instruction_word-2.ensures refl c.if-instruction_word-place_count.false
    (passed _ _ _ _ c.instruction_word-code.ensures refl c.if-code-ge3.false
    (beyond _ 3 (two (operand_rules _ _)) (number 65535 ∷ end_of _ ∷ []) c.in_default.ensures
    (passed _ _ _ _ c.instruction_word-from.ensures refl c.if-from-ge-ANY.false
    (failed _ _ _ _ c.instruction_word-to.ensures c.end_of.ensures c.if-to-end_of.true))))))

pub returns : goal.returns
unfolding instruction_rules place
returns c =
    rw (← c.place_count.ensures, ← c.instruction_word-code.ensures, ← c.instruction_word-from.ensures)
    (passed _ _ _ _ c.instruction_word.ensures refl c.if-instruction_word-ge-ANY.false
    (passed _ _ _ _ c.instruction_word-2.ensures refl c.if-instruction_word-place_count.false
    (passed _ _ _ _ c.instruction_word-code.ensures refl c.if-code-ge3.false
    (beyond _ 3 (two (operand_rules _ _)) (number 65535 ∷ end_of _ ∷ []) c.in_default.ensures
    (passed _ _ _ _ c.instruction_word-from.ensures refl c.if-from-ge-ANY.false
    (passed _ _ _ _ c.instruction_word-to.ensures c.end_of.ensures c.if-to-end_of.false
    (all_fit _ _)))))))
