-- `convert::writing::write_checked` meets its contract. Three ends: the check refuses, the text does not fit (53), or it is written.
use Rattle.std.proofs.Common.{refl}
use Rattle.std.proofs.lemmas.Result.{err_from_is_err_and}
use Rattle.text.specs.Placed.{cleared, refusal}
use Rattle.text.proofs.PlacedLaws.{fits_placed, over_placed}
use Rattle.convert.specs.WriteAnswer.{code_of, place_of}
use Rattle.convert.specs.declared.writing.WriteError.TheVariants.{NoRoom}
use Rattle.convert.proofs.TextLaws.{table_accepted, table_refused}
use Rattle.convert.proofs.writing.write_checked.Goals as goal

pub returns-in_err-table : goal.returns-in_err-table
unfolding cleared refusal
returns-in_err-table c =
    let p = err_from_is_err_and c.from_residual.result c.from_residual.ensures.1 in
    table_refused _ _ _ _ c.in_err-table.ensures.verdict (rw (p.1, p.2) refl)

pub returns-in_err-write_words : goal.returns-in_err-write_words
returns-in_err-write_words c =
    let p = err_from_is_err_and c.from_residual-in_err-write_words.result c.from_residual-in_err-write_words.ensures.1 in
    let over = rw c.in_ok-table.ensures.same at c.in_err-write_words.ensures.value in
    table_accepted _ _ c.in_ok-table.ensures.verdict (rw (p.1, p.2) (over_placed code_of place_of _ _ _ NoRoom over refl c.write_words.auto.text))

pub returns : goal.returns
returns c =
    let wrote = rw c.in_ok-table.ensures.same at c.in_ok-write_words.ensures in
    table_accepted _ _ c.in_ok-table.ensures.verdict (fits_placed code_of place_of _ _ _ 53 wrote.value wrote.text_after)
