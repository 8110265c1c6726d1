-- `convert::convert_new` meets its contract. Four ends: the check refuses, two ends of a span differ (52), the old text does not fit (53), or it is written.
-- One law of ConvertLaws for each.
use Rattle.std.proofs.Common.{refl}
use Rattle.std.proofs.lemmas.Result.{err_from_is_err_and}
use Rattle.text.specs.Placed.{cleared, refusal}
use Rattle.text.proofs.PlacedLaws.{fits_placed, over_placed}
use Rattle.convert.specs.ConvertAnswer.{code_of, place_of}
use Rattle.convert.specs.declared.ConvertError.TheVariants.{NoRoom}
use Rattle.convert.proofs.ConvertLaws.{new_refused, new_apart, new_accepted}
use Rattle.convert.proofs.convert_new.Goals as goal

pub returns-in_err-table : goal.returns-in_err-table
unfolding cleared refusal
returns-in_err-table c =
    let p = err_from_is_err_and c.from_residual.result c.from_residual.ensures.1 in
    new_refused _ _ _ _ c.in_err-table.ensures.verdict (rw (p.1, p.2) refl)

pub returns-in-Some : goal.returns-in-Some
unfolding cleared refusal
returns-in-Some c = new_apart _ _ _ c.in_ok-table.ensures.verdict (rw c.in_ok-table.ensures.same at c.in-Some.ensures) refl

pub returns-in_err-write_words-in-None : goal.returns-in_err-write_words-in-None
returns-in_err-write_words-in-None c =
    let same = c.in_ok-table.ensures.same in
    let p = err_from_is_err_and c.from_residual-in_err-write_words-in-None.result c.from_residual-in_err-write_words-in-None.ensures.1 in
    let over = rw same at c.in_err-write_words-in-None.ensures.value in
    new_accepted _ _ c.in_ok-table.ensures.verdict (rw same at c.in-None.ensures) (rw (p.1, p.2) (over_placed code_of place_of _ _ _ NoRoom over refl c.write_words.auto.text))

pub returns-in_ok-write_words-in-None : goal.returns-in_ok-write_words-in-None
returns-in_ok-write_words-in-None c =
    let same = c.in_ok-table.ensures.same in
    let wrote = rw same at c.in_ok-write_words-in-None.ensures in
    new_accepted _ _ c.in_ok-table.ensures.verdict (rw same at c.in-None.ensures) (fits_placed code_of place_of _ _ _ 53 wrote.value wrote.text_after)
