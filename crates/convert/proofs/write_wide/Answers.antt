-- `write_wide` gives `of_wide`. The check accepts (`wide_accepted`), and the text does not fit (53) or is written; or the check refuses (`wide_refused`).
-- The refusal's place is told in the old form; `wide_bound` has the two bounds that `in_old_form` asks for.
use Rattle.std.proofs.Common.{refl}
use Rattle.std.proofs.lemmas.Result.{err_from_is_err_and}
use Rattle.text.specs.Placed.{cleared, refusal}
use Rattle.text.proofs.PlacedLaws.{fits_placed, over_placed}
use Rattle.convert.specs.ConvertAnswer.{code_of, place_of}
use Rattle.convert.specs.declared.ConvertError.TheVariants.{NoRoom}
use Rattle.convert.proofs.ConvertLaws.{wide_bound, wide_accepted, wide_refused}
use Rattle.convert.proofs.write_wide.Goals as goal

pub returns-in_err-write_words-in-Ok : goal.returns-in_err-write_words-in-Ok
returns-in_err-write_words-in-Ok c =
    let p = err_from_is_err_and c.from_residual.result c.from_residual.ensures.1 in
    let over = rw c.in-Ok.ensures.same at c.in_err-write_words-in-Ok.ensures.value in
    wide_accepted _ _ c.in-Ok.ensures.verdict (rw (p.1, p.2) (over_placed code_of place_of _ _ _ NoRoom over refl c.write_words.auto.text))

pub returns-in_ok-write_words-in-Ok : goal.returns-in_ok-write_words-in-Ok
returns-in_ok-write_words-in-Ok c =
    let wrote = rw c.in-Ok.ensures.same at c.in_ok-write_words-in-Ok.ensures in
    wide_accepted _ _ c.in-Ok.ensures.verdict (fits_placed code_of place_of _ _ _ 53 wrote.value wrote.text_after)

pub in_old_form-requires : goal.in_old_form-requires
in_old_form-requires c =
    let bound = wide_bound _ c.requires.shaped c.requires.wide_len_bound in
    record { in_bounds = bound.0; wide_bound = bound.1 }

pub returns-in-Err : goal.returns-in-Err
unfolding cleared refusal
returns-in-Err c = wide_refused _ _ _ _ c.in-Err.ensures.verdict (rw (c.in_old_form.ensures.code, c.in_old_form.ensures.place) refl)
