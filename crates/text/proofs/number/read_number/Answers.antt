-- `read_number` gives a number and the byte after its end, or the byte that no good file could have there: each return is a law of StepLaws, for a byte or for
-- the file's end. NumberLaws says which bytes `digit_of` and `extended_by` take; a digit more keeps the invariant (`digit_taken`).
use Rattle.std.proofs.Common.{◌≡◌, length, slice_index, Some, None, sym, ◌∙◌, arith}
use Rattle.std.proofs.lemmas.Result.{err_from_is_err_and}
use Rattle.text.specs.Steps.{digit_of, extended_by}
use Rattle.text.proofs.StepLaws.{first_taken, first_other, first_missing, digit_taken, end_taken, digit_other, digit_missing}
use Rattle.text.proofs.NumberLaws.{digit_some, digit_none, extended_some, extended_none}
use Rattle.text.proofs.number.read_number.Goals as goal

pub returns-then-start-file : goal.returns-then-start-file
returns-then-start-file c root words next h = first_missing _ _ words _ next h c.if-start-file.true

pub returns-in_err-value : goal.returns-in_err-value
returns-in_err-value c =
    let p = err_from_is_err_and c.from_residual.result c.from_residual.ensures.1 in
    let none : digit_of (slice_index c.args.file.now c.args.start) ≡ None = grind arith in
    let place : p.0 ≡ c.args.start = grind arith in
    rw (p.1, place) (λ root words next h. first_other _ _ words _ next h (omega arith) (digit_none _ none))

pub loop-at-init : goal.loop-at-init
loop-at-init c =
    let some : digit_of (slice_index c.args.file.now c.args.start) ≡ Some c.in_ok-value.value = grind arith in
    let digit = digit_some _ some in
    record {
      small = omega (arith, digit.0);
      here = λ root words next h. first_taken _ _ words _ next h c.in_ok-value.value (omega arith) digit.0 digit.1;
    }

pub returns-then-byte-ending_byte : goal.returns-then-byte-ending_byte
returns-then-byte-ending_byte c =
    let I = c.loop-at.invariant in
    record {
      within = omega (arith, c.loop-at-test.true);
      long = omega (arith, c.loop-at.auto.at);
      reached = λ root words next h. end_taken _ _ words _ _ next (I.here root words next h) (omega (arith, c.loop-at-test.true)) (c.if-byte-ending_byte.true ∙ c.ending_byte.ensures);
    }

pub returns-in_err-value-2 : goal.returns-in_err-value-2
returns-in_err-value-2 c =
    let I = c.loop-at.invariant in
    let p = err_from_is_err_and c.from_residual-in_err-value-2.result c.from_residual-in_err-value-2.ensures.1 in
    let none : extended_by c.loop-at.value (slice_index c.args.file.now c.loop-at.at) ≡ None = grind arith in
    let place : p.0 ≡ c.loop-at.at = grind arith in
    rw (p.1, place) (λ root words next h. digit_other _ _ words _ _ next (I.here root words next h) (omega (arith, c.loop-at-test.true))
    (λ e. c.if-byte-ending_byte.false (e ∙ sym c.ending_byte.ensures)) (extended_none _ _ none))

pub loop-at-preserved : goal.loop-at-preserved
loop-at-preserved c =
    let I = c.loop-at.invariant in
    let some : extended_by c.loop-at.value (slice_index c.args.file.now c.loop-at.at) ≡ Some c.in_ok-value-2.value = grind arith in
    let f = extended_some _ _ some in
    record {
      small = omega (arith, f.more, f.fits);
      here = λ root words next h. rw f.more (digit_taken _ _ words _ _ next (I.here root words next h) f.d (omega (arith, c.loop-at-test.true)) f.digit f.shown f.led f.fits);
    }

pub returns : goal.returns
returns c root words next h =
    let end : c.loop-at.at ≡ length c.args.file.now = omega (arith, c.loop-at-test.false, c.loop-at.auto.at-end) in
    rw end at (digit_missing _ _ words _ _ next (c.loop-at.invariant.here root words next h) end)
