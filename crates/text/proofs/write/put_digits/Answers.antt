-- `put_digits` puts `decimal`: a step puts one digit before those that are there (`digit_written`), and the last one makes them the whole number
-- (`digits_written`). Ten bytes are enough, since the number has 32 bits (`decimal_ten`).
use Rattle.std.proofs.Common.{◌≡◌, ◌+◌, ◌-◌, ◌/◌, ◌%◌, ◌≤◌, length, sym, ◌∙◌, arith}
use lib.ListN.{length-set, drop_of_length-le}
use Rattle.text.specs.Decimal.{decimal}
use mathlib.Core.List.{append-nil}
use Rattle.text.proofs.DecimalLaws.{decimal_ten, decimal_some, decimal_longer, digit_written, digits_written}
use Rattle.text.proofs.write.put_digits.Goals as goal

pub loop-rest-init : goal.loop-rest-init
loop-rest-init c =
    let full : length c.args.digits.now ≤ 10 = omega (arith, c.told-digits) in (
      rw (drop_of_length-le c.args.digits.now full) (sym (append-nil (decimal c.args.n))),
      decimal_ten c.args.n c.ranges.n.fits,
      omega (arith, c.told-digits),
      c.told-digits,
    )

pub overflow_sub-first : goal.overflow_sub-first
overflow_sub-first c =
    let (_, few, _, _) = c.loop-rest.invariant in
    omega (arith, few, decimal_longer c.loop-rest.rest c.loop-rest-test.true, decimal_some (c.loop-rest.rest / 10))

pub loop-rest-preserved : goal.loop-rest-preserved
loop-rest-preserved c =
    let l = c.loop-rest in
    let (e, few, under, long) = l.invariant in
    let longer = decimal_longer l.rest c.loop-rest-test.true in
    let kept = length-set l.digits l.first (48 + l.rest % 10) in
    let back : l.first - 1 + 1 ≡ l.first = omega (arith, few, longer, decimal_some (l.rest / 10)) in
    rw back (digit_written c.args.n l.rest l.digits l.first under e c.loop-rest-test.true, omega (arith, few, longer), omega (arith, kept, under), kept ∙ long)

pub returns-clause-digits : goal.returns-clause-digits
returns-clause-digits c =
    let l = c.loop-rest in
    let (e, _, under, _) = l.invariant in
    digits_written c.args.n l.rest l.digits l.first under e c.loop-rest-test.false
