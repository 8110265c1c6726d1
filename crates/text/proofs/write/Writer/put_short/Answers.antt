-- `put_short` writes `decimal`, digit by digit: a number below 10, 100, .. 100,000 has one, two, .. five (DecimalLaws).
use Rattle.std.proofs.Common.{refl}
use Rattle.text.specs.Writer.{written}
use Rattle.text.proofs.DecimalLaws.{decimal_small, decimal_two, decimal_three, decimal_four, decimal_five}
use Rattle.text.proofs.write.Writer.put_short.Goals as goal

pub returns-then-n-lt10-clause-put : goal.returns-then-n-lt10-clause-put
unfolding written
returns-then-n-lt10-clause-put c = rw (c.put.ensures.put, decimal_small c.args.n c.if-n-lt10.true) refl

pub returns-then-n-lt100-clause-put : goal.returns-then-n-lt100-clause-put
unfolding written
returns-then-n-lt100-clause-put c = rw (c.put-then-n-lt100-2.ensures.put, c.put-then-n-lt100.ensures.put, decimal_two c.args.n c.if-n-lt10.false c.if-n-lt100.true) refl

pub returns-then-n-lt1000-clause-put : goal.returns-then-n-lt1000-clause-put
unfolding written
returns-then-n-lt1000-clause-put c =
    rw (c.put-then-n-lt1000-3.ensures.put, c.put-then-n-lt1000-2.ensures.put, c.put-then-n-lt1000.ensures.put, decimal_three c.args.n c.if-n-lt100.false c.if-n-lt1000.true) refl

pub returns-then-n-lt10000-clause-put : goal.returns-then-n-lt10000-clause-put
unfolding written
returns-then-n-lt10000-clause-put c =
    rw (
      c.put-then-n-lt10000-4.ensures.put,
      c.put-then-n-lt10000-3.ensures.put,
      c.put-then-n-lt10000-2.ensures.put,
      c.put-then-n-lt10000.ensures.put,
      decimal_four c.args.n c.if-n-lt1000.false c.if-n-lt10000.true,
    )
    refl

pub returns-else-n-lt10000-clause-put : goal.returns-else-n-lt10000-clause-put
unfolding written
returns-else-n-lt10000-clause-put c =
    rw (
      c.put-else-n-lt10000-5.ensures.put,
      c.put-else-n-lt10000-4.ensures.put,
      c.put-else-n-lt10000-3.ensures.put,
      c.put-else-n-lt10000-2.ensures.put,
      c.put-else-n-lt10000.ensures.put,
      decimal_five c.args.n c.if-n-lt10000.false c.requires.short,
    )
    refl
