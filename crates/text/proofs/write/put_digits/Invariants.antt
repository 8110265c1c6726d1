-- `text::write::put_digits` meets its contract. The invariant: the number's digits are those of the rest, then those written, and there are places for all.
-- DecimalLaws has one digit more.
use Rattle.std.proofs.Common.{◌≡◌, ◌++◌, ◌+◌, ◌<◌, ◌≤◌, length, drop}
use Rattle.text.specs.Decimal.{decimal}
use Rattle.text.proofs.write.put_digits.Given as goal

abbrev pub invariant-loop-rest : goal.invariant-loop-rest
invariant-loop-rest l =
    (decimal l.n ≡ decimal l.rest ++ drop (l.first + 1) l.digits) × (length (decimal l.rest) ≤ l.first + 1) × (l.first < length l.digits) × (length l.digits ≡ 10)

abbrev pub decreases-loop-rest : goal.decreases-loop-rest
decreases-loop-rest l = l.rest
