-- The value of the instructions is made in the definition's three steps (`extract_many`): the rows of all but the last, the value of the last, and the sequence
-- over both. `met_wrap` puts the contracts of the three together.
use Rattle.values.proofs.MetLaws.{met_wrap}
use Rattle.values.proofs.ExtractLaws.{extract_many}
use Rattle.definition.specs.Result.{◌>>=◌}
use native.Mathlib.Omega.{arith}
use Rattle.values.proofs.extract.extract_value_block_result.Goals as goal

pub returns : goal.returns
unfolding ◌>>=◌
returns c =
    let value = c.final_value-value.ensures in
    let w = c.wrap_with_sequence.ensures in
    rw (extract_many c.args.table.words.now c.args.block c.args.first c.args.more c.args.tally.visits)
    (met_wrap c.args.first c.args.more c.put_instructions-rows.ensures value w
    (omega (arith, value.numbers, w.visits, w.most, c.put_instructions-rows.ensures.more, c.requires.more_bound, c.args.table.promise.sized.limited.instructions)))
