-- `convert::widen::widen` meets its contract: head, blocks, instructions and the rest are put one behind the other. WidenLaws says that each part is within the old
-- words, and that the four together are the widened words.
use Rattle.std.proofs.Common.{arith, ◌+◌, ◌*◌, ◌∙◌, get_or}
use Rattle.convert.proofs.WidenLaws.{old_within, doubled_between, widened_put, rest_whole}
use Rattle.convert.proofs.widen.widen.Goals as goal

pub returns-clause-wide_after : goal.returns-clause-wide_after
returns-clause-wide_after c =
    let old = c.args.old.now in
    let within = old_within old c.requires.shaped in
    let first = 6 + get_or old 1 0 * 10 in
    let cases = first + get_or old 2 0 * 6 in
    let blocks = doubled_between 10 (get_or old 1 0) 6 first old (omega arith) (omega arith) (omega (arith, within)) in
    let instructions = doubled_between 6 (get_or old 2 0) first cases old (omega arith) (omega arith) (omega (arith, within)) in
    widened_put old c.requires.shaped _ _ _ _ _ _ _ _ c.copy_from_slice.ensures.after (c.widen_rows.ensures ∙ blocks)
    (c.widen_rows-2.ensures ∙ instructions) (c.copy_from_slice-2.ensures.after ∙ rest_whole old cases)
