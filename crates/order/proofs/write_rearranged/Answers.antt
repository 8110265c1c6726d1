-- `write_rearranged` writes `rearranged` (`is_rearranged`). The list is the walking order, a permutation of the blocks (`order_is`): of such a list EntryLaws
-- has what `new_numbers`, the slice and `write_table` ask.
use Rattle.std.proofs.Common.{sym, ◌∙◌}
use lib.Seq.{length-take-le}
use Rattle.order.proofs.EntryLaws.{own_blocks, few_blocks, few_numbers, order_is, order_permutes, numbering_new, is_rearranged}
use Rattle.order.proofs.write_rearranged.Goals as goal

pub new_numbers-requires-clause-few : goal.new_numbers-requires-clause-few
new_numbers-requires-clause-few c = few_blocks _ _ c.args.table.promise.sized.limited.blocks (order_is _ _ c.args.table.promise c.requires.walked)

pub new_numbers-requires-clause-permutation : goal.new_numbers-requires-clause-permutation
new_numbers-requires-clause-permutation c = own_blocks _ _ (order_is _ _ c.args.table.promise c.requires.walked)

pub slice_bounds-new-end : goal.slice_bounds-new-end
slice_bounds-new-end c = few_numbers _ c.new_numbers.ensures (few_blocks _ _ c.args.table.promise.sized.limited.blocks (order_is _ _ c.args.table.promise c.requires.walked))

pub slice_bounds-write_table-end : goal.slice_bounds-write_table-end
slice_bounds-write_table-end c =
    sym (length-take-le _ _ (few_numbers _ c.new_numbers.ensures (few_blocks _ _ c.args.table.promise.sized.limited.blocks (order_is _ _ c.args.table.promise c.requires.walked))))

pub write_table-requires : goal.write_table-requires
write_table-requires c = record {
  numbering = numbering_new _ _ _ c.args.table.promise (order_permutes _ _ c.args.table.promise c.requires.walked) c.new_numbers.ensures;
  new_words_len = c.requires.new_words_len;
}

pub returns : goal.returns
returns c = c.write_table.ensures ∙ is_rearranged _ _ _ c.args.table.promise c.requires.walked c.new_numbers.ensures
