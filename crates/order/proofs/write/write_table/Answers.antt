-- `write_table` writes `renumbered`: the copy with the new entry, block rows and case rows is that table (`table_renumbered`).
-- Both slices end within the words (`sizes`), whose number no write changes.
use Rattle.std.proofs.Common.{◌-◌, set, arith, length-set}
use borrow.Rule.Slice.PartMut.{same_len_mid}
use Rattle.order.proofs.WriteLaws.{sizes, table_renumbered}
use Rattle.order.proofs.write.write_table.Goals as goal

pub slice_bounds-write_blocks-end : goal.slice_bounds-write_blocks-end
slice_bounds-write_blocks-end c =
    let s = sizes c.args.table.promise in
    omega (arith, s, c.instructions_begin-instructions.ensures.0, c.copy_words.auto.new_words, length-set c.copy_words.new.new_words 0 c.number_in.result)

pub slice_bounds-rename_cases-end : goal.slice_bounds-rename_cases-end
slice_bounds-rename_cases-end c =
    let s = sizes c.args.table.promise in
    let entered = set c.copy_words.new.new_words 0 c.number_in.result in
    let long = same_len_mid 6 (c.instructions_begin-instructions.result - 6) entered c.write_blocks.new.new_rows c.write_blocks.auto.new_rows in
    omega (arith, s, c.places_begin-places.ensures.0, long, c.copy_words.auto.new_words, length-set c.copy_words.new.new_words 0 c.number_in.result)

pub returns : goal.returns
returns c =
    table_renumbered c.args.table.promise c.requires.numbering c.copy_words.ensures c.entry.ensures c.number_in.ensures
    c.instructions_begin-instructions.ensures.0 c.cases_begin-cases.ensures.0 c.places_begin-places.ensures.0 c.write_blocks.ensures c.rename_cases.ensures
