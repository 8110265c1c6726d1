-- `order_table` writes the text of the rearranged table, and 180,368 bytes are enough for it, since its words are few and each has 32 bits (`table_printed`).
-- WriterLaws says what `finish` answers and which bytes it leaves (`told_answer`, `told_bytes`).
use Rattle.std.proofs.Common.{rules, arith, ◌≡◌, ◌≤◌, ◌∙◌, length}
use lib.ListN.{length-take}
use Rattle.text.proofs.WriteLaws.{Narrow}
use Rattle.text.proofs.WriterLaws.{same_reference, told_answer, told_bytes}
use Rattle.order.proofs.OrderedLaws.{rearranged_sized, table_printed}
use Rattle.order.proofs.file.order_table.Goals as goal

pub returns : goal.returns
returns c =
    let after = c.rearrange_checked.ensures.new_words_after in
    let narrow : Narrow c.rearrange_checked.new.new_words = λ i. search rules in
    let few : length c.rearrange_checked.new.new_words ≤ 16384 = omega (arith, c.rearrange_checked.auto.new_words, length-take (length c.args.table.words.now) c.zeros-words.result, c.requires) in
    let wrote = rw c.new-writer.ensures at c.write_tables.ensures in
    let left : _ ≡ c.finish.new.self.0 = search (rules, same_reference _ _ wrote) in
    rw (← after)
    (table_printed _ (rearranged_sized after c.args.table.promise) few narrow (told_answer _ _ _ _ wrote c.finish.ensures) (left ∙ told_bytes _ _ _ _ wrote c.finish.ensures))
