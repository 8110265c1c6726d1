use Rattle.std.proofs.Common.{◌∙◌, refl, arith, rules}
use Rattle.std.proofs.lemmas.Iterator.{YieldsList-from_range}
use Rattle.std.proofs.lemmas.Iterator.Search.{all_from_yields_List}
use Rattle.plain.proofs.EveryLaws.{asked, every_block}
use Rattle.plain.proofs.asked.every_block.Goals as goal

pub returns : goal.returns
returns g c p h =
    all_from_yields_List (asked c.args.table.words.now p) _ _ _ c.all.ensures.ran (YieldsList-from_range 0 _ c.block_count.result refl (omega arith)) (λ x b q k. search (h, rules))
    ∙ every_block c.args.table.words.now p c.block_count.ensures
