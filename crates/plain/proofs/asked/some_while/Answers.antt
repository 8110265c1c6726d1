use Rattle.std.proofs.Common.{ℕ, ◌∙◌, refl, arith, rules}
use Rattle.std.proofs.lemmas.Iterator.{YieldsList-from_range}
use Rattle.std.proofs.lemmas.Iterator.Search.{any_from_yields_List}
use Rattle.table.specs.Table.{Terminal}
use Rattle.definition.specs.PlainTest.{shape_of, is_while}
use Rattle.plain.proofs.EveryLaws.{asked, some_block}
use Rattle.plain.proofs.asked.some_while.Goals as goal

pub returns : goal.returns
returns c =
    let test = λ (_ : ℕ) (m : Terminal). is_while c.args.test c.args.body c.args.fallthrough (shape_of m) in
    any_from_yields_List (asked c.args.table.words.now test) _ _ _ c.any.ensures.ran (YieldsList-from_range 0 _ c.block_count.result refl (omega arith)) (λ x b q k. search rules)
    ∙ some_block c.args.table.words.now test c.block_count.ensures
