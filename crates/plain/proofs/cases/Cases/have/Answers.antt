use Rattle.std.proofs.Common.{◌∙◌, refl, arith, rules, nat_eq}
use Rattle.std.proofs.lemmas.Iterator.{YieldsList-from_range}
use Rattle.std.proofs.lemmas.Iterator.Search.{any_from_yields_List}
use Rattle.table.specs.Table.{table_of}
use Rattle.plain.proofs.CaseLaws.{block_at, block_chosen, some_row}
use Rattle.plain.proofs.cases.Cases.have.Goals as goal

pub returns : goal.returns
returns c =
    any_from_yields_List (λ row. nat_eq (block_at (table_of c.args.self.table.words.now) row) c.args.block) _ _ _ c.any.ensures.ran
    (YieldsList-from_range c.args.self.first _ c.args.self.number refl (omega arith)) (λ x b q k. search (block_chosen, rules))
    ∙ some_row _ c.args.block c.args.self.first c.args.self.number c.args.self.there
