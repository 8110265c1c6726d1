use Rattle.std.proofs.Common.{◌∙◌, refl, arith, rules}
use Rattle.std.proofs.lemmas.Iterator.{YieldsList-from_range}
use Rattle.std.proofs.lemmas.Iterator.Search.{all_from_yields_List}
use Rattle.table.specs.Table.{table_of}
use Rattle.plain.proofs.CaseLaws.{block_at, block_chosen, all_rows}
use Rattle.plain.proofs.cases.Cases.all.Goals as goal

pub returns : goal.returns
returns g c p h =
    all_from_yields_List (λ row. p (block_at (table_of c.args.self.table.words.now) row)) _ _ _ c.all.ensures.ran
    (YieldsList-from_range c.args.self.first _ c.args.self.number refl (omega arith)) (λ x b q k. search (h, block_chosen, rules))
    ∙ all_rows _ p c.args.self.first c.args.self.number c.args.self.there
