-- `differ` answers `different` of the cases' blocks: std's law of `all` over a range asks of each row that no later case has its block (`block_chosen`),
-- and `differ_rows` says that this is the definition.
use Rattle.std.proofs.Common.{◌∙◌, ◌+◌, ◌-◌, refl, arith, rules, not}
use Rattle.std.proofs.lemmas.Iterator.{YieldsList-from_range}
use Rattle.std.proofs.lemmas.Iterator.Search.{all_from_yields_List}
use Rattle.table.specs.Table.{table_of}
use Rattle.definition.specs.BlockRun.{case_list}
use Rattle.definition.specs.Completion.{contains}
use Rattle.definition.specs.Plain.{blocks_of}
use Rattle.plain.proofs.CaseLaws.{block_at, block_chosen, differ_rows}
use Rattle.plain.proofs.cases.Cases.differ.Goals as goal

pub returns : goal.returns
returns c =
    let ws = c.args.self.table.words.now in
    let end = c.args.self.first + c.args.self.number in
    all_from_yields_List (λ row. not (contains (blocks_of (case_list (table_of ws) (row + 1) (end - (row + 1)))) (block_at (table_of ws) row))) _ _ _ c.all.ensures.ran
    (YieldsList-from_range c.args.self.first _ c.args.self.number refl (omega arith)) (λ x b q k. search (block_chosen, rules))
    ∙ differ_rows _ end c.args.self.first c.args.self.number refl c.args.self.there
