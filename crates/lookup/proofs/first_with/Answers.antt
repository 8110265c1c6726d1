-- `first_with` gives the definition's first line with the label. The law of std's `find` over a range says that no line before the answer has it, and `sought`
-- makes the definition's search of that. `read_least`: the lesser of the two counts is the number of lines that may be read.
use Rattle.std.proofs.Common.{rules, ap, ◌∙◌}
use Rattle.std.proofs.lemmas.Iterator.{first_from_Range}
use borrow.Author.Tests.{tests}
use Rattle.lookup.specs.Lookup.{first_with}
use Rattle.lookup.proofs.Searches.{read_least}
use Rattle.lookup.proofs.LoopLaws.{Has, HasNot, sought}
use Rattle.lookup.proofs.first_with.Goals as goal

pub returns : goal.returns
returns c =
    let index = c.args.index.now in
    let label = c.args.label in
    sought index label _ _ (first_from_Range _ _ _ _ (Has index label) (HasNot index label) c.find.ensures.ran (λ x q k. search (rules, tests)) (λ x q k. search (rules, tests)))
    ∙ ap (first_with index label 0) (c.min-count.ensures ∙ read_least _ _)
