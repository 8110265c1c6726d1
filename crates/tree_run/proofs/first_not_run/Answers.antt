use Rattle.std.proofs.Common.{rules}
use Rattle.std.proofs.lemmas.Iterator.{first_from_Range}
use Rattle.tree_run.proofs.SeekLaws.{Runs, Stops, sought}
use Rattle.tree_run.proofs.first_not_run.Goals as goal

pub returns : goal.returns
returns c =
    sought _ _ _ (first_from_Range _ _ _ _ (Stops c.args.tree.now) (Runs c.args.tree.now) c.find.ensures.ran (λ x q k. search rules) (λ x q k. search rules))
