use Rattle.std.proofs.Common.{rules}
use Rattle.std.proofs.lemmas.Iterator.{first_from_Range}
use borrow.Author.Tests.{tests}
use Rattle.tree_run.proofs.FileLaws.{Opens, Other, looked}
use Rattle.tree_run.proofs.file.answers_at.Goals as goal

pub returns : goal.returns
returns c =
    rw c.unwrap_or.ensures
    (looked _ _ (first_from_Range _ _ _ _ (Opens c.args.file.now) (Other c.args.file.now) c.find.ensures.ran (λ x q k. search (rules, tests)) (λ x q k. search (rules, tests))))
