-- `next_begin` gives where the parts begin of the row that is next. Where those of the first sort are missing, its parts are (`first_missing`); else those of
-- the second sort are sought from there on (`then_the_rest`), which is no later than the row (`found_near`).
use Rattle.std.proofs.Common.{[], ◌∙◌}
use Rattle.tree_grammar.specs.Needs.{many}
use Rattle.tree_check.specs.Takes.{sort_of}
use Rattle.tree_check.proofs.PartLaws.{same_needs, first_missing, then_the_rest, found_near}
use Rattle.tree_check.proofs.words.Rows.next_begin.Goals as goal

pub returns-in_err-at : goal.returns-in_err-at
returns-in_err-at c =
    let t = c.row_takes-takes.result in
    let are = c.row_takes-takes.ensures ∙ same_needs c.word-op.ensures c.word-a.ensures c.word-b.ensures c.word-c.ensures in
    c.from_residual.ensures ∙ first_missing _ _ _ t.count (sort_of t.first) (many t.more (sort_of t.then) []) are c.in_err-at.ensures

pub parts_begin-requires-2 : goal.parts_begin-requires-2
parts_begin-requires-2 c = found_near _ _ c.args.self.ready _ c.in_ok-at.ensures

pub returns : goal.returns
returns c =
    let t = c.row_takes-takes.result in
    let are = c.row_takes-takes.ensures ∙ same_needs c.word-op.ensures c.word-a.ensures c.word-b.ensures c.word-c.ensures in
    then_the_rest _ _ _ t.count (sort_of t.first) (many t.more (sort_of t.then) []) are c.in_ok-at.ensures c.parts_begin-2.ensures
