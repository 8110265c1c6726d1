-- `first_apart` gives `spans_verdict`: the place among the blocks, if there is one (`spans_blocks`), else what the instructions give (`spans_instructions`).
-- `agree_between` says that each slice has the rows that the definition reads in the words.
use Rattle.std.proofs.Common.{◌∙◌, arith}
use Rattle.table.specs.Words.{instruction_count}
use Rattle.convert.proofs.SpanLaws.{agree_between, spans_blocks, spans_instructions}
use Rattle.convert.proofs.TextLaws.{sized_within}
use Rattle.convert.proofs.spans.first_apart.Goals as goal

pub returns-in-Some : goal.returns-in-Some
returns-in-Some c =
    let within = sized_within _ c.args.table.promise.sized in
    let begin = c.instructions_begin-instructions.ensures.0 in
    spans_blocks _ _ (c.in-Some.ensures ∙ agree_between 11 _ 6 _ _ (omega arith) (omega (arith, begin, within)) (omega (arith, begin, within)))

pub returns : goal.returns
returns c =
    let within = sized_within _ c.args.table.promise.sized in
    let begin = c.instructions_begin-instructions.ensures.0 in
    let end = c.cases_begin-cases.ensures.0 in
    spans_instructions _ _ (c.in_default.ensures ∙ agree_between 11 _ 6 _ _ (omega arith) (omega (arith, begin, within)) (omega (arith, begin, within)))
    (rw begin at (c.apart_in-2.ensures ∙ agree_between 7 (instruction_count c.args.table.words.now) _ _ _ (omega arith) (omega (arith, begin, end, within)) (omega (arith, end, within))))
