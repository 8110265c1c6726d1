-- `write` gives `WrittenText` of the result's text: what `write_result` wrote is what `finish` closes (`same_reference`). WriterLaws has the answer and
-- the bytes, and `written_fits` says how many bytes are enough.
use Rattle.std.proofs.Common.{rules, ◌≡◌, ◌∙◌, arith}
use Rattle.text.proofs.WriteLaws.{Narrow, written_fits}
use Rattle.text.proofs.WriterLaws.{same_reference, told_answer, told_bytes}
use Rattle.text.proofs.write.write.Goals as goal

pub returns : goal.returns
returns c =
    let n = c.args.numbers in
    let wrote = rw c.new-writer.ensures at c.write_result.ensures in
    let told = told_answer _ _ _ _ wrote c.finish.ensures in
    let narrow : Narrow c.args.tree.now = λ i. omega (arith, c.type_inv.tree i) in
    let fits = written_fits _ n.code n.at n.rows n.visits c.args.tree.now (search rules, (search rules, (search rules, (search rules, tt)))) narrow in
    let left : _ ≡ c.finish.new.self.0 = search (rules, same_reference _ _ wrote) in
    record { answer = told; bytes = left ∙ told_bytes _ _ _ _ wrote c.finish.ensures; enough = λ p. told ∙ fits p }
