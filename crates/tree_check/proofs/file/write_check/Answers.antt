use Rattle.std.proofs.Common.{rules, ◌≡◌, ◌∙◌}
use Rattle.text.proofs.WriterLaws.{written_append, same_reference, told_answer, told_bytes}
use Rattle.tree_check.specs.Prints.{printed_check}
use Rattle.tree_check.proofs.FileLaws.{check_written}
use Rattle.tree_check.proofs.file.write_check.Goals as goal

pub returns : goal.returns
unfolding printed_check
returns c =
    let wrote = rw (c.bytes.ensures, c.new-writer.ensures, ← written_append) at c.line.ensures in
    let left : _ ≡ c.finish.new.self.0 = search (rules, same_reference _ _ wrote) in
    check_written c.args.code c.args.at c.ranges.code.fits c.ranges.at.fits (told_answer _ _ _ _ wrote c.finish.ensures) (left ∙ told_bytes _ _ _ _ wrote c.finish.ensures)
