-- `write_size` writes `size_text`, and 81 bytes are enough, since each of the five numbers has 32 bits (`size_written`).
-- WriterLaws says what `finish` answers and which bytes it leaves (`told_answer`, `told_bytes`).
use Rattle.std.proofs.Common.{rules, ◌≡◌, ◌∙◌}
use Rattle.text.proofs.WriterLaws.{written_append, same_reference, told_answer, told_bytes}
use Rattle.preview.specs.Prints.{size_text}
use Rattle.preview.proofs.SizeLaws.{size_written}
use Rattle.preview.proofs.file.write_size.Goals as goal

pub returns : goal.returns
unfolding size_text
returns c =
    let f = c.ranges in
    let a = c.args in
    let wrote = rw (c.bytes.ensures, c.new-writer.ensures, ← written_append) at c.line.ensures in
    let left : _ ≡ c.finish.new.self.0 = search (rules, same_reference _ _ wrote) in
    size_written (record { code = a.code; at = a.at; rows = a.rows; visits = a.visits; lines = a.lines })
    (f.code.fits, f.at.fits, f.rows.fits, f.visits.fits, f.lines.fits)
    (told_answer _ _ _ _ wrote c.finish.ensures) (left ∙ told_bytes _ _ _ _ wrote c.finish.ensures)
