-- `write_lines` writes `printed_run` of the outcome: a run's line and the rows performed, or a refusal's line alone (`lines_written`, `refused_lines`).
-- That is at most `most_printed` bytes, since each number has 32 bits and at most 65,536 rows are performed (`printed_most`).
use Rattle.std.proofs.Common.{◌≡◌, ◌*◌, ◌≤◌, length, [], ◌∷◌, arith}
use Rattle.std.specs.Prelude.{Ok, Err}
use Rattle.text.specs.File.{Words}
use Rattle.convert.proofs.CutLaws.{rows_taken}
use Rattle.tree_run.specs.Answer.{reason_number, file_code, file_at}
use Rattle.tree_run.specs.Prints.{file_outcome, performed_lines}
use Rattle.tree_run.proofs.PrintLaws.{lines_written, refused_lines, printed_most, no_code}
use Rattle.tree_run.proofs.file.write_lines.Goals as goal

pub returns-in-Ok-clause-wrote : goal.returns-in-Ok-clause-wrote
unfolding performed_lines
returns-in-Ok-clause-wrote c =
    let run = c.in-Ok.run' in
    let bound : run.number ≤ length c.args.performed.now = rw c.in-Ok.is at c.requires.number_in_bounds in
    let one : run.number * 1 ≡ run.number = omega arith in
    let rows = rw one at (rows_taken 1 1 run.number c.args.performed.now (omega arith) (omega arith) (omega (arith, bound))) in
    rw (c.in-Ok.is, lines_written, ← rows, ← c.bytes.ensures, ← c.number.ensures, ← c.line.ensures) c.write_part.ensures

pub returns-in-Ok-clause-most : goal.returns-in-Ok-clause-most
returns-in-Ok-clause-most c =
    let run = c.in-Ok.run' in
    let number : run.number ≤ 65536 = rw c.in-Ok.is at c.requires.number_bound in
    let numbers : Words (0 ∷ 0 ∷ run.number ∷ reason_number run.reason ∷ []) =
    (omega arith, (omega arith, (omega (arith, number), (rw c.number.ensures at c.number.type_inv, tt)))) in
    rw c.in-Ok.is (printed_most (file_outcome (Ok run) c.args.performed.now) numbers (λ i. (c.type_inv.performed i).fits) number)

pub returns-in-Err-clause-wrote : goal.returns-in-Err-clause-wrote
returns-in-Err-clause-wrote c =
    rw (c.in-Err.is, lines_written, refused_lines _ _ _ _ (no_code c.in-Err.error), ← c.bytes.ensures, ← c.code.ensures, ← c.place.ensures) c.line-in-Err.ensures

pub returns-in-Err-clause-most : goal.returns-in-Err-clause-most
returns-in-Err-clause-most c =
    let e = c.in-Err.error in
    let numbers : Words (file_code e ∷ file_at e ∷ 0 ∷ 0 ∷ []) =
    (rw c.code.ensures at c.code.type_inv, (rw c.place.ensures at c.place.type_inv, (omega arith, (omega arith, tt)))) in
    rw c.in-Err.is (printed_most (file_outcome (Err e) c.args.performed.now) numbers (λ i. (c.type_inv.performed i).fits) (omega arith))
