-- `run_file` prints `run_text` of the file (`run_printed`); WriterLaws says what `finish` answers and which bytes it leaves.
-- A run tells at most as many rows as the buffer has words (`number_within`), as `write_lines` asks.
use Rattle.std.proofs.Common.{rules, ◌≡◌, sym, ◌∙◌, arith}
use Rattle.text.proofs.WriterLaws.{same_reference, told_answer, told_bytes}
use Rattle.tree_run.proofs.PrintLaws.{number_within, run_printed}
use Rattle.tree_run.proofs.file.run_file.Goals as goal

pub write_lines-requires-clause-number_in_bounds : goal.write_lines-requires-clause-number_in_bounds
write_lines-requires-clause-number_in_bounds c = number_within _ _ c.run_bytes-ran.result c.run_bytes-ran.new.performed c.run_bytes-ran.ensures

pub write_lines-requires-clause-number_bound : goal.write_lines-requires-clause-number_bound
write_lines-requires-clause-number_bound c =
    omega (arith, number_within _ _ c.run_bytes-ran.result c.run_bytes-ran.new.performed c.run_bytes-ran.ensures, c.run_bytes-ran.auto.performed, c.zeros-performed.ensures)

pub returns : goal.returns
returns c =
    let w = c.write_lines.ensures in
    let wrote = rw c.new-writer.ensures at w.wrote in
    let left : _ ≡ c.finish.new.self.0 = search (rules, same_reference _ _ wrote) in
    let answer = told_answer _ _ _ _ wrote c.finish.ensures in
    let printed = run_printed _ (sym c.zeros-performed.ensures) c.run_bytes-ran.ensures w.most answer (left ∙ told_bytes _ _ _ _ wrote c.finish.ensures) in
    record { out_after = printed.0; value = printed.1 }
