-- `wrap_with_sequence` over at least one instruction puts one SEQ row, and the rows below it stay (`row_kept`). Over none it needs no answer.
use Rattle.values.proofs.MetLaws.{row_kept}
use native.Mathlib.Omega.{arith}
use mathlib.Core.Path.{refl}
use Rattle.values.proofs.extract.wrap_with_sequence.Goals as goal

pub returns : goal.returns
returns c =
    let seq = c.put_row-seq.ensures in
    record {
      same = λ v. rw seq.visits;
      none = λ e. absurd (c.if-count-eq0.false e);
      some = λ _. (refl, seq.rows);
      kept = λ _. row_kept seq;
      visits = seq.visits;
      most = omega (arith, seq.rows);
    }
