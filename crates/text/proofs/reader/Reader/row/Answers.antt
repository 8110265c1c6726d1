-- `row` reads `width` numbers. The stop of a number is the row's; a number that was read and stored is one more (`row_open`, `holds_put`); after the last
-- the form goes on behind the row (`row_done`).
use Rattle.std.proofs.Common.{refl, sym, ap, ◌∙◌, arith, [], ◌∷◌, ◌++◌, ℕ, ◌+◌}
use Rattle.std.proofs.lemmas.Result.{err_from_is_err_and}
use mathlib.Core.List.{append-nil, append_assoc}
use native.Mathlib.Nat.{sub-zero}
use lib.ListN.{length-append, length-set}
use Rattle.text.proofs.LentLaws.{holds_put}
use Rattle.text.proofs.PartLaws.{row_open, row_done}
use Rattle.text.proofs.reader.Reader.row.Goals as goal

pub loop-i-init : goal.loop-i-init
loop-i-init c = record { file = refl; lent = refl; long = refl; within = c.args.self.now.within; few = c.args.self.now.few; numbers = []; many = refl; here = λ root before next h. rw (append-nil before, sub-zero c.args.width) h }

pub returns-in_err-number-clause-read : goal.returns-in_err-number-clause-read
returns-in_err-number-clause-read c =
    let p = err_from_is_err_and c.from_residual.result c.from_residual.ensures.1 in
    let I = c.loop-i.invariant in
    rw (p.1, p.2) (λ root before next h. c.in_err-number.ensures root _ _ (rw (row_open _ _ _ next c.loop-i-test.true) at (I.here root before next h).reached))

pub loop-i-preserved : goal.loop-i-preserved
loop-i-preserved c =
    let I = c.loop-i.invariant in
    let N = c.in_ok-number.ensures in
    let n = c.in_ok-number.number.value in
    record {
      file = I.file;
      lent = I.lent;
      long = rw c.put.ensures (length-set _ _ _) ∙ I.long;
      within = N.within;
      few = omega (arith, I.few, N.long);
      numbers = I.numbers ++ (n ∷ []);
      many = length-append I.numbers (n ∷ []) ∙ ap (λ (k : ℕ). k + 1) I.many;
      here = λ root before next h.
          let a = I.here root before next h in
          rw (sym (append_assoc before I.numbers (n ∷ []))) (record {
            reached = N.reached root _ _ (rw (row_open _ _ _ next c.loop-i-test.true) at a.reached);
            holds = rw c.put.ensures (holds_put _ _ _ _ a.holds);
          });
    }

pub returns-clause-read : goal.returns-clause-read
returns-clause-read c =
    let I = c.loop-i.invariant in
    record {
      reached = λ root before next h.
          let a = I.here root before next h in
          record {
            numbers = I.numbers;
            long = omega (arith, I.many, c.loop-i-test.false, c.loop-i.auto.i-end);
            at = rw I.file (record { reached = rw (row_done _ c.loop-i.i _ next c.loop-i-test.false) at a.reached; holds = a.holds });
          };
    }
