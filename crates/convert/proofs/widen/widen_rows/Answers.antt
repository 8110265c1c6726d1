use Rattle.std.proofs.Common.{sym, ◌∙◌, ap, ◌≡◌, ℕ, ◌+◌, ◌-◌, ◌/◌, ◌<◌, List, [], ◌∷◌, ◌++◌, append-nil, append_assoc}
use Rattle.std.proofs.Common.{length, take, set, get_or, arith, length-set, add-one}
use native.Mathlib.Nat.{div-eq_of_lt}
use lib.Seq.{take_all, take-suc-set}
use borrow.Rule.Slice.PartMut.{mid_of, put_mid, same_len_mid}
use Rattle.std.proofs.lemmas.Slice.{take-put_mid}
use Rattle.text.proofs.WriteLaws.{rows_counted}
use Rattle.convert.proofs.WidenLaws.{doubled_more, doubled_end_of_rows}
use Rattle.convert.proofs.widen.widen_rows.Invariants.{Run}
use Rattle.convert.proofs.widen.widen_rows.Goals as goal

-- one row more
run_more : {rows wide rest copied : List ℕ} {width at : ℕ} (k : ℕ) (row rest' : List ℕ) → 0 < width → Run rows width wide at rest → rest ≡ row ++ rest' → length row ≡ width
    → length copied ≡ length (mid_of at k wide) → copied ≡ row
    → Run rows width (set (put_mid at k wide copied) (at + width) (get_or row (width - 1) 0)) (at + width + 1) rest'
run_more {wide = wide} {width = width} {at = at} k row rest' some I parts long len copy =
    let room = rw (parts, rows_counted width width row rest' some long) at I.room in
    let same = same_len_mid at k wide row (rw copy at len) in
    let last = get_or row (width - 1) 0 in
    let behind : take (at + width + 1) (set (put_mid at k wide row) (at + width) last) ≡ take at wide ++ (row ++ (last ∷ [])) =
    rw (add-one (at + width)) (take-suc-set (put_mid at k wide row) (at + width) last (omega (arith, same, room))
    ∙ (ap (λ (words : List ℕ). words ++ (last ∷ [])) (take-put_mid at k wide row (at + width) (omega (arith, long)) (omega (arith, room))) ∙ append_assoc (take at wide) row (last ∷ []))) in
    rw copy (record {
      room = omega (arith, room, same, length-set (put_mid at k wide row) (at + width) last);
      split = rw behind (doubled_more width row rest' (take at wide) _ some long (rw parts at I.split));
    })

pub loop-row-preserved : goal.loop-row-preserved
loop-row-preserved c =
    let size = c.loop-row.invariant.0 in
    let step = c.in-Some.ensures.steps in
    let copied = c.copy_from_slice.ensures in
    (step.0 ∙ size, run_more _ _ _ c.requires.some_words c.loop-row.invariant.1 step.1.0 (step.1.1 ∙ size) copied.len copied.after)

pub returns : goal.returns
returns c =
    let I = c.loop-row.invariant.1 in
    let few = rw c.loop-row.invariant.0 at c.in-None.ensures.steps.1.0 in
    let none : length _ / c.args.width ≡ 0 = div-eq_of_lt few in
    sym (take_all c.loop-row.at _ (omega (arith, rw none at I.room))) ∙ (sym (append-nil _) ∙ rw (doubled_end_of_rows _ _ few) at I.split)
