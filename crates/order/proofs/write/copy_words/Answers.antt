-- A word more: the words up to it and itself (`take-suc-set`, `take-suc`).
use Rattle.std.proofs.Common.{List, ℕ, ◌≡◌, ◌+◌, ◌++◌, ◌∷◌, [], ◌<◌, ◌≤◌, ◌∙◌, sym, ap, length, arith}
use lib.ListN.{get_or, length-set}
use lib.Seq.{take-suc, take-suc-set}
use Rattle.std.proofs.lemmas.List.{take_all}
use native.Mathlib.Numerals.{add-one}
use Rattle.order.proofs.write.copy_words.Goals as goal

pub loop-i-preserved : goal.loop-i-preserved
loop-i-preserved c =
    let (same, long) = c.loop-i.invariant in
    let words = c.args.words.now in
    let i = c.loop-i.i in
    let there : i < length c.loop-i.new_words = omega (arith, c.loop-i-test.true, long) in
    let kept = length-set c.loop-i.new_words i (get_or words i 0) in (
      rw (add-one i, take-suc-set c.loop-i.new_words i (get_or words i 0) there, take-suc words i 0 c.loop-i-test.true) (ap (λ (t : List ℕ). t ++ (get_or words i 0 ∷ [])) same),
      kept ∙ long,
    )

pub returns : goal.returns
returns c =
    let (same, long) = c.loop-i.invariant in
    let i = c.loop-i.i in
    let all : length c.loop-i.new_words ≤ i = omega (arith, c.loop-i-test.false, long) in
    sym (take_all i c.loop-i.new_words all) ∙ same ∙ take_all i c.args.words.now c.loop-i-test.false
