-- `copy_words` copies: the words so far are the same, and all are when the loop ends.
use Rattle.std.proofs.Common.{◌≡◌, length, take}
use Rattle.order.proofs.write.copy_words.Given as goal

abbrev pub invariant-loop-i : goal.invariant-loop-i
invariant-loop-i l = (take l.i l.new_words ≡ take l.i l.words) × (length l.new_words ≡ length l.words)
