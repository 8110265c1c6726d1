use Rattle.std.proofs.Common.{arith}
use Rattle.std.proofs.lemmas.Grind.{common_steps}
use Rattle.text.proofs.ReadingLaws.{stored_answered, answered_read}
use Rattle.text.proofs.read.read_as.Goals as goal

pub returns : goal.returns
returns c =
    let w = c.read_words-answer in
    answered_read _ _ _ (stored_answered _ _ _ c.unwrap_or.result _ _ _ w.ensures w.auto.words c.unwrap_or.ensures (grind (arith, common_steps)))
