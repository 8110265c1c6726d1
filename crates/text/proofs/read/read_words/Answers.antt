-- `text::read::read_words` meets its contract: each return is what `WordsStored` allows.
use Rattle.std.proofs.Common.{refl, arith}
use mathlib.Core.Logic.{inr}
use Rattle.text.proofs.FormLaws.{text_good}
use Rattle.text.proofs.AnswerLaws.{stopped_refused}
use Rattle.text.proofs.read.read_words.Goals as goal

pub returns-in-Err : goal.returns-in-Err
returns-in-Err c = inr (refl, c.if-file-gt32768.false, stopped_refused _ _ _ c.in-Err.ensures)

pub returns-in-Ok : goal.returns-in-Ok
returns-in-Ok c =
    let (words, text, holds) = c.in-Ok.ensures in
    (words, record { short = c.if-file-gt32768.false; good = text_good _ _ words text }, omega (arith, holds.counted, c.if-words-count.true))

pub returns-in-Ok-2 : goal.returns-in-Ok-2
returns-in-Ok-2 c =
    let (words, text, holds) = c.in-Ok.ensures in
    (words, record { short = c.if-file-gt32768.false; good = text_good _ _ words text }, holds, omega (arith, c.if-words-count.false))
