use Rattle.std.proofs.Common.{rules, ◌≡◌, ◌∙◌}
use Rattle.text.proofs.WriterLaws.{same_reference, told_answer, told_bytes}
use Rattle.convert.proofs.write_words.Goals as goal

pub returns-clause-value : goal.returns-clause-value
returns-clause-value c = told_answer _ _ _ _ (rw c.new-writer.ensures at c.write_tables.ensures) c.finish.ensures

pub returns-clause-text_after : goal.returns-clause-text_after
returns-clause-text_after c =
    let wrote = rw c.new-writer.ensures at c.write_tables.ensures in
    let left : _ ≡ c.finish.new.self.0 = search (rules, same_reference _ _ wrote) in
    left ∙ told_bytes _ _ _ _ wrote c.finish.ensures
