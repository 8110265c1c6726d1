use Rattle.convert.proofs.TextLaws.{text_written}
use Rattle.convert.proofs.written_tables.write_tables.Goals as goal

pub returns : goal.returns
returns c =
    rw (c.write_part-6.ensures, c.write_part-5.ensures, c.write_part-4.ensures, c.write_part-3.ensures, c.write_part-2.ensures, c.write_part.ensures)
    (text_written _ _ _ _ _ c.args.words.sized c.block_columns.ensures c.instruction_columns.ensures
    c.instructions_begin-instructions.ensures.0 c.cases_begin-cases.ensures.0 c.places_begin-places.ensures.0 c.identifiers_begin-identifiers.ensures.0)
