use Rattle.table.proofs.TableLaws.{place_at}
use Rattle.definition.specs.Value.{same_identifier}
use Rattle.values.proofs.sequence.loads_same_identifier.Goals as goal

pub returns-in-None : goal.returns-in-None
unfolding same_identifier
returns-in-None c = rw c.in-None.is

pub returns-in-Some : goal.returns-in-Some
unfolding same_identifier
returns-in-Some c =
    let there = rw c.in-Some.is at c.requires.loaded_bound in
    rw (c.in-Some.is, place_at _ c.in-Some.loaded 0 there, place_at _ c.args.place 0 c.requires.place_bound, c.identifier.ensures, c.identifier-in-Some.ensures)
