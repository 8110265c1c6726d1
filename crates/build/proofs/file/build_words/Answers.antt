-- `build::file::build_words` meets its contract. Two cases: of a refused build the result alone is printed, of an accepted one its rows too.
-- EntryLaws says that the rows are within the buffer, OutcomeLaws what they print; PrintsLaws that this is the text due.
use native.Mathlib.Omega.{arith}
use mathlib.Core.Path.{refl, sym}
use Prim.Native.Nat.{◌*◌, ◌≤◌}
use lib.ListN.{length}
use lib.Seq.{length-take-le}
use Rattle.text.proofs.PrintsLaws.{written_as}
use Rattle.build.proofs.EntryLaws.{accepted_within}
use Rattle.build.proofs.OutcomeLaws.{accepted_printed, refused_printed}
use Rattle.build.proofs.file.build_words.Goals as goal

pub slice_bounds-tree-end : goal.slice_bounds-tree-end
slice_bounds-tree-end c = omega (arith, (accepted_within _ _ _ _ _ c.in-Ok.ensures refl).0, c.build.auto.tree)

pub slice_bounds-write-end : goal.slice_bounds-write-end
slice_bounds-write-end c = sym (length-take-le _ _ (omega (arith, (accepted_within _ _ _ _ _ c.in-Ok.ensures refl).0, c.build.auto.tree)))

pub returns-in-Ok : goal.returns-in-Ok
returns-in-Ok c =
    let fits : c.in-Ok.built.rows * 6 ≤ length c.build.new.tree = omega (arith, (accepted_within _ _ _ _ _ c.in-Ok.ensures refl).0, c.build.auto.tree) in
    let e = accepted_printed _ _ _ _ (sym c.zeros-tree.ensures) (sym c.zeros-index.ensures) _ c.in-Ok.ensures in
    written_as e (omega (arith, length-take-le (c.in-Ok.built.rows * 6) c.build.new.tree fits, fits)) c.write.ensures

pub returns-in-Err : goal.returns-in-Err
returns-in-Err c =
    let result = rw (c.code.ensures, c.place.ensures, c.rows.ensures, c.visits.ensures) at c.write-in-Err.ensures in
    written_as (refused_printed _ _ _ _ (sym c.zeros-tree.ensures) (sym c.zeros-index.ensures) _ c.in-Err.ensures) (omega arith) result
