-- `lookup` gives the words of the part that `find` names (`part_found_lem`). It is within the tree buffer (`found_within`), and so are the slice's bounds.
use Rattle.std.proofs.Common.{rules}
use Rattle.lookup.proofs.Answers.{found_within, part_found_lem}
use Rattle.lookup.proofs.lookup.Goals as goal

pub offset_bounds-tree-first : goal.offset_bounds-tree-first
offset_bounds-tree-first c = let w = found_within _ _ _ c.in_ok-first.ensures in search rules

pub slice_bounds-result-count : goal.slice_bounds-result-count
slice_bounds-result-count c = let w = found_within _ _ _ c.in_ok-first.ensures in search rules

pub slice_bounds-result-start : goal.slice_bounds-result-start
slice_bounds-result-start c = let w = found_within _ _ _ c.in_ok-first.ensures in search rules

pub slice_bounds-result-end : goal.slice_bounds-result-end
slice_bounds-result-end c = let w = found_within _ _ _ c.in_ok-first.ensures in search rules

pub returns : goal.returns
returns c = part_found_lem _ _ _ _ c.in_ok-first.ensures
