-- `table_check::blocks::terminal_columns` meets its contract.
use mathlib.Core.Path.{refl}
use Rattle.table.specs.Check.{terminal_rules, block, block_or_none, place, place_or_none}
use Rattle.table_check.proofs.RowLaws.{in_limits}
use Rattle.table.proofs.RuleLaws.{no_terminal, past}
use Rattle.table_check.proofs.blocks.terminal_columns.Goals as goal

pub returns-in-0 : goal.returns-in-0
unfolding terminal_rules block block_or_none place place_or_none
returns-in-0 c = rw c.in-0.is (in_limits _ 3 _ _ c.columns.ensures refl)

pub returns-in-1 : goal.returns-in-1
unfolding terminal_rules block block_or_none place place_or_none
returns-in-1 c = rw c.in-1.is (in_limits _ 3 _ _ c.columns-in-1.ensures refl)

pub returns-in-2 : goal.returns-in-2
unfolding terminal_rules block block_or_none place place_or_none
returns-in-2 c = rw c.in-2.is (in_limits _ 3 _ _ c.columns-in-2.ensures (simp c.place_count-places.ensures))

pub returns-in-3 : goal.returns-in-3
unfolding terminal_rules block block_or_none place place_or_none
returns-in-3 c = rw c.in-3.is (in_limits _ 3 _ _ c.columns-in-3.ensures (simp c.place_count-places.ensures))

pub returns-in-4 : goal.returns-in-4
unfolding terminal_rules block block_or_none place place_or_none
returns-in-4 c = rw c.in-4.is (in_limits _ 3 _ _ c.columns-in-4.ensures (simp c.block_count-blocks.ensures))

pub returns-in-5 : goal.returns-in-5
unfolding terminal_rules block block_or_none place place_or_none
returns-in-5 c = rw c.in-5.is (in_limits _ 3 _ _ c.columns-in-5.ensures (simp (c.place_count-places.ensures, c.block_count-blocks.ensures)))

pub returns-in-6 : goal.returns-in-6
unfolding terminal_rules block block_or_none place place_or_none
returns-in-6 c = rw c.in-6.is (in_limits _ 3 _ _ c.columns-in-6.ensures (simp (c.place_count-places.ensures, c.block_count-blocks.ensures)))

pub returns-in-7 : goal.returns-in-7
unfolding terminal_rules block block_or_none place place_or_none
returns-in-7 c =
    rw c.in-7.is (in_limits _ 3 _ _ c.columns-in-7.ensures
    (simp (
      c.rows_from-cases.ensures,
      c.block_word-3.ensures,
      c.case_count.ensures,
      c.place_count-places.ensures,
      c.block_count-blocks.ensures,
    )))

pub returns-in-8 : goal.returns-in-8
unfolding terminal_rules block block_or_none place place_or_none
returns-in-8 c = rw c.in-8.is (in_limits _ 3 _ _ c.columns-in-8.ensures (simp c.block_count-blocks.ensures))

pub returns-in-9 : goal.returns-in-9
unfolding terminal_rules block block_or_none place place_or_none
returns-in-9 c = rw c.in-9.is (in_limits _ 3 _ _ c.columns-in-9.ensures (simp c.block_count-blocks.ensures))

pub returns-in-10 : goal.returns-in-10
unfolding terminal_rules block block_or_none place place_or_none
returns-in-10 c = rw c.in-10.is (in_limits _ 3 _ _ c.columns-in-10.ensures (simp (c.row_or_none-update.ensures, c.block_word.ensures, c.block_count-blocks.ensures)))

pub returns-in-11 : goal.returns-in-11
unfolding terminal_rules block block_or_none place place_or_none
returns-in-11 c = rw c.in-11.is (in_limits _ 3 _ _ c.columns-in-11.ensures (simp c.block_count-blocks.ensures))

pub returns-in-12 : goal.returns-in-12
unfolding terminal_rules block block_or_none place place_or_none
returns-in-12 c = rw c.in-12.is (in_limits _ 3 _ _ c.columns-in-12.ensures (simp c.block_count-blocks.ensures))

pub returns-in-13 : goal.returns-in-13
unfolding terminal_rules block block_or_none place place_or_none
returns-in-13 c = rw c.in-13.is (in_limits _ 3 _ _ c.columns-in-13.ensures (simp c.block_count-blocks.ensures))

pub returns-in-14 : goal.returns-in-14
unfolding terminal_rules block block_or_none place place_or_none
returns-in-14 c = rw c.in-14.is (in_limits _ 3 _ _ c.columns-in-14.ensures (simp c.block_count-blocks.ensures))

pub returns-in-15 : goal.returns-in-15
unfolding terminal_rules block block_or_none place place_or_none
returns-in-15 c = rw c.in-15.is (in_limits _ 3 _ _ c.columns-in-15.ensures (simp c.block_count-blocks.ensures))

pub returns-in-16 : goal.returns-in-16
unfolding terminal_rules block block_or_none place place_or_none
returns-in-16 c = rw c.in-16.is (in_limits _ 3 _ _ c.columns-in-16.ensures (simp c.block_count-blocks.ensures))

pub returns-in-17 : goal.returns-in-17
unfolding terminal_rules block block_or_none place place_or_none
returns-in-17 c = rw c.in-17.is (in_limits _ 3 _ _ c.columns-in-17.ensures (simp c.block_count-blocks.ensures))

pub returns-in-18 : goal.returns-in-18
unfolding terminal_rules block block_or_none place place_or_none
returns-in-18 c = rw c.in-18.is (in_limits _ 3 _ _ c.columns-in-18.ensures (simp c.block_count-blocks.ensures))

pub returns-in-19 : goal.returns-in-19
unfolding terminal_rules block block_or_none place place_or_none
returns-in-19 c =
    rw c.in-19.is (in_limits _ 3 _ _ c.columns-in-19.ensures
    (simp (
      c.row_or_none-binding.ensures,
      c.block_word-2.ensures,
      c.place_count-places.ensures,
      c.block_count-blocks.ensures,
    )))

pub returns-in-20 : goal.returns-in-20
unfolding terminal_rules block block_or_none place place_or_none
returns-in-20 c = rw c.in-20.is (in_limits _ 3 _ _ c.columns-in-20.ensures (simp c.block_count-blocks.ensures))

pub returns-in-21 : goal.returns-in-21
unfolding terminal_rules block block_or_none place place_or_none
returns-in-21 c = rw c.in-21.is (in_limits _ 3 _ _ c.columns-in-21.ensures (simp c.block_count-blocks.ensures))

pub returns-in_default : goal.returns-in_default
returns-in_default c = rw (no_terminal _ _ _ (past 22 _ c.in_default.in_default-own.rest)) (in_limits _ 3 _ _ c.columns-in_default.ensures refl)
