-- What the buffer holds of a drawing.
use Prim.Native.Nat.{ℕ}
use mathlib.Core.List.{List}
use Rattle.table.specs.Check.{Verdict, accepted, refused, checked}
use Rattle.table.specs.Table.{table_of}
use Rattle.text.specs.Placed.{Holding}
use Rattle.text.proofs.PlacedLaws.{holding_refusal, holding_placed}
use Rattle.dot.specs.Dot.{graph_text, after_check, drawn}

pub holding : (words : List ℕ) (room : ℕ) → Holding room (drawn words room)
unfolding drawn after_check
holding words room = by (checked words)
  where
    by : (verdict : Verdict) → Holding room (after_check room verdict words)
    by accepted = holding_placed 44 room (graph_text (table_of words))
    by (refused code at) = holding_refusal code at room
