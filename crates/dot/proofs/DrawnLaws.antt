-- From what the check and the text give to the drawing.
use Prim.Native.Nat.{ℕ}
use mathlib.Core.Path.{◌≡◌, refl}
use mathlib.Core.List.{List}
use lib.ListN.{length}
use Rattle.std.specs.Prelude.{Ok, Err}
use Rattle.table.specs.Check.{accepted, refused, checked}
use Rattle.table.specs.Answer.{refusal_code, refusal_place}
use Rattle.table.specs.Table.{table_of}
use Rattle.table.specs.declared.Refusal.{Refusal}
use Rattle.text.specs.Printed.{written_of, lent_of}
use Rattle.text.specs.Placed.{cleared as cleared_by}
use Rattle.text.specs.declared.write.NoRoom as write
use Rattle.text.proofs.PlacedLaws.{fits_placed, over_placed}
use Rattle.dot.specs.Answer.{code_of, place_of, cleared}
use Rattle.dot.specs.Dot.{graph_text, after_check, drawn}
use Rattle.dot.specs.declared.DrawError.TheVariants.{Table, NoRoom}

module _ (words text : List ℕ) (room : ℕ) where
  pub fits_drawn : {end : ℕ} → accepted ≡ checked words → Ok end ≡ written_of room (graph_text (table_of words)) → text ≡ lent_of room (graph_text (table_of words))
      → cleared (Ok end) text ≡ drawn words room
  unfolding drawn after_check
  fits_drawn v answer bytes = rw (← v) (fits_placed code_of place_of _ _ _ 44 answer bytes)

  pub over_drawn : {none : write.NoRoom} → accepted ≡ checked words → Err none ≡ written_of room (graph_text (table_of words)) → length text ≡ room
      → cleared (Err NoRoom) text ≡ drawn words room
  unfolding drawn after_check
  over_drawn v answer long = rw (← v) (over_placed code_of place_of _ _ _ NoRoom answer refl long)

  pub refused_drawn : (refusal : Refusal) → refused (refusal_code refusal) (refusal_place refusal) ≡ checked words → length text ≡ room
      → cleared (Err (Table refusal)) text ≡ drawn words room
  unfolding drawn after_check cleared_by
  refused_drawn refusal v long = rw (← v, long) refl
