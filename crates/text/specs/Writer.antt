-- A writer into lent bytes: what it is after some more of a text, and what it leaves.
use Rattle.std.specs.Prelude.{List, [], ◌∷◌, ◌++◌, ℕ, ◌+◌, ◌-◌, Option, Some, None, Ok, ltb, leb, length, take, set, replicate}
use Rattle.std.specs.Borrow.{MutBor}
use Rattle.text.specs.Decimal.{choose}
use Rattle.text.specs.Printed.{no_room}
use Rattle.text.specs.Prints.{Printing}
use Rattle.text.specs.declared.write.Writer.{Writer}

-- at the begin of the lent bytes
abbrev pub opened : MutBor (List ℕ) → Writer
opened out = record { out = out; end = Some 0 }

-- one byte more: at the end, if there is a place; else there is no end any more
unfoldable pub byte_at : (end : Option ℕ) → Writer → ℕ → Writer
byte_at None w byte = record w { end = None }
byte_at (Some end) w byte =
    choose (ltb end (length w.out.now))
    (λ _. record w { out = record w.out { now = set w.out.now end byte }; end = Some (end + 1) })
    (λ _. record w { end = None })

-- the bytes of a text, one by one
unfoldable pub written : Writer → (text : List ℕ) → Writer
written w [] = w
written w (byte ∷ text) = written (byte_at w.end w byte) text

-- the places that are left
unfoldable pub room_at : (end : Option ℕ) → Writer → ℕ
room_at None w = 0
room_at (Some end) w = length w.out.now - end

abbrev pub room : Writer → ℕ
room w = room_at w.end w

-- the answer, and what the lent bytes hold in the end: what was written and zeros; zeros alone, if it did not fit
unfoldable pub closed : Writer → Printing
closed w =
    elim w.end [
      | None ↦ record { answer = no_room; bytes = replicate (length w.out.now) 0 }
      | Some end ↦
          choose (leb end (length w.out.now))
          (λ _. record { answer = Ok end; bytes = take end w.out.now ++ replicate (length w.out.now - end) 0 })
          (λ _. record { answer = no_room; bytes = replicate (length w.out.now) 0 })
    ]
