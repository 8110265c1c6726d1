-- From the text in the buffer to the answer of the entry that wrote it.
use Rattle.std.specs.Prelude.{Result, Ok, Err}
use Rattle.std.specs.Result.{is_err}
use Prim.Native.Nat.{ℕ, ◌≤◌}
use native.Mathlib.Omega.{arith}
use mathlib.Core.Path.{◌≡◌, refl, sym, ap, ap₂}
use mathlib.Core.Bool.{Bool, true, false}
use mathlib.Core.List.{List, []}
use native.Mathlib.Nat.{sub-zero}
use lib.Dec.{leb}
use lib.Seq.{take_at}
use lib.ListN.{length, take, replicate}
use borrow.Author.Tests.{leb-true, le-leb, eq-eqb, ne_eqb}
use Rattle.text.specs.Decimal.{choose}
use Rattle.text.specs.Lent.{padded}
use Rattle.text.specs.Printed.{printed, Written, no_room, written_of, lent_of}
use Rattle.text.specs.declared.write.NoRoom.{NoRoom}
use Rattle.text.specs.Placed.{Placing, refusal, placed, placing, cleared, printed_placing, Holding}
use Rattle.text.specs.Prints.{WrittenText}

abbrev made : (code at length : ℕ) → List ℕ → Placing
made code at length buffer = record { code = code; at = at; length = length; buffer = buffer }

-- an answer, and what it leaves in the bytes
module _ {E : Type 0} (code_of place_of : E → ℕ) where
  pub cleared_ok : (answer : Result ℕ E) (buffer : List ℕ) → false ≡ is_err answer → placing code_of place_of answer buffer ≡ cleared code_of place_of answer buffer
  unfolding cleared
  cleared_ok (Ok end) buffer e = refl
  cleared_ok (Err error) buffer e = cc

  pub cleared_error : (answer : Result ℕ E) (buffer : List ℕ) {buffer' : List ℕ} → true ≡ is_err answer → buffer' ≡ replicate (length buffer) 0
      → placing code_of place_of answer buffer' ≡ cleared code_of place_of answer buffer
  unfolding cleared refusal
  cleared_error (Ok end) buffer e f = cc
  cleared_error (Err error) buffer e f = ap (made (code_of error) (place_of error) 0) f

-- an answer of writing, taken apart
count_of : {n m : ℕ} → ◌≡◌ {A = Written} (Ok n) (Ok m) → n ≡ m
count_of e = cc

ok_err : {n : ℕ} {none : NoRoom} → ◌≡◌ {A = Written} (Ok n) (Err none) → ⊥
ok_err e = cc

-- what a writer told at the end of a text, as the answer of its entry
module _ {E : Type 0} (code_of place_of : E → ℕ) (text bytes : List ℕ) (room : ℕ) where
  pub fits_placed : (short : ℕ) {end : ℕ} → Ok end ≡ written_of room text → bytes ≡ lent_of room text → cleared code_of place_of (Ok end) bytes ≡ placed short room text
  unfolding cleared placed written_of lent_of
  fits_placed short {end} e f = by (leb (length text) room) e f
    where
      by : (b : Bool) → Ok end ≡ choose b (λ _. Ok (length text)) (λ _. no_room) → bytes ≡ choose b (λ _. padded room text) (λ _. replicate room 0)
          → made 0 0 end bytes ≡ elim b [ true ↦ made 0 0 (length text) (padded room text) | false ↦ refusal short 0 room ]
      by true e f = ap₂ (made 0 0) (count_of e) f
      by false e f = absurd (ok_err e)

  pub over_placed : (error : E) {none : NoRoom} → Err none ≡ written_of room text → place_of error ≡ 0 → length bytes ≡ room
      → cleared code_of place_of (Err error) bytes ≡ placed (code_of error) room text
  unfolding cleared placed written_of
  over_placed error {none} e zero long = by (leb (length text) room) e
    where
      by : (b : Bool) → Err none ≡ choose b (λ _. Ok (length text)) (λ _. no_room)
          → refusal (code_of error) (place_of error) (length bytes) ≡ elim b [ true ↦ made 0 0 (length text) (padded room text) | false ↦ refusal (code_of error) 0 room ]
      by true e = absurd (ok_err (sym e))
      by false e = rw (zero, long)

-- where there is room
pub placed_fits : (short lent : ℕ) (text : List ℕ) → length text ≤ lent
    → placed short lent text ≡ record { code = 0; at = 0; length = length text; buffer = padded lent text }
unfolding placed
placed_fits short lent text p = rw (le-leb (length text) lent p, placed)

-- ---- what is printed of an answer

pub holding_refusal : (code at lent : ℕ) → Holding lent (refusal code at lent)
unfolding refusal
holding_refusal code at lent = record { text = []; long = refl; fits = omega arith; held = rw (sub-zero lent) refl }

pub holding_placed : (short lent : ℕ) (text : List ℕ) → Holding lent (placed short lent text)
unfolding placed
holding_placed short lent text = by (leb (length text) lent) refl
  where
    by : (fits : Bool) → leb (length text) lent ≡ fits
        → Holding lent (elim fits [ true ↦ record { code = 0; at = 0; length = length text; buffer = padded lent text } | false ↦ refusal short 0 lent ])
    by true e = record { text = text; long = refl; fits = leb-true (length text) lent e; held = refl }
    by false e = holding_refusal short 0 lent

pub refusal_printing : (d : Placing) {lent : ℕ} {r : Written} {out : List ℕ} → (d.code ≡ 0 → ⊥) → WrittenText 77 (printed d.code d.at 0 0 []) lent r out
    → WrittenText 77 (printed_placing d) lent r out
unfolding printed_placing
refusal_printing d some h = rw (ne_eqb d.code 0 some) h

pub text_printing : (lent : ℕ) (d : Placing) → d.code ≡ 0 → Holding lent d → WrittenText 77 (printed_placing d) lent (Ok d.length) d.buffer
unfolding printed_placing written_of lent_of
text_printing lent d none h =
    let text : take d.length d.buffer ≡ h.text = rw h.held (take_at h.text _ d.length h.long) in
    let room = le-leb (length h.text) lent h.fits in
    rw (eq-eqb d.code 0 none, text) (record { answer = rw room (ap Ok (sym h.long)); bytes = rw room h.held; enough = λ _. ap Ok (sym h.long) })
