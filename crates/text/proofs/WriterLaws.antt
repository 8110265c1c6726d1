-- Laws of a writer: texts one behind the other, and what it leaves in the end.
use mathlib.Core.Path.{◌≡◌, refl, sym, ap, ◌∙◌}
use mathlib.Core.Bool.{Bool, true, false}
use mathlib.Core.List.{List, [], ◌∷◌, ◌++◌, append-nil, append_assoc}
use Prim.Native.Nat.{ℕ, ◌+◌, ◌≤◌, ◌<◌}
use native.Mathlib.Omega.{arith}
use native.Mathlib.Numerals.{add-one}
use lib.Dec.{ltb, eqb}
use lib.ListN.{length, take, drop, get_or, set, length-set, length-append, drop_of_length-le}
use lib.Seq.{drop-cons, take-suc-set}
use Rattle.std.proofs.lemmas.List.{take_at, take_all, take-append-le}
use borrow.Author.Tests.{ltb-true, ltb-false, lt-ltb, le-leb, lt-leb}
use Rattle.std.specs.Prelude.{Option, Some, None}
use Rattle.std.specs.Option.{is_some}
use Rattle.std.specs.Borrow.{MutBor}
use Rattle.text.specs.Decimal.{choose, decimal}
use Rattle.text.specs.Line.{line, lines, rows_in}
use Rattle.text.specs.Form.{ending}
use Rattle.text.specs.Printed.{Written, written_of, lent_of}
use Rattle.text.specs.Prints.{Printing, printing}
use Rattle.text.specs.Writer.{opened, byte_at, written, room_at, room, closed}
use Rattle.text.specs.declared.write.Writer.{Writer}
use Rattle.text.proofs.WriteLaws.{line_open, line_done, rows_open, rows_none, no_rows}

-- a text, then another
pub written_append : (w : Writer) (s t : List ℕ) → written w (s ++ t) ≡ written (written w s) t
unfolding written
written_append w [] t = refl
written_append w (byte ∷ s) t = written_append (byte_at w.end w byte) s t

-- the bytes from the i-th on
pub bytes_more : (w : Writer) (bytes : List ℕ) (i : ℕ) → i < length bytes → written w (drop i bytes) ≡ written (byte_at w.end w (get_or bytes i 0)) (drop (i + 1) bytes)
unfolding written
bytes_more w bytes i p = rw (drop-cons bytes i 0 p, written, add-one i)

pub bytes_done : (w : Writer) (bytes : List ℕ) (i : ℕ) → length bytes ≤ i → written w (drop i bytes) ≡ w
unfolding written
bytes_done w bytes i p = rw (drop_of_length-le bytes p)

-- a text, and a byte behind it
pub byte_behind : (w : Writer) (text : List ℕ) (byte : ℕ) (more : List ℕ)
    → written w (text ++ (byte ∷ more)) ≡ written (byte_at (written w text).end (written w text) byte) more
unfolding written
byte_behind w text byte more = written_append w text (byte ∷ more)

-- the line of the numbers from the i-th on
pub line_more : (w : Writer) (ns : List ℕ) (i : ℕ) → i < length ns
    → written w (line (drop i ns))
    ≡ written (byte_at (written w (decimal (get_or ns i 0))).end (written w (decimal (get_or ns i 0))) (ending (eqb (i + 1) (length ns)))) (line (drop (i + 1) ns))
line_more w ns i p = rw (line_open ns i p) (byte_behind w _ _ _)

pub line_end : (w : Writer) (ns : List ℕ) (i : ℕ) → length ns ≤ i → written w (line (drop i ns)) ≡ w
unfolding written
line_end w ns i p = rw (line_done ns i p)

-- the lines of a row and of those behind it
pub rows_more : (w : Writer) (stride width : ℕ) (row rest : List ℕ) → 0 < stride → width ≤ stride → length row ≡ stride
    → written w (lines (rows_in stride width (row ++ rest))) ≡ written (written w (line (take width row))) (lines (rows_in stride width rest))
unfolding lines
rows_more w stride width row rest some fits long =
    rw (rows_open stride width row rest some fits long) (written_append w (line (take width row)) (lines (rows_in stride width rest)))

pub rows_end : (w : Writer) (stride width : ℕ) (rest : List ℕ) → length rest < stride → written w (lines (rows_in stride width rest)) ≡ w
unfolding lines written
rows_end w stride width rest p = rw (rows_none stride width rest p)

pub rows_absent : (w : Writer) (stride width : ℕ) (words : List ℕ) → stride ≡ 0 → written w (lines (rows_in stride width words)) ≡ w
unfolding lines written
rows_absent w stride width words e = rw (e, no_rows width words)

-- a writer that is full stays as it is
full_byte : (end : Option ℕ) (w : Writer) (byte : ℕ) → is_some end ≡ false → byte_at end w byte ≡ record w { end = None }
unfolding byte_at
full_byte None w byte e = refl
full_byte (Some end) w byte e = absurd (let one : ◌≡◌ {A = ℕ} 1 0 = ap (λ (b : Bool). elim b [ true ↦ 1 | false ↦ 0 ]) e in omega (arith, one))

end_none : (end : Option ℕ) → is_some end ≡ false → end ≡ None
end_none None e = refl
end_none (Some end) e = absurd (let one : ◌≡◌ {A = ℕ} 1 0 = ap (λ (b : Bool). elim b [ true ↦ 1 | false ↦ 0 ]) e in omega (arith, one))

pub written_full : (w : Writer) (text : List ℕ) → is_some w.end ≡ false → written w text ≡ w
unfolding written
written_full w [] e = refl
written_full w (byte ∷ text) e =
    let same : record w { end = None } ≡ w = ap (λ (end : Option ℕ). record w { end = end }) (sym (end_none w.end e)) in
    rw (full_byte w.end w byte e) (written_full (record w { end = None }) text refl ∙ same)

-- ---- the room that is left

room_byte : (end : Option ℕ) (w : Writer) (byte : ℕ) → 1 ≤ room_at end w → room (byte_at end w byte) + 1 ≡ room_at end w
unfolding byte_at room_at
room_byte None w byte p = absurd (omega (arith, p))
room_byte (Some end) w byte p = rw (lt-ltb end (length w.out.now) (omega (arith, p)), length-set w.out.now end byte) (omega (arith, p))

pub room_put : (w : Writer) (byte : ℕ) {v : Writer} → v ≡ byte_at w.end w byte → 1 ≤ room w → room v + 1 ≡ room w
room_put w byte e p = rw e (room_byte w.end w byte p)

-- ---- a writer over the same bytes under another name

abbrev pub named : (n : ℕ) → Writer → Writer
named n w = record w { out = record w.out { ghost_name = n } }

named_byte : (n : ℕ) (end : Option ℕ) (w : Writer) (byte : ℕ) → byte_at end (named n w) byte ≡ named n (byte_at end w byte)
unfolding byte_at
named_byte n None w byte = refl
named_byte n (Some end) w byte = by (ltb end (length w.out.now))
  where
    by : (b : Bool)
        → choose b (λ _. record (named n w) { out = record (named n w).out { now = set w.out.now end byte }; end = Some (end + 1) }) (λ _. record (named n w) { end = None })
        ≡ named n (choose b (λ _. record w { out = record w.out { now = set w.out.now end byte }; end = Some (end + 1) }) (λ _. record w { end = None }))
    by true = refl
    by false = refl

named_written : (n : ℕ) (w : Writer) (text : List ℕ) → written (named n w) text ≡ named n (written w text)
unfolding written
named_written n w [] = refl
named_written n w (byte ∷ text) = rw (named_byte n w.end w byte) (named_written n (byte_at w.end w byte) text)

named_room : (n : ℕ) (end : Option ℕ) (w : Writer) → room_at end (named n w) ≡ room_at end w
unfolding room_at
named_room n None w = refl
named_room n (Some end) w = refl

pub room_named : (n : ℕ) (w : Writer) {k : ℕ} → k ≤ room w → k ≤ room (named n w)
room_named n w p = rw (named_room n w.end w) p

-- of the bytes that were lent only what they hold changes
out_byte : (end : Option ℕ) (w : Writer) (byte : ℕ) (now : List ℕ) → record (byte_at end w byte).out { now = now } ≡ record w.out { now = now }
unfolding byte_at
out_byte None w byte now = refl
out_byte (Some end) w byte now = by (ltb end (length w.out.now))
  where
    by : (b : Bool)
        → record (choose b (λ _. record w { out = record w.out { now = set w.out.now end byte }; end = Some (end + 1) }) (λ _. record w { end = None })).out { now = now }
        ≡ record w.out { now = now }
    by true = refl
    by false = refl

out_written : (w : Writer) (text : List ℕ) (now : List ℕ) → record (written w text).out { now = now } ≡ record w.out { now = now }
unfolding written
out_written w [] now = refl
out_written w (byte ∷ text) now = out_written (byte_at w.end w byte) text now ∙ out_byte w.end w byte now

-- so what such a writer has written in its place is written
pub written_back : (n : ℕ) (w : Writer) (text : List ℕ) {v : Writer} {now : List ℕ} → v ≡ written (named n w) text → now ≡ v.out.now
    → record { out = record w.out { now = now }; end = v.end } ≡ written w text
written_back n w text e f =
    rw (f, e, named_written n w text) (ap (λ (out : MutBor (List ℕ)). record { out = out; end = (written w text).end }) (sym (out_written w text (written w text).out.now)))

-- ---- the end

-- this text was written from the begin on, or it did not fit
data Has (text : List ℕ) (w : Writer) : Type 0 where
  fits : w.end ≡ Some (length text) → length text ≤ length w.out.now → take (length text) w.out.now ≡ text → Has text w
  full : w.end ≡ None → length w.out.now < length text → w.out.now ≡ take (length w.out.now) text → Has text w

has_none : (b : MutBor (List ℕ)) → Has [] (opened b)
has_none b = fits refl (omega arith) refl

has_byte : (text : List ℕ) (w : Writer) (byte : ℕ) → Has text w → Has (text ++ (byte ∷ [])) (byte_at w.end w byte)
unfolding byte_at
has_byte text w byte (full e p t) = rw (e, byte_at) (full refl (omega (arith, p, length-append text (byte ∷ []))) (t ∙ sym (take-append-le _ text (byte ∷ []) (omega (arith, p)))))
has_byte text w byte (fits e p t) = rw (e, byte_at) (by (ltb (length text) (length w.out.now)) refl)
  where
    more : length (text ++ (byte ∷ [])) ≡ length text + 1
    more = length-append text (byte ∷ [])

    by : (b : Bool) → ltb (length text) (length w.out.now) ≡ b
        → Has (text ++ (byte ∷ []))
        (choose b (λ _. record w { out = record w.out { now = set w.out.now (length text) byte }; end = Some (length text + 1) }) (λ _. record w { end = None }))
    by true q =
        let under = ltb-true (length text) (length w.out.now) q in
        fits (ap Some (sym more)) (omega (arith, more, under, length-set w.out.now (length text) byte))
        (rw (more, add-one (length text)) (take-suc-set w.out.now (length text) byte under ∙ ap (λ (t : List ℕ). t ++ (byte ∷ [])) t))
    by false q =
        let same : length w.out.now ≡ length text = omega (arith, p, ltb-false (length text) (length w.out.now) q) in
        let all : w.out.now ≡ text = sym (take_all (length text) w.out.now (omega (arith, same))) ∙ t in
        full refl (omega (arith, more, same)) (all ∙ sym (take_at text (byte ∷ []) (length w.out.now) (sym same)))

has_more : (text more : List ℕ) (w : Writer) → Has text w → Has (text ++ more) (written w more)
unfolding written
has_more text [] w h = rw (append-nil text) h
has_more text (byte ∷ more) w h = rw (append_assoc text (byte ∷ []) more) at (has_more (text ++ (byte ∷ [])) more (byte_at w.end w byte) (has_byte text w byte h))

-- the lent bytes are as many as they were
long_byte : (end : Option ℕ) (w : Writer) (byte : ℕ) → length (byte_at end w byte).out.now ≡ length w.out.now
unfolding byte_at
long_byte None w byte = refl
long_byte (Some end) w byte = by (ltb end (length w.out.now))
  where
    by : (b : Bool) → length (choose b (λ _. record w { out = record w.out { now = set w.out.now end byte }; end = Some (end + 1) }) (λ _. record w { end = None })).out.now ≡ length w.out.now
    by true = length-set w.out.now end byte
    by false = refl

long_kept : (w : Writer) (text : List ℕ) → length (written w text).out.now ≡ length w.out.now
unfolding written
long_kept w [] = refl
long_kept w (byte ∷ text) = long_kept (byte_at w.end w byte) text ∙ long_byte w.end w byte

closed_has : (text : List ℕ) (w : Writer) → Has text w → closed w ≡ printing (length w.out.now) text
unfolding closed written_of lent_of
closed_has text w (fits e p t) = rw (closed, e, le-leb (length text) (length w.out.now) p, t)
closed_has text w (full e p _) = rw (closed, e, lt-leb (length text) (length w.out.now) p)

-- the lent bytes hold the first part of a text that did not fit, until `finish` clears them
pub begun : (b : MutBor (List ℕ)) (text : List ℕ) → length b.now < length text → take (length b.now) (written (opened b) text).out.now ≡ take (length b.now) text
begun b text p = by (has_more [] text (opened b) (has_none b))
  where
    w : Writer
    w = written (opened b) text

    long : length w.out.now ≡ length b.now
    long = long_kept (opened b) text

    by : Has text w → take (length b.now) w.out.now ≡ take (length b.now) text
    by (fits e q t) = absurd (omega (arith, p, q, long))
    by (full e q t) = take_all (length b.now) w.out.now (omega (arith, long)) ∙ t ∙ rw long refl

-- what is told and left in the end is that of the text
pub closed_written : (b : MutBor (List ℕ)) (text : List ℕ) → closed (written (opened b) text) ≡ printing (length b.now) text
closed_written b text = rw (← (long_kept (opened b) text)) (closed_has text (written (opened b) text) (has_more [] text (opened b) (has_none b)))

-- the same lent bytes
name_byte : (end : Option ℕ) (w : Writer) (byte : ℕ) → (byte_at end w byte).out.ghost_name ≡ w.out.ghost_name
unfolding byte_at
name_byte None w byte = refl
name_byte (Some end) w byte = by (ltb end (length w.out.now))
  where
    by : (b : Bool)
        → (choose b (λ _. record w { out = record w.out { now = set w.out.now end byte }; end = Some (end + 1) }) (λ _. record w { end = None })).out.ghost_name ≡ w.out.ghost_name
    by true = refl
    by false = refl

pub name_kept : (w : Writer) (text : List ℕ) → (written w text).out.ghost_name ≡ w.out.ghost_name
unfolding written
name_kept w [] = refl
name_kept w (byte ∷ text) = name_kept (byte_at w.end w byte) text ∙ name_byte w.end w byte

pub name_written : (w : Writer) (text : List ℕ) {v : Writer} → v ≡ written w text → v.out.ghost_name ≡ w.out.ghost_name
name_written w text e = rw e (name_kept w text)

pub same_reference : (b : MutBor (List ℕ)) (text : List ℕ) {w : Writer} → w ≡ written (opened b) text → w.out.ghost_name ≡ b.ghost_name
same_reference b text e = rw e (name_kept (opened b) text)

-- what is told at the end of a text, and what it leaves in the lent bytes
module _ (b : MutBor (List ℕ)) (text : List ℕ) (answer : Written) (bytes : List ℕ) {w : Writer} (e : w ≡ written (opened b) text) where
  told : record { answer = answer; bytes = bytes } ≡ closed w → record { answer = answer; bytes = bytes } ≡ printing (length b.now) text
  told t = t ∙ (rw e (closed_written b text))

  pub told_answer : record { answer = answer; bytes = bytes } ≡ closed w → answer ≡ written_of (length b.now) text
  told_answer t = ap (λ (p : Printing). p.answer) (told t)

  pub told_bytes : record { answer = answer; bytes = bytes } ≡ closed w → bytes ≡ lent_of (length b.now) text
  told_bytes t = ap (λ (p : Printing). p.bytes) (told t)
