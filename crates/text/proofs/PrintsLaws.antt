-- Laws of what is printed of a file: from what reading and writing give to the program's answer and bytes; and that `Prints`, which has no reader in it,
-- allows just the text of what the file reads as.
use mathlib.Core.Path.{◌≡◌, refl, sym, ap, ap₂, ◌∙◌}
use mathlib.Core.List.{List, []}
use mathlib.Core.Logic.{⊎_elim, inl, inr}
use Rattle.std.specs.Prelude.{Ok, Err}
use Prim.Native.Nat.{ℕ, zero, suc, ◌≤◌}
use native.Mathlib.Omega.{arith}
use lib.ListN.{length, take, length-append, length-replicate}
use lib.Seq.{take_at}
use Rattle.text.specs.Layout.{Layout}
use Rattle.text.specs.Answer.{Refusal, Answered, code_of, place_of}
use Rattle.text.specs.Printed.{printed, tree_lines, Written, written_of, lent_of}
use Rattle.text.specs.Prints.{printing, file_text, PrintsWords, PrintsRefusal, Prints, WrittenText}
use Rattle.text.specs.Reading.{Reading, reads, refuses, reading}
use Rattle.text.specs.declared.read.ReadError.{ReadError}
use Rattle.text.specs.declared.read.ReadError.TheVariants.{TooLong, NotInForm, NoRoom}
use Rattle.text.proofs.AnswerLaws.{good_one, refusal_accepted, refusal_one, room_enough}
use Rattle.text.proofs.ReadingLaws.{Says, reading_says, accepted_reads, refusal_refuses}

-- ---- what was read

-- the words that were read stand in the buffer
pub words_within : (f : Layout) (file lent : List ℕ) (room count : ℕ) → Answered f file room lent (Ok count) → count ≤ length lent
words_within f file lent room count h = rw h.4 (simp (length-append, length-replicate) (omega (arith, h.2, h.3)))

pub words_read : (f : Layout) (file lent : List ℕ) (room count : ℕ) (h : Answered f file room lent (Ok count)) → take count lent ≡ h.0
words_read f file lent room count h = rw h.4 (take_at h.0 _ count h.2)

-- 50 or 51
pub refusal_some : {f : Layout} {file : List ℕ} {code at : ℕ} → Refusal f file code at → code ≡ 0 → ⊥
refusal_some h e = ⊎_elim (λ w. omega (arith, w.0, e)) (λ w. omega (arith, w.0, e)) h

-- 50, 51 or 54
pub error_some : (error : ReadError) → code_of error ≡ 0 → ⊥
error_some TooLong e = omega (arith, e)
error_some (NotInForm at) e = omega (arith, e)
error_some NoRoom e = omega (arith, e)

-- ---- what is printed

-- a refusal's two lines, whatever tree stands beside it
pub refusal_lines : (code at rows visits : ℕ) (t t' : List ℕ) → (code ≡ 0 → ⊥) → printed code at rows visits t ≡ printed code at rows visits t'
unfolding printed tree_lines
refusal_lines zero at rows visits t t' h = absurd (h refl)
refusal_lines (suc code) at rows visits t t' h = refl

-- the same text, and room that is enough for more
pub written_as : {most most' room : ℕ} {r : Written} {lent text text' : List ℕ} → text ≡ text' → most ≤ most' → WrittenText most text room r lent → WrittenText most' text' room r lent
written_as {room = room} e p h = record {
  answer = h.answer ∙ ap (written_of room) e;
  bytes = h.bytes ∙ ap (lent_of room) e;
  enough = λ q. h.enough (omega (arith, p, q)) ∙ ap (λ (text : List ℕ). Ok (length text)) e;
}

pub refusal_written : (code at : ℕ) (tree : List ℕ) {most room : ℕ} {r : Written} {lent : List ℕ} → (code ≡ 0 → ⊥) → most ≤ 77
    → WrittenText most (printed code at 0 0 tree) room r lent → WrittenText 77 (printed code at 0 0 []) room r lent
refusal_written code at tree some p h = written_as (refusal_lines code at 0 0 tree [] some) p h

-- what was written of a text is what `printing` gives, in answer and bytes, and so many bytes are enough
abbrev pub AsPrinted : (most : ℕ) → (text : List ℕ) → (room : ℕ) → Written → List ℕ → Type 0
AsPrinted most text room r lent = (record { answer = r; bytes = lent } ≡ printing room text) × (most ≤ room → r ≡ Ok (length text))

pub as_printed : {most room : ℕ} {r : Written} {lent text text' : List ℕ} → text' ≡ text → WrittenText most text room r lent → AsPrinted most text' room r lent
as_printed {room = room} e h = (
  rw e (ap₂ (λ (a : Written) (b : List ℕ). record { answer = a; bytes = b }) h.answer h.bytes),
  λ p. rw e (h.enough p),
)

module _ (f : Layout) (of : List ℕ → List ℕ) (other : (code at : ℕ) → List ℕ) (most : ℕ) (file out : List ℕ) (space : ℕ) (r : Written) where
  pub words_printed : (lent : List ℕ) (room count : ℕ) → Answered f file room lent (Ok count) → WrittenText most (of (take count lent)) space r out
      → AsPrinted most (file_text of other (reading f file)) space r out
  unfolding file_text
  words_printed lent room count h written =
      as_printed (rw (accepted_reads f file h.0 h.1) (ap of (sym (words_read f file lent room count h)))) written

  refusal_printed : (code at : ℕ) → Refusal f file code at → WrittenText most (other code at) space r out → AsPrinted most (file_text of other (reading f file)) space r out
  unfolding file_text
  refusal_printed code at h written = as_printed (rw (refusal_refuses f file code at h) refl) written

  -- into so many words, a reading fails by a refusal alone
  pub error_printed : (lent : List ℕ) (room : ℕ) (error : ReadError) → 16384 ≤ room → Answered f file room lent (Err error)
      → WrittenText most (other (code_of error) (place_of error)) space r out → AsPrinted most (file_text of other (reading f file)) space r out
  error_printed lent room error p h = refusal_printed (code_of error) (place_of error) (room_enough f file lent room error p h)

-- ---- the text with no reader in it

module _ (f : Layout) (of : List ℕ → List ℕ) (other : (code at : ℕ) → List ℕ) (file : List ℕ) where
  words_text : (t u : List ℕ) → PrintsWords f of file t → PrintsWords f of file u → t ≡ u
  words_text t u p q = p.lines ∙ ap of (good_one f file p.words q.words p.accepted.good q.accepted.good) ∙ sym q.lines

  refusal_text : (t u : List ℕ) → PrintsRefusal f other file t → PrintsRefusal f other file u → t ≡ u
  refusal_text t u p q =
      let e = refusal_one f file p.code q.code p.at q.at p.refusal q.refusal in
      p.lines ∙ ap₂ other e.0 e.1 ∙ sym q.lines

  not_both : (t u : List ℕ) → PrintsWords f of file t → PrintsRefusal f other file u → ⊥
  not_both t u p q = refusal_accepted f file p.words q.code q.at q.refusal p.accepted

  -- a file prints one text
  pub prints_one : (t u : List ℕ) → Prints f of other file t → Prints f of other file u → t ≡ u
  prints_one t u p q =
      ⊎_elim
      (λ a. ⊎_elim (λ b. words_text t u a b) (λ b. absurd (not_both t u a b)) q)
      (λ a. ⊎_elim (λ b. absurd (not_both u t b a)) (λ b. refusal_text t u a b) q)
      p

  -- and it is the text of what the file reads as
  pub file_prints : Prints f of other file (file_text of other (reading f file))
  unfolding file_text
  file_prints = by (reading f file) (reading_says f file)
    where
      by : (r : Reading) → Says f file r → Prints f of other file (file_text of other r)
      by (reads words) s = inl (record { words = words; accepted = s; lines = refl })
      by (refuses code at) s = inr (record { code = code; at = at; refusal = s; lines = refl })
