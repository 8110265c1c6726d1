-- What a file reads as is the one answer that `Answer` allows.
use mathlib.Core.Path.{◌≡◌, refl, sym, ap, ap₂, subst, ◌∙◌}
use mathlib.Core.Bool.{Bool, true, false, ◌&&◌}
use mathlib.Core.List.{List, [], ◌∷◌, ◌++◌}
use mathlib.Core.Logic.{inl, inr, ⊎_elim}
use Rattle.std.specs.Prelude.{Ok, Err}
use Rattle.std.specs.Result.{result_unwrap_or}
use Prim.Native.Nat.{ℕ, suc, ◌+◌, ◌-◌, ◌*◌, ◌^◌, ◌≤◌, ◌<◌}
use native.Mathlib.Omega.{arith}
use native.Mathlib.Numerals.{add-one}
use lib.Dec.{eqb, leb, ltb}
use lib.ListN.{length, take, drop, get_or, length-drop, replicate}
use lib.Seq.{drop-cons}
use borrow.Author.Tests.{eqb-true, eqb-false, leb-true, leb-false, ltb-true, ltb-false}
use Rattle.text.specs.Layout.{Layout}
use Rattle.text.specs.Form.{Form, finished, byte, field, digits, ending, whole, Text}
use Rattle.text.specs.Steps.{Reached, Stopped, WordsStored}
use Rattle.text.specs.Answer.{Answer, Accepted, Refusal, Answered, code_of, place_of}
use Rattle.text.specs.Lent.{padded}
use Rattle.text.specs.Reading.{Reading, reads, refuses, Next, on, stuck, is_digit, may_follow, next_of, ended, read_from, reading, WordsRead, error_of, read_into}
use Rattle.text.specs.declared.read.ReadError.TheVariants.{NoRoom}
use Rattle.text.proofs.StepLaws.{Step, advance, halt, halt_short, reached_none, finished_good, ending_low, true_false}
use Rattle.text.proofs.FormLaws.{text_good}
use Rattle.text.proofs.AnswerLaws.{stopped_refused, good_one, refusal_one, refusal_accepted, answered_one}
use Rattle.text.proofs.LentLaws.{cleared_zeros, cleared_padded}

-- ---- tests

and_true : (a b : Bool) → a && b ≡ true → (a ≡ true) × (b ≡ true)
and_true true b e = (refl, e)
and_true false b e = absurd (true_false (sym e))

pub digit_is : (c : ℕ) → is_digit c ≡ true → (48 ≤ c) × (c ≤ 57)
unfolding is_digit
digit_is c e = let (low, high) = and_true (leb 48 c) (leb c 57) e in (leb-true 48 c low, leb-true c 57 high)

pub no_digit : (c : ℕ) → is_digit c ≡ false → (d : ℕ) → d < 10 → c ≡ 48 + d → ⊥
unfolding is_digit
no_digit c e d p q = by (leb 48 c) refl (leb c 57) refl e
  where
    by : (a : Bool) → leb 48 c ≡ a → (b : Bool) → leb c 57 ≡ b → a && b ≡ false → ⊥
    by true f true g e = true_false e
    by true f false g e = omega (arith, leb-false c 57 g)
    by false f b g e = omega (arith, leb-false 48 c f)

pub follows_is : (v c : ℕ) → may_follow v c ≡ true → (48 ≤ c) × (c ≤ 57) × (0 < v) × (v * 10 + (c - 48) < 2 ^ 32)
unfolding may_follow
follows_is v c e =
    let (digit, more) = and_true (is_digit c) _ e in
    let (led, fits) = and_true (ltb 0 v) _ more in
    let shown = digit_is c digit in
    (shown.0, shown.1, ltb-true 0 v led, ltb-true _ 4294967296 fits)

pub no_follower : (v c : ℕ) → may_follow v c ≡ false → (d : ℕ) → d < 10 → c ≡ 48 + d → 0 < v → v * 10 + d < 2 ^ 32 → ⊥
unfolding may_follow
no_follower v c e d p q r s = by (is_digit c) refl (ltb 0 v) refl (ltb (v * 10 + (c - 48)) 4294967296) refl e
  where
    by : (a : Bool) → is_digit c ≡ a → (l : Bool) → ltb 0 v ≡ l → (f : Bool) → ltb (v * 10 + (c - 48)) 4294967296 ≡ f → a && (l && f) ≡ false → ⊥
    by false i l j f k e = no_digit c i d p q
    by true i false j f k e = omega (arith, ltb-false 0 v j)
    by true i true j false k e = omega (arith, ltb-false (v * 10 + (c - 48)) 4294967296 k)
    by true i true j true k e = true_false e

-- ---- one byte

-- a byte's claim on a form: it leads on, or no text of the form begins with it
abbrev Claimed : Form → ℕ → Next → Type 0
Claimed form c (on new rest) = Step form c new rest
Claimed form c stuck = (bytes all : List ℕ) → Text form (c ∷ bytes) all → ⊥

next_claimed : (form : Form) (c : ℕ) → Claimed form c (next_of form c)
unfolding next_of Text
next_claimed finished c = λ bytes all t. t
next_claimed (byte b rest) c = by (eqb c b) refl
  where
    by : (same : Bool) → eqb c b ≡ same → Claimed (byte b rest) c (elim same [ true ↦ on [] rest | false ↦ stuck ])
    by true e = record { sound = λ bytes more t. (eqb-true c b e, t); only = λ bytes all t. (all, refl, t.1) }
    by false e = λ bytes all t. eqb-false c b e t.0
next_claimed (field last rest) c = by (is_digit c) refl
  where
    by : (digit : Bool) → is_digit c ≡ digit → Claimed (field last rest) c (elim digit [ true ↦ on [] (digits (c - 48) last rest) | false ↦ stuck ])
    by true e =
        let shown = digit_is c e in
        record {
          sound = λ bytes more t. (c - 48, omega (arith, shown), omega (arith, shown), t);
          only = λ bytes all t.
              let same : t.0 ≡ c - 48 = omega (arith, t.2) in
              (all, refl, subst (λ (k : ℕ). Text (digits k last rest) bytes all) same t.3);
        }
    by false e = λ bytes all t. no_digit c e t.0 t.1 t.2
next_claimed (digits v last rest) c = by (eqb c (ending last)) refl (may_follow v c) refl
  where
    by : (ends : Bool) → eqb c (ending last) ≡ ends → (follows : Bool) → may_follow v c ≡ follows
        → Claimed (digits v last rest) c (elim ends [
          | true ↦ on (v ∷ []) (rest v)
          | false ↦ elim follows [ true ↦ on [] (digits (v * 10 + (c - 48)) last rest) | false ↦ stuck ]
        ])
    by true e follows f = record {
      sound = λ bytes more t. inl (eqb-true c (ending last) e, (more, refl, t));
      only = λ bytes all t.
          ⊎_elim
          (λ w. (w.1.0, w.1.1, w.1.2))
          (λ w. absurd (omega (arith, w.2, eqb-true c (ending last) e, ending_low last)))
          t;
    }
    by false e true f =
        let shown = follows_is v c f in
        record {
          sound = λ bytes more t. inr (c - 48, omega (arith, shown), omega (arith, shown), shown.2, shown.3, t);
          only = λ bytes all t.
              ⊎_elim
              (λ w. absurd (eqb-false c (ending last) e w.0))
              (λ w.
              let same : w.0 ≡ c - 48 = omega (arith, w.2) in
              (all, refl, subst (λ (k : ℕ). Text (digits (v * 10 + k) last rest) bytes all) same w.5))
              t;
        }
    by false e false f = λ bytes all t. ⊎_elim (λ w. eqb-false c (ending last) e w.0) (λ w. no_follower v c f w.0 w.1 w.2 w.3 w.4) t

-- ---- all bytes

abbrev Given : Form → List ℕ → Reading → Type 0
Given root file (reads words) = Text root file words
Given root file (refuses code at) = (code ≡ 50) × Stopped root file at

-- the byte at a place, and those behind it
record Here (file : List ℕ) (at c : ℕ) (bytes : List ℕ) : Type 0 where
  inside : at < length file
  byte : get_or file at 0 ≡ c
  behind : drop (at + 1) file ≡ bytes

here : (file : List ℕ) (at c : ℕ) (bytes : List ℕ) → drop at file ≡ c ∷ bytes → Here file at c bytes
here file at c bytes e =
    let l : length file - at ≡ suc (length bytes) = sym (length-drop at file) ∙ ap (λ (l : List ℕ). length l) e in
    let inside : at < length file = omega arith in
    let split : c ∷ bytes ≡ get_or file at 0 ∷ drop (suc at) file = sym e ∙ drop-cons file at 0 inside in
    record {
      inside = inside;
      byte = sym (ap (λ (l : List ℕ). get_or l 0 0) split);
      behind = rw (add-one at) (sym (ap (λ (l : List ℕ). drop 1 l) split));
    }

module _ {root : Form} (file : List ℕ) where
  ended_given : (form : Form) (at : ℕ) (words : List ℕ) → Reached root file at words form → at ≡ length file → Given root file (ended form at words)
  unfolding ended Text
  ended_given finished at words h e = finished_good file at words h e
  ended_given (byte b rest) at words h e = (refl, halt_short file at words (byte b rest) h e (λ all t. t))
  ended_given (field last rest) at words h e = (refl, halt_short file at words (field last rest) h e (λ all t. t))
  ended_given (digits v last rest) at words h e = (refl, halt_short file at words (digits v last rest) h e (λ all t. t))

  read_given : (bytes : List ℕ) (form : Form) (at : ℕ) (words : List ℕ) → Reached root file at words form → at ≤ length file → drop at file ≡ bytes
      → Given root file (read_from form bytes at words)
  unfolding read_from
  read_given [] form at words h p e =
      let l : length file - at ≡ 0 = sym (length-drop at file) ∙ ap (λ (l : List ℕ). length l) e in
      ended_given form at words h (omega arith)
  read_given (c ∷ bytes) form at words h p e = by (next_of form c) (next_claimed form c) (λ rest new. read_given bytes rest (at + 1) (words ++ new))
    where
      place : Here file at c bytes
      place = here file at c bytes e

      by : (next : Next) → Claimed form c next
          → ((rest : Form) (new : List ℕ) → Reached root file (at + 1) (words ++ new) rest → at + 1 ≤ length file → drop (at + 1) file ≡ bytes
          → Given root file (read_from rest bytes (at + 1) (words ++ new)))
          → Given root file (elim next [ on new rest ↦ read_from rest bytes (at + 1) (words ++ new) | stuck ↦ refuses 50 at ])
      by (on new rest) step more =
          more rest new (advance file at words form h place.inside new rest (rw place.byte step)) (omega (arith, place.inside)) place.behind
      by stuck never more = (refl, halt file at words form h place.inside (rw place.byte never))

-- ---- the file

-- what a reading says of a file, in the words of `Answer`
abbrev pub Says : Layout → List ℕ → Reading → Type 0
Says f file (reads words) = Accepted f file words
Says f file (refuses code at) = Refusal f file code at

said : (f : Layout) (file : List ℕ) (r : Reading) → length file ≤ 32768 → Given (whole f) file r → Says f file r
said f file (reads words) p t = record { short = p; good = text_good f file words t }
said f file (refuses code at) p t = inr (t.0, p, stopped_refused f file at t.1)

-- the reading is right
pub reading_says : (f : Layout) (file : List ℕ) → Says f file (reading f file)
unfolding reading
reading_says f file = by (ltb 32768 (length file)) refl
  where
    by : (long : Bool) → ltb 32768 (length file) ≡ long → Says f file (elim long [ true ↦ refuses 51 0 | false ↦ read_from (whole f) file 0 [] ])
    by true e = inl (refl, refl, ltb-true 32768 (length file) e)
    by false e = said f file (read_from (whole f) file 0 []) (ltb-false 32768 (length file) e) (read_given file file (whole f) 0 [] (reached_none file) (omega arith) refl)

-- and nothing else is
pub says_one : (f : Layout) (file : List ℕ) (r s : Reading) → Says f file r → Says f file s → r ≡ s
says_one f file (reads us) (reads vs) p q = ap reads (good_one f file us vs p.good q.good)
says_one f file (reads us) (refuses code at) p q = absurd (refusal_accepted f file us code at q p)
says_one f file (refuses code at) (reads vs) p q = absurd (refusal_accepted f file vs code at p q)
says_one f file (refuses code at) (refuses code' at') p q = let e = refusal_one f file code code' at at' p q in ap₂ refuses e.0 e.1

pub accepted_reads : (f : Layout) (file words : List ℕ) → Accepted f file words → reading f file ≡ reads words
accepted_reads f file words a = says_one f file (reading f file) (reads words) (reading_says f file) a

pub refusal_refuses : (f : Layout) (file : List ℕ) (code at : ℕ) → Refusal f file code at → reading f file ≡ refuses code at
refusal_refuses f file code at r = says_one f file (reading f file) (refuses code at) (reading_says f file) r

-- ---- the answer, and the lent words

-- the error of a refusal has its number and its place
pub error_numbers : {f : Layout} {file : List ℕ} {code at : ℕ} → Refusal f file code at → (code_of (error_of code at) ≡ code) × (place_of (error_of code at) ≡ at)
error_numbers {code = code} {at = at} h = ⊎_elim (λ w. rw w.0 (refl, sym w.1)) (λ w. rw w.0 (refl, refl)) h

-- what the file reads as is allowed: `Answered` says it with no reader
module _ (f : Layout) (file : List ℕ) (room : ℕ) where
  abbrev Allowed : WordsRead → Type 0
  Allowed w = Answered f file room w.lent w.answer

  allowed : (r : Reading) → Says f file r → Allowed (read_into room r)
  unfolding read_into
  allowed (reads words) s = by (leb (length words) room) refl
    where
      by : (fits : Bool) → leb (length words) room ≡ fits
          → Allowed (elim fits [
            | true ↦ record { answer = Ok (length words); lent = padded room words }
            | false ↦ record { answer = Err NoRoom; lent = replicate room 0 }
          ])
      by true e = (words, s, refl, leb-true (length words) room e, refl)
      by false e = ((words, s, omega (arith, leb-false (length words) room e)), refl)
  allowed (refuses code at) s = ⊎_elim (λ w. rw w.0 (inl (refl, refl, w.2), refl)) (λ w. rw w.0 (inr (refl, w.1, w.2), refl)) s

  pub is_answered : {a : Answer} {lent : List ℕ} → record { answer = a; lent = lent } ≡ read_into room (reading f file) → Answered f file room lent a
  is_answered e = subst Allowed (sym e) (allowed (reading f file) (reading_says f file))

  -- and nothing else is
  pub answered_read : {a : Answer} {lent : List ℕ} → Answered f file room lent a → record { answer = a; lent = lent } ≡ read_into room (reading f file)
  answered_read {a} {lent} h =
      let read = read_into room (reading f file) in
      let same = answered_one f file room lent read.lent a read.answer h (allowed (reading f file) (reading_says f file)) in
      ap₂ (λ (answer : Answer) (lent : List ℕ). record { answer = answer; lent = lent }) same.0 same.1

-- ---- the words stored, and the rest cleared

pub stored_answered : (f : Layout) (file : List ℕ) (room from : ℕ) (answer : Answer) (stored lent : List ℕ) → WordsStored f file answer stored → length stored ≡ room
    → from ≡ result_unwrap_or answer 0 → lent ≡ take from stored ++ replicate (length stored - from) 0 → Answered f file room lent answer
stored_answered f file room from (Ok count) stored lent (words, good, holds, fits) e k cleared =
    (words, good, holds.counted, omega (arith, e, fits), cleared_padded stored lent words count room e holds fits (rw k at cleared))
stored_answered f file room from (Err error) stored lent h e k cleared = (rw e at h, cleared_zeros stored lent room e (rw k at cleared))
