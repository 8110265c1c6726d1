-- Laws of the answers: from the form to the good files, and that there is one answer.
use mathlib.Core.Path.{◌≡◌, refl, sym, ap, ◌∙◌}
use mathlib.Core.Bool.{Bool, true, false}
use mathlib.Core.List.{List, [], ◌∷◌, ◌++◌, append_assoc}
use mathlib.Core.Logic.{⊎_elim}
use Rattle.std.specs.Prelude.{Ok, Err}
use Prim.Native.Nat.{ℕ, ◌+◌, ◌-◌, ◌*◌, ◌≤◌, ◌<◌}
use native.Mathlib.Omega.{arith}
use lib.Dec.{ltb}
use lib.ListN.{length, take, drop, length-append}
use lib.Seq.{take-add}
use borrow.Author.Tests.{ltb-true, ltb-false}
use Rattle.text.specs.Line.{line, lines, flat}
use Rattle.text.specs.Layout.{Layout}
use Rattle.text.specs.File.{Good, Viable, Refused}
use Rattle.text.specs.Lent.{padded}
use Rattle.text.specs.Form.{whole}
use Rattle.text.specs.Steps.{Stopped}
use Rattle.text.specs.Answer.{Answer, Refusal, Accepted, Fails, Answered, code_of, place_of}
use Rattle.text.specs.declared.read.ReadError.{ReadError}
use Rattle.text.specs.declared.read.ReadError.TheVariants.{TooLong, NotInForm, NoRoom}
use Rattle.text.proofs.DecimalLaws.{decimal_some}
use Rattle.text.proofs.FormLaws.{good_text, text_good, text_one}

pub stopped_refused : (f : Layout) (file : List ℕ) (at : ℕ) → Stopped (whole f) file at → Refused f file at
stopped_refused f file at h = record {
  within = h.within;
  viable = record { rest = h.rest; words = h.words; good = text_good f _ _ h.viable };
  no_further = λ p v. h.no_further p v.rest v.words (good_text f _ _ v.good);
  not_good = λ words g. h.not_good words (good_text f file words g);
}

-- ---- one answer

-- one good file has one reading
pub good_one : (f : Layout) (file us vs : List ℕ) → Good f file us → Good f file vs → us ≡ vs
good_one f file us vs g h = text_one (whole f) file us vs (good_text f file us g) (good_text f file vs h)

viable_shorter : (f : Layout) (file : List ℕ) (i j : ℕ) → i ≤ j → Viable f (take j file) → Viable f (take i file)
viable_shorter f file i j p v =
    let k : j ≡ i + (j - i) = omega arith in
    let e : take j file ++ v.rest ≡ take i file ++ (take (j - i) (drop i file) ++ v.rest) =
    ap (λ (n : ℕ). take n file ++ v.rest) k ∙ rw (take-add i (j - i) file) (append_assoc (take i file) (take (j - i) (drop i file)) v.rest) in
    record { rest = take (j - i) (drop i file) ++ v.rest; words = v.words; good = rw e at v.good }

not_before : (f : Layout) (file : List ℕ) (i j : ℕ) → Refused f file i → Refused f file j → i < j → ⊥
not_before f file i j r s p = r.no_further (omega (arith, s.within)) (viable_shorter f file (i + 1) j (omega arith) s.viable)

-- a file is refused at one place
pub refused_one : (f : Layout) (file : List ℕ) (i j : ℕ) → Refused f file i → Refused f file j → i ≡ j
refused_one f file i j r s = refused_by (ltb i j) refl (ltb j i) refl
  where
    refused_by : (a : Bool) → ltb i j ≡ a → (b : Bool) → ltb j i ≡ b → i ≡ j
    refused_by true e b g = absurd (not_before f file i j r s (ltb-true i j e))
    refused_by false e true g = absurd (not_before f file j i s r (ltb-true j i g))
    refused_by false e false g = omega (arith, ltb-false i j e, ltb-false j i g)

-- a file that is refused is not accepted
pub refusal_accepted : (f : Layout) (file words : List ℕ) (code at : ℕ) → Refusal f file code at → Accepted f file words → ⊥
refusal_accepted f file words code at r a = ⊎_elim (λ w. omega (arith, w.2, a.short)) (λ w. w.2.not_good words a.good) r

pub refusal_one : (f : Layout) (file : List ℕ) (code code' at at' : ℕ) → Refusal f file code at → Refusal f file code' at' → (code ≡ code') × (at ≡ at')
refusal_one f file code code' at at' r s =
    ⊎_elim
    (λ w. ⊎_elim (λ v. (w.0 ∙ sym v.0, w.1 ∙ sym v.1)) (λ v. absurd (omega (arith, w.2, v.1))) s)
    (λ w. ⊎_elim (λ v. absurd (omega (arith, w.1, v.2))) (λ v. (w.0 ∙ sym v.0, refused_one f file at at' w.2 v.2)) s)
    r

module _ (f : Layout) (file : List ℕ) (room : ℕ) where
  -- a file that is accepted and has so many words does not fail
  accepted_fails : (error : ReadError) (words : List ℕ) → Accepted f file words → length words ≤ room → Fails f file room error → ⊥
  accepted_fails TooLong words a p h = refusal_accepted f file words 51 0 h a
  accepted_fails (NotInForm at) words a p h = refusal_accepted f file words 50 at h a
  accepted_fails NoRoom words a p h = omega (arith, p, h.2, ap (λ (w : List ℕ). length w) (good_one f file h.0 words h.1.good a.good))

  -- a reading fails for one reason
  fails_one : (a b : ReadError) → Fails f file room a → Fails f file room b → a ≡ b
  fails_one TooLong TooLong h g = refl
  fails_one TooLong (NotInForm at) h g = absurd (omega (arith, (refusal_one f file 51 50 0 at h g).0))
  fails_one TooLong NoRoom h g = absurd (refusal_accepted f file g.0 51 0 h g.1)
  fails_one (NotInForm at) TooLong h g = absurd (omega (arith, (refusal_one f file 50 51 at 0 h g).0))
  fails_one (NotInForm at) (NotInForm at') h g = ap NotInForm (refusal_one f file 50 50 at at' h g).1
  fails_one (NotInForm at) NoRoom h g = absurd (refusal_accepted f file g.0 50 at h g.1)
  fails_one NoRoom TooLong h g = absurd (refusal_accepted f file h.0 51 0 g h.1)
  fails_one NoRoom (NotInForm at) h g = absurd (refusal_accepted f file h.0 50 at g h.1)
  fails_one NoRoom NoRoom h g = refl

-- a reading has one answer, and leaves one content in the lent words
pub answered_one : (f : Layout) (file : List ℕ) (room : ℕ) (l m : List ℕ) (a b : Answer) → Answered f file room l a → Answered f file room m b → (a ≡ b) × (l ≡ m)
answered_one f file room l m (Ok n) (Ok k) h g =
    let e = good_one f file h.0 g.0 h.1.good g.1.good in
    (ap Ok (sym h.2 ∙ ap (λ (w : List ℕ). length w) e ∙ g.2), h.4 ∙ ap (λ (w : List ℕ). padded room w) e ∙ sym g.4)
answered_one f file room l m (Ok n) (Err error) h g = absurd (accepted_fails f file room error h.0 h.1 (omega (arith, h.2, h.3)) g.0)
answered_one f file room l m (Err error) (Ok n) h g = absurd (accepted_fails f file room error g.0 g.1 (omega (arith, g.2, g.3)) h.0)
answered_one f file room l m (Err error) (Err error') h g = (ap Err (fails_one f file room error error' h.0 g.0), h.1 ∙ sym g.1)

-- ---- room

line_room : (ns : List ℕ) → length ns * 2 ≤ length (line ns)
unfolding line
line_room [] = omega arith
line_room (n ∷ ns) = simp length-append (omega (arith, line_room ns, decimal_some n))

lines_room : (rows : List (List ℕ)) → length (flat rows) * 2 ≤ length (lines rows)
unfolding lines flat
lines_room [] = omega arith
lines_room (row ∷ rows) = simp length-append (omega (arith, line_room row, lines_room rows))

-- each word takes at least two bytes, so 16,384 lent words are enough for any file that is short enough
pub good_room : (f : Layout) (file words : List ℕ) → Good f file words → length words * 2 ≤ length file
good_room f file words g =
    let t = g.tables in
    rw (g.text, g.word) (simp length-append (omega (
      arith,
      line_room t.head,
      lines_room t.blocks,
      lines_room t.instructions,
      lines_room t.cases,
      lines_room t.places,
      lines_room t.identifiers,
    )))

-- so a reading into so many fails by a refusal alone, which has the error's number and place
pub room_enough : (f : Layout) (file lent : List ℕ) (room : ℕ) (error : ReadError) → 16384 ≤ room → Answered f file room lent (Err error)
    → Refusal f file (code_of error) (place_of error)
room_enough f file lent room TooLong p h = h.0
room_enough f file lent room (NotInForm at) p h = h.0
room_enough f file lent room NoRoom p h = absurd (omega (arith, good_room f file h.0.0 h.0.1.good, h.0.1.short, h.0.2))
