-- Laws of a reading: a byte that the form takes, and one that it does not.
use mathlib.Core.Path.{◌≡◌, refl, sym, ap, subst, ◌∙◌}
use mathlib.Core.Bool.{Bool, true, false}
use mathlib.Core.List.{List, [], ◌∷◌, ◌++◌, append-nil, append_assoc}
use mathlib.Core.Logic.{inl, inr, ⊎_elim}
use Prim.Native.Nat.{ℕ, suc, ◌+◌, ◌*◌, ◌^◌, ◌<◌}
use native.Mathlib.Omega.{arith}
use native.Mathlib.Numerals.{add-one}
use lib.ListN.{length, take, drop, get_or}
use lib.Seq.{take-suc, take-length, split_at, append_snoc}
use Rattle.text.specs.Form.{Form, finished, byte, field, digits, ending, Text}
use Rattle.text.specs.Steps.{Reached, Stopped}

-- at first all of the file is to come
pub reached_none : {root : Form} (file : List ℕ) → Reached root file 0 [] root
reached_none file = record { sound = λ bytes more t. t; only = λ bytes all t. (all, refl, t) }

-- the form takes the byte c, which completes these words, and goes on as `next`
pub record Step (form : Form) (c : ℕ) (new : List ℕ) (next : Form) : Type 0 where
  pub sound : (bytes more : List ℕ) → Text next bytes more → Text form (c ∷ bytes) (new ++ more)
  pub only : (bytes all : List ℕ) → Text form (c ∷ bytes) all → (more : List ℕ) × (all ≡ new ++ more) × Text next bytes more

-- every form has a text: where a number is wanted, 0
inhabited : (form : Form) → (bytes : List ℕ) × (words : List ℕ) × Text form bytes words
unfolding Text
inhabited finished = ([], [], refl)
inhabited (byte b rest) = let (bytes, words, t) = inhabited rest in (b ∷ bytes, words, (refl, t))
inhabited (field last rest) =
    let (bytes, words, t) = inhabited (rest 0) in
    (48 ∷ ending last ∷ bytes, 0 ∷ words, (0, omega arith, refl, inl (refl, (words, refl, t))))
inhabited (digits v last rest) =
    let (bytes, words, t) = inhabited (rest v) in
    (ending last ∷ bytes, v ∷ words, inl (refl, (words, refl, t)))

module _ {root : Form} (file : List ℕ) (at : ℕ) (words : List ℕ) (form : Form) (h : Reached root file at words form) where
  module _ (inside : at < length file) where
    front : (bytes : List ℕ) → take (at + 1) file ++ bytes ≡ take at file ++ (get_or file at 0 ∷ bytes)
    front bytes = rw (add-one at, take-suc file at 0 inside) (append_snoc (take at file) (get_or file at 0) bytes)

    pub advance : (new : List ℕ) (next : Form) → Step form (get_or file at 0) new next → Reached root file (at + 1) (words ++ new) next
    advance new next s = record {
      sound = λ bytes more t. rw (front bytes, append_assoc words new more) (h.sound (get_or file at 0 ∷ bytes) (new ++ more) (s.sound bytes more t));
      only = λ bytes all t.
          let u = h.only (get_or file at 0 ∷ bytes) all (rw (front bytes) at t) in
          let w = s.only bytes u.0 u.2 in
          (w.0, u.1 ∙ ap (λ (l : List ℕ). words ++ l) w.1 ∙ sym (append_assoc words new w.0), w.2);
    }

    -- a step that completes no word
    advance_in : (next : Form) → Step form (get_or file at 0) [] next → Reached root file (at + 1) words next
    advance_in next s = rw (append-nil words) at (advance [] next s)

    -- the form does not take the byte
    pub halt : ((bytes all : List ℕ) → Text form (get_or file at 0 ∷ bytes) all → ⊥) → Stopped root file at
    halt never =
        let (bytes, more, t) = inhabited form in
        record {
          within = omega arith;
          rest = bytes;
          words = words ++ more;
          viable = h.sound bytes more t;
          no_further = λ p bytes all t. never bytes _ (h.only (get_or file at 0 ∷ bytes) all (rw (front bytes) at t)).2;
          not_good = λ all t. never (drop (suc at) file) _ (h.only (get_or file at 0 ∷ drop (suc at) file) all (rw (split_at file at 0 inside) at t)).2;
        }

  -- the file is at its end, and the form is not
  pub halt_short : at ≡ length file → ((all : List ℕ) → Text form [] all → ⊥) → Stopped root file at
  halt_short end never =
      let (bytes, more, t) = inhabited form in
      let e : file ≡ take at file ++ [] = rw (end, take-length file, append-nil file) in
      record {
        within = omega arith;
        rest = bytes;
        words = words ++ more;
        viable = h.sound bytes more t;
        no_further = λ p bytes all t. absurd (omega arith);
        not_good = λ all t. never _ (h.only [] all (rw e at t)).2;
      }

-- ---- a byte of a line of names

module _ {root : Form} (file : List ℕ) (at : ℕ) (words : List ℕ) (b : ℕ) (next : Form) (h : Reached root file at words (byte b next)) where
  pub byte_taken : at < length file → get_or file at 0 ≡ b → Reached root file (at + 1) words next
  unfolding Text
  byte_taken p e = advance_in file at words (byte b next) h p next (record {
    sound = λ bytes more t. (e, t);
    only = λ bytes all t. (all, refl, t.1);
  })

  pub byte_other : at < length file → (get_or file at 0 ≡ b → ⊥) → Stopped root file at
  unfolding Text
  byte_other p f = halt file at words (byte b next) h p (λ bytes all t. f t.0)

  pub byte_missing : at ≡ length file → Stopped root file at
  unfolding Text
  byte_missing e = halt_short file at words (byte b next) h e (λ all t. t)

-- ---- the first digit of a number

module _ {root : Form} (file : List ℕ) (at : ℕ) (words : List ℕ) (last : Bool) (rest : ℕ → Form) (h : Reached root file at words (field last rest)) where
  pub first_taken : (d : ℕ) → at < length file → d < 10 → get_or file at 0 ≡ 48 + d → Reached root file (at + 1) words (digits d last rest)
  unfolding Text
  first_taken d p q e = advance_in file at words (field last rest) h p (digits d last rest) (record {
    sound = λ bytes more t. (d, q, e, t);
    only = λ bytes all t.
        let same : t.0 ≡ d = omega (arith, t.2, e) in
        (all, refl, subst (λ (k : ℕ). Text (digits k last rest) bytes all) same t.3);
  })

  pub first_other : at < length file → ((d : ℕ) → d < 10 → get_or file at 0 ≡ 48 + d → ⊥) → Stopped root file at
  unfolding Text
  first_other p f = halt file at words (field last rest) h p (λ bytes all t. f t.0 t.1 t.2)

  pub first_missing : at ≡ length file → Stopped root file at
  unfolding Text
  first_missing e = halt_short file at words (field last rest) h e (λ all t. t)

-- ---- after digits of the value v: another digit, or the end

pub ending_low : (last : Bool) → ending last < 48
ending_low true = omega arith
ending_low false = omega arith

module _ {root : Form} (file : List ℕ) (at : ℕ) (words : List ℕ) (v : ℕ) (last : Bool) (rest : ℕ → Form) (h : Reached root file at words (digits v last rest)) where
  pub digit_taken : (d : ℕ) → at < length file → d < 10 → get_or file at 0 ≡ 48 + d → 0 < v → v * 10 + d < 2 ^ 32 → Reached root file (at + 1) words (digits (v * 10 + d) last rest)
  unfolding Text
  digit_taken d p q e r m = advance_in file at words (digits v last rest) h p (digits (v * 10 + d) last rest) (record {
    sound = λ bytes more t. inr (d, q, e, r, m, t);
    only = λ bytes all t.
        ⊎_elim
        (λ w. absurd (omega (arith, w.0, e, ending_low last)))
        (λ w.
        let same : w.0 ≡ d = omega (arith, w.2, e) in
        (all, refl, subst (λ (k : ℕ). Text (digits (v * 10 + k) last rest) bytes all) same w.5))
        t;
  })

  pub end_taken : at < length file → get_or file at 0 ≡ ending last → Reached root file (at + 1) (words ++ (v ∷ [])) (rest v)
  unfolding Text
  end_taken p e = advance file at words (digits v last rest) h p (v ∷ []) (rest v) (record {
    sound = λ bytes more t. inl (e, (more, refl, t));
    only = λ bytes all t.
        ⊎_elim
        (λ w. (w.1.0, w.1.1, w.1.2))
        (λ w. absurd (omega (arith, w.2, e, ending_low last)))
        t;
  })

  -- a byte that is neither the end nor a digit that may follow
  pub digit_other : at < length file → (get_or file at 0 ≡ ending last → ⊥) → ((d : ℕ) → d < 10 → get_or file at 0 ≡ 48 + d → 0 < v → v * 10 + d < 2 ^ 32 → ⊥) → Stopped root file at
  unfolding Text
  digit_other p f g = halt file at words (digits v last rest) h p (λ bytes all t. ⊎_elim (λ w. f w.0) (λ w. g w.0 w.1 w.2 w.3 w.4) t)

  pub digit_missing : at ≡ length file → Stopped root file at
  unfolding Text
  digit_missing e = halt_short file at words (digits v last rest) h e (λ all t. t)

-- ---- the end of the file

module _ {root : Form} (file : List ℕ) (at : ℕ) (words : List ℕ) (h : Reached root file at words finished) where
  pub finished_good : at ≡ length file → Text root file words
  unfolding Text
  finished_good e =
      let f : take at file ++ [] ≡ file = rw (e, take-length file, append-nil file) in
      rw f at (rw (append-nil words) at (h.sound [] [] refl))

  pub finished_more : at < length file → Stopped root file at
  unfolding Text
  finished_more p = halt file at words finished h p (λ bytes all t. t)

-- ---- what reading a number gives

pub true_false : true ≡ false → ⊥
true_false e = let z : ◌≡◌ {A = ℕ} 0 1 = cc in omega arith
