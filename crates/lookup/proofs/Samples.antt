-- The definition on small indexes, by computation.
use Prim.Native.Nat.{ℕ}
use mathlib.Core.Path.{◌≡◌, refl}
use mathlib.Core.List.{List, [], ◌∷◌, map}
use Rattle.lookup.specs.Lookup.{lines_read, first_with, Found, refusal, part_of, found_at, found}

pub record Sample : Type 0 where
  pub index : List ℕ
  pub number : ℕ
  pub label : ℕ
  pub tree : ℕ
  pub answer : Found

abbrev sample : List ℕ → (number label tree : ℕ) → Found → Sample
sample index number label tree answer = record { index = index; number = number; label = label; tree = tree; answer = answer }

abbrev rows : (begin end : ℕ) → Found
rows begin end = record { code = 0; at = 0; begin = begin; end = end }

-- paper 01's while loop with one instruction before it: the WHILE is row 5, its rows begin at row 2
abbrev W : List ℕ
W = 3 ∷ 2 ∷ 5 ∷ []

-- then zeros, as in a lent buffer
abbrev padded : List ℕ
padded = 3 ∷ 2 ∷ 5 ∷ 0 ∷ 0 ∷ 0 ∷ []

abbrev pub samples : List Sample
samples =
    sample W 1 3 48 (rows 12 36)
    -- no line beyond the buffer is read
    ∷ sample W 99 3 48 (rows 12 36)
    ∷ sample W 99 0 48 (refusal 42)
    -- nor one that is partly beyond, nor one beyond the number
    ∷ sample (3 ∷ 2 ∷ []) 1 3 48 (refusal 42)
    ∷ sample [] 1 0 48 (refusal 42)
    ∷ sample W 0 3 48 (refusal 42)
    ∷ sample padded 1 0 48 (refusal 42)
    ∷ sample padded 2 0 48 (rows 0 6)
    -- the closing row is one of the whole rows
    ∷ sample W 1 3 36 (rows 12 36)
    ∷ sample W 1 3 35 (refusal 43)
    ∷ sample W 1 3 0 (refusal 43)
    -- the first line that has the label, even where a later one would do
    ∷ sample (3 ∷ 6 ∷ 5 ∷ 3 ∷ 2 ∷ 5 ∷ []) 2 3 48 (refusal 43)
    ∷ sample (3 ∷ 2 ∷ 5 ∷ 3 ∷ 0 ∷ 0 ∷ []) 2 3 48 (rows 12 36)
    -- any words
    ∷ sample (65535 ∷ 0 ∷ 0 ∷ []) 1 65535 6 (rows 0 6)
    ∷ sample (4294967295 ∷ 4294967295 ∷ 4294967295 ∷ []) 4294967295 4294967295 48 (refusal 43)
    ∷ []

pub the_samples : map (λ s. found s.index s.number s.label s.tree) samples ≡ map (λ s. s.answer) samples
unfolding lines_read first_with part_of found_at found
the_samples = refl
