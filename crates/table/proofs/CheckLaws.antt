-- The whole check: its refusals in the paper's order, and what it says of the counts.
use Prim.Native.Nat.{ℕ, zero, suc, ◌+◌, ◌<◌, ◌≤◌}
use mathlib.Core.Path.{◌≡◌, refl}
use mathlib.Core.List.{List, [], ◌∷◌}
use mathlib.Core.Bool.{Bool, true, false}
use native.Mathlib.Omega.{arith}
use lib.ListN.{length, get_or}
use lib.Dec.{leb}
use borrow.Author.Tests.{lt-ltb, le-ltb, le-leb, eq-eqb, ne_eqb, leb-true}
use Rattle.table.specs.Words.{word, entry_word, block_count, instruction_count, case_count, place_count, identifier_count, words_needed}
use Rattle.table.specs.Check.{accepted, refused, limits, counts_verdict, words_verdict, checked}
use Rattle.table.specs.Promise.{Limited}

module _ (ws : List ℕ) where
  -- accepted counts are within their limits
  pub counts_within : (at : ℕ) (limits : List ℕ) → counts_verdict ws at limits ≡ accepted → (k : ℕ) → k < length limits → word ws (at + k) ≤ get_or limits k 0
  unfolding counts_verdict
  counts_within at [] h k l = absurd (omega arith)
  counts_within at (limit ∷ limits) h k l = go (leb (word ws at) limit) refl h (counts_within (suc at) limits) k l
    where
      go : (b : Bool) → leb (word ws at) limit ≡ b → elim b [ true ↦ counts_verdict ws (suc at) limits | false ↦ refused 2 at ] ≡ accepted
          → (counts_verdict ws (suc at) limits ≡ accepted → (k : ℕ) → k < length limits → word ws (suc at + k) ≤ get_or limits k 0)
          → (k : ℕ) → k < suc (length limits) → word ws (at + k) ≤ get_or (limit ∷ limits) k 0
      go true e h ih zero l = let z : at + 0 ≡ at = omega arith in rw z (leb-true _ _ e)
      go true e h ih (suc k) l = let z : suc at + k ≡ at + suc k = omega arith in rw (← z) (ih h k (omega arith))
      go false e h ih k l = absurd (let z : ◌≡◌ {A = ℕ} 0 1 = cc in omega arith)

  pub counts_all : (at : ℕ) (limits : List ℕ) → ((k : ℕ) → k < length limits → word ws (at + k) ≤ get_or limits k 0) → counts_verdict ws at limits ≡ accepted
  unfolding counts_verdict
  counts_all at [] h = refl
  counts_all at (limit ∷ limits) h =
      let z : at + 0 ≡ at = omega arith in
      let first : word ws at ≤ limit = rw z at (h 0 (omega arith)) in
      rw (le-leb (word ws at) limit first, counts_verdict) (counts_all (suc at) limits λ k l. (let y : suc at + k ≡ at + suc k = omega arith in rw y (h (suc k) (omega arith))))

  pub limited : 6 ≤ length ws → counts_verdict ws 1 limits ≡ accepted → Limited ws
  unfolding block_count instruction_count case_count place_count identifier_count
  limited h e = record {
    head = h;
    blocks = counts_within 1 limits e 0 (omega arith);
    instructions = counts_within 1 limits e 1 (omega arith);
    cases = counts_within 1 limits e 2 (omega arith);
    places = counts_within 1 limits e 3 (omega arith);
    identifiers = counts_within 1 limits e 4 (omega arith);
  }

  -- ---- the refusals in order

  pub checked_short : length ws < 6 → checked ws ≡ refused 1 0
  unfolding checked
  checked_short h = rw (lt-ltb (length ws) 6 h, checked)

  module _ (long : 6 ≤ length ws) (within : counts_verdict ws 1 limits ≡ accepted) where
    pub checked_length : (length ws ≡ words_needed ws → ⊥) → checked ws ≡ refused 1 0
    unfolding checked
    checked_length f = rw (le-ltb (length ws) 6 long, within, ne_eqb (length ws) (words_needed ws) f, checked)

    module _ (exact : length ws ≡ words_needed ws) where
      pub checked_entry : block_count ws ≤ entry_word ws → checked ws ≡ refused 3 0
      unfolding checked
      checked_entry h = rw (le-ltb (length ws) 6 long, within, eq-eqb (length ws) (words_needed ws) exact, le-ltb (entry_word ws) (block_count ws) h, checked)

      pub checked_words : entry_word ws < block_count ws → checked ws ≡ words_verdict ws
      unfolding checked
      checked_words h = rw (le-ltb (length ws) 6 long, within, eq-eqb (length ws) (words_needed ws) exact, lt-ltb (entry_word ws) (block_count ws) h, checked)
