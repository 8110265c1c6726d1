-- Straight ways and chains of Optionals as relations, which proofs/ValueLead and proofs/Structure go along; specs/PlainValue computes them. proofs/ChainsRead has the one
-- from the other.
use mathlib.Core.Path.{◌≡◌}
use Prim.Native.Nat.{ℕ}
use mathlib.Core.List.{List, []}
use mathlib.Core.Bool.{Bool, false}
use Rattle.table.specs.Table.{Table, Variant, goto, branch, optional, maybe_throw, block_at, terminal_at, instruction_rows_at}
use Rattle.definition.specs.Value.{is_empty_goto}
use Rattle.definition.specs.ValueEnds.{seen_rows}
use Rattle.definition.specs.PlainValue.{Asks}

-- a straight way to a Goto to f, with no seen row
pub data Silent (t : Table) (seen_row : ℕ → Bool) : (block to : ℕ) → Type 0 where
  silent_goto : {b f : ℕ} (k : Variant) → terminal_at t b ≡ goto f k → seen_rows seen_row (instruction_rows_at t b) ≡ [] → Silent t seen_row b f
  silent_throw : {b f : ℕ} (n : ℕ) → terminal_at t b ≡ maybe_throw n → seen_rows seen_row (instruction_rows_at t b) ≡ [] → Silent t seen_row n f → Silent t seen_row b f

-- from f over empty MaybeThrows to the empty Branch e
pub data Bare (t : Table) : (f e : ℕ) → Type 0 where
  bare_branch : {f : ℕ} (p c d : ℕ) → terminal_at t f ≡ branch p c d → instruction_rows_at t f ≡ [] → Bare t f f
  bare_throw : {f e : ℕ} (n : ℕ) → terminal_at t f ≡ maybe_throw n → is_empty_goto (block_at t n) ≡ false → instruction_rows_at t f ≡ [] → Bare t n e → Bare t f e

-- the test of the Optional b ends in the Branch e
pub record Owns (t : Table) (e b : ℕ) : Type 0 where
  pub flag : ℕ
  pub test : ℕ
  pub fallthrough : ℕ
  pub holder : ℕ
  pub consequent : ℕ
  pub alternate : ℕ
  pub asks : Asks t b (optional flag test fallthrough) holder e consequent alternate

abbrev pub Unowned : Table → ℕ → Type 0
Unowned t e = (b : ℕ) → Owns t e b → ⊥

-- where the chain of the Optional b ends: the fallthrough of its outermost Optional. It goes on to an Optional whose test is b's value
pub data Exits (t : Table) : (b exit : ℕ) → Type 0 where
  exit_last : {b : ℕ} (flag test f : ℕ) → terminal_at t b ≡ optional flag test f → ((e : ℕ) → Bare t f e → Unowned t e) → Exits t b f
  exit_linked : {b exit : ℕ} (flag test f e b' : ℕ) → terminal_at t b ≡ optional flag test f → Bare t f e → Owns t e b' → Exits t b' exit → Exits t b exit
