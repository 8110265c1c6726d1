-- The conditions on values, of whatever rows are seen: as specs/PlainValue, and the stores at the ends of arms and inits are not seen. proofs/SeenRows has them of
-- the rows that `seen` leaves out. For proofs/ValueLead and proofs/Structure.
use mathlib.Core.Path.{◌≡◌}
use Prim.Native.Nat.{ℕ}
use mathlib.Core.List.{List, []}
use mathlib.Core.Option.{Option, some}
use mathlib.Core.Bool.{Bool, false}
use Rattle.table.specs.Table.{Table, Terminal, for, logical, optional, sequence, terminal_at, instruction_rows_at}
use Rattle.definition.specs.Plain.{fallthrough_of}
use Rattle.definition.specs.ValueEnds.{ends_at, end_of, value_fallthrough, store_at_end, seen_rows}
use Rattle.definition.specs.PlainValue.{is_optional, Asks, GoesTo, NoStore}
use Rattle.definition.proofs.Chains.{Silent, Exits}

-- the value in the block h is no store to an unnamed identifier, or that store is not seen
abbrev pub Quiet : Table → (seen_row : ℕ → Bool) → ℕ → Type 0
Quiet t seen_row h = seen_rows seen_row (store_at_end t (instruction_rows_at t h)) ≡ []

pub record SeenValues (t : Table) (seen_row : ℕ → Bool) : Type 0 where
  -- "an arm ends in a Goto to the fallthrough": a consequent, an alternate but an Optional's, a Sequence's block.
  pub yes_arm : (b : ℕ) (m : Terminal) (h y c d f holder e : ℕ) → Asks t b m h y c d → value_fallthrough m ≡ some f → end_of t c ≡ some (ends_at holder e)
      → GoesTo t e f × Quiet t seen_row holder
  pub no_arm : (b : ℕ) (m : Terminal) (h y c d f holder e : ℕ) → Asks t b m h y c d → is_optional m ≡ false → value_fallthrough m ≡ some f
      → end_of t d ≡ some (ends_at holder e) → GoesTo t e f × Quiet t seen_row holder
  pub block_arm : (b c f holder e : ℕ) → terminal_at t b ≡ sequence c f → end_of t c ≡ some (ends_at holder e) → GoesTo t e f × Quiet t seen_row holder
  -- "a Logical's consequent is straight and has no seen row"
  pub left : (b o x f h y c d : ℕ) → Asks t b (logical o x f) h y c d → Silent t seen_row c f
  -- "an Optional's alternate is straight and its Goto goes to the exit"
  pub no_value : (b o x f h y c d exit : ℕ) → Asks t b (optional o x f) h y c d → Exits t b exit → Silent t seen_row d exit
  pub exits : (b o x f : ℕ) → terminal_at t b ≡ optional o x f → (exit : ℕ) × Exits t b exit
  -- "no test ends in a store to an unnamed identifier"
  pub tests : (b : ℕ) (m : Terminal) (h y c d : ℕ) → Asks t b m h y c d → NoStore t h
  -- "no block is the fallthrough of two blocks"
  pub one_fallthrough : (b b' f : ℕ) → fallthrough_of (terminal_at t b) ≡ some f → fallthrough_of (terminal_at t b') ≡ some f → b ≡ b'

-- "the store of an init is not seen"
pub record SeenInits (t : Table) (seen_row : ℕ → Bool) : Type 0 where
  pub quiet : (block init test : ℕ) (update : Option ℕ) (loop fallthrough h e : ℕ) → terminal_at t block ≡ for init test update loop fallthrough → end_of t init ≡ some (ends_at h e) → Quiet t seen_row h
