-- What proofs/State, proofs/Structure, proofs/Formed and proofs/Law need of the check of a table's words: proofs/Checked proves it of every table accepted there.
use mathlib.Core.Path.{◌≡◌}
use Prim.Native.Nat.{ℕ, ◌≤◌, ◌<◌}
use mathlib.Core.Option.{some}
use lib.ListN.{length}
use Rattle.table.specs.Words.{largest}
use Rattle.table.specs.Table.{Table, try, terminal_at}
use Rattle.definition.specs.Plain.{fallthrough_of}

pub record Ranged (t : Table) : Type 0 where
  pub few : length t.blocks ≤ 1024
  pub fallthroughs : (b f : ℕ) → fallthrough_of (terminal_at t b) ≡ some f → f < length t.blocks
  -- 65,535 is written for none, and is no place
  pub bindings : (b block handler fallthrough n : ℕ) → terminal_at t b ≡ try block handler fallthrough (some n) → n < largest
