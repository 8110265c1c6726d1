-- Beyond the papers: the export `table_plain` tells which run law speaks of a table. It asks nothing of its caller, and what it gives is the check's code and place and
-- the number `plainness_of` of the words (plain/specs/Plainness); so a caller has the law of an accepted table by the number (Loops.antt).
use Prim.Native.Nat.{ℕ}
use mathlib.Core.Path.{◌≡◌}
use mathlib.Core.List.{List}
use contract.Lifetimes.{Lfts}
use denote.Ref.{Bor, MutBor}
use Rattle.table.specs.Check.{checked}
use Rattle.table.specs.Answer.{code_of, place_of}
use Rattle.plain.specs.Plainness.{plainness_of}
use Rattle.plain.proofs.table_plain.Statement as export_stated
use Rattle.plain.proofs.table_plain.Met as export_proved
use Rattle.plain.proofs.table_plain.Reads as export

pub the_plain_export_meets_its_contract : {M : Type 1} → export_stated.statement M
the_plain_export_meets_its_contract = export_proved.met

-- the export's references: the words, at and the number
abbrev pub LentWithNumber : Type 0
LentWithNumber = Bor (List ℕ) × (MutBor ℕ × (MutBor ℕ × Unit {0}))

pub the_plain_export_asks_nothing : (κs : Lfts 3) (before : LentWithNumber) → export.Asked κs before
the_plain_export_asks_nothing κs before = tt

pub the_plain_export_gives_the_definition : (κs : Lfts 3) (before after : LentWithNumber) (code : ℕ) → export.Learnt κs before code after
    → ((code ≡ code_of (checked before.0.now)) × (after.1.0.now ≡ place_of (checked before.0.now))) × (after.1.1.0.now ≡ plainness_of before.0.now)
the_plain_export_gives_the_definition κs before after code learnt = learnt
