-- The walking order: theorems beside the claims `any_renumbering_builds_the_same` and `the_walking_order_can_be_undone`, statements only,
-- each by the lemma that proves it.
use Prim.Native.Nat.{ℕ}
use mathlib.Core.Path.{◌≡◌}
use mathlib.Core.List.{List}
use mathlib.Core.Bool.{true}
use lib.ListN.{length}
use Rattle.std.proofs.Common.{Result}
use contract.Lifetimes.{Lfts}
use denote.Ref.{Bor, MutBor}
use Rattle.table.specs.Words.{entry_word, block_count}
use Rattle.table.specs.Check.{accepted, checked}
use Rattle.table.specs.Table.{table_of}
use Rattle.table.proofs.PromiseLaws.{promised}
use Rattle.definition.specs.Around.{Rule}
use Rattle.definition.specs.Build.{built}
use Rattle.renaming.specs.Renaming.{Renaming, renamed, renamed_outcome}
use Rattle.renaming.specs.Order.{AllNamed, is_permutation, new_number, walking_order, rearranged, rearrangement, restoration}
use Rattle.renaming.proofs.Theorem.{built_renamed}
use Rattle.renaming.proofs.OrderLaws.{walking_order_lem, rearranged_checked, rearranged_entry, rearranged_built, round_trip}
use Rattle.renaming.proofs.Canonical.{one_rearrangement}
use Rattle.order.specs.Entry.{rearranging, restoring}
use Rattle.order.specs.declared.OrderError.{OrderError}
use Rattle.order.proofs.rearrange.Statement as rearrange_stated
use Rattle.order.proofs.rearrange.Met as rearrange_proved
use Rattle.order.proofs.rearrange.Reads as rearrange_entry
use Rattle.order.proofs.restore.Statement as restore_stated
use Rattle.order.proofs.restore.Met as restore_proved
use Rattle.order.proofs.restore.Reads as restore_entry
use Rattle.order.proofs.blocks_rearrange.Statement as export_rearrange_stated
use Rattle.order.proofs.blocks_rearrange.Met as export_rearrange_proved
use Rattle.order.proofs.blocks_rearrange.Reads as export_rearrange
use Rattle.order.proofs.blocks_restore.Statement as export_restore_stated
use Rattle.order.proofs.blocks_restore.Met as export_restore_proved
use Rattle.order.proofs.blocks_restore.Reads as export_restore

-- ---- the entries: for any words and buffers they give what the definitions give, every lent word

pub rearrange_meets_its_contract : {M : Type 1} → rearrange_stated.statement M
rearrange_meets_its_contract = rearrange_proved.met

pub restore_meets_its_contract : {M : Type 1} → restore_stated.statement M
restore_meets_its_contract = restore_proved.met

pub blocks_rearrange_meets_its_contract : {M : Type 1} → export_rearrange_stated.statement M
blocks_rearrange_meets_its_contract = export_rearrange_proved.met

pub blocks_restore_meets_its_contract : {M : Type 1} → export_restore_stated.statement M
blocks_restore_meets_its_contract = export_restore_proved.met

-- three slices: the words, the lent words and list; or (Restored) the words, the list and the lent words. The exports have at too
abbrev pub Lent : Type 0
Lent = Bor (List ℕ) × (MutBor (List ℕ) × (MutBor (List ℕ) × Unit {0}))

abbrev pub LentWithAnswer : Type 0
LentWithAnswer = Bor (List ℕ) × (MutBor (List ℕ) × (MutBor (List ℕ) × (MutBor ℕ × Unit {0})))

abbrev pub Restored : Type 0
Restored = Bor (List ℕ) × (Bor (List ℕ) × (MutBor (List ℕ) × Unit {0}))

abbrev pub RestoredWithAnswer : Type 0
RestoredWithAnswer = Bor (List ℕ) × (Bor (List ℕ) × (MutBor (List ℕ) × (MutBor ℕ × Unit {0})))

pub rearrange_asks_nothing : (κs : Lfts 3) (before : Lent) → rearrange_entry.Asked κs before
rearrange_asks_nothing κs before = tt

pub rearrange_gives_the_definition : (κs : Lfts 3) (before after : Lent) (answer : Result (Unit {0}) OrderError) → rearrange_entry.Learnt κs before answer after
    → rearranging answer after.1.0.now after.1.1.0.now ≡ rearrangement before.0.now (length before.1.0.now) (length before.1.1.0.now)
rearrange_gives_the_definition κs before after answer learnt = learnt

pub restore_asks_nothing : (κs : Lfts 3) (before : Restored) → restore_entry.Asked κs before
restore_asks_nothing κs before = tt

pub restore_gives_the_definition : (κs : Lfts 3) (before after : Restored) (answer : Result (Unit {0}) OrderError) → restore_entry.Learnt κs before answer after
    → restoring answer after.1.1.0.now ≡ restoration before.0.now before.1.0.now (length before.1.1.0.now)
restore_gives_the_definition κs before after answer learnt = learnt

pub blocks_rearrange_asks_nothing : (κs : Lfts 4) (before : LentWithAnswer) → export_rearrange.Asked κs before
blocks_rearrange_asks_nothing κs before = tt

pub blocks_rearrange_gives_the_definition : (κs : Lfts 4) (before after : LentWithAnswer) (code : ℕ) → export_rearrange.Learnt κs before code after
    → record { code = code; at = after.1.1.1.0.now; table = after.1.0.now; list = after.1.1.0.now }
    ≡ rearrangement before.0.now (length before.1.0.now) (length before.1.1.0.now)
blocks_rearrange_gives_the_definition κs before after code learnt = learnt

pub blocks_restore_asks_nothing : (κs : Lfts 4) (before : RestoredWithAnswer) → export_restore.Asked κs before
blocks_restore_asks_nothing κs before = tt

pub blocks_restore_gives_the_definition : (κs : Lfts 4) (before after : RestoredWithAnswer) (code : ℕ) → export_restore.Learnt κs before code after
    → record { code = code; at = after.1.1.1.0.now; table = after.1.1.0.now } ≡ restoration before.0.now before.1.0.now (length before.1.1.0.now)
blocks_restore_gives_the_definition κs before after code learnt = learnt
