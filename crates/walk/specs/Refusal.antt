-- The numbers and places of the statement walk's own refusals.
use Rattle.std.specs.Prelude.{ℕ}
use Rattle.definition.specs.Result.{already_scheduled, unschedule_out_of_order}
use Rattle.values.specs.Refusal.{code_of, place_of}
use Rattle.values.specs.declared.refusal.Refused as values
use Rattle.walk.specs.declared.refusal.Refusal.{Refusal}
use Rattle.walk.specs.declared.refusal.Refusal.TheVariants.{MissingBlock, AlreadyEmitted, ConsequentScheduled, AlternateScheduled, CaseScheduled, ContinueBlockScheduled, LoopScheduled, LabelBlockScheduled}
use Rattle.walk.specs.declared.refusal.Refusal.TheVariants.{ScopeBlockScheduled, BranchAlternateScheduled, NoBreakTarget}
use Rattle.walk.specs.declared.refusal.Refusal.TheVariants.{NoContinueTarget, ScopeBreak, NoSuchLabel, TooDeep, TooManyVisits, AlreadyScheduled, UnscheduleOutOfOrder, Value}
use Rattle.walk.specs.declared.refusal.Refused.{Refused}

-- each refusal's number, as docs/FORMAT.md has it; two of them never occur
abbrev pub refusal_code : Refusal → ℕ
refusal_code (MissingBlock _) = 10
refusal_code (AlreadyEmitted _) = 11
refusal_code (ConsequentScheduled _) = 12
refusal_code (AlternateScheduled _) = 13
refusal_code (CaseScheduled _) = 14
refusal_code (ContinueBlockScheduled _) = 15
refusal_code (LoopScheduled _) = 16
refusal_code (LabelBlockScheduled _) = 17
refusal_code (ScopeBlockScheduled _) = 18
refusal_code (BranchAlternateScheduled _) = 19
refusal_code (NoBreakTarget _) = 20
refusal_code (NoContinueTarget _) = 21
refusal_code (ScopeBreak _) = 22
refusal_code (NoSuchLabel _) = 29
refusal_code (TooDeep _) = 30
refusal_code (TooManyVisits _) = 31
refusal_code (AlreadyScheduled _) = already_scheduled
refusal_code UnscheduleOutOfOrder = unschedule_out_of_order
refusal_code (Value refusal) = code_of refusal

-- each refusal's place: the block that is named, else the innermost block still being visited; at 30 and 31 the block that is not visited
abbrev pub refusal_place : Refusal → ℕ
refusal_place (MissingBlock at) = at
refusal_place (AlreadyEmitted at) = at
refusal_place (ConsequentScheduled at) = at
refusal_place (AlternateScheduled at) = at
refusal_place (CaseScheduled at) = at
refusal_place (ContinueBlockScheduled at) = at
refusal_place (LoopScheduled at) = at
refusal_place (LabelBlockScheduled at) = at
refusal_place (ScopeBlockScheduled at) = at
refusal_place (BranchAlternateScheduled at) = at
refusal_place (NoBreakTarget at) = at
refusal_place (NoContinueTarget at) = at
refusal_place (ScopeBreak at) = at
refusal_place (NoSuchLabel at) = at
refusal_place (TooDeep at) = at
refusal_place (TooManyVisits at) = at
refusal_place (AlreadyScheduled at) = at
refusal_place UnscheduleOutOfOrder = 0
refusal_place (Value refusal) = place_of refusal

abbrev pub refused_after : Refusal → (visits : ℕ) → Refused
refused_after refusal visits = record { refusal = refusal; visits = visits }

-- a value's refusal, passed on
abbrev pub refused_value : values.Refused → Refused
refused_value e = refused_after (Value e.refusal) e.visits
