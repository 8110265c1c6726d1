-- What the value walk's own refusals mean, by paper 01's numbers and places; and the definition's refusals.
use Rattle.std.specs.Prelude.{ℕ}
use Rattle.definition.specs.Result.{Result, refused, maybe_throw_in_value_terminal}
use Rattle.values.specs.declared.refusal.Refusal.{Refusal}
use Rattle.values.specs.declared.refusal.Refusal.TheVariants.{MissingBlock, FallthroughReached, EmptyGoto, TestNotEndedByBranch, LabelInValueBlock}
use Rattle.values.specs.declared.refusal.Refusal.TheVariants.{OtherKindInValueBlock, NoInstruction, TooDeep, TooManyVisits, MaybeThrowInValueTerminal}
use Rattle.values.specs.declared.refusal.Refused.{Refused}

-- "10 missing block (named); 23 value fallthrough reached (named); 24 empty Goto value block (named); 25 test not ended by Branch; 26 Label, 27 another
-- kind, in a value block; 28 as above", with no instruction; "30 depth, 31 visits"
abbrev pub code_of : Refusal → ℕ
code_of (MissingBlock at) = 10
code_of (FallthroughReached at) = 23
code_of (EmptyGoto at) = 24
code_of (TestNotEndedByBranch at) = 25
code_of (LabelInValueBlock at) = 26
code_of (OtherKindInValueBlock at) = 27
code_of (NoInstruction at) = 28
code_of (TooDeep at) = 30
code_of (TooManyVisits at) = 31
code_of (MaybeThrowInValueTerminal at) = maybe_throw_in_value_terminal

-- "At is the block named; else the innermost block still being visited"; at 30 and 31 "the block not visited"
abbrev pub place_of : Refusal → ℕ
place_of (MissingBlock at) = at
place_of (FallthroughReached at) = at
place_of (EmptyGoto at) = at
place_of (TestNotEndedByBranch at) = at
place_of (LabelInValueBlock at) = at
place_of (OtherKindInValueBlock at) = at
place_of (NoInstruction at) = at
place_of (TooDeep at) = at
place_of (TooManyVisits at) = at
place_of (MaybeThrowInValueTerminal at) = at

abbrev pub refused_after : Refusal → (visits : ℕ) → Refused
refused_after refusal visits = record { refusal = refusal; visits = visits }

-- the definition's refusal
abbrev pub refused_by : {A : Type 0} → Refused → Result A
refused_by e = refused (code_of e.refusal) (place_of e.refusal) e.visits
