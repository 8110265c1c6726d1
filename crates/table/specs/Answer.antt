-- What the check's own answer means, by paper 01's numbers; and the limit that a rule is.
use Rattle.std.specs.Prelude.{ℕ, suc, ◌-◌, List, [], ◌∷◌, Bool, true, false, cond, leb, eqb, get_or, Result, Ok, Err}
use Rattle.table.specs.Words.{word, largest}
use Rattle.table.specs.declared.Refusal.{Refusal}
use Rattle.table.specs.declared.Refusal.TheVariants.{WrongLength, CountOverLimit, EntryOutOfRange, BadWord}
use Rattle.table.specs.Check.{Verdict, accepted, refused, Rule, unused, number, row, row_or_none, rows_from, end_of}

-- "1 under six words, at 0; 2 the first count over its limit, at its word; 1 wrong length, at 0; 3 entry not below the block count, at 0;
-- 4 first bad word, at it"
abbrev pub refusal_code : Refusal → ℕ
refusal_code WrongLength = 1
refusal_code (CountOverLimit _) = 2
refusal_code EntryOutOfRange = 3
refusal_code (BadWord _) = 4

abbrev pub refusal_place : Refusal → ℕ
refusal_place WrongLength = 0
refusal_place (CountOverLimit at) = at
refusal_place EntryOutOfRange = 0
refusal_place (BadWord at) = at

-- of a check that gives a table, or nothing
abbrev pub verdict_of : {A : Type 0} → Result A Refusal → Verdict
verdict_of (Ok _) = accepted
verdict_of (Err refusal) = refused (refusal_code refusal) (refusal_place refusal)

-- "Code (0 accepted), at": the first two words of the result
abbrev pub code_of : Verdict → ℕ
code_of accepted = 0
code_of (refused code _) = code

abbrev pub place_of : Verdict → ℕ
place_of accepted = 0
place_of (refused _ at) = at

abbrev pub is_accepted : Verdict → Bool
is_accepted accepted = true
is_accepted (refused _ _) = false

-- a word fits its rule where it is below this (proofs/RuleLaws.antt, `fits_limit`)
abbrev pub limit : Rule → (word : ℕ) → ℕ
limit unused word = 1
limit (number most) word = suc most
limit (row rows) word = rows
limit (row_or_none rows) word = cond (eqb word largest) (suc largest) rows
limit (rows_from first rows) word = suc rows - first
limit (end_of from) word = cond (leb from word) (suc largest) 0

-- rules for five columns: those not listed are unused
abbrev pub five : List Rule → List Rule
five rules = get_or rules 0 unused ∷ get_or rules 1 unused ∷ get_or rules 2 unused ∷ get_or rules 3 unused ∷ get_or rules 4 unused ∷ []
