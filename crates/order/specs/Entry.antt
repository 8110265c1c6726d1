-- What an answer means by the papers' numbers; and the answers with the lent buffers, as the definition's records.
use Rattle.std.specs.Prelude.{ℕ, List, Result, Ok, Err, length}
use Rattle.table.specs.Answer.{refusal_code, refusal_place}
use Rattle.text.specs.Placed.{answer_code, answer_place}
use Rattle.renaming.specs.Order.{Rearrangement, Restoration, refused_rearrangement, refused_restoration}
use Rattle.order.specs.declared.OrderError.{OrderError}
use Rattle.order.specs.declared.OrderError.TheVariants.{Table, WrongLength, NotAPermutation}

-- "1 to 4 first; 45, at 0, when an output's length isn't just the one needed; 46, at 0, in the inverse, after 45, when the list isn't a permutation of the
-- block numbers"
abbrev pub code_of : OrderError → ℕ
code_of (Table refusal) = refusal_code refusal
code_of WrongLength = 45
code_of NotAPermutation = 46

abbrev pub place_of : OrderError → ℕ
place_of (Table refusal) = refusal_place refusal
place_of WrongLength = 0
place_of NotAPermutation = 0

-- "Code (0 accepted), at"
abbrev pub rearranging : Result (Unit {0}) OrderError → (table list : List ℕ) → Rearrangement
rearranging answer table list = record { code = answer_code code_of answer; at = answer_place place_of answer; table = table; list = list }

abbrev pub restoring : Result (Unit {0}) OrderError → (table : List ℕ) → Restoration
restoring answer table = record { code = answer_code code_of answer; at = answer_place place_of answer; table = table }

-- the same of outputs that an error leaves to be cleared
abbrev pub rearranged_or_cleared : Result (Unit {0}) OrderError → (table list : List ℕ) → Rearrangement
rearranged_or_cleared (Ok _) table list = record { code = 0; at = 0; table = table; list = list }
rearranged_or_cleared (Err error) table list = refused_rearrangement (code_of error) (place_of error) (length table) (length list)

abbrev pub restored_or_cleared : Result (Unit {0}) OrderError → (table : List ℕ) → Restoration
restored_or_cleared (Ok _) table = record { code = 0; at = 0; table = table }
restored_or_cleared (Err error) table = refused_restoration (code_of error) (place_of error) (length table)
