-- From the entry of the words to the table's, and from the check to what it promises.
use Rattle.std.proofs.Common.{◌≡◌, ℕ, Bool, not, ◌&&◌, List, refl, sym, ap, ◌∙◌}
use Rattle.table.specs.Words.{entry_word}
use Rattle.table.specs.Table.{table_of, terminal_at}
use Rattle.definition.specs.Plain.{is_branch}

pub entry_is : (ws : List ℕ) → (table_of ws).entry ≡ entry_word ws
unfolding table_of
entry_is ws = refl

-- what is asked of the entry, and of the rest
pub entered : (ws : List ℕ) {entry : ℕ} {no_branch : Bool} (rest : Bool) → entry ≡ entry_word ws → no_branch ≡ not (is_branch (terminal_at (table_of ws) entry))
    → no_branch && rest ≡ not (is_branch (terminal_at (table_of ws) (table_of ws).entry)) && rest
entered ws rest at asked = ap (λ b. b && rest) (rw (at ∙ sym (entry_is ws)) at asked)
