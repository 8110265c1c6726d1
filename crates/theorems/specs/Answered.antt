-- What every answer of the build shows, refused or not (demand 1).
use Rattle.std.specs.Prelude.{ℕ, ◌*◌, ◌-◌, ◌≤◌, ◌≡◌, List, ◌++◌, Bool, ◌||◌, ◌&&◌, length, replicate, T, eqb, leb}
use Rattle.definition.specs.Tree.{Statements, Row, rows}
use Rattle.definition.specs.Index.{Line, lines, line_words}
use Rattle.definition.specs.Build.{Outcome, refusal, words_of}

-- 0; 1 to 4; 10 to 31; 40; 41 (M-101)
abbrev pub is_number : ℕ → Bool
is_number code = eqb code 0 || ((leb 1 code && leb code 4) || (leb 10 code && leb code 31)) || eqb code 40 || eqb code 41

-- "Accepted: at 0, the buffer holds the rows, then zeros", and the index its lines (M-101)
abbrev pub acceptance : (lent lent_index : ℕ) → List Row → List Line → (visits : ℕ) → Outcome
acceptance lent lent_index list lines visits = record {
  code = 0;
  at = 0;
  rows = length list;
  visits = visits;
  lines = length lines;
  buffer = words_of list ++ replicate (lent - length list * 6) 0;
  index = line_words lines ++ replicate (lent_index - length lines * 3) 0;
}

-- the paper's form: a number of the papers; accepted, the rows of a tree that fit, and its lines; refused, zeros and no lines, "rows is 0 except at 40"; and
-- at most 8,192 visits
pub record Answered (lent lent_index : ℕ) (o : Outcome) : Type 0 where
  pub number : T (is_number o.code)
  pub accepted : o.code ≡ 0 → (root : Statements) × (length (rows root) * 6 ≤ lent) × (o ≡ acceptance lent lent_index (rows root) (lines root) o.visits)
  pub refused : (o.code ≡ 0 → ⊥) → o ≡ refusal o.code o.at o.rows o.visits lent lent_index
  pub no_rows : (o.code ≡ 0 → ⊥) → (o.code ≡ 40 → ⊥) → o.rows ≡ 0
  pub visits : o.visits ≤ 8192
