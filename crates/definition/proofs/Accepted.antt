-- What the caller sees as accepted: the check passed, the walk gave a tree, and the buffers were long enough for its rows and its lines. For proofs/Law.
use mathlib.Core.Path.{◌≡◌, refl, sym, ap, ◌∙◌, subst}
use Prim.Native.Nat.{ℕ, zero, suc, ◌*◌, ◌-◌, ◌/◌, ◌≤◌}
use native.Mathlib.Omega.{arith}
use mathlib.Core.List.{List, [], ◌∷◌, ◌++◌}
use mathlib.Core.Bool.{Bool, true, false}
use lib.ListN.{length, take, replicate}
use lib.Dec.{T, leb}
use borrow.Author.Tests.{leb-true}
use Rattle.table.specs.Check.{Verdict, checked}
use Rattle.table.specs.Check as check
use Rattle.table.specs.Table.{table_of}
use Rattle.definition.specs.Tree.{Row, row, rows}
use Rattle.definition.specs.Around.{Rule}
use Rattle.definition.specs.Result.{Result, ok, refused}
use Rattle.definition.specs.Statement.{BlockResult, build_tree}
use Rattle.definition.specs.Index.{Line, lines, line_words}
use Rattle.definition.specs.Build.{Outcome, refusal, words_of, placed, reported, report, outcome_of, after_check, built}
use Rattle.definition.proofs.Steps.{of_paper}
use Rattle.definition.proofs.Never.{never}
use Rattle.definition.proofs.Checked.{of_check, Coded, coded}

pub record Accepted (rule : Rule) (words : List ℕ) (lent lent_index : ℕ) : Type 0 where
  pub root : BlockResult
  pub checks : checked words ≡ check.accepted
  pub builds : build_tree rule (table_of words) ≡ ok root
  pub room : length (rows root.statements) ≤ lent / 6
  pub number : (built rule words lent lent_index).rows ≡ length (rows root.statements)
  pub held : (built rule words lent lent_index).buffer ≡ words_of (rows root.statements) ++ replicate (lent - length (rows root.statements) * 6) 0
  -- M-101
  pub index_room : length (lines root.statements) ≤ lent_index / 3
  pub index_number : (built rule words lent lent_index).lines ≡ length (lines root.statements)
  pub indexed : (built rule words lent lent_index).index ≡ line_words (lines root.statements) ++ replicate (lent_index - length (lines root.statements) * 3) 0

-- no refusal has the code 0
not_zero : (code : ℕ) → T (of_check code) → code ≡ 0 → ⊥
not_zero code h e = subst (λ (n : ℕ). T (of_check n)) e h

of_paper_zero : (code : ℕ) → T (of_paper code) → code ≡ 0 → ⊥
of_paper_zero code h e = subst (λ (n : ℕ). T (of_paper n)) e h

forty_zero : ◌≡◌ {A = ℕ} 40 0 → ⊥
forty_zero e = omega (arith, e)

forty_one_zero : ◌≡◌ {A = ℕ} 41 0 → ⊥
forty_one_zero e = omega (arith, e)

-- ---- what the buffers take

module _ (lent lent_index : ℕ) (list : List Row) (index : List Line) (visits : ℕ) where
  pub placed_fits : leb (length list) (lent / 6) ≡ true → leb (length index) (lent_index / 3) ≡ true → placed lent lent_index list index visits ≡ record {
    code = 0;
    at = 0;
    rows = length list;
    visits = visits;
    lines = length index;
    buffer = words_of list ++ replicate (lent - length list * 6) 0;
    index = line_words index ++ replicate (lent_index - length index * 3) 0;
  }
  unfolding placed
  placed_fits f g = rw (f, g, placed)

  pub placed_40 : leb (length list) (lent / 6) ≡ false → placed lent lent_index list index visits ≡ refusal 40 0 (length list) visits lent lent_index
  unfolding placed
  placed_40 f = rw (f, placed)

  pub placed_41 : leb (length list) (lent / 6) ≡ true → leb (length index) (lent_index / 3) ≡ false → placed lent lent_index list index visits ≡ refusal 41 0 0 visits lent lent_index
  unfolding placed
  placed_41 f g = rw (f, g, placed)

module _ (rule : Rule) (words : List ℕ) (lent lent_index : ℕ) where
  placed_of : (root : BlockResult) (fits index_fits : Bool) → checked words ≡ check.accepted → build_tree rule (table_of words) ≡ ok root
      → leb (length (rows root.statements)) (lent / 6) ≡ fits → leb (length (lines root.statements)) (lent_index / 3) ≡ index_fits
      → built rule words lent lent_index ≡ placed lent lent_index (rows root.statements) (lines root.statements) root.context.visits → (built rule words lent lent_index).code ≡ 0
      → Accepted rule words lent lent_index
  unfolding refusal
  placed_of root true true c b f g o h =
      let fit : built rule words lent lent_index ≡ _ = o ∙ placed_fits lent lent_index (rows root.statements) (lines root.statements) root.context.visits f g in
      record {
        root = root;
        checks = c;
        builds = b;
        room = leb-true (length (rows root.statements)) (lent / 6) f;
        number = ap (λ (z : Outcome). z.rows) fit;
        held = ap (λ (z : Outcome). z.buffer) fit;
        index_room = leb-true (length (lines root.statements)) (lent_index / 3) g;
        index_number = ap (λ (z : Outcome). z.lines) fit;
        indexed = ap (λ (z : Outcome). z.index) fit;
      }
  placed_of root true false c b f g o h =
      absurd (forty_one_zero (sym (ap (λ (z : Outcome). z.code) (o ∙ placed_41 lent lent_index (rows root.statements) (lines root.statements) root.context.visits f g)) ∙ h))
  placed_of root false index_fits c b f g o h =
      absurd (forty_zero (sym (ap (λ (z : Outcome). z.code) (o ∙ placed_40 lent lent_index (rows root.statements) (lines root.statements) root.context.visits f)) ∙ h))

  built_of : (result : Result BlockResult) → checked words ≡ check.accepted → build_tree rule (table_of words) ≡ result
      → built rule words lent lent_index ≡ outcome_of lent lent_index (reported result) → (built rule words lent lent_index).code ≡ 0
      → Accepted rule words lent lent_index
  unfolding outcome_of reported refusal
  built_of (ok root) c b o h = placed_of root (leb (length (rows root.statements)) (lent / 6)) (leb (length (lines root.statements)) (lent_index / 3)) c b refl refl o h
  built_of (refused code at visits) c b o h = absurd (of_paper_zero code (never rule (table_of words) code at visits b) (sym (ap (λ (z : Outcome). z.code) o) ∙ h))

  checked_of : (verdict : Verdict) → checked words ≡ verdict → built rule words lent lent_index ≡ after_check rule lent lent_index verdict words
      → (built rule words lent lent_index).code ≡ 0 → Accepted rule words lent lent_index
  unfolding after_check refusal report
  checked_of check.accepted c o h = built_of (build_tree rule (table_of words)) c refl o h
  checked_of (check.refused code at) c o h = absurd (not_zero code (subst Coded c (coded words)) (sym (ap (λ (z : Outcome). z.code) o) ∙ h))

  pub accepted_of : (built rule words lent lent_index).code ≡ 0 → Accepted rule words lent lent_index
  unfolding built
  accepted_of h = checked_of (checked words) refl refl h

-- ---- the rows in the buffer

pub words_length : (list : List Row) → length (words_of list) ≡ length list * 6
unfolding words_of
words_length [] = refl
words_length (row op a b c d e ∷ list) = omega (arith, words_length list)

pub line_words_length : (list : List Line) → length (line_words list) ≡ length list * 3
unfolding line_words
line_words_length [] = refl
line_words_length (line ∷ list) = omega (arith, line_words_length list)

take_front : (xs ys : List ℕ) (n : ℕ) → length xs ≡ n → take n (xs ++ ys) ≡ xs
take_front [] ys n e = ap (λ (k : ℕ). take k ys) (sym e)
take_front (x ∷ xs) ys zero e = absurd (omega (arith, e))
take_front (x ∷ xs) ys (suc n) e = ap (λ (z : List ℕ). x ∷ z) (take_front xs ys n (omega (arith, e)))

pub rows_of_buffer : (rule : Rule) (words : List ℕ) (lent lent_index : ℕ) (a : Accepted rule words lent lent_index)
    → take ((built rule words lent lent_index).rows * 6) (built rule words lent lent_index).buffer ≡ words_of (rows a.root.statements)
rows_of_buffer rule words lent lent_index a =
    ap (λ (z : List ℕ). take ((built rule words lent lent_index).rows * 6) z) a.held
    ∙ take_front (words_of (rows a.root.statements)) _ ((built rule words lent lent_index).rows * 6) (omega (arith, words_length (rows a.root.statements), a.number))

nil_cons : {x : ℕ} {xs : List ℕ} → [] ≡ x ∷ xs → ⊥
nil_cons e = let z : ◌≡◌ {A = ℕ} 0 1 = cc in omega arith

-- rows of the same words are the same rows
pub words_rows : (list list' : List Row) → words_of list ≡ words_of list' → list ≡ list'
unfolding words_of
words_rows [] [] e = refl
words_rows [] (row op a b c d f ∷ list') e = absurd (nil_cons e)
words_rows (row op a b c d f ∷ list) [] e = absurd (nil_cons (sym e))
words_rows (row op a b c d f ∷ list) (row op' a' b' c' d' f' ∷ list') e = let q : list ≡ list' = words_rows list list' cc in cc
