-- The value walk over any table, by one induction: its visits never fall and never pass 8,192, each pays for 8,200 rows, and every refusal is
-- the paper's. For proofs/Never and proofs/Enough.
use mathlib.Core.Path.{◌≡◌, refl, ap}
use Prim.Native.Nat.{ℕ, zero, suc, ◌+◌, ◌*◌, ◌≤◌, ◌<◌}
use native.Mathlib.Nat.{le_refl, le_trans}
use native.Mathlib.Omega.{arith}
use mathlib.Core.List.{List, [], ◌∷◌}
use mathlib.Core.Option.{Option, none, some}
use mathlib.Core.Bool.{Bool, true, false, not}
use lib.ListN.{length}
use lib.Dec.{T, eqb}
use borrow.Author.Tests.{leb-false}
use Rattle.table.specs.declared.columns.Span.{Span}
use Rattle.table.specs.Table.{Table, Block, Terminal, Operation, other, load_local, store_local, absent, unreachable, throw, return, goto, if, branch, switch}
use Rattle.table.specs.Table.{do_while, while, for, for_of, for_in, logical, ternary, optional, sequence, maybe_throw, try, scope, code_of, block_at, terminal_at}
use Rattle.table.specs.Table.{instruction_at, instruction_rows_at, instruction_rows, label}
use Rattle.definition.specs.Output.{value_out, update_out}
use Rattle.definition.specs.Result.{Result}
use Rattle.definition.specs.Statement.{visit_update}
use Rattle.definition.specs.Tree.{Value, PLAIN, LOAD, UNDEF, SEQ, LOGICAL, COND, OPTIONAL, Instructions, no_instructions, instruction, Row, row, instr_row}
use Rattle.definition.specs.Tree.{value_rows, instructions_rows, count_instructions, instr_row}
use Rattle.definition.specs.Value.{visit_value_block, Ways, begin_visit, ValueBlockResult, ValueTerminalResult, TestBlockResult, VisitValueBlock}
use Rattle.definition.specs.Value.{instructions_of, wrap_with_sequence, final_value, stored_to_named, all_but_last, last, extract_value_block_result}
use Rattle.definition.specs.Value.{extract_or_refuse, test_block_ended, visit_test_block, single_instruction, visit_value_block_terminal, then_fallthrough}
use Rattle.definition.specs.Value.{branch_value, maybe_throw_value, visit_value_block_at}
use Rattle.definition.proofs.Steps.{of_paper, Fine, fine_bind, fine_unless, fine_map}

-- ---- how many rows a value has

abbrev mutual
  pub size_of : Value → ℕ
  size_of (PLAIN instruction_row) = 1
  size_of (LOAD place) = 1
  size_of (UNDEF span) = 1
  size_of (SEQ instructions id value) = suc (size_of_all instructions + size_of value)
  size_of (LOGICAL operator left right) = suc (size_of left + size_of right)
  size_of (COND test consequent alternate) = suc (size_of test + (size_of consequent + size_of alternate))
  size_of (OPTIONAL flag value) = suc (size_of value)

  size_of_all : Instructions → ℕ
  size_of_all no_instructions = 0
  size_of_all (instruction id lvalue span value rest) = suc (size_of value + size_of_all rest)

mutual
  value_rows_size : (v : Value) (after : List Row) → length (value_rows v after) ≡ size_of v + length after
  value_rows_size (PLAIN r) after = omega arith
  value_rows_size (LOAD p) after = omega arith
  value_rows_size (UNDEF s) after = omega arith
  value_rows_size (SEQ is i v) after =
      omega (arith, instructions_rows_size is (value_rows v (row 5 (count_instructions is) i 0 0 0 ∷ after)), value_rows_size v (row 5 (count_instructions is) i 0 0 0 ∷ after))
  value_rows_size (LOGICAL o l r) after = omega (arith, value_rows_size l (value_rows r (row 6 o 0 0 0 0 ∷ after)), value_rows_size r (row 6 o 0 0 0 0 ∷ after))
  value_rows_size (COND x y z) after =
      omega (arith, value_rows_size x (value_rows y (value_rows z (row 7 0 0 0 0 0 ∷ after))), value_rows_size y (value_rows z (row 7 0 0 0 0 0 ∷ after)), value_rows_size z (row 7 0 0 0 0 0 ∷ after))
  value_rows_size (OPTIONAL f v) after = omega (arith, value_rows_size v (row 8 f 0 0 0 0 ∷ after))

  instructions_rows_size : (is : Instructions) (after : List Row) → length (instructions_rows is after) ≡ size_of_all is + length after
  instructions_rows_size no_instructions after = omega arith
  instructions_rows_size (instruction i l s v rest) after = omega (arith, value_rows_size v (instr_row i l s ∷ instructions_rows rest after), instructions_rows_size rest after)

pub value_out_size : (v : Value) → length (value_out v) ≡ size_of v
unfolding value_out
value_out_size v = omega (arith, value_rows_size v [])

-- ---- the parts of a value

instructions_of_size : (t : Table) (rows : List ℕ) (more : Instructions) → size_of_all (instructions_of t rows more) ≡ 2 * length rows + size_of_all more
unfolding instructions_of
instructions_of_size t [] more = omega arith
instructions_of_size t (r ∷ rows) more = omega (arith, instructions_of_size t rows more)

wrapped_size : (t : Table) (rows : List ℕ) (id : ℕ) (value : Value) → size_of (wrap_with_sequence t rows id value) ≤ suc (2 * length rows + size_of value)
unfolding wrap_with_sequence
wrapped_size t [] id value = omega arith
wrapped_size t (r ∷ rows) id value = omega (arith, instructions_of_size t (r ∷ rows) no_instructions)

final_value_size : (r : ℕ) (operation : Operation) (named : ℕ) → size_of (final_value r operation named) ≡ 1
unfolding final_value
final_value_size r other named = refl
final_value_size r (load_local place) named = refl
final_value_size r (store_local stored_to stored_value) zero = refl
final_value_size r (store_local stored_to stored_value) (suc named) = refl

all_but_last_length : (r : ℕ) (rows : List ℕ) → length (all_but_last r rows) ≡ length rows
unfolding all_but_last
all_but_last_length r [] = refl
all_but_last_length r (next ∷ rows) = ap suc (all_but_last_length next rows)

extract_size : (t : Table) (block r : ℕ) (rows : List ℕ) (visits : ℕ) → size_of (extract_value_block_result t block r rows visits).value ≤ 2 * suc (length rows)
unfolding extract_value_block_result
extract_size t block r rows visits =
    let final : ℕ = last r rows in
    let operation : Operation = (instruction_at t final).operation in
    let named : ℕ = stored_to_named t operation in
    omega (arith, wrapped_size t (all_but_last r rows) (instruction_at t final).id (final_value final operation named), final_value_size final operation named, all_but_last_length r rows)

-- ---- what a step of the walk takes, from so many visits on

abbrev pub FewRows : Table → Type 0
FewRows t = (block : ℕ) → length (instruction_rows_at t block) ≤ 4096

-- `spare` rows are not paid for
pub record Took (t : Table) (spare size before after : ℕ) : Type 0 where
  pub rises : before ≤ after
  pub most : before ≤ 8192 → after ≤ 8192
  pub paid : FewRows t → size + 8200 * before ≤ spare + 8200 * after

abbrev pub BlockTook : Table → ℕ → ValueBlockResult → Type 0
BlockTook t before r = Took t 0 (size_of r.value) before r.visits

-- of a block whose own visit has begun, which pays for all but three rows
abbrev EnteredTook : Table → ℕ → ValueBlockResult → Type 0
EnteredTook t before r = Took t 8197 (size_of r.value) before r.visits

abbrev pub TerminalTook : Table → ℕ → ValueTerminalResult → Type 0
TerminalTook t before r = Took t 3 (size_of r.value) before r.visits

abbrev TestTook : Table → ℕ → TestBlockResult → Type 0
TestTook t before r = BlockTook t before r.test

unfoldable pub VisitTook : Table → VisitValueBlock → Type 0
VisitTook t visit = (block : ℕ) (fallthrough : Option ℕ) (span : Span) (visits : ℕ) → Fine (BlockTook t visits) (visit block fallthrough span visits)

-- nothing is visited, and the rows are those of the visit that has begun
at_rest : {t : Table} {spare size : ℕ} (visits : ℕ) → (FewRows t → size ≤ spare) → Took t spare size visits visits
at_rest visits h = record { rises = le_refl visits; most = λ q. q; paid = λ few. omega (arith, h few) }

-- one step and then another
both : {t : Table} {spare₁ spare₂ size₁ size₂ before between after : ℕ} → Took t spare₁ size₁ before between → Took t spare₂ size₂ between after → Took t (spare₁ + spare₂) (size₁ + size₂) before after
both a b = record { rises = le_trans a.rises b.rises; most = λ h. b.most (a.most h); paid = λ few. omega (arith, a.paid few, b.paid few) }

-- and with so many rows more
with_rows : {t : Table} {spare spare₁ size size₁ before after : ℕ} → (FewRows t → size₁ + spare ≤ size + spare₁) → Took t spare size before after → Took t spare₁ size₁ before after
with_rows h a = record { rises = a.rises; most = a.most; paid = λ few. omega (arith, a.paid few, h few) }

-- "92" is given to a MaybeThrow only
abbrev pub is_maybe_throw : Terminal → Bool
is_maybe_throw terminal = eqb (code_of terminal) 18

test_ended_took : (t : Table) (test : ValueBlockResult) (ways : Option Ways) (at before : ℕ) → BlockTook t before test → Fine (TestTook t before) (test_block_ended test ways at)
unfolding test_block_ended
test_ended_took t test none at before h = tt
test_ended_took t test (some ways) at before h = h

extract_took : (t : Table) (block : ℕ) (rows : List ℕ) (visits code at : ℕ) → T (of_paper code) → (FewRows t → length rows ≤ 4096)
    → Fine (EnteredTook t visits) (extract_or_refuse t block rows visits code at)
unfolding extract_or_refuse
extract_took t block [] visits code at c few = c
extract_took t block (r ∷ rows) visits code at c few = unfold extract_value_block_result in at_rest visits (λ f. omega (arith, extract_size t block r rows visits, few f))

branch_value_took : (t : Table) (block test id : ℕ) (rows : List ℕ) (visits : ℕ) → (FewRows t → length rows ≤ 4096) → Fine (EnteredTook t visits) (branch_value t block test id rows visits)
unfolding branch_value
branch_value_took t block test id [] visits few = at_rest visits (λ f. omega arith)
branch_value_took t block test id (r ∷ rows) visits few = unfold extract_value_block_result in at_rest visits (λ f. omega (arith, extract_size t block r rows visits, few f))

pub begin_visit_took : (t : Table) (block visits : ℕ) → Fine (λ begun. (visits < 8192) × (begun ≡ suc visits)) (begin_visit t block visits)
unfolding begin_visit
begin_visit_took t block visits =
    fine_unless (λ begun. (visits < 8192) × (begun ≡ suc visits)) _ 31 block visits _ tt (λ h.
    fine_unless (λ begun. (visits < 8192) × (begun ≡ suc visits)) _ 10 block (suc visits) _ tt (λ _. (leb-false 8192 visits h, refl)))

module _ (t : Table) (visit : VisitValueBlock) (visit_took : VisitTook t visit) where
  nested : (block : ℕ) (fallthrough : Option ℕ) (span : Span) (visits : ℕ) → Fine (BlockTook t visits) (visit block fallthrough span visits)
  unfolding VisitTook
  nested block fallthrough span visits = visit_took block fallthrough span visits

  test_took : (block : ℕ) (span : Span) (visits at : ℕ) → Fine (TestTook t visits) (visit_test_block t visit block span visits at)
  unfolding visit_test_block
  test_took block span visits at = fine_bind (BlockTook t visits) (TestTook t visits) _ _ (nested block none span visits) (λ test h. test_ended_took t test _ at visits h)

  pub terminal_took : (m : Terminal) (id : ℕ) (span : Span) (visits at : ℕ) → T (not (is_maybe_throw m)) → Fine (TerminalTook t visits) (visit_value_block_terminal t visit m id span visits at)
  unfolding visit_value_block_terminal
  terminal_took absent id span visits at h = tt
  terminal_took unreachable id span visits at h = tt
  terminal_took (throw value) id span visits at h = tt
  terminal_took (return value) id span visits at h = tt
  terminal_took (goto block variant) id span visits at h = tt
  terminal_took (if test consequent alternate fallthrough) id span visits at h = tt
  terminal_took (branch test consequent alternate) id span visits at h = tt
  terminal_took (switch test first number fallthrough) id span visits at h = tt
  terminal_took (do_while loop test fallthrough) id span visits at h = tt
  terminal_took (while test loop fallthrough) id span visits at h = tt
  terminal_took (for init test update loop fallthrough) id span visits at h = tt
  terminal_took (for_of init test loop fallthrough) id span visits at h = tt
  terminal_took (for_in init loop fallthrough) id span visits at h = tt
  terminal_took (logical operator test fallthrough) id span visits at h =
      fine_bind (TestTook t visits) (TerminalTook t visits) _ _ (test_took test span visits at) (λ tested a.
      fine_bind (BlockTook t tested.test.visits) (TerminalTook t visits) _ _ (nested _ _ _ _) (λ left b.
      fine_bind (BlockTook t left.visits) (TerminalTook t visits) _ _ (nested _ _ _ _) (λ right c. with_rows (λ _. omega arith) (both a (both b c)))))
  terminal_took (ternary test fallthrough) id span visits at h =
      fine_bind (TestTook t visits) (TerminalTook t visits) _ _ (test_took test span visits at) (λ tested a.
      fine_bind (BlockTook t tested.test.visits) (TerminalTook t visits) _ _ (nested _ _ _ _) (λ consequent b.
      fine_bind (BlockTook t consequent.visits) (TerminalTook t visits) _ _ (nested _ _ _ _) (λ alternate c. with_rows (λ _. omega arith) (both a (both b c)))))
  terminal_took (optional flag test fallthrough) id span visits at h =
      fine_bind (TestTook t visits) (TerminalTook t visits) _ _ (test_took test span visits at) (λ tested a.
      fine_bind (BlockTook t tested.test.visits) (TerminalTook t visits) _ _ (nested _ _ _ _) (λ consequent b. with_rows (λ _. omega arith) (both a b)))
  terminal_took (label block fallthrough) id span visits at h = tt
  terminal_took (sequence block fallthrough) id span visits at h =
      fine_bind (BlockTook t visits) (TerminalTook t visits) _ _ (nested _ _ _ _) (λ inner a. with_rows (λ _. omega arith) a)
  terminal_took (maybe_throw continuation) id span visits at h = absurd h
  terminal_took (try block handler fallthrough binding) id span visits at h = tt
  terminal_took (scope pruned block fallthrough number) id span visits at h = tt

  then_fallthrough_took : (block : Block) (span : Span) (before : ℕ) (terminal : Result ValueTerminalResult)
      → (FewRows t → length (instruction_rows block) ≤ 4096) → Fine (TerminalTook t before) terminal
      → Fine (EnteredTook t before) (then_fallthrough t visit block span terminal)
  unfolding then_fallthrough
  then_fallthrough_took block span before terminal rows h =
      fine_bind (TerminalTook t before) (EnteredTook t before) terminal _ h (λ init a.
      fine_bind (BlockTook t init.visits) (EnteredTook t before) _ _ (nested _ _ _ _) (λ final b.
      with_rows (λ few. omega (arith, rows few, instructions_of_size t (instruction_rows block) (single_instruction init.id init.place span init.value))) (both a b)))

  maybe_throw_took : (number continuation : ℕ) (rows : List ℕ) (fallthrough : Option ℕ) (span : Span) (visits : ℕ) (own : Bool) → (FewRows t → length rows ≤ 4096)
      → Fine (EnteredTook t visits) (maybe_throw_value t visit number continuation rows fallthrough span visits own)
  unfolding maybe_throw_value
  maybe_throw_took number continuation rows fallthrough span visits true few = extract_took t continuation rows visits 28 number tt few
  maybe_throw_took number continuation rows fallthrough span visits false few =
      fine_bind (BlockTook t visits) (EnteredTook t visits) _ _ (nested continuation fallthrough span visits) (λ final a.
      with_rows (λ f. omega (arith, few f, wrapped_size t rows final.id final.value)) a)

  block_took : (m : Terminal) (number : ℕ) (outer : Option ℕ) (span : Span) (visits : ℕ) → Fine (EnteredTook t visits) (visit_value_block_at t visit m number (block_at t number) outer span visits)
  unfolding visit_value_block_at
  block_took m number outer span visits = at m
    where
      rows : FewRows t → length (instruction_rows_at t number) ≤ 4096
      rows few = few number

      through : (m : Terminal) → T (not (is_maybe_throw m))
          → Fine (EnteredTook t visits) (then_fallthrough t visit (block_at t number) span
          (visit_value_block_terminal t visit m (block_at t number).id (block_at t number).span visits number))
      through m h = then_fallthrough_took (block_at t number) span visits _ rows (terminal_took m (block_at t number).id (block_at t number).span visits number h)

      at : (m : Terminal) → Fine (EnteredTook t visits) (visit_value_block_at t visit m number (block_at t number) outer span visits)
      at absent = through absent tt
      at unreachable = through unreachable tt
      at (throw value) = through (throw value) tt
      at (return value) = through (return value) tt
      at (goto block variant) = extract_took t number (instruction_rows_at t number) visits 24 number tt rows
      at (if test consequent alternate fallthrough) = through (if test consequent alternate fallthrough) tt
      at (branch test consequent alternate) = branch_value_took t number test (block_at t number).id (instruction_rows_at t number) visits rows
      at (switch test first count fallthrough) = through (switch test first count fallthrough) tt
      at (do_while loop test fallthrough) = through (do_while loop test fallthrough) tt
      at (while test loop fallthrough) = through (while test loop fallthrough) tt
      at (for init test update loop fallthrough) = through (for init test update loop fallthrough) tt
      at (for_of init test loop fallthrough) = through (for_of init test loop fallthrough) tt
      at (for_in init loop fallthrough) = through (for_in init loop fallthrough) tt
      at (logical operator test fallthrough) = through (logical operator test fallthrough) tt
      at (ternary test fallthrough) = through (ternary test fallthrough) tt
      at (optional flag test fallthrough) = through (optional flag test fallthrough) tt
      at (label block fallthrough) = through (label block fallthrough) tt
      at (sequence block fallthrough) = through (sequence block fallthrough) tt
      at (maybe_throw continuation) =
          fine_unless (EnteredTook t visits) _ 10 continuation visits _ tt (λ _. maybe_throw_took number continuation (instruction_rows_at t number) outer span visits _ rows)
      at (try block handler fallthrough binding) = through (try block handler fallthrough binding) tt
      at (scope false block fallthrough scoped) = through (scope false block fallthrough scoped) tt
      at (scope true block fallthrough scoped) = through (scope true block fallthrough scoped) tt

  pub update_took : (update : Option ℕ) (span : Span) (visits : ℕ) → Fine (λ w. Took t 0 (length (update_out w.value)) visits w.visits) (visit_update visit update span visits)
  unfolding visit_update update_out
  update_took none span visits = at_rest visits (λ few. omega arith)
  update_took (some update) span visits =
      fine_bind (BlockTook t visits) (λ w. Took t 0 (length (update_out w.value)) visits w.visits) _ _ (nested update none span visits) (λ r a.
      with_rows (λ _. omega (arith, value_out_size r.value)) a)

pub value_took : (t : Table) (depth_left : ℕ) → VisitTook t (visit_value_block t depth_left)
unfolding VisitTook visit_value_block
value_took t zero block fallthrough span visits = tt
value_took t (suc depth_left) block fallthrough span visits =
    fine_bind (λ begun. (visits < 8192) × (begun ≡ suc visits)) (BlockTook t visits) _ _ (begin_visit_took t block visits) (λ begun b.
    fine_unless (BlockTook t visits) _ 23 block begun _ tt (λ _.
    fine_map (EnteredTook t begun) (BlockTook t visits) (visit_value_block_at t (visit_value_block t depth_left) (terminal_at t block) block (block_at t block) fallthrough span begun) (λ r a. record {
      rises = omega (arith, a.rises, b);
      most = λ _. a.most (omega (arith, b));
      paid = λ few. omega (arith, a.paid few, b);
    }) (block_took t (visit_value_block t depth_left) (value_took t depth_left) (terminal_at t block) block fallthrough span begun)))
