-- The reader of rows: a stack machine that takes the parts of each closing row off what has been read. proofs/Readings: it gives every well-formed tree back
-- from its rows, so that one list of rows is read as one tree.
use Rattle.std.specs.Prelude.{ℕ, zero, suc, List, [], ◌∷◌, true, false, get_or}
use Rattle.std.proofs.Math.Option.{Option, none, some}
use Rattle.table.specs.Table.{unless_none}
use Rattle.definition.specs.Tree.{Kind, implicit, labeled, unlabeled, Value, PLAIN, LOAD, UNDEF, SEQ, LOGICAL, COND, OPTIONAL, Instructions}
use Rattle.definition.specs.Tree.{no_instructions, instruction, Statement, INSTR, IF, SWITCH, DOWHILE, WHILE, FOR, FOROF, FORIN, LABEL, TRY, SCOPE}
use Rattle.definition.specs.Tree.{RETURN, THROW, BREAK, CONTINUE, Statements, done, ◌▸◌, Cases, no_cases, CASE, Row, row}
use Rattle.definition.specs.Reading.{Part, value, statement, block, case, Forest}

-- what has been read and is not yet part of anything, the latest first
abbrev pub Step : Type 0
Step = Forest → Option Forest

unfoldable pub take_value : (Value → Step) → Step
take_value then [] = none
take_value then (value v ∷ S) = then v S
take_value then (statement s ∷ S) = none
take_value then (block b ∷ S) = none
take_value then (case n b ∷ S) = none

unfoldable pub take_statement : (Statement → Step) → Step
take_statement then [] = none
take_statement then (value v ∷ S) = none
take_statement then (statement s ∷ S) = then s S
take_statement then (block b ∷ S) = none
take_statement then (case n b ∷ S) = none

unfoldable pub take_block : (Statements → Step) → Step
take_block then [] = none
take_block then (value v ∷ S) = none
take_block then (statement s ∷ S) = none
take_block then (block b ∷ S) = then b S
take_block then (case n b ∷ S) = none

unfoldable pub take_case : (ℕ → Statements → Step) → Step
take_case then [] = none
take_case then (value v ∷ S) = none
take_case then (statement s ∷ S) = none
take_case then (block b ∷ S) = none
take_case then (case n b ∷ S) = then n b S

-- an INSTR as one of a SEQ's instructions
unfoldable pub as_instruction : (Instructions → Step) → Instructions → Statement → Step
as_instruction then more (INSTR i l s v) S = then (instruction i l s v more) S
as_instruction then more (IF t i l c p a) S = none
as_instruction then more (SWITCH t i l cs) S = none
as_instruction then more (DOWHILE i l b t) S = none
as_instruction then more (WHILE i l t b) S = none
as_instruction then more (FOR i l n t u b) S = none
as_instruction then more (FOROF i l s n t b) S = none
as_instruction then more (FORIN i l s n b) S = none
as_instruction then more (LABEL i l b) S = none
as_instruction then more (TRY i l n b h) S = none
as_instruction then more (SCOPE p s b) S = none
as_instruction then more (RETURN v i) S = none
as_instruction then more (THROW v i) S = none
as_instruction then more (BREAK t i k n) S = none
as_instruction then more (CONTINUE t i k n) S = none

-- takes a number of them, the last first, and puts them before those that are taken already
unfoldable pub take_instructions : ℕ → Instructions → (Instructions → Step) → Step
take_instructions zero more then S = then more S
take_instructions (suc n) more then S = take_statement (as_instruction (λ is. take_instructions n is then) more) S

unfoldable pub take_statements : ℕ → Statements → (Statements → Step) → Step
take_statements zero more then S = then more S
take_statements (suc n) more then S = take_statement (λ s. take_statements n (s ▸ more) then) S

unfoldable pub take_cases : ℕ → Cases → (Cases → Step) → Step
take_cases zero more then S = then more S
take_cases (suc n) more then S = take_case (λ t b. take_cases n (CASE t b more) then) S

unfoldable pub pushes : Part → Step
pushes item S = some (item ∷ S)

unfoldable pub kind_of : ℕ → Kind
kind_of zero = implicit
kind_of (suc zero) = labeled
kind_of (suc (suc n)) = unlabeled

unfoldable pub close_if : (present : ℕ) → (test id : ℕ) → Option ℕ → Step
close_if zero test id label = take_block (λ c. pushes (statement (IF test id label c false done)))
close_if (suc n) test id label = take_block (λ a. take_block (λ c. pushes (statement (IF test id label c true a))))

unfoldable pub close_for : (present : ℕ) → (id : ℕ) → Option ℕ → Statements → Step
close_for zero id label body = take_value (λ t. take_value (λ n. pushes (statement (FOR id label n t none body))))
close_for (suc m) id label body = take_value (λ u. take_value (λ t. take_value (λ n. pushes (statement (FOR id label n t (some u) body)))))

-- what each closing row does: its place in the list is its op
unfoldable pub closings : (a b c d e : ℕ) → List Step
closings a b c d e =
    (λ S. none)
    ∷ pushes (value (PLAIN a))
    ∷ pushes (value (LOAD a))
    ∷ pushes (value (UNDEF (record { from = a; to = b })))
    ∷ take_value (λ v. pushes (statement (INSTR a b (record { from = c; to = d }) v)))
    ∷ take_value (λ v. take_instructions a no_instructions (λ is. pushes (value (SEQ is b v))))
    ∷ take_value (λ r. take_value (λ l. pushes (value (LOGICAL a l r))))
    ∷ take_value (λ z. take_value (λ y. take_value (λ x. pushes (value (COND x y z)))))
    ∷ take_value (λ v. pushes (value (OPTIONAL a v)))
    ∷ take_statements a done (λ ss. pushes (block ss))
    ∷ close_if b a c (unless_none d)
    ∷ take_block (λ s. pushes (case a s))
    ∷ take_cases b no_cases (λ cs. pushes (statement (SWITCH a c (unless_none d) cs)))
    ∷ take_value (λ t. take_block (λ s. pushes (statement (DOWHILE a (unless_none b) s t))))
    ∷ take_block (λ s. take_value (λ t. pushes (statement (WHILE a (unless_none b) t s))))
    ∷ take_block (λ s. close_for c a (unless_none b) s)
    ∷ take_block (λ s. take_value (λ t. take_value (λ n. pushes (statement (FOROF a (unless_none b) (record { from = c; to = d }) n t s)))))
    ∷ take_block (λ s. take_value (λ n. pushes (statement (FORIN a (unless_none b) (record { from = c; to = d }) n s))))
    ∷ take_block (λ s. pushes (statement (LABEL a (unless_none b) s)))
    ∷ take_block (λ h. take_block (λ s. pushes (statement (TRY a (unless_none b) (unless_none c) s h))))
    ∷ take_block (λ s. pushes (statement (SCOPE false a s)))
    ∷ take_block (λ s. pushes (statement (SCOPE true a s)))
    ∷ pushes (statement (RETURN a b))
    ∷ pushes (statement (THROW a b))
    ∷ pushes (statement (BREAK a b (kind_of c) d))
    ∷ pushes (statement (CONTINUE a b (kind_of c) d))
    ∷ []

unfoldable pub close : Row → Step
close (row op a b c d e) = get_or (closings a b c d e) op (λ S. none)

unfoldable pub read : List Row → Step
read [] S = some S
read (r ∷ rs) S = elim (close r S) [ none ↦ none | some S' ↦ read rs S' ]
