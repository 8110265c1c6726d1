-- The machine over sorts does with the sorts of the parts what the reader does with the parts.
use mathlib.Core.Path.{◌≡◌, refl, sym, ap, ◌∙◌, subst}
use Prim.Native.Nat.{ℕ, zero, suc, ◌<◌, ◌≤◌}
use native.Mathlib.Omega.{arith}
use mathlib.Core.List.{List, [], ◌∷◌}
use mathlib.Core.Option.{Option, none, some, map}
use mathlib.Core.Bool.{true}
use mathlib.Core.Logic.{◌⊎◌, inl, inr}
use lib.ListN.{get_or}
use Rattle.table.specs.Table.{unless_none}
use Rattle.definition.specs.Tree.{Value, Instructions, instruction, Statement, INSTR, IF}
use Rattle.definition.specs.Tree.{SWITCH, DOWHILE, WHILE, FOR, FOROF, FORIN, LABEL, TRY, SCOPE, RETURN, THROW, BREAK, CONTINUE, Statements, ◌▸◌, Cases}
use Rattle.definition.specs.Tree.{CASE, Row, row}
use Rattle.definition.specs.Reading.{Part, value, statement, block, case, Forest}
use Rattle.definition.specs.Reader.{Step, take_value, take_statement, take_block, take_case, as_instruction, take_instructions, take_statements, take_cases, pushes}
use Rattle.definition.specs.Reader.{close_if, close_for, closings, close}
use Rattle.tree_grammar.specs.Ranges.{in_range}
use Rattle.tree_grammar.specs.Needs.{Sort, a_value, an_instr, a_statement, a_block, a_case, many, if_present, parts_of, made_by, Sorts, taken, sort_step, sort_of_statement, sort_of, sorts_of}
use Rattle.tree_grammar.proofs.Sound.{InRange, in_range_lem}
use Rattle.tree_grammar.proofs.Upto.{upto, ends, ◌and◌}

abbrev finish : Sort → Option Sorts → Option Sorts
finish sort none = none
finish sort (some left) = some (sort ∷ left)

-- a step that takes the wanted parts and leaves one of this sort
record Agrees (wanted : List Sort) (sort : Sort) (step : Step) : Type 0 where
  same : (S : Forest) → finish sort (taken wanted (sorts_of S)) ≡ map sorts_of (step S)

agree_push : (sort : Sort) (p : Part) → sort_of p ≡ sort → Agrees [] sort (pushes p)
unfolding pushes
agree_push sort p e = record { same = λ S. ap (λ (z : Sort). some (z ∷ sorts_of S)) (sym e) }

-- a statement is of one of two sorts
two_sorts : (s : Statement) → (sort_of_statement s ≡ an_instr) ⊎ (sort_of_statement s ≡ a_statement)
two_sorts (INSTR i l s v) = inl refl
two_sorts (IF t i l c p a) = inr refl
two_sorts (SWITCH t i l cs) = inr refl
two_sorts (DOWHILE i l b t) = inr refl
two_sorts (WHILE i l t b) = inr refl
two_sorts (FOR i l n t u b) = inr refl
two_sorts (FOROF i l s n t b) = inr refl
two_sorts (FORIN i l s n b) = inr refl
two_sorts (LABEL i l b) = inr refl
two_sorts (TRY i l n b h) = inr refl
two_sorts (SCOPE p s b) = inr refl
two_sorts (RETURN v i) = inr refl
two_sorts (THROW v i) = inr refl
two_sorts (BREAK t i d n) = inr refl
two_sorts (CONTINUE t i d n) = inr refl

-- what holds of both sorts holds of a statement's
pub by_sort : (P : Sort → Type 0) (s : Statement) → P an_instr → P a_statement → P (sort_of_statement s)
by_sort P s h k = by (two_sorts s)
  where
    by : (sort_of_statement s ≡ an_instr) ⊎ (sort_of_statement s ≡ a_statement) → P (sort_of_statement s)
    by (inl e) = subst P (sym e) h
    by (inr e) = subst P (sym e) k

agree_value : (wanted : List Sort) (sort : Sort) (then : Value → Step) → ((v : Value) → Agrees wanted sort (then v)) → Agrees (a_value ∷ wanted) sort (take_value then)
unfolding take_value
agree_value wanted sort then k = record { same = by }
  where
    by : (S : Forest) → finish sort (taken (a_value ∷ wanted) (sorts_of S)) ≡ map sorts_of (take_value then S)
    by [] = refl
    by (value v ∷ S) = (k v).same S
    by (statement s ∷ S) = by_sort (λ z. finish sort (taken (a_value ∷ wanted) (z ∷ sorts_of S)) ≡ none) s refl refl
    by (block b ∷ S) = refl
    by (case n b ∷ S) = refl

agree_block : (wanted : List Sort) (sort : Sort) (then : Statements → Step) → ((b : Statements) → Agrees wanted sort (then b)) → Agrees (a_block ∷ wanted) sort (take_block then)
unfolding take_block
agree_block wanted sort then k = record { same = by }
  where
    by : (S : Forest) → finish sort (taken (a_block ∷ wanted) (sorts_of S)) ≡ map sorts_of (take_block then S)
    by [] = refl
    by (value v ∷ S) = refl
    by (statement s ∷ S) = by_sort (λ z. finish sort (taken (a_block ∷ wanted) (z ∷ sorts_of S)) ≡ none) s refl refl
    by (block b ∷ S) = (k b).same S
    by (case n b ∷ S) = refl

agree_case : (wanted : List Sort) (sort : Sort) (then : ℕ → Statements → Step) → ((n : ℕ) (b : Statements) → Agrees wanted sort (then n b)) → Agrees (a_case ∷ wanted) sort (take_case then)
unfolding take_case
agree_case wanted sort then k = record { same = by }
  where
    by : (S : Forest) → finish sort (taken (a_case ∷ wanted) (sorts_of S)) ≡ map sorts_of (take_case then S)
    by [] = refl
    by (value v ∷ S) = refl
    by (statement s ∷ S) = by_sort (λ z. finish sort (taken (a_case ∷ wanted) (z ∷ sorts_of S)) ≡ none) s refl refl
    by (block b ∷ S) = refl
    by (case n b ∷ S) = (k n b).same S

agree_statement : (wanted : List Sort) (sort : Sort) (then : Statement → Step) → ((s : Statement) → Agrees wanted sort (then s)) → Agrees (a_statement ∷ wanted) sort (take_statement then)
unfolding take_statement
agree_statement wanted sort then k = record { same = by }
  where
    by : (S : Forest) → finish sort (taken (a_statement ∷ wanted) (sorts_of S)) ≡ map sorts_of (take_statement then S)
    by [] = refl
    by (value v ∷ S) = refl
    by (statement s ∷ S) = by_sort (λ z. finish sort (taken (a_statement ∷ wanted) (z ∷ sorts_of S)) ≡ map sorts_of (then s S)) s ((k s).same S) ((k s).same S)
    by (block b ∷ S) = refl
    by (case n b ∷ S) = refl

agree_instr : (wanted : List Sort) (sort : Sort) (more : Instructions) (then : Instructions → Step) → ((is : Instructions) → Agrees wanted sort (then is))
    → Agrees (an_instr ∷ wanted) sort (take_statement (as_instruction then more))
unfolding take_statement as_instruction
agree_instr wanted sort more then k = record { same = by }
  where
    by : (S : Forest) → finish sort (taken (an_instr ∷ wanted) (sorts_of S)) ≡ map sorts_of (take_statement (as_instruction then more) S)
    by [] = refl
    by (value v ∷ S) = refl
    by (statement (INSTR i l s v) ∷ S) = (k (instruction i l s v more)).same S
    by (statement (IF t i l c p a) ∷ S) = refl
    by (statement (SWITCH t i l cs) ∷ S) = refl
    by (statement (DOWHILE i l b t) ∷ S) = refl
    by (statement (WHILE i l t b) ∷ S) = refl
    by (statement (FOR i l n t u b) ∷ S) = refl
    by (statement (FOROF i l s n t b) ∷ S) = refl
    by (statement (FORIN i l s n b) ∷ S) = refl
    by (statement (LABEL i l b) ∷ S) = refl
    by (statement (TRY i l n b h) ∷ S) = refl
    by (statement (SCOPE p s b) ∷ S) = refl
    by (statement (RETURN v i) ∷ S) = refl
    by (statement (THROW v i) ∷ S) = refl
    by (statement (BREAK t i d n) ∷ S) = refl
    by (statement (CONTINUE t i d n) ∷ S) = refl
    by (block b ∷ S) = refl
    by (case n b ∷ S) = refl

agree_instructions : (wanted : List Sort) (sort : Sort) (n : ℕ) (more : Instructions) (then : Instructions → Step) → ((is : Instructions) → Agrees wanted sort (then is))
    → Agrees (many n an_instr wanted) sort (take_instructions n more then)
unfolding take_instructions
agree_instructions wanted sort zero more then k = k more
agree_instructions wanted sort (suc n) more then k = agree_instr (many n an_instr wanted) sort more (λ is. take_instructions n is then) (λ is. agree_instructions wanted sort n is then k)

agree_statements : (wanted : List Sort) (sort : Sort) (n : ℕ) (more : Statements) (then : Statements → Step) → ((ss : Statements) → Agrees wanted sort (then ss))
    → Agrees (many n a_statement wanted) sort (take_statements n more then)
unfolding take_statements
agree_statements wanted sort zero more then k = k more
agree_statements wanted sort (suc n) more then k = agree_statement (many n a_statement wanted) sort _ (λ s. agree_statements wanted sort n (s ▸ more) then k)

agree_cases : (wanted : List Sort) (sort : Sort) (n : ℕ) (more : Cases) (then : Cases → Step) → ((cs : Cases) → Agrees wanted sort (then cs))
    → Agrees (many n a_case wanted) sort (take_cases n more then)
unfolding take_cases
agree_cases wanted sort zero more then k = k more
agree_cases wanted sort (suc n) more then k = agree_case (many n a_case wanted) sort _ (λ t b. agree_cases wanted sort n (CASE t b more) then k)

-- ---- each op

module _ (a b c d e : ℕ) where
  abbrev Same : ℕ → Type 0
  Same op = 1 ≤ op → Agrees (parts_of (row op a b c d e)) (made_by op) (get_or (closings a b c d e) op (λ S. none))

  if_same : (b : ℕ) (label : Option ℕ) → Agrees (if_present b a_block (a_block ∷ [])) a_statement (close_if b a c label)
  unfolding close_if
  if_same zero label = agree_block _ _ _ (λ x. agree_push _ _ refl)
  if_same (suc b) label = agree_block _ _ _ (λ y. agree_block _ _ _ (λ x. agree_push _ _ refl))

  for_same : (c : ℕ) (label : Option ℕ) (s : Statements) → Agrees (if_present c a_value (a_value ∷ a_value ∷ [])) a_statement (close_for c a label s)
  unfolding close_for
  for_same zero label s = agree_value _ _ _ (λ t. agree_value _ _ _ (λ n. agree_push _ _ refl))
  for_same (suc c) label s = agree_value _ _ _ (λ u. agree_value _ _ _ (λ t. agree_value _ _ _ (λ n. agree_push _ _ refl)))

  every_op : (op : ℕ) → op < 26 → Same op
  unfolding closings made_by
  every_op = upto Same 26
      ((λ p. absurd (omega arith))
      and (λ p. agree_push _ _ refl)
      and (λ p. agree_push _ _ refl)
      and (λ p. agree_push _ _ refl)
      and (λ p. agree_value _ _ _ (λ v. agree_push _ _ refl))
      and (λ p. agree_value _ _ _ (λ v. agree_instructions _ _ a _ _ (λ is. agree_push _ _ refl)))
      and (λ p. agree_value _ _ _ (λ r. agree_value _ _ _ (λ l. agree_push _ _ refl)))
      and (λ p. agree_value _ _ _ (λ z. agree_value _ _ _ (λ y. agree_value _ _ _ (λ x. agree_push _ _ refl))))
      and (λ p. agree_value _ _ _ (λ v. agree_push _ _ refl))
      and (λ p. agree_statements _ _ a _ _ (λ ss. agree_push _ _ refl))
      and (λ p. if_same b (unless_none d))
      and (λ p. agree_block _ _ _ (λ s. agree_push _ _ refl))
      and (λ p. agree_cases _ _ b _ _ (λ cs. agree_push _ _ refl))
      and (λ p. agree_value _ _ _ (λ t. agree_block _ _ _ (λ s. agree_push _ _ refl)))
      and (λ p. agree_block _ _ _ (λ s. agree_value _ _ _ (λ t. agree_push _ _ refl)))
      and (λ p. agree_block _ _ _ (λ s. for_same c (unless_none b) s))
      and (λ p. agree_block _ _ _ (λ s. agree_value _ _ _ (λ t. agree_value _ _ _ (λ n. agree_push _ _ refl))))
      and (λ p. agree_block _ _ _ (λ s. agree_value _ _ _ (λ n. agree_push _ _ refl)))
      and (λ p. agree_block _ _ _ (λ s. agree_push _ _ refl))
      and (λ p. agree_block _ _ _ (λ h. agree_block _ _ _ (λ s. agree_push _ _ refl)))
      and (λ p. agree_block _ _ _ (λ s. agree_push _ _ refl))
      and (λ p. agree_block _ _ _ (λ s. agree_push _ _ refl))
      and (λ p. agree_push _ _ refl)
      and (λ p. agree_push _ _ refl)
      and (λ p. agree_push _ _ refl)
      and (λ p. agree_push _ _ refl)
      and ends)

finish_is : (sort : Sort) (o : Option Sorts) → elim o [ none ↦ none | some left ↦ some (sort ∷ left) ] ≡ finish sort o
finish_is sort none = refl
finish_is sort (some left) = refl

pub sort_step_lem : (r : Row) → in_range r ≡ true → (S : Forest) → sort_step r (sorts_of S) ≡ map sorts_of (close r S)
unfolding sort_step close
sort_step_lem (row op a b c d e) h S =
    let q : InRange op a b c d e = in_range_lem op a b c d e h in
    finish_is (made_by op) (taken (parts_of (row op a b c d e)) (sorts_of S)) ∙ (every_op a b c d e op q.known q.some_op).same S
