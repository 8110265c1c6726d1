-- The walk over a tree takes at most three turns a row, the rounds of loops left out.
use Prim.Native.Nat.{ℕ, suc, ◌+◌, ◌*◌, ◌≤◌}
use native.Mathlib.Omega.{arith}
use native.Mathlib.Nat.{le_refl}
use mathlib.Core.Option.{Option, none, some}
use mathlib.Core.Bool.{true, false}
use Rattle.definition.specs.Tree.{Value, PLAIN, LOAD, UNDEF, SEQ, LOGICAL, COND, OPTIONAL, Instructions, no_instructions, instruction, Statement, INSTR, IF}
use Rattle.definition.specs.Tree.{SWITCH, DOWHILE, WHILE, FOR, FOROF, FORIN, LABEL, TRY, SCOPE, RETURN, THROW, BREAK, CONTINUE, Statements, done, ◌▸◌, Cases}
use Rattle.definition.specs.Tree.{no_cases, CASE}
use Rattle.tree_runs.specs.Numbered.{close_value, end_instructions, end_update, close_statement, end_statements, end_cases, numbered_statement, numbered, numbered_cases}
use Rattle.tree_runs.specs.Layout.{turns_of, turns_in, turns_in_cases}

mutual
  value_up : (v : Value) (f : ℕ) → f ≤ close_value f v
  value_up (PLAIN n) f = le_refl f
  value_up (LOAD n) f = le_refl f
  value_up (UNDEF n) f = le_refl f
  value_up (SEQ is i v) f =
      let p : f ≤ end_instructions f is = instructions_up is f in
      let q : end_instructions f is ≤ close_value (end_instructions f is) v = value_up v (end_instructions f is) in
      omega (arith, p, q)
  value_up (LOGICAL o l r) f =
      let p : f ≤ close_value f l = value_up l f in
      let q : suc (close_value f l) ≤ close_value (suc (close_value f l)) r = value_up r (suc (close_value f l)) in
      omega (arith, p, q)
  value_up (COND x y z) f =
      let p : f ≤ close_value f x = value_up x f in
      let q : suc (close_value f x) ≤ close_value (suc (close_value f x)) y = value_up y (suc (close_value f x)) in
      let r : suc (close_value (suc (close_value f x)) y) ≤ close_value (suc (close_value (suc (close_value f x)) y)) z = value_up z (suc (close_value (suc (close_value f x)) y)) in
      omega (arith, p, q, r)
  value_up (OPTIONAL g v) f = let p : f ≤ close_value f v = value_up v f in omega (arith, p)

  instructions_up : (is : Instructions) (f : ℕ) → f ≤ end_instructions f is
  instructions_up no_instructions f = le_refl f
  instructions_up (instruction i l s v r) f =
      let p : f ≤ close_value f v = value_up v f in
      let q : suc (suc (close_value f v)) ≤ end_instructions (suc (suc (close_value f v))) r = instructions_up r (suc (suc (close_value f v))) in
      omega (arith, p, q)

update_up : (u : Option Value) (f : ℕ) → f ≤ end_update f u
update_up none f = le_refl f
update_up (some v) f = let p : f ≤ close_value f v = value_up v f in omega (arith, p)

for_turns : (u : Option Value) (b : Statements) (f n t : ℕ) → f ≤ n → suc n ≤ t
    → turns_in (numbered (end_update (suc t) u) b) + 3 * end_update (suc t) u ≤ 3 * suc (end_statements (end_update (suc t) u) b)
    → suc (2 + turns_in (numbered (end_update (suc t) u) b)) + 3 * f ≤ 3 * suc (suc (end_statements (end_update (suc t) u) b))
for_turns u b f n t q r p = let v : suc t ≤ end_update (suc t) u = update_up u (suc t) in omega (arith, p, q, r, v)

mutual
  unfolding numbered_statement numbered numbered_cases

  pub statement_turns : (s : Statement) (f : ℕ) → suc (turns_of (numbered_statement f s)) + 3 * f ≤ 3 * suc (close_statement f s)
  statement_turns (INSTR i l s v) f = let p : f ≤ close_value f v = value_up v f in omega (arith, p)
  statement_turns (IF t i l c true x) f =
      let p : turns_in (numbered f c) + 3 * f ≤ 3 * suc (end_statements f c) = block_turns c f in
      let q : turns_in (numbered (suc (end_statements f c)) x) + 3 * suc (end_statements f c) ≤ 3 * suc (end_statements (suc (end_statements f c)) x) = block_turns x (suc (end_statements f c)) in
      omega (arith, p, q)
  statement_turns (IF t i l c false x) f = let p : turns_in (numbered f c) + 3 * f ≤ 3 * suc (end_statements f c) = block_turns c f in omega (arith, p)
  statement_turns (SWITCH t i l cs) f = let p : turns_in_cases (numbered_cases f cs) + 3 * f ≤ 3 * end_cases f cs = cases_turns cs f in omega (arith, p)
  statement_turns (DOWHILE i l b t) f =
      let p : turns_in (numbered f b) + 3 * f ≤ 3 * suc (end_statements f b) = block_turns b f in
      let q : suc (end_statements f b) ≤ close_value (suc (end_statements f b)) t = value_up t (suc (end_statements f b)) in
      omega (arith, p, q)
  statement_turns (WHILE i l t b) f =
      let q : f ≤ close_value f t = value_up t f in
      let p : turns_in (numbered (suc (close_value f t)) b) + 3 * suc (close_value f t) ≤ 3 * suc (end_statements (suc (close_value f t)) b) = block_turns b (suc (close_value f t)) in
      omega (arith, p, q)
  statement_turns (FOR i l n t u b) f =
      let q : f ≤ close_value f n = value_up n f in
      let r : suc (close_value f n) ≤ close_value (suc (close_value f n)) t = value_up t (suc (close_value f n)) in
      for_turns u b f (close_value f n) (close_value (suc (close_value f n)) t) q r (block_turns b (end_update (suc (close_value (suc (close_value f n)) t)) u))
  statement_turns (FOROF i l s n t b) f =
      let q : f ≤ close_value f n = value_up n f in
      let r : suc (close_value f n) ≤ close_value (suc (close_value f n)) t = value_up t (suc (close_value f n)) in
      let p : turns_in (numbered (suc (close_value (suc (close_value f n)) t)) b) + 3 * suc (close_value (suc (close_value f n)) t)
      ≤ 3 * suc (end_statements (suc (close_value (suc (close_value f n)) t)) b)
      = block_turns b (suc (close_value (suc (close_value f n)) t)) in
      omega (arith, p, q, r)
  statement_turns (FORIN i l s n b) f =
      let q : f ≤ close_value f n = value_up n f in
      let p : turns_in (numbered (suc (close_value f n)) b) + 3 * suc (close_value f n) ≤ 3 * suc (end_statements (suc (close_value f n)) b) = block_turns b (suc (close_value f n)) in
      omega (arith, p, q)
  statement_turns (LABEL i l b) f = let p : turns_in (numbered f b) + 3 * f ≤ 3 * suc (end_statements f b) = block_turns b f in omega (arith, p)
  statement_turns (TRY i l n b c) f =
      let p : turns_in (numbered f b) + 3 * f ≤ 3 * suc (end_statements f b) = block_turns b f in
      let q : turns_in (numbered (suc (end_statements f b)) c) + 3 * suc (end_statements f b) ≤ 3 * suc (end_statements (suc (end_statements f b)) c) = block_turns c (suc (end_statements f b)) in
      omega (arith, p, q)
  statement_turns (SCOPE pr s b) f = let p : turns_in (numbered f b) + 3 * f ≤ 3 * suc (end_statements f b) = block_turns b f in omega (arith, p)
  statement_turns (RETURN v i) f = omega arith
  statement_turns (THROW v i) f = omega arith
  statement_turns (BREAK t i k n) f = omega arith
  statement_turns (CONTINUE t i k n) f = omega arith

  pub block_turns : (ss : Statements) (f : ℕ) → turns_in (numbered f ss) + 3 * f ≤ 3 * suc (end_statements f ss)
  block_turns done f = omega arith
  block_turns (s ▸ r) f =
      let p : suc (turns_of (numbered_statement f s)) + 3 * f ≤ 3 * suc (close_statement f s) = statement_turns s f in
      let q : turns_in (numbered (suc (close_statement f s)) r) + 3 * suc (close_statement f s) ≤ 3 * suc (end_statements (suc (close_statement f s)) r) = block_turns r (suc (close_statement f s)) in
      omega (arith, p, q)

  pub cases_turns : (cs : Cases) (f : ℕ) → turns_in_cases (numbered_cases f cs) + 3 * f ≤ 3 * end_cases f cs
  cases_turns no_cases f = omega arith
  cases_turns (CASE t b r) f =
      let p : turns_in (numbered f b) + 3 * f ≤ 3 * suc (end_statements f b) = block_turns b f in
      let q : turns_in_cases (numbered_cases (suc (suc (end_statements f b))) r) + 3 * suc (suc (end_statements f b)) ≤ 3 * end_cases (suc (suc (end_statements f b)))
      r = cases_turns r (suc (suc (end_statements f b))) in
      omega (arith, p, q)
