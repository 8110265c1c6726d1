-- The table that the words stand for: rows as records, a block's end as one of the paper's terminals. Below this file nothing looks at words.
use Rattle.std.specs.Prelude.{ℕ, zero, suc, List, [], ◌∷◌, Bool, true, false, get_or, eqb}
use Rattle.std.proofs.Math.Option.{Option, none, some}
use Rattle.table.specs.declared.columns.Span.{Span}
use Rattle.table.specs.Words.{entry_word, block_count, instruction_count, case_count, place_count, identifier_count, block_word, instruction_word, case_word, place_word, identifier_word, largest}

-- "variant (0 Break, 1 Continue, 2 Try)"
pub data Variant : Type 0 where
  Break Continue Try : Variant

-- "Codes and columns": the 22 codes in their order. Scope (20) and PrunedScope (21) have the same columns and differ in the flag
pub data Terminal : Type 0 where
  absent : Terminal
  unreachable : Terminal
  throw : (value : ℕ) → Terminal
  return : (value : ℕ) → Terminal
  goto : (block : ℕ) → (variant : Variant) → Terminal
  if : (test consequent alternate fallthrough : ℕ) → Terminal
  branch : (test consequent alternate : ℕ) → Terminal
  switch : (test first number fallthrough : ℕ) → Terminal
  do_while : (loop test fallthrough : ℕ) → Terminal
  while : (test loop fallthrough : ℕ) → Terminal
  for : (init test : ℕ) → (update : Option ℕ) → (loop fallthrough : ℕ) → Terminal
  for_of : (init test loop fallthrough : ℕ) → Terminal
  for_in : (init loop fallthrough : ℕ) → Terminal
  logical : (operator test fallthrough : ℕ) → Terminal
  ternary : (test fallthrough : ℕ) → Terminal
  optional : (flag test fallthrough : ℕ) → Terminal
  label : (block fallthrough : ℕ) → Terminal
  sequence : (block fallthrough : ℕ) → Terminal
  maybe_throw : (continuation : ℕ) → Terminal
  try : (block handler fallthrough : ℕ) → (binding : Option ℕ) → Terminal
  scope : (pruned : Bool) → (block fallthrough scope : ℕ) → Terminal

-- the code of a terminal
abbrev pub code_of : Terminal → ℕ
code_of absent = 0
code_of unreachable = 1
code_of (throw value) = 2
code_of (return value) = 3
code_of (goto block variant) = 4
code_of (if test consequent alternate fallthrough) = 5
code_of (branch test consequent alternate) = 6
code_of (switch test first number fallthrough) = 7
code_of (do_while loop test fallthrough) = 8
code_of (while test loop fallthrough) = 9
code_of (for init test update loop fallthrough) = 10
code_of (for_of init test loop fallthrough) = 11
code_of (for_in init loop fallthrough) = 12
code_of (logical operator test fallthrough) = 13
code_of (ternary test fallthrough) = 14
code_of (optional flag test fallthrough) = 15
code_of (label block fallthrough) = 16
code_of (sequence block fallthrough) = 17
code_of (maybe_throw continuation) = 18
code_of (try block handler fallthrough binding) = 19
code_of (scope false block fallthrough number) = 20
code_of (scope true block fallthrough number) = 21

-- "0 no such block"
abbrev pub is_absent : Terminal → Bool
is_absent terminal = eqb (code_of terminal) 0

abbrev pub is_unreachable : Terminal → Bool
is_unreachable terminal = eqb (code_of terminal) 1

abbrev pub is_goto : Terminal → Bool
is_goto terminal = eqb (code_of terminal) 4

-- "A span becomes two words, from and to; none is 0 and 0": the record `Span`, which the code has too. It is handed on as one thing
abbrev pub no_span : Span
no_span = record { from = 0; to = 0 }

pub record Block : Type 0 where
  pub first : ℕ
  pub count : ℕ
  pub terminal : Terminal
  pub id : ℕ
  pub span : Span

-- "Code 0 other, 1 LoadLocal (p place), 2 StoreLocal (p stored to, q stored value)"
pub data Operation : Type 0 where
  other : Operation
  load_local : (place : ℕ) → Operation
  store_local : (stored_to stored_value : ℕ) → Operation

pub record Instruction : Type 0 where
  pub id : ℕ
  pub lvalue : ℕ
  pub operation : Operation
  pub span : Span

pub record Case : Type 0 where
  pub test : ℕ
  pub block : ℕ

-- places hold their identifier; identifiers whether they are named, 0 or 1
pub record Table : Type 0 where
  pub entry : ℕ
  pub blocks : List Block
  pub instructions : List Instruction
  pub cases : List Case
  pub places : List ℕ
  pub named : List ℕ

-- ---- from words

-- "65,535 means none"
unfoldable pub unless_none : ℕ → Option ℕ
unless_none n = elim (eqb n largest) [ true ↦ none | false ↦ some n ]

unfoldable pub variant_of : ℕ → Variant
variant_of zero = Break
variant_of (suc zero) = Continue
variant_of (suc (suc n)) = Try

-- the terminals with the columns a to e, in the order of their codes
abbrev pub terminals_by_code : (a b c d e : ℕ) → List Terminal
terminals_by_code a b c d e =
    absent
    ∷ unreachable
    ∷ throw a
    ∷ return a
    ∷ goto a (variant_of b)
    ∷ if a b c d
    ∷ branch a b c
    ∷ switch a b c d
    ∷ do_while a b c
    ∷ while a b c
    ∷ for a b (unless_none c) d e
    ∷ for_of a b c d
    ∷ for_in a b c
    ∷ logical a b c
    ∷ ternary a b
    ∷ optional a b c
    ∷ label a b
    ∷ sequence a b
    ∷ maybe_throw a
    ∷ try a b c (unless_none d)
    ∷ scope false a b c
    ∷ scope true a b c
    ∷ []

unfoldable pub terminal_of : (code a b c d e : ℕ) → Terminal
terminal_of code a b c d e = get_or (terminals_by_code a b c d e) code absent

-- "block: first, count, code, a, b, c, d, e, id, from, to"
unfoldable pub block_of : List ℕ → ℕ → Block
block_of ws row =
    let column : ℕ → ℕ = block_word ws row in
    record {
      first = column 0;
      count = column 1;
      terminal = terminal_of (column 2) (column 3) (column 4) (column 5) (column 6) (column 7);
      id = column 8;
      span = record { from = column 9; to = column 10 };
    }

unfoldable pub operation_of : (code p q : ℕ) → Operation
operation_of zero p q = other
operation_of (suc zero) p q = load_local p
operation_of (suc (suc n)) p q = store_local p q

-- "instruction: id, lvalue, code, p, q, from, to"
unfoldable pub instruction_of : List ℕ → ℕ → Instruction
instruction_of ws row =
    let column : ℕ → ℕ = instruction_word ws row in
    record { id = column 0; lvalue = column 1; operation = operation_of (column 2) (column 3) (column 4); span = record { from = column 5; to = column 6 } }

-- "case, 2: test, block"
unfoldable pub case_of : List ℕ → ℕ → Case
case_of ws row = record { test = case_word ws row 0; block = case_word ws row 1 }

-- f 0, f 1, .. of so many rows
unfoldable pub tabulate : {A : Type 0} → (ℕ → A) → ℕ → List A
tabulate f zero = []
tabulate f (suc n) = f 0 ∷ tabulate (λ i. f (suc i)) n

unfoldable pub table_of : List ℕ → Table
table_of ws = record {
  entry = entry_word ws;
  blocks = tabulate (block_of ws) (block_count ws);
  instructions = tabulate (instruction_of ws) (instruction_count ws);
  cases = tabulate (case_of ws) (case_count ws);
  places = tabulate (place_word ws) (place_count ws);
  named = tabulate (identifier_word ws) (identifier_count ws);
}

-- ---- looking rows up; beyond the table stands a row of zeros

abbrev pub no_block : Block
no_block = record { first = 0; count = 0; terminal = absent; id = 0; span = no_span }

abbrev pub no_instruction : Instruction
no_instruction = record { id = 0; lvalue = 0; operation = other; span = no_span }

abbrev pub block_at : Table → ℕ → Block
block_at t b = get_or t.blocks b no_block

abbrev pub terminal_at : Table → ℕ → Terminal
terminal_at t b = (block_at t b).terminal

abbrev pub instruction_at : Table → ℕ → Instruction
instruction_at t i = get_or t.instructions i no_instruction

-- first, first + 1, .. : so many rows
abbrev pub rows_from : ℕ → ℕ → List ℕ
rows_from first zero = []
rows_from first (suc count) = first ∷ rows_from (suc first) count

-- "A block's instructions are `count` rows from `first`"
abbrev pub instruction_rows : Block → List ℕ
instruction_rows block = rows_from block.first block.count

abbrev pub instruction_rows_at : Table → ℕ → List ℕ
instruction_rows_at t b = instruction_rows (block_at t b)
