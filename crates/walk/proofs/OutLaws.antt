-- What is out: a part put behind it.
use mathlib.Core.Path.{◌≡◌, refl, sym, ap, subst, ◌∙◌}
use mathlib.Core.Bool.{Bool, true, false}
use mathlib.Core.List.{List, [], ◌∷◌, ◌++◌}
use Prim.Native.Nat.{ℕ, ◌+◌, ◌*◌, ◌/◌, ◌≤◌, ◌<◌}
use native.Mathlib.Omega.{arith}
use lib.Dec.{ltb}
use lib.ListN.{length, take, drop, length-append}
use borrow.Rule.Slice.PartMut.{put_mid}
use Rattle.std.proofs.lemmas.List.{take-append-drop}
use Rattle.std.proofs.lemmas.Slice.{take-put_mid, drop-put_mid}
use lib.Seq.{sets, sets-eq, length-sets, length-take-le, take_at}
use borrow.Author.Tests.{lt-ltb, le-ltb}
use Rattle.table.specs.Table.{table_of, rows_from}
use Rattle.definition.specs.Index.{Line, line_words}
use Rattle.definition.specs.Output.{Output, value_out, instructions_out}
use Rattle.definition.specs.Tree.{Row, Value}
use Rattle.values.specs.Met.{InstructionsPut, Ends, Flattened, block_result}
use Rattle.values.specs.declared.result.ValueBlockResult as values
use Rattle.definition.specs.Value.{value_block_result_to_sequence}
use Rattle.table.specs.declared.columns.Span.{Span}
use Rattle.values.specs.Rows.{Holds, Written}
use Rattle.values.specs.Stack.{pushed, push_value}
use Rattle.values.proofs.RowLaws.{written_held}
use Rattle.values.proofs.StackLaws.{push_row_after, push_value_after, push_instruction_rows_after, length_pushed}
use Rattle.walk.specs.Out.{line_placed, HoldsLines, Out}
use Rattle.walk.specs.declared.state.Walk.{Walk}

-- ---- rows

pub row_out : {b b' : List ℕ} {n n' : ℕ} {r : Row} → Written b n r b' n' → (rows : List Row) → Holds b n (pushed rows []) → Holds b' n' (pushed (rows ++ (r ∷ [])) [])
row_out {b' = b'} {n' = n'} {r = r} w rows h = subst (λ (s : List Row). Holds b' n' s) (push_row_after r rows) (written_held w (pushed rows []) h)

pub instructions_behind : {ws : List ℕ} {first count : ℕ} {b b' : List ℕ} {n n' : ℕ} → InstructionsPut ws first count b n b' n' → (rows : List Row) → Holds b n (pushed rows [])
    → Holds b' n' (pushed (rows ++ instructions_out (table_of ws) (rows_from first count)) [])
instructions_behind {ws} {first} {count} {b' = b'} {n' = n'} i rows h =
    subst (λ (s : List Row). Holds b' n' s) (push_instruction_rows_after (table_of ws) (rows_from first count) rows) (i.kept (pushed rows []) h)

pub value_behind : {b b' : List ℕ} {n n' : ℕ} (v : Value) → ((stack : List Row) → Holds b n stack → Holds b' n' (push_value v stack)) → (rows : List Row) → Holds b n (pushed rows [])
    → Holds b' n' (pushed (rows ++ value_out v) [])
value_behind {b' = b'} {n' = n'} v held rows h = subst (λ (s : List Row). Holds b' n' s) (push_value_after v rows) (held (pushed rows []) h)

-- the number of rows that are out
pub out_length : {origin w : Walk} {out : Output} → Out origin w out → length out.rows ≡ w.tally.rows
out_length {out = out} o = omega (arith, o.rows.count, length_pushed out.rows [])

-- ---- lines

line_words_append : (xs ys : List Line) → line_words (xs ++ ys) ≡ line_words xs ++ line_words ys
unfolding line_words
line_words_append [] ys = refl
line_words_append (x ∷ xs) ys = ap (λ (z : List ℕ). x.label ∷ x.first ∷ x.closing ∷ z) (line_words_append xs ys)

module _ (index : List ℕ) (n label first closing : ℕ) where
  abbrev words : List ℕ
  words = label ∷ first ∷ closing ∷ []

  placed_here : n < length index / 3 → sets index (n * 3) words ≡ line_placed index n label first closing
  unfolding line_placed
  placed_here h = ap (λ (y : Bool). elim y [ true ↦ sets index (n * 3) words | false ↦ index ]) (sym (lt-ltb n (length index / 3) h))

  -- a copy into the place's three words
  pub placed_part : (part : List ℕ) (k : ℕ) → n < length index / 3 → k ≡ 3 → part ≡ words → put_mid (n * 3) k index part ≡ line_placed index n label first closing
  placed_part part k h e p =
      let from : n * 3 ≤ length index = omega (arith, h) in
      let long : length part ≡ 3 = rw p refl in
      sym (take-append-drop (n * 3 + 3) (put_mid (n * 3) k index part))
      ∙ rw (
        take-put_mid (n * 3) k index part (n * 3 + 3) (omega (arith, long)) from,
        drop-put_mid (n * 3) k index part (n * 3 + 3) (omega (arith, e)) from (omega (arith, long, e)),
        p,
      ) (sym (sets-eq words index (n * 3) (omega (arith, h))))
      ∙ placed_here h

  pub placed_nowhere : length index / 3 ≤ n → index ≡ line_placed index n label first closing
  unfolding line_placed
  placed_nowhere h = ap (λ (y : Bool). elim y [ true ↦ sets index (n * 3) words | false ↦ index ]) (sym (le-ltb n (length index / 3) h))

  placed_length : length (line_placed index n label first closing) ≡ length index
  unfolding line_placed
  placed_length = at (ltb n (length index / 3))
    where
      at : (y : Bool) → length {A = ℕ} (elim y [ true ↦ sets index (n * 3) words | false ↦ index ]) ≡ length index
      at true = length-sets index (n * 3) words
      at false = refl

  placed_take : n < length index / 3 → take ((n + 1) * 3) (line_placed index n label first closing) ≡ take (n * 3) index ++ words
  placed_take h =
      let split : line_placed index n label first closing ≡ (take (n * 3) index ++ words) ++ drop (n * 3 + 3) index =
      sym (placed_here h) ∙ sets-eq words index (n * 3) (omega (arith, h)) in
      ap (λ (z : List ℕ). take ((n + 1) * 3) z) split
      ∙ take_at (take (n * 3) index ++ words) (drop (n * 3 + 3) index) ((n + 1) * 3)
      (omega (arith, length-append (take (n * 3) index) words, length-take-le (n * 3) index (omega (arith, h))))

  pub line_held : (lines : List Line) → HoldsLines index n lines
      → HoldsLines (line_placed index n label first closing) (n + 1) (lines ++ (record { label = label; first = first; closing = closing } ∷ []))
  unfolding line_words
  line_held lines h = record {
    count = length-append lines (record { label = label; first = first; closing = closing } ∷ []) ∙ omega (arith, h.count);
    words = λ k.
        let room : n < length index / 3 = omega (arith, rw placed_length at k) in
        placed_take room ∙ ap (λ (z : List ℕ). z ++ words) (h.words (omega (arith, room))) ∙ sym (line_words_append lines (record { label = label; first = first; closing = closing } ∷ []));
  }

pub no_lines : (index : List ℕ) → HoldsLines index 0 []
unfolding line_words
no_lines index = record { count = refl; words = λ _. refl }

pub flat_behind : {ws : List ℕ} {r : values.ValueBlockResult} {span : Span} {b b' : List ℕ} {n' : ℕ} (v : Value) → Ends ws v r.trailing → Flattened ws r span b b' n' → (rows : List Row)
    → Holds b r.tally.rows (pushed (rows ++ value_out v) []) → Holds b' n' (pushed (rows ++ value_out (value_block_result_to_sequence (table_of ws) (block_result r v) span)) [])
flat_behind {ws} {r} {span} {b} {b'} {n'} v ends flat rows h =
    subst (λ (s : List Row). Holds b' n' s) (push_value_after (value_block_result_to_sequence (table_of ws) (block_result r v) span) rows)
    (flat.held v ends (pushed rows []) (subst (λ (s : List Row). Holds b r.tally.rows s) (sym (push_value_after v rows)) h))
