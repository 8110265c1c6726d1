-- Laws by which a `Met` follows the definition, step by step: a step that refused, a step that went on, and the ends; and the values that the
-- steps make of those found.
use mathlib.Core.Path.{◌≡◌, refl, sym, ap}
use mathlib.Core.Bool.{Bool, true, false}
use mathlib.Core.List.{List, [], ◌∷◌}
use Prim.Native.Nat.{ℕ, zero, suc, ◌+◌, ◌*◌, ◌≤◌, ◌<◌}
use native.Mathlib.Omega.{arith}
use lib.ListN.{length}
use Rattle.table.specs.Words.{place_count}
use Rattle.table.specs.Table.{Table, table_of, rows_from}
use Rattle.definition.specs.Result.{Result, ok, refused, ◌>>=◌, refuse_if}
use Rattle.definition.specs.Tree.{Row, Value, PLAIN, SEQ, Instructions, no_instructions, count_instructions}
use Rattle.definition.specs.Value.{ValueBlockResult, instructions_of, wrap_with_sequence}
use Rattle.values.specs.Rows.{Holds}
use Rattle.values.specs.Stack.{push_value, push_instructions, push_instruction_rows}
use Rattle.values.proofs.RowLaws.{written_held}
use Rattle.values.proofs.StackLaws.{push_instructions_of}
use Rattle.table.proofs.BlockLaws.{length_rows}
use Rattle.values.specs.declared.result.Tally.{Tally}
use Rattle.values.specs.declared.result.Trailing.{Trailing}
use Rattle.values.specs.declared.result.ValueBlockResult as code
use Rattle.values.specs.declared.refusal.Refusal.{Refusal}
use Rattle.values.specs.declared.refusal.Refused.{Refused}
use Rattle.values.specs.Refusal.{code_of, place_of, refused_after, refused_by}
use Rattle.std.specs.Prelude.{Ok, Err, IsErr, IsErrAnd}
use Rattle.std.specs.Prelude as std
use Rattle.values.specs.Met.{loads, block_result, Fit, Ends, Found, Begun, Numbers, Met, RowPut, InstructionsPut, Wrapped}

-- ---- steps

-- a `?` hands on the refusal that it meets
pub handed_on : {T E : Type 0} {r : std.Result T E} {e : E} → IsErr r × IsErrAnd r (λ y. y ≡ e) → r ≡ Err e
handed_on {r = Ok t} h = absurd h.1
handed_on {r = Err y} h = ap Err h.1

module _ {A B : Type 0} {ws : List ℕ} {of : code.ValueBlockResult → Value → A} {o : Result A} {y : Tally} {n : ℕ} {c c' : List ℕ} (k : A → Result B) where
  pub then_on_lem : {s : code.ValueBlockResult} (h : Met ws of o y n c (Ok s) c') → (o >>= k) ≡ k (of s h.value)
  unfolding ◌>>=◌
  then_on_lem h = rw h.same refl

  pub then_off : {e : Refused} → Met ws of o y n c (Err e) c' → (o >>= k) ≡ refused_by e
  unfolding ◌>>=◌
  then_off h = rw h.same refl

pub unless_on : {B : Type 0} (b : Bool) (code at visits : ℕ) (k : Unit {0} → Result B) → b ≡ true → (refuse_if b code at visits >>= k) ≡ refused code at visits
unfolding ◌>>=◌ refuse_if
unless_on b code at visits k e = rw e

pub unless_off : {B : Type 0} (b : Bool) (code at visits : ℕ) (k : Unit {0} → Result B) → b ≡ false → (refuse_if b code at visits >>= k) ≡ k tt
unfolding ◌>>=◌ refuse_if
unless_off b code at visits k e = rw e

module _ {B : Type 0} {ws : List ℕ} {of : code.ValueBlockResult → Value → B} {x : Tally} {m : ℕ} {b b' : List ℕ} where
  -- the step refused, and so does all
  pub pass : {A : Type 0} {of₁ : code.ValueBlockResult → Value → A} {o : Result A} {y : Tally} {n : ℕ} {c c' : List ℕ} {r : std.Result code.ValueBlockResult Refused} {e : Refused}
      (k : A → Result B) → r ≡ Err e → Met ws of₁ o y n c (Err e) c' → x.visits ≤ y.visits → Met ws of (o >>= k) x m b r b'
  pass k q h le = rw q (record { value = h.value; same = then_off k h; found = tt; numbers = record { visits = h.numbers.visits; rises = omega (arith, h.numbers) } })

  -- a refusal
  pub stops : {e : Refused} (refusal : Refusal) (visits : ℕ) → e ≡ refused_after refusal visits → Begun x visits
      → Met ws of (refused (code_of refusal) (place_of refusal) visits) x m b (Err e) b'
  stops refusal visits e z = rw e (record { value = PLAIN 0; same = refl; found = tt; numbers = z })

module _ {B : Type 0} {ws : List ℕ} {of : code.ValueBlockResult → Value → B} {x : Tally} {m : ℕ} {b : List ℕ} {r : std.Result code.ValueBlockResult Refused} {b' : List ℕ} where
  -- the step went on
  pub goes : {A : Type 0} {of₁ : code.ValueBlockResult → Value → A} {o : Result A} {y : Tally} {n : ℕ} {c c' : List ℕ} {s : code.ValueBlockResult} (k : A → Result B)
      → (h : Met ws of₁ o y n c (Ok s) c') → Met ws of (k (of₁ s h.value)) x m b r b' → Met ws of (o >>= k) x m b r b'
  goes k h g = rw (then_on_lem k h) g

  -- an outcome by another name
  pub defined : {o p : Result B} → o ≡ p → Met ws of p x m b r b' → Met ws of o x m b r b'
  defined e h = rw e h

-- the same, of a step that began with as many rows and at least as many visits
pub moved : {B : Type 0} {ws : List ℕ} {of : code.ValueBlockResult → Value → B} {x y : Tally} {n m : ℕ} {b b' : List ℕ} {o : Result B}
    {r : std.Result code.ValueBlockResult Refused} → Met ws of o y n b r b' → y.rows ≡ x.rows → x.visits ≤ y.visits → n + 8200 * x.visits ≤ m + 8200 * y.visits
    → Met ws of o x m b r b'
moved {r = Ok v} h e le paid = record {
  value = h.value;
  same = h.same;
  found = let g = h.found in record { held = λ stack q. g.held stack (rw e q); block = g.block; place = g.place; ends = g.ends; more = omega (arith, g.more, e) };
  numbers = record { visits = h.numbers.visits; rises = omega (arith, h.numbers); paid = omega (arith, h.numbers) };
}
moved {r = Err f} h e le paid = record { value = h.value; same = h.same; found = tt; numbers = record { visits = h.numbers.visits; rises = omega (arith, h.numbers) } }

-- ---- a value that is one row

-- whatever rows the buffer held, it holds them and the one that was put
pub row_kept : {b b' : List ℕ} {x y : Tally} {r : Row} → RowPut b x r b' y → (stack : List Row) → Holds b x.rows stack → Holds b' y.rows (r ∷ stack)
row_kept put = written_held (record { words = put.words; count = put.rows })

pub one_row : {ws b b' : List ℕ} {start tally : Tally} {m block place id : ℕ} {loaded : std.Option ℕ} {t : Trailing} {v : Row}
    (value : Value) → ((stack : List Row) → push_value value stack ≡ v ∷ stack)
    → Fit ws start (suc m) block → place < place_count ws → Ends ws value (loads loaded) → RowPut b start v b' tally → t ≡ loads loaded
    → Met ws block_result (ok (record { block = block; place = place; value = value; id = id; visits = start.visits })) start (suc m) b
    (Ok (record { block = block; place = place; id = id; tally = tally; trailing = t })) b'
one_row value pushes fit there ends put et =
    rw (et, ← put.visits) (record {
      value = value;
      same = refl;
      found = record { held = λ stack h. rw (pushes stack) (row_kept put stack h); block = fit.at; place = there; ends = ends; more = omega (arith, put.rows) };
      numbers = omega (arith, put.rows, put.visits, fit.visits);
    })

-- ---- values made of values

count_of : (t : Table) (rows : List ℕ) (more : Instructions) → count_instructions (instructions_of t rows more) ≡ length rows + count_instructions more
unfolding instructions_of
count_of t [] more = omega arith
count_of t (i ∷ rows) more = omega (arith, count_of t rows more)

pub count_rows : (t : Table) (first count : ℕ) (more : Instructions) → count_instructions (instructions_of t (rows_from first count) more) ≡ count + count_instructions more
count_rows t first count more = omega (arith, count_of t (rows_from first count) more, length_rows first count)

-- a SEQ over instructions whose rows are out
pub found_seq : {ws : List ℕ} {start x : Tally} {value : Value} {b b₁ b₂ b₃ : List ℕ} {v r : code.ValueBlockResult} (is : Instructions) (n : ℕ) → count_instructions is ≡ n → (n ≡ 0 → ⊥)
    → ((stack : List Row) → Holds b start.rows stack → Holds b₁ x.rows (push_instructions is stack)) → start.rows + n ≤ x.rows
    → Found ws x value b₁ v b₂ → Wrapped n v b₂ r b₃ → Found ws start (SEQ is v.id value) b r b₃
unfolding push_value
found_seq {value = value} {v = v} {r = r} is n e nz kept le f w =
    let s = w.some nz in
    let a = w.same value in
    let eb : r.block ≡ v.block = ap (λ (z : ValueBlockResult). z.block) a in
    let ep : r.place ≡ v.place = ap (λ (z : ValueBlockResult). z.place) a in
    record {
      held = λ stack h. rw e (w.kept nz _ (f.held _ (kept stack h)));
      block = rw eb f.block;
      place = rw ep f.place;
      ends = rw s.0 (record {
        sequences = omega (arith, f.ends.sequences);
        instructions = omega (arith, f.ends.instructions, e);
        loaded = f.ends.loaded;
        there = f.ends.there;
      });
      more = rw (s.0, s.1) (omega (arith, f.more, le));
    }

-- wrap_with_sequence: no SEQ where there is no instruction
pub found_wrap : {ws : List ℕ} {start x : Tally} {value : Value} {b b₁ b₂ b₃ : List ℕ} {v r : code.ValueBlockResult} (first count : ℕ)
    → InstructionsPut ws first count b start.rows b₁ x.rows → Found ws x value b₁ v b₂ → Wrapped count v b₂ r b₃
    → Found ws start (wrap_with_sequence (table_of ws) (rows_from first count) v.id value) b r b₃
unfolding wrap_with_sequence
found_wrap {x = x} first zero i f w =
    let e = w.none refl in
    rw (e.0, e.1)
    (record { held = λ stack h. f.held stack (unfold push_instruction_rows in (i.kept stack h)); block = f.block; place = f.place; ends = f.ends; more = omega (arith, f.more, i.more) })
found_wrap {ws} {x = x} first (suc n) i f w =
    found_seq {x = x} (instructions_of (table_of ws) (rows_from first (suc n)) no_instructions) (suc n) (omega (arith, count_rows (table_of ws) first (suc n) no_instructions)) (λ z. omega arith)
    (λ stack h. rw (push_instructions_of (table_of ws) (rows_from first (suc n)) no_instructions stack) (unfold push_value in (i.kept stack h)))
    (omega (arith, i.more)) f w

-- the definition's result with its value in a sequence, after the block's own instructions
abbrev pub wrap : List ℕ → (first count : ℕ) → ValueBlockResult → ValueBlockResult
wrap ws first count final = record {
  block = final.block;
  place = final.place;
  value = wrap_with_sequence (table_of ws) (rows_from first count) final.id final.value;
  id = final.id;
  visits = final.visits;
}

pub met_wrap : {ws : List ℕ} {start x : Tally} {o : Result ValueBlockResult} {m n : ℕ} {b b₁ b₂ b₃ : List ℕ} {v r : code.ValueBlockResult} (first count : ℕ)
    → InstructionsPut ws first count b start.rows b₁ x.rows → Met ws block_result o x n b₁ (Ok v) b₂ → Wrapped count v b₂ r b₃ → Numbers start m r.tally
    → Met ws block_result (o >>= λ final. ok (wrap ws first count final)) start m b (Ok r) b₃
met_wrap {ws} {x = x} first count i h w z =
    goes (λ final. ok (wrap ws first count final)) h (record {
      value = wrap_with_sequence (table_of ws) (rows_from first count) (_) h.value;
      same = ap ok (sym (w.same _));
      found = found_wrap {x = x} first count i h.found w;
      numbers = z;
    })
