-- The block run goes where the tree run of a value goes: over what `Reads` describes, by induction. For a law of tables with values.
use mathlib.Core.Path.{◌≡◌, refl, sym, ap, ◌∙◌, subst}
use Prim.Native.Nat.{ℕ, zero, suc}
use native.Mathlib.Nat.{le_refl, le_step}
use native.Mathlib.Omega.{arith}
use mathlib.Core.List.{List, [], ◌∷◌, ◌++◌, append_assoc, append-nil}
use mathlib.Core.Option.{Option, none, some}
use mathlib.Core.Bool.{Bool, true, false, ◌&&◌, cond}
use lib.ListN.{length}
use lib.Dec.{eqb}
use borrow.Author.Tests.{eq-eqb}
use Rattle.table.specs.declared.columns.Span.{Span}
use Rattle.table.specs.Table.{Table, Terminal, Variant, Operation, other, load_local, store_local, goto, branch, logical, ternary, optional, maybe_throw, code_of, is_goto, block_at, terminal_at}
use Rattle.table.specs.Table.{instruction_at, instruction_rows_at}
use Rattle.definition.specs.Tree.{Value, LOAD, SEQ, LOGICAL, COND, OPTIONAL, Instructions, no_instructions}
use Rattle.definition.specs.Run.{Answers, no_answer_left}
use Rattle.definition.specs.BlockRun.{go, halt, by_answer, move}
use Rattle.definition.specs.Value.{instructions_of, wrap_with_sequence, final_value, stored_to_named, all_but_last, last, single_instruction, is_empty, is_empty_goto}
use Rattle.definition.specs.Completion.{contains}
use Rattle.definition.specs.Plain.{fallthrough_of}
use Rattle.definition.proofs.Steps.{true_false}
use Rattle.definition.specs.ValueEnds.{value_fallthrough, ends_at, end_of, store_at_end, seen_rows}
use Rattle.definition.specs.WideRun.{wide_move}
use Rattle.definition.specs.ValueRun.{Ending, in_whole, in_short, stopping, Valued, valued, value_prefix, then_value_on, then_value, ask, without, taken_over_on, taken_over}
use Rattle.definition.specs.ValueRun.{is_load, is_link, run_value, run_optional, run_all}
use Rattle.definition.specs.PlainValue.{is_optional, Asks, GoesTo, NoStore}
use Rattle.definition.proofs.Chains.{Silent, silent_goto, silent_throw, Bare, bare_branch, bare_throw, Owns, Unowned, Exits, exit_last, exit_linked}
use Rattle.definition.proofs.SeenConditions.{Quiet, SeenValues}
use Rattle.definition.proofs.ValueReads.{end_value, Reads, reads_goto, reads_branch, reads_empty, reads_last_throw, reads_throw, reads_on, ReadsTerminal, reads_logical, reads_ternary}
use Rattle.definition.proofs.ValueReads.{reads_optional, reads_sequence}
use Rattle.definition.proofs.Arrive.{rows_at, move_of, Onward, Arrives, arrives_here, onward_from, stops_from, onward_go, onward_onward, onward_arrives, On, ValueOn}
use Rattle.definition.proofs.Arrive.{TermOn, value_after, term_after, on_any, value_then}

-- ---- then

then_whole_on : (k : Ending) (rows : List ℕ) (left : Answers) → then_value_on k (valued rows k left) (λ l. valued [] in_whole l) ≡ valued rows k left
unfolding then_value_on value_prefix valued
then_whole_on in_whole rows left = ap (λ (z : List ℕ). valued z in_whole left) (append-nil rows)
then_whole_on in_short rows left = refl
then_whole_on (stopping r) rows left = refl

pub then_whole : (o : Valued) → then_value o (λ l. valued [] in_whole l) ≡ o
unfolding then_value valued
then_whole o = then_whole_on o.ending o.rows o.left

then_same_on : (k : Ending) (o : Valued) (f g : Answers → Valued) → ((a : Answers) → f a ≡ g a) → then_value_on k o f ≡ then_value_on k o g
unfolding then_value_on
then_same_on in_whole o f g h = ap (λ (z : Valued). value_prefix o.rows z) (h o.left)
then_same_on in_short o f g h = refl
then_same_on (stopping r) o f g h = refl

pub then_same : (o : Valued) (f g : Answers → Valued) → ((a : Answers) → f a ≡ g a) → then_value o f ≡ then_value o g
unfolding then_value
then_same o f g h = then_same_on o.ending o f g h

pub seen_append : (seen_row : ℕ → Bool) (a b : List ℕ) → seen_rows seen_row (a ++ b) ≡ seen_rows seen_row a ++ seen_rows seen_row b
seen_append seen_row [] b = refl
seen_append seen_row (r ∷ rs) b = at (seen_row r) (seen_append seen_row rs b)
  where
    at : (y : Bool) → seen_rows seen_row (rs ++ b) ≡ seen_rows seen_row rs ++ seen_rows seen_row b
        → cond y (r ∷ seen_rows seen_row (rs ++ b)) (seen_rows seen_row (rs ++ b)) ≡ cond y (r ∷ seen_rows seen_row rs) (seen_rows seen_row rs) ++ seen_rows seen_row b
    at true h = ap (λ (z : List ℕ). r ∷ z) h
    at false h = h

but_last : (row : ℕ) (rows : List ℕ) → all_but_last row rows ++ (last row rows ∷ []) ≡ row ∷ rows
unfolding all_but_last last
but_last row [] = refl
but_last row (next ∷ rows) = ap (λ (z : List ℕ). row ∷ z) (but_last next rows)

module _ (t : Table) (seen_row : ℕ → Bool) where
  abbrev run : Value → Bool → Answers → Valued
  run v tested a = run_value seen_row v tested a

  -- ---- rows and the value at their end

  run_rows : (rows : List ℕ) (more : Instructions) (link : Bool) (a : Answers) → run_all seen_row (instructions_of t rows more) link a ≡ value_prefix (seen_rows seen_row rows) (run_all seen_row more link a)
  unfolding instructions_of run_all run_value then_value then_value_on value_prefix valued
  run_rows [] more link a = refl
  run_rows (r ∷ rows) more link a =
      ap (λ (z : Valued). value_prefix (seen_rows seen_row (r ∷ [])) z) (run_rows rows more link a)
      ∙ ap (λ (z : List ℕ). valued z (run_all seen_row more link a).ending (run_all seen_row more link a).left)
      (sym (append_assoc (seen_rows seen_row (r ∷ [])) (seen_rows seen_row rows) (run_all seen_row more link a).rows)
      ∙ ap (λ (z : List ℕ). z ++ (run_all seen_row more link a).rows) (sym (seen_append seen_row (r ∷ []) rows)))

  run_wrapped : (rows : List ℕ) (i : ℕ) (v : Value) (tested : Bool) (a : Answers) → run (wrap_with_sequence t rows i v) tested a ≡ value_prefix (seen_rows seen_row rows) (run v tested a)
  unfolding wrap_with_sequence run_value run_all then_value then_value_on value_prefix valued
  run_wrapped [] i v tested a = refl
  run_wrapped (r ∷ rows) i v tested a =
      ap (λ (o : Valued). then_value o (λ l. run v tested l)) (run_rows (r ∷ rows) no_instructions (is_load v && tested) a)
      ∙ ap (λ (z : List ℕ). value_prefix z (run v tested a)) (append-nil (seen_rows seen_row (r ∷ rows)))

  run_final : (row : ℕ) (op : Operation) (named : ℕ) (tested : Bool) (a : Answers) → seen_rows seen_row (cond (eqb named 0) (row ∷ []) []) ≡ []
      → run (final_value row op named) tested a ≡ valued (seen_rows seen_row (row ∷ [])) in_whole a
  unfolding final_value run_value
  run_final row other named tested a q = refl
  run_final row (load_local p) named tested a q = refl
  run_final row (store_local p s) zero tested a q = ap (λ (z : List ℕ). valued z in_whole a) (sym q)
  run_final row (store_local p s) (suc named) tested a q = refl

  run_end : (row : ℕ) (rows : List ℕ) (tested : Bool) (a : Answers) → seen_rows seen_row (store_at_end t (row ∷ rows)) ≡ []
      → run (end_value t row rows) tested a ≡ valued (seen_rows seen_row (row ∷ rows)) in_whole a
  unfolding value_prefix valued
  run_end row rows tested a q =
      run_wrapped (all_but_last row rows) (instruction_at t (last row rows)).id
      (final_value (last row rows) (instruction_at t (last row rows)).operation (stored_to_named t (instruction_at t (last row rows)).operation)) tested a
      ∙ ap (λ (z : Valued). value_prefix (seen_rows seen_row (all_but_last row rows)) z)
      (run_final (last row rows) (instruction_at t (last row rows)).operation (stored_to_named t (instruction_at t (last row rows)).operation) tested a q)
      ∙ ap (λ (z : List ℕ). valued z in_whole a)
      (sym (seen_append seen_row (all_but_last row rows) (last row rows ∷ [])) ∙ ap (λ (z : List ℕ). seen_rows seen_row z) (but_last row rows))

  run_single : (i j l : ℕ) (s : Span) (w u : Value) (rows : List ℕ) (tested : Bool) (a : Answers)
      → run (SEQ (instructions_of t rows (single_instruction j l s w)) i u) tested a
      ≡ then_value (value_prefix (seen_rows seen_row rows) (run w (is_link w no_instructions && (is_load u && tested)) a)) (λ b. run u tested b)
  unfolding run_value run_all
  run_single i j l s w u rows tested a =
      ap (λ (o : Valued). then_value o (λ b. run u tested b))
      (run_rows rows (single_instruction j l s w) (is_load u && tested) a
      ∙ ap (λ (z : Valued). value_prefix (seen_rows seen_row rows) z) (then_whole (run w (is_link w no_instructions && (is_load u && tested)) a)))

  -- ---- terminals differ

  pub codes : (b : ℕ) (m m' : Terminal) → terminal_at t b ≡ m → terminal_at t b ≡ m' → eqb (code_of m) (code_of m') ≡ false → ⊥
  codes b m m' e e' h = true_false (sym (eq-eqb (code_of m) (code_of m') (ap code_of (sym e ∙ e'))) ∙ h)

  abbrev value_codes : List ℕ
  value_codes = 13 ∷ 14 ∷ 15 ∷ 17 ∷ []

  pub value_code : {m : Terminal} {w : Value} {f : ℕ} → ReadsTerminal t m w f → contains value_codes (code_of m) ≡ true
  value_code (reads_logical o x f y p c d hx hl el hr er j l i s q _ _ _ _ _ _ _ _) = ap (λ (z : Terminal). contains value_codes (code_of z)) q
  value_code (reads_ternary x f y p c d hx hl el hr er q _ _ _ _ _ _ _ _) = ap (λ (z : Terminal). contains value_codes (code_of z)) q
  value_code (reads_optional o x f y p c d hx hl el j l i s q _ _ _ _ _ _) = ap (λ (z : Terminal). contains value_codes (code_of z)) q
  value_code (reads_sequence c f hl el q _ _) = ap (λ (z : Terminal). contains value_codes (code_of z)) q

  not_value : (b : ℕ) {m : Terminal} {w : Value} {f : ℕ} → ReadsTerminal t m w f → terminal_at t b ≡ m → (m' : Terminal) → terminal_at t b ≡ m' → contains value_codes (code_of m') ≡ false → ⊥
  not_value b r e m' e' h = true_false (sym (value_code r) ∙ ap (λ (z : Terminal). contains value_codes (code_of z)) (sym e ∙ e') ∙ h)

  pub throw_eq : {n n' : ℕ} → maybe_throw n ≡ maybe_throw n' → n ≡ n'
  throw_eq e = cc

  pub goto_eq : {g g' : ℕ} {k k' : Variant} → goto g k ≡ goto g' k' → g ≡ g'
  goto_eq e = cc

  branch_eq : {p c d p' c' d' : ℕ} → branch p c d ≡ branch p' c' d' → c ≡ c'
  branch_eq e = cc

  cons_nil : {r : ℕ} {rs : List ℕ} → r ∷ rs ≡ [] → ⊥
  cons_nil e = let z : ◌≡◌ {A = ℕ} 0 1 = cc in omega arith

  -- ---- what is no link, and what is a bare load

  final_link : (row : ℕ) (op : Operation) (named : ℕ) → is_link (final_value row op named) no_instructions ≡ false
  unfolding final_value
  final_link row other named = refl
  final_link row (load_local p) named = refl
  final_link row (store_local p s) zero = refl
  final_link row (store_local p s) (suc named) = refl

  wrap_link : (rows : List ℕ) (i : ℕ) (v : Value) → is_link v no_instructions ≡ false → is_link (wrap_with_sequence t rows i v) no_instructions ≡ false
  unfolding wrap_with_sequence
  wrap_link [] i v h = h
  wrap_link (r ∷ rows) i v h = refl

  end_link : (row : ℕ) (rows : List ℕ) → is_link (end_value t row rows) no_instructions ≡ false
  end_link row rows =
      wrap_link (all_but_last row rows) (instruction_at t (last row rows)).id
      (final_value (last row rows) (instruction_at t (last row rows)).operation (stored_to_named t (instruction_at t (last row rows)).operation))
      (final_link (last row rows) (instruction_at t (last row rows)).operation (stored_to_named t (instruction_at t (last row rows)).operation))

  no_link : {b h e : ℕ} {v : Value} → Reads t b v h e → is_link v no_instructions ≡ false
  no_link (reads_goto g k row rows e r q) = ap (λ (z : Value). is_link z no_instructions) q ∙ end_link row rows
  no_link (reads_branch p c d row rows e r q) = ap (λ (z : Value). is_link z no_instructions) q ∙ end_link row rows
  no_link (reads_empty p c d e r q) = ap (λ (z : Value). is_link z no_instructions) q
  no_link (reads_last_throw n row rows e i r q) = ap (λ (z : Value). is_link z no_instructions) q ∙ end_link row rows
  no_link {b} (reads_throw {w} n i e k r q) = ap (λ (z : Value). is_link z no_instructions) q ∙ wrap_link (instruction_rows_at t b) i w (no_link r)
  no_link (reads_on m f i j l s e r u q) = ap (λ (z : Value). is_link z no_instructions) q

  final_load : (row : ℕ) (op : Operation) (named : ℕ) → cond (eqb named 0) (row ∷ []) [] ≡ [] → is_load (final_value row op named) ≡ true → ⊥
  unfolding final_value
  final_load row other named h k = true_false (sym k)
  final_load row (load_local p) named h k = true_false (sym k)
  final_load row (store_local p s) zero h k = cons_nil h
  final_load row (store_local p s) (suc named) h k = true_false (sym k)

  end_load : (row : ℕ) (rows : List ℕ) → store_at_end t (row ∷ rows) ≡ [] → is_load (end_value t row rows) ≡ true → ⊥
  unfolding wrap_with_sequence all_but_last last
  end_load row [] h k = final_load row (instruction_at t row).operation (stored_to_named t (instruction_at t row).operation) h k
  end_load row (next ∷ rows) h k = true_false (sym k)

  no_store_load : (b row : ℕ) (rows : List ℕ) (v : Value) → instruction_rows_at t b ≡ row ∷ rows → v ≡ end_value t row rows → NoStore t b → is_load v ≡ true → ⊥
  no_store_load b row rows v r q h k = end_load row rows (subst (λ (z : List ℕ). store_at_end t z ≡ []) r h) (sym (ap is_load q) ∙ k)

  bare_load : {b h e : ℕ} {v : Value} → Reads t b v h e → (e' : ℕ) → Bare t b e' → (is_load v ≡ true) × (e ≡ e')
  unfolding wrap_with_sequence
  bare_load {b} (reads_goto g k row rows e r q) e' (bare_branch p c d e₂ r₂) = absurd (codes b (goto g k) (branch p c d) e e₂ refl)
  bare_load {b} (reads_goto g k row rows e r q) e' (bare_throw n e₂ i₂ r₂ z) = absurd (codes b (goto g k) (maybe_throw n) e e₂ refl)
  bare_load (reads_branch p c d row rows e r q) e' (bare_branch p' c' d' e₂ r₂) = absurd (cons_nil (sym r ∙ r₂))
  bare_load (reads_branch p c d row rows e r q) e' (bare_throw n e₂ i₂ r₂ z) = absurd (cons_nil (sym r ∙ r₂))
  bare_load (reads_empty p c d e r q) e' (bare_branch p' c' d' e₂ r₂) = (ap is_load q, refl)
  bare_load {b} (reads_empty p c d e r q) e' (bare_throw n e₂ i₂ r₂ z) = absurd (codes b (branch p c d) (maybe_throw n) e e₂ refl)
  bare_load (reads_last_throw n row rows e i r q) e' (bare_branch p c d e₂ r₂) = absurd (cons_nil (sym r ∙ r₂))
  bare_load (reads_last_throw n row rows e i r q) e' (bare_throw n' e₂ i₂ r₂ z) = absurd (cons_nil (sym r ∙ r₂))
  bare_load {b} (reads_throw n i e k r q) e' (bare_branch p c d e₂ r₂) = absurd (codes b (maybe_throw n) (branch p c d) e e₂ refl)
  bare_load {b} (reads_throw {w} n i e k r q) e' (bare_throw n' e₂ i₂ r₂ z) =
      let (l, m) = bare_load r e' (subst (λ (x : ℕ). Bare t x e') (sym (throw_eq (sym e ∙ e₂))) z) in
      (ap is_load (q ∙ ap (λ (x : List ℕ). wrap_with_sequence t x i w) r₂) ∙ by w l, m)
    where
      by : (w : Value) → is_load w ≡ true → is_load (wrap_with_sequence t [] i w) ≡ true
      by w l = l
  bare_load {b} (reads_on m f i j l s e r u q) e' (bare_branch p c d e₂ r₂) = absurd (not_value b r e (branch p c d) e₂ refl)
  bare_load {b} (reads_on m f i j l s e r u q) e' (bare_throw n e₂ i₂ r₂ z) = absurd (not_value b r e (maybe_throw n) e₂ refl)

  load_bare : {b h e : ℕ} {v : Value} → Reads t b v h e → NoStore t h → is_load v ≡ true → Bare t b e
  unfolding wrap_with_sequence
  load_bare {b} {v} (reads_goto g k row rows e r q) h l = absurd (no_store_load b row rows v r q h l)
  load_bare {b} {v} (reads_branch p c d row rows e r q) h l = absurd (no_store_load b row rows v r q h l)
  load_bare (reads_empty p c d e r q) h l = bare_branch p c d e r
  load_bare {b} {v} (reads_last_throw n row rows e i r q) h l = absurd (no_store_load b row rows v r q h l)
  load_bare {b} {v} (reads_throw {h} {e} {w} n i e₁ k r q) z l = load_bare_at (instruction_rows_at t b) refl (λ k'. load_bare r z k')
    where
      load_bare_at : (rs : List ℕ) → instruction_rows_at t b ≡ rs → (is_load w ≡ true → Bare t n e) → Bare t b e
      load_bare_at [] p ih = bare_throw n e₁ k p (ih (sym (ap is_load (q ∙ ap (λ (x : List ℕ). wrap_with_sequence t x i w) p)) ∙ l))
      load_bare_at (y ∷ ys) p ih = absurd (true_false (sym l ∙ ap is_load (q ∙ ap (λ (x : List ℕ). wrap_with_sequence t x i w) p)))
  load_bare (reads_on m f i j l s e r u q) h k = absurd (true_false (sym k ∙ ap is_load q))

  -- ---- silent ways

  silent_rows : {b f : ℕ} → Silent t seen_row b f → rows_at t seen_row b ≡ []
  silent_rows (silent_goto k e s) = s
  silent_rows (silent_throw n e s z) = s

  silent_next : {b f : ℕ} → Silent t seen_row b f → (n : ℕ) → terminal_at t b ≡ maybe_throw n → Silent t seen_row n f
  silent_next {b} {f} (silent_goto k e s) n e' = absurd (codes b (goto f k) (maybe_throw n) e e' refl)
  silent_next {f} (silent_throw n e s z) n' e' = subst (λ (x : ℕ). Silent t seen_row x f) (throw_eq (sym e ∙ e')) z

  silent_not : {b f : ℕ} → Silent t seen_row b f → (m : Terminal) → terminal_at t b ≡ m → contains (4 ∷ 18 ∷ []) (code_of m) ≡ false → ⊥
  silent_not (silent_goto {f} k e s) m e' h = true_false (ap (λ (z : Terminal). contains (4 ∷ 18 ∷ []) (code_of z)) (sym e ∙ e') ∙ h)
  silent_not (silent_throw n e s z) m e' h = true_false (ap (λ (z : Terminal). contains (4 ∷ 18 ∷ []) (code_of z)) (sym e ∙ e') ∙ h)

  onward_throw : (b n : ℕ) (a : Answers) → terminal_at t b ≡ maybe_throw n → Onward t seen_row b a (rows_at t seen_row b) n a
  unfolding wide_move
  onward_throw b n a e = onward_go t seen_row b a n a (move_of t seen_row b (maybe_throw n) a (go n a) e refl) (le_refl (length a))

  silent_onward : {b f : ℕ} → Silent t seen_row b f → (a : Answers) → Onward t seen_row b a [] f a
  unfolding wide_move move
  silent_onward {b} {f} (silent_goto k e s) a =
      subst (λ (z : List ℕ). Onward t seen_row b a z f a) s
      (onward_go t seen_row b a f a (move_of t seen_row b (goto f k) a (go f a) e refl) (le_refl (length a)))
  silent_onward {b} {f} (silent_throw n e s z) a =
      onward_onward t seen_row (subst (λ (y : List ℕ). Onward t seen_row b a y n a) s (onward_throw b n a e)) (silent_onward z a)

  -- a value of one block's rows
  end_run : (b row : ℕ) (rows : List ℕ) (v : Value) → instruction_rows_at t b ≡ row ∷ rows → v ≡ end_value t row rows → Quiet t seen_row b → (tested : Bool) (a : Answers)
      → run v tested a ≡ valued (rows_at t seen_row b) in_whole a
  end_run b row rows v r q h tested a =
      ap (λ (z : Value). run z tested a) q ∙ run_end row rows tested a (subst (λ (z : List ℕ). seen_rows seen_row (store_at_end t z) ≡ []) r h)
      ∙ ap (λ (z : List ℕ). valued (seen_rows seen_row z) in_whole a) (sym r)

  silent_run : {b h e f : ℕ} {v : Value} → Reads t b v h e → Silent t seen_row b f → Quiet t seen_row h → (tested : Bool) (a : Answers) → run v tested a ≡ valued [] in_whole a
  unfolding value_prefix valued
  silent_run {b} {v} (reads_goto g k row rows e r q) s h tested a = end_run b row rows v r q h tested a ∙ ap (λ (z : List ℕ). valued z in_whole a) (silent_rows s)
  silent_run (reads_branch p c d row rows e r q) s h tested a = absurd (silent_not s (branch p c d) e refl)
  silent_run (reads_empty p c d e r q) s h tested a = absurd (silent_not s (branch p c d) e refl)
  silent_run {b} {v} (reads_last_throw n row rows e i r q) s h tested a = end_run b row rows v r q h tested a ∙ ap (λ (z : List ℕ). valued z in_whole a) (silent_rows s)
  silent_run {b} (reads_throw {w} n i e k r q) s h tested a =
      ap (λ (z : Value). run z tested a) q ∙ run_wrapped (instruction_rows_at t b) i w tested a
      ∙ ap (λ (z : List ℕ). value_prefix z (run w tested a)) (silent_rows s) ∙ silent_run r (silent_next s n e) h tested a
  silent_run (reads_on m f i j l s e r u q) s' h tested a =
      absurd (true_false (sym (value_code r) ∙ ap (λ (z : Terminal). contains value_codes (code_of z)) (sym e) ∙ at s'))
    where
      at : {b f' : ℕ} → Silent t seen_row b f' → contains value_codes (code_of (terminal_at t b)) ≡ false
      at (silent_goto k e' z) = ap (λ (z : Terminal). contains value_codes (code_of z)) e'
      at (silent_throw n e' z y) = ap (λ (z : Terminal). contains value_codes (code_of z)) e'

  -- ---- a test, and then an arm

  arm_on : (e f b : ℕ) (a : Answers) (rows : List ℕ) (k : Ending) (left : Answers) → GoesTo t e f → On t seen_row (λ r l. Arrives t seen_row b a r e l) none b a rows k left
      → On t seen_row (λ r l. Onward t seen_row b a r f l) none b a rows k left
  unfolding wide_move move
  arm_on e f b a rows in_whole left (k, q) p = onward_from t seen_row f left p (move_of t seen_row e (goto f k) left (go f left) q refl) (le_refl (length left))
  arm_on e f b a rows in_short left (k, q) p = p
  arm_on e f b a rows (stopping r) left (k, q) p = p

  pub arm : (e f b : ℕ) (a : Answers) (o : Valued) → GoesTo t e f → ValueOn t seen_row none e b a o → TermOn t seen_row none f b a o
  arm e f b a o q p = arm_on e f b a o.rows o.ending o.left q p

  asked : (x : Option ℕ) (f y p c d b : ℕ) (a : Answers) (rows : List ℕ) (left : Answers) (if_yes if_no : Answers → Valued) → terminal_at t y ≡ branch p c d
      → Arrives t seen_row b a rows y left → ((l : Answers) → TermOn t seen_row x f c l (if_yes l)) → ((l : Answers) → TermOn t seen_row x f d l (if_no l))
      → TermOn t seen_row x f b a (value_prefix rows (ask if_yes if_no left))
  unfolding ask value_prefix valued wide_move move by_answer
  asked x f y p c d b a rows [] if_yes if_no e arr h k = (refl, stops_from t seen_row no_answer_left arr (move_of t seen_row y (branch p c d) [] (halt no_answer_left) e refl))
  asked x f y p c d b a rows (suc n ∷ l) if_yes if_no e arr h k =
      term_after t seen_row x f (if_yes l) (onward_from t seen_row c l arr (move_of t seen_row y (branch p c d) (suc n ∷ l) (go c l) e refl) (le_step (le_refl (length l)))) (h l)
  asked x f y p c d b a rows (zero ∷ l) if_yes if_no e arr h k =
      term_after t seen_row x f (if_no l) (onward_from t seen_row d l arr (move_of t seen_row y (branch p c d) (zero ∷ l) (go d l) e refl) (le_step (le_refl (length l)))) (k l)

  test_then_on : (f y p c d b : ℕ) (a : Answers) (rows : List ℕ) (k : Ending) (left : Answers) (if_yes if_no : Answers → Valued) → terminal_at t y ≡ branch p c d
      → On t seen_row (λ r l. Arrives t seen_row b a r y l) none b a rows k left
      → ((l : Answers) → TermOn t seen_row none f c l (if_yes l)) → ((l : Answers) → TermOn t seen_row none f d l (if_no l))
      → TermOn t seen_row none f b a (then_value_on k (valued rows k left) (λ l. ask if_yes if_no l))
  unfolding then_value_on valued
  test_then_on f y p c d b a rows in_whole left if_yes if_no e q h k = asked none f y p c d b a rows left if_yes if_no e q h k
  test_then_on f y p c d b a rows in_short left if_yes if_no e q h k = absurd q
  test_then_on f y p c d b a rows (stopping r) left if_yes if_no e q h k = q

  test_then : (f y p c d b : ℕ) (a : Answers) (o : Valued) (if_yes if_no : Answers → Valued) → terminal_at t y ≡ branch p c d → ValueOn t seen_row none y b a o
      → ((l : Answers) → TermOn t seen_row none f c l (if_yes l)) → ((l : Answers) → TermOn t seen_row none f d l (if_no l))
      → TermOn t seen_row none f b a (then_value o (λ l. ask if_yes if_no l))
  unfolding then_value valued
  test_then f y p c d b a o if_yes if_no e q h k = test_then_on f y p c d b a o.rows o.ending o.left if_yes if_no e q h k

  -- ---- Optional

  abbrev pub tested_of : Option ℕ → Bool
  tested_of none = false
  tested_of (some exit) = true

  abbrev pub exit_or : ℕ → Option ℕ → ℕ
  exit_or f none = f
  exit_or f (some exit) = exit

  -- a "no": it goes to the exit
  no_on : (x : Option ℕ) (f b : ℕ) (a : Answers) (rows : List ℕ) (left : Answers) → Onward t seen_row b a rows (exit_or f x) left
      → TermOn t seen_row x f b a (valued rows (without (tested_of x)) left)
  unfolding valued
  no_on none f b a rows left p = p
  no_on (some exit) f b a rows left p = p

  optional_on : (x : Option ℕ) (f y p c d b : ℕ) (a : Answers) (rows : List ℕ) (k : Ending) (left : Answers) (if_yes : Answers → Valued) → terminal_at t y ≡ branch p c d
      → On t seen_row (λ r l. Arrives t seen_row b a r y l) (some (exit_or f x)) b a rows k left
      → ((l : Answers) → TermOn t seen_row x f c l (if_yes l)) → Silent t seen_row d (exit_or f x)
      → TermOn t seen_row x f b a (taken_over_on (tested_of x) k (valued rows k left) (λ l. ask if_yes (λ l'. valued [] (without (tested_of x)) l') l))
  unfolding taken_over_on valued
  optional_on x f y p c d b a rows in_whole left if_yes e q h s =
      asked x f y p c d b a rows left if_yes (λ l'. valued [] (without (tested_of x)) l') e q h (λ l. no_on x f d l [] l (silent_onward s l))
  optional_on x f y p c d b a rows in_short left if_yes e q h s = no_on x f b a rows left q
  optional_on x f y p c d b a rows (stopping r) left if_yes e q h s = q

  optional_leads : (x : Option ℕ) (f y p c d b : ℕ) (a : Answers) (o : Valued) (if_yes : Answers → Valued) → terminal_at t y ≡ branch p c d
      → ValueOn t seen_row (some (exit_or f x)) y b a o → ((l : Answers) → TermOn t seen_row x f c l (if_yes l)) → Silent t seen_row d (exit_or f x)
      → TermOn t seen_row x f b a (taken_over (tested_of x) o (λ l. ask if_yes (λ l'. valued [] (without (tested_of x)) l') l))
  unfolding taken_over valued
  optional_leads x f y p c d b a o if_yes e q h s = optional_on x f y p c d b a o.rows o.ending o.left if_yes e q h s

  -- ---- the runs of the values that the walk makes

  and_false : (y : Bool) → y && false ≡ false
  and_false true = refl
  and_false false = refl

  prefix_none : (o : Valued) → value_prefix [] o ≡ o
  unfolding value_prefix valued
  prefix_none o = refl

  -- the left of a Logical: its test, as its value performs nothing
  left_run : {x h y c f hl el : ℕ} {vx vl : Value} (j l i : ℕ) (s : Span) → Reads t x vx h y → Reads t c vl hl el → Silent t seen_row c f → Quiet t seen_row hl → (a : Answers)
      → run (SEQ (single_instruction j l s vx) i vl) false a ≡ run vx false a
  unfolding instructions_of
  left_run {vx} {vl} j l i s r k z q a =
      run_single i j l s vx vl [] false a
      ∙ ap (λ (o : Valued). then_value o (λ b. run vl false b))
      (prefix_none (run vx (is_link vx no_instructions && (is_load vl && false)) a) ∙ ap (λ (b : Bool). run vx (b && (is_load vl && false)) a) (no_link r))
      ∙ then_same (run vx false a) (λ b. run vl false b) (λ b. valued [] in_whole b) (λ b. silent_run k z q false b)
      ∙ then_whole (run vx false a)

  logical_run : (o : ℕ) (vl vr vx : Value) (tested : Bool) (a : Answers) → run vl false a ≡ run vx false a
      → run (LOGICAL o vl vr) tested a ≡ then_value (run vx false a) (λ b. ask (λ b'. valued [] in_whole b') (λ b'. run vr false b') b)
  unfolding run_value
  logical_run o vl vr vx tested a h = ap (λ (z : Valued). then_value z (λ b. ask (λ b'. valued [] in_whole b') (λ b'. run vr false b') b)) h

  cond_run : (vx vl vr : Value) (tested : Bool) (a : Answers)
      → run (COND vx vl vr) tested a ≡ then_value (run vx false a) (λ b. ask (λ b'. run vl false b') (λ b'. run vr false b') b)
  unfolding run_value
  cond_run vx vl vr tested a = refl

  optional_run : (o j l i : ℕ) (s : Span) (vx vl : Value) (tested : Bool) (a : Answers)
      → run (OPTIONAL o (SEQ (single_instruction j l s vx) i vl)) tested a
      ≡ taken_over tested (run vx true a) (λ b. ask (λ b'. run vl false b') (λ b'. valued [] (without tested) b') b)
  unfolding run_value run_optional
  optional_run o j l i s vx vl tested a = refl

  term_link : {m : Terminal} {w : Value} {f : ℕ} → ReadsTerminal t m w f → is_optional m ≡ false → is_link w no_instructions ≡ false
  term_link (reads_logical o x f y p c d hx hl el hr er j l i s q _ _ _ _ _ _ _ w) h = ap (λ (z : Value). is_link z no_instructions) w
  term_link (reads_ternary x f y p c d hx hl el hr er q _ _ _ _ _ _ _ w) h = ap (λ (z : Value). is_link z no_instructions) w
  term_link (reads_optional o x f y p c d hx hl el j l i s q _ _ _ _ _ w) h = absurd (true_false (sym (ap is_optional q) ∙ h))
  term_link (reads_sequence c f hl el q _ r) h = no_link r

  pub optional_link : {m : Terminal} {w : Value} {f : ℕ} → ReadsTerminal t m w f → is_optional m ≡ true
      → (is_link w no_instructions ≡ true) × (o : ℕ) × (x : ℕ) × (m ≡ optional o x f)
  optional_link (reads_logical o x f y p c d hx hl el hr er j l i s q _ _ _ _ _ _ _ w) h = absurd (true_false (sym h ∙ ap is_optional q))
  optional_link (reads_ternary x f y p c d hx hl el hr er q _ _ _ _ _ _ _ w) h = absurd (true_false (sym h ∙ ap is_optional q))
  optional_link (reads_optional o x f y p c d hx hl el j l i s q _ _ _ _ _ w) h = (ap (λ (z : Value). is_link z no_instructions) w, o, x, q)
  optional_link (reads_sequence c f hl el q _ r) h = absurd (true_false (sym h ∙ ap is_optional q))

  -- ---- what ends where a chain goes on

  abbrev pub Context : Option ℕ → (holder end : ℕ) → Type 0
  Context none h e = Unowned t e
  Context (some exit) h e = NoStore t h × (b : ℕ) × Owns t e b × Exits t b exit

  pub goto_unowned : (e f : ℕ) → GoesTo t e f → Unowned t e
  goto_unowned e f (k, q) b o = codes e (goto f k) (branch o.asks.place o.consequent o.alternate) q o.asks.ways refl

  module _ (plain : SeenValues t seen_row) where
    -- the test of a Logical or a Ternary is no Optional's: the arms would have two fallthroughs
    test_unowned : (b : ℕ) (m : Terminal) (h y c d f hc e : ℕ) → Asks t b m h y c d → is_optional m ≡ false → value_fallthrough m ≡ some f → fallthrough_of m ≡ some f
        → end_of t c ≡ some (ends_at hc e) → Unowned t y
    test_unowned b m h y c d f hc e asks no_opt vf ff k b' o =
        let ours : GoesTo t e f × Quiet t seen_row hc = plain.yes_arm b m h y c d f hc e asks vf k in
        let same : c ≡ o.consequent = branch_eq (sym asks.ways ∙ o.asks.ways) in
        let theirs : GoesTo t e o.fallthrough × Quiet t seen_row hc =
        plain.yes_arm b' (optional o.flag o.test o.fallthrough) o.holder y o.consequent o.alternate o.fallthrough hc e o.asks refl (subst (λ (z : ℕ). end_of t z ≡ some (ends_at hc e)) same k) in
        let to : f ≡ o.fallthrough = goto_eq (sym ours.0.1 ∙ theirs.0.1) in
        let block : b ≡ b' =
        plain.one_fallthrough b b' f (ap fallthrough_of asks.terminal ∙ ff)
        (ap fallthrough_of o.asks.terminal ∙ ap (λ (z : ℕ). some z) (sym to)) in
        true_false (sym (ap is_optional (sym asks.terminal ∙ ap (λ (z : ℕ). terminal_at t z) block ∙ o.asks.terminal)) ∙ no_opt)

    -- what a terminal does from the block to which it goes
    abbrev Entered : Terminal → Value → (f : ℕ) → Option ℕ → Type 0
    Entered m w f x =
        (start : ℕ) × ((id : ℕ) (a : Answers) → wide_move t m id a ≡ go start a) × ((a : Answers) → TermOn t seen_row x f start a (run w (tested_of x) a))

    entered_any : (m : Terminal) (w : Value) (f : ℕ) (x : Option ℕ) → is_link w no_instructions ≡ false → Entered m w f none → (u : Value)
        → (start : ℕ) × ((id : ℕ) (a : Answers) → wide_move t m id a ≡ go start a)
        × ((a : Answers) → TermOn t seen_row x f start a (run w (is_link w no_instructions && (is_load u && tested_of x)) a))
    entered_any m w f x h (start, moves, leads) u = (
      start,
      moves,
      λ a. subst (λ (z : Bool). TermOn t seen_row x f start a (run w (z && (is_load u && tested_of x)) a)) (sym h)
          (on_any t seen_row (λ r l. Onward t seen_row start a r f l) x start a (run w false a).rows (run w false a).ending (run w false a).left (leads a)),
    )

    -- an Optional: it is linked where it is the value of a test of its chain
    linked : {f h e : ℕ} {u : Value} (b o x' : ℕ) (m : Terminal) (w : Value) (x : Option ℕ) → terminal_at t b ≡ m → m ≡ optional o x' f → is_link w no_instructions ≡ true
        → Reads t f u h e → Context x h e → ((x : Option ℕ) → Exits t b (exit_or f x) → Entered m w f x)
        → (start : ℕ) × ((id : ℕ) (a : Answers) → wide_move t m id a ≡ go start a)
        × ((a : Answers) → TermOn t seen_row x f start a (run w (is_link w no_instructions && (is_load u && tested_of x)) a))
    linked {f} {h} {e} {u} b o x' m w none q q' l r k entered =
        let (start, moves, leads) = entered none (exit_last o x' f (q ∙ q') (λ e' z. subst (λ (y : ℕ). Unowned t y) ((bare_load r e' z).1) k)) in
        (start, moves, λ a. subst (λ (z : Bool). TermOn t seen_row none f start a (run w z a)) (sym (ap (λ (z : Bool). z && (is_load u && false)) l ∙ and_false (is_load u))) (leads a))
    linked {f} {h} {e} {u} b o x' m w (some exit) q q' l r (n, b', owns, exits) entered = by (is_load u) refl
      where
        by : (y : Bool) → is_load u ≡ y
            → (start : ℕ) × ((id : ℕ) (a : Answers) → wide_move t m id a ≡ go start a)
            × ((a : Answers) → TermOn t seen_row (some exit) f start a (run w (is_link w no_instructions && (is_load u && true)) a))
        by true i =
            let (start, moves, leads) = entered (some exit) (exit_linked o x' f e b' (q ∙ q') (load_bare r n i) owns exits) in (
              start,
              moves,
              λ a. subst (λ (z : Bool). TermOn t seen_row (some exit) f start a (run w z a))
                  (sym (ap (λ (z : Bool). z && (is_load u && true)) l ∙ ap (λ (z : Bool). z && true) i)) (leads a),
            )
        by false i =
            let (start, moves, leads) = entered none (exit_last o x' f (q ∙ q') (λ e' z. absurd (true_false (sym ((bare_load r e' z).0) ∙ i)))) in (
              start,
              moves,
              λ a. subst (λ (z : Bool). TermOn t seen_row (some exit) f start a (run w z a))
                  (sym (ap (λ (z : Bool). z && (is_load u && true)) l ∙ ap (λ (z : Bool). z && true) i))
                  (on_any t seen_row (λ r l. Onward t seen_row start a r f l) (some exit) start a (run w false a).rows (run w false a).ending (run w false a).left (leads a)),
            )

    -- a value terminal in a value, and the value of its fallthrough
    on_leads : (b f e : ℕ) (v w u : Value) (m : Terminal) (i j l : ℕ) (s : Span) (x : Option ℕ) → terminal_at t b ≡ m
        → v ≡ SEQ (instructions_of t (instruction_rows_at t b) (single_instruction j l s w)) i u
        → (start : ℕ) × ((id : ℕ) (a : Answers) → wide_move t m id a ≡ go start a)
        × ((a : Answers) → TermOn t seen_row x f start a (run w (is_link w no_instructions && (is_load u && tested_of x)) a))
        → ((a : Answers) → ValueOn t seen_row x e f a (run u (tested_of x) a)) → (a : Answers) → ValueOn t seen_row x e b a (run v (tested_of x) a)
    on_leads b f e v w u m i j l s x q k (start, moves, leads) rest a =
        subst (λ (o : Valued). ValueOn t seen_row x e b a o)
        (sym (ap (λ (z : Value). run z (tested_of x) a) k ∙ run_single i j l s w u (instruction_rows_at t b) (tested_of x) a))
        (value_then t seen_row x f e b a (value_prefix (rows_at t seen_row b) (run w (is_link w no_instructions && (is_load u && tested_of x)) a)) (λ a'. run u (tested_of x) a')
        (term_after t seen_row x f (run w (is_link w no_instructions && (is_load u && tested_of x)) a)
        (onward_go t seen_row b a start a (move_of t seen_row b m a (go start a) q (moves (block_at t b).id a)) (le_refl (length a))) (leads a)) rest)

    on_entered : {f h e : ℕ} {u : Value} (b : ℕ) (m : Terminal) (w : Value) (x : Option ℕ) → terminal_at t b ≡ m → ReadsTerminal t m w f → Reads t f u h e → Context x h e
        → ((y : Option ℕ) → (is_optional m ≡ false → y ≡ none) → (is_optional m ≡ true → Exits t b (exit_or f y)) → Entered m w f y)
        → (start : ℕ) × ((id : ℕ) (a : Answers) → wide_move t m id a ≡ go start a)
        × ((a : Answers) → TermOn t seen_row x f start a (run w (is_link w no_instructions && (is_load u && tested_of x)) a))
    on_entered {f} {h} {e} {u} b m w x q r k c entered = by (is_optional m) refl
      where
        by : (z : Bool) → is_optional m ≡ z
            → (start : ℕ) × ((id : ℕ) (a : Answers) → wide_move t m id a ≡ go start a)
            × ((a : Answers) → TermOn t seen_row x f start a (run w (is_link w no_instructions && (is_load u && tested_of x)) a))
        by false p = entered_any m w f x (term_link r p) (entered none (λ _. refl) (λ p'. absurd (true_false (sym p' ∙ p)))) u
        by true p =
            let (l, o, x', q') = optional_link r p in
            linked b o x' m w x q q' l k c (λ y z. entered y (λ p'. absurd (true_false (sym p ∙ p'))) (λ _. z))

    pub quiet_of : (h : ℕ) → NoStore t h → Quiet t seen_row h
    quiet_of h n = ap (λ (z : List ℕ). seen_rows seen_row z) n

    term_any : (x : Option ℕ) (f b : ℕ) (a : Answers) (o : Valued) → TermOn t seen_row none f b a o → TermOn t seen_row x f b a o
    term_any x f b a o p = on_any t seen_row (λ r l. Onward t seen_row b a r f l) x b a o.rows o.ending o.left p

    -- a value of one block's rows
    end_leads : (b row : ℕ) (rows : List ℕ) (v : Value) (x : Option ℕ) → instruction_rows_at t b ≡ row ∷ rows → v ≡ end_value t row rows → Quiet t seen_row b → (a : Answers)
        → ValueOn t seen_row x b b a (run v (tested_of x) a)
    unfolding valued
    end_leads b row rows v x r q h a =
        subst (λ (o : Valued). ValueOn t seen_row x b b a o) (sym (end_run b row rows v r q h (tested_of x) a)) (arrives_here t seen_row b a)

    empty_rows : (n : ℕ) → is_empty_goto (block_at t n) ≡ true → rows_at t seen_row n ≡ []
    unfolding is_empty_goto
    empty_rows n h = by (instruction_rows_at t n) refl
      where
        by : (rs : List ℕ) → instruction_rows_at t n ≡ rs → rows_at t seen_row n ≡ []
        by [] q = ap (λ (z : List ℕ). seen_rows seen_row z) q
        by (r ∷ rs) q = absurd (true_false (sym h ∙ ap (λ (z : List ℕ). is_empty z && is_goto (terminal_at t n)) q))

    load_leads : (b p : ℕ) (x : Option ℕ) → instruction_rows_at t b ≡ [] → (a : Answers) → ValueOn t seen_row x b b a (run (LOAD p) (tested_of x) a)
    unfolding run_value valued
    load_leads b p x r a = subst (λ (z : List ℕ). Arrives t seen_row b a z b a) (ap (λ (z : List ℕ). seen_rows seen_row z) r) (arrives_here t seen_row b a)

    mutual
      unfolding valued value_prefix wide_move

      pub value_leads : {b h e : ℕ} {v : Value} → Reads t b v h e → (x : Option ℕ) → Quiet t seen_row h → Context x h e → (a : Answers)
          → ValueOn t seen_row x e b a (run v (tested_of x) a)
      value_leads {b} {v} (reads_goto g k row rows e r q) x h c a = end_leads b row rows v x r q h a
      value_leads {b} {v} (reads_branch p c' d row rows e r q) x h c a = end_leads b row rows v x r q h a
      value_leads {b} (reads_empty p c' d e r q) x h c a =
          subst (λ (z : Value). ValueOn t seen_row x b b a (run z (tested_of x) a)) (sym q) (load_leads b p x r a)
      value_leads {b} {v} (reads_last_throw n row rows e i r q) x h c a =
          subst (λ (o : Valued). ValueOn t seen_row x n b a o) (sym (end_run b row rows v r q h (tested_of x) a))
          (subst (λ (z : List ℕ). Arrives t seen_row b a z n a) (ap (λ (z : List ℕ). rows_at t seen_row b ++ z) (empty_rows n i) ∙ append-nil (rows_at t seen_row b))
          (onward_arrives t seen_row (onward_throw b n a e) (arrives_here t seen_row n a)))
      value_leads {b} {h} {e} {v} (reads_throw {w} n i e₁ k r q) x z c a =
          subst (λ (o : Valued). ValueOn t seen_row x e b a o) (sym (ap (λ (y : Value). run y (tested_of x) a) q ∙ run_wrapped (instruction_rows_at t b) i w (tested_of x) a))
          (value_after t seen_row x e (run w (tested_of x) a) (onward_throw b n a e₁) (value_leads r x z c a))
      value_leads {b} {h} {e} {v} (reads_on {w} {u} m f i j l s e₁ r k q) x z c a =
          on_leads b f e v w u m i j l s x e₁ q
          (on_entered b m w x e₁ r k c (λ y ok p. terminal_leads r b e₁ y ok p)) (λ a'. value_leads k x z c a') a

      -- from the block that it goes to, on to its fallthrough. A Sequence is not tested
      pub terminal_leads : {m : Terminal} {w : Value} {f : ℕ} → ReadsTerminal t m w f → (b : ℕ) → terminal_at t b ≡ m → (x : Option ℕ)
          → (is_optional m ≡ false → x ≡ none) → (is_optional m ≡ true → Exits t b (exit_or f x)) → Entered m w f x
      terminal_leads {m} {w} (reads_logical {vx} {vl} {vr} o x' f y p c d hx hl el hr er j l i s q ex wy ec ed rx rl rr qw) b e x h k =
          let asks : Asks t b (logical o x' f) hx y c d = record { test = x'; place = p; terminal = e ∙ q; tested = refl; ends = ex; ways = wy } in
          let yes_arm : GoesTo t el f × Quiet t seen_row hl = plain.yes_arm b (logical o x' f) hx y c d f hl el asks refl ec in
          let no_arm : GoesTo t er f × Quiet t seen_row hr = plain.no_arm b (logical o x' f) hx y c d f hr er asks refl refl ed in
          let silent : Silent t seen_row c f = plain.left b o x' f hx y c d asks in (
            x',
            (λ id a. ap (λ (z : Terminal). wide_move t z id a) q),
            λ a.
                subst (λ (z : Valued). TermOn t seen_row x f x' a z)
                (sym (ap (λ (z : Value). run z (tested_of x) a) qw ∙ logical_run o (SEQ (single_instruction j l s vx) i vl) vr vx (tested_of x) a (left_run j l i s rx rl silent yes_arm.1 a)))
                (term_any x f x' a (then_value (run vx false a) (λ b'. ask (λ b''. valued [] in_whole b'') (λ b''. run vr false b'') b'))
                (test_then f y p c d x' a (run vx false a) (λ b'. valued [] in_whole b') (λ b'. run vr false b') wy
                (value_leads rx none (quiet_of hx (plain.tests b (logical o x' f) hx y c d asks)) (test_unowned b (logical o x' f) hx y c d f hl el asks refl refl refl ec) a)
                (λ b'. silent_onward silent b')
                (λ b'. arm er f d b' (run vr false b') no_arm.0 (value_leads rr none no_arm.1 (goto_unowned er f no_arm.0) b')))),
          )
      terminal_leads {m} {w} (reads_ternary {vx} {vl} {vr} x' f y p c d hx hl el hr er q ex wy ec ed rx rl rr qw) b e x h k =
          let asks : Asks t b (ternary x' f) hx y c d = record { test = x'; place = p; terminal = e ∙ q; tested = refl; ends = ex; ways = wy } in
          let yes_arm : GoesTo t el f × Quiet t seen_row hl = plain.yes_arm b (ternary x' f) hx y c d f hl el asks refl ec in
          let no_arm : GoesTo t er f × Quiet t seen_row hr = plain.no_arm b (ternary x' f) hx y c d f hr er asks refl refl ed in (
            x',
            (λ id a. ap (λ (z : Terminal). wide_move t z id a) q),
            λ a.
                subst (λ (z : Valued). TermOn t seen_row x f x' a z) (sym (ap (λ (z : Value). run z (tested_of x) a) qw ∙ cond_run vx vl vr (tested_of x) a))
                (term_any x f x' a (then_value (run vx false a) (λ b'. ask (λ b''. run vl false b'') (λ b''. run vr false b'') b'))
                (test_then f y p c d x' a (run vx false a) (λ b'. run vl false b') (λ b'. run vr false b') wy
                (value_leads rx none (quiet_of hx (plain.tests b (ternary x' f) hx y c d asks)) (test_unowned b (ternary x' f) hx y c d f hl el asks refl refl refl ec) a)
                (λ b'. arm el f c b' (run vl false b') yes_arm.0 (value_leads rl none yes_arm.1 (goto_unowned el f yes_arm.0) b'))
                (λ b'. arm er f d b' (run vr false b') no_arm.0 (value_leads rr none no_arm.1 (goto_unowned er f no_arm.0) b')))),
          )
      terminal_leads {m} {w} (reads_optional {vx} {vl} o x' f y p c d hx hl el j l i s q ex wy ec rx rl qw) b e x h k =
          let asks : Asks t b (optional o x' f) hx y c d = record { test = x'; place = p; terminal = e ∙ q; tested = refl; ends = ex; ways = wy } in
          let yes_arm : GoesTo t el f × Quiet t seen_row hl = plain.yes_arm b (optional o x' f) hx y c d f hl el asks refl ec in
          let exits : Exits t b (exit_or f x) = k (ap is_optional q) in
          let owns : Owns t y b = record { flag = o; test = x'; fallthrough = f; holder = hx; consequent = c; alternate = d; asks = asks } in
          let no_store : NoStore t hx = plain.tests b (optional o x' f) hx y c d asks in (
            x',
            (λ id a. ap (λ (z : Terminal). wide_move t z id a) q),
            λ a.
                subst (λ (z : Valued). TermOn t seen_row x f x' a z)
                (sym (ap (λ (z : Value). run z (tested_of x) a) qw ∙ optional_run o j l i s vx vl (tested_of x) a))
                (optional_leads x f y p c d x' a (run vx true a) (λ b'. run vl false b') wy
                (value_leads rx (some (exit_or f x)) (quiet_of hx no_store) (no_store, b, owns, exits) a)
                (λ b'. term_any x f c b' (run vl false b') (arm el f c b' (run vl false b') yes_arm.0 (value_leads rl none yes_arm.1 (goto_unowned el f yes_arm.0) b')))
                (plain.no_value b o x' f hx y c d (exit_or f x) asks exits)),
          )
      terminal_leads {m} {w} (reads_sequence c f hl el q ec rc) b e x h k =
          let arm_ends : GoesTo t el f × Quiet t seen_row hl = plain.block_arm b c f hl el (e ∙ q) ec in
          subst (λ (z : Option ℕ). Entered m w f z) (sym (h (ap is_optional q))) (
            c,
            (λ id a. ap (λ (z : Terminal). wide_move t z id a) q),
            λ a. arm el f c a (run w false a) arm_ends.0 (value_leads rc none arm_ends.1 (goto_unowned el f arm_ends.0) a),
          )
