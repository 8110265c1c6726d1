-- The steps of the block run with values: from a block on to another, or up to the end of a value, where the next step is that block's. For proofs/ValueLead.
use mathlib.Core.Path.{◌≡◌, ap, ◌∙◌}
use Prim.Native.Nat.{ℕ, suc, ◌≤◌}
use native.Mathlib.Nat.{le_refl, le_trans}
use mathlib.Core.List.{List, [], ◌++◌, append_assoc}
use mathlib.Core.Option.{Option, none, some}
use mathlib.Core.Bool.{Bool, true}
use lib.ListN.{length}
use Rattle.table.specs.Table.{Table, Terminal, block_at, terminal_at, instruction_rows_at}
use Rattle.definition.specs.Run.{Answers, Reason, is_good, Run, stopped}
use Rattle.definition.specs.BlockRun.{Move, go, halt, performing}
use Rattle.definition.specs.PlainLoops.{Reached}
use Rattle.definition.specs.ValueEnds.{seen_rows}
use Rattle.definition.specs.WideRun.{wide_move, wide_run}
use Rattle.definition.specs.ValueRun.{Ending, in_whole, in_short, stopping, Valued, valued, value_prefix, then_value_on, then_value}

module _ (t : Table) (seen_row : ℕ → Bool) where
  abbrev pub rows_at : ℕ → List ℕ
  rows_at b = seen_rows seen_row (instruction_rows_at t b)

  abbrev pub move_at : ℕ → Answers → Move
  move_at b answers = wide_move t (terminal_at t b) (block_at t b).id answers

  pub move_of : (b : ℕ) (m : Terminal) (answers : Answers) (x : Move) → terminal_at t b ≡ m → wide_move t m (block_at t b).id answers ≡ x → move_at b answers ≡ x
  move_of b m answers x e h = ap (λ (z : Terminal). wide_move t z (block_at t b).id answers) e ∙ h

  pub record Stops (b : ℕ) (answers : Answers) (rows : List ℕ) (left : Answers) (r : Reason) : Type 0 where
    pub steps : ℕ
    pub runs : wide_run t seen_row steps b answers ≡ stopped rows left r

  -- the run of what a block leads to
  pub moved : (steps : ℕ) → Move → Answers → Run
  moved steps m answers = elim m [ go next left ↦ wide_run t seen_row steps next left | halt reason ↦ stopped [] answers reason ]

  pub record StopsAfter (m : Move) (answers : Answers) (rows : List ℕ) (left : Answers) (r : Reason) : Type 0 where
    pub steps : ℕ
    pub runs : moved steps m answers ≡ stopped rows left r

  abbrev pub NoneLost : Type 0
  NoneLost = (b : ℕ) (answers : Answers) (b' : ℕ) (left : Answers) → move_at b answers ≡ go b' left → Reached t b'

  pub record Onward (b : ℕ) (answers : Answers) (rows : List ℕ) (b' : ℕ) (left : Answers) : Type 0 where
    pub fewer : length left ≤ length answers
    pub and_on : (rows' : List ℕ) (left' : Answers) (r : Reason) → Stops b' left rows' left' r → Stops b answers (rows ++ rows') left' r
    pub stays : NoneLost → Reached t b → Reached t b'

  -- up to the block e, whose rows are performed and whose step is the next
  pub record Arrives (b : ℕ) (answers : Answers) (rows : List ℕ) (e : ℕ) (left : Answers) : Type 0 where
    pub fewer : length left ≤ length answers
    pub and_on : (rows' : List ℕ) (left' : Answers) (r : Reason) → StopsAfter (move_at e left) left rows' left' r → Stops b answers (rows ++ rows') left' r
    pub stays : NoneLost → Reached t b → Reached t e

  performing_stopped : (rs rows : List ℕ) (left : Answers) (r : Reason) (x : Run) → x ≡ stopped rows left r → performing rs x ≡ stopped (rs ++ rows) left r
  unfolding performing
  performing_stopped rs rows left r x e = ap (λ y. performing rs y) e

  pub arrives_here : (b : ℕ) (answers : Answers) → Arrives b answers (rows_at b) b answers
  unfolding wide_run moved
  arrives_here b answers = record {
    fewer = le_refl (length answers);
    and_on = λ rows left r s. record { steps = suc s.steps; runs = performing_stopped (rows_at b) rows left r (moved s.steps (move_at b answers) answers) s.runs };
    stays = λ w k. k;
  }

  pub onward_from : {b : ℕ} {answers : Answers} {rows : List ℕ} {e : ℕ} {left : Answers} (b' : ℕ) (left' : Answers) → Arrives b answers rows e left → move_at e left ≡ go b' left'
      → length left' ≤ length left → Onward b answers rows b' left'
  unfolding moved
  onward_from {e} {left} b' left' p q h = record {
    fewer = le_trans h p.fewer;
    and_on = λ rows' l r s. p.and_on rows' l r (record { steps = s.steps; runs = ap (λ (z : Move). moved s.steps z left) q ∙ s.runs });
    stays = λ w k. w e left b' left' q;
  }

  pub stops_from : {b : ℕ} {answers : Answers} {rows : List ℕ} {e : ℕ} {left : Answers} (r : Reason) → Arrives b answers rows e left → move_at e left ≡ halt r
      → Stops b answers (rows ++ []) left r
  unfolding moved
  stops_from {left} r p q = p.and_on [] left r (record { steps = 0; runs = ap (λ (z : Move). moved 0 z left) q })

  pub onward_go : (b : ℕ) (answers : Answers) (b' : ℕ) (answers' : Answers) → move_at b answers ≡ go b' answers' → length answers' ≤ length answers
      → Onward b answers (rows_at b) b' answers'
  onward_go b answers b' answers' e h = onward_from b' answers' (arrives_here b answers) e h

  pub onward_here : (b : ℕ) (answers : Answers) → Onward b answers [] b answers
  onward_here b answers = record { fewer = le_refl (length answers); and_on = λ rows left r s. s; stays = λ w k. k }

  pub onward_onward : {b : ℕ} {answers : Answers} {rows : List ℕ} {b₁ : ℕ} {a₁ : Answers} {rows₁ : List ℕ} {b₂ : ℕ} {a₂ : Answers}
      → Onward b answers rows b₁ a₁ → Onward b₁ a₁ rows₁ b₂ a₂ → Onward b answers (rows ++ rows₁) b₂ a₂
  onward_onward {rows} {rows₁} p q = record {
    fewer = le_trans q.fewer p.fewer;
    and_on = λ rows' left r s. rw append_assoc (p.and_on (rows₁ ++ rows') left r (q.and_on rows' left r s));
    stays = λ w k. q.stays w (p.stays w k);
  }

  pub onward_arrives : {b : ℕ} {answers : Answers} {rows : List ℕ} {b₁ : ℕ} {a₁ : Answers} {rows₁ : List ℕ} {e : ℕ} {left : Answers}
      → Onward b answers rows b₁ a₁ → Arrives b₁ a₁ rows₁ e left → Arrives b answers (rows ++ rows₁) e left
  onward_arrives {rows} {rows₁} p q = record {
    fewer = le_trans q.fewer p.fewer;
    and_on = λ rows' left r s. rw append_assoc (p.and_on (rows₁ ++ rows') left r (q.and_on rows' left r s));
    stays = λ w k. q.stays w (p.stays w k);
  }

  -- ---- a value's run, by how it ends

  -- to the exit of the chain whose test it is, if it is one
  abbrev pub ShortOn : Option ℕ → ℕ → Answers → List ℕ → Answers → Type 0
  ShortOn none b answers rows left = ⊥
  ShortOn (some exit) b answers rows left = Onward b answers rows exit left

  -- P of the rows and the answers left, where it ends in whole
  abbrev pub On : (P : List ℕ → Answers → Type 0) → Option ℕ → ℕ → Answers → List ℕ → Ending → Answers → Type 0
  On P x b answers rows in_whole left = P rows left
  On P x b answers rows in_short left = ShortOn x b answers rows left
  On P x b answers rows (stopping r) left = (is_good r ≡ true) × Stops b answers rows left r

  -- up to the end e of a value
  abbrev pub ValueOn : Option ℕ → (e b : ℕ) → Answers → Valued → Type 0
  ValueOn x e b answers o = On (λ rows left. Arrives b answers rows e left) x b answers o.rows o.ending o.left

  -- on to the fallthrough f of a value terminal
  abbrev pub TermOn : Option ℕ → (f b : ℕ) → Answers → Valued → Type 0
  TermOn x f b answers o = On (λ rows left. Onward b answers rows f left) x b answers o.rows o.ending o.left

  short_after : (x : Option ℕ) {b : ℕ} {answers : Answers} {rows : List ℕ} {b₁ : ℕ} {a₁ : Answers} (rows₁ : List ℕ) (left : Answers)
      → Onward b answers rows b₁ a₁ → ShortOn x b₁ a₁ rows₁ left → ShortOn x b answers (rows ++ rows₁) left
  short_after none rows₁ left p q = q
  short_after (some exit) rows₁ left p q = onward_onward p q

  value_after_on : (x : Option ℕ) (e : ℕ) {b : ℕ} {answers : Answers} {rows : List ℕ} {b₁ : ℕ} {a₁ : Answers} (rows₁ : List ℕ) (k : Ending) (left : Answers)
      → Onward b answers rows b₁ a₁ → On (λ r l. Arrives b₁ a₁ r e l) x b₁ a₁ rows₁ k left → On (λ r l. Arrives b answers r e l) x b answers (rows ++ rows₁) k left
  value_after_on x e rows₁ in_whole left p q = onward_arrives p q
  value_after_on x e rows₁ in_short left p q = short_after x rows₁ left p q
  value_after_on x e rows₁ (stopping r) left p (g, q) = (g, p.and_on rows₁ left r q)

  pub value_after : (x : Option ℕ) (e : ℕ) {b : ℕ} {answers : Answers} {rows : List ℕ} {b₁ : ℕ} {a₁ : Answers} (o : Valued)
      → Onward b answers rows b₁ a₁ → ValueOn x e b₁ a₁ o → ValueOn x e b answers (value_prefix rows o)
  unfolding value_prefix valued
  value_after x e o p q = value_after_on x e o.rows o.ending o.left p q

  term_after_on : (x : Option ℕ) (f : ℕ) {b : ℕ} {answers : Answers} {rows : List ℕ} {b₁ : ℕ} {a₁ : Answers} (rows₁ : List ℕ) (k : Ending) (left : Answers)
      → Onward b answers rows b₁ a₁ → On (λ r l. Onward b₁ a₁ r f l) x b₁ a₁ rows₁ k left → On (λ r l. Onward b answers r f l) x b answers (rows ++ rows₁) k left
  term_after_on x f rows₁ in_whole left p q = onward_onward p q
  term_after_on x f rows₁ in_short left p q = short_after x rows₁ left p q
  term_after_on x f rows₁ (stopping r) left p (g, q) = (g, p.and_on rows₁ left r q)

  pub term_after : (x : Option ℕ) (f : ℕ) {b : ℕ} {answers : Answers} {rows : List ℕ} {b₁ : ℕ} {a₁ : Answers} (o : Valued)
      → Onward b answers rows b₁ a₁ → TermOn x f b₁ a₁ o → TermOn x f b answers (value_prefix rows o)
  unfolding value_prefix valued
  term_after x f o p q = term_after_on x f o.rows o.ending o.left p q

  -- what is not tested is not short, whatever the exit
  pub on_any : (P : List ℕ → Answers → Type 0) (x : Option ℕ) (b : ℕ) (answers : Answers) (rows : List ℕ) (k : Ending) (left : Answers)
      → On P none b answers rows k left → On P x b answers rows k left
  on_any P x b answers rows in_whole left p = p
  on_any P x b answers rows in_short left p = absurd p
  on_any P x b answers rows (stopping r) left p = p

  -- a value terminal, and then the value of its fallthrough
  value_then_on : (x : Option ℕ) (f e b : ℕ) (answers : Answers) (rows : List ℕ) (k : Ending) (left : Answers) (next : Answers → Valued)
      → On (λ r l. Onward b answers r f l) x b answers rows k left → ((a : Answers) → ValueOn x e f a (next a))
      → ValueOn x e b answers (then_value_on k (valued rows k left) next)
  unfolding then_value_on valued
  value_then_on x f e b answers rows in_whole left next p q = value_after x e (next left) p (q left)
  value_then_on x f e b answers rows in_short left next p q = p
  value_then_on x f e b answers rows (stopping r) left next p q = p

  pub value_then : (x : Option ℕ) (f e b : ℕ) (answers : Answers) (o : Valued) (next : Answers → Valued)
      → TermOn x f b answers o → ((a : Answers) → ValueOn x e f a (next a)) → ValueOn x e b answers (then_value o next)
  unfolding then_value valued
  value_then x f e b answers o next p q = value_then_on x f e b answers o.rows o.ending o.left next p q
