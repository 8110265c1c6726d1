-- M-102: the statements around a jump, with their labels renamed. What is asked of them goes by equality of labels alone.
use mathlib.Core.Path.{◌≡◌, refl, ap, ◌∙◌}
use Prim.Native.Nat.{ℕ, zero, suc}
use mathlib.Core.List.{List, [], ◌∷◌, map}
use mathlib.Core.Option
use mathlib.Core.Option.{Option, none, some}
use mathlib.Core.Bool.{Bool}
use Rattle.definition.specs.Tree.{Kind}
use Rattle.definition.specs.Context.{Resolution}
use Rattle.definition.specs.Around.{Enclosing, a_loop, a_switch, another, Around, is_switch_inside, kind_by, break_kind_in, is_label}
use Rattle.definition.specs.Around.{names_statement, names_loop, unnamed, break_unnamed, continue_unnamed}
use Rattle.renaming.proofs.Alike.{Moves, same_test}
use Rattle.renaming.proofs.Contexts.{renamed_resolution}

abbrev pub renamed_enclosing : (new : ℕ → ℕ) → Enclosing → Enclosing
renamed_enclosing new (a_loop label) = a_loop (Option.map new label)
renamed_enclosing new (a_switch label) = a_switch (Option.map new label)
renamed_enclosing new (another label) = another (Option.map new label)

abbrev pub renamed_around : (new : ℕ → ℕ) → Around → Around
renamed_around new around = record { rule = around.rule; statements = map (renamed_enclosing new) around.statements }

module _ (new : ℕ → ℕ) (m : Moves new) where
  inside_same : (l : List Enclosing) → is_switch_inside (map (renamed_enclosing new) l) ≡ is_switch_inside l
  unfolding is_switch_inside
  inside_same [] = refl
  inside_same (a_loop g ∷ l) = refl
  inside_same (a_switch g ∷ l) = refl
  inside_same (another g ∷ l) = inside_same l

  label_same : (g : Option ℕ) (b : ℕ) → is_label (Option.map new g) (new b) ≡ is_label g b
  unfolding is_label
  label_same none b = refl
  label_same (some g) b = same_test new m g b

  statement_same : (l : List Enclosing) (b : ℕ) → names_statement (map (renamed_enclosing new) l) (new b) ≡ names_statement l b
  unfolding names_statement
  statement_same [] b = refl
  statement_same (a_loop g ∷ l) b = rw (label_same g b, statement_same l b)
  statement_same (a_switch g ∷ l) b = rw (label_same g b, statement_same l b)
  statement_same (another g ∷ l) b = rw (label_same g b, statement_same l b)

  loop_same : (l : List Enclosing) (n b : ℕ) → names_loop (map (renamed_enclosing new) l) n (new b) ≡ names_loop l n b
  unfolding names_loop
  loop_same [] n b = refl
  loop_same (a_loop g ∷ l) zero b = label_same g b
  loop_same (a_loop g ∷ l) (suc n) b = loop_same l n b
  loop_same (a_switch g ∷ l) n b = loop_same l n b
  loop_same (another g ∷ l) n b = loop_same l n b

  module _ (a : Around) where
    pub kind_same : (k : Kind) → break_kind_in (renamed_around new a) k ≡ break_kind_in a k
    unfolding break_kind_in
    kind_same k = ap (λ (y : Bool). kind_by a.rule y k) (inside_same a.statements)

    pub break_unnamed_lem : (found : Resolution) → break_unnamed (renamed_around new a) (renamed_resolution new found) ≡ break_unnamed a found
    unfolding break_unnamed
    break_unnamed_lem found =
        ap (λ (k : Kind). unnamed a.rule k (names_statement (map (renamed_enclosing new) a.statements) (new found.target))) (kind_same found.kind)
        ∙ ap (unnamed a.rule (break_kind_in a found.kind)) (statement_same a.statements found.target)

    pub continue_unnamed_lem : (found : Resolution) → continue_unnamed (renamed_around new a) (renamed_resolution new found) ≡ continue_unnamed a found
    unfolding continue_unnamed
    continue_unnamed_lem found = ap (unnamed a.rule found.kind) (loop_same a.statements found.loops found.target)
