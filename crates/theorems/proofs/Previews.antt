-- M-106: size first, then build. Statements only, each by the lemma that proves it; quotes are M-106's.
use Rattle.std.specs.Prelude.{Result}
use Prim.Native.Nat.{ℕ, ◌/◌, ◌≤◌, ◌<◌}
use mathlib.Core.Path.{◌≡◌, sym, ap, ◌∙◌, subst}
use mathlib.Core.List.{List}
use lib.ListN.{length}
use contract.Lifetimes.{Lfts}
use denote.Ref.{Bor, MutBor}
use Rattle.definition.specs.Around.{Rule, rust, language}
use Rattle.definition.specs.Build.{refusal, built}
use Rattle.definition.specs.Build as definition
use Rattle.definition.specs.Preview.{Preview, previewed, numbers_of}
use Rattle.definition.proofs.Preview.{preview_numbers, preview_code, preview_40, preview_41}
use Rattle.build.specs.Entry.{outcome}
use Rattle.build.specs.Entry as build
use Rattle.walk.specs.declared.answer.Walked.{Walked}
use Rattle.build.specs.declared.answer.BuildError.{BuildError}
use Rattle.walk.specs.declared.answer.WalkError.{WalkError}
use Rattle.preview.specs.Entry.{numbers}
use Rattle.preview.proofs.preview.Statement as stated
use Rattle.preview.proofs.preview.Met as proved
use Rattle.preview.proofs.preview.Reads as entry
use Rattle.preview.proofs.preview_language.Statement as language_stated
use Rattle.preview.proofs.preview_language.Met as language_proved
use Rattle.preview.proofs.preview_language.Reads as language_entry
use Rattle.preview.proofs.reactive_preview.Statement as export_stated
use Rattle.preview.proofs.reactive_preview.Met as export_proved
use Rattle.preview.proofs.reactive_preview.Reads as export
use Rattle.preview.proofs.reactive_preview_language.Statement as language_export_stated
use Rattle.preview.proofs.reactive_preview_language.Met as language_export_proved
use Rattle.preview.proofs.reactive_preview_language.Reads as language_export

-- ---- the entries: the words alone in, and nothing is asked

pub preview_meets_its_contract : {M : Type 1} → stated.statement M
preview_meets_its_contract = proved.met

pub the_language_preview_meets_its_contract : {M : Type 1} → language_stated.statement M
the_language_preview_meets_its_contract = language_proved.met

pub the_preview_export_meets_its_contract : {M : Type 1} → export_stated.statement M
the_preview_export_meets_its_contract = export_proved.met

pub the_language_preview_export_meets_its_contract : {M : Type 1} → language_export_stated.statement M
the_language_preview_export_meets_its_contract = language_export_proved.met

abbrev pub Lent : Type 0
Lent = Bor (List ℕ) × Unit {0}

pub preview_asks_nothing : (κs : Lfts 1) (before : Lent) → entry.Asked κs before
preview_asks_nothing κs before = tt

pub preview_gives_the_definition : (κs : Lfts 1) (before after : Lent) (answer : Result Walked WalkError) → entry.Learnt κs before answer after → numbers answer ≡ previewed rust before.0.now
preview_gives_the_definition κs before after answer learnt = learnt

pub the_language_preview_asks_nothing : (κs : Lfts 1) (before : Lent) → language_entry.Asked κs before
the_language_preview_asks_nothing κs before = tt

pub the_language_preview_gives_the_definition : (κs : Lfts 1) (before after : Lent) (answer : Result Walked WalkError) → language_entry.Learnt κs before answer after
    → numbers answer ≡ previewed language before.0.now
the_language_preview_gives_the_definition κs before after answer learnt = learnt

-- the export's references: the words, at, rows, visits and lines
abbrev pub LentWithAnswer : Type 0
LentWithAnswer = Bor (List ℕ) × (MutBor ℕ × (MutBor ℕ × (MutBor ℕ × (MutBor ℕ × Unit {0}))))

pub the_preview_export_asks_nothing : (κs : Lfts 5) (before : LentWithAnswer) → export.Asked κs before
the_preview_export_asks_nothing κs before = tt

pub the_preview_export_gives_the_definition : (κs : Lfts 5) (before after : LentWithAnswer) (code : ℕ) → export.Learnt κs before code after
    → record {
      code = code;
      at = after.1.0.now;
      rows = after.1.1.0.now;
      visits = after.1.1.1.0.now;
      lines = after.1.1.1.1.0.now;
    } ≡ previewed rust before.0.now
the_preview_export_gives_the_definition κs before after code learnt = learnt

pub the_language_preview_export_asks_nothing : (κs : Lfts 5) (before : LentWithAnswer) → language_export.Asked κs before
the_language_preview_export_asks_nothing κs before = tt

pub the_language_preview_export_gives_the_definition : (κs : Lfts 5) (before after : LentWithAnswer) (code : ℕ) → language_export.Learnt κs before code after
    → record {
      code = code;
      at = after.1.0.now;
      rows = after.1.1.0.now;
      visits = after.1.1.1.0.now;
      lines = after.1.1.1.1.0.now;
    } ≡ previewed language before.0.now
the_language_preview_export_gives_the_definition κs before after code learnt = learnt

-- ---- a preview and a build of the same words, in either entry

-- `told` and `ensured` are what the two calls learn
module _ (rule : Rule) (words tree index tree' index' : List ℕ) (preview : Result Walked WalkError) (answer : Result Walked BuildError) (told : numbers preview ≡ previewed rule words)
    (ensured : outcome answer tree' index' ≡ built rule words (length tree) (length index)) where
  fewer_rows : (P : ℕ → Type 0) → P (numbers preview).rows → P (previewed rule words).rows
  fewer_rows P h = subst (λ (p : Preview). P p.rows) told h

  fewer_lines : (P : ℕ → Type 0) → P (numbers preview).lines → P (previewed rule words).lines
  fewer_lines P h = subst (λ (p : Preview). P p.lines) told h

  -- "For every input these equal what the build gives on a copy with both buffers large enough": the five numbers
  pub the_preview_is_the_build's : (numbers preview).rows ≤ length tree / 6 → (numbers preview).lines ≤ length index / 3 → build.numbers answer ≡ numbers preview
  the_preview_is_the_build's h k =
      ap (λ (o : definition.Outcome). numbers_of o) ensured
      ∙ preview_numbers rule words (length tree) (length index) (fewer_rows (λ n. n ≤ length tree / 6) h) (fewer_lines (λ n. n ≤ length index / 3) k)
      ∙ sym told

  -- with fewer places for rows the build is 40, with the preview's rows and visits, and zeros in both buffers
  pub with_fewer_rows_40 : length tree / 6 < (numbers preview).rows
      → outcome answer tree' index' ≡ refusal 40 0 (numbers preview).rows (numbers preview).visits (length tree) (length index)
  with_fewer_rows_40 h =
      ensured
      ∙ preview_40 rule words (length tree) (length index) (fewer_rows (λ n. length tree / 6 < n) h)
      ∙ ap (λ (p : Preview). refusal 40 0 p.rows p.visits (length tree) (length index)) (sym told)

  -- else with fewer for lines 41
  pub with_fewer_lines_41 : (numbers preview).rows ≤ length tree / 6 → length index / 3 < (numbers preview).lines
      → outcome answer tree' index' ≡ refusal 41 0 0 (numbers preview).visits (length tree) (length index)
  with_fewer_lines_41 h k =
      ensured
      ∙ preview_41 rule words (length tree) (length index) (fewer_rows (λ n. n ≤ length tree / 6) h) (fewer_lines (λ n. length index / 3 < n) k)
      ∙ ap (λ (p : Preview). refusal 41 0 0 p.visits (length tree) (length index)) (sym told)
