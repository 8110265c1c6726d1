-- The words of a table cut into rows: the tables whose text `text` defines. The form is an argument, as there.
use Rattle.std.specs.Prelude.{ℕ, ◌+◌, ◌*◌, ◌≤◌, ◌≡◌, List, length, get_or, take, drop}
use Rattle.text.specs.Layout.{Layout}
use Rattle.text.specs.Line.{cut}
use Rattle.text.specs.File.{Tables, text_of}

-- where the tables begin in words of a form, and where the last ends
module _ (f : Layout) (words : List ℕ) where
  unfoldable pub instructions_at : ℕ
  instructions_at = 6 + get_or words 1 0 * f.blocks.width

  unfoldable pub cases_at : ℕ
  cases_at = instructions_at + get_or words 2 0 * f.instructions.width

  unfoldable pub places_at : ℕ
  places_at = cases_at + get_or words 3 0 * f.cases.width

  unfoldable pub identifiers_at : ℕ
  identifiers_at = places_at + get_or words 4 0 * f.places.width

  unfoldable pub end_at : ℕ
  end_at = identifiers_at + get_or words 5 0 * f.identifiers.width

-- there is a head, and there are as many words as it says
pub record Shaped (f : Layout) (words : List ℕ) : Type 0 where
  pub head : 6 ≤ length words
  pub long : length words ≡ end_at f words

-- the tables of words of the form `from`, in the columns of the form `to`: where a row of `to` is shorter, its last words are left out
unfoldable pub tables_in : (from to : Layout) → List ℕ → Tables
tables_in from to words = record {
  head = take 6 words;
  blocks = cut from.blocks.width to.blocks.width (get_or words 1 0) (drop 6 words);
  instructions = cut from.instructions.width to.instructions.width (get_or words 2 0) (drop (instructions_at from words) words);
  cases = cut from.cases.width to.cases.width (get_or words 3 0) (drop (cases_at from words) words);
  places = cut from.places.width to.places.width (get_or words 4 0) (drop (places_at from words) words);
  identifiers = cut from.identifiers.width to.identifiers.width (get_or words 5 0) (drop (identifiers_at from words) words);
}

-- their text in the form `to`
unfoldable pub text_in : (from to : Layout) → List ℕ → List ℕ
text_in from to words = text_of to (tables_in from to words)
