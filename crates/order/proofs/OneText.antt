-- "so that `diff` compares two stored tables": where the walk names every block, all renumberings of a table print one text.
use Prim.Native.Nat.{ℕ}
use mathlib.Core.Path.{◌≡◌, refl, sym, ap, ◌∙◌}
use mathlib.Core.Logic.{inl}
use mathlib.Core.List.{List}
use Rattle.table.specs.Words.{block_count}
use Rattle.table.specs.Check.{accepted, checked}
use Rattle.table.specs.Table.{table_of}
use Rattle.table.proofs.PromiseLaws.{promised}
use Rattle.text.specs.Layout.{layout}
use Rattle.text.specs.Answer.{Accepted}
use Rattle.text.specs.declared.version.Version.TheVariants.{New}
use Rattle.text.specs.Prints.{refusal_text}
use Rattle.text.proofs.PrintsLaws.{prints_one}
use Rattle.renaming.specs.Renaming.{Renaming, renamed}
use Rattle.renaming.specs.Order.{new_number, old_number, walking_order, rearranged}
use Rattle.renaming.proofs.Checks.{renamed_checked}
use Rattle.renaming.proofs.OrderLaws.{walking_renaming}
use Rattle.renaming.proofs.Canonical.{one_rearrangement}
use Rattle.renaming.specs.Order.{AllNamed}
use Rattle.convert.specs.Write.{table_text}
use Rattle.convert.proofs.GoodLaws.{good_is_text}
use Rattle.order.specs.Prints.{unless_refused, ordered_text, Prints}

-- what a file in the form prints is its words' text
prints_words : (file words text : List ℕ) → Accepted (layout New) file words → Prints file text → text ≡ ordered_text words
prints_words file words text a p = prints_one (layout New) ordered_text refusal_text file text (ordered_text words) p (inl (record { words = words; accepted = a; lines = refl }))

-- a file whose table is accepted prints the file of its rearranged words
pub prints_the_file : (words file file' text : List ℕ) → checked words ≡ accepted → Accepted (layout New) file words → Accepted (layout New) file' (rearranged words)
    → Prints file text → text ≡ file'
unfolding unless_refused
prints_the_file words file file' text ok a a' p =
    let is : ordered_text words ≡ table_text (rearranged words) = rw ok in
    prints_words file words text a p ∙ is ∙ sym (good_is_text New file' (rearranged words) a'.good)

module _ (words : List ℕ) (ok : checked words ≡ accepted) (all : AllNamed (table_of words)) where
  pub one_text : (new old : ℕ → ℕ) → Renaming (block_count words) new old → ordered_text (renamed new old words) ≡ ordered_text words
  unfolding unless_refused
  one_text new old g = rw (renamed_checked new old words (promised words ok).sized g ok, ok) (ap table_text (one_rearrangement new old words ok g all))

  -- two files, one the other renumbered
  pub files_print_one : (new old : ℕ → ℕ) → Renaming (block_count words) new old → (file file' text text' : List ℕ)
      → Accepted (layout New) file words → Accepted (layout New) file' (renamed new old words) → Prints file text → Prints file' text' → text' ≡ text
  files_print_one new old g file file' text text' a a' p p' =
      prints_words file' (renamed new old words) text' a' p' ∙ one_text new old g ∙ sym (prints_words file words text a p)

  -- and what is printed prints itself
  pub prints_itself : (file text : List ℕ) → Accepted (layout New) file (rearranged words) → Prints file text → text ≡ file
  unfolding rearranged unless_refused
  prints_itself file text a p =
      let order : List ℕ = walking_order (table_of words) in
      let once : ordered_text (rearranged words) ≡ ordered_text words = one_text (new_number order) (old_number order) (walking_renaming words (promised words ok)) in
      let is : ordered_text words ≡ table_text (rearranged words) = rw ok in
      prints_words file (rearranged words) text a p ∙ once ∙ is ∙ sym (good_is_text New file (rearranged words) a.good)
