-- The walk's queue and its flags; and the numbers by a list that is a permutation.
use Rattle.std.specs.Prelude.{ℕ, ◌<◌, ◌≡◌, List, Bool, true, false, get_or, length}
use Rattle.definition.specs.Completion.{contains}
use Rattle.renaming.specs.Order.{all_below, none_twice, new_number}

-- some of the first `most` blocks, none of them twice; each of 1,024 flags tells whether its block is one of them
pub record Queued (most : ℕ) (list : List ℕ) (found : List Bool) : Type 0 where
  pub wide : length found ≡ 1024
  pub below : all_below most list ≡ true
  pub once : none_twice list ≡ true
  pub flags : (b : ℕ) → b < 1024 → get_or found b false ≡ contains list b

-- every block's new number, by a list that is a permutation
pub record Numbers (list new : List ℕ) : Type 0 where
  pub wide : length new ≡ 1024
  pub are : (b : ℕ) → b < length list → get_or new b 0 ≡ new_number list b
