-- Lent buffers.
use Rattle.std.specs.Prelude.{◌≡◌, List, ◌++◌, ℕ, ◌-◌, length, take, replicate}

-- a buffer of `room` places that holds the items, then zeros
abbrev pub padded : ℕ → List ℕ → List ℕ
padded room items = items ++ replicate (room - length items) 0

-- the first `count` places hold the items, as far as there are places: an item past the end is counted and held nowhere
pub record Holds {A : Type 0} (buffer : List A) (count : ℕ) (items : List A) : Type 0 where
  pub counted : length items ≡ count
  pub held : take count buffer ≡ take (length buffer) items
