-- The form of a file as what may come next, byte by byte. `proofs/FormLaws` shows that its texts are the good files of `File`.
use Rattle.std.specs.Prelude.{◌≡◌, Bool, true, false, List, [], ◌∷◌, ◌++◌, ◌⊎◌, ℕ, zero, suc, ◌+◌, ◌*◌, ◌^◌, ◌<◌, get_or}
use Rattle.text.specs.Layout.{Layout}

pub data Form : Type 0 where
  finished : Form
  -- this byte, then the rest
  byte : ℕ → Form → Form
  -- a number, LF if it is the last of its line and else a space, then what the number decides
  field : Bool → (ℕ → Form) → Form
  -- the same, after digits of this value
  digits : ℕ → Bool → (ℕ → Form) → Form

-- what ends a number: LF if it is the last of its line, else a space
abbrev pub ending : Bool → ℕ
ending true = 10
ending false = 32

abbrev pub is_zero : ℕ → Bool
is_zero zero = true
is_zero (suc n) = false

-- these bytes, then the rest
unfoldable pub literal : List ℕ → Form → Form
literal [] rest = rest
literal (b ∷ bs) rest = byte b (literal bs rest)

-- a line of so many more numbers after those that were read
unfoldable pub row : ℕ → List ℕ → (List ℕ → Form) → Form
row zero before rest = rest before
row (suc more) before rest = field (is_zero more) λ n. row more (before ++ (n ∷ [])) rest

unfoldable pub rows : ℕ → ℕ → Form → Form
rows width zero rest = rest
rows width (suc count) rest = row width [] λ _. rows width count rest

unfoldable pub table : List ℕ → ℕ → ℕ → Form → Form
table names width count rest = literal names (rows width count rest)

-- the five tables that the head counts
unfoldable pub tables : Layout → List ℕ → Form → Form
tables f head rest =
    table f.blocks.names f.blocks.width (get_or head 1 0)
    (table f.instructions.names f.instructions.width (get_or head 2 0)
    (table f.cases.names f.cases.width (get_or head 3 0)
    (table f.places.names f.places.width (get_or head 4 0)
    (table f.identifiers.names f.identifiers.width (get_or head 5 0)
    rest))))

unfoldable pub whole : Layout → Form
whole f = literal f.head.names (row f.head.width [] λ head. tables f head finished)

-- the bytes are in the form and have these words
unfoldable pub Text : Form → List ℕ → List ℕ → Type 0
Text finished [] words = words ≡ []
Text finished (c ∷ bytes) words = ⊥
Text (byte b rest) [] words = ⊥
Text (byte b rest) (c ∷ bytes) words = (c ≡ b) × Text rest bytes words
Text (field last rest) [] words = ⊥
Text (field last rest) (c ∷ bytes) words = (d : ℕ) × (d < 10) × (c ≡ 48 + d) × Text (digits d last rest) bytes words
Text (digits v last rest) [] words = ⊥
Text (digits v last rest) (c ∷ bytes) words =
    ((c ≡ ending last) × ((more : List ℕ) × (words ≡ v ∷ more) × Text (rest v) bytes more))
    ⊎ ((d : ℕ) × (d < 10) × (c ≡ 48 + d) × (0 < v) × (v * 10 + d < 2 ^ 32) × Text (digits (v * 10 + d) last rest) bytes words)
