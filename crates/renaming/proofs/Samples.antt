-- The definition on small tables, by computation: orders of tables told by their blocks' ends, and words before and after.
use mathlib.Core.Path.{◌≡◌, refl}
use Prim.Native.Nat.{ℕ}
use mathlib.Core.List.{List, [], ◌∷◌, ◌++◌, map}
use mathlib.Core.Option.{none, some}
use Rattle.table.specs.Table.{Table, Block, Case, Terminal, absent, return, goto, if, switch, for, Break}
use Rattle.table.specs.Table.{no_block, table_of, tabulate, block_of, case_of, instruction_of, terminal_of, unless_none, variant_of}
use Rattle.table.specs.Words.{word, entry_word, block_count, instruction_count, case_count, place_count, identifier_count, blocks_begin, instructions_begin, cases_begin}
use Rattle.table.specs.Words.{places_begin, identifiers_begin, block_word, instruction_word, case_word, place_word, identifier_word}
use Rattle.table.specs.Lines.{named_by}
use Rattle.renaming.specs.Renaming.{renamed, rows_of, renamed_block_row, instruction_row, renamed_case_row, names_block}
use Rattle.renaming.specs.Order.{walking_order, walk_from, rearranged, new_number, old_number, restored_by}

-- ---- orders

abbrev block : Terminal → Block
block terminal = record { first = 0; count = 0; terminal = terminal; id = 0; span = no_block.span }

abbrev case : ℕ → Case
case block = record { test = 0; block = block }

abbrev table : (entry : ℕ) → List Terminal → List ℕ → Table
table entry ends cases = record { entry = entry; blocks = map block ends; instructions = []; cases = map case cases; places = 0 ∷ []; named = 1 ∷ [] }

pub record Sample : Type 0 where
  pub table : Table
  pub order : List ℕ

abbrev pub samples : List Sample
samples =
    -- a row of code 0 has a number where it is named, and leads on nowhere
    record { table = table 0 (if 0 2 3 1 ∷ return 0 ∷ absent ∷ return 0 ∷ []) []; order = 0 ∷ 2 ∷ 3 ∷ 1 ∷ [] }
    -- blocks that are never named come last
    ∷ record { table = table 0 (for 4 5 (some 6) 2 1 ∷ return 0 ∷ return 0 ∷ absent ∷ return 0 ∷ return 0 ∷ return 0 ∷ []) []; order = 0 ∷ 4 ∷ 5 ∷ 6 ∷ 2 ∷ 1 ∷ 3 ∷ [] }
    ∷ record { table = table 0 (for 2 4 none 3 1 ∷ return 0 ∷ return 0 ∷ return 0 ∷ return 0 ∷ []) []; order = 0 ∷ 2 ∷ 4 ∷ 3 ∷ 1 ∷ [] }
    -- of three case rows the middle one, then the fallthrough
    ∷ record { table = table 0 (switch 0 1 1 1 ∷ return 0 ∷ return 0 ∷ []) (0 ∷ 2 ∷ 1 ∷ []); order = 0 ∷ 2 ∷ 1 ∷ [] }
    -- another entry
    ∷ record { table = table 3 (return 0 ∷ goto 0 Break ∷ return 0 ∷ goto 1 Break ∷ []) []; order = 3 ∷ 1 ∷ 0 ∷ 2 ∷ [] }
    -- breadth first: depth first gives 0 1 3 2 4
    ∷ record { table = table 0 (if 0 1 2 4 ∷ goto 3 Break ∷ goto 4 Break ∷ return 0 ∷ return 0 ∷ []) []; order = 0 ∷ 1 ∷ 2 ∷ 4 ∷ 3 ∷ [] }
    ∷ []

pub the_orders : map (λ sample. walking_order sample.table) samples ≡ map (λ sample. sample.order) samples
unfolding walking_order walk_from named_by
the_orders = refl

-- ---- words

-- a row of a block with no instruction and no span
abbrev ends : (code a b c d e id : ℕ) → List ℕ
ends code a b c d e id = 0 ∷ 0 ∷ code ∷ a ∷ b ∷ c ∷ d ∷ e ∷ id ∷ 0 ∷ 0 ∷ []

abbrev words : (entry : ℕ) → (row₀ row₁ row₂ row₃ row₄ : List ℕ) → (case_block : ℕ) → List ℕ
words entry row₀ row₁ row₂ row₃ row₄ case_block =
    entry ∷ 5 ∷ 1 ∷ 1 ∷ 1 ∷ 1 ∷ (row₀ ++ (row₁ ++ (row₂ ++ (row₃ ++ (row₄ ++ (7 ∷ 0 ∷ 2 ∷ 0 ∷ 0 ∷ 5 ∷ 9 ∷ 65535 ∷ case_block ∷ 0 ∷ 1 ∷ []))))))

-- paper 01's W with its blocks in another order, an instruction, a case row that no Switch uses, and a block that no line names
abbrev pub mixed : List ℕ
mixed = words 3 (ends 3 0 0 0 0 0 4) (ends 4 2 1 0 0 0 3) (ends 6 0 1 0 0 0 2) (ends 9 2 1 0 0 0 1) (ends 1 0 0 0 0 0 5) 1

abbrev pub walked : List ℕ
walked = words 0 (ends 9 1 2 3 0 0 1) (ends 6 0 2 3 0 0 2) (ends 4 1 1 0 0 0 3) (ends 3 0 0 0 0 0 4) (ends 1 0 0 0 0 0 5) 2

pub order : walking_order (table_of mixed) ≡ 3 ∷ 2 ∷ 1 ∷ 0 ∷ 4 ∷ []
unfolding walking_order walk_from named_by table_of tabulate block_of case_of instruction_of terminal_of unless_none variant_of word entry_word block_count instruction_count
    case_count place_count identifier_count blocks_begin instructions_begin cases_begin places_begin identifiers_begin block_word instruction_word case_word place_word
    identifier_word
order = refl

pub rearranges : rearranged mixed ≡ walked
unfolding rearranged renamed rows_of renamed_block_row instruction_row renamed_case_row names_block new_number old_number word entry_word block_count instruction_count
    case_count place_count identifier_count blocks_begin instructions_begin cases_begin places_begin identifiers_begin block_word instruction_word case_word place_word
    identifier_word
rearranges = rw order

-- "renames every block, the entry too, to its old number in the list"
pub restores : restored_by (3 ∷ 2 ∷ 1 ∷ 0 ∷ 4 ∷ []) walked ≡ mixed
unfolding restored_by renamed rows_of renamed_block_row instruction_row renamed_case_row names_block new_number old_number word entry_word block_count instruction_count
    case_count place_count identifier_count blocks_begin instructions_begin cases_begin places_begin identifiers_begin block_word instruction_word case_word place_word
    identifier_word
restores = refl
