-- The definition on small tables, by computation. Tables are told by their blocks' ends, so that no width of a row is named here.
use Prim.Native.Nat.{ℕ}
use mathlib.Core.Path.{◌≡◌, refl}
use mathlib.Core.List.{List, [], ◌∷◌, ◌++◌, map}
use mathlib.Core.Option.{none, some}
use mathlib.Core.Bool.{true, false}
use lib.ListN.{replicate}
use Rattle.table.specs.Table.{Table, Block, Case, Continue, Try, Terminal, absent, unreachable, throw, return, goto, if, branch, switch, do_while, while}
use Rattle.table.specs.Table.{for, for_of, for_in, logical, ternary, optional, label, sequence, maybe_throw, try, scope, no_block}
use Rattle.text.specs.Ascii.{ascii}
use Rattle.text.specs.Decimal.{digits_of, decimal}
use Rattle.text.specs.Placed.{refusal, placed}
use Rattle.table.specs.Lines.{named_by, lines_from, lines}
use Rattle.dot.specs.Dot.{line_text, lines_text, graph_text}

abbrev block : Terminal → Block
block terminal = record { first = 0; count = 0; terminal = terminal; id = 0; span = no_block.span }

abbrev case : ℕ → Case
case block = record { test = 0; block = block }

-- a table by the ends of its blocks and the blocks of its case rows
abbrev table : List Terminal → List ℕ → Table
table ends cases = record { entry = 0; blocks = map block ends; instructions = []; cases = map case cases; places = 0 ∷ []; named = 1 ∷ [] }

pub record Sample : Type 0 where
  pub table : Table
  pub text : List ℕ

-- paper 01's while loop
abbrev pub W : Table
W = table (while 1 2 3 ∷ branch 0 2 3 ∷ goto 1 Continue ∷ return 0 ∷ []) []

-- each of the 22 codes: 20 and 21 are the last two
abbrev pub every_end : Table
every_end =
    table
    (absent
    ∷ unreachable
    ∷ throw 9
    ∷ return 9
    ∷ goto 5 Try
    ∷ if 9 6 7 8
    ∷ branch 9 7 8
    ∷ switch 9 0 2 3
    ∷ do_while 9 10 11
    ∷ while 10 11 12
    ∷ for 11 12 (some 13) 14 15
    ∷ for_of 12 13 14 15
    ∷ for_in 13 14 15
    ∷ logical 2 14 15
    ∷ ternary 15 16
    ∷ optional 1 16 17
    ∷ label 17 18
    ∷ sequence 18 19
    ∷ maybe_throw 19
    ∷ try 20 21 0 (some 9)
    ∷ scope false 21 0 9
    ∷ scope true 0 1 9
    ∷ [])
    (2 ∷ 1 ∷ 0 ∷ [])

abbrev pub samples : List Sample
samples =
    record { table = W; text = ascii "digraph g {\nn0 -> n1;\nn0 -> n2;\nn0 -> n3;\nn1 -> n2;\nn1 -> n3;\nn2 -> n1;\n}\n" }
    -- no line at all
    ∷ record { table = table (return 0 ∷ []) []; text = ascii "digraph g {\n}\n" }
    -- of three case rows the middle one, then the fallthrough; a row of code 0 is drawn to
    ∷ record { table = table (switch 0 1 1 1 ∷ return 0 ∷ absent ∷ []) (0 ∷ 2 ∷ 1 ∷ []); text = ascii "digraph g {\nn0 -> n2;\nn0 -> n1;\n}\n" }
    -- no update
    ∷ record { table = table (for 4 5 none 2 1 ∷ []) []; text = ascii "digraph g {\nn0 -> n4;\nn0 -> n5;\nn0 -> n2;\nn0 -> n1;\n}\n" }
    -- a block that is named twice, and two Switches over one case row
    ∷ record {
      table = table (if 0 1 1 1 ∷ switch 0 0 1 0 ∷ switch 0 0 1 0 ∷ []) (2 ∷ []);
      text = ascii "digraph g {\nn0 -> n1;\nn0 -> n1;\nn0 -> n1;\nn1 -> n2;\nn1 -> n0;\nn2 -> n2;\nn2 -> n0;\n}\n";
    }
    ∷ record {
      table = every_end;
      text = ascii "digraph g {\nn4 -> n5;\nn5 -> n6;\nn5 -> n7;\nn5 -> n8;\nn6 -> n7;\nn6 -> n8;\nn7 -> n2;\nn7 -> n1;\nn7 -> n3;\nn8 -> n9;\nn8 -> n10;\nn8 -> n11;\n"
          ++ (ascii "n9 -> n10;\nn9 -> n11;\nn9 -> n12;\nn10 -> n11;\nn10 -> n12;\nn10 -> n13;\nn10 -> n14;\nn10 -> n15;\n"
          ++ (ascii "n11 -> n12;\nn11 -> n13;\nn11 -> n14;\nn11 -> n15;\nn12 -> n13;\nn12 -> n14;\nn12 -> n15;\n"
          ++ (ascii "n13 -> n14;\nn13 -> n15;\nn14 -> n15;\nn14 -> n16;\nn15 -> n16;\nn15 -> n17;\nn16 -> n17;\nn16 -> n18;\nn17 -> n18;\nn17 -> n19;\nn18 -> n19;\n"
          ++ ascii "n19 -> n20;\nn19 -> n21;\nn19 -> n0;\nn20 -> n21;\nn20 -> n0;\nn21 -> n0;\nn21 -> n1;\n}\n")));
    }
    ∷ []

pub the_samples : map (λ sample. graph_text sample.table) samples ≡ map (λ sample. sample.text) samples
unfolding digits_of decimal named_by lines_from lines line_text lines_text graph_text
the_samples = refl

-- W has 74 bytes, and a zero after them where more are lent; 73 are not enough
pub W-fits : placed 44 75 (graph_text W) ≡ record { code = 0; at = 0; length = 74; buffer = graph_text W ++ (0 ∷ []) }
unfolding digits_of decimal named_by lines_from lines line_text lines_text graph_text placed
W-fits = refl

pub W-short : placed 44 73 (graph_text W) ≡ record { code = 44; at = 0; length = 0; buffer = replicate 73 0 }
unfolding digits_of decimal named_by lines_from lines line_text lines_text graph_text placed refusal
W-short = refl
