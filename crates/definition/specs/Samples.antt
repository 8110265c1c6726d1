-- The ★ samples of paper 01, and what the papers say of each.
use Rattle.std.specs.Prelude.{ℕ, ◌*◌, ◌-◌, List, [], ◌∷◌, ◌++◌, replicate}
use Rattle.definition.specs.Around.{Rule}
use Rattle.definition.specs.Build.{Outcome, built}

-- ---- the words of a table

-- a terminal as the paper writes it, While(1,2,3): its code and the columns a to e
abbrev pub Return : (value : ℕ) → List ℕ
Return value = 3 ∷ value ∷ 0 ∷ 0 ∷ 0 ∷ 0 ∷ []

abbrev pub Break : ℕ
Break = 0

abbrev pub Continue : ℕ
Continue = 1

abbrev pub Goto : (target variant : ℕ) → List ℕ
Goto target variant = 4 ∷ target ∷ variant ∷ 0 ∷ 0 ∷ 0 ∷ []

abbrev pub If : (test consequent alternate fallthrough : ℕ) → List ℕ
If test consequent alternate fallthrough = 5 ∷ test ∷ consequent ∷ alternate ∷ fallthrough ∷ 0 ∷ []

abbrev pub Branch : (test consequent alternate : ℕ) → List ℕ
Branch test consequent alternate = 6 ∷ test ∷ consequent ∷ alternate ∷ 0 ∷ 0 ∷ []

abbrev pub While : (test loop fallthrough : ℕ) → List ℕ
While test loop fallthrough = 9 ∷ test ∷ loop ∷ fallthrough ∷ 0 ∷ 0 ∷ []

abbrev pub MaybeThrow : (continuation : ℕ) → List ℕ
MaybeThrow continuation = 18 ∷ continuation ∷ 0 ∷ 0 ∷ 0 ∷ 0 ∷ []

abbrev pub Scope : (body fallthrough scope : ℕ) → List ℕ
Scope body fallthrough scope = 20 ∷ body ∷ fallthrough ∷ scope ∷ 0 ∷ 0 ∷ []

-- a block with no instructions: first, count, its terminal, id, from, to
abbrev pub empty : (terminal : List ℕ) → (id : ℕ) → List ℕ
empty terminal id = 0 ∷ 0 ∷ terminal ++ id ∷ 0 ∷ 0 ∷ []

-- six head words, so many blocks, of which 0 is the entry, and then one place and its identifier, which is named
abbrev pub table : (number : ℕ) → (blocks : List ℕ) → List ℕ
table number blocks = 0 ∷ number ∷ 0 ∷ 0 ∷ 1 ∷ 1 ∷ blocks ++ 0 ∷ 1 ∷ []

-- the table of the sample file
abbrev pub file : List ℕ
file = table 1 (empty (Return 0) 7)

abbrev pub W : List ℕ
W = table 4 (empty (While 1 2 3) 1 ++ empty (Branch 0 2 3) 2 ++ empty (Goto 1 Continue) 3 ++ empty (Return 0) 4)

-- "W, 2 Goto(3,Break)"
abbrev pub W-break : List ℕ
W-break = table 4 (empty (While 1 2 3) 1 ++ empty (Branch 0 2 3) 2 ++ empty (Goto 3 Break) 3 ++ empty (Return 0) 4)

-- "W, 0 While(1,2,1)"
abbrev pub W-own-test : List ℕ
W-own-test = table 4 (empty (While 1 2 1) 1 ++ empty (Branch 0 2 3) 2 ++ empty (Goto 1 Continue) 3 ++ empty (Return 0) 4)

-- "W, 1 empty MaybeThrow(1)"
abbrev pub W-endless-test : List ℕ
W-endless-test = table 4 (empty (While 1 2 3) 1 ++ empty (MaybeThrow 1) 2 ++ empty (Goto 1 Continue) 3 ++ empty (Return 0) 4)

-- "0 Scope(1,2,5); 1 Goto(2,Break); 2 Return(0) id 4"
abbrev pub scoped : List ℕ
scoped = table 3 (empty (Scope 1 2 5) 1 ++ empty (Goto 2 Break) 2 ++ empty (Return 0) 4)

-- "0 If(0,1,1,2), 1 and 2 Return"
abbrev pub same_ways : List ℕ
same_ways = table 3 (empty (If 0 1 1 2) 1 ++ empty (Return 0) 2 ++ empty (Return 0) 4)

-- paper 02, M-108: a block with a span, and its one instruction with another
abbrev pub spanned : (from to from' to' : ℕ) → List ℕ
spanned from to from' to' = 0 ∷ 1 ∷ 1 ∷ 0 ∷ 1 ∷ 1 ∷ 0 ∷ 1 ∷ Return 0 ++ 7 ∷ from ∷ to ∷ 5 ∷ 0 ∷ 0 ∷ 0 ∷ 0 ∷ from' ∷ to' ∷ 0 ∷ 1 ∷ []

-- ---- the words of rows

abbrev pub PLAIN : (instruction : ℕ) → List ℕ
PLAIN instruction = 1 ∷ instruction ∷ 0 ∷ 0 ∷ 0 ∷ 0 ∷ []

abbrev pub LOAD : (place : ℕ) → List ℕ
LOAD place = 2 ∷ place ∷ 0 ∷ 0 ∷ 0 ∷ 0 ∷ []

abbrev pub INSTR : (id lvalue from to : ℕ) → List ℕ
INSTR id lvalue from to = 4 ∷ id ∷ lvalue ∷ from ∷ to ∷ 0 ∷ []

abbrev pub BLOCK : (statements : ℕ) → List ℕ
BLOCK statements = 9 ∷ statements ∷ 0 ∷ 0 ∷ 0 ∷ 0 ∷ []

abbrev pub WHILE : (id label : ℕ) → List ℕ
WHILE id label = 14 ∷ id ∷ label ∷ 0 ∷ 0 ∷ 0 ∷ []

abbrev pub SCOPE : (scope : ℕ) → List ℕ
SCOPE scope = 20 ∷ scope ∷ 0 ∷ 0 ∷ 0 ∷ 0 ∷ []

abbrev pub RETURN : (value id : ℕ) → List ℕ
RETURN value id = 22 ∷ value ∷ id ∷ 0 ∷ 0 ∷ 0 ∷ []

abbrev pub BREAK : (target id kind loops : ℕ) → List ℕ
BREAK target id kind loops = 24 ∷ target ∷ id ∷ kind ∷ loops ∷ 0 ∷ []

abbrev pub CONTINUE : (target id kind loops : ℕ) → List ℕ
CONTINUE target id kind loops = 25 ∷ target ∷ id ∷ kind ∷ loops ∷ 0 ∷ []

-- ---- the samples

pub record Sample : Type 0 where
  pub words : List ℕ
  pub lent : ℕ
  pub lent_index : ℕ
  pub outcome : Outcome

-- accepted: the buffers hold the rows and the lines, then zeros
abbrev pub accepts : (words : List ℕ) → (lent lent_index rows visits lines : ℕ) → (row_words line_words : List ℕ) → Sample
accepts words lent lent_index rows visits lines row_words line_words = record {
  words = words;
  lent = lent;
  lent_index = lent_index;
  outcome = record {
    code = 0;
    at = 0;
    rows = rows;
    visits = visits;
    lines = lines;
    buffer = row_words ++ replicate (lent - rows * 6) 0;
    index = line_words ++ replicate (lent_index - lines * 3) 0;
  };
}

-- refused: all zeros
abbrev pub refuses : (words : List ℕ) → (lent lent_index code at rows visits : ℕ) → Sample
refuses words lent lent_index code at rows visits = record {
  words = words;
  lent = lent;
  lent_index = lent_index;
  outcome = record { code = code; at = at; rows = rows; visits = visits; lines = 0; buffer = replicate lent 0; index = replicate lent_index 0 };
}

-- label, first row, closing row
abbrev pub line : (label first closing : ℕ) → List ℕ
line label first closing = label ∷ first ∷ closing ∷ []

-- accepts: table, words lent for the tree and the index, rows, visits, lines. refuses: table, words lent, code, at, rows, visits. The first is what
-- treebuild prints: "It lends 2,048 rows", and 2,048 lines
abbrev pub samples : List Sample
samples =
    accepts file 12288 6144 2 1 0 (RETURN 0 7 ++ BLOCK 1) []
    ∷ accepts file 12 0 2 1 0 (RETURN 0 7 ++ BLOCK 1) []
    ∷ refuses file 11 0 40 0 2 1
    ∷ accepts W 36 3 6 4 1 (LOAD 0 ++ CONTINUE 3 3 0 0 ++ BLOCK 1 ++ WHILE 1 3 ++ RETURN 0 4 ++ BLOCK 2) (line 3 0 3)
    ∷ accepts W-break 45 8 6 4 1 (LOAD 0 ++ BREAK 3 3 2 0 ++ BLOCK 1 ++ WHILE 1 3 ++ RETURN 0 4 ++ BLOCK 2) (line 3 0 3)
    ∷ refuses W-own-test 36 3 15 1 0 1
    ∷ refuses W-endless-test 36 3 30 1 0 128
    ∷ accepts scoped 27 2 4 3 0 (BLOCK 0 ++ SCOPE 5 ++ RETURN 0 4 ++ BLOCK 2) []
    ∷ refuses same_ways 24 6 11 1 0 3
    ∷ accepts (spanned 0 5 3 9) 24 0 4 1 0 (PLAIN 0 ++ INSTR 5 0 3 9 ++ RETURN 0 7 ++ BLOCK 2) []
    ∷ refuses (spanned 5 4 3 9) 24 0 4 16 0 0
    ∷ refuses (spanned 0 5 2 1) 24 0 4 23 0 0
    ∷ []

abbrev pub built_for : Rule → Sample → Outcome
built_for rule sample = built rule sample.words sample.lent sample.lent_index
