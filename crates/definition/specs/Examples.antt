-- Example tables of demand 3 and M-113: W of paper 01 with instructions, two loops of which the inner continues the outer, and a switch in a loop.
use Rattle.std.specs.Prelude.{ℕ, List, [], ◌∷◌, ◌++◌}

-- first, count, code, a to e, id, from, to
abbrev pub block_row : (first count code a b c d e id : ℕ) → List ℕ
block_row first count code a b c d e id = first ∷ count ∷ code ∷ a ∷ b ∷ c ∷ d ∷ e ∷ id ∷ 0 ∷ 0 ∷ []

-- id, lvalue, code, p, q, from, to: not a load and not a store
abbrev pub plain_instruction : (id : ℕ) → List ℕ
plain_instruction id = id ∷ 0 ∷ 0 ∷ 0 ∷ 0 ∷ 0 ∷ 0 ∷ []

-- W: 0 While(1,2,3) id 1; 1 Branch(0,2,3) id 2; 2 Goto(1,Continue) id 3; 3 Return(0) id 4, with one, two, one and one instruction
abbrev pub W : List ℕ
W =
    0 ∷ 4 ∷ 5 ∷ 0 ∷ 1 ∷ 1
    ∷ (block_row 0 1 9 1 2 3 0 0 1
    ++ (block_row 1 2 6 0 2 3 0 0 2
    ++ (block_row 3 1 4 1 1 0 0 0 3
    ++ (block_row 4 1 3 0 0 0 0 0 4
    ++ (plain_instruction 10 ++ (plain_instruction 11 ++ (plain_instruction 12 ++ (plain_instruction 13 ++ (plain_instruction 14 ++ (0 ∷ 1 ∷ []))))))))))

-- Two loops: 0 While(1,2,3); 1 Branch(0,2,3); 2 While(4,5,6); 4 Branch(0,5,6); 5 If(0,7,8,8): its consequent 7 goes on to the outer loop's
-- test, 8 to the inner's; 6 Goto(1,Continue); 3 Throw(0) id 9. One instruction in each block but the last two
abbrev pub loops : List ℕ
loops =
    0 ∷ 9 ∷ 7 ∷ 0 ∷ 1 ∷ 1
    ∷ (block_row 0 1 9 1 2 3 0 0 1
    ++ (block_row 1 1 6 0 2 3 0 0 2
    ++ (block_row 2 1 9 4 5 6 0 0 3
    ++ (block_row 3 1 2 0 0 0 0 0 9
    ++ (block_row 4 1 6 0 5 6 0 0 4
    ++ (block_row 5 1 5 0 7 8 8 0 5
    ++ (block_row 6 1 4 1 1 0 0 0 6
    ++ (block_row 0 0 4 1 1 0 0 0 7
    ++ (block_row 0 0 4 4 1 0 0 0 8
    ++ (plain_instruction 10 ++ (plain_instruction 11 ++
    (plain_instruction 12 ++ (plain_instruction 13 ++ (plain_instruction 14 ++ (plain_instruction 15 ++ (plain_instruction 16 ++ (0 ∷ 1 ∷ [])))))))))))))))))

-- M-113, a switch in a loop: 0 While(1,2,3); 1 Branch(0,2,3); 2 Switch of the cases 4, 5 and 6, fallthrough 7; 3 Return(0) id 4; 4 Goto(7,Break) leaves the
-- switch, 5 Goto(3,Break) the loop, 6 Goto(1,Continue) goes on with the loop, and so does 7. One instruction in each block
abbrev pub picks : List ℕ
picks =
    0 ∷ 8 ∷ 8 ∷ 3 ∷ 1 ∷ 1
    ∷ (block_row 0 1 9 1 2 3 0 0 1
    ++ (block_row 1 1 6 0 2 3 0 0 2
    ++ (block_row 2 1 7 0 0 3 7 0 3
    ++ (block_row 3 1 3 0 0 0 0 0 4
    ++ (block_row 4 1 4 7 0 0 0 0 5
    ++ (block_row 5 1 4 3 0 0 0 0 6
    ++ (block_row 6 1 4 1 1 0 0 0 7
    ++ (block_row 7 1 4 1 1 0 0 0 8
    ++ (plain_instruction 10 ++ (plain_instruction 11 ++ (plain_instruction 12 ++ (plain_instruction 13 ++ (plain_instruction 14 ++ (plain_instruction 15 ++
    (plain_instruction 16 ++ (plain_instruction 17 ++ (0 ∷ 4 ∷ 0 ∷ 5 ∷ 0 ∷ 6 ∷ 0 ∷ 1 ∷ [])))))))))))))))))
