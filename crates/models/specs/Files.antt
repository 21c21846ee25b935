-- The files of document 01's worked models A, B and C, of its sentence "At the edges" and of document 02's examples, byte by byte.
-- Assumes nothing.
use Rattle.std.specs.Prelude.{ℕ, zero, suc, ◌+◌, ◌*◌, ◌/◌, ◌%◌, List, [], ◌∷◌, ◌++◌, drop}

-- ---- records as bytes

-- a number in two bytes, low byte first
unfoldable pub two : ℕ → List ℕ
two n = n % 256 ∷ n / 256 ∷ []

-- a line of a table of contents, the offset below 65,536
unfoldable pub line : ℕ → ℕ → ℕ → List ℕ
line kind count offset = two kind ++ two count ++ two offset ++ (0 ∷ 0 ∷ [])

-- body 1 with these numbers of controls, inner states and symbols, these final sets of order 2 and of order 1, both below 65,536,
unfoldable pub head_with : ℕ → ℕ → ℕ → ℕ → ℕ → ℕ → List ℕ
head_with P I J A final2 final1 = P ∷ I ∷ J ∷ A ∷ two final2 ++ two final1 ++ (0 ∷ 0 ∷ 0 ∷ 0 ∷ 0 ∷ 0 ∷ [])

-- and with empty ones
unfoldable pub head : ℕ → ℕ → ℕ → ℕ → List ℕ
head P I J A = head_with P I J A 0 0

unfoldable pub rule : ℕ → ℕ → ℕ → ℕ → ℕ → List ℕ
rule p a code b next = p ∷ a ∷ code ∷ b ∷ next ∷ []

-- the entry [p,S]
unfoldable pub entry : ℕ → ℕ → List ℕ
entry p S = p ∷ 255 ∷ two S

-- the entry [p,S], final
unfoldable pub final_entry : ℕ → ℕ → List ℕ
final_entry p S = p ∷ 254 ∷ two S

-- a move of order 0 with empty sets
unfoldable pub plain : ℕ → ℕ → List ℕ
plain r a = r ∷ a ∷ 0 ∷ 0 ∷ 0 ∷ 0 ∷ 0 ∷ 0 ∷ 0 ∷ 0 ∷ 0 ∷ 0 ∷ 0 ∷ 0 ∷ 0 ∷ 0 ∷ 0 ∷ 0 ∷ 0 ∷ []

unfoldable pub start : ℕ → ℕ → List ℕ
start p root = p ∷ two root

unfoldable pub empty1 : List ℕ
empty1 = 1 ∷ 0 ∷ 0 ∷ 0 ∷ 0 ∷ 0 ∷ []

-- symbol a, annotated by cell u, on cell s
unfoldable pub symbol : ℕ → ℕ → ℕ → List ℕ
symbol a u s = 2 ∷ a ∷ two u ++ two s

unfoldable pub empty2 : List ℕ
empty2 = 3 ∷ 0 ∷ 0 ∷ 0 ∷ 0 ∷ 0 ∷ []

-- order-1 cell w on order-2 cell t
unfoldable pub above : ℕ → ℕ → List ℕ
above w t = 4 ∷ 0 ∷ two w ++ two t

-- ---- model A

-- "Case A: P 2, I 0, J 0, A 2; rules 0: (0,0,3,1,0), 1: (0,1,8,0,1); edge (1,255,empty); move (0,1,0,empty,empty). 80 bytes."
unfoldable pub case_a : List ℕ
case_a =
    (4 ∷ []) ++ line 1 1 33 ++ line 2 2 47 ++ line 3 1 57 ++ line 4 1 61
    ++ head 2 0 0 2
    ++ rule 0 0 3 1 0
    ++ rule 0 1 8 0 1
    ++ entry 1 0
    ++ plain 0 1

-- "Cells: 0 empty order-1; 1 symbol 1 on 0 annotated 0; 2 empty order-2; 3 is 1 on 2; 4 symbol 0 on 0 annotated 0; 5 is 4 on 3.
-- Starts (0,5), (1,3), (0,3)."
unfoldable pub start_a : List ℕ
start_a =
    (2 ∷ []) ++ line 1 3 17 ++ line 2 6 26
    ++ start 0 5
    ++ start 1 3
    ++ start 0 3
    ++ empty1
    ++ symbol 1 0 0
    ++ empty2
    ++ above 1 2
    ++ symbol 0 0 0
    ++ above 4 3

-- ---- model B

-- model B with this final order-1 set, below 65,536, and these n entries
unfoldable pub case_b_with : ℕ → ℕ → List ℕ → List ℕ
case_b_with final1 n entries =
    (4 ∷ []) ++ line 1 1 33 ++ line 2 1 47 ++ line 3 n 52 ++ line 4 1 (52 + n * 4)
    ++ head_with 2 0 0 2 0 final1
    ++ rule 0 0 5 0 1
    ++ entries
    ++ plain 0 1

-- "Case B: target as A, rule (0,0,5,0,1)."
unfoldable pub case_b : List ℕ
case_b = case_b_with 0 1 (entry 1 0)

-- "starts with control 0": symbol 0 above 1, and symbol 0 alone
unfoldable pub start_b : List ℕ
start_b =
    (2 ∷ []) ++ line 1 2 17 ++ line 2 7 23
    ++ start 0 4
    ++ start 0 6
    ++ empty1
    ++ symbol 1 0 0
    ++ symbol 0 0 1
    ++ empty2
    ++ above 2 3
    ++ symbol 0 0 0
    ++ above 5 3

-- model B with its entry "written with 254": it is final
unfoldable pub case_b_final : List ℕ
case_b_final = case_b_with 0 1 (final_entry 1 0)

-- model B with its entry written twice, with 254 and with 255
unfoldable pub case_b_twice : List ℕ
case_b_twice = case_b_with 0 2 (final_entry 1 0 ++ entry 1 0)

-- model B with a final order-1 set that names its entry
unfoldable pub case_b_named : List ℕ
case_b_named = case_b_with 1 1 (entry 1 0)

-- "model B's lone symbol" in a file of its own, of four cells
unfoldable pub start_lone : List ℕ
start_lone = (2 ∷ []) ++ line 1 1 17 ++ line 2 4 20 ++ start 0 3 ++ empty1 ++ empty2 ++ symbol 0 0 0 ++ above 2 1

-- an empty order-1 stack alone, with control 0 and with control 1, and the empty order-2 stack with control 1
unfoldable pub start_empty : List ℕ
start_empty = (2 ∷ []) ++ line 1 3 17 ++ line 2 3 26 ++ start 0 2 ++ start 1 2 ++ start 1 1 ++ empty1 ++ empty2 ++ above 0 1

-- model B without its rule, with an inner state 2, from which no stack is accepted, and a final entry [1,{2}] after [1,empty]
unfoldable pub case_b_other : List ℕ
case_b_other =
    (4 ∷ []) ++ line 1 1 33 ++ line 2 0 47 ++ line 3 2 47 ++ line 4 1 55
    ++ head 2 1 0 2
    ++ entry 1 0
    ++ final_entry 1 4
    ++ plain 0 1

-- ---- a finished script

-- P 2, I 0, J 0, A 1; control 1 is final; rules 0: (0,0,6,0,0), 1: (0,0,6,0,1); no edge and no move
unfoldable pub case_finished : List ℕ
case_finished =
    (4 ∷ []) ++ line 1 1 33 ++ line 2 2 47 ++ line 3 0 57 ++ line 4 0 57
    ++ head_with 2 0 0 1 2 0
    ++ rule 0 0 6 0 0
    ++ rule 0 0 6 0 1

-- for it: [[0],[0]], [[0]] and the empty stack with control 0, the empty stack and [[0]] with control 1
unfoldable pub start_finished : List ℕ
start_finished =
    (2 ∷ []) ++ line 1 5 17 ++ line 2 5 32
    ++ start 0 4
    ++ start 0 3
    ++ start 0 1
    ++ start 1 1
    ++ start 1 3
    ++ empty1
    ++ empty2
    ++ symbol 0 0 0
    ++ above 2 1
    ++ above 2 3

-- ---- model C

-- "Case C: P 2, I 0, J 0, A 1, target [1,empty] on symbol 0; rules 0: (0,0,4,0,0), 1: (0,0,6,0,1)."
unfoldable pub case_c : List ℕ
case_c =
    (4 ∷ []) ++ line 1 1 33 ++ line 2 2 47 ++ line 3 1 57 ++ line 4 1 61
    ++ head 2 0 0 1
    ++ rule 0 0 4 0 0
    ++ rule 0 0 6 0 1
    ++ entry 1 0
    ++ plain 0 0

-- "[[0]], a file of four cells"
unfoldable pub start_c : List ℕ
start_c = (2 ∷ []) ++ line 1 1 17 ++ line 2 4 20 ++ start 0 3 ++ empty1 ++ symbol 0 0 0 ++ empty2 ++ above 1 2

-- "[[0],[0]]"
unfoldable pub start_c_c : List ℕ
start_c_c = (2 ∷ []) ++ line 1 1 17 ++ line 2 5 20 ++ start 0 4 ++ empty1 ++ symbol 0 0 0 ++ empty2 ++ above 1 2 ++ above 1 3

-- ---- the circle model

-- Model C with entry [0,empty] in its file, numbered before [0,{1}]: a guide that takes the least move afresh after each step copies for
-- ever ("Readings to rule out"). Start file: start_c.
unfoldable pub case_circle : List ℕ
case_circle =
    (4 ∷ []) ++ line 1 1 33 ++ line 2 2 47 ++ line 3 2 57 ++ line 4 1 65
    ++ head 2 0 0 1
    ++ rule 0 0 4 0 0
    ++ rule 0 0 6 0 1
    ++ entry 0 0
    ++ entry 1 0
    ++ plain 1 0

-- ---- traces that are no faults

-- Model C with a rule that goes on from its target: rules 0: (0,0,6,0,1), 1: (1,0,1,0,0). Start file: start_c_c.
unfoldable pub case_past : List ℕ
case_past =
    (4 ∷ []) ++ line 1 1 33 ++ line 2 2 47 ++ line 3 1 57 ++ line 4 1 61
    ++ head 2 0 0 1
    ++ rule 0 0 6 0 1
    ++ rule 1 0 1 0 0
    ++ entry 1 0
    ++ plain 0 0

-- Model C with the rules 0: (0,0,7,0,1), 1: (0,0,8,0,1), which collapse.
unfoldable pub case_collapse : List ℕ
case_collapse =
    (4 ∷ []) ++ line 1 1 33 ++ line 2 2 47 ++ line 3 1 57 ++ line 4 1 61
    ++ head 2 0 0 1
    ++ rule 0 0 7 0 1
    ++ rule 0 0 8 0 1
    ++ entry 1 0
    ++ plain 0 0

-- for it: symbol 0 annotated by the order-1 stack of symbol 0, and by the order-2 stack of that
unfoldable pub start_collapse : List ℕ
start_collapse =
    (2 ∷ []) ++ line 1 2 17 ++ line 2 8 23
    ++ start 0 5
    ++ start 0 7
    ++ empty1
    ++ symbol 0 0 0
    ++ empty2
    ++ above 1 2
    ++ symbol 0 1 0
    ++ above 4 2
    ++ symbol 0 3 0
    ++ above 6 2

-- ---- document 02, 7

-- an entry without moves, beside a move of inner state 0
unfoldable pub case_inner : List ℕ
case_inner = (4 ∷ []) ++ line 1 1 33 ++ line 2 0 47 ++ line 3 1 47 ++ line 4 1 51 ++ head 1 0 1 1 ++ entry 0 0 ++ plain 0 0

-- an entry with a move on symbol 0; the rules rewrite 1 to 0 and 2 to 1
unfoldable pub case_more : List ℕ
case_more =
    (4 ∷ []) ++ line 1 1 33 ++ line 2 2 47 ++ line 3 1 57 ++ line 4 1 61
    ++ head 1 0 0 3
    ++ rule 0 1 1 0 0
    ++ rule 0 2 1 1 0
    ++ entry 0 0
    ++ plain 0 0

-- no entry
unfoldable pub case_none : List ℕ
case_none = (4 ∷ []) ++ line 1 1 33 ++ line 2 0 47 ++ line 3 0 47 ++ line 4 0 47 ++ head 1 0 0 1

-- the empty order-2 stack
unfoldable pub start_none : List ℕ
start_none = (2 ∷ []) ++ line 1 1 17 ++ line 2 1 20 ++ start 0 0 ++ empty2

-- ---- a start as brackets

-- P 1, I 0, J 0, A 32; no rule, edge or move
unfoldable pub case_brackets : List ℕ
case_brackets = (4 ∷ []) ++ line 1 1 33 ++ line 2 0 47 ++ line 3 0 47 ++ line 4 0 47 ++ head 1 0 0 32

-- For it: symbol 0 annotated by the empty order-1 stack, by the empty order-2 stack, and a stack on cells that are shared. Cells: 0 empty order-1; 1 empty
-- order-2; 2 symbol 0 on 0 annotated 0; 3 is 2 on 1; 4 symbol 0 on 0 annotated 1; 5 is 4 on 1; 6 symbol 31 on 2 annotated 2; 7 is 0 on 5; 8 symbol 10 on 6
-- annotated 7; 9 is 8 on 7.
unfoldable pub start_brackets : List ℕ
start_brackets =
    (2 ∷ []) ++ line 1 3 17 ++ line 2 10 26
    ++ start 0 3
    ++ start 0 5
    ++ start 0 9
    ++ empty1
    ++ empty2
    ++ symbol 0 0 0
    ++ above 2 1
    ++ symbol 0 1 0
    ++ above 4 1
    ++ symbol 31 2 2
    ++ above 0 5
    ++ symbol 10 7 6
    ++ above 8 7

-- ---- tools' own codes

-- Model A's bodies and a fifth, this record of codes, behind this first byte, the first body at this offset: with so many symbols in its head
-- and these two rules.
unfoldable pub case_coded : ℕ → ℕ → ℕ → List ℕ → List ℕ → List ℕ
case_coded first at symbols rules codes =
    (first ∷ []) ++ line 1 1 at ++ line 2 2 (at + 14) ++ line 3 1 (at + 24) ++ line 4 1 (at + 28) ++ line 5 1 (at + 47)
    ++ head 2 0 0 symbols
    ++ rules
    ++ entry 1 0
    ++ plain 0 1
    ++ codes

-- a tool's codes, and model A's rules in them
unfoldable pub tool_codes : List ℕ
tool_codes = 20 ∷ 10 ∷ 30 ∷ 40 ∷ 50 ∷ 60 ∷ 70 ∷ 80 ∷ []

unfoldable pub tool_rules : List ℕ
tool_rules = rule 0 0 30 1 0 ++ rule 0 1 80 0 1

-- model A in that tool's codes: "then the first byte is 5, the first body starts at byte 41"
unfoldable pub case_tool : List ℕ
case_tool = case_coded 5 41 2 tool_rules tool_codes

-- its record with a zero, and with its first byte twice
unfoldable pub zero_codes : List ℕ
zero_codes = 20 ∷ 10 ∷ 30 ∷ 40 ∷ 0 ∷ 60 ∷ 70 ∷ 80 ∷ []

unfoldable pub twice_codes : List ℕ
twice_codes = 20 ∷ 10 ∷ 30 ∷ 40 ∷ 50 ∷ 60 ∷ 20 ∷ 80 ∷ []

unfoldable pub case_tool_zero : List ℕ
case_tool_zero = case_coded 5 41 2 tool_rules zero_codes

unfoldable pub case_tool_twice : List ℕ
case_tool_twice = case_coded 5 41 2 tool_rules twice_codes

-- a byte twice and a rule of a control that is not there, and a zero and 33 symbols
unfoldable pub case_tool_broken : List ℕ
case_tool_broken = case_coded 5 41 2 (rule 9 0 30 1 0 ++ rule 0 1 80 0 1) twice_codes

unfoldable pub case_tool_symbols : List ℕ
case_tool_symbols = case_coded 5 41 33 tool_rules zero_codes

-- one of our own codes, 3, which is not in the tool's record
unfoldable pub case_tool_ours : List ℕ
case_tool_ours = case_coded 5 41 2 (rule 0 0 3 1 0 ++ rule 0 1 80 0 1) tool_codes

-- five lines and the first body still at byte 33, five lines behind a first byte 4, and four lines behind a first byte 5
unfoldable pub case_tool_early : List ℕ
case_tool_early = case_coded 5 33 2 tool_rules tool_codes

unfoldable pub case_tool_four : List ℕ
case_tool_four = case_coded 4 41 2 tool_rules tool_codes

unfoldable pub case_a_five : List ℕ
case_a_five = 5 ∷ drop 1 case_a

-- The record 5, 1, 2, 3, 4, 6, 7, 8: 5 is a rewrite and 1 a push at order 1. P 2, I 0, J 1, A 2; order-1 state 0 is final; the rule
-- (0,0,code,1,1); edge (1,255,empty); move (1,1,0,empty,{0}), so that the stacks of its target have [1] on top. Start file: start_lone.
unfoldable pub case_turned : ℕ → List ℕ
case_turned code =
    (5 ∷ []) ++ line 1 1 41 ++ line 2 1 55 ++ line 3 1 60 ++ line 4 1 64 ++ line 5 1 83
    ++ head_with 2 0 1 2 0 1
    ++ rule 0 0 code 1 1
    ++ entry 1 0
    ++ (1 ∷ 1 ∷ 0 ∷ 0 ∷ 0 ∷ 0 ∷ 0 ∷ 0 ∷ 0 ∷ 0 ∷ 0 ∷ 1 ∷ 0 ∷ 0 ∷ 0 ∷ 0 ∷ 0 ∷ 0 ∷ 0 ∷ [])
    ++ (5 ∷ 1 ∷ 2 ∷ 3 ∷ 4 ∷ 6 ∷ 7 ∷ 8 ∷ [])

-- ---- "the table of those rounds alone"

-- P 2, I 0, J 0, A 3; rules 0: (0,0,6,0,1), 1: (0,0,1,2,0), 2: (0,2,1,1,1); edges (0,255,empty), (1,255,empty); move (1,1,0,empty,empty). Round 1
-- adds [0,empty] with (2, empty, empty) and the entry [0,{1}] with (0, empty, empty), round 2 [0,empty] with (0, empty, empty). Start file: A's.
unfoldable pub case_ways : List ℕ
case_ways =
    (4 ∷ []) ++ line 1 1 33 ++ line 2 3 47 ++ line 3 2 62 ++ line 4 1 70
    ++ head 2 0 0 3
    ++ rule 0 0 6 0 1
    ++ rule 0 0 1 2 0
    ++ rule 0 2 1 1 1
    ++ entry 0 0 ++ entry 1 0
    ++ plain 1 1

-- ---- at the edges

-- n times the same bytes
unfoldable pub times : ℕ → List ℕ → List ℕ
times zero x = []
times (suc n) x = x ++ times n x

-- a start file for case A with n starts (1,3), on its first four cells
unfoldable pub starts_a : ℕ → List ℕ
starts_a n =
    (2 ∷ []) ++ line 1 n 17 ++ line 2 4 (17 + n * 3)
    ++ times n (start 1 3)
    ++ empty1
    ++ symbol 1 0 0
    ++ empty2
    ++ above 1 2

-- case A with n rules, each its rule 1
unfoldable pub rules_a : ℕ → List ℕ
rules_a n =
    (4 ∷ []) ++ line 1 1 33 ++ line 2 n 47 ++ line 3 1 (47 + n * 5) ++ line 4 1 (51 + n * 5)
    ++ head 2 0 0 2
    ++ times n (rule 0 1 8 0 1)
    ++ entry 1 0
    ++ plain 0 1

-- a start file for case A whose cell 3 names itself
unfoldable pub itself_a : List ℕ
itself_a = (2 ∷ []) ++ line 1 1 17 ++ line 2 4 20 ++ start 1 3 ++ empty1 ++ symbol 1 0 0 ++ empty2 ++ above 1 3
