-- Case files.
-- Assumes nothing.
pub mod Records
pub mod Refusal
use Rattle.std.specs.Prelude.{ℕ, zero, suc, ◌+◌, Bool, true, false, not, ◌&&◌, ◌||◌, List, [], ◌∷◌, ◌++◌, map, length, get_or, eqb, ltb, leb}
use Rattle.std.proofs.Math.Option.{Option, none, some}
use Rattle.words.specs.Sets.{join, set_of, members}
use Rattle.words.specs.Lists.{only, every, places_from}
use Rattle.words.specs.Order.{sorted, rising}
use Rattle.stacks.specs.Stack.{Operation, rewrite, push1, push2, copy, pop1, pop2, collapse1, collapse2}
use Rattle.stacks.specs.System.{Rule}
use Rattle.automata.specs.Automaton.{Automaton, Move, Edge, Entry, choice_key, entry_key}
use Rattle.files.specs.Bytes.{field, Body, placed, records_of, Test, first_hit}
use Rattle.files.specs.Codes.{our_codes, codes_right, in_our_codes}

-- ---- forms

-- "Kinds 1 to 4 in order": the bodies that every case has.
unfoldable pub case_bodies : List Body
case_bodies =
    record { kind = 1; least = 1; most = 1; size = 14 }
    ∷ record { kind = 2; least = 0; most = 256; size = 5 }
    ∷ record { kind = 3; least = 0; most = 64; size = 4 }
    ∷ record { kind = 4; least = 0; most = 1024; size = 19 }
    ∷ []

-- "A fifth body, kind 5, one record of" so many bytes.
unfoldable pub code_body : ℕ → Body
code_body n = record { kind = 5; least = 1; most = 1; size = n }

-- How a case is written: its bodies, each with a line of contents and the bytes of a record, and the number of codes in its record of kind 5,
-- which is 0 where it has none.
pub record Form : Type 0 where
  pub bodies : List Body
  pub codes : ℕ

-- The form by the first byte: "A case starts with a byte 4." "A case may carry a fifth body ..; then the first byte is 5."
unfoldable pub form_of : ℕ → Option Form
form_of first = elim (eqb first 4) [
  | true ↦ some (record { bodies = case_bodies; codes = 0 })
  | false ↦ elim (eqb first 5) [
    | true ↦ some (record { bodies = case_bodies ++ code_body 8 ∷ []; codes = 8 })
    | false ↦ none
  ]
]

-- the form of a file
unfoldable pub form : List ℕ → Option Form
form file = form_of (get_or file 0 0)

-- The first byte is that of a form, and the form's bodies are in place.
unfoldable pub case_placed : List ℕ → Bool
case_placed file = elim (form file) [ none ↦ false | some f ↦ placed f.bodies file ]

-- ---- body 1

-- the numbers of controls, inner order-2 states, inner order-1 states and symbols, and the final sets
pub record Head : Type 0 where
  pub P : ℕ
  pub I : ℕ
  pub J : ℕ
  pub A : ℕ
  pub final2 : ℕ
  pub final1 : ℕ

unfoldable pub head_of : List ℕ → Head
head_of x = record { P = get_or x 0 0; I = get_or x 1 0; J = get_or x 2 0; A = get_or x 3 0; final2 = field 4 2 x; final1 = field 6 8 x }

unfoldable pub head : List ℕ → Head
head file = head_of (get_or (records_of file 0 14) 0 [])

-- "Order-2 states: the controls, then the inner ones. Order-1 states: the inner ones, then entries": the set names inner states only.
unfoldable pub inner1 : Head → ℕ → Bool
inner1 h s = every (λ r. ltb r h.J) (members s)

unfoldable pub inner2 : Head → ℕ → Bool
inner2 h s = every (λ q. leb h.P q && ltb q (h.P + h.I)) (members s)

-- the set names order-2 states that exist, controls or inner ones
unfoldable pub existing2 : Head → ℕ → Bool
existing2 h s = every (λ q. ltb q (h.P + h.I)) (members s)

-- "The final order-2 set may name controls"; the final order-1 set names inner states only.
unfoldable pub head_right : Head → Bool
head_right h =
    leb 1 h.P && leb h.P 8 && leb h.I 8 && leb h.J 16 && leb 1 h.A && leb h.A 32
    && existing2 h h.final2
    && inner1 h h.final1

-- ---- bodies 2 and 5

-- a rule's five bytes: p, a, our code, b, p'
pub record RuleBytes : Type 0 where
  pub p : ℕ
  pub a : ℕ
  pub code : ℕ
  pub b : ℕ
  pub next : ℕ

unfoldable pub rule_bytes : List ℕ → RuleBytes
rule_bytes x = record { p = get_or x 0 0; a = get_or x 1 0; code = get_or x 2 0; b = get_or x 3 0; next = get_or x 4 0 }

-- "Each state, symbol, code and control named must exist." "From code 4 on b is 0."
unfoldable pub rule_right : Head → RuleBytes → Bool
rule_right h x =
    ltb x.p h.P && ltb x.a h.A && leb 1 x.code && leb x.code 8 && ltb x.next h.P
    && elim (ltb x.code 4) [ true ↦ ltb x.b h.A | false ↦ eqb x.b 0 ]

-- the operation of our code, from 1 to 8
unfoldable pub operation_of : ℕ → ℕ → Operation
operation_of zero b = rewrite b
operation_of (suc zero) b = rewrite b
operation_of (suc (suc zero)) b = push1 b
operation_of (suc (suc (suc zero))) b = push2 b
operation_of (suc (suc (suc (suc zero)))) b = copy
operation_of (suc (suc (suc (suc (suc zero))))) b = pop1
operation_of (suc (suc (suc (suc (suc (suc zero)))))) b = pop2
operation_of (suc (suc (suc (suc (suc (suc (suc zero))))))) b = collapse1
operation_of (suc (suc (suc (suc (suc (suc (suc (suc k)))))))) b = collapse2

unfoldable pub rule_of : RuleBytes → Rule
rule_of x = record { control = x.p; symbol = x.a; operation = operation_of x.code x.b; next = x.next }

-- the codes of the operations: those of the record of kind 5, and ours without it
unfoldable pub codes_of : List ℕ → List ℕ
codes_of file = elim (form file) [
  | none ↦ our_codes
  | some f ↦ elim (eqb f.codes 0) [ true ↦ our_codes | false ↦ get_or (records_of file 4 f.codes) 0 [] ]
]

-- the rules, each with our code of its operation
unfoldable pub rule_records : List ℕ → List RuleBytes
rule_records file = map (λ x. rule_bytes (in_our_codes (codes_of file) x)) (records_of file 1 5)

-- ---- body 3

-- an edge's four bytes: order-2 state, order-1 state (`first`, the second byte), S
pub record EdgeBytes : Type 0 where
  pub state : ℕ
  pub first : ℕ
  pub S : ℕ

unfoldable pub edge_bytes : List ℕ → EdgeBytes
edge_bytes x = record { state = get_or x 0 0; first = get_or x 1 0; S = field 2 2 x }

-- "For an inner state the second byte is an inner order-1 state. For a control it is 255 and the edge is an entry", or 254: "an
-- entry written with second byte 254 instead of 255 is final".
unfoldable pub edge_right : Head → EdgeBytes → Bool
edge_right h x =
    elim (ltb x.state h.P) [ true ↦ eqb x.first 254 || eqb x.first 255 | false ↦ ltb x.first h.J ]
    && ltb x.state (h.P + h.I)
    && inner2 h x.S

-- (state, S, second byte)
unfoldable pub edge_key : EdgeBytes → List ℕ
edge_key x = x.state ∷ x.S ∷ x.first ∷ []

unfoldable pub edge_records : List ℕ → List EdgeBytes
edge_records file = map edge_bytes (records_of file 2 4)

-- the edges of controls, which are entries
abbrev pub entry_records : Head → List EdgeBytes → List EdgeBytes
entry_records h xs = only (λ x. ltb x.state h.P) xs

-- the entries, "numbered from J in file order"
unfoldable pub entries_of : Head → List EdgeBytes → List Entry
entries_of h xs = map (λ x. record { control = x.state; S = x.S }) (entry_records h xs)

-- the final entries, where the first entry is order-1 state r: "an entry written with second byte 254 instead of 255 is final"
unfoldable pub final_entries : Head → ℕ → List EdgeBytes → List ℕ
final_entries h r xs = places_from r (λ x. eqb x.first 254) (entry_records h xs)

-- the inner edges, in the order of least choice
unfoldable pub inner_edges : Head → List EdgeBytes → List Edge
inner_edges h xs =
    sorted choice_key
    (map (λ x. record { state = x.state; first = x.first; S = x.S }) (only (λ x. not (ltb x.state h.P)) xs))

-- ---- body 4

-- a move's nineteen bytes: order-1 state, symbol, order, B, R
unfoldable pub move_of : List ℕ → Move
move_of x = record { state = get_or x 0 0; symbol = get_or x 1 0; order = get_or x 2 0; B = field 3 8 x; R = field 11 8 x }

-- "B is empty exactly at order 0." B names states of the annotation's order.
unfoldable pub annotation_right : Head → ℕ → ℕ → Bool
annotation_right h zero B = eqb B 0
annotation_right h (suc zero) B = not (eqb B 0) && inner1 h B
annotation_right h (suc (suc zero)) B = not (eqb B 0) && inner2 h B
annotation_right h (suc (suc (suc k))) B = false

-- the move, where there are n order-1 states
unfoldable pub move_right : Head → ℕ → Move → Bool
move_right h n m = ltb m.state n && ltb m.symbol h.A && annotation_right h m.order m.B && inner1 h m.R

-- (state, symbol, order, B, R)
unfoldable pub move_key : Move → List ℕ
move_key m = m.state ∷ m.symbol ∷ m.order ∷ m.B ∷ m.R ∷ []

unfoldable pub move_records : List ℕ → List Move
move_records file = map move_of (records_of file 3 19)

-- ---- the whole file

-- the number of order-1 states: J and the file's entries
unfoldable pub states1 : List ℕ → ℕ
states1 file = (head file).J + length (entries_of (head file) (edge_records file))

-- "J and the file's entries together are at most 64", and each rule, edge and move keeps the bounds of its body.
unfoldable pub records_right : List ℕ → Bool
records_right file =
    every (rule_right (head file)) (rule_records file)
    && every (edge_right (head file)) (edge_records file)
    && leb (states1 file) 64
    && every (move_right (head file) (states1 file)) (move_records file)

-- Edges are strictly increasing by (state, S, second byte), entries by (state, S) alone, since "a second entry for the same state and S is
-- refusal 4"; and moves are.
unfoldable pub increasing : List ℕ → Bool
increasing file =
    rising edge_key (edge_records file)
    && rising entry_key (entries_of (head file) (edge_records file))
    && rising move_key (move_records file)

-- refusals 1 to 4, and 12 "after 2"
unfoldable pub case_tests : List (Test (List ℕ))
case_tests =
    record { fails = λ file. not (case_placed file); refusal = 1 }
    ∷ record { fails = λ file. not (head_right (head file)); refusal = 2 }
    ∷ record { fails = λ file. not (codes_right (codes_of file)); refusal = 12 }
    ∷ record { fails = λ file. not (records_right file); refusal = 3 }
    ∷ record { fails = λ file. not (increasing file); refusal = 4 }
    ∷ []

-- 0 for a sound case, else its refusal
unfoldable pub case_refusal : List ℕ → ℕ
case_refusal file = first_hit case_tests file

-- The case's own automaton. Its final words are over all states: the final order-2 set as it stands, and the final order-1 set with the
-- final entries.
unfoldable pub own_of : List ℕ → Automaton
own_of file =
    record {
      J = (head file).J;
      final1 = join (head file).final1 (set_of (final_entries (head file) (head file).J (edge_records file)));
      final2 = (head file).final2;
      inner = inner_edges (head file) (edge_records file);
      entries = entries_of (head file) (edge_records file);
      moves = move_records file;
    }

unfoldable pub rules_of : List ℕ → List Rule
rules_of file = map rule_of (rule_records file)
