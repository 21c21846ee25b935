-- The sentences of document 01 that are marked *, its sentence "At the edges", and what document 02 states by example: a table of examples
-- from the bytes of the files to the reply and all lent memory, and one theorem that covers it. It holds by computation of the definitions.
-- Assumes nothing.
use Rattle.std.specs.Prelude.{ℕ, ◌+◌, ◌*◌, ◌≡◌, refl, List, [], ◌∷◌, ◌++◌, replicate}
use Rattle.automata.specs.Automaton.{Automaton}
use Rattle.automata.specs.Saturation.{table_after, all_rounds}
use Rattle.automata.specs.Models
use Rattle.replies.specs.declared.Halt.TheVariants.{Arrived}
use Rattle.replies.specs.declared.Reply.{Reply}
use Rattle.replies.specs.declared.Reply.TheVariants.{NoRun, Open, Walked}
use Rattle.replies.specs.declared.Replayed.{Replayed}
use Rattle.replies.specs.declared.Replayed.TheVariants.{Refused, Accepted, FailsAt}
use Rattle.replies.specs.declared.Brackets.{Brackets}
use Rattle.files.specs.Case.{own_of, rules_of}
use Rattle.files.specs.Rewriting.{rewriting}
use Rattle.words.specs.Lists.{zeros}
use Rattle.services.specs.Saturate.{saturate_service}
use Rattle.services.specs.Judge.{judge_service}
use Rattle.services.specs.Guide.{guide_service}
use Rattle.services.specs.Replay.{replay_service}
use Rattle.services.specs.Listing.{listing_text, ascii}
use Rattle.services.specs.Run.{run_text, number_named}
use Rattle.services.specs.Brackets.{brackets_service, show_text}
use Rattle.models.specs.Computing.{computed}
use Rattle.models.specs.Files.{two, case_a, start_a, case_b, start_b, case_b_final, start_lone, start_empty, case_b_twice, case_b_named, case_b_other, case_finished, start_finished, case_c, start_c, start_c_c, case_past, case_collapse, start_collapse, starts_a, rules_a, itself_a}
use Rattle.models.specs.Files.{case_inner, case_more, case_none, case_ways, start_none, case_brackets, start_brackets, case_tool, case_tool_zero, case_tool_twice, case_tool_broken, case_tool_symbols, case_tool_ours, case_tool_early, case_tool_four, case_a_five, case_turned}

-- ---- what an example says

pub data Example : Type 0 where
  -- the table after so many rounds of the case
  table : List ℕ → ℕ → Automaton → Example
  -- saturate, with so many words lent for moves, 17 (three records and two words) or 14, and so many for entries, 11 (three records and two
  -- words) or 8: its code and its two numbers, then what both slices hold
  saturates : List ℕ → ℕ → ℕ → ℕ → ℕ → ℕ → List ℕ → List ℕ → Example
  -- judge in all rounds, with 17 and 11 words and so many answers lent, words of 16 bits: its code and its count, and what the answers hold
  judges : List ℕ → List ℕ → ℕ → ℕ → ℕ → List ℕ → Example
  -- judge in so many rounds, with so many words lent for moves and for entries, and three answers: the same
  judges_in : List ℕ → List ℕ → ℕ → ℕ → ℕ → ℕ → ℕ → List ℕ → Example
  -- guide in all rounds to the start of this number, with 17 and 11 words, 10 cells and 3 trace words lent: its reply, and what the trace holds
  guides : List ℕ → List ℕ → ℕ → Reply → List ℕ → Example
  -- guide to the start of this number in so many rounds, with so many words lent for moves and for entries, and as many cells and trace words:
  -- the same
  guides_in : List ℕ → List ℕ → ℕ → ℕ → ℕ → ℕ → Reply → List ℕ → Example
  -- replay of the trace of these bytes from the start of this number, with so many bytes lent for cells: its reply
  replays : List ℕ → List ℕ → ℕ → List ℕ → ℕ → Replayed → Example
  -- the text that the printing program prints
  lists : List ℕ → List ℕ → List ℕ → Example
  -- the text that the program `run` prints for the number of a start and the number of rounds that these bytes name
  runs : List ℕ → List ℕ → List ℕ → List ℕ → List ℕ → Example
  -- brackets of the start of this number, with so many bytes lent for the text: its reply, and what these bytes hold
  prints : List ℕ → List ℕ → ℕ → ℕ → Brackets → List ℕ → Example
  -- the text that the program `show` prints for the start of this number
  shows : List ℕ → List ℕ → ℕ → List ℕ → Example

-- The example is what the definitions give. All other lent memory is zero.
abbrev pub Holds : Example → Type 0
Holds (table case n A) = table_after (rules_of case) (own_of case) n ≡ A
Holds (saturates case movesLent entriesLent code moves entries move_words entry_words) =
    saturate_service (record { case = case; moves = movesLent; entries = entriesLent })
    ≡ record { reply = record { code = code; moves = moves; entries = entries }; moves = move_words; entries = entry_words }
Holds (judges case start answers code count words) =
    judge_service (record { case = case; start = start; rounds = all_rounds; moves = 17; entries = 11; answers = answers })
    ≡ record { code = code; rounds = count; moves = zeros 17; entries = zeros 11; answers = words }
Holds (judges_in case start rounds moves entries code count words) =
    judge_service (record { case = case; start = start; rounds = rounds; moves = moves; entries = entries; answers = 3 })
    ≡ record { code = code; rounds = count; moves = zeros moves; entries = zeros entries; answers = words }
Holds (guides case start number reply trace) =
    guide_service (record { case = case; start = start; number = number; rounds = all_rounds; moves = 17; entries = 11; cells = 10 * 68; trace = 3 })
    ≡ record { reply = reply; moves = zeros 17; entries = zeros 11; cells = zeros (10 * 68); trace = trace }
Holds (guides_in case start number rounds moves entries reply trace) =
    guide_service (record { case = case; start = start; number = number; rounds = rounds; moves = moves; entries = entries; cells = 10 * 68; trace = 3 })
    ≡ record { reply = reply; moves = zeros moves; entries = zeros entries; cells = zeros (10 * 68); trace = trace }
Holds (replays case start number trace cells reply) =
    replay_service (record { case = case; start = start; number = number; trace = trace; cells = cells })
    ≡ record { reply = reply; cells = zeros cells }
Holds (lists case start text) = listing_text (record { case = case; start = start }) ≡ text
Holds (runs case start number rounds text) =
    run_text (record { case = case; start = start }) (number_named 64 number) (number_named all_rounds rounds) ≡ text
Holds (prints case start number lent reply text) =
    brackets_service (record { case = case; start = start; number = number; text = lent }) ≡ record { reply = reply; text = text }
Holds (shows case start number text) = show_text (record { case = case; start = start }) number ≡ text

abbrev pub AllHold : List Example → Type 0
AllHold [] = Unit {0}
AllHold (e ∷ es) = Holds e × AllHold es

-- arrived after so many steps with so many cells
abbrev pub arrived : ℕ → ℕ → Reply
arrived steps cells = Walked (Arrived (record { steps = steps; cells = cells }))

-- ---- the files of model A decode to the records of the crate `automata`

pub rules_decode : rules_of case_a ≡ Models.rules_a
unfolding computed Models.rules_a
rules_decode = refl

-- ---- "the case rewritten to our codes"

-- model A in a tool's codes is rewritten to model A's file, byte for byte
pub tool_rewritten : rewriting case_tool ≡ case_a
unfolding computed
tool_rewritten = refl

-- ---- the table

abbrev pub examples : List Example
examples =
    -- "The table gains entry [0,empty] with (1, order 2 {1}, empty), then [0,{1}] with (0, empty, empty), then ends."
    table case_a 0 Models.own_a
    ∷ table case_a 1 Models.first_a
    ∷ table case_a 2 Models.table_a
    ∷ table case_a 3 Models.table_a
    ∷ saturates case_a 17 11 0 3 3
    (0 ∷ 1 ∷ 0 ∷ 0 ∷ 0 ∷ 1 ∷ 1 ∷ 2 ∷ 2 ∷ 0 ∷ 2 ∷ 0 ∷ 0 ∷ 0 ∷ 0 ∷ 0 ∷ 0 ∷ [])
    (1 ∷ 0 ∷ 1 ∷ 0 ∷ 0 ∷ 1 ∷ 0 ∷ 2 ∷ 1 ∷ 0 ∷ 0 ∷ [])
    -- "Starts (0,5), (1,3), (0,3). Yes, by rules 0, 1. Yes, no step. No." Won in round 2 and in round 0: "0 for no, otherwise that round plus 1."
    ∷ judges case_a start_a 5 0 2 (3 ∷ 1 ∷ 0 ∷ 0 ∷ 0 ∷ [])
    -- "Refusal 8 counts these words": three are enough for three starts, two are not.
    ∷ judges case_a start_a 3 0 2 (3 ∷ 1 ∷ 0 ∷ [])
    ∷ judges case_a start_a 2 8 0 (zeros 2)
    ∷ guides case_a start_a 0 (arrived 2 9) (0 ∷ 1 ∷ 0 ∷ [])
    ∷ guides case_a start_a 1 (arrived 0 6) (0 ∷ 0 ∷ 0 ∷ [])
    ∷ guides case_a start_a 2 NoRun (0 ∷ 0 ∷ 0 ∷ [])
    -- "With two moves lent: 9."
    ∷ saturates case_a 14 11 9 0 0 (zeros 14) (zeros 11)
    -- "Model A's first start prints `start 0 yes 2 2 9`."
    ∷ lists case_a start_a (ascii "moves 3 entries 3\nmost 1\nstart 0 yes 2 2 9\nstart 1 yes 0 0 6\nstart 2 no\n")
    -- and `run` for each of its starts, and for one that is not in the file
    ∷ runs case_a start_a (ascii "0") [] (ascii "start 0 yes 2 2 9\n0 1\n")
    ∷ runs case_a start_a (ascii "1") [] (ascii "start 1 yes 0 0 6\n\n")
    ∷ runs case_a start_a (ascii "2") [] (ascii "start 2 no\n")
    ∷ runs case_a start_a (ascii "18446744073709551616") [] (ascii "refused 7\n")
    -- "Symbol 0 above 1: yes. Symbol 0 alone: no, its top is empty after the pop."
    ∷ judges case_b start_b 2 0 1 (2 ∷ 0 ∷ [])
    ∷ guides case_b start_b 0 (arrived 1 8) (0 ∷ 0 ∷ 0 ∷ [])
    ∷ guides case_b start_b 1 NoRun (0 ∷ 0 ∷ 0 ∷ [])
    -- Document 02, 3: "Model B's lone symbol turns to yes if its entry is written with 254", by one step, with 8 cells in B's file and 5 in a
    -- file of its own; its trace is accepted.
    ∷ judges case_b_final start_b 2 0 1 (2 ∷ 2 ∷ [])
    ∷ guides case_b_final start_b 1 (arrived 1 8) (0 ∷ 0 ∷ 0 ∷ [])
    ∷ guides case_b_final start_lone 0 (arrived 1 5) (0 ∷ 0 ∷ 0 ∷ [])
    ∷ guides case_b start_lone 0 NoRun (0 ∷ 0 ∷ 0 ∷ [])
    ∷ replays case_b_final start_b 1 (two 0) (8 * 6) Accepted
    ∷ replays case_b start_b 1 (two 0) (8 * 6) (FailsAt 1)
    -- "It accepts the empty top order-1 stack", and its control does not accept the empty order-2 stack. "Entries found by saturation are
    -- never final", such as [0,empty]; and an entry is final by its own byte alone.
    ∷ judges case_b_final start_empty 3 0 1 (0 ∷ 1 ∷ 0 ∷ [])
    ∷ judges case_b_other start_empty 3 0 0 (0 ∷ 0 ∷ 0 ∷ [])
    -- "The final order-2 set may name controls." "The walk has also arrived where no move is needed."
    ∷ judges case_finished start_finished 5 0 1 (2 ∷ 2 ∷ 0 ∷ 1 ∷ 0 ∷ [])
    ∷ guides case_finished start_finished 1 (arrived 1 5) (1 ∷ 0 ∷ 0 ∷ [])
    ∷ guides case_finished start_finished 3 (arrived 0 5) (0 ∷ 0 ∷ 0 ∷ [])
    -- "A second entry for the same state and S is refusal 4"; the final order-1 set names inner states only.
    ∷ saturates case_b_twice 17 11 4 0 0 (zeros 17) (zeros 11)
    ∷ saturates case_b_named 17 11 2 0 0 (zeros 17) (zeros 11)
    -- "[[0]], a file of four cells: yes, rules 0, 1, 8 cells. [[0],[0]]: yes, rule 1 alone."
    ∷ judges case_c start_c 1 0 2 (3 ∷ [])
    ∷ guides case_c start_c 0 (arrived 2 8) (0 ∷ 1 ∷ 0 ∷ [])
    ∷ judges case_c start_c_c 1 0 2 (2 ∷ [])
    ∷ guides case_c start_c_c 0 (arrived 1 5) (1 ∷ 0 ∷ 0 ∷ [])
    -- Document 02, 2: what guide wrote for A's start 0 is accepted with 9 cells, that is with 54 bytes, also if some more are lent. "Only the
    -- arrival is missing" after rule 0 alone, and after none, where the saturated table accepts but A's own does not.
    ∷ replays case_a start_a 0 (two 0 ++ two 1) (9 * 6) Accepted
    ∷ replays case_a start_a 0 (two 0 ++ two 1) (9 * 6 + 5) Accepted
    ∷ replays case_a start_a 0 (two 0) (9 * 6) (FailsAt 1)
    ∷ replays case_a start_a 0 [] (9 * 6) (FailsAt 0)
    ∷ replays case_a start_a 1 [] (6 * 6) Accepted
    -- "The first step that fails, counted from 0": not the rule after it that does not exist; and a step that fails needs no cells.
    ∷ replays case_a start_a 0 (two 1 ++ two 99) (9 * 6) (FailsAt 0)
    ∷ replays case_a start_a 0 (two 0 ++ two 99) (9 * 6) (FailsAt 1)
    ∷ replays case_a start_a 1 (two 0) (6 * 6) (FailsAt 0)
    -- 11 "for the start file or at the step it has come to, if that does not fail"
    ∷ replays case_a start_a 0 (two 99) (5 * 6 + 5) (Refused 11)
    ∷ replays case_a start_a 0 (two 0 ++ two 99) (8 * 6) (Refused 11)
    -- 10: "the trace has an odd number of bytes, after 7"
    ∷ replays case_a start_a 0 (two 0 ++ (1 ∷ [])) 0 (Refused 10)
    ∷ replays case_a start_a 3 (two 0 ++ (1 ∷ [])) 0 (Refused 7)
    -- "Apply one after another and end in the target": not where a trace goes on from the target, and not a collapse at the wrong order.
    ∷ replays case_past start_c_c 0 (two 0) (5 * 6) Accepted
    ∷ replays case_past start_c_c 0 (two 0 ++ two 1) (7 * 6) (FailsAt 2)
    ∷ replays case_collapse start_collapse 0 (two 0) (9 * 6) Accepted
    ∷ replays case_collapse start_collapse 0 (two 1) (9 * 6) (FailsAt 0)
    ∷ replays case_collapse start_collapse 1 (two 0) (9 * 6) (FailsAt 0)
    ∷ replays case_collapse start_collapse 1 (two 1) (8 * 6) Accepted
    -- Document 02, 5: "A case with such a body has the marks, trace and refusals from 3 on of the case rewritten to our codes", here those of A.
    ∷ saturates case_tool 17 11 0 3 3
    (0 ∷ 1 ∷ 0 ∷ 0 ∷ 0 ∷ 1 ∷ 1 ∷ 2 ∷ 2 ∷ 0 ∷ 2 ∷ 0 ∷ 0 ∷ 0 ∷ 0 ∷ 0 ∷ 0 ∷ [])
    (1 ∷ 0 ∷ 1 ∷ 0 ∷ 0 ∷ 1 ∷ 0 ∷ 2 ∷ 1 ∷ 0 ∷ 0 ∷ [])
    ∷ judges case_tool start_a 5 0 2 (3 ∷ 1 ∷ 0 ∷ 0 ∷ 0 ∷ [])
    ∷ guides case_tool start_a 0 (arrived 2 9) (0 ∷ 1 ∷ 0 ∷ [])
    ∷ replays case_tool start_a 0 (two 0 ++ two 1) (9 * 6) Accepted
    ∷ lists case_tool start_a (ascii "moves 3 entries 3\nmost 1\nstart 0 yes 2 2 9\nstart 1 yes 0 0 6\nstart 2 no\n")
    -- "The record's nth byte, from 1, is the tool's code for our operation n": with the record 5, 1, 2, 3, 4, 6, 7, 8 the rule (0,0,5,1,1) rewrites
    -- [[0]] to [[1]], so its b names a symbol; and (0,0,1,1,1) pushes, so that the target is missed.
    ∷ judges (case_turned 5) start_lone 1 0 1 (2 ∷ [])
    ∷ guides (case_turned 5) start_lone 0 (arrived 1 6) (0 ∷ 0 ∷ 0 ∷ [])
    ∷ judges (case_turned 1) start_lone 1 0 0 (0 ∷ [])
    -- 12: "the eight bytes are not all different, or one is zero, after 2", and before 3, of a rule that breaks a bound
    ∷ saturates case_tool_zero 17 11 12 0 0 (zeros 17) (zeros 11)
    ∷ saturates case_tool_twice 17 11 12 0 0 (zeros 17) (zeros 11)
    ∷ saturates case_tool_broken 17 11 12 0 0 (zeros 17) (zeros 11)
    ∷ saturates case_tool_symbols 17 11 2 0 0 (zeros 17) (zeros 11)
    -- "A code not in the record is refusal 3", also one of ours.
    ∷ saturates case_tool_ours 17 11 3 0 0 (zeros 17) (zeros 11)
    -- "Then the first byte is 5, the first body starts at byte 41": five lines and the first body at byte 33, five lines behind a first byte 4, and
    -- four behind a first byte 5 are refusal 1.
    ∷ saturates case_tool_early 17 11 1 0 0 (zeros 17) (zeros 11)
    ∷ saturates case_tool_four 17 11 1 0 0 (zeros 17) (zeros 11)
    ∷ saturates case_a_five 17 11 1 0 0 (zeros 17) (zeros 11)
    -- Document 02, 6: "cell 3 of model A prints as `[[1 1{[]}]]`", the root of start 1. "The reply is the text's length; bytes after it are zero."
    ∷ prints case_a start_a 1 14 (Brackets.Printed 11) (ascii "[[1 1{[]}]]" ++ zeros 3)
    ∷ prints case_a start_a 1 11 (Brackets.Printed 11) (ascii "[[1 1{[]}]]")
    -- 13: "the text is longer than the bytes lent, after 7"
    ∷ prints case_a start_a 1 10 (Brackets.Refused 13) (zeros 10)
    ∷ prints case_a start_a 3 0 (Brackets.Refused 7) []
    -- "1 to 7 and 12 hold here too": a byte twice in a tool's record of codes, a cell that names itself
    ∷ prints case_tool_twice start_a 1 14 (Brackets.Refused 12) (zeros 14)
    ∷ prints case_a itself_a 0 14 (Brackets.Refused 6) (zeros 14)
    -- "Top first", "nothing between stacks": the root of start 0 is cell 5, which is 4 on 3.
    ∷ prints case_a start_a 0 20 (Brackets.Printed 20) (ascii "[[0 1{[]}][1 1{[]}]]")
    -- the empty order-2 stack, and the empty order-1 stack alone
    ∷ prints case_b start_empty 2 4 (Brackets.Printed 2) (ascii "[]" ++ zeros 2)
    ∷ prints case_b start_empty 0 4 (Brackets.Printed 4) (ascii "[[]]")
    -- "A symbol's annotation may hold either. The annotation's order, 1 or 2, stands before its brace, after the symbol and a space."
    ∷ prints case_brackets start_brackets 0 11 (Brackets.Printed 11) (ascii "[[0 1{[]}]]")
    ∷ prints case_brackets start_brackets 1 11 (Brackets.Printed 11) (ascii "[[0 2{[]}]]")
    ∷ prints case_collapse start_collapse 0 18 (Brackets.Printed 18) (ascii "[[0 1{[0 1{[]}]}]]")
    ∷ prints case_collapse start_collapse 1 20 (Brackets.Printed 20) (ascii "[[0 2{[[0 1{[]}]]}]]")
    -- "Each symbol as its number, a space between symbols"; "shared cells are written out each time".
    ∷ prints case_brackets start_brackets 2 60 (Brackets.Printed 58) (ascii "[[10 2{[[][0 2{[]}]]} 31 1{[0 1{[]}]} 0 1{[]}][][0 2{[]}]]" ++ zeros 2)
    -- `show` prints the text and a line end, or a refusal.
    ∷ shows case_a start_a 0 (ascii "[[0 1{[]}][1 1{[]}]]\n")
    ∷ shows case_a start_a 1 (ascii "[[1 1{[]}]]\n")
    ∷ shows case_a start_a 3 (ascii "refused 7\n")
    -- Document 02, 7: "Keep the count as a third word of the entry." "Only whole records count": eight words hold two entries of model A's three.
    ∷ saturates case_a 17 8 9 0 0 (zeros 17) (zeros 8)
    -- "It must equal the count by walking": moves of inner states are no entry's, and moves that rounds add to an entry of the file are its own.
    ∷ saturates case_inner 17 11 0 1 1 (zeros 17) (zeros 11)
    ∷ saturates case_more 17 11 0 3 1
    (0 ∷ 0 ∷ 0 ∷ 0 ∷ 0 ∷ 0 ∷ 1 ∷ 0 ∷ 0 ∷ 0 ∷ 0 ∷ 2 ∷ 0 ∷ 0 ∷ 0 ∷ 0 ∷ 0 ∷ [])
    (0 ∷ 0 ∷ 3 ∷ zeros 8)
    -- "A line after its first: `most` and the largest such count, 0 without entries."
    ∷ lists case_more start_none (ascii "moves 3 entries 1\nmost 3\nstart 0 no\n")
    ∷ lists case_inner start_none (ascii "moves 1 entries 1\nmost 0\nstart 0 no\n")
    ∷ lists case_none start_none (ascii "moves 0 entries 0\nmost 0\nstart 0 no\n")
    -- Document 02, 8: "Judge takes a number of rounds n and marks each start yes, no or open (65535)." "Yes means accepted after at most n rounds.
    -- No means not accepted and nothing left to add. Open means not accepted while round n + 1 would add a move." "The count returned is the rounds
    -- that added something", and not the last one, which adds nothing.
    ∷ judges_in case_a start_a 0 17 11 0 0 (65535 ∷ 1 ∷ 65535 ∷ [])
    ∷ judges_in case_a start_a 1 17 11 0 1 (65535 ∷ 1 ∷ 65535 ∷ [])
    ∷ judges_in case_a start_a 2 17 11 0 2 (3 ∷ 1 ∷ 0 ∷ [])
    ∷ judges_in case_a start_a 3 17 11 0 2 (3 ∷ 1 ∷ 0 ∷ [])
    ∷ judges_in case_a start_a 1024 17 11 0 2 (3 ∷ 1 ∷ 0 ∷ [])
    -- "9 concerns the rounds run": two moves and two entries are enough for round 1, one move is not; "0 in a refusal".
    ∷ judges_in case_a start_a 1 14 8 0 1 (65535 ∷ 1 ∷ 65535 ∷ [])
    ∷ judges_in case_a start_a 2 14 8 9 0 (zeros 3)
    ∷ judges_in case_a start_a 1 9 8 9 0 (zeros 3)
    -- "An open start it answers with open, tested where no run is, with no step and no cell", and "with the same 9".
    ∷ guides_in case_a start_a 0 1 14 8 Open (zeros 3)
    ∷ guides_in case_a start_a 1 1 14 8 (arrived 0 6) (zeros 3)
    ∷ guides_in case_a start_a 2 1 14 8 Open (zeros 3)
    ∷ guides_in case_a start_a 2 2 17 11 NoRun (zeros 3)
    ∷ guides_in case_a start_a 0 2 14 8 (Reply.Refused 9) (zeros 3)
    -- "Guide .. works on the table of those rounds alone": after round 1 only [0,{1}] accepts the start, and its run pops; after round 2 [0,empty],
    -- of a lesser number, does too, and its run rewrites twice. The word is that of round 1 for both.
    ∷ judges_in case_ways start_a 1 22 11 0 1 (2 ∷ 1 ∷ 65535 ∷ [])
    ∷ judges_in case_ways start_a 2 22 11 0 2 (2 ∷ 1 ∷ 0 ∷ [])
    ∷ guides_in case_ways start_a 0 1 22 11 (arrived 1 6) (0 ∷ 0 ∷ 0 ∷ [])
    ∷ guides_in case_ways start_a 0 2 22 11 (arrived 2 10) (1 ∷ 2 ∷ 0 ∷ [])
    -- `open` in the place of yes and no
    ∷ runs case_a start_a (ascii "0") (ascii "1") (ascii "start 0 open\n")
    ∷ runs case_a start_a (ascii "0") (ascii "2") (ascii "start 0 yes 2 2 9\n0 1\n")
    ∷ runs case_a start_a (ascii "2") (ascii "18446744073709551616") (ascii "start 2 no\n")
    -- "At the edges: 64 starts pass, 65 give 5; 256 rules pass, 257 give 1; a cell naming itself gives 6."
    ∷ judges case_a (starts_a 64) 64 0 2 (replicate 64 1)
    ∷ judges case_a (starts_a 65) 65 5 0 (zeros 65)
    ∷ saturates (rules_a 256) 17 11 0 2 2
    (0 ∷ 1 ∷ 0 ∷ 0 ∷ 0 ∷ 1 ∷ 1 ∷ 2 ∷ 2 ∷ 0 ∷ 0 ∷ 0 ∷ 0 ∷ 0 ∷ 0 ∷ 0 ∷ 0 ∷ [])
    (1 ∷ 0 ∷ 1 ∷ 0 ∷ 0 ∷ 1 ∷ 0 ∷ 0 ∷ 0 ∷ 0 ∷ 0 ∷ [])
    ∷ saturates (rules_a 257) 17 11 1 0 0 (zeros 17) (zeros 11)
    ∷ judges case_a itself_a 5 6 0 (zeros 5)
    ∷ []

pub all_hold : AllHold examples
unfolding computed Models.own_a Models.first_a Models.table_a
all_hold =
    (refl, (refl, (refl, (refl, (refl, (refl, (refl, (refl, (refl, (refl, (refl, (refl, (refl, (refl, (refl, (refl, (refl, (refl, (refl, (refl, (refl, (refl, (refl, (refl, (refl, (refl, (refl, (refl, (refl, (refl, (refl, (refl, (refl, (refl, (refl, (refl, (refl, (refl, (refl, (refl, (refl, (refl, (refl, (refl, (refl, (refl, (refl, (refl, (refl, (refl, (refl, (refl, (refl, (refl, (refl, (refl, (refl, (refl, (refl, (refl, (refl, (refl, (refl, (refl, (refl, (refl, (refl, (refl, (refl, (refl, (refl, (refl, (refl, (refl, (refl, (refl, (refl, (refl, (refl, (refl, (refl, (refl, (refl, (refl, (refl, (refl, (refl, (refl, (refl, (refl, (refl, (refl, (refl, (refl, (refl, (refl, (refl, (refl, (refl, (refl, (refl, (refl, (refl, (refl, (refl, (refl, (refl, (refl, (refl, (refl, (refl, (refl, (refl, (refl, (refl, (refl, (refl, (refl, (refl, tt)))))))))))))))))))))))))))))))))))))))))))))))))))))))))))))))))))))))))))))))))))))))))))))))))))))))))))))))))))))))
