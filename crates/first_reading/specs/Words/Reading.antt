-- The search for the first reading, as the code goes: the base, one move tried, and the loop over the moves of the least state.
-- Assumes nothing.
use Rattle.std.specs.Prelude.{ℕ, ◌<◌, Bool, true, false, ◌&&◌, ◌≡◌, refl, List, [], ◌∷◌}
use Rattle.std.proofs.Math.Path.{ap, sym}
use Rattle.std.proofs.Common.{◌∙◌}
use Rattle.std.proofs.Math.Option.{Option, none, some, map}
use Rattle.std.proofs.Math.ListN.{get_or, set}
use Rattle.std.proofs.Math.Dec.{eqb}
use Rattle.words.specs.Sets.{members}
use Rattle.words.proofs.Sets.Laws.{members_empty}
use Rattle.words.specs.Laws.Tests.{by_test}
use Rattle.words.specs.Order.{same}
use Rattle.automata.specs.Automaton.{Automaton, Move, no_move, move_at, moves_of}
use Rattle.automata.specs.Derivation.{Result, Joins, join_move}
use Rattle.tables.specs.Rows.{row_at, rows_in}
use Rattle.tables.specs.Rows.Laws.{length_rows_in, get_or_rows_in}
use Rattle.tables.specs.Layouts.{move_row}
use Rattle.joins.specs.Joining.{candidate_of}
use Rattle.joins.specs.Joining.Laws.{candidate_yes, candidate_no}
use Rattle.first_reading.specs.First.{only_if, is_some, first_below}
use Rattle.first_reading.specs.First.Laws.{only_if_yes, only_if_no, at_place, first_of_places}
use Rattle.first_reading.specs.Answer.{written_all, written_by, Answer}
use Rattle.first_reading.specs.Answer.Laws.{answer_none, answer_eq, answer_yes, answer_no}
use Rattle.first_reading.specs.Search.{joins_key, wanted, within, first_reading}
use Rattle.first_reading.specs.Search.Laws.{read_on, first_reading_cons}
use Rattle.first_reading.specs.Search.Parts.{read_within}
use Rattle.first_reading.specs.Words.{moves_in, tried}

-- ---- no state is left

pub answer_base : (A : Automaton) (a : ℕ) (x : Result) (left : ℕ) (j : Joins) (ws : List ℕ) (t : Bool) → left ≡ 0 → t ≡ same (joins_key j) (wanted x)
    → Answer (first_reading A a (wanted x) (members left) j) (written_all (members left)) t ws ws
unfolding first_reading is_some written_by written_all only_if
answer_base A a x left j ws t z e =
    let l : members left ≡ [] = ap members z ∙ members_empty in
    rw l (record { success = e ∙ found (same (joins_key j) (wanted x)); words = unchanged (same (joins_key j) (wanted x)) })
  where
    found : (u : Bool) → u ≡ is_some {B = List ℕ} (only_if u (some []))
    found true = refl
    found false = refl

    unchanged : (u : Bool) → ws ≡ written_by (written_all []) (only_if u (some [])) ws
    unchanged true = refl
    unchanged false = refl

-- ---- one move

module _ (n : ℕ) (moves : List ℕ) (a : ℕ) (x : Result) (q : ℕ) (qs : List ℕ) (j : Joins) (i : ℕ) (below : i < n) where
  -- what move i gives
  abbrev tried_at : Option (List ℕ)
  tried_at = tried (moves_in n moves) a (wanted x) q qs j i

  -- m is move i, c the joins with it, and k those of them that are parts of those of x
  module _ (m : Move) (c k : Option Joins) (row : m ≡ row_at move_row moves i) (e : c ≡ candidate_of q a j m) (w : k ≡ within x c) where
    -- what reading on from joins gives, with move i before the others
    abbrev read_by : Option Joins → Option (List ℕ)
    read_by o = map (λ ms. i ∷ ms) (read_on (moves_in n moves) a (wanted x) qs o)

    its_joins : only_if (eqb m.state q && eqb m.symbol a) (read_by (join_move j m)) ≡ read_by (candidate_of q a j m)
    unfolding read_on
    its_joins =
        by_test (eqb m.state q && eqb m.symbol a)
        (λ y. only_if_yes _ _ y ∙ ap read_by (sym (candidate_yes j m q a y)))
        (λ y. only_if_no _ _ y ∙ ap read_by (sym (candidate_no j m q a y)))

    tried_joins : tried_at ≡ read_by k
    unfolding tried move_at
    tried_joins =
        let is : get_or (rows_in move_row n moves) i no_move ≡ m = get_or_rows_in move_row n moves i no_move below ∙ sym row in
        ap (λ (l : Move). only_if (eqb l.state q && eqb l.symbol a) (read_by (join_move j l))) is
        ∙ its_joins ∙ ap read_by (sym e)
        ∙ ap (map (λ ms. i ∷ ms)) (sym (read_within (moves_in n moves) a x qs c))
        ∙ ap read_by (sym w)

    -- the move gives no joins
    pub tried_nothing : (ws : List ℕ) → k ≡ none → Answer tried_at (written_all (q ∷ qs)) false ws ws
    unfolding read_on
    tried_nothing ws z = answer_none ws (tried_joins ∙ ap read_by z)

    -- the rest of the reading is searched with the joins l
    module _ (ws last : List ℕ) (l : Joins) (z : k ≡ some l) where
      tried_into : tried_at ≡ map (λ ms. i ∷ ms) (first_reading (moves_in n moves) a (wanted x) qs l)
      unfolding read_on
      tried_into = tried_joins ∙ ap read_by z

      pub tried_yes : Answer (first_reading (moves_in n moves) a (wanted x) qs l) (written_all qs) true ws last → Answer tried_at (written_all (q ∷ qs)) true ws (set last q i)
      unfolding written_all
      tried_yes h = answer_eq tried_into (answer_yes (λ ms. i ∷ ms) (written_all qs) (written_all (q ∷ qs)) (λ ws. set ws q i) (λ ms ws. refl) h)

      pub tried_no : Answer (first_reading (moves_in n moves) a (wanted x) qs l) (written_all qs) false ws last → Answer tried_at (written_all (q ∷ qs)) false ws last
      tried_no h = answer_eq tried_into (answer_no (λ ms. i ∷ ms) (written_all qs) (written_all (q ∷ qs)) h)

-- ---- the loop over the moves

pub reading_below : (n : ℕ) (moves : List ℕ) (a : ℕ) (goal : List ℕ) (left q : ℕ) (qs : List ℕ) (j : Joins) → members left ≡ q ∷ qs
    → first_reading (moves_in n moves) a goal (members left) j ≡ first_below n (tried (moves_in n moves) a goal q qs j)
unfolding tried moves_of move_at at_place
reading_below n moves a goal left q qs j e =
    ap (λ (l : List ℕ). first_reading (moves_in n moves) a goal l j) e
    ∙ first_reading_cons (moves_in n moves) a goal q qs j
    ∙ first_of_places (λ m. eqb m.state q && eqb m.symbol a) (rows_in move_row n moves) no_move _
    ∙ ap (λ (k : ℕ). first_below k (tried (moves_in n moves) a goal q qs j)) (length_rows_in move_row n moves)
