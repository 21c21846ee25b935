-- The recursion is the definition: the round that it gives is the least round whose table accepts, and never exceeds the rounds that added a
-- move.
-- Assumes nothing.
use Prim.Native.Nat.{ℕ, zero, suc, ◌+◌, ◌-◌, ◌≤◌, ◌<◌}
use Rattle.std.specs.Prelude.{Bool, true, false, ◌≡◌, refl, get_or, eqb, ltb}
use Rattle.std.proofs.Math.Bool.{◌&&◌}
use Rattle.std.proofs.lemmas.Bool.{false≢true}
use Rattle.std.proofs.Math.Path.{ap, sym}
use Rattle.std.proofs.Common.{ap₂, ◌∙◌, subst, zero-add, get_or-append-add}
use mathlib.Core.List.{List, Memᴰ}
use native.Mathlib.Omega.{arith}
use Rattle.std.proofs.Math.ListN.{length, length-append}
use Rattle.std.proofs.Math.Dec.{leb}
use borrow.Author.Tests.{eqb-true, eqb-false, leb-true, leb-false, le-leb, lt-leb, ltb-true, ltb-false, lt-ltb, le-ltb}
use Rattle.words.specs.Laws.Tests.{by_test, equal_tests, and_left, and_right}
use Rattle.words.specs.Sets.{member}
use Rattle.words.specs.Lists.{only, some_of, places}
use Rattle.words.specs.Lists.Laws.{only_in, only_out, some_of_in, some_of_out, get_or_in, in_get_or, places_in, places_out}
use Rattle.stacks.specs.Stack.{Stack1, nil1, cons1, Stack2, Annotation, annotation_order}
use Rattle.stacks.specs.System.{Rule}
use Rattle.replies.specs.declared.Acceptance.{Acceptance}
use Rattle.replies.specs.declared.Acceptance.TheVariants.{Never, Since}
use Rattle.automata.specs.Automaton.{Automaton, Move, Edge, no_move, no_edge, edges, entry_edges, move_at, edge_at}
use Rattle.automata.specs.Automaton.Laws.{length_entry_edges, entry_edges_at}
use Rattle.automata.specs.Acceptance.{accepts1, accepts2, move_fits, edge_fits}
use Rattle.automata.specs.Facts.{RuleFacts, TableFacts, Extends, states}
use Rattle.automata.specs.Facts.Laws.{extends_refl, moves_grow, move_at_kept, edges_more, edge_at_kept}
use Rattle.automata.specs.Saturation.{Saturated, size_of, table_after, round_of, rounds_added}
use Rattle.automata.specs.Won.{least_from, won1, won2}
use Rattle.automata.specs.Won.Laws.{least_some, least_none}
use Rattle.rounds.specs.Rounds.{after_extends}
use Rattle.rounds.specs.Kept.{after_facts}
use Rattle.rounds.specs.Sizes.{AfterRounds, sizes_before, sizes_from, sizes_split, rounds_are}
use Rattle.rounds.specs.Won.{is_won, move_round, edge_round, round1, round2, round_of_stack, accepts_stack}
use Rattle.rounds.specs.Won.Shown.{any_round, up_to, passes, Shows, shown_move, shown_edge, shown1, shown2, shown_stack}

-- ---- a table that is a part of the saturated one

module _ (T : Saturated) {A : Automaton} (X : Extends A T.table) (test : ℕ → Bool)
    (rounds-pass : (i : ℕ) → i < length T.table.moves → test (round_of T.sizes i) ≡ ltb i (length A.moves))
    (past : (i : ℕ) → length (edges A) ≤ i → i < length (edges T.table) → (w : Stack1) → accepts1 A w (edge_at T.table i).first ≡ false) where
  -- the moves of the saturated table of a round that passes are those of the part
  moves_there : (mine fits : Move → Bool) → some_of (λ i. test (round_of T.sizes i) && fits (move_at T.table i)) (places mine T.table.moves) ≡ true
      → some_of fits (only mine A.moves) ≡ true
  unfolding move_at
  moves_there mine fits h =
      let (i, j, e) = some_of_out (λ i. test (round_of T.sizes i) && fits (move_at T.table i)) (places mine T.table.moves) h in
      let (l, m) = places_out mine T.table.moves no_move j in
      let b : i < length A.moves = ltb-true i (length A.moves) (sym (rounds-pass i l) ∙ and_left (test (round_of T.sizes i)) _ e) in
      let same : move_at T.table i ≡ move_at A i = move_at_kept X i b in
      some_of_in fits (only_in mine (get_or_in A.moves i no_move b) (ap mine (sym same) ∙ m))
      (ap fits (sym same) ∙ and_right (test (round_of T.sizes i)) _ e)

  moves_back : (mine fits : Move → Bool) → some_of fits (only mine A.moves) ≡ true
      → some_of (λ i. test (round_of T.sizes i) && fits (move_at T.table i)) (places mine T.table.moves) ≡ true
  unfolding move_at
  moves_back mine fits h =
      let (m, j, e) = some_of_out fits (only mine A.moves) h in
      let (k, own) = only_out mine A.moves j in
      let (i, b, at) = in_get_or k in
      let g = moves_grow X in
      let same : move_at T.table i ≡ m = move_at_kept X i b ∙ at no_move in
      some_of_in _ (places_in mine T.table.moves no_move i (omega arith) (ap mine same ∙ own))
      (ap₂ ◌&&◌ (rounds-pass i (omega arith) ∙ lt-ltb i (length A.moves) b) (ap fits same ∙ e))

  -- and so are its edges, but for edges that accept nothing by the part
  edges_there : (w : Stack1) (mine fits : Edge → Bool) → ((e : Edge) → accepts1 A w e.first ≡ false → fits e ≡ false)
      → some_of (λ i. fits (edge_at T.table i)) (places mine (edges T.table)) ≡ true → some_of fits (only mine (edges A)) ≡ true
  unfolding edge_at
  edges_there w mine fits f h =
      let (i, j, e) = some_of_out (λ i. fits (edge_at T.table i)) (places mine (edges T.table)) h in
      let (l, m) = places_out mine (edges T.table) no_edge j in
      by_test (ltb i (length (edges A)))
      (λ t.
      let b : i < length (edges A) = ltb-true i (length (edges A)) t in
      let same : edge_at T.table i ≡ edge_at A i = edge_at_kept X i b in
      some_of_in fits (only_in mine (get_or_in (edges A) i no_edge b) (ap mine (sym same) ∙ m)) (ap fits (sym same) ∙ e))
      (λ t. absurd (false≢true (sym (f (edge_at T.table i) (past i (ltb-false i (length (edges A)) t) l w)) ∙ e)))

  edges_back : (mine fits : Edge → Bool) → some_of fits (only mine (edges A)) ≡ true
      → some_of (λ i. fits (edge_at T.table i)) (places mine (edges T.table)) ≡ true
  unfolding edge_at
  edges_back mine fits h =
      let (x, j, e) = some_of_out fits (only mine (edges A)) h in
      let (k, own) = only_out mine (edges A) j in
      let (i, b, at) = in_get_or k in
      let g : length (edges T.table) ≡ length (edges A) + length (entry_edges (states A) X.more_entries) = ap length (edges_more X) ∙ length-append (edges A) _ in
      let same : edge_at T.table i ≡ x = edge_at_kept X i b ∙ at no_edge in
      some_of_in _ (places_in mine (edges T.table) no_edge i (omega arith) (ap mine same ∙ own)) (ap fits same ∙ e)

  part_shows : Shows T test A
  part_shows =
      record {
        same_final1 = sym X.same_final1;
        same_final2 = sym X.same_final2;
        moves_shown = λ mine fits. equal_tests _ _ (moves_there mine fits) (moves_back mine fits);
        edges_shown = λ w mine fits f. equal_tests _ _ (edges_there w mine fits f) (edges_back mine fits);
      }

-- ---- the recursion says yes exactly if the saturated table accepts

-- is a round: passes where every round does
is_won_passes : (a : Acceptance) → is_won a ≡ passes (λ n. true) a
unfolding is_won passes
is_won_passes Never = refl
is_won_passes (Since r) = refl

-- one move and one edge, by answers that say yes exactly if the automaton accepts
pub move_won : (A : Automaton) (u : Annotation) (s : Stack1) (f g : ℕ → Acceptance) → ((q : ℕ) → is_won (f q) ≡ accepts_stack A u q)
    → ((q : ℕ) → is_won (g q) ≡ accepts1 A s q) → (m : Move) → is_won (move_round (annotation_order u) f g m) ≡ move_fits A u s m
move_won A u s f g annotation rest m =
    is_won_passes _ ∙ shown_move any_round A u s f g (λ q. sym (is_won_passes (f q)) ∙ annotation q) (λ q. sym (is_won_passes (g q)) ∙ rest q) m

pub edge_won : (A : Automaton) (w : Stack1) (t : Stack2) (f g : ℕ → Acceptance) → ((r : ℕ) → is_won (f r) ≡ accepts1 A w r)
    → ((q : ℕ) → is_won (g q) ≡ accepts2 A t q) → (e : Edge) → is_won (edge_round f g e) ≡ edge_fits A w t e
edge_won A w t f g top rest e =
    is_won_passes _ ∙ shown_edge any_round A w t f g (λ r. sym (is_won_passes (f r)) ∙ top r) (λ q. sym (is_won_passes (g q)) ∙ rest q) e

module _ (T : Saturated) where
  all_shown : Shows T (λ n. true) T.table
  all_shown = part_shows T (extends_refl T.table) (λ n. true) (λ i l. sym (lt-ltb i (length T.table.moves) l)) (λ i l h w. absurd (omega arith))

  pub round1_accepts : (s : Stack1) (r : ℕ) → is_won (round1 T s r) ≡ accepts1 T.table s r
  round1_accepts s r = is_won_passes (round1 T s r) ∙ shown1 any_round all_shown s r

  pub round2_accepts : (t : Stack2) (q : ℕ) → is_won (round2 T t q) ≡ accepts2 T.table t q
  round2_accepts t q = is_won_passes (round2 T t q) ∙ shown2 any_round all_shown t q

  pub stack_accepts : (u : Annotation) (q : ℕ) → is_won (round_of_stack T u q) ≡ accepts_stack T.table u q
  stack_accepts u q = is_won_passes (round_of_stack T u q) ∙ shown_stack any_round all_shown u q

-- ---- an edge needs no round of its own

-- By a table that has not yet a state no stack is accepted from it: it is not final, and it has no move. So an edge to an entry counts from
-- the round on in which its entry has the move that is used.
pub no_state_accepts : {P : ℕ} {A : Automaton} → TableFacts P A → (r : ℕ) → states A ≤ r → (w : Stack1) → accepts1 A w r ≡ false
unfolding accepts1
no_state_accepts {A = A} F r l nil1 = by_test (member A.final1 r)
    (λ h. let b : r < states A = F.final1_exists r (record { has = h }) in absurd (omega arith))
    (λ h. h)
no_state_accepts {A = A} F r l (cons1 a u s) = by_test (accepts1 A (cons1 a u s) r)
    (λ h.
    let (m, j, e) = some_of_out _ _ h in
    let (k, own) = only_out _ A.moves j in
    let at : m.state ≡ r = eqb-true m.state r (and_left (eqb m.state r) _ own) in
    let b : m.state < states A = (F.move_facts m k).state_exists in
    absurd (omega arith))
    (λ h. h)

-- an edge that a table lacks leads to a state that it lacks
edge_past : {A C : Automaton} → Extends A C → (i : ℕ) → length (edges A) ≤ i → i < length (edges C) → states A ≤ (edge_at C i).first
unfolding edge_at
edge_past {A} {C} X i l h =
    let more : List Edge = entry_edges (states A) X.more_entries in
    let k : ℕ = i - length (edges A) in
    let at : i ≡ length (edges A) + k = omega arith in
    let len : length (edges C) ≡ length (edges A) + length more = ap length (edges_more X) ∙ length-append (edges A) more in
    let n : length more ≡ length X.more_entries = length_entry_edges (states A) X.more_entries in
    let e : get_or (edges C) i no_edge ≡ get_or more k no_edge = ap₂ (λ (es : List Edge) (j : ℕ). get_or es j no_edge) (edges_more X) at ∙ get_or-append-add (edges A) more k no_edge in
    let f : (get_or (edges C) i no_edge).first ≡ states A + k = ap (λ (x : Edge). x.first) (e ∙ entry_edges_at (states A) X.more_entries k (omega arith)) in
    omega arith

module _ {rules : List Rule} {own : Automaton} {T : Saturated} (s : AfterRounds rules own T) {P : ℕ}
    (rule_facts : (ρ : Rule) → Memᴰ ρ rules → RuleFacts P ρ) (F : TableFacts P own) where
  -- ---- the tables of fewer rounds

  extends_after : (n : ℕ) → n ≤ s.rounds → Extends (table_after rules own n) T.table
  extends_after n l = subst (Extends (table_after rules own n)) (sym s.table_is) (after_extends rules own n s.rounds l)

  -- move i is of a round up to m exactly if the table after m rounds has it
  rounds_from : (n k i m : ℕ) → n ≤ m → m < n + k → leb (n + round_of (sizes_from rules own n k) i) m ≡ ltb i (length (table_after rules own m).moves)
  unfolding sizes_from round_of size_of
  rounds_from n zero i m a b = absurd (omega arith)
  rounds_from n (suc k) i m a b = by_test (leb (length (table_after rules own n).moves) i)
      (λ t.
      let small : length (table_after rules own n).moves ≤ i = leb-true _ i t in
      let x : ℕ = round_of (sizes_from rules own (suc n) k) i in
      rw (round_of, t) (by_test (eqb n m)
      (λ e.
      let z : n ≡ m = eqb-true n m e in
      lt-leb (n + suc x) m (omega arith) ∙ sym (le-ltb i (length (table_after rules own m).moves) (subst (λ (j : ℕ). length (table_after rules own j).moves ≤ i) z small)))
      (λ e.
      let d : n ≡ m → ⊥ = eqb-false n m e in
      let z : n + suc x ≡ suc n + x = omega arith in
      ap (λ (j : ℕ). leb j m) z ∙ rounds_from (suc n) k i m (omega arith) (omega arith))))
      (λ t.
      let large : i < length (table_after rules own n).moves = leb-false _ i t in
      let g : length (table_after rules own n).moves ≤ length (table_after rules own m).moves = moves_grow (after_extends rules own n m a) in
      rw (round_of, t) (le-leb (n + 0) m (omega arith) ∙ sym (lt-ltb i (length (table_after rules own m).moves) (omega arith))))

  round_there : (i n : ℕ) → n ≤ s.rounds → leb (round_of T.sizes i) n ≡ ltb i (length (table_after rules own n).moves)
  unfolding sizes_before
  round_there i n l =
      let e : T.sizes ≡ sizes_from rules own 0 (suc s.rounds) = s.sizes_are ∙ ap (sizes_before rules own) (sym (zero-add (suc s.rounds))) ∙ sizes_split rules own 0 (suc s.rounds) in
      ap (λ (x : ℕ). leb x n) (ap (λ zs. round_of zs i) e ∙ sym (zero-add _)) ∙ rounds_from 0 (suc s.rounds) i n (omega arith) (omega arith)

  after_shown : (n : ℕ) → n ≤ s.rounds → Shows T (λ k. leb k n) (table_after rules own n)
  after_shown n l =
      part_shows T (extends_after n l) (λ k. leb k n) (λ i b. round_there i n l)
      (λ i a b w. no_state_accepts (after_facts rules rule_facts F n) _ (edge_past (extends_after n l) i a b) w)

  -- ---- the least round whose table accepts

  -- a round that all tables up to the last show is the least that accepts
  least_shown : (a : Acceptance) (accepts : ℕ → Bool) (rounds : ℕ) → ((n : ℕ) → n ≤ rounds → passes (λ k. leb k n) a ≡ accepts n)
      → is_won a ≡ accepts rounds → a ≡ least_from accepts 0 (suc rounds)
  unfolding passes is_won
  least_shown Never accepts rounds h e = sym (least_none accepts 0 (suc rounds) (λ m a b. sym (h m (omega arith))))
  least_shown (Since r) accepts rounds h e =
      let few : r ≤ rounds = leb-true r rounds (h rounds (omega arith) ∙ sym e) in
      sym (least_some accepts 0 (suc rounds) r (omega arith) (record {
        from = omega arith;
        passes = sym (h r few) ∙ le-leb r r (omega arith);
        least = λ m a b. sym (h m (omega arith)) ∙ lt-leb r m b;
      }))

  pub round1_won : (w : Stack1) (r : ℕ) → round1 T w r ≡ won1 rules own (rounds_added T) w r
  unfolding won1
  round1_won w r =
      least_shown (round1 T w r) (λ n. accepts1 (table_after rules own n) w r) s.rounds (λ n l. shown1 (up_to n) (after_shown n l) w r)
      (round1_accepts T w r ∙ ap (λ (A : Automaton). accepts1 A w r) s.table_is)
      ∙ ap (λ (N : ℕ). won1 rules own N w r) (sym (rounds_are s))

  pub round2_won : (t : Stack2) (q : ℕ) → round2 T t q ≡ won2 rules own (rounds_added T) t q
  unfolding won2
  round2_won t q =
      least_shown (round2 T t q) (λ n. accepts2 (table_after rules own n) t q) s.rounds (λ n l. shown2 (up_to n) (after_shown n l) t q)
      (round2_accepts T t q ∙ ap (λ (A : Automaton). accepts2 A t q) s.table_is)
      ∙ ap (λ (N : ℕ). won2 rules own N t q) (sym (rounds_are s))
