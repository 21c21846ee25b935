-- What a guided step leaves: for each of the eight operations, if the moves that the derivation uses are right about the cells that choose
-- them, and its result is right about the top, then the walk arrives from what the operation leaves.
-- Assumes nothing.
use Prim.Native.Nat.{ℕ, ◌+◌, ◌<◌}
use Rattle.std.specs.Prelude.{◌≡◌}
use Rattle.std.proofs.Math.Path.{refl, ap}
use Rattle.std.proofs.Common.{◌∙◌, subst}
use Rattle.std.proofs.Math.Logic.{⊎_elim}
use Rattle.std.proofs.Math.Option.{some}
use mathlib.Core.List.Memᴰ
use mathlib.Core.List.{List, [], ◌∷◌, ◌++◌, Memᴰ}
use Rattle.words.specs.Sets.{members}
use Rattle.words.proofs.Sets.Laws.{All, has_in, all_part, all_left, all_right, all_one}
use Rattle.stacks.specs.Stack.{Operation, rewrite, push1, push2, copy, pop1, pop2, collapse1, collapse2}
use Rattle.stacks.specs.System.{Rule}
use Rattle.automata.specs.Automaton.{Automaton, Move, move_at, edge_at, entry_edge, entry_set}
use Rattle.automata.specs.Automaton.Laws.{MoveOf, EntryIs, EntryMove, entry_move_set}
use Rattle.automata.specs.Derivation.{Derivation, Joins, joins_of, named, edge_sets}
use Rattle.automata.specs.Derivation.Numbers.{Paired}
use Rattle.automata.specs.Derivation.Joining.{Into, join_all_into, named_in, edge_sets_part}
use Rattle.automata.proofs.Derivation.Laws.{Says, ByRewrite, ByPush, ByCopy, Concludes}
use Rattle.automata.specs.Saturation.{Saturated}
use Rattle.walks.specs.Guide.{chooses_all, chooses, premise, top_choice, root_choice, choices_after}
use Rattle.soundness.specs.Decorated.{Decorated1, cons1', Decorated2, cons2', DecoratedAnnotation, of1', of2', after_decorated, Arrives}
use Rattle.soundness.specs.Facts.{SaturatedFacts}
use Rattle.soundness.specs.Choices.{chooses_it, chooses_all_it, premise_is, top_choice_is, root_choice_is}
use Rattle.soundness.specs.Meaning.{Ok1, Ok2, OkAnnotation, any, one, two, ok_annotation_part, ok_annotation_same, ok_annotation_order1, ok_annotation_order2}
use Rattle.soundness.proofs.Own.{edge_ok}
use Rattle.soundness.specs.Used.{used_moves}

all_same : {s z : ℕ} {X : ℕ → Type 0} → s ≡ z → All s X → All z X
all_same {X = X} e f = subst (λ (y : ℕ). All y X) e f

module _ {P : ℕ} {own : Automaton} {rules : List Rule} {T : Saturated} (F : SaturatedFacts P own rules T) where
  -- Move j is right: its state is right about each symbol cell that chooses it and whose annotation and rest are as the move asks.
  abbrev pub Good : ℕ → Type 0
  Good j = (r a : ℕ) (u : DecoratedAnnotation) (s : Decorated1) (f : ℕ → ℕ) → MoveOf T.table a r j
      → OkAnnotation F (move_at T.table j).order (move_at T.table j).B u → All (move_at T.table j).R (λ q. Ok1 F q s) → f r ≡ j
      → Ok1 F r (cons1' a u s f)

  -- The derivation d by rule ρ, with a result that is right about u, s and t.
  module _ (d : Derivation) (ρ : Rule) (next_exists : ρ.next < P) (u : DecoratedAnnotation) (s : Decorated1) (t : Decorated2)
      (annotation : OkAnnotation F d.result.order d.result.B u) (rest : All d.result.R (λ q. Ok1 F q s))
      (under : All d.result.S (λ q. Ok2 F q t)) where
    -- the walk arrives from control p' with this stack
    abbrev pub Goes : Decorated2 → Type 0
    Goes v = Arrives rules T own (record { control = ρ.next; stack = v })

    abbrev pub Left : Operation → Type 0
    Left o = (v : Decorated2) × (after_decorated o (choices_after T.table d ρ.next o) ρ.symbol u s t ≡ some v) × Goes v

    -- a new top that chooses the premise, under a root that chooses its entry
    enter : {S b j : ℕ} (v : DecoratedAnnotation) (w : Decorated1) (y : Decorated2) → Good j → d.premise ≡ j ∷ [] → EntryMove T.table ρ.next S b j
        → OkAnnotation F (move_at T.table j).order (move_at T.table j).B v → All (move_at T.table j).R (λ q. Ok1 F q w)
        → All S (λ q. Ok2 F q y)
        → Goes (cons2' (cons1' b v w (top_choice T.table d ρ.next)) y (root_choice T.table d ρ.next))
    enter {S} {b} {j} v w y good e h x z k =
        let top : ℕ → ℕ = top_choice T.table d ρ.next in
        let root : ℕ → ℕ = root_choice T.table d ρ.next in
        let m : MoveOf T.table b (move_at T.table j).state j = record { below = h.below; state_is = refl; symbol_is = h.symbol_is } in
        let ok : Ok1 F (move_at T.table j).state (cons1' b v w top) =
        good (move_at T.table j).state b v w top m x z (top_choice_is T.table d ρ.next j e) in
        ok.entry ρ.next S h.entry h.state_is h.entry_is y k root (root_choice_is T.table d ρ.next j h.entry e h.state_is)

    -- a new cell of symbol a that chooses the moves of a reading
    reads : (k : Joins) (rs : List ℕ) → Paired (MoveOf T.table ρ.symbol) rs d.moves → ((n : ℕ) → Memᴰ n d.moves → Good n)
        → ((n : ℕ) → Memᴰ n d.moves → Into (joins_of (move_at T.table n)) k)
        → OkAnnotation F k.order k.B u → All k.R (λ q. Ok1 F q s)
        → (r : ℕ) → Memᴰ r rs → Ok1 F r (cons1' ρ.symbol u s (chooses_all rs d.moves))
    reads k rs ps good into x y r j =
        let n : ℕ = chooses_all rs d.moves r in
        let c = chooses_all_it ps j in
        let i = into n c.1 in
        let m : Move = move_at T.table n in
        good n c.1 r ρ.symbol u s (chooses_all rs d.moves) c.0
        (ok_annotation_part F m.order m.B i.order_fits_holds i.B-part x) (all_part m.R k.R i.R-part y) refl

    -- the result's joins
    joined_annotation : {es ms ps : List ℕ} {S : ℕ} {j : Joins} → Concludes ρ ps es ms S j d → OkAnnotation F j.order j.B u
    joined_annotation c = ok_annotation_same F c.order_is c.B-is annotation

    joined_rest : {es ms ps : List ℕ} {S : ℕ} {j : Joins} → Concludes ρ ps es ms S j d → All j.R (λ q. Ok1 F q s)
    joined_rest c = all_same c.R-is rest

    joined_under : {es ms ps : List ℕ} {S : ℕ} {j : Joins} → Concludes ρ ps es ms S j d → All S (λ q. Ok2 F q t)
    joined_under c = all_same c.set_is under

    premise_in_lem : {j : ℕ} → d.premise ≡ j ∷ [] → Memᴰ j d.premise
    premise_in_lem e = rw e (Memᴰ.head refl)

    -- the new top chooses the premise
    left_rewrite : (b : ℕ) → ByRewrite T.table ρ b d → ((j : ℕ) → Memᴰ j (used_moves (rewrite b) d) → Good j) → Left (rewrite b)
    unfolding used_moves after_decorated choices_after
    left_rewrite b h good =
        let c = h.concluded in
        let goes = enter u s t (good h.move (premise_in_lem c.premise_is)) c.premise_is h.premise (joined_annotation c) (joined_rest c) (joined_under c) in
        (_, refl, goes)

    -- a push whose new annotation v is as the premise asks: the new a-cell is right for all of the premise's R
    pushed : {k b : ℕ} {start : Move → Joins} {set : ℕ → Move → ℕ} (h : ByPush T.table ρ k b start set d)
        → ((j : ℕ) → Memᴰ j (d.premise ++ d.moves) → Good j) → (v : DecoratedAnnotation)
        → OkAnnotation F (move_at T.table h.move).order (move_at T.table h.move).B v → All h.S (λ q. Ok2 F q t)
        → Goes (cons2' (cons1' b v (cons1' ρ.symbol u s (chooses_all (members (move_at T.table (premise T.table d ρ.next)).R) d.moves))
        (top_choice T.table d ρ.next)) t (root_choice T.table d ρ.next))
    pushed {start = start} h good v x z =
        let c = h.concluded in
        let into = join_all_into T.table (start (move_at T.table h.move)) d.moves h.joined in
        let rs : List ℕ = members (move_at T.table h.move).R in
        let cell : (r : ℕ) → Memᴰ r rs → Ok1 F r (cons1' ρ.symbol u s (chooses_all rs d.moves)) =
        reads h.joins rs h.reading (λ i l. good i (Memᴰ.append_right d.premise l)) into.1 (joined_annotation c) (joined_rest c) in
        rw (premise_is T.table d ρ.next c.premise_is)
        (enter v (cons1' ρ.symbol u s (chooses_all rs d.moves)) t (good h.move (Memᴰ.append_left d.moves (premise_in_lem c.premise_is)))
        c.premise_is h.premise x (λ r n. cell r (has_in n)) z)

    -- the new annotation is s, and the premise's B is a part of R
    left_push1 : (b : ℕ) → Says T.table ρ (push1 b) d → ((j : ℕ) → Memᴰ j (used_moves (push1 b) d) → Good j) → Left (push1 b)
    unfolding used_moves after_decorated choices_after
    left_push1 b h good =
        let c = h.concluded in
        let m : Move = move_at T.table h.move in
        let into = join_all_into T.table (record { order = 0; B = 0; R = m.B }) d.moves h.joined in
        let fits : OkAnnotation F m.order m.B (of1' s) =
        ⊎_elim any (λ e. one e (all_part m.B h.joins.R into.0.R-part (joined_rest c))) h.order_fits_holds in
        (_, refl, pushed h good (of1' s) fits (joined_under c))

    -- the new annotation is t, and the premise's B is a part of S
    left_push2 : (b : ℕ) → Says T.table ρ (push2 b) d → ((j : ℕ) → Memᴰ j (used_moves (push2 b) d) → Good j) → Left (push2 b)
    unfolding used_moves after_decorated choices_after
    left_push2 b h good =
        let c = h.concluded in
        let m : Move = move_at T.table h.move in
        let fits : OkAnnotation F m.order m.B (of2' t) =
        ⊎_elim any (λ e. two e (all_right h.S m.B (joined_under c))) h.order_fits_holds in
        (_, refl, pushed h good (of2' t) fits (all_left h.S m.B (joined_under c)))

    -- The lower copy is right for each order-1 state that the edges name, and each edge's set is a part of S. So the cell that chooses
    -- these edges is right for all of the premise's set.
    left_copy : ByCopy T.table ρ d → ((j : ℕ) → Memᴰ j (used_moves copy d) → Good j) → Left copy
    unfolding used_moves after_decorated choices_after
    left_copy h good =
        let c = h.concluded in
        let A : Automaton = T.table in
        let into = join_all_into A (joins_of (move_at A h.move)) d.moves h.joined in
        let m : Move = move_at A h.move in
        let rs : List ℕ = members (named A d.edges) in
        let w : Decorated1 = cons1' ρ.symbol u s (chooses_all rs d.moves) in
        let g : ℕ → ℕ = chooses_all (members h.S) d.edges in
        let cell : (r : ℕ) → Memᴰ r rs → Ok1 F r w =
        reads h.joins rs h.reading (λ i l. good i (Memᴰ.append_right d.premise l)) into.1 (joined_annotation c) (joined_rest c) in
        let lower : All h.S (λ q. Ok2 F q (cons2' w t g)) = λ q n.
        let e = chooses_all_it h.chosen (has_in n) in
        edge_ok F w t g e.0 refl (cell (edge_at A (g q)).first (has_in (named_in A e.1)))
        (all_part (edge_at A (g q)).S (edge_sets A d.edges) (edge_sets_part A e.1) (joined_under c)) in
        let goes = enter u s (cons2' w t g) (good h.move (Memᴰ.append_left d.moves (premise_in_lem c.premise_is))) c.premise_is h.premise
        (ok_annotation_part F m.order m.B into.0.order_fits_holds into.0.B-part (joined_annotation c))
        (all_part m.R h.joins.R into.0.R-part (joined_rest c)) lower in
        let sets : entry_set A (move_at A (premise A d ρ.next)).state ≡ h.S =
        ap (λ (n : ℕ). entry_set A (move_at A n).state) (premise_is A d ρ.next c.premise_is) ∙ entry_move_set A h.premise in
        (_, refl, rw sets goes)

    -- pop 1 and collapse 1: the stack w that becomes the top is right for the premise
    entered : (w : Decorated1) {S e : ℕ} → d.premise ≡ e ∷ [] → EntryIs T.table ρ.next S e → All S (λ q. Ok2 F q t)
        → Ok1 F (T.table.J + e) w → Goes (cons2' w t (chooses ρ.next (entry_edge T.table (premise T.table d ρ.next))))
    entered w {S} {e} k h z ok =
        let n : ℕ = entry_edge T.table e in
        rw (premise_is T.table d ρ.next k) (ok.entry ρ.next S e refl h t z (chooses ρ.next n) (chooses_it ρ.next n))

    left_pop1 : Says T.table ρ pop1 d → Left pop1
    unfolding after_decorated choices_after
    left_pop1 h =
        let c = h.concluded in
        (_, refl, entered s c.premise_is h.premise (joined_under c) (all_one (T.table.J + h.entry) (joined_rest c)))

    -- p' is the member of S
    left_pop2 : Says T.table ρ pop2 d → Left pop2
    unfolding after_decorated
    left_pop2 c = (t, refl, (all_one ρ.next (joined_under c)).control next_exists)

    left_collapse1 : Says T.table ρ collapse1 d → Left collapse1
    unfolding after_decorated choices_after
    left_collapse1 h =
        let c = h.concluded in
        let r = ok_annotation_order1 F refl (joined_annotation c) in
        let n : ℕ → ℕ = chooses ρ.next (entry_edge T.table (premise T.table d ρ.next)) in (
          cons2' r.0 t n,
          ap (λ (x : DecoratedAnnotation). after_decorated collapse1 (n ∷ []) ρ.symbol x s t) r.1,
          entered r.0 c.premise_is h.premise (joined_under c) (all_one (T.table.J + h.entry) r.2),
        )

    -- p' is the member of B
    left_collapse2 : Says T.table ρ collapse2 d → Left collapse2
    unfolding after_decorated
    left_collapse2 c =
        let r = ok_annotation_order2 F refl (joined_annotation c) in (
          r.0,
          ap (λ (x : DecoratedAnnotation). after_decorated collapse2 (choices_after T.table d ρ.next collapse2) ρ.symbol x s t) r.1,
          (all_one ρ.next r.2).control next_exists,
        )

    -- whatever the operation, the walk arrives from what it leaves
    pub left : (o : Operation) → Says T.table ρ o d → ((j : ℕ) → Memᴰ j (used_moves o d) → Good j) → Left o
    left (rewrite b) h good = left_rewrite b h good
    left (push1 b) h good = left_push1 b h good
    left (push2 b) h good = left_push2 b h good
    left copy h good = left_copy h good
    left pop1 h good = left_pop1 h
    left pop2 h good = left_pop2 h
    left collapse1 h good = left_collapse1 h
    left collapse2 h good = left_collapse2 h
