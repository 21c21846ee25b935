-- The limits: the table of at most n rounds is that after some number of rounds, each of which adds a move; it keeps the limits, and it is closed
-- where they are fewer than n. There is none exactly if the table after n rounds passes a limit. It is the same for all lent sizes that hold it.
-- Assumes nothing.
use Prim.Native.Nat.{ℕ, zero, suc, ◌+◌, ◌≤◌, ◌<◌, min}
use Rattle.std.proofs.Math.Bool.{Bool, true, not, ◌&&◌}
use Rattle.std.specs.Prelude.{false, ◌≡◌, refl, eqb, ltb}
use Rattle.std.proofs.lemmas.Bool.{false≢true}
use Rattle.std.proofs.Math.Path.{ap, ap₂, subst}
use Rattle.std.proofs.Common.{sym, ◌∙◌, zero-add}
use Rattle.std.proofs.Math.Option.{Option, none, some, some-injective, none-ne-some, some-ne-none}
use mathlib.Core.List.{List, [], ◌∷◌, ◌++◌}
use native.Mathlib.Omega.{arith}
use Rattle.std.proofs.Math.ListN.{length}
use Rattle.std.proofs.Math.Dec.{leb}
use borrow.Author.Tests.{eqb-true, eqb-false, eq-eqb, ne_eqb, leb-true, leb-false, le-leb, ltb-true, ltb-false, not-true, not-false}
use Rattle.words.specs.Laws.Tests.{by_test, and_left, and_right}
use Rattle.words.specs.Laws.Options.{by_option}
use Rattle.words.specs.Laws.Numbers.{below_suc}
use Rattle.stacks.specs.System.{Rule}
use Rattle.automata.specs.Automaton.{Automaton}
use Rattle.automata.specs.Saturation.{round, table_after, adds_move, Size, size_of, within, Saturated, saturate_from, saturate, rounds_added}
use Rattle.automata.specs.Facts.{Extends, Closed, states}
use Rattle.automata.specs.Facts.Laws.{moves_grow, entries_grow, states_grow}
use Rattle.rounds.specs.Rounds.{round_adds, still_closed, closed_same, after_extends, after_closed}
use Rattle.rounds.specs.Sizes.{sizes_before, AfterRounds, after_rounds, rounds_are}

-- ---- within the limits

pub record KeepsLimits (lent : Size) (A : Automaton) : Type 0 where
  pub moves_fit : length A.moves ≤ min lent.moves 1024
  pub entries_fit : length A.entries ≤ lent.entries
  pub states_fit : states A ≤ 64

module _ (lent : Size) where
  pub within_keeps : (A : Automaton) → within lent A ≡ true → KeepsLimits lent A
  unfolding within
  within_keeps A h =
      let a : Bool = leb (length A.moves) (min lent.moves 1024) in
      let b : Bool = leb (length A.entries) lent.entries in
      let c : Bool = leb (A.J + length A.entries) 64 in
      let ab : a && b ≡ true = and_left (a && b) c h in
      record {
        moves_fit = leb-true (length A.moves) (min lent.moves 1024) (and_left a b ab);
        entries_fit = leb-true (length A.entries) lent.entries (and_right a b ab);
        states_fit = leb-true (states A) 64 (and_right (a && b) c h);
      }

  pub keeps_within : (A : Automaton) → KeepsLimits lent A → within lent A ≡ true
  unfolding within
  keeps_within A f =
      ap₂ ◌&&◌
      (ap₂ ◌&&◌
      (le-leb (length A.moves) (min lent.moves 1024) f.moves_fit)
      (le-leb (length A.entries) lent.entries f.entries_fit))
      (le-leb (states A) 64 f.states_fit)

  -- what fits has only parts that fit
  pub within_part : {A C : Automaton} → Extends A C → within lent C ≡ true → within lent A ≡ true
  within_part {A} {C} x h =
      let f : KeepsLimits lent C = within_keeps C h in
      keeps_within A (record {
        moves_fit = let l : length C.moves ≤ min lent.moves 1024 = f.moves_fit in let g = moves_grow x in omega arith;
        entries_fit = let l : length C.entries ≤ lent.entries = f.entries_fit in let g = entries_grow x in omega arith;
        states_fit = let l : states C ≤ 64 = f.states_fit in let g = states_grow x in omega arith;
      })

-- ---- the loop

module _ (rules : List Rule) where
  -- the round after the first n rounds adds a move
  abbrev pub Adds : Automaton → ℕ → Type 0
  Adds own n = length (table_after rules own n).moves < length (table_after rules own (suc n)).moves

  -- a round that would add no move
  pub adds_none : (A : Automaton) → adds_move rules A ≡ false → length (round rules A).moves ≡ length A.moves
  unfolding adds_move
  adds_none A h = eqb-true (length (round rules A).moves) (length A.moves) (not-false (eqb (length (round rules A).moves) (length A.moves)) h)

  -- there is nothing left to add to a table exactly if it is closed
  pub nothing_closed : (A : Automaton) → adds_move rules A ≡ false → Closed rules A
  nothing_closed A h = still_closed rules A (adds_none A h)

  pub closed_nothing : (A : Automaton) → Closed rules A → adds_move rules A ≡ false
  unfolding adds_move
  closed_nothing A c = ap not (eq-eqb (length (round rules A).moves) (length A.moves) (ap (λ (C : Automaton). length C.moves) (closed_same rules A c)))

  -- a round that would add a move
  pub adds_some : (A : Automaton) → adds_move rules A ≡ true → length A.moves < length (round rules A).moves
  unfolding adds_move
  adds_some A h =
      round_adds rules A (eqb-false (length (round rules A).moves) (length A.moves) (not-true (eqb (length (round rules A).moves) (length A.moves)) h))

module _ (rules : List Rule) (lent : Size) where
  pub saturate_from_exceeds : (n : ℕ) (sizes : List Size) (A : Automaton) → within lent A ≡ false → saturate_from rules lent n sizes A ≡ none
  unfolding saturate_from
  saturate_from_exceeds zero sizes A h = rw (saturate_from, h)
  saturate_from_exceeds (suc n) sizes A h = rw (saturate_from, h)

  pub saturate_from_stops : (sizes : List Size) (A : Automaton) → within lent A ≡ true
      → saturate_from rules lent 0 sizes A ≡ some (record { table = A; sizes = sizes ++ size_of A ∷ [] })
  unfolding saturate_from
  saturate_from_stops sizes A h = rw (saturate_from, h)

  pub saturate_from_ends : (n : ℕ) (sizes : List Size) (A : Automaton) → within lent A ≡ true → length (round rules A).moves ≡ length A.moves
      → saturate_from rules lent (suc n) sizes A ≡ some (record { table = A; sizes = sizes ++ size_of A ∷ [] })
  unfolding saturate_from
  saturate_from_ends n sizes A h e = rw (saturate_from, h, eq-eqb (length (round rules A).moves) (length A.moves) e)

  pub saturate_from_goes_on : (n : ℕ) (sizes : List Size) (A : Automaton) → within lent A ≡ true → (length (round rules A).moves ≡ length A.moves → ⊥)
      → saturate_from rules lent (suc n) sizes A ≡ saturate_from rules lent n (sizes ++ size_of A ∷ []) (round rules A)
  unfolding saturate_from
  saturate_from_goes_on n sizes A h e = rw (saturate_from, h, ne_eqb (length (round rules A).moves) (length A.moves) e)

  module _ (own : Automaton) where
    -- what holds of a table of at most n rounds
    pub record IsSaturated (n : ℕ) (T : Saturated) : Type 0 where
      pub after : AfterRounds rules own T
      pub each_adds : (m : ℕ) → m < after.rounds → Adds rules own m
      pub at_most : after.rounds ≤ n
      pub closed : after.rounds < n → Closed rules T.table
      pub limits_kept : within lent T.table ≡ true

    -- a table of at most n rounds, or a table of no more rounds that passes a limit
    pub data SaturatesTo (n : ℕ) : Option Saturated → Type 0 where
      saturated : {T : Saturated} → IsSaturated n T → SaturatesTo n (some T)
      exceeds : (m : ℕ) → m ≤ n → within lent (table_after rules own m) ≡ false → SaturatesTo n none

    -- after m rounds that each add a move, with k more to run
    pub saturates_from : (k m : ℕ) → ((i : ℕ) → i < m → Adds rules own i)
        → SaturatesTo (m + k) (saturate_from rules lent k (sizes_before rules own m) (table_after rules own m))
    unfolding sizes_before table_after after_rounds
    saturates_from zero m before =
        let A : Automaton = table_after rules own m in
        by_test (within lent A)
        (λ t. rw (saturate_from_stops (sizes_before rules own m) A t)
        (saturated (record { after = after_rounds rules own m; each_adds = before; at_most = omega arith; closed = λ l. absurd (omega arith); limits_kept = t })))
        (λ t. rw (saturate_from_exceeds 0 (sizes_before rules own m) A t) (exceeds m (omega arith) t))
    saturates_from (suc k) m before =
        let A : Automaton = table_after rules own m in
        let sizes : List Size = sizes_before rules own m in
        by_test (within lent A)
        (λ t. by_test (eqb (length (round rules A).moves) (length A.moves))
        (λ u.
        let e : length (round rules A).moves ≡ length A.moves = eqb-true (length (round rules A).moves) (length A.moves) u in
        rw (saturate_from_ends k sizes A t e)
        (saturated (record { after = after_rounds rules own m; each_adds = before; at_most = omega arith; closed = λ l. still_closed rules A e; limits_kept = t })))
        (λ u.
        let e : length (round rules A).moves ≡ length A.moves → ⊥ = eqb-false (length (round rules A).moves) (length A.moves) u in
        let g : length A.moves < length (round rules A).moves = round_adds rules A e in
        let same : suc m + k ≡ m + suc k = omega arith in
        rw (saturate_from_goes_on k sizes A t e)
        (subst (λ (n : ℕ). SaturatesTo n (saturate_from rules lent k (sizes_before rules own (suc m)) (table_after rules own (suc m)))) same
        (saturates_from k (suc m) (below_suc (Adds rules own) m before g)))))
        (λ t. rw (saturate_from_exceeds (suc k) sizes A t) (exceeds m (omega arith) t))

    module _ (n : ℕ) where
      pub saturate_to : SaturatesTo n (saturate rules lent n own)
      unfolding saturate sizes_before table_after
      saturate_to = subst (λ (m : ℕ). SaturatesTo m (saturate rules lent n own)) (zero-add n) (saturates_from n 0 (λ m h. absurd (omega arith)))

      -- ---- a table of at most n rounds, exactly where the table after n rounds keeps the limits

      pub saturate_some : {T : Saturated} → saturate rules lent n own ≡ some T → IsSaturated n T
      saturate_some {T} e = go (saturate rules lent n own) saturate_to e
        where
          go : (o : Option Saturated) → SaturatesTo n o → o ≡ some T → IsSaturated n T
          go (some U) (saturated s) z = subst (IsSaturated n) (some-injective U T z) s
          go none (exceeds m l h) z = absurd (none-ne-some T z)

      -- it is the table after n rounds
      pub saturated_after : {T : Saturated} → IsSaturated n T → T.table ≡ table_after rules own n
      saturated_after {T} s =
          let m : ℕ = s.after.rounds in
          let e : T.table ≡ table_after rules own m = s.after.table_is in
          by_test (eqb m n)
          (λ t. e ∙ ap (table_after rules own) (eqb-true m n t))
          (λ t.
          let l = s.at_most in
          let differs : m ≡ n → ⊥ = eqb-false m n t in
          e ∙ sym (after_closed rules own m n l (subst (Closed rules) e (s.closed (omega arith)))))

      pub saturate_none : saturate rules lent n own ≡ none → within lent (table_after rules own n) ≡ false
      saturate_none e = go (saturate rules lent n own) saturate_to e
        where
          go : (o : Option Saturated) → SaturatesTo n o → o ≡ none → within lent (table_after rules own n) ≡ false
          go (some U) (saturated s) z = absurd (some-ne-none U z)
          go none (exceeds m l h) z =
              by_test (within lent (table_after rules own n))
              (λ t. absurd (false≢true (sym h ∙ within_part lent (after_extends rules own m n l) t)))
              (λ t. t)

      pub exceeds_none : within lent (table_after rules own n) ≡ false → saturate rules lent n own ≡ none
      exceeds_none h = go (saturate rules lent n own) saturate_to
        where
          go : (o : Option Saturated) → SaturatesTo n o → o ≡ none
          go (some U) (saturated s) = absurd (false≢true (sym h ∙ ap (within lent) (sym (saturated_after s)) ∙ s.limits_kept))
          go none (exceeds m l k) = refl

      pub within_some : within lent (table_after rules own n) ≡ true → (T : Saturated) × (saturate rules lent n own ≡ some T)
      within_some h = by_option (saturate rules lent n own) (λ o. absurd (false≢true (sym (saturate_none o) ∙ h))) (λ T o. (T, o))

    -- each of these rounds adds a move, so there are no more of them than moves of the table
    rounds_counted : (k : ℕ) → ((m : ℕ) → m < k → Adds rules own m) → k + length own.moves ≤ length (table_after rules own k).moves
    unfolding table_after
    rounds_counted zero h = omega arith
    rounds_counted (suc k) h =
        let before : k + length own.moves ≤ length (table_after rules own k).moves = rounds_counted k (λ m l. h m (omega arith)) in
        let adds : length (table_after rules own k).moves < length (table_after rules own (suc k)).moves = h k (omega arith) in
        omega arith

    -- at most 1,024 rounds add a move, and as many fewer as the own automaton has moves
    pub rounds_few : {n : ℕ} {T : Saturated} → IsSaturated n T → rounds_added T + length own.moves ≤ 1024
    rounds_few {T = T} s =
        let e : rounds_added T ≡ s.after.rounds = rounds_are s.after in
        let l = rounds_counted s.after.rounds s.each_adds in
        let f : length T.table.moves ≤ min lent.moves 1024 = (within_keeps lent T.table s.limits_kept).moves_fit in
        let m : length T.table.moves ≡ length (table_after rules own s.after.rounds).moves =
        ap (λ (A : Automaton). length A.moves) s.after.table_is in
        omega arith

    -- All rounds: with more than 1,024 rounds, or with 1,024 where the own automaton has a move, nothing is left to add.
    pub all_closed : {n : ℕ} {T : Saturated} → IsSaturated n T → 1024 < n + length own.moves → Closed rules T.table
    all_closed s h = let few = rounds_few s in let e = rounds_are s.after in s.closed (omega arith)

-- ---- other lent sizes, and more rounds

module _ (rules : List Rule) (own : Automaton) where
  -- the rounds of such a table are no more than those after which the table is closed
  rounds_least : {lent : Size} {n : ℕ} {T : Saturated} (s : IsSaturated rules lent own n T) (m : ℕ) → Closed rules (table_after rules own m) → s.after.rounds ≤ m
  rounds_least s m c =
      let k : ℕ = s.after.rounds in
      by_test (leb k m)
      (λ t. leb-true k m t)
      (λ t.
      let g : length (table_after rules own m).moves < length (table_after rules own (suc m)).moves = s.each_adds m (leb-false k m t) in
      let e : length (table_after rules own (suc m)).moves ≡ length (table_after rules own m).moves =
      ap (λ (A : Automaton). length A.moves) (after_closed rules own m (suc m) (omega arith) c) in
      absurd (omega arith))

  -- "The rounds that added something": the fewer of n and those after which the table is closed, where each before adds a move
  pub rounds_min : {lent : Size} {n : ℕ} {T : Saturated} → IsSaturated rules lent own n T → (m : ℕ) → Closed rules (table_after rules own m)
      → ((k : ℕ) → k < m → Adds rules own k) → rounds_added T ≡ min n m
  rounds_min {n = n} {T = T} s m c each =
      let k : ℕ = s.after.rounds in
      let e : rounds_added T ≡ k = rounds_are s.after in
      let l : k ≤ m = rounds_least s m c in
      let h : k ≤ n = s.at_most in
      by_test (eqb k n)
      (λ t. let z : k ≡ n = eqb-true k n t in omega arith)
      (λ t.
      let z : k ≡ n → ⊥ = eqb-false k n t in
      let closed : Closed rules (table_after rules own k) = subst (Closed rules) s.after.table_is (s.closed (omega arith)) in
      by_test (eqb k m)
      (λ u. let w : k ≡ m = eqb-true k m u in omega arith)
      (λ u.
      let w : k ≡ m → ⊥ = eqb-false k m u in
      let g : length (table_after rules own k).moves < length (table_after rules own (suc k)).moves = each k (omega arith) in
      let q : length (table_after rules own (suc k)).moves ≡ length (table_after rules own k).moves =
      ap (λ (A : Automaton). length A.moves) (after_closed rules own k (suc k) (omega arith) closed) in
      absurd (omega arith)))

  -- there is one table of at most n rounds, whatever the lent sizes
  saturated_same : {lent lent' : Size} {n : ℕ} {T U : Saturated} → IsSaturated rules lent own n T → IsSaturated rules lent' own n U → T ≡ U
  saturated_same {n = n} {T = T} {U = U} s t =
      let a : s.after.rounds ≤ t.after.rounds = no_more s t in
      let b : t.after.rounds ≤ s.after.rounds = no_more t s in
      let k : s.after.rounds ≡ t.after.rounds = omega arith in
      let e : T.table ≡ U.table = s.after.table_is ∙ ap (table_after rules own) k ∙ sym t.after.table_is in
      let f : T.sizes ≡ U.sizes = s.after.sizes_are ∙ ap (λ (i : ℕ). sizes_before rules own (suc i)) k ∙ sym t.after.sizes_are in
      λ i. record { table = e i; sizes = f i }
    where
      -- the rounds of one are no more than those of the other, which stopped at n or at a closed table
      no_more : {lent lent' : Size} {T U : Saturated} (s : IsSaturated rules lent own n T) (t : IsSaturated rules lent' own n U) → s.after.rounds ≤ t.after.rounds
      no_more s t =
          let l : s.after.rounds ≤ n = s.at_most in
          by_test (ltb t.after.rounds n)
          (λ u. rounds_least s t.after.rounds (subst (Closed rules) t.after.table_is (t.closed (ltb-true _ _ u))))
          (λ u. let m : n ≤ t.after.rounds = ltb-false _ _ u in omega arith)

module _ (rules : List Rule) (lent lent' : Size) (n : ℕ) (own : Automaton) where
  -- the table is the same for any two lent sizes that hold it
  pub same_table : {T U : Saturated} → saturate rules lent n own ≡ some T → saturate rules lent' n own ≡ some U → T ≡ U
  same_table e f = saturated_same rules own (saturate_some rules lent own n e) (saturate_some rules lent' own n f)

  -- all lent sizes that hold it give it
  pub held_table : {T : Saturated} → saturate rules lent n own ≡ some T → within lent' T.table ≡ true → saturate rules lent' n own ≡ some T
  held_table {T} e w =
      let s : IsSaturated rules lent own n T = saturate_some rules lent own n e in
      let (U, f) = within_some rules lent' own n (ap (within lent') (sym (saturated_after rules lent own n s)) ∙ w) in
      f ∙ ap some (sym (same_table e f))
