-- The sizes of the tables after 0, 1 and so on rounds. By them the table before a move's round is known within the table after any number of
-- rounds.
-- Assumes nothing.
use Prim.Native.Nat.{ℕ, zero, suc, ◌+◌, ◌-◌, ◌≤◌, ◌<◌}
use Rattle.std.specs.Prelude.{◌≡◌}
use Rattle.std.proofs.Math.Path.{refl, ap, sym}
use Rattle.std.proofs.Common.{◌∙◌, add-zero, zero-add}
use Rattle.std.proofs.Math.Logic.{⊎_elim}
use mathlib.Core.List.Memᴰ
use mathlib.Core.List.{List, [], ◌∷◌, ◌++◌, append-nil, Memᴰ}
use Rattle.std.proofs.Math.Nat.{le_trans}
use native.Mathlib.Omega.{arith}
use Rattle.std.proofs.Math.ListN.{length, length-append}
use Rattle.std.proofs.Math.Seq.{append_snoc}
use Rattle.stacks.specs.System.{Rule}
use Rattle.automata.specs.Automaton.{Automaton}
use Rattle.automata.specs.Saturation.{Size, size_of, table_after, Saturated, rounds_added, up_to, last_up_to, own_moves}
use Rattle.automata.proofs.Saturation.Laws.{extends_up_to, last_up_to_past, last_up_to_no}
use Rattle.automata.specs.Facts.Laws.{moves_grow}
use Rattle.rounds.specs.Rounds.{after_extends}
use Rattle.rounds.specs.First.{AddedAfter}

-- ---- the sizes

module _ (rules : List Rule) (own : Automaton) where
  -- the sizes of the first n tables
  unfoldable pub sizes_before : ℕ → List Size
  sizes_before zero = []
  sizes_before (suc n) = sizes_before n ++ size_of (table_after rules own n) ∷ []

  -- the sizes of k tables, the first being that after n rounds
  unfoldable pub sizes_from : ℕ → ℕ → List Size
  sizes_from n zero = []
  sizes_from n (suc k) = size_of (table_after rules own n) ∷ sizes_from (suc n) k

  pub sizes_split : (n k : ℕ) → sizes_before (n + k) ≡ sizes_before n ++ sizes_from n k
  unfolding sizes_before sizes_from
  sizes_split n zero = ap sizes_before (add-zero n) ∙ sym (append-nil (sizes_before n))
  sizes_split n (suc k) =
      let e : n + suc k ≡ suc n + k = omega arith in
      ap sizes_before e ∙ sizes_split (suc n) k ∙ append_snoc (sizes_before n) (size_of (table_after rules own n)) (sizes_from (suc n) k)

  pub length_sizes_before : (n : ℕ) → length (sizes_before n) ≡ n
  unfolding sizes_before
  length_sizes_before zero = refl
  length_sizes_before (suc n) =
      let e : length (sizes_before n ++ size_of (table_after rules own n) ∷ []) ≡ length (sizes_before n) + 1 = length-append (sizes_before n) _ in
      let h : length (sizes_before n) ≡ n = length_sizes_before n in
      omega arith

  pub sizes_before_small : (n : ℕ) {z : Size} → Memᴰ z (sizes_before n) → z.moves ≤ length (table_after rules own n).moves
  unfolding sizes_before size_of
  sizes_before_small zero j = absurd (Memᴰ.not-nil j)
  sizes_before_small (suc n) {z} j =
      let g : length (table_after rules own n).moves ≤ length (table_after rules own (suc n)).moves = moves_grow (after_extends rules own n (suc n) (omega arith)) in
      ⊎_elim
      (λ i. let l : z.moves ≤ length (table_after rules own n).moves = sizes_before_small n i in omega arith)
      (λ i. let e : z.moves ≡ length (table_after rules own n).moves = ap (λ (y : Size). y.moves) (Memᴰ.eq_of_singleton i) in omega arith)
      (Memᴰ.append_cases (sizes_before n) j)

  -- the first of them has the number of the own moves
  pub own_moves_is : (N : ℕ) → own_moves (sizes_before (suc N)) ≡ length own.moves
  unfolding own_moves sizes_before sizes_from size_of table_after
  own_moves_is N = ap (λ (m : ℕ). own_moves (sizes_before m)) (sym (zero-add (suc N))) ∙ ap own_moves (sizes_split 0 (suc N))

  -- ---- the table before a move's round

  -- a table of fewer rounds is that part of a table of more rounds that has its size
  pub up_to_after : (n m : ℕ) → n ≤ m → up_to (size_of (table_after rules own n)) (table_after rules own m) ≡ table_after rules own n
  up_to_after n m h = extends_up_to (after_extends rules own n m h)

  -- of the sizes of the tables after 0 to N rounds, the last before the round that adds move i
  pub last_up_to_round : (z : Size) {n i : ℕ} → AddedAfter rules own n i → (N : ℕ) → n < N
      → last_up_to z (sizes_before (suc N)) i ≡ size_of (table_after rules own n)
  unfolding size_of sizes_from
  last_up_to_round z {n} {i} a N h =
      let k : ℕ = N - suc n in
      let e : suc N ≡ n + suc (suc k) = omega arith in
      let l : length (table_after rules own n).moves ≤ i = a.not_before in
      ap (λ (m : ℕ). last_up_to z (sizes_before m) i) e
      ∙ ap (λ (ys : List Size). last_up_to z ys i) (sizes_split n (suc (suc k)))
      ∙ last_up_to_past z (sizes_before n) (size_of (table_after rules own n)) (sizes_from (suc n) (suc k)) i (λ x j. le_trans (sizes_before_small n j) l) l
      ∙ last_up_to_no (size_of (table_after rules own n)) (size_of (table_after rules own (suc n))) (sizes_from (suc (suc n)) k) i a.then_there

  -- ---- the table after some number of rounds, with its sizes

  pub record AfterRounds (T : Saturated) : Type 0 where
    pub rounds : ℕ
    pub table_is : T.table ≡ table_after rules own rounds
    pub sizes_are : T.sizes ≡ sizes_before (suc rounds)

  -- there is one for each number of rounds
  unfoldable pub after_rounds : (n : ℕ) → AfterRounds (record { table = table_after rules own n; sizes = sizes_before (suc n) })
  after_rounds n = record { rounds = n; table_is = refl; sizes_are = refl }

-- their number is known from the sizes
pub rounds_are : {rules : List Rule} {own : Automaton} {T : Saturated} (s : AfterRounds rules own T) → rounds_added T ≡ s.rounds
unfolding rounds_added
rounds_are {rules} {own} {T} s =
    let e : length T.sizes ≡ length (sizes_before rules own (suc s.rounds)) = ap length s.sizes_are in
    let h : length (sizes_before rules own (suc s.rounds)) ≡ suc s.rounds = length_sizes_before rules own (suc s.rounds) in
    omega arith
