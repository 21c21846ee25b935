-- The moves that a derivation uses are moves of the automaton that it is from.
-- Assumes nothing.
use Rattle.std.specs.Prelude.{ℕ, ◌<◌, ◌≡◌, length}
use Rattle.std.proofs.Common.{⊎_elim}
use mathlib.Core.List.Memᴰ
use mathlib.Core.List.{List, [], ◌∷◌, ◌++◌, Memᴰ}
use Rattle.stacks.specs.Stack.{Operation, rewrite, push1, push2, copy, pop1, pop2, collapse1, collapse2}
use Rattle.stacks.specs.System.{Rule}
use Rattle.automata.specs.Automaton.{Automaton}
use Rattle.automata.specs.Automaton.Laws.{MoveOf, EntryMove}
use Rattle.automata.specs.Derivation.{Derivation}
use Rattle.automata.specs.Derivation.Numbers.{Paired, paired_state}
use Rattle.automata.proofs.Derivation.Laws.{Says}

-- the numbers of the moves that a derivation by the operation uses
unfoldable pub used_moves : Operation → Derivation → List ℕ
used_moves (rewrite b) d = d.premise
used_moves (push1 b) d = d.premise ++ d.moves
used_moves (push2 b) d = d.premise ++ d.moves
used_moves copy d = d.premise ++ d.moves
used_moves pop1 d = []
used_moves pop2 d = []
used_moves collapse1 d = []
used_moves collapse2 d = []

module _ (A : Automaton) (ρ : Rule) (d : Derivation) where
  premise_below : {p S b i : ℕ} → EntryMove A p S b i → d.premise ≡ i ∷ [] → (j : ℕ) → Memᴰ j d.premise → j < length A.moves
  premise_below {i = i} h e j k = rw (Memᴰ.eq_of_singleton (rw e at k)) h.below

  used_below : {p S b i a : ℕ} {rs : List ℕ} → EntryMove A p S b i → d.premise ≡ i ∷ [] → Paired (MoveOf A a) rs d.moves
      → (j : ℕ) → Memᴰ j (d.premise ++ d.moves) → j < length A.moves
  used_below h e ps j k = ⊎_elim (premise_below h e j) (λ l. (paired_state ps l).2.below) (Memᴰ.append_cases d.premise k)

  pub says_below : (o : Operation) → Says A ρ o d → (j : ℕ) → Memᴰ j (used_moves o d) → j < length A.moves
  unfolding used_moves
  says_below (rewrite b) h j k = premise_below h.premise h.concluded.premise_is j k
  says_below (push1 b) h j k = used_below h.premise h.concluded.premise_is h.reading j k
  says_below (push2 b) h j k = used_below h.premise h.concluded.premise_is h.reading j k
  says_below copy h j k = used_below h.premise h.concluded.premise_is h.reading j k
  says_below pop1 h j k = absurd (Memᴰ.not-nil k)
  says_below pop2 h j k = absurd (Memᴰ.not-nil k)
  says_below collapse1 h j k = absurd (Memᴰ.not-nil k)
  says_below collapse2 h j k = absurd (Memᴰ.not-nil k)
