-- The set of listed states.
-- Assumes nothing.
use Rattle.std.specs.Prelude.{ℕ, ◌≡◌}
use Rattle.std.proofs.Common.{ap, sym, ◌∙◌, ⊎_elim}
use mathlib.Core.List.{List, [], ◌∷◌, ◌++◌, Memᴰ}
use Rattle.words.specs.Sets.{single, join, set_of}
use Rattle.words.proofs.Sets.Laws.{Has, has_empty, has_single, single_has, has_join_left, has_join_right, join_cases, join_assoc, join_empty_left}

pub in_set_of : {n : ℕ} {ns : List ℕ} → Memᴰ n ns → Has (set_of ns) n
unfolding set_of
in_set_of {n = n} {ns = []} x = elim x [ ]
in_set_of {n} {ns = m ∷ ns} (Memᴰ.head e) = has_join_left (set_of ns) (rw e (has_single m))
in_set_of {ns = m ∷ ns} (Memᴰ.tail i) = has_join_right (single m) (in_set_of i)

pub set_of_in : (ns : List ℕ) {n : ℕ} → Has (set_of ns) n → Memᴰ n ns
unfolding set_of
set_of_in [] h = absurd (has_empty h)
set_of_in (m ∷ ns) h = ⊎_elim (λ k. Memᴰ.head (sym (single_has k))) (λ k. Memᴰ.tail (set_of_in ns k)) (join_cases (single m) (set_of ns) h)

pub set_of_append : (ms ns : List ℕ) → set_of (ms ++ ns) ≡ join (set_of ms) (set_of ns)
unfolding set_of
set_of_append [] ns = sym (join_empty_left (set_of ns))
set_of_append (m ∷ ms) ns = ap (join (single m)) (set_of_append ms ns) ∙ sym (join_assoc (single m) (set_of ms) (set_of ns))
