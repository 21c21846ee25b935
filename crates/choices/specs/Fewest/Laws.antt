-- The search begins with the least member, and takes one of the rest after another.
-- Assumes nothing.
use Rattle.std.specs.Prelude.{ℕ, suc, ◌<◌, true, ◌≡◌, refl, length}
use Rattle.std.proofs.Common.{ap, sym, subst, arith}
use mathlib.Core.List.{List, ◌∷◌, Memᴰ}
use Rattle.words.specs.Sets.{member, members}
use Rattle.words.proofs.Sets.Laws.{has_in, in_has}
use Rattle.choices.specs.Fewest.{Among}

module _ (s q others : ℕ) (e : members s ≡ q ∷ members others) where
  first_in : member s q ≡ true
  first_in = (in_has s (subst (λ (l : List ℕ). Memᴰ q l) (sym e) (Memᴰ.head refl))).has

  others_in : (n : ℕ) → member others n ≡ true → member s n ≡ true
  others_in n h = (in_has s (subst (λ (l : List ℕ). Memᴰ n l) (sym e) (Memᴰ.tail (has_in (record { has = h }))))).has

  pub among_start : q < 64 → Among s others q
  among_start l = record { rest_in = others_in; best_in = first_in; best_small = l }

  -- q is no better
  pub among_passed : {left best : ℕ} → Among left s best → Among left others best
  among_passed w = record { rest_in = λ n h. w.rest_in n (others_in n h); best_in = w.best_in; best_small = w.best_small }

  -- q is better
  pub among_better : {left best : ℕ} → Among left s best → q < 64 → Among left others q
  among_better w l = record { rest_in = λ n h. w.rest_in n (others_in n h); best_in = w.rest_in q first_in; best_small = l }

  pub fewer_others : length (members others) < length (members s)
  fewer_others = let k : length (members s) ≡ suc (length (members others)) = ap length e in omega arith
