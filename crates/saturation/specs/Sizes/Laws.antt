-- A size as words, and back.
-- Assumes nothing.
use Rattle.std.specs.Prelude.{ℕ, ◌<◌, ◌≡◌, refl, length, get_or}
use Rattle.std.proofs.Common.{arith}
use Rattle.automata.specs.Saturation.{Size}
use Rattle.saturation.specs.Sizes.{size_words, size_from}

pub size_length : (x : Size) → length (size_words x) ≡ 2
unfolding size_words
size_length x = refl

pub size_back : (x : Size) → size_from (λ j. get_or (size_words x) j 0) ≡ x
unfolding size_words
size_back x = refl

pub size_same : (f g : ℕ → ℕ) → ((j : ℕ) → j < 2 → f j ≡ g j) → size_from f ≡ size_from g
size_same f g h = λ i. record { moves = h 0 (omega arith) i; entries = h 1 (omega arith) i }
