-- The round of a move, as it is counted off the sizes after each round.
-- Assumes nothing.
use Rattle.std.specs.Prelude.{ℕ, zero, suc, ◌≤◌, ◌<◌, List, [], ◌∷◌, length, get_or, leb}
use Rattle.std.proofs.Common.{arith, leb-true, le-leb}
use Rattle.std.proofs.lemmas.Bool.{lt-leb}
use Rattle.words.specs.Laws.Tests.{by_test}
use Rattle.automata.specs.Saturation.{Size, round_of}

pub round_of_few : (zs : List Size) (i : ℕ) → round_of zs i ≤ length zs
unfolding round_of
round_of_few [] i = omega arith
round_of_few (z ∷ zs) i = by_test (leb z.moves i)
    (λ t. let h = round_of_few zs i in rw (round_of, t) (omega arith))
    (λ t. rw (round_of, t) (omega arith))

-- a size that is larger stops it
pub round_of_stops : (zs : List Size) (i n : ℕ) (d : Size) → n < length zs → i < (get_or zs n d).moves → round_of zs i ≤ n
unfolding round_of
round_of_stops [] i n d l h = absurd (omega arith)
round_of_stops (z ∷ zs) i zero d l h = rw (round_of, lt-leb z.moves i h) (omega arith)
round_of_stops (z ∷ zs) i (suc n) d l h = by_test (leb z.moves i)
    (λ t. let k = round_of_stops zs i n d (omega arith) h in rw (round_of, t) (omega arith))
    (λ t. rw (round_of, t) (omega arith))

-- and one that is not does not
pub round_of_more : (zs : List Size) (i n : ℕ) (d : Size) → n ≤ round_of zs i → n < length zs → (get_or zs n d).moves ≤ i → suc n ≤ round_of zs i
unfolding round_of
round_of_more [] i n d k l h = absurd (omega arith)
round_of_more (z ∷ zs) i zero d k l h = rw (round_of, le-leb z.moves i h) (omega arith)
round_of_more (z ∷ zs) i (suc n) d k l h = by_test (leb z.moves i)
    (λ t.
    let k' : suc n ≤ suc (round_of zs i) = rw (round_of, t) at k in
    let m = round_of_more zs i n d (omega arith) (omega arith) h in
    rw (round_of, t) (omega arith))
    (λ t. let k' : suc n ≤ 0 = rw (round_of, t) at k in absurd (omega arith))

-- later moves are of no earlier round
pub round_of_grows : (zs : List Size) {i j : ℕ} → i ≤ j → round_of zs i ≤ round_of zs j
unfolding round_of
round_of_grows [] h = omega arith
round_of_grows (z ∷ zs) {i} {j} h = by_test (leb z.moves i)
    (λ t.
    let a : z.moves ≤ i = leb-true z.moves i t in
    let k = round_of_grows zs h in
    rw (round_of, t, le-leb z.moves j (omega arith)) (omega arith))
    (λ t. rw (round_of, t) (omega arith))
