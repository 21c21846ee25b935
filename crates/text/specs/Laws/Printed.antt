-- Text written from the start of bytes that are all zero.
-- Assumes nothing.
use Rattle.std.specs.Prelude.{ℕ, ◌+◌, ◌-◌, ◌≤◌, ◌≡◌, List, length, take, replicate}
use Rattle.std.proofs.Common.{ap, sym, ◌∙◌, zero-add, arith, length-append, take_at}
use Rattle.services.specs.Memory.{padded}
use Rattle.services.specs.Memory.Laws.{sets_zeros}
use Rattle.words.specs.Lists.{zeros}
use Rattle.text.specs.Written.{Written}
use Rattle.text.specs.Written.Laws.{written_same}

-- n being the number of the bytes
pub printed : {n : ℕ} {line text after : List ℕ} {end : ℕ} → line ≡ text → Written (replicate n 0) 0 line after end → end ≤ n
    → (after ≡ padded n text) × ((end ≡ length text) × (end ≤ n))
printed {n} {line} {text} {after} {end} same written h =
    let w = written_same same written in
    let e : end ≡ length text = w.place ∙ zero-add (length text) in
    (w.is ∙ sets_zeros n text (omega arith), (e, h))

-- the answer counts bytes at the start of the text
pub printed_counts : (n : ℕ) (text : List ℕ) {after : List ℕ} {end : ℕ} → after ≡ padded n text → end ≡ length text
    → (end ≤ length after) × (end ≡ length (take end after))
unfolding padded
printed_counts n text {after} {end} is e =
    let zs : List ℕ = zeros (n - length text) in
    let l : length after ≡ length text + length zs = ap length is ∙ length-append text zs in
    let t : take end after ≡ text = ap (take end) is ∙ take_at text zs end (sym e) in
    (omega arith, e ∙ ap length (sym t))
