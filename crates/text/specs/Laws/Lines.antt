-- The lines of the starts, one after another.
-- Assumes nothing.
use Rattle.std.specs.Prelude.{ℕ, zero, suc, ◌+◌, ◌≡◌, refl, List, ◌++◌}
use Rattle.std.proofs.Common.{ap, sym, ◌∙◌, append_assoc, append-nil, add-zero, zero-add, add-one, arith}
use Rattle.automata.specs.Saturation.{all_rounds}
use Rattle.files.specs.Start.{Files}
use Rattle.services.specs.Guide.{guide_service}
use Rattle.services.specs.Listing.{listing_guide, reply_line, round_won, start_line, start_lines}

pub start_line_is : (f : Files) (n : ℕ) → start_line f n ≡ reply_line n (round_won f all_rounds n) (guide_service (listing_guide f n)).reply
unfolding start_line
start_line_is f n = refl

-- the last of several lines
pub start_lines_more : (f : Files) (n k : ℕ) → start_lines f n (suc k) ≡ start_lines f n k ++ start_line f (n + k)
unfolding start_lines
start_lines_more f n zero = append-nil (start_line f n) ∙ ap (start_line f) (sym (add-zero n))
start_lines_more f n (suc k) =
    let z : suc n + k ≡ n + suc k = omega arith in
    ap (λ (l : List ℕ). start_line f n ++ l) (start_lines_more f (suc n) k ∙ ap (λ (m : ℕ). start_lines f (suc n) k ++ start_line f m) z)
    ∙ sym (append_assoc (start_line f n) (start_lines f (suc n) k) (start_line f (n + suc k)))

-- one line more, from the first on
pub start_lines_next : (f : Files) (n : ℕ) → start_lines f 0 (n + 1) ≡ start_lines f 0 n ++ start_line f n
start_lines_next f n =
    ap (start_lines f 0) (add-one n) ∙ start_lines_more f 0 n ∙ ap (λ (m : ℕ). start_lines f 0 n ++ start_line f m) (zero-add n)
