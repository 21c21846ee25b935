-- What brackets answers, by its refusal.
-- Assumes nothing.
use Rattle.std.specs.Prelude.{ℕ, ◌≤◌, ◌<◌, ◌≡◌, length}
use mathlib.Core.List.{[]}
use Rattle.std.proofs.Math.Dec.{ltb}
use borrow.Author.Tests.{eq-eqb, ne_eqb, lt-ltb, le-ltb}
use Rattle.words.specs.Lists.{zeros}
use Rattle.replies.specs.declared.Brackets.TheVariants.{Refused, Printed}
use Rattle.files.specs.Bytes.{first_hit}
use Rattle.files.specs.Bytes.Laws.{first_hit_fails, first_hit_passes}
use Rattle.services.specs.Memory.{padded}
use Rattle.services.specs.Brackets.{BracketsInput, root_text, length_tests, brackets_answer}

module _ (x : BracketsInput) where
  pub answer_refused : (n : ℕ) → (n ≡ 0 → ⊥) → brackets_answer x n ≡ record { reply = Refused n; text = zeros x.text }
  unfolding brackets_answer
  answer_refused n h = rw (brackets_answer, ne_eqb n 0 h)

  pub answer_printed : (n : ℕ) → n ≡ 0 → brackets_answer x n ≡ record { reply = Printed (length (root_text x)); text = padded x.text (root_text x) }
  unfolding brackets_answer
  answer_printed n h = rw (brackets_answer, eq-eqb n 0 h)

  pub length_refused : x.text < length (root_text x) → first_hit length_tests x ≡ 13
  unfolding length_tests
  length_refused h = first_hit_fails _ [] x (lt-ltb _ _ h)

  pub length_passed : length (root_text x) ≤ x.text → first_hit length_tests x ≡ 0
  unfolding length_tests first_hit
  length_passed h =
      first_hit_passes (record { fails = λ (y : BracketsInput). ltb y.text (length (root_text y)); refusal = 13 }) [] x (le-ltb _ _ h)
