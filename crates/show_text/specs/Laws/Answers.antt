-- The text by the answer of brackets.
-- Assumes nothing.
use Rattle.std.specs.Prelude.{ℕ, ◌+◌, ◌≤◌, ◌≡◌, refl, List, ◌++◌, take}
use Rattle.std.proofs.Math.Path.{ap, sym}
use Rattle.std.proofs.Common.{subst, arith}
use Rattle.replies.specs.declared.Brackets.{Brackets}
use Rattle.replies.specs.declared.Brackets.TheVariants.{Refused, Printed}
use Rattle.replies.specs.Numbers.{brackets_length}
use Rattle.services.specs.Listing.{ascii, refused_text}
use Rattle.services.specs.Brackets.{BracketsInput, BracketsDone, brackets_service, show_input, shown, show_text}
use Rattle.demands.specs.Brackets.{PrintsExactly}
use Rattle.start_file.specs.Checks.{files_of}
use Rattle.brackets.specs.Service.{brackets_input, brackets_done}

-- ---- one answer

module _ {reply : Brackets} where
  pub printed_fits : {k n : ℕ} → reply ≡ Printed k → brackets_length reply ≤ n → k ≤ n
  printed_fits {k} {n} e h = subst (λ (r : Brackets). brackets_length r ≤ n) e h

  pub shown_refused : (bytes : List ℕ) {n : ℕ} → reply ≡ Refused n → refused_text n ≡ shown reply bytes
  unfolding shown
  shown_refused bytes e = sym (ap (λ (r : Brackets). shown r bytes) e)

  pub shown_printed : (bytes : List ℕ) {k : ℕ} → reply ≡ Printed k → take k bytes ++ ascii "\n" ≡ shown reply bytes
  unfolding shown
  shown_printed bytes e = sym (ap (λ (r : Brackets). shown r bytes) e)

-- ---- the answer of the service

-- a text that is printed fits the bytes lent
answer_fits : (x : BracketsInput) (reply : Brackets) → PrintsExactly x reply → brackets_length reply ≤ x.text
answer_fits x (Refused n) e = omega arith
answer_fits x (Printed k) e = ((e.printed k).0 refl).2

-- the text that is written has room for it, and for a refusal
pub shown_ready : (x : BracketsInput) (reply : Brackets) {bytes text : ℕ} → PrintsExactly x reply → bytes ≡ x.text → x.text ≡ 65536 → text ≡ 65537
    → (brackets_length reply ≤ bytes) × (bytes + 1 ≤ text) × (29 ≤ text)
shown_ready x reply e b l t = let f = answer_fits x reply e in (omega arith, omega arith, omega arith)

module _ (case start : List ℕ) (number : ℕ) {reply : Brackets} {bytes : List ℕ}
    (is : brackets_done reply bytes ≡ brackets_service (brackets_input case start number 65536)) where
  pub shown_is : shown reply bytes ≡ show_text (files_of case start) number
  unfolding show_text show_input
  shown_is = ap (λ (d : BracketsDone). shown d.reply d.text) is
