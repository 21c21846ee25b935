-- A text with zeros behind it is the text of the files that gave it, and its length counts bytes of the lent ones.
-- Assumes nothing.
use Rattle.std.specs.Prelude.{ℕ, ◌≤◌, ◌≡◌, List, length}
use Rattle.std.proofs.Common.{ap, sym, ◌∙◌, subst}
use Rattle.files.specs.Start.{Files}
use Rattle.services.specs.Memory.{padded}
use Rattle.services.specs.Memory.Laws.{length_padded}
use Rattle.text.specs.Laws.Printed.{printed_counts}
use Rattle.std.specs.Counts.{IsPrefixLen}
use Rattle.printing.specs.Texts.{TextRead}

pub text_read : (text_of : Files → List ℕ) (n : ℕ) (files : Files) {r : ℕ} {lent : List ℕ} → lent ≡ padded n (text_of files) → r ≡ length (text_of files) → r ≤ n
    → TextRead text_of r lent × IsPrefixLen r lent
text_read text_of n files {r} {lent} is e h =
    let short : length (text_of files) ≤ n = subst (λ (k : ℕ). k ≤ n) e h in
    let l : length lent ≡ n = ap length is ∙ length_padded n (text_of files) short in (
      record { files = files; long = e; text_is = is ∙ ap (λ (k : ℕ). padded k (text_of files)) (sym l) },
      printed_counts n (text_of files) is e,
    )
