-- The refusal by the case file, the start file and the number of its starts, one test after the other.
-- Assumes nothing.
pub mod Laws
use Rattle.std.specs.Prelude.{ℕ, true, false, ◌≡◌, List, length, eqb, ltb}
use Rattle.files.specs.Case.{case_refusal}
use Rattle.files.specs.Start.{start_refusal, starts_of}
use Rattle.start_file.specs.Checks.{files_of}

-- the first refusal, or the second where the first is none
unfoldable pub first_of : ℕ → ℕ → ℕ
first_of n m = elim (eqb n 0) [ true ↦ m | false ↦ n ]

-- the refusal by the case file, then by the start file
unfoldable pub files_refusal : List ℕ → List ℕ → ℕ
files_refusal case start = first_of (case_refusal case) (start_refusal (files_of case start))

-- neither file is refused
pub record FilesSound (case start : List ℕ) : Type 0 where
  pub sound_case : case_refusal case ≡ 0
  pub sound_start : start_refusal (files_of case start) ≡ 0

-- one refusal where k is below the number of starts, another where it is not; 0 is none
unfoldable pub starts_refusal : List ℕ → ℕ → ℕ → ℕ → ℕ
starts_refusal start k below past = elim (ltb k (length (starts_of start))) [ true ↦ below | false ↦ past ]

-- the refusal by the two files, then by the number of starts
unfoldable pub refused_before : List ℕ → List ℕ → ℕ → ℕ → ℕ → ℕ
refused_before case start k below past = first_of (files_refusal case start) (starts_refusal start k below past)

-- the refusal by the two files, then 7, "the start named is not in the file"
abbrev pub number_refusal : List ℕ → List ℕ → ℕ → ℕ
number_refusal case start number = refused_before case start number 0 7

-- the refusal by the two files, then 8: fewer answer words than starts
abbrev pub answers_refusal : List ℕ → List ℕ → ℕ → ℕ
answers_refusal case start words = refused_before case start words 8 0
