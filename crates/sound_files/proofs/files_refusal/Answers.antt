-- `sound_files::files_refusal` meets its contract.
-- Assumes nothing.
use mathlib.Core.Path.{refl, sym}
use Rattle.files.proofs.Case.Laws.{case_in_place}
use Rattle.sound_files.specs.Refusal.Laws.{by_start}
use Rattle.sound_files.proofs.files_refusal.Goals as goal

pub head_of-h-requires : goal.head_of-h-requires
head_of-h-requires c = case_in_place _ (sym c.in_ok-check_case.ensures)

pub returns : goal.returns
returns c = by_start _ _ c.in_ok-check_case.ensures refl c.head_of-h.ensures c.check_start.ensures
