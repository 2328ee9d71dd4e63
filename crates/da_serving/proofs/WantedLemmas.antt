-- What the command wanted answers.
use Rattle.std.proofs.Common.{◌≡◌, ℕ, List, ap}
use Rattle.namespace_id.specs.declared.cells.Axis.{Axis}
use Rattle.da_status.specs.declared.status.Status.{Status}
use Rattle.da_status.specs.Statuses.{status_kind, output}
use Rattle.da_serving.specs.Wanted.{missing_file, missing_in, Wants, WantedOf}
use Rattle.da_files.proofs.FormLemmas.{over_each}

-- ---- the file

-- what wanted answers comes with a complete output
pub wanted_last : (axis : Axis) (files : List (List ℕ)) (w : List ℕ) (status : Status) → WantedOf axis files w status → status_kind status ≡ output
wanted_last axis files w status h =
    over_each (Wants axis) (missing_in (missing_file files)) w status (status_kind status ≡ output) (λ cells wants. ap status_kind wants.1) h
