use Rattle.std.proofs.Common.{subst}
use Rattle.namespace_id.specs.declared.cells.Cell.{Cell}
use Rattle.repair_queue.specs.Closures.{Half, seen}
use Rattle.da_net.proofs.PromiseLemmas.{planned_cases, reached_half, half_reached, reached_halves}
use Rattle.std.proofs.Common.{refl}
use Rattle.da_net.proofs.laws.joint_laws.Goals as goal

pub returns-clause-planned : goal.returns-clause-planned
returns-clause-planned c = planned_cases

pub returns-clause-all : goal.returns-clause-all
returns-clause-all c = λ net pool steps nodes to cells are too planned all cell within.
    reached_half net pool steps nodes to are too cells planned cell (all cell within)

-- the listed cells are those of proved samples
pub returns-clause-closure : goal.returns-clause-closure
returns-clause-closure c = λ header ms cells listed cell. (
  half_reached header ms cells (λ m at proved. (listed m.cell).1 (m, at, proved, refl)) cell,
  reached_halves header ms cells (λ d at. let m = (listed d).0 at in subst (λ (e : Cell). Half header ms e) m.3 (seen m.0 m.1 m.2)) cell,
)
