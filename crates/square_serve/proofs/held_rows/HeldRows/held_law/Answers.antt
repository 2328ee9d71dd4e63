use Rattle.std.proofs.Common.{subst}
use Rattle.square_serve.specs.Rows.{HasHeader}
use Rattle.square_serve.proofs.held_rows.HeldRows.held_law.Goals as goal

pub returns : goal.returns
returns c = record { header = subst HasHeader c.self.view_is c.self.invariant.trees.rows.own }
