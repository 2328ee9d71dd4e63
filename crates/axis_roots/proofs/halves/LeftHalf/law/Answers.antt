use Rattle.std.proofs.Common.{List, IsTrue, subst}
use Rattle.namespace_id.specs.declared.cells.Cell.{Cell}
use Rattle.namespace_id.specs.declared.cells.Axis.{Axis}
use Rattle.namespace_id.specs.declared.shares.Share.{Share}
use Rattle.namespace_id.specs.Cells.{is_in_square}
use Rattle.axis_roots.specs.Openings.{IsProved}
use Rattle.axis_roots.specs.Grids.{Extends}
use Rattle.axis_roots.specs.Trees.{message_at}
use Rattle.axis_roots.specs.Halves.{HeadedSquare}
use Rattle.axis_roots.proofs.Messages.HalfLemmas.{own_proved}
use Rattle.axis_roots.proofs.halves.LeftHalf.law.Goals as goal

pub returns-clause-proved : goal.returns-clause-proved
returns-clause-proved c =
    subst (λ (h : HeadedSquare). (grid : List Share) (cell : Cell) (axis : Axis) → Extends h.square.k h.square.shares grid
    → IsTrue (is_in_square h.square.k cell) → IsProved h.header (message_at h.square.k grid cell axis)) c.self.view_is
    (λ grid cell axis extends within. own_proved c.self.inside.header c.self.inside.square grid cell axis c.self.invariant.own extends within)
