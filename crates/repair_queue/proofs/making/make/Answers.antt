use Rattle.axis_roots.proofs.Grids.NumberLemmas.{position-lt}
use Rattle.std.proofs.Common.{ℕ, ◌*◌, ◌<◌, subst}
use Rattle.axis_roots.specs.Messages.{position}
use Rattle.axis_roots.specs.Proved.{kept_message}
use Rattle.repair_queue.proofs.Lines.MakeLemmas.{made_share}
use Rattle.repair_queue.proofs.making.make.Goals as goal

-- it shows the grid's share
pub returns-clause-share : goal.returns-clause-share
returns-clause-share c =
    made_share c.args.grid.now.k c.args.grid.now.shares c.args.axis c.args.cell c.index-i.result c.position.result c.hold.new.self c.args.room.now.k c.read_along.new.line
    (kept_message c.proved.result).share c.proved.ensures.share c.hold.ensures c.read_along.ensures c.index-i.ensures c.position.ensures
    (subst (λ (k : ℕ). position c.args.axis c.args.cell < 2 * k) c.requires.width (position-lt c.args.header.now.k c.args.axis c.args.cell c.requires.cell))
