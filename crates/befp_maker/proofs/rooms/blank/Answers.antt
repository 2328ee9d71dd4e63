use Rattle.std.proofs.Common.{refl}
use Rattle.axis_roots.specs.Lines.{blank}
use Rattle.befp_maker.proofs.rooms.blank.Goals as goal

pub returns : goal.returns
unfolding blank
returns c = refl
