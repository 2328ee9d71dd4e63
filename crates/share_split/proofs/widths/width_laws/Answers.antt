use Rattle.share_split.proofs.Width.Laws.{width_is_lesser, least_power, least_root}
use Rattle.share_split.proofs.widths.width_laws.Goals as goal

pub returns-clause-formula : goal.returns-clause-formula
returns-clause-formula c = width_is_lesser

pub returns-clause-powers : goal.returns-clause-powers
returns-clause-powers c = least_power

pub returns-clause-roots : goal.returns-clause-roots
returns-clause-roots c = least_root
