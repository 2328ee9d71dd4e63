use Rattle.std.proofs.Common.{refl}
use Rattle.sampling.proofs.LimitLemmas.{drawn_most}
use Rattle.sampling.proofs.draws.draw_laws.Goals as goal

pub returns-clause-limit : goal.returns-clause-limit
returns-clause-limit c = drawn_most

pub returns-clause-widths : goal.returns-clause-widths
returns-clause-widths c = refl
