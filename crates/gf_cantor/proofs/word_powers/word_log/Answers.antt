use Rattle.gf_cantor.proofs.WordPowers.{log-lt, log-power}
use Rattle.gf_cantor.proofs.word_powers.word_log.Goals as goal

-- by computing
pub returns-clause-bound : goal.returns-clause-bound
returns-clause-bound c = log-lt c.args.a c.requires.least c.requires.position

pub returns-clause-power : goal.returns-clause-power
returns-clause-power c = log-power c.args.a c.requires.least c.requires.position
