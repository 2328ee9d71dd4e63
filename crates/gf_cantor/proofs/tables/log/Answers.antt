use Rattle.std.proofs.Common.{arith}
use Rattle.gf_cantor.proofs.ByteTables.{log_lt}
use Rattle.gf_cantor.proofs.tables.log.Goals as goal

-- by computing: a label but 0 has its logarithm below 255
pub returns-clause-bound : goal.returns-clause-bound
returns-clause-bound c = log_lt c.args.a c.requires (omega arith)
