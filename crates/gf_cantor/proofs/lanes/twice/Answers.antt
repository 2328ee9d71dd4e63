use Rattle.std.proofs.Common.{arith}
use Rattle.gf_cantor.proofs.LaneLemmas.{doubled}
use Rattle.gf_cantor.proofs.lanes.twice.Goals as goal

pub returns : goal.returns
returns c = doubled c.args.at c.args.tables.now (omega arith)
