use Rattle.std.proofs.Common.{◌-◌, arith}
use Rattle.gf_cantor.proofs.LaneLemmas.{loaded}
use Rattle.gf_cantor.proofs.lanes.load.Goals as goal

pub returns : goal.returns
returns c k l = loaded c.args.at (512 - c.args.at) c.args.bytes.now k (omega arith) l (omega arith)
