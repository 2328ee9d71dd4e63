use Rattle.std.proofs.Common.{arith}
use Rattle.tx_list.proofs.MeasureLemmas.{one_known}
use Rattle.tx_list.proofs.measuring.measure_at.Goals as goal

pub returns-clause-known : goal.returns-clause-known
returns-clause-known c =
    one_known c.args.shares.now c.args.known.now c.args.place c.in_ok-found.found c.requires.known (omega (arith, c.if-at-known.false)) c.in_ok-found.ensures
