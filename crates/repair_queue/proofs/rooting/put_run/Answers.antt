use Rattle.std.proofs.Common.{◌-◌, arith}
use Rattle.namespace_id.specs.Names.{parity}
use Rattle.axis_roots.specs.Lines.{blank}
use Rattle.repair_queue.proofs.Lines.DigestLemmas.{run_digests}
use Rattle.repair_queue.proofs.rooting.put_run.Goals as goal

-- the leaves of the run follow those before
pub returns-clause-leaves : goal.returns-clause-leaves
returns-clause-leaves c =
    run_digests c.args.names.now c.args.line.now c.args.digests.now c.put_leaves.new.leaves c.args.from c.args.end (c.args.end - c.args.from) parity blank
    c.requires.names c.requires.line (omega arith) c.requires.end c.put_leaves.ensures
