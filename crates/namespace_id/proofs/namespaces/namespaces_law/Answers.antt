use Rattle.std.proofs.Common.{[], arith}
use Rattle.std.proofs.lemmas.List.Elements.{All-more}
use Rattle.namespace_id.specs.Names.{IsNamespace}
use Rattle.namespace_id.proofs.ElementLemmas.{all_passed}
use Rattle.namespace_id.proofs.namespaces.namespaces_law.Goals as goal

pub loop-name-preserved : goal.loop-name-preserved
loop-name-preserved c =
    All-more IsNamespace c.args.names.now c.loop-name.name-index (record { 0 = [] }) (omega arith) c.loop-name.invariant c.namespace_law.ensures

pub returns : goal.returns
returns c = all_passed IsNamespace c.args.names.now c.loop-name.name-index (omega arith) c.loop-name.invariant
