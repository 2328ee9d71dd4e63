use Rattle.one_answer.proofs.NetLemmas.{same_missed, some_kind}
use Rattle.one_answer.proofs.nets.missing_twice.Goals as goal

-- the node is of one kind
pub returns : goal.returns
returns g c = record {
  state =
      let kind = some_kind c.args.net.now.nodes c.args.node c.requires.node in
      same_missed c.args.net.now.header kind.0 _ _ _ (c.missing.ensures.missed kind.0 kind.1) (c.missing-2.ensures.missed kind.0 kind.1);
}
