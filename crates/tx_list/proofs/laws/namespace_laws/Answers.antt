use Rattle.tx_list.proofs.NamespaceLemmas.{list_namespaces}
use Rattle.tx_list.proofs.laws.namespace_laws.Goals as goal

pub returns : goal.returns
returns c = record {
  order = list_namespaces c.share_laws.ensures.blobs c.share_laws.ensures.units c.order_laws.ensures.stable;
}
