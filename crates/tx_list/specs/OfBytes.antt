-- Lists whose parts are bytes, as types keep them.
use Rattle.std.specs.List.{AllByRecursion}
use Rattle.namespace_id.specs.Bytes.{AreBytes}
use Rattle.share_split.specs.Blobs.{IsNamed}
use Rattle.tx_list.specs.Payments.{ListParts, blobs_of}

-- a list of bytes, whose blobs have namespaces and signers of their lengths
pub record IsOfBytes (list : ListParts) : Type 0 where
  pub units : AllByRecursion AreBytes list.units
  pub txs : AllByRecursion (λ payment. AreBytes payment.tx) list.payments
  pub blobs : AllByRecursion IsNamed (blobs_of list.payments)
