-- The blobs of a list of transactions that have a namespace (docs/RULES.md, "A block of the network").
use Rattle.std.specs.Prelude.{List}
use Rattle.std.specs.List.{filter, AllByRecursion}
use Rattle.namespace_id.specs.declared.namespaces.Namespace as names
use Rattle.share_split.specs.Blobs.{NamedBytes}
use Rattle.share_split.specs.Joined.{IsBlob}
use Rattle.square_layout.specs.Layout.{has_name}
use Rattle.tx_list.specs.Payments.{ListParts, blobs_of}

-- the blobs of a list are blobs as shares are read
abbrev pub HasBlobs : ListParts → Type 0
HasBlobs list = AllByRecursion IsBlob (blobs_of list.payments)

-- those that have a namespace, payment after payment, each with its signer
abbrev pub listed_blobs : ListParts → names.Namespace → List NamedBytes
listed_blobs list name = filter (has_name name) (blobs_of list.payments)
