-- Why a list of transactions can't be read, and the first check that fails (docs/RULES.md, "A block of the network").
use Rattle.std.specs.Prelude.{ℕ, suc, ◌-◌, ◌==◌, ◌&&◌, ◌||◌, not, Bool, false, List, [], ◌∷◌, length, Option, Some, None, option_map, if◌then◌else◌}
use Rattle.std.specs.Option.{option_or}
use Rattle.namespace_id.specs.declared.namespaces.NsError.{NsError}
use Rattle.namespace_id.specs.declared.namespaces.NsError.TheVariants.{Length, Version}
use Rattle.namespace_id.specs.Names.{namespace_refusal}
use Rattle.namespace_id.specs.Sizes.{namespace_size}
use Rattle.share_split.specs.Blobs.{signer_size}
use Rattle.tx_list.specs.declared.refusals.ListError.{ListError}
use Rattle.tx_list.specs.declared.refusals.ListError.TheVariants.{Behind, NoBlobs, BadBlob, BadVersion, NoBytes}
use Rattle.tx_list.specs.Reads.{StatedBlob, stated, payment_entries, is_payment}

-- ---- a blob

-- why a version and an id are no namespace of a blob: the id's length comes first
abbrev pub name_refusal : ℕ → List ℕ → Option NsError
name_refusal version id =
    if not (length id == namespace_size - 1) then Some Length else
    (if not (version == 0) then Some Version else namespace_refusal (0 ∷ id))

-- whether a share version goes with a signer: 0 with none, and 1 with one of 20 bytes
abbrev pub has_version : ℕ → List ℕ → Bool
has_version version signer = (version == 0 && length signer == 0) || (version == 1 && length signer == signer_size)

-- why blob j of transaction i isn't one
abbrev pub blob_refusal : ℕ → ℕ → StatedBlob → Option ListError
blob_refusal i j blob =
    option_or (option_map (λ why. BadBlob i j why) (name_refusal blob.version blob.id))
    (if not (has_version blob.share_version blob.signer) then Some (BadVersion i j) else
    (if length blob.bytes == 0 then Some (NoBytes i j) else None))

-- ---- transactions

-- the first blob, from blob j on, that isn't one, of those that transaction i carries
unfoldable pub blobs_refusal : ℕ → ℕ → List (List ℕ) → Option ListError
blobs_refusal i j [] = None
blobs_refusal i j (entry ∷ entries) = option_or (blob_refusal i j (stated entry)) (blobs_refusal i (suc j) entries)

-- why payment i isn't one, which carries these blobs
abbrev pub payment_refusal : ℕ → List (List ℕ) → Option ListError
payment_refusal i entries = if length entries == 0 then Some (NoBlobs i) else blobs_refusal i 0 entries

-- why transaction i isn't taken, where a payment may have come before it
abbrev pub transaction_refusal : ℕ → Bool → List ℕ → Option ListError
transaction_refusal i paid bytes =
    if is_payment bytes then payment_refusal i (payment_entries bytes) else
    (if paid then Some (Behind i) else None)

-- the first of transactions, from transaction i on, that isn't taken
unfoldable pub transactions_refusal : ℕ → Bool → List (List ℕ) → Option ListError
transactions_refusal i paid [] = None
transactions_refusal i paid (one ∷ others) =
    option_or (transaction_refusal i paid one) (transactions_refusal (suc i) (paid || is_payment one) others)

-- why a list can't be read
abbrev pub read_refusal : List (List ℕ) → Option ListError
read_refusal transactions = transactions_refusal 0 false transactions
