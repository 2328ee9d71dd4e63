-- What the command commit answers.
use Rattle.std.proofs.Common.{◌≡◌, ℕ, ◌≤◌, List, [], ◌∷◌, length, None, arith}
use Rattle.std.specs.List.{AllByRecursion}
use Rattle.nmt_proofs.proofs.Parts.ListLemmas.{each-both, each-split}
use Rattle.share_split.specs.Blobs.{NamedBytes}
use Rattle.square_layout.specs.Blocks.{BlockParts}
use Rattle.square_layout.specs.Layout.{share_count_of}
use Rattle.square_layout.specs.Plans.{blobs_bound}
use Rattle.square_layout.specs.Refusals.{max_shares, layout_refusal}
use Rattle.square_layout.proofs.BlobLemmas.{laid_few}
use Rattle.square_layout.proofs.BlobOrderLemmas.{All-from_order}
use Rattle.tx_list.specs.Payments.{PaymentParts, ListParts, IsPayment, blobs_of}
use Rattle.tx_list.specs.Refusals.{list_size_refusal}
use Rattle.tx_list.proofs.ListLemmas.{payments_some}
use Rattle.da_status.specs.declared.status.Status.{Status}
use Rattle.da_status.specs.declared.status.Status.TheVariants.{BadBlock, BadList}
use Rattle.da_status.specs.Statuses.{status_kind}
use Rattle.da_files.specs.declared.frames.BlockOrList.{BlockOrList}
use Rattle.da_files.specs.declared.frames.BlockOrList.TheVariants.{Block, Transactions}
use Rattle.da_files.specs.Frames.{block_or_list_in}
use Rattle.da_serving.specs.Build.{block_file, list_refusal}
use Rattle.da_serving.specs.Commit.{commitment_lines, list_lines, CommitsEither, CommitOf}
use Rattle.da_status.proofs.EndLemmas.{IsAnswer}
use Rattle.da_files.proofs.FormLemmas.{over_each}
use Rattle.da_serving.proofs.BuildLemmas.{written_answers, list_few}

-- ---- answers

-- what is answered to either is an answer
either_answers : (block : BlockOrList) (w : List ℕ) (status : Status) → CommitsEither block w status → IsAnswer (status_kind status)
either_answers (Block block) w status h =
    written_answers BadBlock (λ why. tt) (λ v. v ≡ commitment_lines block.blobs) (layout_refusal block) w status h
either_answers (Transactions transactions) w status h =
    written_answers BadList (λ why. tt) (λ v. v ≡ list_lines transactions) (list_refusal transactions) w status h

-- what commit answers to its files is an answer
pub commit_answers : (files : List (List ℕ)) (w : List ℕ) (status : Status) → CommitOf files w status → IsAnswer (status_kind status)
commit_answers files w status h =
    over_each CommitsEither (block_or_list_in (block_file files)) w status (IsAnswer (status_kind status)) (λ block. either_answers block w status) h

-- ---- blobs of what isn't refused

-- a blob has a byte
abbrev HasByte : NamedBytes → Type 0
HasByte blob = 1 ≤ length blob.bytes

-- it takes no more shares than the greatest square has
abbrev IsShort : NamedBytes → Type 0
IsShort blob = share_count_of blob ≤ max_shares

-- both
abbrev pub IsLaid : NamedBytes → Type 0
IsLaid blob = HasByte blob × IsShort blob

-- such are the blobs of a block that isn't refused
pub laid_blobs : (block : BlockParts) → layout_refusal block ≡ None → AllByRecursion IsLaid block.blobs
laid_blobs block fine =
    let laid = laid_few block fine in
    each-both HasByte IsShort block.blobs laid.0 (All-from_order IsShort block.blobs laid.1)

-- blobs take no more shares than they may take together
bound_each : (blobs : List NamedBytes) → blobs_bound blobs ≤ max_shares → AllByRecursion IsShort blobs
unfolding blobs_bound
bound_each [] h = tt
bound_each (blob ∷ blobs) h = (omega (arith, h), bound_each blobs (omega (arith, h)))

-- the blobs of each payment are such where all are
laid_each : (payments : List PaymentParts) → AllByRecursion IsLaid (blobs_of payments)
    → AllByRecursion (λ (payment : PaymentParts). AllByRecursion IsLaid payment.blobs) payments
laid_each [] h = tt
laid_each (payment ∷ payments) h =
    let parts = each-split IsLaid payment.blobs (blobs_of payments) h in (parts.0, laid_each payments parts.1)

-- such are those of a list that isn't refused for its size
pub laid_payments : (list : ListParts) → AllByRecursion IsPayment list.payments → list_size_refusal list ≡ None
    → AllByRecursion (λ (payment : PaymentParts). AllByRecursion IsLaid payment.blobs) list.payments
laid_payments list are fine =
    let blobs : List NamedBytes = blobs_of list.payments in
    laid_each list.payments
    (each-both HasByte IsShort blobs (payments_some list.payments are) (bound_each blobs (omega (arith, list_few list fine))))
