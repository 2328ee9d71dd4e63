-- Root proofs along a row, and their messages.
use Rattle.std.proofs.Common.{◌≡◌, Bool, true, false, [], ◌∷◌, List, ℕ, IsSome, refl}
use Rattle.blob_commit.specs.Proofs.{RootedParts}
use Rattle.celestia_pb.specs.ShareProofs.{has_share_proof}
use Rattle.da_wire.specs.declared.frames.Frame.{Frame}
use Rattle.da_wire.specs.declared.frames.Frame.TheVariants.{Rooted}
use Rattle.da_wire.specs.Spelling.{rooted_kind}
use Rattle.da_wire.specs.Reading.{is_among}
use Rattle.da_wire.specs.Writing.{kind_of}
use Rattle.da_status.specs.declared.status.Status.{Status}
use Rattle.da_status.specs.declared.status.Status.TheVariants.{Done, BadRequest}
use Rattle.da_status.specs.declared.status.Asked.TheVariants.{Form}
use Rattle.da_status.specs.Statuses as statuses
use Rattle.da_status.proofs.EndLemmas.{IsAnswer, status_answers}
use Rattle.da_files.specs.Contents.{file_of}
use Rattle.da_files.proofs.FormLemmas.{over_each}
use Rattle.da_exchanging.specs.ShareProof.{rooted_of, rooted_in, GivesMessage, ProofAnswer, ExportShareProofOf}

-- a frame of this kind is a root proof
pub rooted_there : (frame : Frame) → is_among (rooted_kind ∷ []) (kind_of frame) ≡ true → IsSome (rooted_of frame)
rooted_there (Rooted proof) e = refl
rooted_there frame e = absurd cc

-- both are answers
gives_answer : (b : Bool) (proof : RootedParts) (w : List ℕ) (status : Status) → GivesMessage b proof w status → IsAnswer (statuses.status_kind status)
gives_answer true proof w status h = status_answers status Done h.1 tt
gives_answer false proof w status h = status_answers status (BadRequest Form) h.1 tt

pub share_proof_answers : (files : List (List ℕ)) (w : List ℕ) (status : Status) → ExportShareProofOf files w status → IsAnswer (statuses.status_kind status)
share_proof_answers files w status h =
    over_each ProofAnswer (rooted_in (file_of files 0)) w status (IsAnswer (statuses.status_kind status))
    (λ proof is. gives_answer (has_share_proof proof) proof w status is) h
