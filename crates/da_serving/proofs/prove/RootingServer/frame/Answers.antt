use Rattle.std.proofs.Common.{◌∙◌, sym, ap, subst}
use Rattle.data_header.specs.Headers.{Roots}
use Rattle.data_header.specs.DataRoots.{data_root_of}
use Rattle.axis_roots.specs.Openings.{IsProved}
use Rattle.blob_commit.specs.Proofs.{RootedHolds}
use Rattle.da_serving.proofs.ProveLemmas.{is_root_proof}
use Rattle.da_serving.proofs.prove.RootingServer.frame.Goals as goal

-- the square has the cell
pub sample-message-requires : goal.sample-message-requires
sample-message-requires c = (c.requires.0, c.requires.1, c.requires.2.0, c.requires.3)

-- the sample is proved under the header of the tree
pub root_proof-requires : goal.root_proof-requires
root_proof-requires c =
    subst (λ (h : Roots). IsProved h c.sample-message.result) (sym c.requires.2.1) (c.sample-message.ensures.sample c.requires.0 c.requires.1 c.requires.2.0).proved

-- its root proof is one of the square
pub returns-clause-allowed : goal.returns-clause-allowed
returns-clause-allowed c = λ square header is.
    let proof = c.root_proof.result in (
      proof,
      is_root_proof header square c.args.asked c.sample-message.result proof is.0.0 (c.sample-message.ensures.sample square header is.0)
          (c.root_proof.ensures.width ∙ ap (λ (h : Roots). h.k) is.1) c.root_proof.ensures.message
          (subst (λ (h : Roots). RootedHolds (data_root_of h) proof) is.1 c.root_proof.ensures.holds),
      c.rooted_frame.ensures.value,
    )
