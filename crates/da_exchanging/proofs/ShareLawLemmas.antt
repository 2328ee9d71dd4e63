-- What import and export of share proofs say of each other.
use Rattle.std.proofs.Common.{◌≡◌, ◌∙◌, ◌&&◌, ℕ, Bool, true, false, List, [], ◌∷◌, Some, refl, sym, ap, subst, arith}
use Rattle.std.proofs.lemmas.Bool.{and_parts}
use Rattle.namespace_id.specs.Cells.{is_width, is_in_square}
use Rattle.namespace_id.proofs.WidthLemmas.{is_width-le}
use Rattle.blob_commit.specs.Proofs.{RootedParts}
use Rattle.frame_payloads.specs.kinds.Rooted.{IsRootedSent}
use Rattle.celestia_pb.specs.ShareProofs.{is_along_row, has_share_proof, share_proof_text, share_proof_value}
use Rattle.celestia_pb.specs.ShareProofLaws.{IsShareProof, ShareProofIsRead, ReadIsShareProof}
use Rattle.da_wire.specs.declared.frames.Frame.{Frame}
use Rattle.da_wire.specs.declared.frames.Frame.TheVariants as frames
use Rattle.da_wire.specs.Spelling.{rooted_kind}
use Rattle.da_wire.specs.Laws.{OnlyIsSpelled, SpelledIsOnly}
use Rattle.da_status.specs.declared.status.Asked.TheVariants.{Form}
use Rattle.da_status.specs.declared.status.Status.TheVariants.{Done}
use Rattle.da_words.specs.declared.forms.ImportForm.TheVariants as from
use Rattle.da_words.specs.declared.forms.ExportForm.TheVariants as to
use Rattle.da_exchanging.specs.ShareProof.{rooted_of, GivesMessage, ProofAnswer}
use Rattle.da_exchanging.specs.Laws.{IsExportedBack, IsImportedBack}
use Rattle.da_exchanging.proofs.LawLemmas.{not_asked, exported_back, imported_back, file_spelled}

-- a root proof that has a message has a frame
sent_of : (p : RootedParts) → IsShareProof p → IsRootedSent p
sent_of p is =
    let shape = and_parts (is_along_row p.message.axis) (is_width p.k && is_in_square p.k p.message.cell) is.has in
    let width = and_parts (is_width p.k) (is_in_square p.k p.message.cell) shape.1 in
    record { k = omega (arith, is_width-le p.k width.0); is = is.is; few_hashes = is.few }

-- a frame of a root proof is that root proof's
rooted_made : (frame : Frame) (p : RootedParts) → rooted_of frame ≡ Some p → frame ≡ frames.Rooted p
rooted_made (frames.Rooted q) p e = cc
rooted_made frame p e = absurd cc

-- bytes that were written are those of a message that there is
given_message : (b : Bool) (p : RootedParts) (bytes : List ℕ) → GivesMessage b p bytes Done → (b ≡ true) × (bytes ≡ share_proof_text p)
given_message true p bytes h = (refl, h.0)
given_message false p bytes h = absurd (not_asked Form h.1)

pub share_proof_exported : SpelledIsOnly → ReadIsShareProof → IsExportedBack from.ShareProof to.ShareProof
share_proof_exported again law = λ bytes text fits made.
    exported_back share_proof_value frames.Rooted (λ x. x) rooted_of (rooted_kind ∷ []) ProofAnswer again bytes text
    (λ x e.
    let is = law bytes x fits e in (
      sent_of x is.0,
      refl,
      refl,
      subst (λ (b : Bool). GivesMessage b x bytes Done) (sym is.0.has) (is.1, refl),
    ))
    made

pub share_proof_imported : OnlyIsSpelled → ShareProofIsRead → IsImportedBack from.ShareProof to.ShareProof
share_proof_imported only law = λ bytes text fits told.
    imported_back share_proof_value frames.Rooted (λ x. x) rooted_of (rooted_kind ∷ []) ProofAnswer bytes text
    (λ y e answer.
    let is = file_spelled rooted_of frames.Rooted rooted_made (λ x. refl) only (rooted_kind ∷ []) text y fits e in
    let given = given_message (has_share_proof y) y bytes answer in
    (y, ap share_proof_value given.1 ∙ law y (record { is = is.0.is; few = is.0.few_hashes; has = given.0 }), is.1))
    told
