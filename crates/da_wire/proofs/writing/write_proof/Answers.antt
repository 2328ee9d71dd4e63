use Rattle.std.proofs.Common.{◌≡◌, ◌∙◌, ◌++◌, ◌∷◌, [], List, ℕ, ap}
use Rattle.da_wire.specs.declared.frames.Frame.TheVariants as FrameOf
use Rattle.da_wire.specs.Spelling.{fraud_kind, frame}
use Rattle.frame_payloads.specs.kinds.Fraud.{is_unwritten, fraud_payload}
use Rattle.da_wire.proofs.FrameLemmas.{frame_appended, written_back}
use Rattle.da_wire.proofs.kinds.Form.{written_spelled}
use Rattle.da_wire.proofs.writing.write_proof.Goals as goal

pub returns-clause-read_back : goal.returns-clause-read_back
returns-clause-read_back c =
    let old : List ℕ = c.args.out.now.items in
    let payload : List ℕ = fraud_payload c.args.proof.now.claim in
    let first : c.append.new.out.items ≡ old ++ fraud_kind ∷ [] =
    c.append.ensures.appended ∙ ap (λ (l : List ℕ). l ++ fraud_kind ∷ []) c.reserve.ensures.items in
    let all = frame_appended old c.append.new.out.items c.append-2.new.out.items c.put_proof.new.out.items fraud_kind c.proof_size-size.result payload first
    (c.append-2.ensures.appended ∙ ap (λ (l : List ℕ). c.append.new.out.items ++ l) c.to_be_bytes.ensures) c.put_proof.ensures.appended c.proof_size-size.ensures.0 in
    written_back (FrameOf.Fraud c.args.proof.now.claim) old c.put_proof.new.out.items c.proof_law.ensures.claim
    (frame fraud_kind payload, written_spelled fraud_kind (is_unwritten c.args.proof.now.claim) payload c.proof_size-size.ensures.1, all)
