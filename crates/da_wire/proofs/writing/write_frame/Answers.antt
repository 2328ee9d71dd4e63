use Rattle.std.proofs.Common.{◌≡◌, ◌∙◌, ◌++◌, ◌∷◌, [], List, ℕ, ap}
use Rattle.da_wire.specs.Spelling.{frame}
use Rattle.da_wire.specs.Writing.{kind_of, payload_of}
use Rattle.da_wire.proofs.FrameLemmas.{frame_appended, written_back}
use Rattle.da_wire.proofs.writing.write_frame.Goals as goal

pub returns-clause-read_back : goal.returns-clause-read_back
returns-clause-read_back c =
    let old : List ℕ = c.args.out.now.items in
    let kind : ℕ = kind_of c.args.frame.now in
    let payload : List ℕ = payload_of c.args.frame.now in
    let first : c.append.new.out.items ≡ old ++ kind ∷ [] =
    c.append.ensures.appended ∙ ap (λ (l : List ℕ). l ++ c.kind_of.result ∷ []) c.reserve.ensures.items ∙ ap (λ (n : ℕ). old ++ n ∷ []) c.kind_of.ensures in
    let all = frame_appended old c.append.new.out.items c.append-2.new.out.items c.put_payload.new.out.items kind c.in-Some.size payload first
    (c.append-2.ensures.appended ∙ ap (λ (l : List ℕ). c.append.new.out.items ++ l) c.to_be_bytes.ensures) c.put_payload.ensures.appended c.in-Some.ensures.0 in
    written_back c.args.frame.now old c.put_payload.new.out.items c.frame_law.ensures (frame kind payload, c.in-Some.ensures.1, all)
