use Rattle.std.proofs.Common.{◌≡◌, ◌∙◌, ◌-◌, ℕ, List, [], ◌∷◌, ◌++◌, length, ap, arith}
use Rattle.square_serve.specs.Serving.{answer_for}
use Rattle.frame_payloads.specs.kinds.Names.{names_payload}
use Rattle.da_wire.specs.Spelling.{names_kind}
use Rattle.da_talk.proofs.NamesLemmas.{names_short, sized_frame}
use Rattle.da_talk.proofs.names.put_names.Goals as goal

-- the length has four bytes
pub put_size-requires-clause-few : goal.put_size-requires-clause-few
put_size-requires-clause-few c =
    omega (arith, names_short c.args.held.now.k c.requires.width, c.put_payload.ensures.len, c.append.ensures.len, ap length c.requires.empty)

pub returns-clause-written : goal.returns-clause-written
returns-clause-written c =
    let payload : List ℕ = names_payload c.args.name.now (answer_for c.args.held.now c.args.name.now) in
    let head : c.append.new.out.items ≡ 78 ∷ 0 ∷ 0 ∷ 0 ∷ 0 ∷ [] = c.append.ensures.appended ∙ ap (λ (l : List ℕ). l ++ 78 ∷ 0 ∷ 0 ∷ 0 ∷ 0 ∷ []) c.requires.empty in
    let all : c.put_payload.new.text.items ≡ 78 ∷ 0 ∷ 0 ∷ 0 ∷ 0 ∷ payload = c.put_payload.ensures.appended ∙ ap (λ (l : List ℕ). l ++ payload) head in
    c.put_size.ensures.stated ∙ sized_frame names_kind (length c.put_payload.new.text.items - 5) payload c.put_payload.new.text.items all (omega (arith, ap length all))
