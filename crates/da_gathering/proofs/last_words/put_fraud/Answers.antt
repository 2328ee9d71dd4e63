use Rattle.std.proofs.Common.{◌≡◌, ◌∙◌, length, ap, arith, vec_len}
use Rattle.da_gathering.proofs.WordLemmas.{claim_few}
use Rattle.da_gathering.proofs.last_words.put_fraud.Goals as goal

-- there is room for it
pub put_proof-requires : goal.put_proof-requires
put_proof-requires c =
    let none : vec_len c.args.text.now ≡ 0 = c.args.text.now.ok.0 ∙ ap length c.requires.empty in
    let few = claim_few c.args.proof.now.claim c.proof_law.ensures.claim c.proof_law.ensures.plain in
    record { capacity = omega (arith, none, c.put_head.ensures.len, c.put_head.ensures.capacity, c.requires.capacity, few) }
