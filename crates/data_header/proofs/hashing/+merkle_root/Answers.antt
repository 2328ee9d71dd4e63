use Rattle.std.proofs.Common.{◌≡◌, length, arith}
use Rattle.data_header.proofs.RootLemmas.{are_halves, merkle_root-halves}
use Rattle.data_header.proofs.hashing.+merkle_root.Goals as goal

-- the root of many digests is the hash over the roots of both halves
pub returns : goal.returns
returns t c = λ depth e.
    let several : length c.args.digests.now ≡ 1 → ⊥ = λ (one : length c.args.digests.now ≡ 1). omega (arith, one, c.if-digests-le-FEW.false) in
    let halves = are_halves c.args.digests.now c.split_at.result.0.now c.split_at.result.1.now several
    c.split_at.ensures.front c.split_at.ensures.back c.split_at.ensures.front_len c.split_at.ensures.back_len in
    merkle_root-halves c.args.digests.now c.split_at.result.0.now c.split_at.result.1.now depth
    c.merkle_root.result c.merkle_root-2.result c.inner_hash.result halves e c.merkle_root.ensures c.merkle_root-2.ensures c.inner_hash.ensures
