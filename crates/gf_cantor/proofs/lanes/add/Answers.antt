use Rattle.std.proofs.Common.{◌≡◌, ◌+◌, ◌-◌, ◌∙◌, List, ℕ, length, get_or, ap, arith, bit_xor}
use Rattle.std.proofs.lemmas.Simd.{length-zip2, get_or-zip2, get_or-put_chunk_at, get_or-put_chunk_above}
use Rattle.std.specs.Simd.Lanes.{zip2}
use Rattle.gf_cantor.proofs.LaneLemmas.{stored}
use Rattle.gf_cantor.proofs.lanes.add.Goals as goal

-- the lanes of the sum are those of both vectors
pub returns-clause-sums : goal.returns-clause-sums
returns-clause-sums c k l =
    let v : List ℕ = zip2 bit_xor c.load.result c.args.lanes in
    let loaded_long : length c.load.result ≡ 32 = omega arith in
    let lanes_long : length c.args.lanes ≡ 32 = c.fits-lanes.0 in
    let long : length v ≡ length c.load.result = length-zip2 bit_xor c.load.result c.args.lanes (omega arith) in
    ap (λ xs. get_or xs (c.args.at + k) 0) (stored c.args.at (512 - c.args.at) c.args.bytes.now v (omega arith) (omega arith))
    ∙ get_or-put_chunk_at c.args.at c.args.bytes.now v k 0 (omega arith) (omega arith)
    ∙ get_or-zip2 bit_xor c.load.result c.args.lanes k 0 0 0 (omega arith) (omega arith)
    ∙ ap (λ x. bit_xor x (get_or c.args.lanes k 0)) (c.load.ensures k l)

-- what lies behind the lanes stays
pub returns-clause-behind : goal.returns-clause-behind
returns-clause-behind c k l =
    let v : List ℕ = zip2 bit_xor c.load.result c.args.lanes in
    let loaded_long : length c.load.result ≡ 32 = omega arith in
    let lanes_long : length c.args.lanes ≡ 32 = c.fits-lanes.0 in
    let long : length v ≡ length c.load.result = length-zip2 bit_xor c.load.result c.args.lanes (omega arith) in
    ap (λ xs. get_or xs k 0) (stored c.args.at (512 - c.args.at) c.args.bytes.now v (omega arith) (omega arith))
    ∙ get_or-put_chunk_above c.args.at c.args.bytes.now v k 0 (omega arith)
