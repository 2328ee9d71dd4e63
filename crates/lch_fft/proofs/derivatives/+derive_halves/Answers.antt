use Rattle.std.proofs.Common.{◌≡◌, arith, ◌/◌, ◌+◌, length}
use Rattle.lch_fft.proofs.CountLemmas.{count-half, not_one}
use Rattle.lch_fft.proofs.DeriveLemmas.{slopes-halves, slopes-cleared}
use Rattle.lch_fft.proofs.derivatives.+derive_halves.Goals as goal

-- the derivatives of both halves, and the high half added, are that of the whole
pub returns-else-half-eq0 : goal.returns-else-half-eq0
returns-else-half-eq0 g t c = λ b h.
    let half = count-half (length c.args.shares.now) c.requires (not_one (length c.args.shares.now) (omega arith)) in
    let same_sum : length c.args.shares.now / 2 + length c.args.shares.now / 2 ≡ length c.args.shares.now = half.2 in
    slopes-halves g.M.Factor.reading g.met.M.Factor.laws c.args.shares.now c.split_at_mut-low.result.0.now c.split_at_mut-low.result.1.now
    c.derive_halves.new.shares c.add_shares.new.low c.derive_halves-else-half-eq0.new.shares
    b c.requires (omega arith)
    c.split_at_mut-low.ensures.front c.split_at_mut-low.ensures.back
    (omega arith) (omega arith)
    (c.derive_halves.ensures b h) (c.add_shares.ensures b h) (c.derive_halves-else-half-eq0.ensures b h)

-- one share is cleared, and its derivative is 0
pub returns-then-half-eq0 : goal.returns-then-half-eq0
returns-then-half-eq0 g t c = λ b h.
    slopes-cleared g.M.Factor.reading g.met.M.Factor.laws c.args.shares.now c.clear.new.share b c.requires c.if-half-eq0.true (c.clear.ensures b h)
