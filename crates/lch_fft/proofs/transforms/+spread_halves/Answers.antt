use Rattle.std.proofs.Common.{◌≡◌, arith, ◌/◌, ◌+◌, length}
use Rattle.std.proofs.Math.Nat.{div-le_self}
use Rattle.lch_fft.proofs.CountLemmas.{count-half, not_one}
use Rattle.lch_fft.proofs.HalfLemmas.{spread-one, spread-halves}
use Rattle.lch_fft.specs.Transforms.{column}
use Rattle.lch_fft.proofs.transforms.+spread_halves.Goals as goal

-- a stage and the transforms of both halves are that of the whole
pub returns-then-half-gt0 : goal.returns-then-half-gt0
returns-then-half-gt0 g t c = λ b h.
    let half = count-half (length c.args.shares.now) c.requires.count (not_one (length c.args.shares.now) c.if-half-gt0.true) in
    let same_sum : length c.args.shares.now / 2 + length c.args.shares.now / 2 ≡ length c.args.shares.now = half.2 in
    spread-halves g.M.Factor.reading g.met.M.Factor.laws c.args.shares.now c.split_at_mut-low.result.0.now c.split_at_mut-low.result.1.now
    c.spread_stage.new.low c.spread_stage.new.high c.spread_halves.new.shares c.spread_halves-then-half-gt0.new.shares
    c.args.shift b c.requires.count c.if-half-gt0.true
    c.split_at_mut-low.ensures.front c.split_at_mut-low.ensures.back
    (omega arith) (omega arith)
    (c.spread_stage.ensures.low b h) (c.spread_stage.ensures.high b h)
    (c.spread_halves.ensures b h) (c.spread_halves-then-half-gt0.ensures b h)

-- one coefficient is the value
pub returns-else-half-gt0 : goal.returns-else-half-gt0
returns-else-half-gt0 g t c = λ b h. spread-one g.M.Factor.reading g.met.M.Factor.laws (length c.args.shares.now) (column g.M.Factor.reading b c.args.shares.now) c.args.shift c.requires.count (omega arith)

-- the factor is a label
pub spread_stage-requires-clause-by : goal.spread_stage-requires-clause-by
spread_stage-requires-clause-by g t c = omega (arith, c.requires.fits, div-le_self c.args.shift (length c.args.shares.now / 2))
