use Rattle.std.proofs.Common.{◌≡◌, refl, ap, ◌*◌, ◌∙◌, arith}
use Rattle.sha2.specs.Sha256.{add_state, compress, rounds}
use Rattle.multi_sha256.specs.Lanes.{lane}
use Rattle.multi_sha256.proofs.rounds.compress_words.Goals as goal

pub schedule-init : goal.schedule-init
unfolding rounds
schedule-init c j b lt window = (window, c.sixteen_first_steps-v.ensures j b (lane j c.args.state.now) lt window refl)

pub schedule-preserved : goal.schedule-preserved
schedule-preserved c j b lt window =
    c.sixteen_steps-next.ensures j b (lane j c.args.state.now) lt (c.schedule.invariant j b lt window)

pub returns : goal.returns
unfolding compress
returns c j b lt window =
    let done : 16 * c.schedule.turn ≡ 64 = omega (arith, c.schedule.auto.turn-end (omega arith)) in
    c.add_states.ensures j lt ∙ ap (add_state (lane j c.args.state.now)) (rw done at (c.schedule.invariant j b lt window).1)
