use Rattle.std.proofs.Common.{sym}
use Rattle.sha2.proofs.Schedule256.{rounds_first}
use Rattle.multi_sha256.specs.Lanes.{lane, lane_words}
use Rattle.multi_sha256.proofs.LaneLemmas.{words_at}
use Rattle.multi_sha256.proofs.rounds.first_step.Goals as goal

pub returns : goal.returns
returns c = λ j b h lt window held.
    rounds_first b h (lane_words j c.args.w.now) (lane j c.args.v) c.args.t _ _ _ c.requires window held
    c.round_constant.ensures (sym (words_at c.args.w.now j c.args.t)) (c.round.ensures j lt)
