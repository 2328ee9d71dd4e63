use Rattle.std.proofs.Common.{◌∙◌, []}
use Rattle.da_wire.specs.Frames.{frames_of}
use Rattle.da_judging.specs.Light.{events_in}
use Rattle.da_judging.proofs.light.judge.Goals as goal

-- the node stands for what was planned and for the events of all frames
pub returns : goal.returns
returns g c =
    let planned = c.in_ok-more.ensures.stands [] [] c.in_ok-node.ensures.stands in
    let handed = (rw c.in_ok-remember_many.ensures at c.in_ok-hand_over.ensures.stands) planned.0 planned.2 in
    let kept = rw c.in_ok-remember_many.ensures at c.in_ok-hand_over.ensures.kept in
    let header = kept.header ∙ c.in_ok-more.ensures.kept.header ∙ c.in_ok-node.ensures.header in
    let pick = kept.pick ∙ c.in_ok-more.ensures.kept.pick ∙ c.in_ok-node.ensures.picker in
    (planned.0, planned.1, rw pick at handed.picked, rw header at (c.finish.ensures planned.0 (events_in (frames_of c.args.messages.now)) handed))
