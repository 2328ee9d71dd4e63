use Rattle.std.proofs.Common.{◌∙◌, [], refl, ap}
use Rattle.da_io.specs.Faults.{count_on}
use Rattle.da_talk.specs.Replies.{held_reply}
use Rattle.da_talk.specs.contracts.holding.HeldTalker.TheImpl.{ghosts}
use Rattle.da_talk.proofs.EventLemmas.{IsLine, does_none}
use Rattle.da_talk.proofs.TalkLemmas.{left_so, talked_as, is_plain, failed_as, held_replies}
use Rattle.da_talk.proofs.holding.hold.Goals as goal

-- no frame decides, and no memory is taken
pub ended-requires : goal.ended-requires
ended-requires g c =
    let is : IsLine g.L.Line = record { few = λ x. (g.met.L.Line.counted x).0; none = g.met.L.Line.stays_none; on = g.met.L.Line.stays_on } in
    is_plain ghosts c.args.held.now (held_reply c.args.held.now) (held_replies c.args.held.now) g.L.Line c.args.line.now c.listen-end.new.line c.listen-end.new.talker c.listen-end.result
    (c.listen-end.ensures.told c.args.line.now c.args.held.now [] refl refl (does_none g.L.Line is c.args.line.now)).0

-- the square stays
pub returns-clause-kept : goal.returns-clause-kept
returns-clause-kept g c =
    let is : IsLine g.L.Line = record { few = λ x. (g.met.L.Line.counted x).0; none = g.met.L.Line.stays_none; on = g.met.L.Line.stays_on } in
    left_so ghosts c.args.held.now (held_reply c.args.held.now) (held_replies c.args.held.now) c.listen-end.new.talker
    (c.listen-end.ensures.told c.args.line.now c.args.held.now [] refl refl (does_none g.L.Line is c.args.line.now)).1

-- what was said are the replies
pub returns-clause-talk : goal.returns-clause-talk
returns-clause-talk g c =
    let is : IsLine g.L.Line = record { few = λ x. (g.met.L.Line.counted x).0; none = g.met.L.Line.stays_none; on = g.met.L.Line.stays_on } in
    talked_as ghosts c.args.held.now (held_reply c.args.held.now) (held_replies c.args.held.now) g.L.Line c.args.line.now c.listen-end.new.line c.listen-end.new.talker c.listen-end.result c.ended.result
    (c.listen-end.ensures.told c.args.line.now c.args.held.now [] refl refl (does_none g.L.Line is c.args.line.now)).0 c.ended.ensures

-- and the same calls failed
pub returns-clause-ended : goal.returns-clause-ended
returns-clause-ended g c = c.listen-end.ensures.ended ∙ (failed_as c.listen-end.result c.ended.result c.ended.ensures).0

pub returns-clause-read_faults : goal.returns-clause-read_faults
returns-clause-read_faults g c = c.listen-end.ensures.read_faults ∙ ap (count_on (g.L.Line.read_faults c.args.line.now)) (failed_as c.listen-end.result c.ended.result c.ended.ensures).1

pub returns-clause-write_faults : goal.returns-clause-write_faults
returns-clause-write_faults g c = c.listen-end.ensures.write_faults ∙ ap (count_on (g.L.Line.write_faults c.args.line.now)) (failed_as c.listen-end.result c.ended.result c.ended.ensures).2
