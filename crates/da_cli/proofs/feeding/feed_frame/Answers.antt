use Rattle.std.proofs.Common.{ℕ, ◌++◌, take, sym, subst}
use Rattle.repair_queue.specs.SessionParts.{SessionStands}
use Rattle.da_wire.specs.declared.streams.Pushed.{Pushed}
use Rattle.da_wire.specs.Frames.{frames_of}
use Rattle.da_wire.specs.Streams.{EndsFrame}
use Rattle.da_cli.specs.Feeding.{HasGone}
use Rattle.da_cli.proofs.FeedingLemmas.{gone_frame}
use Rattle.da_cli.proofs.feeding.feed_frame.Goals as goal

-- one frame more ended, and its sample was fed where it is proved
pub returns-in-Frame-clause-gone : goal.returns-in-Frame-clause-gone
returns-in-Frame-clause-gone c =
    let bytes = take c.push-count.result.0 c.args.piece.now in
    subst (λ (lies : ℕ). HasGone c.args.stream.now c.push-count.new.self (SessionStands c.args.session.now) (SessionStands c.feed_message-lies.new.session) c.args.header.now bytes lies)
    (sym c.feed_message-lies.ensures.lies)
    (gone_frame c.args.stream.now c.push-count.new.self (SessionStands c.args.session.now) (SessionStands c.feed_message-lies.new.session) c.args.header.now bytes c.in-Frame.message
    c.push-count.ensures.stands
    (λ before is. subst (λ (p : Pushed). EndsFrame (frames_of before) (frames_of (before ++ bytes)) p) c.in-Frame.is (c.push-count.ensures.answer before is).frames)
    c.feed_message-lies.ensures.fed)
