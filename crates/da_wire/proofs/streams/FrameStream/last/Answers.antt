use Rattle.std.proofs.Common.{sym, subst, arith, Option}
use Rattle.namespace_id.specs.Answers.{Gives}
use Rattle.da_wire.specs.Reading.{Raw, raw_seen}
use Rattle.da_wire.specs.StreamParts.{StreamParts}
use Rattle.da_wire.specs.Streams.{StreamStands}
use Rattle.da_wire.proofs.StreamLemmas.{kept_none, kept_under_way}
use Rattle.da_wire.proofs.streams.FrameStream.last.Goals as goal
use Rattle.da_wire.proofs.streams.FrameStream.last.Goals.{then-self-eq0-via-then-self-eq0, then-self-eq0-via-else-self-eq0+then-self}

-- no byte was taken, or a frame is under way
pub returns-then-self-eq0 : goal.returns-then-self-eq0
returns-then-self-eq0 c bytes stands =
    let s : StreamParts = record { at = c.self.inside.at; taken = c.self.inside.taken; front = c.self.inside.front } in
    let here = subst (λ (s : StreamParts). StreamStands s bytes) (sym c.self.view_is) stands in
    elim c.then-self-eq0.branch [
      | then-self-eq0-via-then-self-eq0 w ↦ kept_none bytes (omega (arith, here.count, w.if-self-eq0.true))
      | then-self-eq0-via-else-self-eq0+then-self w ↦ kept_under_way s bytes (omega (arith, w.if-self.true)) c.self.invariant.unfinished here
    ]

-- the frame in the room is the one that ended
pub returns : goal.returns
returns c bytes stands =
    let here = subst (λ (s : StreamParts). StreamStands s bytes) (sym c.self.view_is) stands in
    subst (λ (o : Option Raw). Gives (λ f. raw_seen f) c.frame_of.result o) (sym (here.kept (omega arith) (omega arith))) c.frame_of.ensures
