use Rattle.std.proofs.Common.{◌∙◌, ℕ, [], take, refl, sym, subst, arith, length-take-le}
use Rattle.da_talk.specs.Steps.{IsTelling}
use Rattle.da_talk.proofs.EventLemmas.{IsLine, does_heard, count_none}
use Rattle.da_talk.proofs.TellLemmas.{telling_none, telling_heard, telling_piece, told_failed, told_over}
use Rattle.da_talk.proofs.talking.listen.Goals as goal

-- at first nothing was heard
pub loop-count-init : goal.loop-count-init
loop-count-init g c = record {
  goes_on = c.requires.open;
  text = c.requires.text;
  size = c.requires.size;
  room = c.requires.room;
  telling = λ old first began led begins did. telling_none g.L.Line g.T.Talker old c.args.line.now first c.args.talker.now _ (g.R.Room.kept c.args.room.now) began
      c.new.ensures.stands refl refl c.requires.empty led begins did;
  taken = sym c.new.ensures.taken;
  bytes = refl;
  few = omega arith;
  read_faults = refl;
  write_faults = refl;
}

-- bytes couldn't be heard
pub returns-in_default-clause-told : goal.returns-in_default-clause-told
returns-in_default-clause-told g c = λ old first began led begins did.
    let is : IsLine g.L.Line = record { few = λ x. (g.met.L.Line.counted x).0; none = g.met.L.Line.stays_none; on = g.met.L.Line.stays_on } in
    let none = does_heard g.L.Line c.loop-count.line c.hear.new.self [] c.in_default.ensures.events c.in_default.ensures.rest.0 c.in_default.ensures.rest.1
    (c.in_default.ensures.given ∙ count_none _ (g.met.L.Line.counted c.loop-count.line).0) c.hear.ensures.stays in
    told_failed g.L.Line g.T.Talker old c.hear.new.self first c.loop-count.talker c.loop-count.frames (g.R.Room.kept c.loop-count.room)
    (telling_heard g.L.Line g.T.Talker is old c.loop-count.line c.hear.new.self first c.loop-count.talker c.loop-count.frames (g.R.Room.kept c.loop-count.room) []
    (c.loop-count.invariant.telling old first began led begins did) none)

-- the bytes are over
pub returns-then-count-eq0-clause-told : goal.returns-then-count-eq0-clause-told
returns-then-count-eq0-clause-told g c = λ old first began led begins did.
    let is : IsLine g.L.Line = record { few = λ x. (g.met.L.Line.counted x).0; none = g.met.L.Line.stays_none; on = g.met.L.Line.stays_on } in
    let t = telling_piece g.L.Line g.T.Talker is old c.loop-count.line c.hear.new.self first c.loop-count.talker c.loop-count.frames (g.R.Room.kept c.loop-count.room) c.hear.new.buf c.in-Ok.count c.in-Ok.ensures.bound.0
    c.in-Ok.ensures.events c.in-Ok.ensures.rest.0 c.in-Ok.ensures.rest.1 c.in-Ok.ensures.given c.hear.ensures.stays (c.loop-count.invariant.telling old first began led begins did) in
    c.at_end.ensures.told old first (g.R.Room.kept c.loop-count.room)
    (subst (λ (n : ℕ). IsTelling g.L.Line g.T.Talker old c.hear.new.self first c.loop-count.talker c.loop-count.frames (g.R.Room.kept c.loop-count.room) (take n c.hear.new.buf)) c.if-count-eq0.true t)
    (c.in-Ok.ensures.rest.2 c.if-count-eq0.true (omega (arith, c.hear.auto.buf)))

-- too many bytes came
pub returns-then-count-left-clause-told : goal.returns-then-count-left-clause-told
returns-then-count-left-clause-told g c = λ old first began led begins did.
    let is : IsLine g.L.Line = record { few = λ x. (g.met.L.Line.counted x).0; none = g.met.L.Line.stays_none; on = g.met.L.Line.stays_on } in
    let t = telling_piece g.L.Line g.T.Talker is old c.loop-count.line c.hear.new.self first c.loop-count.talker c.loop-count.frames (g.R.Room.kept c.loop-count.room) c.hear.new.buf c.in-Ok.count c.in-Ok.ensures.bound.0
    c.in-Ok.ensures.events c.in-Ok.ensures.rest.0 c.in-Ok.ensures.rest.1 c.in-Ok.ensures.given c.hear.ensures.stays (c.loop-count.invariant.telling old first began led begins did) in
    told_over g.L.Line g.T.Talker c.stream_laws.ensures.stay old c.hear.new.self first c.loop-count.talker c.loop-count.frames (g.R.Room.kept c.loop-count.room) (take c.in-Ok.count c.hear.new.buf) t
    (omega (
      arith,
      length-take-le c.in-Ok.count c.hear.new.buf c.in-Ok.ensures.bound.0,
      c.if-count-left.true,
      c.loop-count.invariant.bytes,
      c.loop-count.invariant.taken,
    ))

-- the talk ended within a piece
pub returns-in-Err-clause-told : goal.returns-in-Err-clause-told
returns-in-Err-clause-told g c = λ old first began led begins did.
    let is : IsLine g.L.Line = record { few = λ x. (g.met.L.Line.counted x).0; none = g.met.L.Line.stays_none; on = g.met.L.Line.stays_on } in
    let t = telling_piece g.L.Line g.T.Talker is old c.loop-count.line c.hear.new.self first c.loop-count.talker c.loop-count.frames (g.R.Room.kept c.loop-count.room) c.hear.new.buf c.in-Ok.count c.in-Ok.ensures.bound.0
    c.in-Ok.ensures.events c.in-Ok.ensures.rest.0 c.in-Ok.ensures.rest.1 c.in-Ok.ensures.given c.hear.ensures.stays (c.loop-count.invariant.telling old first began led begins did) in
    c.in-Err.ensures.tells old first t

-- what is due to the frames that ended with a piece was said
pub loop-count-preserved : goal.loop-count-preserved
loop-count-preserved g c = record {
  goes_on = c.in-Ok-answer_piece.ensures.open;
  text = c.in-Ok-answer_piece.ensures.text;
  size = c.in-Ok-answer_piece.ensures.size;
  room = c.in-Ok-answer_piece.ensures.room;
  telling = λ old first began led begins did.
      let is : IsLine g.L.Line = record { few = λ x. (g.met.L.Line.counted x).0; none = g.met.L.Line.stays_none; on = g.met.L.Line.stays_on } in
      let t = telling_piece g.L.Line g.T.Talker is old c.loop-count.line c.hear.new.self first c.loop-count.talker c.loop-count.frames (g.R.Room.kept c.loop-count.room) c.hear.new.buf c.in-Ok.count c.in-Ok.ensures.bound.0
      c.in-Ok.ensures.events c.in-Ok.ensures.rest.0 c.in-Ok.ensures.rest.1 c.in-Ok.ensures.given c.hear.ensures.stays (c.loop-count.invariant.telling old first began led begins did) in
      c.in-Ok-answer_piece.ensures.tells old first t;
  taken = c.in-Ok-answer_piece.ensures.taken;
  bytes = omega (
    arith,
    c.loop-count.invariant.bytes,
    c.in-Ok-answer_piece.ensures.bytes,
    length-take-le c.in-Ok.count c.hear.new.buf c.in-Ok.ensures.bound.0,
    c.if-count-left.false,
  );
  few = c.in-Ok-answer_piece.ensures.few;
  read_faults = c.answer_piece.ensures.read_faults ∙ c.in-Ok.ensures.read_faults ∙ c.loop-count.invariant.read_faults;
  write_faults = c.in-Ok-answer_piece.ensures.write_faults ∙ sym (count_none _ (g.met.L.Line.counted c.hear.new.self).2) ∙ c.in-Ok.ensures.write_faults
      ∙ c.loop-count.invariant.write_faults;
}
