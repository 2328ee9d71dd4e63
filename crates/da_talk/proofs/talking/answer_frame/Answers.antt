use Rattle.std.proofs.Common.{◌∙◌, ◌++◌, take, refl, sym, subst, arith}
use Rattle.da_wire.specs.declared.streams.Pushed.{Pushed}
use Rattle.da_wire.specs.Frames.{frames_of}
use Rattle.da_wire.specs.Streams.{StreamStands, IsPush}
use Rattle.da_talk.proofs.EventLemmas.{IsLine}
use Rattle.da_talk.proofs.TellLemmas.{telling_more, told_long, handed_here, telling_frame, told_stop}
use Rattle.da_talk.proofs.talking.answer_frame.Goals as goal

-- no frame ended
pub returns-in-More-clause-tells : goal.returns-in-More-clause-tells
returns-in-More-clause-tells g c = λ old first s.
    let stands : StreamStands c.push-count.new.self (s.taken ++ take c.push-count.result.0 c.args.piece.now) = c.push-count.ensures.stands s.taken s.stands in
    let push = subst (λ (p : Pushed). IsPush s.taken c.args.piece.now c.push-count.result.0 p) c.in-More.is (c.push-count.ensures.answer s.taken s.stands) in
    telling_more g.L.Line g.T.Talker old c.args.line.now first c.args.talker.now c.args.frames.now (g.R.Room.kept c.args.room.now) c.args.piece.now c.push-count.result.0 s _ (g.R.Room.kept c.keep.new.self)
    stands push refl refl refl c.keep.ensures.kept

-- the frame under way states a length above the limit
pub returns-in-Bad-clause-tells : goal.returns-in-Bad-clause-tells
returns-in-Bad-clause-tells g c = λ old first s.
    let stands : StreamStands c.push-count.new.self (s.taken ++ take c.push-count.result.0 c.args.piece.now) = c.push-count.ensures.stands s.taken s.stands in
    let push = subst (λ (p : Pushed). IsPush s.taken c.args.piece.now c.push-count.result.0 p) c.in-Bad.is (c.push-count.ensures.answer s.taken s.stands) in
    told_long g.L.Line g.T.Talker old c.args.line.now first c.args.talker.now c.args.frames.now (g.R.Room.kept c.args.room.now) c.args.piece.now c.push-count.result.0 s
    c.wire_laws.ensures.bad c.wire_laws.ensures.files c.push-count.new.self c.in-Bad.at stands push

-- what is due to the frame that ended was said
pub returns-in-Ok-clause-tells : goal.returns-in-Ok-clause-tells
returns-in-Ok-clause-tells g c = λ old first s.
    let is : IsLine g.L.Line = record { few = λ x. (g.met.L.Line.counted x).0; none = g.met.L.Line.stays_none; on = g.met.L.Line.stays_on } in
    let stands : StreamStands c.push-count.new.self (s.taken ++ take c.push-count.result.0 c.args.piece.now) = c.push-count.ensures.stands s.taken s.stands in
    let push = subst (λ (p : Pushed). IsPush s.taken c.args.piece.now c.push-count.result.0 p) c.in-Frame.is (c.push-count.ensures.answer s.taken s.stands) in
    let handed = handed_here g.L.Line g.T.Talker old c.args.line.now first c.args.talker.now c.args.frames.now (g.R.Room.kept c.args.room.now) c.args.piece.now c.push-count.result.0 s c.push-count.new.self c.in-Frame._message stands push c.wire_laws.ensures.raw c.wire_laws.ensures.frames
    c.kept_bytes.result.now (c.kept_bytes.ensures ∙ c.keep.ensures.kept) c.requires.size in
    let went = c.in-Ok.ensures.replies first (frames_of s.taken) push.frames.0 s.led (sym s.counted) handed in
    telling_frame g.L.Line g.T.Talker old c.args.line.now first c.args.talker.now c.args.frames.now (g.R.Room.kept c.args.room.now) c.args.piece.now c.push-count.result.0 s c.push-count.new.self c.in-Frame._message stands push c.wire_laws.ensures.frames is
    c.reply.new.line c.reply.new.talker went.1 went.0 went.2 went.3 _ (g.R.Room.kept c.forget.new.self) refl (omega (arith, c.requires.taken, c.push-count.ensures.taken)) refl c.forget.ensures.kept

-- it ended the talk, or what is due wasn't said
pub returns-in-Err-clause-tells : goal.returns-in-Err-clause-tells
returns-in-Err-clause-tells g c = λ old first s.
    let is : IsLine g.L.Line = record { few = λ x. (g.met.L.Line.counted x).0; none = g.met.L.Line.stays_none; on = g.met.L.Line.stays_on } in
    let stands : StreamStands c.push-count.new.self (s.taken ++ take c.push-count.result.0 c.args.piece.now) = c.push-count.ensures.stands s.taken s.stands in
    let push = subst (λ (p : Pushed). IsPush s.taken c.args.piece.now c.push-count.result.0 p) c.in-Frame.is (c.push-count.ensures.answer s.taken s.stands) in
    let handed = handed_here g.L.Line g.T.Talker old c.args.line.now first c.args.talker.now c.args.frames.now (g.R.Room.kept c.args.room.now) c.args.piece.now c.push-count.result.0 s c.push-count.new.self c.in-Frame._message stands push c.wire_laws.ensures.raw c.wire_laws.ensures.frames
    c.kept_bytes.result.now (c.kept_bytes.ensures ∙ c.keep.ensures.kept) c.requires.size in
    let went = c.in-Err.ensures.replies first (frames_of s.taken) push.frames.0 s.led (sym s.counted) handed in
    told_stop g.L.Line g.T.Talker old c.args.line.now first c.args.talker.now c.args.frames.now (g.R.Room.kept c.args.room.now) c.args.piece.now c.push-count.result.0 s c.push-count.new.self c.in-Frame._message stands push (Unit {0}) c.stream_laws.ensures.stay is
    c.reply.new.line c.reply.new.talker c.in-Err.ended went
