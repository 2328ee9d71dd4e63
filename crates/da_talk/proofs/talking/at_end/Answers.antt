use Rattle.std.proofs.Common.{◌≡◌, ◌∙◌, ◌⊎◌, ℕ, Some, None, ap, sym, subst}
use Rattle.std.specs.declared.option.Option.{Option}
use Rattle.std.specs.Option.{option_map}
use Rattle.std.specs.Io.KnownBytes.{IsAtEnd}
use Rattle.da_wire.specs.declared.frames.FrameError.{FrameError}
use Rattle.da_wire.specs.declared.frames.FrameError.TheVariants as frame
use Rattle.da_wire.specs.Frames.{frames_of, bad_frame}
use Rattle.da_wire.specs.Streams.{why_no_frame, offset_of}
use Rattle.da_talk.proofs.EventLemmas.{IsLine}
use Rattle.da_talk.proofs.LongLemmas.{ends_bad}
use Rattle.da_talk.proofs.TellLemmas.{told_bad, told_all, told_last}
use Rattle.da_talk.proofs.talking.at_end.Goals as goal

-- a frame is under way
pub returns-in-Some-clause-told : goal.returns-in-Some-clause-told
returns-in-Some-clause-told g c = λ old first kept s over.
    told_bad g.L.Line g.T.Talker old c.args.line.now first c.args.talker.now c.args.frames.now kept c.offset.result s
    (subst (λ (n : ℕ). (why_no_frame s.taken ≡ Some (frame.TooLong n)) ⊎ (why_no_frame s.taken ≡ Some (frame.Truncated n))) (sym c.offset.ensures)
    (ends_bad s.taken c.in-Some.error (sym (c.end.ensures.refusal s.taken s.stands) ∙ c.in-Some.is))) over

-- all bytes are whole frames, and the last words were said
pub returns-in-Ok-clause-told : goal.returns-in-Ok-clause-told
returns-in-Ok-clause-told g c = λ old first kept s over.
    let is : IsLine g.L.Line = record { few = λ x. (g.met.L.Line.counted x).0; none = g.met.L.Line.stays_none; on = g.met.L.Line.stays_on } in
    let whole : bad_frame s.taken ≡ None = c.end.ensures.place s.taken s.stands ∙ ap (λ (o : Option FrameError). option_map offset_of o) c.in-None.is in
    let went = c.in-Ok.ensures.over first (frames_of s.taken) s.led c.requires.open in
    told_all g.L.Line g.T.Talker is old c.args.line.now c.finish.new.line first c.args.talker.now c.finish.new.talker c.args.frames.now kept went.0 s whole went.1 went.2
    (subst IsAtEnd (sym c.in-Ok.ensures.rest) over)

-- they weren't said whole
pub returns-in-Err-clause-told : goal.returns-in-Err-clause-told
returns-in-Err-clause-told g c = λ old first kept s over.
    let is : IsLine g.L.Line = record { few = λ x. (g.met.L.Line.counted x).0; none = g.met.L.Line.stays_none; on = g.met.L.Line.stays_on } in
    let whole : bad_frame s.taken ≡ None = c.end.ensures.place s.taken s.stands ∙ ap (λ (o : Option FrameError). option_map offset_of o) c.in-None.is in
    let went = c.in-Err.ensures.over first (frames_of s.taken) s.led c.requires.open in
    told_last g.L.Line g.T.Talker is old c.args.line.now c.finish.new.line first c.args.talker.now c.finish.new.talker c.args.frames.now kept went.0 went.2.0 s whole went.1 went.2.1 went.2.2
