use Rattle.std.proofs.Common.{◌≡◌, ◌∙◌, ◌++◌, ◌∷◌, [], ap, inr}
use Rattle.std.specs.declared.option.Option.{Option}
use Rattle.std.specs.Option.{option_map}
use Rattle.da_wire.specs.declared.frames.RawFrame.{RawFrame}
use Rattle.da_wire.specs.Reading.{raw_seen, raw_of}
use Rattle.da_talk.specs.declared.talker.Turn.{Turn}
use Rattle.da_talk.specs.declared.talker.Turn.TheVariants.{Over, Unfit}
use Rattle.da_talk.proofs.TellLemmas.{seen_ok}
use Rattle.da_talk.proofs.talking.reply.Goals as goal

-- where the frame ended the talk, it isn't one that is none that is replied to
over_fits : (went : Turn) → went ≡ Over → went ≡ Unfit → ⊥
over_fits went is e = absurd cc

-- the frame ended the talk, and the last words were said
pub returns-in-Ok-finish-clause-replies : goal.returns-in-Ok-finish-clause-replies
returns-in-Ok-finish-clause-replies g c = λ first frames frame led number handed.
    let seen = ap (λ (o : Option RawFrame). option_map (λ f. raw_seen f) o) c.ok.ensures.value ∙ seen_ok c.raw.result (raw_of 0 c.args.bytes.now) c.raw.ensures.value ∙ handed in
    c.in-Ok-finish.ensures.decided first (frames ++ frame ∷ []) (c.in-Ok-Over.ensures.led (λ e. absurd (over_fits c.in-Ok-Over.field-0 c.in-Ok-Over.field-0-is e)) first frames frame led number seen) (c.in-Ok-Over.ensures.over c.in-Ok-Over.field-0-is).0

-- they weren't said whole
pub returns-in-Err-finish-clause-replies : goal.returns-in-Err-finish-clause-replies
returns-in-Err-finish-clause-replies g c = λ first frames frame led number handed.
    let seen = ap (λ (o : Option RawFrame). option_map (λ f. raw_seen f) o) c.ok.ensures.value ∙ seen_ok c.raw.result (raw_of 0 c.args.bytes.now) c.raw.ensures.value ∙ handed in
    let went = c.in-Err-finish.ensures.decided first (frames ++ frame ∷ []) (c.in-Ok-Over.ensures.led (λ e. absurd (over_fits c.in-Ok-Over.field-0 c.in-Ok-Over.field-0-is e)) first frames frame led number seen) (c.in-Ok-Over.ensures.over c.in-Ok-Over.field-0-is).0 in
    (went.0, inr went.1, went.2.0, went.2.1, went.2.2)
