use Rattle.std.proofs.Common.{◌∙◌, sym, ap}
use Rattle.std.specs.declared.option.Option.{Option}
use Rattle.std.specs.Option.{option_map}
use Rattle.da_wire.specs.declared.frames.RawFrame.{RawFrame}
use Rattle.da_wire.specs.Reading.{raw_seen}
use Rattle.da_talk.proofs.AskedLemmas.{asks_long, asks_handed}
use Rattle.da_talk.proofs.asking.asked_in.Goals as goal

-- the frame is handed
pub returns-in-Some : goal.returns-in-Some
returns-in-Some c = λ raw e.
    c.asks_for.ensures
    ∙ asks_handed raw (raw_seen c.in-Some.frame) (sym (ap (λ (o : Option RawFrame). option_map (λ f. raw_seen f) o) c.in-Some.is) ∙ e)

-- it is too long
pub returns-in-None : goal.returns-in-None
returns-in-None c = λ raw e. asks_long raw (sym (ap (λ (o : Option RawFrame). option_map (λ f. raw_seen f) o) c.in-None.is) ∙ e)
