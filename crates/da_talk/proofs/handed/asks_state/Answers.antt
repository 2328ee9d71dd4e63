use Rattle.std.proofs.Common.{◌∙◌, sym, ap}
use Rattle.std.specs.declared.option.Option.{Option}
use Rattle.std.specs.Option.{option_map}
use Rattle.da_wire.specs.declared.frames.RawFrame.{RawFrame}
use Rattle.da_wire.specs.Reading.{raw_seen}
use Rattle.da_talk.proofs.HandedLemmas.{no_state}
use Rattle.da_talk.proofs.handed.asks_state.Goals as goal

-- it has a payload, and a state has none
pub returns-in_default : goal.returns-in_default
returns-in_default c = λ longest raw handed. no_state longest raw (sym (ap (λ (o : Option RawFrame). option_map (λ f. raw_seen f) o) c.in_default.is) ∙ handed)
