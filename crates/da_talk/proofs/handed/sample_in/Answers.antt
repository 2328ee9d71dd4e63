use Rattle.std.proofs.Common.{◌∙◌, sym, ap}
use Rattle.std.specs.declared.option.Option.{Option}
use Rattle.std.specs.Option.{option_map}
use Rattle.da_wire.specs.declared.frames.RawFrame.{RawFrame}
use Rattle.da_wire.specs.Reading.{raw_seen}
use Rattle.da_talk.proofs.HandedLemmas.{no_sample}
use Rattle.da_talk.proofs.handed.sample_in.Goals as goal

-- it is too long for a sample
pub returns-in_default : goal.returns-in_default
returns-in_default c = λ longest raw room handed. no_sample longest raw room (sym (ap (λ (o : Option RawFrame). option_map (λ f. raw_seen f) o) c.in_default.is) ∙ handed)
