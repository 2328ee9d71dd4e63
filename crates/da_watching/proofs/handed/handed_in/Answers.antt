use Rattle.std.proofs.Common.{◌∙◌, sym, ap}
use Rattle.std.specs.Option.{option_map}
use Rattle.da_wire.specs.Reading.{raw_seen}
use Rattle.da_watching.proofs.HandedLemmas.{no_event}
use Rattle.da_watching.proofs.handed.handed_in.Goals as goal

-- a frame of which nothing is handed is longer than any claim
pub returns-in_default : goal.returns-in_default
returns-in_default c = λ raw handed. sym (no_event raw (sym (ap (option_map raw_seen) c.in_default.is) ∙ handed))
