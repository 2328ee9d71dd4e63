-- The event that a frame is as it is handed to a watcher (docs/FORMATS.md, "Talks").
use Rattle.std.specs.Prelude.{Option, Some, None}
use Rattle.std.specs.Option.{option_map}
use Rattle.frame_payloads.specs.kinds.Fraud.{fraud_at}
use Rattle.light_node.specs.declared.events.Event.{Event}
use Rattle.light_node.specs.declared.events.Event.TheVariants as event
use Rattle.da_watching.specs.declared.handed.Handed.{Handed}
use Rattle.da_watching.specs.declared.handed.Handed.TheVariants.{Sample, Claim, Neither}

-- the event that is handed: the sample, or the claim of the grammar that the payload is
abbrev pub handed_event : Handed → Option Event
handed_event (Sample m) = Some (event.Sample m)
handed_event (Claim payload) = option_map event.Claim (fraud_at payload.now)
handed_event Neither = None
