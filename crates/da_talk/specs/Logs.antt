-- The events that a line in memory logs.
use Rattle.std.specs.Prelude.{◌≡◌, List, [], ◌∷◌, map, Some, None, Vec}
use Rattle.std.specs.declared.option.Option.{Option}
use Rattle.std.specs.declared.alloc.Global.{Global}
use Rattle.std.specs.Option.{option_map}
use Rattle.da_talk.specs.declared.logged.Happened.{Happened}
use Rattle.da_talk.specs.declared.logged.Happened.TheVariants.{Heard, Said}
use Rattle.da_talk.specs.Events.{Event, heard, said, Grows}

-- the event that is logged
abbrev pub logged_event : Happened → Event
logged_event (Heard v) = heard v.items
logged_event (Said v) = said v.items

-- the events of a log, where there is one
abbrev pub logged : Option (Vec Happened Global) → Option (List Event)
logged log = option_map (λ (v : Vec Happened Global). map logged_event v.items) log

-- a log is longer by an event, or ends where the event couldn't be kept
abbrev pub Lengthens : Option (List Event) → Option (List Event) → Option Happened → Type 0
Lengthens old new None = new ≡ None
Lengthens old new (Some h) = Grows old new (logged_event h ∷ [])
