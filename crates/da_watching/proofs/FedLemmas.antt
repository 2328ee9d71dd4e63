-- The events among the frames of a talk, by its last frame.
use Rattle.std.proofs.Common.{◌≡◌, ◌∙◌, true, false, List, [], ◌∷◌, ◌++◌, append-nil, Option, Some, None, refl, ap}
use Rattle.std.specs.Option.{option_map_or}
use Rattle.light_node.specs.declared.events.Event.{Event}
use Rattle.da_wire.specs.Reading.{Raw}
use Rattle.da_judging.specs.Light.{event_in, events_in}
use Rattle.da_talk.specs.Handed.{asks_state, fed}
use Rattle.da_talk.proofs.FedLemmas.{fed_asked, fed_other}
use Rattle.da_watching.specs.Watched.{frame_events}

-- an event, if there is one, before others
abbrev with_event : Option Event → List Event → List Event
with_event found later = option_map_or (λ event. event ∷ later) found later

-- an event that is there before some and others
with_event-append : (found : Option Event) (some others : List Event) → with_event found (some ++ others) ≡ with_event found some ++ others
with_event-append None some others = refl
with_event-append (Some event) some others = refl

-- the events among frames and others
pub events_in-append : (frames others : List Raw) → events_in (frames ++ others) ≡ events_in frames ++ events_in others
unfolding events_in
events_in-append [] others = refl
events_in-append (frame ∷ later) others =
    ap (with_event (event_in frame)) (events_in-append later others) ∙ with_event-append (event_in frame) (events_in later) (events_in others)

-- the one event of a frame
events_in-one : (frame : Raw) (found : Option Event) → event_in frame ≡ found → events_in (frame ∷ []) ≡ with_event found []
unfolding events_in
events_in-one frame found e = ap (λ (o : Option Event). with_event o []) e

-- a frame that asks for the state is no event
pub events_asked : (frames : List Raw) (frame : Raw) → asks_state frame ≡ true → frame_events (frames ++ frame ∷ []) ≡ frame_events frames
events_asked frames frame asks = ap events_in (fed_asked frames frame asks)

-- another is the event that it is
events_other : (frames : List Raw) (frame : Raw) (found : Option Event) → asks_state frame ≡ false → event_in frame ≡ found
    → frame_events (frames ++ frame ∷ []) ≡ frame_events frames ++ with_event found []
events_other frames frame found asks e =
    ap events_in (fed_other frames frame asks) ∙ events_in-append (fed frames) (frame ∷ [])
    ∙ ap (λ (l : List Event). frame_events frames ++ l) (events_in-one frame found e)

pub events_fed : (frames : List Raw) (frame : Raw) (event : Event) → asks_state frame ≡ false → event_in frame ≡ Some event
    → frame_events (frames ++ frame ∷ []) ≡ frame_events frames ++ event ∷ []
events_fed frames frame event asks e = events_other frames frame (Some event) asks e

-- or none
pub events_none : (frames : List Raw) (frame : Raw) → asks_state frame ≡ false → event_in frame ≡ None → frame_events (frames ++ frame ∷ []) ≡ frame_events frames
events_none frames frame asks e = events_other frames frame None asks e ∙ append-nil (frame_events frames)

-- no frames have no events
pub events_empty : frame_events [] ≡ []
unfolding events_in
events_empty = refl
