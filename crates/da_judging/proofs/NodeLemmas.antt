-- Light nodes that are handed frames.
use Rattle.std.proofs.Common.{◌≡◌, ◌∙◌, ℕ, List, [], ◌∷◌, ◌++◌, Some, None, sym, ap, subst, append-nil}
use Rattle.std.specs.declared.option.Option.{Option}
use Rattle.std.specs.Option.{option_map_or}
use Rattle.std.proofs.Math.Seq.{append_snoc}
use Rattle.namespace_id.specs.declared.cells.Cell.{Cell}
use Rattle.light_node.specs.declared.events.Event.{Event}
use Rattle.light_node.specs.Nodes.{NodeParts, NodeStands, IsSameNode}
use Rattle.da_wire.specs.Reading.{Raw}
use Rattle.da_judging.specs.Light.{event_in, events_in}

-- ---- events

-- the events among frames, by what the first frame is
events_by : (rest after : List Raw) (frame : Raw) (found : Option Event) → rest ≡ frame ∷ after → event_in frame ≡ found
    → events_in rest ≡ option_map_or (λ e. e ∷ events_in after) found (events_in after)
unfolding events_in
events_by rest after frame found next is =
    ap events_in next ∙ ap (λ (o : Option Event). option_map_or (λ e. e ∷ events_in after) o (events_in after)) is

module _ {F : Type 0} (picks : F → ℕ → Cell → Type 0) (old : NodeParts F) (frames : List Raw) where
  -- a node that planned these cells and was handed nothing was handed all events but those of the rest since
  abbrev pub Handed : NodeParts F → List Raw → Type 0
  Handed node rest = (plan : List Cell) → NodeStands picks old plan []
      → (done : List Event) × NodeStands picks node plan done × (events_in frames ≡ done ++ events_in rest)

  -- the next frame is an event
  pub handed_on : (node new : NodeParts F) (rest after : List Raw) (frame : Raw) (event : Event) → rest ≡ frame ∷ after
      → event_in frame ≡ Some event
      → ((plan : List Cell) (events : List Event) → NodeStands picks node plan events
      → NodeStands picks new plan (events ++ event ∷ []))
      → Handed node rest → Handed new after
  handed_on node new rest after frame event next here step handed = λ plan stands.
      let so_far = handed plan stands in
      let later : events_in rest ≡ event ∷ events_in after = events_by rest after frame (Some event) next here in
      let parts : events_in frames ≡ (so_far.0 ++ event ∷ []) ++ events_in after =
      so_far.2 ∙ ap (λ (l : List Event). so_far.0 ++ l) later ∙ sym (append_snoc so_far.0 event (events_in after)) in
      (so_far.0 ++ event ∷ [], step plan so_far.0 so_far.1, parts)

  -- the next frame is none
  pub handed_past : (node : NodeParts F) (rest after : List Raw) (frame : Raw) → rest ≡ frame ∷ after
      → event_in frame ≡ None
      → Handed node rest → Handed node after
  handed_past node rest after frame next none handed = λ plan stands.
      let so_far = handed plan stands in
      let later : events_in rest ≡ events_in after = events_by rest after frame None next none in
      (so_far.0, so_far.1, so_far.2 ∙ ap (λ (l : List Event). so_far.0 ++ l) later)

  -- all frames were handed over
  pub handed_all : (node : NodeParts F) (rest : List Raw) → rest ≡ [] → Handed node rest
      → (plan : List Cell) → NodeStands picks old plan [] → NodeStands picks node plan (events_in frames)
  unfolding events_in
  handed_all node rest none handed plan stands =
      let so_far = handed plan stands in
      let all : events_in frames ≡ so_far.0 = so_far.2 ∙ ap (λ (l : List Raw). so_far.0 ++ events_in l) none
      ∙ append-nil so_far.0 in
      subst (NodeStands picks node plan) (sym all) so_far.1

-- what no call changes stays over two of them
pub same_on : {F : Type 0} (a b d : NodeParts F) → IsSameNode a b → IsSameNode b d → IsSameNode a d
same_on a b d one two = record {
  header = two.header ∙ one.header;
  limit = two.limit ∙ one.limit;
  pick = two.pick ∙ one.pick;
}
