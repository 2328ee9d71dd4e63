-- What the command cells answers.
use Rattle.std.proofs.Common.{◌≡◌, ℕ, ◌<◌, Bool, true, false, List, [], ◌∷◌, ◌++◌, refl, sym, ap, subst}
use Rattle.std.specs.Prelude.{nat_lt}
use Rattle.namespace_id.specs.declared.cells.Axis.{Axis}
use Rattle.namespace_id.specs.declared.cells.Cell.{Cell}
use Rattle.data_header.specs.Headers.{Roots}
use Rattle.sampling.specs.Draws.{draw_limit, drawn_cells}
use Rattle.light_node.specs.declared.events.Event.{Event}
use Rattle.light_node.specs.declared.events.Light.{Light}
use Rattle.light_node.specs.declared.events.Light.TheVariants as light
use Rattle.light_node.specs.Events.{IsLight}
use Rattle.da_wire.specs.Reading.{raw_of}
use Rattle.da_wire.specs.Frames.{raw_in, frames_of}
use Rattle.da_wire.proofs.WalkLemmas.{walk_stop}
use Rattle.da_status.specs.declared.status.Asked.TheVariants.{Count}
use Rattle.da_status.specs.declared.status.Status.{Status}
use Rattle.da_status.specs.declared.status.Status.TheVariants.{Done, BadRequest}
use Rattle.da_status.specs.Statuses.{status_kind}
use Rattle.da_status.specs.Outcome.{Relation}
use Rattle.da_status.proofs.EndLemmas.{IsAnswer, status_answers}
use Rattle.da_files.specs.Contents.{header_file}
use Rattle.da_files.specs.Frames.{header_in}
use Rattle.da_files.proofs.FormLemmas.{over_each}
use Rattle.da_judging.specs.Keys.{key_file_in}
use Rattle.da_judging.specs.Light.{events_in, Counted}
use Rattle.da_judging.proofs.LightLemmas.{not_below}
use Rattle.da_commands.specs.Cells.{HasNoClaim, Asks, AsksPlanned, AsksFirst, CellsOf, cells_key_file, CellsByOf}

-- ---- no messages

-- no bytes are no events
pub no_events : events_in (frames_of []) ≡ []
unfolding events_in raw_of
no_events = ap events_in (walk_stop raw_in [] refl)

-- a list with an element isn't empty
some_between : (before after : List Event) (event : Event) → [] ≡ before ++ event ∷ after → ⊥
some_between [] after event e = absurd cc
some_between (first ∷ before) after event e = absurd cc

-- no claim is accepted where there are no messages
pub no_claim : (header : Roots) (plan : List Cell) (verdict : Light) → IsLight header plan [] verdict → HasNoClaim verdict
no_claim header plan light.Available is = tt
no_claim header plan (light.Waiting cells) is = tt
no_claim header plan (light.Rejected claim) is = some_between is.1 is.2 _ is.3

-- ---- the count

-- what is asked for, by whether the count is above the limit
abbrev by_limit : Bool → Axis → Roots → List Cell → Relation
by_limit over axis header plan = Counted over (AsksPlanned axis header plan)

-- what is asked for after the verdict on the cells that the key draws
pub asks_verdict : (axis : Axis) (key : List ℕ) (count : ℕ) (header : Roots) (plan : List Cell) (verdict : Light)
    → (draw_limit header.k < count → ⊥) → plan ≡ drawn_cells key header.k count → IsLight header plan [] verdict
    → (w : List ℕ) (status : Status) → Asks axis verdict w status → AsksFirst axis key count header w status
asks_verdict axis key count header plan verdict within drawn is w status asks =
    let planned : AsksPlanned axis header (drawn_cells key header.k count) w status =
    (verdict, subst (λ (cells : List Cell). IsLight header cells [] verdict) drawn is, asks) in
    subst (λ (b : Bool). by_limit b axis header (drawn_cells key header.k count) w status)
    (sym (not_below (draw_limit header.k) count within)) planned

-- ---- answers

-- what is asked for comes with a complete output
asks_done : (axis : Axis) (verdict : Light) (w : List ℕ) (status : Status) → Asks axis verdict w status → status ≡ Done
asks_done axis light.Available w status asks = asks.1
asks_done axis (light.Waiting cells) w status asks = asks.1
asks_done axis (light.Rejected claim) w status asks = absurd asks

-- what is answered to a count is an answer
limit_answers : (over : Bool) (axis : Axis) (header : Roots) (plan : List Cell) (w : List ℕ) (status : Status)
    → by_limit over axis header plan w status → IsAnswer (status_kind status)
limit_answers true axis header plan w status h = status_answers status (BadRequest Count) h.1 tt
limit_answers false axis header plan w status h = status_answers status Done (asks_done axis h.0 w status h.2) tt

-- what cells answers to its file is an answer
pub cells_answers : (key : List ℕ) (count : ℕ) (axis : Axis) (files : List (List ℕ)) (w : List ℕ) (status : Status)
    → CellsOf key count axis files w status → IsAnswer (status_kind status)
cells_answers key count axis files w status r =
    over_each (AsksFirst axis key count) (header_in (header_file files)) w status (IsAnswer (status_kind status))
    (λ h. limit_answers (nat_lt (draw_limit h.k) count) axis h (drawn_cells key h.k count) w status) r

-- ---- a key in a file

-- what cells answers to a key in a file is an answer
pub cells_by_answers : (count : ℕ) (axis : Axis) (files : List (List ℕ)) (w : List ℕ) (status : Status)
    → CellsByOf count axis files w status → IsAnswer (status_kind status)
cells_by_answers count axis files w status r =
    over_each (λ key. CellsOf key count axis files) (key_file_in (cells_key_file files)) w status (IsAnswer (status_kind status))
    (λ key. cells_answers key count axis files w status) r
