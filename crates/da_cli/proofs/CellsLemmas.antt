-- What cells writes is what wanted writes of the cells that light waits for without messages.
use Rattle.std.proofs.Common.{◌≡◌, ◌↔◌, ◌⊎◌, ℕ, Bool, true, false, List, [], ◌∷◌, length, Some, Ok, IsSome, sym, subst, refl, inl, inr}
use Rattle.std.specs.Prelude.{◌≢◌, codes, nat_lt}
use Rattle.namespace_id.specs.declared.cells.Axis.{Axis}
use Rattle.namespace_id.specs.declared.cells.Cell.{Cell}
use Rattle.namespace_id.specs.Cells.{CellList, AreCells}
use Rattle.data_header.specs.Headers.{Roots}
use Rattle.sampling.specs.Draws.{draw_limit, drawn_cells}
use Rattle.light_node.specs.declared.events.Light.{Light}
use Rattle.light_node.specs.declared.events.Light.TheVariants as light
use Rattle.light_node.specs.Events.{IsLight}
use Rattle.da_wire.specs.declared.frames.Frame.{Frame}
use Rattle.da_wire.specs.declared.frames.Frame.TheVariants.{Missing}
use Rattle.da_wire.specs.Spelling.{spelling, missing_kind}
use Rattle.da_wire.specs.Reading.{only_of}
use Rattle.da_wire.specs.Single.{missing_of}
use Rattle.da_wire.specs.Laws.{SpelledIsOnly}
use Rattle.da_status.specs.declared.status.Status.TheVariants.{Done, Waiting}
use Rattle.da_status.specs.Outcome.{Relation}
use Rattle.da_files.specs.Contents.{file_of}
use Rattle.da_files.proofs.FileLemmas.{value_single, some_there}
use Rattle.da_files.proofs.FormLemmas.{over_is}
use Rattle.da_serving.specs.Wanted.{missing_in, Wants, WantedOf}
use Rattle.da_judging.specs.Light.{events_in, GivesLight, Counted, Judges}
use Rattle.da_commands.specs.Cells.{Asks, AsksPlanned, AsksFirst}
use Rattle.da_cli.specs.Laws.{IsWantedFirst}

-- a frame with these missing cells is their frame
missing_frame : (frame : Frame) (cells : CellList) → missing_of frame ≡ Some cells → frame ≡ Missing cells
missing_frame (Missing c) cells e = cc
missing_frame frame cells e = absurd cc

-- w is what wanted writes of the cells that are waited for where these were planned, by whether the count is above the limit
abbrev IsWantedBy : Bool → Roots → List Cell → Axis → List ℕ → Type 0
IsWantedBy over header plan axis w =
    ((missing : List ℕ) × (n : ℕ) × Counted over (Judges header plan []) missing (Waiting n) × WantedOf axis (missing ∷ []) w Done)
    ⊎ ((text : List ℕ) × Counted over (Judges header plan []) text Done × (w ≡ []))

module _ (spelled : (cells : CellList) → AreCells cells → cells.list ≢ [] → IsSome (spelling (Missing cells))) (again : SpelledIsOnly) where
  -- missing cells are read from their spelling
  read_again : (cells : CellList) (text : List ℕ) → AreCells cells → spelling (Missing cells) ≡ Some text → missing_in text ≡ Ok cells
  read_again cells text are is =
      value_single missing_of Missing missing_frame (λ x. refl) (only_of text (missing_kind ∷ [])) cells
      (again (Missing cells) text (missing_kind ∷ []) are is refl)

  -- what wanted writes of their spelling
  wanted_of : (axis : Axis) (cells : CellList) (text w : List ℕ) → AreCells cells → spelling (Missing cells) ≡ Some text
      → WantedOf axis (text ∷ []) w Done ↔ Wants axis cells w Done
  unfolding file_of
  wanted_of axis cells text w are is =
      let same = over_is (Wants axis) (missing_in text) cells (read_again cells text are is) in (
        λ h. subst (λ (R : Relation). R w Done) (sym same) h,
        λ h. subst (λ (R : Relation). R w Done) same h,
      )

  -- what is asked for is wanted
  asked_wanted : (axis : Axis) (header : Roots) (plan : List Cell) (verdict : Light) (w : List ℕ) → IsLight header plan [] verdict
      → Asks axis verdict w Done → IsWantedBy false header plan axis w
  unfolding events_in
  asked_wanted axis header plan light.Available w is asks = inr (codes "available\n", (light.Available, is, (refl, refl)), asks.0)
  asked_wanted axis header plan (light.Waiting cells) w is asks =
      let text = some_there (spelling (Missing cells)) (spelled cells is.2.row_major is.1) in
      inl (text.0, length cells.list, (light.Waiting cells, is, (text.1, refl)), (wanted_of axis cells text.0 w is.2.row_major text.1).1 asks)
  asked_wanted axis header plan (light.Rejected claim) w is asks = absurd asks

  -- what is wanted of cells that are waited for is asked for
  wanted_asked : (axis : Axis) (header : Roots) (plan : List Cell) (verdict : Light) (missing w : List ℕ) (n : ℕ)
      → IsLight header plan [] verdict → GivesLight verdict missing (Waiting n) → WantedOf axis (missing ∷ []) w Done → Asks axis verdict w Done
  wanted_asked axis header plan light.Available missing w n is answers wanted = absurd cc
  wanted_asked axis header plan (light.Waiting cells) missing w n is answers wanted =
      (wanted_of axis cells missing w is.2.row_major answers.0).0 wanted
  wanted_asked axis header plan (light.Rejected claim) missing w n is answers wanted = absurd cc

  -- where no cell is waited for, nothing is asked for
  none_asked : (axis : Axis) (verdict : Light) (text w : List ℕ) → GivesLight verdict text Done → w ≡ [] → Asks axis verdict w Done
  none_asked axis light.Available text w answers none = (none, refl)
  none_asked axis (light.Waiting cells) text w answers none = absurd cc
  none_asked axis (light.Rejected claim) text w answers none = absurd cc

  -- both ways, by whether the count is above the limit
  by_limit : (over : Bool) (axis : Axis) (header : Roots) (plan : List Cell) (w : List ℕ)
      → Counted over (AsksPlanned axis header plan) w Done ↔ IsWantedBy over header plan axis w
  unfolding events_in
  by_limit true axis header plan w = (
    λ h. absurd cc,
    λ h. elim h [
      | inl some ↦ let e = some.2.1 in absurd cc
      | inr none ↦ let e = none.1.1 in absurd cc
    ],
  )
  by_limit false axis header plan w = (
    λ h. asked_wanted axis header plan h.0 w h.1 h.2,
    λ h. elim h [
      | inl some ↦ (some.2.0, some.2.1, wanted_asked axis header plan some.2.0 some.0 w some.1 some.2.1 some.2.2 some.3)
      | inr none ↦ (none.1.0, none.1.1, none_asked axis none.1.0 none.0 w none.1.2 none.2)
    ],
  )

  -- what cells writes is what wanted writes of the cells that light waits for without messages
  pub cells_wanted : (header : Roots) (key : List ℕ) (count : ℕ) (axis : Axis) (w : List ℕ)
      → AsksFirst axis key count header w Done ↔ IsWantedFirst header key count axis w
  cells_wanted header key count axis w =
      by_limit (nat_lt (draw_limit header.k) count) axis header (drawn_cells key header.k count) w
