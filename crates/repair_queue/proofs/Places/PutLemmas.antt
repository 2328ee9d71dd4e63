-- Slots after a sample was put into one that was empty.
use Rattle.std.proofs.Common.{◌≡◌, ◌∙◌, sym, ap, inl, inr}
use Rattle.std.specs.Prelude.{◌⊎◌, Some, None}
use Rattle.namespace_id.specs.declared.cells.Cell.{Cell}
use Rattle.namespace_id.specs.declared.cells.Axis.{Axis}
use Rattle.namespace_id.specs.declared.shares.Share.{Share}
use Rattle.axis_roots.specs.declared.message.proved.Proved.{Proved}
use Rattle.axis_roots.specs.Proved.{kept_message}
use Rattle.repair_queue.specs.Slots.{Kept, IsPut}
use Rattle.repair_queue.specs.Repairs.{Shows}
use Rattle.repair_queue.proofs.Places.PlaceLemmas.{same_slot}

module _ (old new : Kept) (kept : Proved) (put : IsPut old new (kept_message kept).axis (kept_message kept).cell kept) where
  -- what stands in a slot now is the new sample, or stood there
  pub put_cases : (axis : Axis) (cell : Cell) (a : Proved) → new axis cell ≡ Some a
      → ((axis ≡ (kept_message kept).axis) × (cell ≡ (kept_message kept).cell) × (kept ≡ a)) ⊎ (old axis cell ≡ Some a)
  put_cases axis cell a e = elim (same_slot axis (kept_message kept).axis cell (kept_message kept).cell) [
    | inl (ea, ec) ↦
        let there : new axis cell ≡ Some kept = ap (λ (x : Axis). new x cell) ea ∙ ap (new (kept_message kept).axis) ec ∙ put.here in
        let is : Some kept ≡ Some a = sym there ∙ e in
        inl (ea, ec, (cc))
    | inr apart ↦ inr (sym (put.elsewhere axis cell apart) ∙ e)
  ]

  module _ (empty : old (kept_message kept).axis (kept_message kept).cell ≡ None) where
    -- what a slot showed it shows still
    pub put_still : (axis : Axis) (cell : Cell) (share : Share) → Shows (old axis cell) share → Shows (new axis cell) share
    put_still axis cell share shows = elim (same_slot axis (kept_message kept).axis cell (kept_message kept).cell) [
      | inl (ea, ec) ↦
          let there : None ≡ Some shows.kept = sym (ap (λ (x : Axis). old x cell) ea ∙ ap (old (kept_message kept).axis) ec ∙ empty) ∙ shows.held in
          absurd cc
      | inr apart ↦ record { kept = shows.kept; held = put.elsewhere axis cell apart ∙ shows.held; share_is = shows.share_is }
    ]
