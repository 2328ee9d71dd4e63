-- A claim that is accepted can be written.
use Rattle.std.proofs.Common.{◌≡◌, ◌∙◌, ℕ, ◌≤◌, Bool, true, false, ◌==◌, ◌&&◌, cond, List, [], ◌∷◌, length, refl, sym, ap, inl, inr, arith}
use Rattle.std.specs.Prelude.{Option, Some, None, IfSome}
use Rattle.std.specs.List.{list_all, list_any}
use Rattle.std.proofs.lemmas.Bool.{and_parts, and_from, cases_Bool}
use Rattle.namespace_id.specs.declared.cells.Axis.{Axis}
use Rattle.namespace_id.specs.declared.digests.Digest.{Digest}
use Rattle.namespace_id.specs.Cells.{is_width, is_in_square}
use Rattle.namespace_id.proofs.WidthLemmas.{is_width-le}
use Rattle.data_header.specs.Headers.{Roots}
use Rattle.axis_roots.specs.declared.message.messages.Message.{Message}
use Rattle.axis_roots.specs.Sets.{is_along, is_shown, is_bare, fits_set, OpensSet}
use Rattle.axis_roots.specs.Claims.{ClaimParts, is_on, is_set_cell, claimed_root, AreProved, HasSet, Accepts}
use Rattle.axis_roots.proofs.Messages.ClaimLemmas.{Shape, shape_of}
use Rattle.axis_roots.proofs.Messages.SetLemmas.{accepted_few}
use Rattle.frame_payloads.specs.kinds.Fraud.{most_cells, is_cell_placed, fits_form, is_unwritten}
use Rattle.frame_payloads.proofs.Forms.CellParts.{is_path}
use Rattle.frame_payloads.proofs.Forms.FraudForm.{written_from, fits_from}

-- ---- the cells

-- a bare cell has no path where the set shows it
bare_path : (k : ℕ) (axis : Axis) (m : Message) → is_bare k axis m ≡ true → is_path (is_along axis m) m.path ≡ true
bare_path k axis m h = by_along (is_along axis m) refl
  where
    by_along : (b : Bool) → is_along axis m ≡ b → is_path b m.path ≡ true
    by_along true t = (and_parts (is_in_square k m.cell) (length m.path == 0) (sym (ap (λ (b : Bool). cond b (is_in_square k m.cell && (length m.path == 0)) true) t) ∙ h)).1
    by_along false f = refl

-- bare cells on the accused axis can be written
all_written : (k : ℕ) (claim : ClaimParts) (cells : List Message) → list_all (is_on claim) cells ≡ true → list_all (is_bare k claim.axis) cells ≡ true → list_all (is_cell_placed claim) cells ≡ true
all_written k claim [] on bare = refl
all_written k claim (m ∷ cells) on bare =
    let here = and_parts (is_on claim m) (list_all (is_on claim) cells) on in
    let there = and_parts (is_bare k claim.axis m) (list_all (is_bare k claim.axis) cells) bare in
    and_from (is_cell_placed claim m) (list_all (is_cell_placed claim) cells)
    (and_from (is_on claim m) (is_path (is_along claim.axis m) m.path) here.0 (bare_path k claim.axis m there.0))
    (all_written k claim cells here.1 there.1)

-- ---- claims

-- a set that shows a cell opens in a square of a width
shown_width : (k : ℕ) (axis : Axis) (cells : List Message) (root : Digest) (set : Option (List Digest)) (m : Message) → is_shown set axis m ≡ true
    → IfSome set (λ nodes. OpensSet k axis cells nodes root) → is_width k ≡ true
shown_width k axis cells root None m shown opens = absurd cc
shown_width k axis cells root (Some nodes) m shown opens = opens.width

-- as many proved cells as a square is wide are few
proved_few : (header : Roots) (claim : ClaimParts) (cells : List Message) → HasSet header claim → AreProved header claim cells → length cells ≡ header.k → length cells ≤ most_cells
proved_few header claim [] opens proved count = omega arith
proved_few header claim (m ∷ cells) opens proved count =
    let width : is_width header.k ≡ true = elim (cases_Bool (is_set_cell claim m)) [
      | inl shown ↦ shown_width header.k claim.axis claim.cells (claimed_root header claim) claim.set m shown opens
      | inr alone ↦ (proved.0 alone).width
    ] in
    omega (arith, count, is_width-le header.k width)

-- the set of a claim that is accepted fits the form, if there is one
accepted_by : (header : Roots) (claim : ClaimParts) (set : Option (List Digest)) → Shape header.k claim → fits_set header.k claim.axis claim.cells set ≡ true
    → IfSome set (λ nodes. OpensSet header.k claim.axis claim.cells nodes (claimed_root header claim)) → IfSome set (λ nodes. length nodes ≤ header.k) → fits_form claim set ≡ true
accepted_by header claim None shape fits opens few = refl
accepted_by header claim (Some nodes) shape fits opens few =
    let k : ℕ = header.k in
    let both = and_parts (list_any (is_along claim.axis) claim.cells) (list_all (is_bare k claim.axis) claim.cells) fits in
    fits_from claim nodes (record { placed = all_written k claim claim.cells shape.on both.1; some = both.0; few = omega (arith, few, is_width-le k opens.width) })

-- a claim that is accepted can be written
pub accepted_written : (header : Roots) (claim : ClaimParts) → Accepts header claim → is_unwritten claim ≡ false
accepted_written header claim accepted =
    let shape = shape_of header.k claim accepted.bad.shape in
    written_from claim (accepted_by header claim claim.set shape accepted.set_shape accepted.set (accepted_few header claim accepted))
    (proved_few header claim claim.cells accepted.set accepted.proved shape.count)
