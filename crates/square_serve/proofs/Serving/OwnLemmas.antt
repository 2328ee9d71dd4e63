-- A square that has a header, as one that is held, and its answers.
use Rattle.std.proofs.Common.{◌≡◌, ◌∙◌, ℕ, List, map, false, refl, sym, ap, subst}
use Rattle.namespace_id.specs.declared.namespaces.Namespace.{Namespace}
use Rattle.namespace_id.specs.declared.shares.Share.{Share}
use Rattle.namespace_id.specs.Names.{IsNamespace, is_parity}
use Rattle.data_header.specs.Headers.{Roots}
use Rattle.square_layout.specs.Blocks.{SquareShares}
use Rattle.axis_roots.specs.declared.answers.NsEntry.{NsEntry}
use Rattle.axis_roots.specs.Answers.{AreEntries}
use Rattle.axis_roots.specs.Grids.{Extends, IsHeaderOf, are_ordered_axes, grid_roots}
use Rattle.axis_roots.proofs.Grids.HeaderLemmas.{some_if}
use Rattle.axis_roots.proofs.Grids.QuarterLemmas.{extension_shares}
use Rattle.square_serve.specs.Shares.{namespace_shares}
use Rattle.square_serve.specs.Answers.{shown, wanted_rows, IsComplete}
use Rattle.square_serve.specs.Serving.{HeldParts, IsHeld, Holds, row_entry, answer_for}
use Rattle.square_serve.proofs.Serving.AnswerLemmas.{answer_complete, answer_sized, answer_shares}

-- a square with its header, as one that is held
abbrev pub held_of : (header : Roots) (square : SquareShares) → IsHeaderOf header square → HeldParts
held_of header square own = record { k = square.k; grid = own.grid; header = header }

-- it is
pub held_own : (header : Roots) (square : SquareShares) (own : IsHeaderOf header square) → IsHeld (held_of header square own)
held_own header square own = record {
  grid = record { width = own.whole.width; count = own.extends.size };
  shares = extension_shares square.k square.shares own.grid own.whole.width own.extends;
  roots = own.roots;
}

-- and holds the square
pub holds_own : (header : Roots) (square : SquareShares) (own : IsHeaderOf header square) → Holds (held_of header square own) square
holds_own header square own = record { whole = own.whole; width = refl; extends = own.extends; roots = own.roots }

-- there is an answer for each namespace but PARITY
pub own_answer : (header : Roots) (square : SquareShares) (name : Namespace) → IsHeaderOf header square → IsNamespace name → is_parity name ≡ false
    → (answer : List NsEntry) × IsComplete header name answer × AreEntries answer × (shown answer ≡ namespace_shares square name)
own_answer header square name own named other =
    let held : HeldParts = held_of header square own in
    let is : IsHeld held = held_own header square own in (
      answer_for held name,
      answer_complete held name is named other,
      answer_sized held name is named,
      answer_shares held square name is (holds_own header square own) named other,
    )

-- entries are those of each extension of a square
abbrev pub AreFound : SquareShares → Namespace → List NsEntry → Type 0
AreFound square name entries =
    (grid : List Share) → Extends square.k square.shares grid
    → entries ≡ map (row_entry square.k grid name) (wanted_rows (grid_roots square.k grid) name)

module _ (square : SquareShares) (name : Namespace) (entries : List NsEntry) (are : AreFound square name entries) where
  -- entries that are those of each extension are the answer of whoever holds the square
  pub entries_held : (held : HeldParts) → Holds held square → entries ≡ answer_for held name
  entries_held held holds =
      let made : held.header ≡ grid_roots held.k held.grid = (some_if (are_ordered_axes held.k held.grid) (grid_roots held.k held.grid) held.header holds.roots).1 in
      are held.grid holds.extends
      ∙ ap (λ (k : ℕ). map (row_entry k held.grid name) (wanted_rows (grid_roots k held.grid) name)) (sym holds.width)
      ∙ ap (λ (header : Roots). map (row_entry held.k held.grid name) (wanted_rows header name)) (sym made)

  -- so they are complete under the square's header
  pub entries_complete : IsNamespace name → is_parity name ≡ false → (header : Roots) → IsHeaderOf header square → IsComplete header name entries
  entries_complete named other header own =
      subst (IsComplete header name) (sym (entries_held (held_of header square own) (holds_own header square own)))
      (answer_complete (held_of header square own) name (held_own header square own) named other)

  -- and show exactly the square's shares of the namespace
  pub entries_shares : IsNamespace name → is_parity name ≡ false → (header : Roots) → IsHeaderOf header square → shown entries ≡ namespace_shares square name
  entries_shares named other header own =
      ap shown (entries_held (held_of header square own) (holds_own header square own))
      ∙ answer_shares (held_of header square own) square name (held_own header square own) (holds_own header square own) named other
