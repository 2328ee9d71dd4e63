-- The answers of a held square: complete, of entries of their sizes, and with exactly the square's shares.
use Rattle.std.proofs.Common.{◌≡◌, ◌∙◌, ℕ, ◌<◌, map, true, false, sym, ap, subst, subst₂, arith}
use Rattle.std.specs.List.{AllByRecursion}
use Rattle.std.proofs.lemmas.Bool.{and_parts}
use Rattle.std.proofs.lemmas.List.{map-id}
use Rattle.std.proofs.lemmas.Simd.{map-map}
use Rattle.namespace_id.specs.declared.cells.Axis.TheVariants.{Row}
use Rattle.namespace_id.specs.declared.namespaces.Namespace.{Namespace}
use Rattle.namespace_id.specs.declared.digests.Digest.{Digest}
use Rattle.namespace_id.specs.Names.{IsNamespace, is_at_most, is_parity}
use Rattle.namespace_id.specs.Digests.{least_of, greatest_of}
use Rattle.data_header.specs.Headers.{root_of}
use Rattle.square_layout.specs.Blocks.{SquareShares}
use Rattle.axis_roots.specs.declared.answers.NsEntry.{NsEntry}
use Rattle.axis_roots.specs.Answers.{IsEntry, AreEntries}
use Rattle.axis_roots.specs.Grids.{IsHeaderOf, header_of_grid}
use Rattle.axis_roots.proofs.Grids.HeaderLemmas.{header_width, header_root, header_made}
use Rattle.square_serve.specs.Shares.{row_shares, namespace_shares}
use Rattle.square_serve.specs.Answers.{shown_found, shown, is_wanted, wanted_rows, is_placed, OpensFound, HoldsEntry, IsComplete}
use Rattle.square_serve.specs.Serving.{HeldParts, IsHeld, Holds, found_in, row_entry, answer_for}
use Rattle.square_serve.proofs.PassingLemmas.{each_passing}
use Rattle.square_serve.proofs.RowTreeLemmas.{IsRow, held_row, root_over, shown_rows}
use Rattle.square_serve.proofs.Serving.OpeningLemmas.{found_opens, found_placed}
use Rattle.square_serve.proofs.Serving.SizeLemmas.{entry_sized}
use Rattle.square_serve.proofs.Serving.ShownLemmas.{found_shown}

-- the entry of a row that may hold a namespace holds
entry_holds : (held : HeldParts) (name : Namespace) → IsHeld held → IsNamespace name → is_parity name ≡ false → (row : ℕ) → row < held.k
    → is_wanted held.header name row ≡ true → HoldsEntry held.header name (row_entry held.k held.grid name row)
entry_holds held name is named other row h wanted =
    let one : IsRow held.k held.grid row = held_row held is row h in
    let root : Digest = root_of held.header Row row in
    let both = and_parts (is_at_most (least_of root) name) (is_at_most name (greatest_of root)) wanted in
    let width : held.k ≡ held.header.k = sym (header_width held.k held.grid held.header is.roots) in
    record {
      placed = ap (λ (k : ℕ). is_placed k (found_in held.k held.grid name row)) (sym width)
          ∙ found_placed name held.k held.grid row named one other root (root_over held.k held.grid row one held.header is.roots) both.0 both.1;
      opens = subst₂ (λ (k : ℕ) (root : Digest). OpensFound k root name (found_in held.k held.grid name row)) width
          (sym (header_root held.k held.grid held.header is.roots Row row (omega (arith, h)))) (found_opens name held.k held.grid row named one);
    }

-- the rows of its entries are those that may hold it
answer-rows : (held : HeldParts) (name : Namespace) → map (λ entry. entry.row) (answer_for held name) ≡ wanted_rows held.header name
answer-rows held name = map-map (λ entry. entry.row) (row_entry held.k held.grid name) (wanted_rows held.header name) ∙ map-id (wanted_rows held.header name)

-- a fact of the entry of each row that may hold it is one of each entry
each_entry : (held : HeldParts) (name : Namespace) → IsHeld held → (P : NsEntry → Type 0)
    → ((row : ℕ) → row < held.k → is_wanted held.header name row ≡ true → P (row_entry held.k held.grid name row)) → AllByRecursion P (answer_for held name)
each_entry held name is P each =
    let width : held.header.k ≡ held.k = header_width held.k held.grid held.header is.roots in
    each_passing (is_wanted held.header name) (row_entry held.k held.grid name) P held.header.k 0 (λ row low high. each row (omega (arith, high, width)))

-- its answer for a namespace is complete
pub answer_complete : (held : HeldParts) (name : Namespace) → IsHeld held → IsNamespace name → is_parity name ≡ false → IsComplete held.header name (answer_for held name)
answer_complete held name is named other = record {
  other = other;
  rows = answer-rows held name;
  entries = each_entry held name is (HoldsEntry held.header name) (entry_holds held name is named other);
}

-- its entries have their sizes
pub answer_sized : (held : HeldParts) (name : Namespace) → IsHeld held → IsNamespace name → AreEntries (answer_for held name)
answer_sized held name is named =
    each_entry held name is IsEntry (λ row h wanted. entry_sized name held.k held.grid row named (held_row held is row h))

-- ---- the square that is held

-- the header is that of the square
pub held_own : (held : HeldParts) (square : SquareShares) → Holds held square → IsHeaderOf held.header square
held_own held square holds =
    header_made square held.grid held.header holds.whole holds.extends (ap (λ (k : ℕ). header_of_grid k held.grid) (sym holds.width) ∙ holds.roots)

-- the answer shows exactly the square's shares of the namespace
pub answer_shares : (held : HeldParts) (square : SquareShares) (name : Namespace) → IsHeld held → Holds held square → IsNamespace name → is_parity name ≡ false
    → shown (answer_for held name) ≡ namespace_shares square name
answer_shares held square name is holds named other =
    shown_rows held.header name square (held_own held square holds) (answer_for held name) other (answer-rows held name)
    (each_entry held name is (λ entry. shown_found entry.row entry.found ≡ row_shares square name entry.row) (λ row h wanted.
    ap (λ (k : ℕ). shown_found row (found_in k held.grid name row)) holds.width
    ∙ found_shown name square held.grid row named other holds.extends (subst (λ (k : ℕ). IsRow k held.grid row) holds.width (held_row held is row h))))
