-- Missing cells that are read of a payload are what the payload spells, and the payload that missing cells
-- have is read.
use Rattle.std.proofs.Common.{◌+◌, ◌≡◌, ◌∙◌, ℕ, ◌*◌, ◌^◌, ◌<◌, ◌≤◌, true, false, not, ltb, eqb, ◌&&◌, ◌||◌, cond, List, [], ◌∷◌, ◌++◌, length, Option, None, Some, sym, ap, ap₂, subst, arith, eqb-true, eq-eqb, ltb-true}
use Rattle.std.specs.Int.{w16, w32, to_be_bytes}
use Rattle.std.specs.List.{flat_map, list_all, AllByRecursion}
use Rattle.std.proofs.lemmas.Bool.{and_parts, or_parts, or_from, not-false, not_from_true}
use Rattle.std.proofs.lemmas.Option.{cond_some}
use Rattle.namespace_id.specs.declared.cells.Cell.{Cell}
use Rattle.namespace_id.specs.Bytes.{AreBytes}
use Rattle.namespace_id.specs.Cells.{is_width, is_in_square, is_before, are_cells, CellList, AreCells, IsCell}
use Rattle.namespace_id.specs.Lists.{holds_along}
use Rattle.namespace_id.specs.Sizes.{greatest_width}
use Rattle.frame_fields.specs.Fields.{big_endian_at, cells_of}
use Rattle.frame_payloads.specs.codec.Texts.{cell_bytes}
use Rattle.frame_payloads.specs.kinds.Missing.{missing_payload, missing_at}
use Rattle.frame_payloads.proofs.Fields.Readers.{bind_some, bind_again, if_false, if_false_again, if_true_again, Takes, Takes-then}
use Rattle.frame_payloads.proofs.Fields.Numbers.{wide16, wide32, number_takes, number_again}
use Rattle.frame_payloads.proofs.Fields.Cells.{length-cells_of, length-cells_bytes, cells_bytes-of, cells_of-bytes}
use Rattle.namespace_id.proofs.WidthLemmas.{is_width-le}
use Rattle.frame_payloads.proofs.Forms.Form.{IsForm}

-- the list of cells of the square of this width
abbrev cell_list : ℕ → List Cell → CellList
cell_list k list = record { k = k; list = list }

-- ---- read

-- a count and so many bytes are missing cells
missing_is : (payload : List ℕ) (k count : ℕ) (rest : List ℕ) → eqb count 0 ≡ false → length rest ≡ 4 * count → are_cells k (cells_of count rest) ≡ true → Takes payload (to_be_bytes w16 k ++ to_be_bytes w32 count) rest
    → AreCells (cell_list k (cells_of count rest)) × (payload ≡ missing_payload (cell_list k (cells_of count rest))) × (eqb (length (cells_of count rest)) 0 ≡ false)
missing_is payload k count rest some len are t =
    let n : count ≡ length (cells_of count rest) = sym (length-cells_of count rest) in
    let spelled : rest ≡ flat_map cell_bytes (cells_of count rest) = sym (cells_bytes-of count rest t.rest_fits len) in (
      are,
      t.parts ∙ ap₂ (λ (m : ℕ) (l : List ℕ). to_be_bytes w16 k ++ to_be_bytes w32 m ++ l) n spelled,
      subst (λ (m : ℕ). eqb m 0 ≡ false) n some,
    )

-- missing cells that are read of a payload are what the payload spells, and are some
pub missing_takes : (payload : List ℕ) (cells : CellList) → AreBytes payload → missing_at payload ≡ Some cells
    → AreCells cells × (payload ≡ missing_payload cells) × (eqb (length cells.list) 0 ≡ false)
unfolding missing_at
missing_takes payload cells fits e =
    let a = bind_some (big_endian_at w16 payload) _ cells e in
    let b = bind_some (big_endian_at w32 a.0.1) _ cells a.2 in
    let t = number_takes w16 (2 ^ 16) wide16 payload a.0.0 a.0.1 fits a.1 in
    let u = number_takes w32 (2 ^ 32) wide32 a.0.1 b.0.0 b.0.1 t.0.rest_fits b.1 in
    let read : Option CellList = cond (are_cells a.0.0 (cells_of b.0.0 b.0.1)) (Some (cell_list a.0.0 (cells_of b.0.0 b.0.1))) None in
    let c = if_false (eqb b.0.0 0 || not (eqb (length b.0.1) (4 * b.0.0))) read cells b.2 in
    let n = or_parts (eqb b.0.0 0) (not (eqb (length b.0.1) (4 * b.0.0))) c.0 in
    let g = cond_some (are_cells a.0.0 (cells_of b.0.0 b.0.1)) (cell_list a.0.0 (cells_of b.0.0 b.0.1)) cells c.1 in
    let len : length b.0.1 ≡ 4 * b.0.0 = eqb-true (length b.0.1) (4 * b.0.0) (not-false (eqb (length b.0.1) (4 * b.0.0)) n.1) in
    let both = Takes-then payload (to_be_bytes w16 a.0.0) a.0.1 (to_be_bytes w32 b.0.0) b.0.1 t.0 u.0 in
    subst (λ (x : CellList). AreCells x × (payload ≡ missing_payload x) × (eqb (length x.list) 0 ≡ false)) g.1
    (missing_is payload a.0.0 b.0.0 b.0.1 n.0 len g.0 both)

-- ---- spelled

-- cells of a square have numbers of two bytes
in_square : (k : ℕ) (cells : List Cell) → k ≤ greatest_width → list_all (is_in_square k) cells ≡ true → AllByRecursion IsCell cells
in_square k [] few all = tt
in_square k (c ∷ cs) few all =
    let here = and_parts (is_in_square k c) (list_all (is_in_square k) cs) all in
    let both = and_parts (ltb c.row (2 * k)) (ltb c.col (2 * k)) here.0 in
    let row : c.row < 2 * k = ltb-true c.row (2 * k) both.0 in
    let col : c.col < 2 * k = ltb-true c.col (2 * k) both.1 in
    (record { row = omega arith; col = omega arith }, in_square k cs few here.1)

-- the payload of missing cells is read as them
pub missing_again : (cells : CellList) → AreCells cells → eqb (length cells.list) 0 ≡ false → length cells.list < 2 ^ 32 → missing_at (missing_payload cells) ≡ Some cells
unfolding missing_at
missing_again cells are some few =
    let count : ℕ = length cells.list in
    let bytes : List ℕ = flat_map cell_bytes cells.list in
    let parts = and_parts (is_width cells.k && list_all (is_in_square cells.k) cells.list) (holds_along is_before cells.list) are in
    let inside = and_parts (is_width cells.k) (list_all (is_in_square cells.k) cells.list) parts.0 in
    let narrow : cells.k ≤ greatest_width = is_width-le cells.k inside.0 in
    let same : cells_of count bytes ≡ cells.list = cells_of-bytes cells.list (in_square cells.k cells.list narrow inside.1) in
    let len : eqb (length bytes) (4 * count) ≡ true = eq-eqb _ _ (length-cells_bytes cells.list) in
    let read : Option CellList = cond (are_cells cells.k (cells_of count bytes)) (Some (cell_list cells.k (cells_of count bytes))) None in
    let cells_read : read ≡ Some cells =
    if_true_again (are_cells cells.k (cells_of count bytes)) (Some (cell_list cells.k (cells_of count bytes))) cells
    (subst (λ (l : List Cell). are_cells cells.k l ≡ true) (sym same) are) (ap (λ (l : List Cell). Some (cell_list cells.k l)) same) in
    let tests : (eqb count 0 || not (eqb (length bytes) (4 * count))) ≡ false = or_from (eqb count 0) (not (eqb (length bytes) (4 * count))) some (not_from_true (eqb (length bytes) (4 * count)) len) in
    let tail : List ℕ = to_be_bytes w32 count ++ bytes in
    bind_again (big_endian_at w16 (missing_payload cells)) _ (cells.k, tail) cells (number_again w16 (2 ^ 16) wide16 cells.k tail (omega (arith, narrow)))
    (bind_again (big_endian_at w32 tail) _ (count, bytes) cells (number_again w32 (2 ^ 32) wide32 count bytes few)
    (if_false_again (eqb count 0 || not (eqb (length bytes) (4 * count))) read cells tests cells_read))

-- the payload of missing cells has six bytes, and four for each cell
pub length-missing : (cells : CellList) → 6 + 4 * length cells.list ≡ length (missing_payload cells)
length-missing cells = omega (arith, length-cells_bytes cells.list)

-- the form of this kind
pub missing_form : IsForm AreCells missing_at missing_payload (λ cells. eqb (length cells.list) 0)
missing_form = record {
  takes = missing_takes;
  again = λ x is some few. missing_again x is some (omega (arith, few, length-missing x));
}
