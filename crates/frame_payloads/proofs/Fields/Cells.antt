-- A cell that is read is the cell that was written, and a cell that was written is read; the same of cells
-- one after another.
use Rattle.std.proofs.Common.{◌≡◌, ◌∙◌, ℕ, zero, suc, ◌+◌, ◌*◌, ◌^◌, ◌≤◌, List, [], ◌∷◌, ◌++◌, length, take, drop, Some, refl, sym, ap, ap₂, arith, length-take-le}
use Rattle.std.specs.Int.{w16, to_be_bytes, from_be_bytes}
use Rattle.std.specs.List.{flat_map, AllByRecursion}
use Rattle.std.proofs.lemmas.List.{take-append-drop, length-append, length-drop, drop-drop, nil_from_length}
use Rattle.namespace_id.specs.declared.cells.Cell.{Cell}
use Rattle.namespace_id.specs.Bytes.{AreBytes}
use Rattle.namespace_id.specs.Cells.{cell_in, IsCell}
use Rattle.namespace_id.proofs.StringLemmas.{AreBytes-take, AreBytes-drop}
use Rattle.frame_fields.specs.Fields.{big_endian_at, cells_of, cell_at}
use Rattle.frame_payloads.specs.codec.Texts.{cell_bytes}
use Rattle.frame_payloads.proofs.Fields.Readers.{bind_some, bind_again, Takes, Takes-then, Takes-read}
use Rattle.frame_payloads.proofs.Fields.Numbers.{wide16, number_takes, number_again}

-- ---- one cell

-- a cell that is read is the one that was written
pub cell_takes : (bytes : List ℕ) (c : Cell) (rest : List ℕ) → AreBytes bytes → cell_at bytes ≡ Some (c, rest) → Takes bytes (cell_bytes c) rest × IsCell c
unfolding cell_at
cell_takes bytes c rest fits e =
    let read : Cell × List ℕ = (c, rest) in
    let a = bind_some (big_endian_at w16 bytes) _ read e in
    let b = bind_some (big_endian_at w16 a.0.1) _ read a.2 in
    let t = number_takes w16 (2 ^ 16) wide16 bytes a.0.0 a.0.1 fits a.1 in
    let u = number_takes w16 (2 ^ 16) wide16 a.0.1 b.0.0 b.0.1 t.0.rest_fits b.1 in
    Takes-read cell_bytes IsCell bytes (cell_in a.0.0 b.0.0) c b.0.1 rest b.2 (record { row = t.1; col = u.1 })
    (Takes-then bytes (to_be_bytes w16 a.0.0) a.0.1 (to_be_bytes w16 b.0.0) b.0.1 t.0 u.0)

-- a cell that was written is read, whatever follows it
pub cell_again : (c : Cell) (rest : List ℕ) → IsCell c → cell_at (cell_bytes c ++ rest) ≡ Some (c, rest)
unfolding cell_at
cell_again c rest is =
    let tail : List ℕ = to_be_bytes w16 c.col ++ rest in
    let read : Cell × List ℕ = (c, rest) in
    bind_again (big_endian_at w16 (cell_bytes c ++ rest)) _ (c.row, tail) read (number_again w16 (2 ^ 16) wide16 c.row tail is.row)
    (bind_again (big_endian_at w16 tail) _ (c.col, rest) read (number_again w16 (2 ^ 16) wide16 c.col rest is.col) refl)

-- ---- cells one after another

-- so many cells as were asked for are read
pub length-cells_of : (count : ℕ) (bytes : List ℕ) → length (cells_of count bytes) ≡ count
unfolding cells_of
length-cells_of zero bytes = refl
length-cells_of (suc count) bytes = ap suc (length-cells_of count (drop 4 bytes))

-- each cell is written in four bytes
pub length-cells_bytes : (cells : List Cell) → length (flat_map cell_bytes cells) ≡ 4 * length cells
length-cells_bytes [] = refl
length-cells_bytes (c ∷ cs) =
    let sum : length (flat_map cell_bytes (c ∷ cs)) ≡ length (cell_bytes c) + length (flat_map cell_bytes cs) = length-append (cell_bytes c) (flat_map cell_bytes cs) in
    let first : length (cell_bytes c) ≡ 4 = refl in
    let others : length (flat_map cell_bytes cs) ≡ 4 * length cs = length-cells_bytes cs in
    omega (arith, sum, first, others)

-- four bytes are the cell that they spell
four_bytes : (bytes : List ℕ) → AreBytes bytes → 4 ≤ length bytes
    → cell_bytes (cell_in (from_be_bytes w16 (take 2 bytes)) (from_be_bytes w16 (take 2 (drop 2 bytes)))) ++ drop 4 bytes ≡ bytes
four_bytes bytes fits long =
    let after : List ℕ = drop 2 bytes in
    let front : length (take 2 bytes) ≡ 2 = length-take-le 2 bytes (omega arith) in
    let behind : length (take 2 after) ≡ 2 = length-take-le 2 after (omega (arith, length-drop 2 bytes)) in
    let row : to_be_bytes w16 (from_be_bytes w16 (take 2 bytes)) ≡ take 2 bytes = wide16.back (take 2 bytes) front (AreBytes-take 2 bytes fits) in
    let col : to_be_bytes w16 (from_be_bytes w16 (take 2 after)) ≡ take 2 after = wide16.back (take 2 after) behind (AreBytes-take 2 after (AreBytes-drop 2 bytes fits)) in
    let left : drop 4 bytes ≡ drop 2 after = sym (drop-drop 2 2 bytes) in
    let right : take 2 after ++ drop 4 bytes ≡ after = ap (λ (l : List ℕ). take 2 after ++ l) left ∙ take-append-drop 2 after in
    let all : take 2 bytes ++ after ≡ bytes = take-append-drop 2 bytes in
    ap₂ (λ (x y : List ℕ). x ++ (y ++ drop 4 bytes)) row col ∙ (ap (λ (l : List ℕ). take 2 bytes ++ l) right ∙ all)

-- the cells of bytes spell them
pub cells_bytes-of : (count : ℕ) (bytes : List ℕ) → AreBytes bytes → length bytes ≡ 4 * count → flat_map cell_bytes (cells_of count bytes) ≡ bytes
unfolding cells_of
cells_bytes-of zero bytes fits len =
    let none : length bytes ≡ 0 = omega arith in
    sym (nil_from_length bytes none)
cells_bytes-of (suc count) bytes fits len =
    let first : Cell = cell_in (from_be_bytes w16 (take 2 bytes)) (from_be_bytes w16 (take 2 (drop 2 bytes))) in
    let behind : length (drop 4 bytes) ≡ 4 * count = omega (arith, length-drop 4 bytes) in
    ap (λ (l : List ℕ). cell_bytes first ++ l) (cells_bytes-of count (drop 4 bytes) (AreBytes-drop 4 bytes fits) behind)
    ∙ four_bytes bytes fits (omega arith)

-- the cells of a spelling are those spelled
pub cells_of-bytes : (cells : List Cell) → AllByRecursion IsCell cells → cells_of (length cells) (flat_map cell_bytes cells) ≡ cells
unfolding cells_of
cells_of-bytes [] all = refl
cells_of-bytes (c ∷ cs) all =
    let first : cell_in (from_be_bytes w16 (to_be_bytes w16 c.row)) (from_be_bytes w16 (to_be_bytes w16 c.col)) ≡ c =
    ap₂ (λ (r k : ℕ). cell_in r k) (wide16.again c.row all.0.row) (wide16.again c.col all.0.col) in
    ap₂ (λ (x : Cell) (xs : List Cell). x ∷ xs) first (cells_of-bytes cs all.1)
