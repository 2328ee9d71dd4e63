-- The tag, the path and the place of a cell of a claim with a set.
use Rattle.std.proofs.Common.{◌≡◌, ◌∙◌, ℕ, zero, suc, ◌^◌, ◌<◌, ◌≤◌, Bool, true, false, eqb, cond, List, [], ◌∷◌, ◌++◌, length, Option, Some, refl, sym, ap, ap₂, subst, arith, eqb-true}
use Rattle.std.proofs.lemmas.Bool.Decides.{nat_tests}
use Rattle.std.proofs.lemmas.List.{nil_from_length}
use Rattle.std.proofs.lemmas.Option.{some_pair_parts}
use Rattle.namespace_id.specs.declared.cells.Axis.{Axis}
use Rattle.namespace_id.specs.declared.cells.Axis.TheVariants.{Row, Col}
use Rattle.namespace_id.specs.declared.cells.Cell.{Cell}
use Rattle.namespace_id.specs.declared.digests.Digest.{Digest}
use Rattle.namespace_id.specs.Bytes.{AreBytes}
use Rattle.namespace_id.specs.Digests.{AreDigests}
use Rattle.namespace_id.specs.Cells.{crossing, IsCell}
use Rattle.namespace_id.specs.Sizes.{most_depth}
use Rattle.axis_roots.specs.Messages.{position, index}
use Rattle.axis_roots.specs.Lines.{cell_on}
use Rattle.axis_roots.specs.Sets.{is_one_axis}
use Rattle.axis_roots.proofs.Grids.AxisLemmas.{cell_on-own}
use Rattle.frame_payloads.specs.codec.Texts.{path_bytes}
use Rattle.frame_payloads.specs.kinds.Fraud.{tag_at, cell_path_at}
use Rattle.frame_payloads.proofs.Fields.Readers.{Takes}
use Rattle.frame_payloads.proofs.Fields.Strings.{AreBytes-rest}
use Rattle.frame_payloads.proofs.Fields.Paths.{path_takes, path_again}

-- ---- the tag

-- the tag of a sample on an axis, in a claim that accuses another or the same
abbrev pub tag_byte : Axis → Axis → ℕ
tag_byte axis found = cond (is_one_axis axis found) 1 0

-- the tag of the crossing axis
tag-crossing : (axis : Axis) → 0 ≡ tag_byte axis (crossing axis)
tag-crossing Row = refl
tag-crossing Col = refl

-- the tag of the accused axis
tag-own : (axis : Axis) → 1 ≡ tag_byte axis axis
tag-own Row = refl
tag-own Col = refl

-- an axis that is answered is the one whose tag stands at the front
tag_is : (axis : Axis) (byte : ℕ) (bytes : List ℕ) (read found : Axis) (rest : List ℕ) → byte ≡ tag_byte axis read → AreBytes (byte ∷ bytes)
    → ◌≡◌ {A = Option (Axis × List ℕ)} (Some (read, bytes)) (Some (found, rest)) → Takes (byte ∷ bytes) (tag_byte axis found ∷ []) rest
tag_is axis byte bytes read found rest b fits e =
    let same = some_pair_parts read found bytes rest e in
    let parts : byte ∷ bytes ≡ tag_byte axis found ∷ rest = ap₂ (λ (x : ℕ) (xs : List ℕ). x ∷ xs) (b ∙ ap (λ (a : Axis). tag_byte axis a) same.0) same.1 in
    record { parts = parts; rest_fits = subst (λ (l : List ℕ). AreBytes l) same.1 (AreBytes-rest byte bytes fits) }

-- a tag that is read is the one that was written
pub tag_takes : (axis : Axis) (bytes : List ℕ) (found : Axis) (rest : List ℕ) → AreBytes bytes → tag_at axis bytes ≡ Some (found, rest) → Takes bytes (tag_byte axis found ∷ []) rest
unfolding tag_at
tag_takes axis [] found rest fits e = absurd cc
tag_takes axis (zero ∷ bytes) found rest fits e = tag_is axis 0 bytes (crossing axis) found rest (tag-crossing axis) fits e
tag_takes axis (suc zero ∷ bytes) found rest fits e = tag_is axis 1 bytes axis found rest (tag-own axis) fits e
tag_takes axis (suc (suc b) ∷ bytes) found rest fits e =
    let cross : eqb (suc (suc b)) 0 ≡ false = grind (arith, nat_tests) in
    let own : eqb (suc (suc b)) 1 ≡ false = grind (arith, nat_tests) in
    absurd cc

-- a tag that was written is read, whatever follows it
pub tag_again : (axis found : Axis) (rest : List ℕ) → tag_at axis (tag_byte axis found ∷ rest) ≡ Some (found, rest)
unfolding tag_at
tag_again Row Row rest = refl
tag_again Row Col rest = refl
tag_again Col Row rest = refl
tag_again Col Col rest = refl

-- ---- the path

-- what is written of a path: nothing where the set shows the cell
abbrev pub path_text : Bool → List Digest → List ℕ
path_text along path = cond along [] (path_bytes path)

-- whether a path may be written: it has no nodes where the set shows the cell
abbrev pub is_path : Bool → List Digest → Bool
is_path along path = cond along (eqb (length path) 0) true

-- a path that is read is the one that was written
pub cell_path_takes : (along : Bool) (bytes : List ℕ) (path : List Digest) (rest : List ℕ) → AreBytes bytes → cell_path_at along bytes ≡ Some (path, rest)
    → Takes bytes (path_text along path) rest × (length path ≤ most_depth) × AreDigests path × (is_path along path ≡ true)
cell_path_takes true bytes path rest fits e =
    let same = some_pair_parts [] path bytes rest e in
    subst (λ (l : List Digest). Takes bytes [] rest × (length l ≤ most_depth) × AreDigests l × (is_path true l ≡ true)) same.0
    (record { parts = same.1; rest_fits = subst (λ (l : List ℕ). AreBytes l) same.1 fits }, omega arith, tt, refl)
cell_path_takes false bytes path rest fits e =
    let t = path_takes most_depth bytes path rest fits e in
    (t.0, t.1, t.2, refl)

-- a path that was written is read, whatever follows it
pub cell_path_again : (along : Bool) (path : List Digest) (rest : List ℕ) → length path ≤ most_depth → AreDigests path → is_path along path ≡ true
    → cell_path_at along (path_text along path ++ rest) ≡ Some (path, rest)
cell_path_again true path rest few all is =
    let none : [] ≡ path = sym (nil_from_length path (eqb-true (length path) 0 is)) in
    ap (λ (l : List Digest). Some (l, rest)) none
cell_path_again false path rest few all is = path_again most_depth path rest few all

-- ---- the place

-- a cell on an axis has numbers of two bytes
pub on_cell : (axis : Axis) (i pos : ℕ) → i < 2 ^ 16 → pos < 2 ^ 16 → IsCell (cell_on axis i pos)
on_cell Row i pos h k = record { row = h; col = k }
on_cell Col i pos h k = record { row = k; col = h }

-- a position of a cell has two bytes
pub position-bytes : (axis : Axis) (cell : Cell) → cell.row < 2 ^ 16 → cell.col < 2 ^ 16 → position axis cell < 2 ^ 16
position-bytes Row cell row col = col
position-bytes Col cell row col = row

-- a cell on an axis is the one at its position
pub cell_there : (axis : Axis) (i : ℕ) (cell : Cell) → eqb (index axis cell) i ≡ true → cell_on axis i (position axis cell) ≡ cell
cell_there axis i cell on = ap (λ (n : ℕ). cell_on axis n (position axis cell)) (sym (eqb-true (index axis cell) i on)) ∙ cell_on-own axis cell
