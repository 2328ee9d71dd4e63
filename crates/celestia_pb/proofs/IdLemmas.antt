-- Identifiers, written and read.
use Rattle.std.proofs.Common.{◌≡◌, ◌∙◌, ℕ, ◌^◌, ◌<◌, Bool, true, cond, ◌&&◌, eqb, eqb-true, leb, leb-true, le-leb, List, [], ◌∷◌, ◌++◌, length, take, drop, Option, Some, None, Result, Ok, refl, sym, ap, ap₂, subst, arith, append_assoc, append-nil, length-append, take-append-drop, length-take-le}
use Rattle.std.specs.Int.{w16, w64, to_be_bytes, from_be_bytes}
use Rattle.std.specs.Str.{bytes_eq}
use Rattle.std.proofs.lemmas.Bool.{and_parts, and_from}
use Rattle.std.proofs.lemmas.List.{take_at, drop_at, nil_from_length}
use Rattle.std.proofs.lemmas.Nat.{be_bytes_2, from_be_bytes-to_be_bytes_2}
use Rattle.std.proofs.lemmas.Option.{cond_some}
use Rattle.std.proofs.lemmas.Slice.Eq.{bytes_eq-Decides}
use Rattle.namespace_id.specs.declared.cells.Cell.{Cell}
use Rattle.namespace_id.specs.declared.namespaces.Namespace.{Namespace}
use Rattle.namespace_id.specs.Bytes.{AreBytes}
use Rattle.namespace_id.specs.Names.{IsNamespace}
use Rattle.proto_fields.proofs.CanonicalVarints.{front_fits, behind_fits}
use Rattle.celestia_pb.specs.Reading.{then_read, or_left, with_offset}
use Rattle.namespace_id.specs.Cells.{IsCell}
use Rattle.celestia_pb.specs.Ids.{sample_id_text, namespace_id_text, behind_height, short_at, name_front, id_end, after_height, id_cell, id_col, id_row, id_name, sample_id_left, namespace_id_left, sample_id_value, namespace_id_value}
use Rattle.celestia_pb.proofs.Steps.{cond_ok, then_ok, placed_ok, same_ok}

-- ---- so many bytes at the front

-- there are so many
front_there : (size : ℕ) (front rest : List ℕ) → length front ≡ size → leb size (length (front ++ rest)) ≡ true
front_there size front rest len = le-leb size (length (front ++ rest)) (omega (arith, length-append front rest))

-- what was taken off is in front
front_parts : (size : ℕ) (bytes : List ℕ) → bytes ≡ take size bytes ++ drop size bytes
front_parts size bytes = sym (take-append-drop size bytes)

-- ---- what is written is read

-- the height
height_is_read : (height : ℕ) (rest : List ℕ) → behind_height height (to_be_bytes w64 height ++ rest) ≡ Some rest
height_is_read height rest =
    let front : List ℕ = to_be_bytes w64 height in
    let len : length front ≡ 8 = refl in
    let same : bytes_eq (take 8 (front ++ rest)) front ≡ true = (bytes_eq-Decides (take 8 (front ++ rest)) front).1 (take_at front rest 8 len) in
    ap (λ (b : Bool). cond b (Some (drop 8 (front ++ rest))) None) (and_from _ _ (front_there 8 front rest len) same)
    ∙ ap (λ (l : List ℕ). Some l) (drop_at front rest 8 len)

-- a number of two bytes
short_is_read : (n : ℕ) (rest : List ℕ) → n < 2 ^ 16 → short_at (to_be_bytes w16 n ++ rest) ≡ Some (n, rest)
short_is_read n rest lt =
    let front : List ℕ = to_be_bytes w16 n in
    let len : length front ≡ 2 = refl in
    ap (λ (b : Bool). cond b (Some (from_be_bytes w16 (take 2 (front ++ rest)), drop 2 (front ++ rest))) None) (front_there 2 front rest len)
    ∙ ap₂ (λ (f r : List ℕ). Some (from_be_bytes w16 f, r)) (take_at front rest 2 len) (drop_at front rest 2 len)
    ∙ ap (λ (m : ℕ). Some (m, rest)) (from_be_bytes-to_be_bytes_2 n lt)

-- a namespace
name_is_read : (name : Namespace) (rest : List ℕ) → length name.0 ≡ 29 → name_front (name.0 ++ rest) ≡ Some (name, rest)
name_is_read name rest len =
    ap (λ (b : Bool). cond b (Some (record { 0 = take 29 (name.0 ++ rest) }, drop 29 (name.0 ++ rest))) None) (front_there 29 name.0 rest len)
    ∙ ap₂ (λ (f r : List ℕ). Some (record { 0 = f }, r)) (take_at name.0 rest 29 len) (drop_at name.0 rest 29 len)

-- the identifier of a cell
sample_left_is_read : (height : ℕ) (cell : Cell) → IsCell cell → sample_id_left height (sample_id_text height cell) ≡ Ok cell
sample_left_is_read height cell is =
    let col : List ℕ = to_be_bytes w16 cell.col in
    let whole : col ≡ col ++ [] = sym (append-nil col) in
    ap (after_height id_row (sample_id_text height cell)) (height_is_read height (to_be_bytes w16 cell.row ++ col))
    ∙ ap (λ (o : Option (ℕ × List ℕ)). then_read id_col (or_left (to_be_bytes w16 cell.row ++ col) o)) (short_is_read cell.row col is.row)
    ∙ ap (λ (o : Option (ℕ × List ℕ)). then_read (id_cell cell.row) (or_left col o)) (ap short_at whole ∙ short_is_read cell.col [] is.col)

pub sample_id_is_read : (height : ℕ) (cell : Cell) → IsCell cell → sample_id_value height (sample_id_text height cell) ≡ Ok cell
sample_id_is_read height cell is = ap (with_offset (length (sample_id_text height cell))) (sample_left_is_read height cell is)

-- the identifier of a namespace
name_left_is_read : (height : ℕ) (name : Namespace) → IsNamespace name → namespace_id_left height (namespace_id_text height name) ≡ Ok name
name_left_is_read height name is =
    let whole : name.0 ≡ name.0 ++ [] = sym (append-nil name.0) in
    ap (after_height id_name (namespace_id_text height name)) (height_is_read height name.0)
    ∙ ap (λ (o : Option (Namespace × List ℕ)). then_read id_end (or_left name.0 o)) (ap name_front whole ∙ name_is_read name [] is.size_is)

pub namespace_id_is_read : (height : ℕ) (name : Namespace) → IsNamespace name → namespace_id_value height (namespace_id_text height name) ≡ Ok name
namespace_id_is_read height name is = ap (with_offset (length (namespace_id_text height name))) (name_left_is_read height name is)

-- ---- what is read was written

-- what was read, where it was
or_left_some : {A : Type 0} (bytes : List ℕ) (o : Option A) (x : A) → or_left bytes o ≡ Ok x → o ≡ Some x
or_left_some bytes None x e = absurd cc
or_left_some bytes (Some y) x e = ap (λ v. Some v) (same_ok y x e)

-- nothing follows
end_back : {A : Type 0} (found value : A) (rest : List ℕ) → id_end found rest ≡ Ok value → (rest ≡ []) × (found ≡ value)
end_back found value rest e =
    let test = cond_ok (eqb (length rest) 0) found value (length rest) e in
    (nil_from_length rest (eqb-true (length rest) 0 test.0), test.1)

-- the height was there
height_back : (height : ℕ) (bytes rest : List ℕ) → behind_height height bytes ≡ Some rest → bytes ≡ to_be_bytes w64 height ++ rest
height_back height bytes rest e =
    let h = cond_some (leb 8 (length bytes) && bytes_eq (take 8 bytes) (to_be_bytes w64 height)) (drop 8 bytes) rest e in
    let both = and_parts (leb 8 (length bytes)) (bytes_eq (take 8 bytes) (to_be_bytes w64 height)) h.0 in
    front_parts 8 bytes ∙ ap₂ (λ (f r : List ℕ). f ++ r) ((bytes_eq-Decides (take 8 bytes) (to_be_bytes w64 height)).0 both.1) h.1

-- and then the rest
after_back : {A : Type 0} (next : List ℕ → Result A ℕ) (height : ℕ) (bytes : List ℕ) (value : A) (o : Option (List ℕ)) → behind_height height bytes ≡ o
    → after_height next bytes o ≡ Ok value → (rest : List ℕ) × (bytes ≡ to_be_bytes w64 height ++ rest) × (next rest ≡ Ok value)
after_back next height bytes value None is e = absurd cc
after_back next height bytes value (Some rest) is e = (rest, height_back height bytes rest is, e)

-- two bytes are a number below 2^16
short_few : (a b : ℕ) → a < 256 → b < 256 → from_be_bytes w16 (a ∷ b ∷ []) < 2 ^ 16
short_few a b small low = omega arith

two_few : (bytes : List ℕ) → length bytes ≡ 2 → AreBytes bytes → from_be_bytes w16 bytes < 2 ^ 16
two_few [] len fits = absurd (omega arith)
two_few (a ∷ []) len fits = absurd (omega arith)
two_few (a ∷ b ∷ []) len fits = short_few a b (fits 0) (fits 1)
two_few (a ∷ b ∷ c ∷ bytes) len fits = absurd (omega arith)

-- a number of two bytes was there
short_back : (bytes : List ℕ) (x : ℕ × List ℕ) → AreBytes bytes → short_at bytes ≡ Some x → (x.0 < 2 ^ 16) × (bytes ≡ to_be_bytes w16 x.0 ++ x.1)
short_back bytes x fits e =
    let h = cond_some (leb 2 (length bytes)) (from_be_bytes w16 (take 2 bytes), drop 2 bytes) x e in
    let len : length (take 2 bytes) ≡ 2 = length-take-le 2 bytes (leb-true 2 (length bytes) h.0) in
    let small : AreBytes (take 2 bytes) = front_fits (take 2 bytes) (drop 2 bytes) (subst (λ (l : List ℕ). AreBytes l) (front_parts 2 bytes) fits) in
    let n : from_be_bytes w16 (take 2 bytes) ≡ x.0 = ap (λ (p : ℕ × List ℕ). p.0) h.1 in
    let front : to_be_bytes w16 x.0 ≡ take 2 bytes = be_bytes_2 (take 2 bytes) x.0 len small (sym n) in (
      subst (λ (m : ℕ). m < 2 ^ 16) n (two_few (take 2 bytes) len small),
      front_parts 2 bytes ∙ ap₂ (λ (f r : List ℕ). f ++ r) (sym front) (ap (λ (p : ℕ × List ℕ). p.1) h.1),
    )

-- a namespace was there
name_back : (bytes : List ℕ) (x : Namespace × List ℕ) → AreBytes bytes → name_front bytes ≡ Some x → IsNamespace x.0 × (bytes ≡ x.0.0 ++ x.1)
name_back bytes x fits e =
    let h = cond_some (leb 29 (length bytes)) (record { 0 = take 29 bytes }, drop 29 bytes) x e in
    let len : length (take 29 bytes) ≡ 29 = length-take-le 29 bytes (leb-true 29 (length bytes) h.0) in
    let small : AreBytes (take 29 bytes) = front_fits (take 29 bytes) (drop 29 bytes) (subst (λ (l : List ℕ). AreBytes l) (front_parts 29 bytes) fits) in
    let name : take 29 bytes ≡ x.0.0 = ap (λ (p : Namespace × List ℕ). p.0.0) h.1 in (
      record { size_is = sym (ap length name) ∙ len; fits = subst (λ (l : List ℕ). AreBytes l) name small },
      front_parts 29 bytes ∙ ap₂ (λ (f r : List ℕ). f ++ r) name (ap (λ (p : Namespace × List ℕ). p.1) h.1),
    )

-- what is read as a cell
record IsCellRead (height : ℕ) (bytes : List ℕ) (cell : Cell) : Type 0 where
  is : IsCell cell
  text : bytes ≡ sample_id_text height cell

cell_read : (height : ℕ) (bytes : List ℕ) (cell : Cell) → AreBytes bytes → sample_id_left height bytes ≡ Ok cell → IsCellRead height bytes cell
cell_read height bytes cell fits e =
    let a = after_back id_row height bytes cell (behind_height height bytes) refl e in
    let rest_fits : AreBytes a.0 = behind_fits (to_be_bytes w64 height) a.0 (subst (λ (l : List ℕ). AreBytes l) a.1 fits) in
    let r = then_ok id_col (or_left a.0 (short_at a.0)) cell a.2 in
    let row = short_back a.0 r.0 rest_fits (or_left_some a.0 (short_at a.0) r.0 r.1) in
    let col_fits : AreBytes r.0.1 = behind_fits (to_be_bytes w16 r.0.0) r.0.1 (subst (λ (l : List ℕ). AreBytes l) row.1 rest_fits) in
    let c = then_ok (id_cell r.0.0) (or_left r.0.1 (short_at r.0.1)) cell r.2 in
    let col = short_back r.0.1 c.0 col_fits (or_left_some r.0.1 (short_at r.0.1) c.0 c.1) in
    let found : Cell = record { row = r.0.0; col = c.0.0 } in
    let last = end_back found cell c.0.1 c.2 in
    subst (λ (d : Cell). IsCellRead height bytes d) last.1 (record {
      is = record { row = row.0; col = col.0 };
      text = a.1
          ∙ ap (λ (l : List ℕ). to_be_bytes w64 height ++ l) (row.1
          ∙ ap (λ (l : List ℕ). to_be_bytes w16 r.0.0 ++ l) (col.1 ∙ ap (λ (l : List ℕ). to_be_bytes w16 c.0.0 ++ l) last.0 ∙ append-nil (to_be_bytes w16 c.0.0)));
    })

pub read_is_sample_id : (height : ℕ) (bytes : List ℕ) (cell : Cell) → AreBytes bytes → sample_id_value height bytes ≡ Ok cell
    → IsCell cell × (bytes ≡ sample_id_text height cell)
read_is_sample_id height bytes cell fits e =
    let was = cell_read height bytes cell fits (placed_ok (length bytes) (sample_id_left height bytes) cell e) in
    (was.is, was.text)

pub read_is_namespace_id : (height : ℕ) (bytes : List ℕ) (name : Namespace) → AreBytes bytes → namespace_id_value height bytes ≡ Ok name
    → IsNamespace name × (bytes ≡ namespace_id_text height name)
read_is_namespace_id height bytes name fits e =
    let a = after_back id_name height bytes name (behind_height height bytes) refl (placed_ok (length bytes) (namespace_id_left height bytes) name e) in
    let rest_fits : AreBytes a.0 = behind_fits (to_be_bytes w64 height) a.0 (subst (λ (l : List ℕ). AreBytes l) a.1 fits) in
    let r = then_ok id_end (or_left a.0 (name_front a.0)) name a.2 in
    let h = name_back a.0 r.0 rest_fits (or_left_some a.0 (name_front a.0) r.0 r.1) in
    let last = end_back r.0.0 name r.0.1 r.2 in (
      subst (λ (m : Namespace). IsNamespace m) last.1 h.0,
      a.1
          ∙ ap (λ (l : List ℕ). to_be_bytes w64 height ++ l) (h.1 ∙ ap₂ (λ (m : Namespace) (l : List ℕ). m.0 ++ l) last.1 last.0 ∙ append-nil name.0),
    )

-- ---- what is appended

-- three parts, one after another
pub three_parts : (out a b c first second third : List ℕ) → first ≡ out ++ a → second ≡ first ++ b → third ≡ second ++ c → third ≡ out ++ (a ++ (b ++ c))
three_parts out a b c first second third e1 e2 e3 =
    e3 ∙ ap (λ (l : List ℕ). l ++ c) (e2 ∙ ap (λ (l : List ℕ). l ++ b) e1) ∙ append_assoc (out ++ a) b c ∙ append_assoc out a (b ++ c)
