-- One unit at the front of a text.
use Rattle.std.proofs.Common.{◌≡◌, ◌∙◌, ℕ, ◌+◌, ◌-◌, ◌^◌, ◌<◌, ◌≤◌, Bool, true, cond, ◌&&◌, ltb, leb, lt-ltb, le-leb, ltb-true, leb-true, List, ◌++◌, length, take, drop, Option, Some, None, refl, sym, ap, ap₂, subst, arith, append_assoc, take-append-drop, length-append, length-drop, length-take-le}
use Rattle.std.proofs.lemmas.Bool.{and_parts, and_from}
use Rattle.std.proofs.lemmas.List.{take_at, drop_at}
use Rattle.std.proofs.lemmas.Option.{cond_some}
use Rattle.namespace_id.specs.Bytes.{AreBytes}
use Rattle.namespace_id.proofs.StringLemmas.{AreBytes-take, AreBytes-drop}
use Rattle.proto_fields.specs.Varints.{varint, varint_in}
use Rattle.share_split.specs.Units.{unit_text}
use Rattle.share_split.specs.Walks.{unit_of, text_unit}
use Rattle.proto_fields.proofs.Varint.Shortest.{varint_back, varint_again, varint_shorter}

-- a length that was read, and a unit that is all there
pub record IsReadUnit (text unit : List ℕ) (size : ℕ) : Type 0 where
  pub count : ℕ
  pub rest : List ℕ
  pub read : varint_in 5 text ≡ Some (count, rest)
  pub few : count < 2 ^ 32
  pub within : count ≤ length rest
  pub shorter : length rest < length text
  pub unit_is : take count rest ≡ unit
  pub size_is : length text - length rest + count ≡ size

-- what was read, where the length is known
of_read : (text unit : List ℕ) (size : ℕ) (o : Option (ℕ × List ℕ)) → varint_in 5 text ≡ o → unit_of (length text) o ≡ Some (unit, size) → IsReadUnit text unit size
of_read text unit size None e is = absurd cc
of_read text unit size (Some x) e is =
    let h = cond_some (ltb x.0 (2 ^ 32) && leb x.0 (length x.1)) (take x.0 x.1, length text - length x.1 + x.0) (unit, size) is in
    let tests = and_parts (ltb x.0 (2 ^ 32)) (leb x.0 (length x.1)) h.0 in
    record {
      count = x.0;
      rest = x.1;
      read = e;
      few = ltb-true _ _ tests.0;
      within = leb-true _ _ tests.1;
      shorter = varint_shorter 5 text x.0 x.1 e;
      unit_is = ap (λ (p : List ℕ × ℕ). p.0) h.1;
      size_is = ap (λ (p : List ℕ × ℕ). p.1) h.1;
    }

-- what was read
pub read_unit : (text unit : List ℕ) (size : ℕ) → text_unit text ≡ Some (unit, size) → IsReadUnit text unit size
read_unit text unit size e = of_read text unit size (varint_in 5 text) refl e

-- a length that was read and passes the tests
pub unit_read : (text rest unit after : List ℕ) (count : ℕ) → varint_in 5 text ≡ Some (count, rest) → count ≤ 4294967295 → count ≤ length rest
    → unit ≡ take count rest → length after + count ≡ length rest → text_unit text ≡ Some (unit, length text - length after)
unit_read text rest unit after count read few within unit_is left =
    let shorter = varint_shorter 5 text count rest read in
    let tests : (ltb count (2 ^ 32) && leb count (length rest)) ≡ true = and_from _ _ (lt-ltb _ _ (omega arith)) (le-leb _ _ within) in
    let size : length text - length rest + count ≡ length text - length after = omega arith in
    ap (unit_of (length text)) read
    ∙ ap (λ (b : Bool). cond b (Some (take count rest, length text - length rest + count)) None) tests
    ∙ ap₂ (λ (l : List ℕ) (k : ℕ). Some (l, k)) (sym unit_is) size

-- a unit that was read is spelled at the front
pub record IsUnitFront (text unit : List ℕ) (size : ℕ) : Type 0 where
  pub size_is : size ≡ length (unit_text unit)
  pub parts : text ≡ unit_text unit ++ drop size text
  pub fits : AreBytes unit
  pub some : 0 < size
  pub within : size ≤ length text

-- a unit that is read is spelled so
pub unit_back : (text unit : List ℕ) (size : ℕ) → AreBytes text → text_unit text ≡ Some (unit, size) → IsUnitFront text unit size
unit_back text unit size fits e =
    let r = read_unit text unit size e in
    let spelled : text ≡ varint r.count ++ r.rest = varint_back 5 10 text r.count r.rest (omega arith) fits r.read in
    let count_is : length unit ≡ r.count = sym (ap length r.unit_is) ∙ length-take-le r.count r.rest r.within in
    let rest_parts : r.rest ≡ unit ++ drop r.count r.rest = sym (take-append-drop r.count r.rest) ∙ ap (λ (l : List ℕ). l ++ drop r.count r.rest) r.unit_is in
    let after : List ℕ = drop r.count r.rest in
    let parts : text ≡ unit_text unit ++ after =
    spelled ∙ ap₂ (λ (n : ℕ) (l : List ℕ). varint n ++ l) (sym count_is) rest_parts ∙ sym (append_assoc (varint (length unit)) unit after) in
    let rest_fits : AreBytes r.rest = subst (λ (l : List ℕ). AreBytes l) (ap (drop (length (varint r.count))) spelled ∙ drop_at (varint r.count) r.rest (length (varint r.count)) refl) (AreBytes-drop (length (varint r.count)) text fits) in
    let size_is : size ≡ length (unit_text unit) =
    omega (arith, r.size_is, r.within, r.shorter, ap length parts, length-append (unit_text unit) after, length-drop r.count r.rest) in
    record {
      size_is = size_is;
      parts = parts ∙ ap (λ (l : List ℕ). unit_text unit ++ l) (sym (ap (drop size) parts ∙ drop_at (unit_text unit) after size (sym size_is)));
      fits = subst (λ (l : List ℕ). AreBytes l) r.unit_is (AreBytes-take r.count r.rest rest_fits);
      some = omega (arith, r.size_is, r.shorter);
      within = omega (arith, r.size_is, r.within, r.shorter);
    }

-- a unit that is spelled is read
pub unit_again : (unit rest : List ℕ) → length unit < 2 ^ 32 → text_unit (unit_text unit ++ rest) ≡ Some (unit, length (unit_text unit))
unit_again unit rest few =
    let n : ℕ = length unit in
    let text : List ℕ = unit_text unit ++ rest in
    let nested : text ≡ varint n ++ (unit ++ rest) = append_assoc (varint n) unit rest in
    let read : varint_in 5 text ≡ Some (n, unit ++ rest) = ap (varint_in 5) nested ∙ varint_again 5 10 n (unit ++ rest) (omega arith) (omega arith) (omega arith) in
    let within : (ltb n (2 ^ 32) && leb n (length (unit ++ rest))) ≡ true = and_from _ _ (lt-ltb _ _ few) (le-leb _ _ (omega (arith, length-append unit rest))) in
    let size : length text - length (unit ++ rest) + n ≡ length (unit_text unit) =
    omega (arith, length-append (unit_text unit) rest, length-append (varint n) unit, length-append unit rest) in
    ap (unit_of (length text)) read
    ∙ ap (λ (b : Bool). cond b (Some (take n (unit ++ rest), length text - length (unit ++ rest) + n)) None) within
    ∙ ap₂ (λ (l : List ℕ) (k : ℕ). Some (l, k)) (take_at unit rest n refl) size

-- ---- the varint of a length

-- it is read back, whatever follows it
pub varint_is_read : (n : ℕ) (rest : List ℕ) → n < 2 ^ 32 → varint_in 5 (varint n ++ rest) ≡ Some (n, rest)
varint_is_read n rest h = varint_again 5 10 n rest (omega arith) (omega arith) (omega arith)

-- and what is read as one is its varint
pub read_is_varint : (bytes rest : List ℕ) (n : ℕ) → AreBytes bytes → varint_in 5 bytes ≡ Some (n, rest) → bytes ≡ varint n ++ rest
read_is_varint bytes rest n fits e = varint_back 5 10 bytes n rest (omega arith) fits e
