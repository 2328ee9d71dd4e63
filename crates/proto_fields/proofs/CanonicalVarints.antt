-- Shortest varints and what stands behind their length, at the front of bytes.
use Rattle.std.proofs.Common.{◌≡◌, ◌∙◌, inl, inr, ℕ, suc, ◌+◌, ◌/◌, ◌%◌, ◌^◌, ◌<◌, ◌≤◌, Bool, true, cond, eqb, eqb-true, ltb-true, leb, leb-true, le-leb, List, [], ◌∷◌, ◌++◌, length, take, drop, Some, None, option_and_then, refl, sym, ap, ap₂, subst, arith, append_assoc, take-append-drop, length-append, length-take-le}
use Rattle.std.proofs.lemmas.Bool.{cases_lt, and_parts, true≢false}
use Rattle.std.proofs.lemmas.Bool.Decides.{nat_tests}
use Rattle.std.proofs.lemmas.List.{take_at, drop_at}
use Rattle.std.proofs.lemmas.Option.{cond_some}
use Rattle.namespace_id.specs.Bytes.{AreBytes}
use Rattle.namespace_id.proofs.StringLemmas.{AreBytes-take, AreBytes-drop}
use Rattle.proto_fields.specs.Varints.{stated, is_marked, varint, number_at}
use Rattle.proto_fields.specs.Fields.{bytes_at}
use Rattle.proto_fields.specs.Spelled.{text}
use Rattle.proto_fields.specs.Canonical.{if_shortest, shortest_at, part_at}
use Rattle.proto_fields.proofs.Options.{and_then_parts}
use Rattle.proto_fields.proofs.Varint.Bytes.{varint-low, varint-high, length-varint-low, length-varint-high}
use Rattle.proto_fields.proofs.Varint.Laws.{stated-next, stated-none}
use Rattle.proto_fields.proofs.Varint.Read.{marked-none, number_back, varint_is_read}

-- ---- bytes in front of others

-- what stands behind bytes has bytes
pub behind_fits : (a b : List ℕ) → AreBytes (a ++ b) → AreBytes b
behind_fits a b fits = subst (λ (l : List ℕ). AreBytes l) (drop_at a b (length a) refl) (AreBytes-drop (length a) (a ++ b) fits)

-- what stands in front has bytes
pub front_fits : (a b : List ℕ) → AreBytes (a ++ b) → AreBytes a
front_fits a b fits = subst (λ (l : List ℕ). AreBytes l) (take_at a b (length a) refl) (AreBytes-take (length a) (a ++ b) fits)

-- ---- the shortest varint

-- a byte that is marked as the last is below 128
last_is_low : (byte : ℕ) → is_marked (byte ∷ []) ≡ true → byte < 128
unfolding is_marked
last_is_low byte e = ltb-true byte 128 e

-- one before others isn't
first_is_high : (byte next : ℕ) (bytes : List ℕ) → is_marked (byte ∷ next ∷ bytes) ≡ true → (128 ≤ byte) × (is_marked (next ∷ bytes) ≡ true)
unfolding is_marked
first_is_high byte next bytes e =
    let both = and_parts (leb 128 byte) (is_marked (next ∷ bytes)) e in
    (leb-true 128 byte both.0, both.1)

-- a varint as short as the shortest is the shortest
pub one_is_shortest : (front : List ℕ) (n : ℕ) → n < 2 ^ 64 → AreBytes front → is_marked front ≡ true → stated front ≡ n → length front ≡ length (varint n)
    → front ≡ varint n
one_is_shortest [] n lt fits marked states same = absurd (true≢false (sym marked ∙ marked-none))
one_is_shortest (byte ∷ []) n lt fits marked states same =
    let low = last_is_low byte marked in
    let is : byte ≡ n = omega (arith, stated-next byte [], stated-none, states) in
    ap (λ (b : ℕ). b ∷ []) is ∙ sym (varint-low n (omega arith))
one_is_shortest (byte ∷ next ∷ bytes) n lt fits marked states same =
    elim (cases_lt n 128) [
      | inl small ↦ absurd (omega (arith, length-varint-low n small))
      | inr large ↦
          let parts = first_is_high byte next bytes marked in
          let fit : byte < 256 = fits 0 in
          let first : byte ≡ n % 128 + 128 = omega (arith, stated-next byte (next ∷ bytes), states, parts.0) in
          let high : stated (next ∷ bytes) ≡ n / 128 = omega (arith, stated-next byte (next ∷ bytes), states, parts.0) in
          let behind = one_is_shortest (next ∷ bytes) (n / 128) (omega arith) (λ i. fits (suc i)) parts.1 high (omega (arith, length-varint-high n large lt)) in
          ap₂ (λ (b : ℕ) (l : List ℕ). b ∷ l) first behind ∙ sym (varint-high n large lt)
    ]

-- it is read, whatever follows
pub shortest_is_read : (n : ℕ) (rest : List ℕ) → n < 2 ^ 64 → shortest_at (varint n ++ rest) ≡ Some (n, rest)
shortest_is_read n rest lt =
    let size : length (varint n) + length rest ≡ length (varint n ++ rest) = sym (length-append (varint n) rest) in
    let test : eqb (length (varint n) + length rest) (length (varint n ++ rest)) ≡ true = grind (arith, nat_tests) in
    ap (option_and_then (if_shortest (varint n ++ rest))) (varint_is_read n rest lt)
    ∙ ap (λ (b : Bool). cond b (Some (n, rest)) None) test

-- what is read so was read leniently, and is in front
pub read_is_shortest : (bytes rest : List ℕ) (n : ℕ) → AreBytes bytes → shortest_at bytes ≡ Some (n, rest) → (n < 2 ^ 64) × (bytes ≡ varint n ++ rest)
read_is_shortest bytes rest n fits e =
    let read = and_then_parts (if_shortest bytes) (number_at bytes) (n, rest) e in
    let test = cond_some (eqb (length (varint read.0.0) + length read.0.1) (length bytes)) read.0 (n, rest) read.2 in
    let is : number_at bytes ≡ Some (n, rest) = read.1 ∙ ap (λ (p : ℕ × List ℕ). Some p) test.1 in
    let back = number_back bytes rest n is in
    let whole : length (varint n) + length rest ≡ length bytes =
    ap (λ (p : ℕ × List ℕ). length (varint p.0) + length p.1) (sym test.1) ∙ eqb-true _ _ test.0 in
    let size : length back.0 ≡ length (varint n) = omega (arith, ap length back.1, length-append back.0 rest, whole) in
    let front = one_is_shortest back.0 n back.2.fits (front_fits back.0 rest (subst (λ (l : List ℕ). AreBytes l) back.1 fits)) back.2.marked back.2.states size in
    (back.2.fits, back.1 ∙ ap (λ (l : List ℕ). l ++ rest) front)

-- ---- bytes behind their length

-- they are read, whatever follows
pub part_is_read : (part rest : List ℕ) → length part < 2 ^ 64 → part_at (text part ++ rest) ≡ Some (part, rest)
part_is_read part rest lt =
    let within : length part ≤ length (part ++ rest) = omega (arith, length-append part rest) in
    ap part_at (append_assoc (varint (length part)) part rest)
    ∙ ap (option_and_then (λ read. bytes_at read.0 read.1)) (shortest_is_read (length part) (part ++ rest) lt)
    ∙ ap (λ (b : Bool). cond b (Some (take (length part) (part ++ rest), drop (length part) (part ++ rest))) None) (le-leb _ _ within)
    ∙ ap₂ (λ (x y : List ℕ). Some (x, y)) (take_at part rest (length part) refl) (drop_at part rest (length part) refl)

-- what is read so is in front
pub read_is_part : (bytes part rest : List ℕ) → AreBytes bytes → part_at bytes ≡ Some (part, rest) → (length part < 2 ^ 64) × (bytes ≡ text part ++ rest)
read_is_part bytes part rest fits e =
    let read = and_then_parts (λ (read : ℕ × List ℕ). bytes_at read.0 read.1) (shortest_at bytes) (part, rest) e in
    let n : ℕ = read.0.0 in
    let behind : List ℕ = read.0.1 in
    let h = cond_some (leb n (length behind)) (take n behind, drop n behind) (part, rest) read.2 in
    let front : take n behind ≡ part = ap (λ (p : List ℕ × List ℕ). p.0) h.1 in
    let back : drop n behind ≡ rest = ap (λ (p : List ℕ × List ℕ). p.1) h.1 in
    let count : n ≡ length part = sym (sym (ap length front) ∙ length-take-le n behind (leb-true _ _ h.0)) in
    let parts : behind ≡ part ++ rest = sym (take-append-drop n behind) ∙ ap₂ (λ (x y : List ℕ). x ++ y) front back in
    let spelled = read_is_shortest bytes behind n fits read.1 in (
      subst (λ (m : ℕ). m < 2 ^ 64) count spelled.0,
      spelled.1 ∙ ap₂ (λ (m : ℕ) (l : List ℕ). varint m ++ l) count parts ∙ sym (append_assoc (varint (length part)) part rest),
    )
