-- Varints of any length, at the front of bytes.
use Rattle.std.proofs.Common.{◌≡◌, ◌∙◌, ◌↔◌, inl, inr, ℕ, zero, suc, ◌+◌, ◌*◌, ◌%◌, ◌^◌, ◌<◌, ◌≤◌, Bool, true, false, cond, ltb, leb, lt-ltb, le-ltb, ltb-true, leb-true, List, [], ◌∷◌, ◌++◌, length, Option, Some, None, refl, sym, ap, arith}
use Rattle.std.proofs.lemmas.Bool.{cases_lt, and_parts, true≢false}
use Rattle.std.proofs.lemmas.Option.{cond_some, some_pair_parts}
use Rattle.proto_fields.specs.Varints.{stated, is_marked, IsVarint, varint, before_high, number_within, of_64_bits, number_at}
use Rattle.proto_fields.proofs.Varint.Bytes.{length-varint}
use Rattle.proto_fields.proofs.Varint.Laws.{stated-next, stated-none, marked-one, marked-more, varint_states, varint_is_marked, varint_is_shortest}

-- ---- one byte more

-- a byte below 128 is the number
within-small : (more byte : ℕ) (rest : List ℕ) → byte < 128 → number_within (suc more) (byte ∷ rest) ≡ Some (byte, rest)
unfolding number_within
within-small more byte rest lt = ap (λ (b : Bool). cond b (Some (byte, rest)) (before_high (byte % 128) (number_within more rest))) (lt-ltb byte 128 lt)

-- another byte has the lowest seven bits
within-large : (more byte : ℕ) (rest : List ℕ) → 128 ≤ byte → number_within (suc more) (byte ∷ rest) ≡ before_high (byte % 128) (number_within more rest)
unfolding number_within
within-large more byte rest le = ap (λ (b : Bool). cond b (Some (byte, rest)) (before_high (byte % 128) (number_within more rest))) (le-ltb byte 128 le)

-- no byte may be read
within-none : (bytes : List ℕ) → number_within zero bytes ≡ None
unfolding number_within
within-none bytes = refl

-- no byte is there
within-empty : (more : ℕ) → number_within (suc more) [] ≡ None
unfolding number_within
within-empty more = refl

-- no bytes are marked
pub marked-none : is_marked [] ≡ false
unfolding is_marked
marked-none = refl

-- a byte that is marked as the last is below 128
marked_last : (byte : ℕ) → is_marked (byte ∷ []) ≡ true → byte < 128
unfolding is_marked
marked_last byte e = ltb-true byte 128 e

-- one before others isn't
marked_parts : (byte next : ℕ) (bytes : List ℕ) → is_marked (byte ∷ next ∷ bytes) ≡ true → (128 ≤ byte) × (is_marked (next ∷ bytes) ≡ true)
unfolding is_marked
marked_parts byte next bytes e =
    let both = and_parts (leb 128 byte) (is_marked (next ∷ bytes)) e in
    (leb-true 128 byte both.0, both.1)

-- ---- what is read is at the front

-- bytes of which the front states a number
pub record IsFront (more : ℕ) (bytes : List ℕ) (n : ℕ) (rest front : List ℕ) : Type 0 where
  pub all : bytes ≡ front ++ rest
  pub marked : is_marked front ≡ true
  pub few : length front ≤ more
  pub states : stated front ≡ n

-- a number that was read has a higher part
high_parts : (low : ℕ) (o : Option (ℕ × List ℕ)) (n : ℕ) (rest : List ℕ) → before_high low o ≡ Some (n, rest)
    → (high : ℕ) × (o ≡ Some (high, rest)) × (low + 128 * high ≡ n)
high_parts low None n rest e = absurd cc
high_parts low (Some high) n rest e =
    let same = some_pair_parts (low + 128 * high.0) n high.1 rest e in
    (high.0, ap (λ (l : List ℕ). Some (high.0, l)) same.1, same.0)

-- a number that was read is stated by the front
within_back : (more : ℕ) (bytes : List ℕ) (n : ℕ) (rest : List ℕ) → number_within more bytes ≡ Some (n, rest)
    → (front : List ℕ) × IsFront more bytes n rest front
within_back zero bytes n rest e = let none = within-none bytes in absurd cc
within_back (suc more) [] n rest e = let none = within-empty more in absurd cc
within_back (suc more) (byte ∷ bytes) n rest e =
    elim (cases_lt byte 128) [
      | inl lt ↦
          let same = some_pair_parts byte n bytes rest (sym (within-small more byte bytes lt) ∙ e) in (
            byte ∷ [],
            record {
              all = ap (λ (l : List ℕ). byte ∷ l) same.1;
              marked = marked-one byte lt;
              few = omega arith;
              states = omega (arith, stated-next byte [], stated-none, same.0);
            },
          )
      | inr le ↦
          let h = high_parts (byte % 128) (number_within more bytes) n rest (sym (within-large more byte bytes le) ∙ e) in
          let back = within_back more bytes h.0 rest h.1 in
          let front : List ℕ = back.0 in (
            byte ∷ front,
            record {
              all = ap (λ (l : List ℕ). byte ∷ l) back.1.all;
              marked = marked-more byte front le back.1.marked;
              few = omega (arith, back.1.few);
              states = omega (arith, stated-next byte front, back.1.states, h.2);
            },
          )
    ]

-- what the front states is read
within_again : (more : ℕ) (front rest : List ℕ) → is_marked front ≡ true → length front ≤ more
    → number_within more (front ++ rest) ≡ Some (stated front, rest)
within_again more [] rest marked few = absurd (true≢false (sym marked ∙ marked-none))
within_again zero (byte ∷ bytes) rest marked few = absurd (omega arith)
within_again (suc more) (byte ∷ []) rest marked few =
    let lt = marked_last byte marked in
    let number : byte ≡ stated (byte ∷ []) = omega (arith, stated-next byte [], stated-none) in
    within-small more byte rest lt ∙ ap (λ (n : ℕ). Some (n, rest)) number
within_again (suc more) (byte ∷ next ∷ bytes) rest marked few =
    let parts = marked_parts byte next bytes marked in
    within-large more byte (next ∷ bytes ++ rest) parts.0
    ∙ ap (before_high (byte % 128)) (within_again more (next ∷ bytes) rest parts.1 (omega arith))
    ∙ ap (λ (n : ℕ). Some (n, rest)) (sym (stated-next byte (next ∷ bytes)))

-- ---- numbers of up to 64 bits

-- a number that was read fits
fitting_parts : (n : ℕ) (rest : List ℕ) (o : Option (ℕ × List ℕ)) → of_64_bits o ≡ Some (n, rest) → (n < 2 ^ 64) × (o ≡ Some (n, rest))
fitting_parts n rest None e = absurd cc
fitting_parts n rest (Some x) e =
    let h = cond_some (ltb x.0 (2 ^ 64)) x (n, rest) e in
    let first : x.0 ≡ n = ap (λ (p : ℕ × List ℕ). p.0) h.1 in
    let lt = ltb-true x.0 (2 ^ 64) h.0 in
    (omega arith, ap (λ (p : ℕ × List ℕ). Some p) h.1)

-- a number that is read is stated by a varint at the front
pub number_back : (bytes rest : List ℕ) (n : ℕ) → number_at bytes ≡ Some (n, rest)
    → (front : List ℕ) × (bytes ≡ front ++ rest) × IsVarint front n
number_back bytes rest n e =
    let h = fitting_parts n rest (number_within 10 bytes) e in
    let back = within_back 10 bytes n rest h.1 in
    (back.0, back.1.all, record { marked = back.1.marked; few = back.1.few; states = back.1.states; fits = h.0 })

-- a number whose varint is at the front is read
pub number_again : (front rest : List ℕ) (n : ℕ) → IsVarint front n → number_at (front ++ rest) ≡ Some (n, rest)
number_again front rest n is =
    ap of_64_bits (within_again 10 front rest is.marked is.few)
    ∙ ap (λ (m : ℕ). of_64_bits (Some (m, rest))) is.states
    ∙ ap (λ (b : Bool). cond b (Some (n, rest)) None) (lt-ltb n (2 ^ 64) is.fits)

-- a number is read exactly where a varint of it is at the front
pub read_in_one_way : (bytes rest : List ℕ) (n : ℕ)
    → (number_at bytes ≡ Some (n, rest)) ↔ ((front : List ℕ) × (bytes ≡ front ++ rest) × IsVarint front n)
read_in_one_way bytes rest n = (number_back bytes rest n, λ h. ap number_at h.1 ∙ number_again h.0 rest n h.2)

-- ---- the shortest one

-- the shortest varint of a number is one of it
pub shortest_is_varint : (n : ℕ) → n < 2 ^ 64 → IsVarint (varint n) n
shortest_is_varint n lt = record {
  marked = varint_is_marked n lt;
  few = length-varint n;
  states = varint_states n lt;
  fits = lt;
}

-- it is read as its number, whatever follows
pub varint_is_read : (n : ℕ) (rest : List ℕ) → n < 2 ^ 64 → number_at (varint n ++ rest) ≡ Some (n, rest)
varint_is_read n rest lt = number_again (varint n) rest n (shortest_is_varint n lt)

-- none is shorter
pub shortest_is_shortest : (n : ℕ) (bytes : List ℕ) → IsVarint bytes n → length (varint n) ≤ length bytes
shortest_is_shortest n bytes is =
    varint_is_shortest n bytes is.fits (λ (none : bytes ≡ []). true≢false (sym is.marked ∙ ap is_marked none ∙ marked-none)) is.states
