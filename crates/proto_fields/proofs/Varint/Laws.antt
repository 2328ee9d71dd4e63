-- The shortest varint states its number, its last byte is marked, and none is shorter.
use Rattle.std.proofs.Common.{◌≡◌, ◌≢◌, ◌∙◌, ℕ, zero, suc, ◌+◌, ◌*◌, ◌/◌, ◌%◌, ◌^◌, ◌<◌, ◌≤◌, nat_le, true, List, [], ◌∷◌, length, sym, ap, refl, inl, inr, arith}
use Rattle.std.proofs.lemmas.Bool.{cases_lt, true≢false}
use Rattle.std.proofs.lemmas.Bool.Decides.{nat_tests}
use Rattle.std.proofs.Math.Nat.{pow-suc}
use Rattle.proto_fields.specs.Varints.{stated, is_marked, varint_within, varint}
use Rattle.proto_fields.proofs.Varint.Bytes.{varint_within-low, varint_within-high, length-varint-low, length-varint-high}

-- ---- none is shorter

-- the lowest seven bits, and then the others
pub stated-next : (byte : ℕ) (bytes : List ℕ) → stated (byte ∷ bytes) ≡ byte % 128 + 128 * stated bytes
unfolding stated
stated-next byte bytes = refl

-- no bytes state 0
pub stated-none : stated [] ≡ 0
unfolding stated
stated-none = refl

-- no bytes that state a number are fewer than its varint
pub varint_is_shortest : (n : ℕ) (bytes : List ℕ) → n < 2 ^ 64 → bytes ≢ [] → stated bytes ≡ n → length (varint n) ≤ length bytes
varint_is_shortest n [] h some e = absurd (some refl)
varint_is_shortest n (byte ∷ []) h some e =
    omega (arith, length-varint-low n (omega (arith, stated-next byte [], stated-none, e)))
varint_is_shortest n (byte ∷ next ∷ bytes) h some e =
    elim (cases_lt n 128) [
      | inl lt ↦ omega (arith, length-varint-low n lt)
      | inr le ↦
          let high : stated (next ∷ bytes) ≡ n / 128 = omega (arith, stated-next byte (next ∷ bytes), e) in
          let shorter = varint_is_shortest (n / 128) (next ∷ bytes) (omega arith) (λ (none : next ∷ bytes ≡ []). absurd cc) high in
          omega (arith, length-varint-high n le h, shorter)
    ]

-- ---- it states its number, and its last byte is marked

-- a varint of at most so many bytes states its number
within_states : (more n : ℕ) → n < 128 ^ suc more → stated (varint_within (suc more) n) ≡ n
within_states zero n h =
    let lt : n < 128 = omega (arith, pow-suc 128 0, h) in
    ap stated (varint_within-low 0 n lt) ∙ omega (arith, stated-next n [], stated-none, lt)
within_states (suc more) n h =
    elim (cases_lt n 128) [
      | inl lt ↦ ap stated (varint_within-low (suc more) n lt) ∙ omega (arith, stated-next n [], stated-none, lt)
      | inr le ↦
          let below : n / 128 < 128 ^ suc more = omega (arith, pow-suc 128 (suc more), h) in
          let rest : List ℕ = varint_within (suc more) (n / 128) in
          ap stated (varint_within-high (suc more) n le)
          ∙ omega (arith, stated-next (n % 128 + 128) rest, within_states more (n / 128) below)
    ]

-- a varint states its number
pub varint_states : (n : ℕ) → n < 2 ^ 64 → stated (varint n) ≡ n
varint_states n h = within_states 9 n (omega arith)

-- a single byte below 128 is marked as the last
pub marked-one : (byte : ℕ) → byte < 128 → is_marked (byte ∷ []) ≡ true
unfolding is_marked
marked-one byte h = grind (arith, nat_tests)

-- a byte from 128 on before marked bytes is marked
pub marked-more : (byte : ℕ) (bytes : List ℕ) → 128 ≤ byte → is_marked bytes ≡ true → is_marked (byte ∷ bytes) ≡ true
unfolding is_marked
marked-more byte [] h rest = absurd (true≢false (sym rest))
marked-more byte (next ∷ bytes) h rest = let e : nat_le 128 byte ≡ true = grind (arith, nat_tests) in rw (e, rest) refl

-- a varint of at most so many bytes is marked
within_is_marked : (more n : ℕ) → n < 128 ^ suc more → is_marked (varint_within (suc more) n) ≡ true
within_is_marked zero n h =
    let lt : n < 128 = omega (arith, pow-suc 128 0, h) in
    ap is_marked (varint_within-low 0 n lt) ∙ marked-one n lt
within_is_marked (suc more) n h =
    elim (cases_lt n 128) [
      | inl lt ↦ ap is_marked (varint_within-low (suc more) n lt) ∙ marked-one n lt
      | inr le ↦
          let below : n / 128 < 128 ^ suc more = omega (arith, pow-suc 128 (suc more), h) in
          ap is_marked (varint_within-high (suc more) n le)
          ∙ marked-more (n % 128 + 128) (varint_within (suc more) (n / 128)) (omega arith) (within_is_marked more (n / 128) below)
    ]

-- a varint is marked
pub varint_is_marked : (n : ℕ) → n < 2 ^ 64 → is_marked (varint n) ≡ true
varint_is_marked n h = within_is_marked 9 n (omega arith)
