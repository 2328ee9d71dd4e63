-- Shortest varints, written and read.
use Rattle.std.proofs.Common.{◌≡◌, ◌≢◌, ◌∙◌, inl, inr, ℕ, zero, suc, ◌+◌, ◌-◌, ◌*◌, ◌/◌, ◌%◌, ◌^◌, ◌<◌, ◌≤◌, Bool, false, cond, eqb, lt-ltb, le-ltb, false-eqb, List, [], ◌∷◌, ◌++◌, length, Option, Some, None, refl, sym, ap, ap₂, arith, pow-suc}
use Rattle.std.proofs.lemmas.Bool.{cases_lt}
use Rattle.std.proofs.lemmas.Bool.Decides.{nat_tests}
use Rattle.std.proofs.lemmas.Nat.{div_below}
use Rattle.std.proofs.lemmas.Option.{some_pair_parts}
use Rattle.std.proofs.NetLemmas.Options.{cond_none}
use Rattle.namespace_id.specs.Bytes.{AreBytes}
use Rattle.proto_fields.specs.Varints.{varint_within, varint_in, above_low}
use Rattle.proto_fields.proofs.Varint.Bytes.{varint_within-low, varint_within-high}

-- ---- read

-- a byte below 128 is the number
in-small : (more byte : ℕ) (rest : List ℕ) → byte < 128 → varint_in (suc more) (byte ∷ rest) ≡ Some (byte, rest)
unfolding varint_in
in-small more byte rest lt = ap (λ (b : Bool). cond b (Some (byte, rest)) (above_low (byte - 128) (varint_in more rest))) (lt-ltb byte 128 lt)

-- another byte is the lowest seven bits
in-large : (more byte : ℕ) (rest : List ℕ) → 128 ≤ byte → varint_in (suc more) (byte ∷ rest) ≡ above_low (byte - 128) (varint_in more rest)
unfolding varint_in
in-large more byte rest le = ap (λ (b : Bool). cond b (Some (byte, rest)) (above_low (byte - 128) (varint_in more rest))) (le-ltb byte 128 le)

-- no byte may be read
in-none : (bytes : List ℕ) → varint_in zero bytes ≡ None
unfolding varint_in
in-none bytes = refl

-- no byte is there
in-empty : (more : ℕ) → varint_in (suc more) [] ≡ None
unfolding varint_in
in-empty more = refl

-- a number with a higher part
pub record HasHigh (low n : ℕ) (rest : List ℕ) (o : Option (ℕ × List ℕ)) : Type 0 where
  pub high : ℕ
  pub read : o ≡ Some (high, rest)
  pub some : 0 < high
  pub sum_is : low + 128 * high ≡ n

-- a number that was read has a higher part that isn't 0
above_some : (low n : ℕ) (rest : List ℕ) (o : Option (ℕ × List ℕ)) → above_low low o ≡ Some (n, rest) → HasHigh low n rest o
above_some low n rest None e = absurd cc
above_some low n rest (Some h) e =
    let p = cond_none (eqb h.0 0) (Some (low + 128 * h.0, h.1)) (n, rest) e in
    let same = some_pair_parts (low + 128 * h.0) n h.1 rest p.1 in
    let zero_not : h.0 ≢ 0 = false-eqb h.0 0 (sym p.0) in
    record {
      high = h.0;
      read = ap (λ (l : List ℕ). Some (h.0, l)) same.1;
      some = omega arith;
      sum_is = same.0;
    }

-- a higher part that isn't 0 is read
above_again : (low high : ℕ) (rest : List ℕ) → 0 < high → above_low low (Some (high, rest)) ≡ Some (low + 128 * high, rest)
above_again low high rest some =
    let not_zero : eqb high 0 ≡ false = grind (arith, nat_tests) in
    ap (λ (b : Bool). cond b None (Some (low + 128 * high, rest))) not_zero

-- ---- what is read is what was written

-- a number that is read is spelled so
pub varint_back : (more k : ℕ) (bytes : List ℕ) (n : ℕ) (rest : List ℕ) → more ≤ k → AreBytes bytes → varint_in more bytes ≡ Some (n, rest)
    → bytes ≡ varint_within k n ++ rest
varint_back zero k bytes n rest le fits e = let none = in-none bytes in absurd cc
varint_back (suc more) k [] n rest le fits e = let none = in-empty more in absurd cc
varint_back (suc more) zero (byte ∷ bytes) n rest le fits e = absurd (omega arith)
varint_back (suc more) (suc k) (byte ∷ bytes) n rest le fits e =
    elim (cases_lt byte 128) [
      | inl lt ↦
          let same = some_pair_parts byte n bytes rest (sym (in-small more byte bytes lt) ∙ e) in
          ap₂ (λ (b : ℕ) (l : List ℕ). b ∷ l) same.0 same.1
          ∙ sym (ap (λ (l : List ℕ). l ++ rest) (varint_within-low k n (omega (arith, same.0))))
      | inr large ↦
          let byte_fits : byte < 256 = fits 0 in
          let h = above_some (byte - 128) n rest (varint_in more bytes) (sym (in-large more byte bytes large) ∙ e) in
          let low : n % 128 + 128 ≡ byte = omega (arith, h.sum_is) in
          let high : n / 128 ≡ h.high = omega (arith, h.sum_is) in
          ap (λ (l : List ℕ). byte ∷ l) (varint_back more k bytes h.high rest (omega arith) (λ i. fits (suc i)) h.read)
          ∙ sym (ap (λ (l : List ℕ). l ++ rest) (varint_within-high k n (omega (arith, h.sum_is, h.some)) ∙ ap₂ (λ (b m : ℕ). b ∷ varint_within k m) low high))
    ]

-- a number above 0 takes a byte
has_more : (more n : ℕ) → 0 < n → n < 128 ^ more → 0 < more
has_more zero n some lt = absurd (omega arith)
has_more (suc more) n some lt = omega arith

-- a number that is spelled is read
pub varint_again : (more k n : ℕ) (rest : List ℕ) → 0 < more → more ≤ k → n < 128 ^ more → varint_in more (varint_within k n ++ rest) ≡ Some (n, rest)
varint_again zero k n rest some le lt = absurd (omega arith)
varint_again (suc more) zero n rest some le lt = absurd (omega arith)
varint_again (suc more) (suc k) n rest some le lt =
    elim (cases_lt n 128) [
      | inl small ↦ ap (λ (l : List ℕ). varint_in (suc more) (l ++ rest)) (varint_within-low k n small) ∙ in-small more n rest small
      | inr large ↦
          let below : n < 128 ^ more * 128 = omega (arith, pow-suc 128 more) in
          let high : n / 128 < 128 ^ more = div_below n 128 (128 ^ more) (omega arith) below in
          let sum_is : n % 128 + 128 - 128 + 128 * (n / 128) ≡ n = omega arith in
          ap (λ (l : List ℕ). varint_in (suc more) (l ++ rest)) (varint_within-high k n large)
          ∙ in-large more (n % 128 + 128) (varint_within k (n / 128) ++ rest) (omega arith)
          ∙ ap (above_low (n % 128 + 128 - 128)) (varint_again more k (n / 128) rest (has_more more (n / 128) (omega arith) high) (omega arith) high)
          ∙ above_again (n % 128 + 128 - 128) (n / 128) rest (omega arith)
          ∙ ap (λ (m : ℕ). Some (m, rest)) sum_is
    ]

-- what is left behind a number is shorter
pub varint_shorter : (more : ℕ) (bytes : List ℕ) (n : ℕ) (rest : List ℕ) → varint_in more bytes ≡ Some (n, rest) → length rest < length bytes
varint_shorter zero bytes n rest e = let none = in-none bytes in absurd cc
varint_shorter (suc more) [] n rest e = let none = in-empty more in absurd cc
varint_shorter (suc more) (byte ∷ bytes) n rest e =
    elim (cases_lt byte 128) [
      | inl lt ↦
          let same = some_pair_parts byte n bytes rest (sym (in-small more byte bytes lt) ∙ e) in
          omega (arith, ap length same.1)
      | inr large ↦
          let h = above_some (byte - 128) n rest (varint_in more bytes) (sym (in-large more byte bytes large) ∙ e) in
          omega (arith, varint_shorter more bytes h.high rest h.read)
    ]
