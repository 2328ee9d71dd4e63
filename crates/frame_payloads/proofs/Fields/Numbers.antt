-- A number that is read is the number that was written, and a number that was written is read.
use Rattle.std.proofs.Common.{false, ◌≤◌, ltb, ltb-false, le-ltb, ◌≡◌, ◌∙◌, ℕ, ◌^◌, ◌<◌, List, ◌++◌, length, take, Some, refl, sym, ap, subst, arith}
use Rattle.std.specs.Int.{Width, w16, w32, w64, byte_len, from_be_bytes, to_be_bytes}
use Rattle.std.proofs.lemmas.Nat.{be_bytes_2, be_bytes_4, be_bytes_8, from_be_bytes-to_be_bytes_2, from_be_bytes-to_be_bytes_4, from_be_bytes-to_be_bytes_8}
use Rattle.namespace_id.specs.Bytes.{AreBytes}
use Rattle.std.proofs.lemmas.Option.{some_pair_parts}
use Rattle.frame_fields.specs.Fields.{big_endian_at, count_at}
use Rattle.frame_payloads.proofs.Fields.Readers.{bind_some, if_false, Takes, Takes-is, front_takes, front_again}

-- numbers below a limit are strings of one length, and back
pub record IsWide (w : Width) (limit : ℕ) : Type 0 where
  pub len : (n : ℕ) → length (to_be_bytes w n) ≡ byte_len w
  pub back : (bytes : List ℕ) → length bytes ≡ byte_len w → AreBytes bytes → to_be_bytes w (from_be_bytes w bytes) ≡ bytes
  pub again : (n : ℕ) → n < limit → from_be_bytes w (to_be_bytes w n) ≡ n
  pub below : (bytes : List ℕ) → AreBytes bytes → from_be_bytes w bytes < limit

-- numbers below 2 ^ 16 are strings of two bytes
pub wide16 : IsWide w16 (2 ^ 16)
wide16 = record {
  len = λ n. refl;
  back = λ bytes len fits. be_bytes_2 bytes _ len fits refl;
  again = λ n lt. from_be_bytes-to_be_bytes_2 n lt;
  below = λ bytes fits. omega (arith, fits 0, fits 1);
}

-- numbers below 2 ^ 32 are strings of four bytes
pub wide32 : IsWide w32 (2 ^ 32)
wide32 = record {
  len = λ n. refl;
  back = λ bytes len fits. be_bytes_4 bytes _ len fits refl;
  again = λ n lt. from_be_bytes-to_be_bytes_4 n lt;
  below = λ bytes fits. omega (arith, fits 0, fits 1, fits 2, fits 3);
}

-- numbers below 2 ^ 64 are strings of eight bytes
pub wide64 : IsWide w64 (2 ^ 64)
wide64 = record {
  len = λ n. refl;
  back = λ bytes len fits. be_bytes_8 bytes _ len fits refl;
  again = λ n lt. from_be_bytes-to_be_bytes_8 n lt;
  below = λ bytes fits. omega (arith, fits 0, fits 1, fits 2, fits 3, fits 4, fits 5, fits 6, fits 7);
}

-- a number that is read is the one that was written, and fits its width
pub number_takes : (w : Width) (limit : ℕ) (wide : IsWide w limit) (bytes : List ℕ) (n : ℕ) (rest : List ℕ) → AreBytes bytes → big_endian_at w bytes ≡ Some (n, rest)
    → Takes bytes (to_be_bytes w n) rest × (n < limit)
number_takes w limit wide bytes n rest fits e =
    let t = front_takes (from_be_bytes w) (byte_len w) bytes n rest fits e in
    let spelled : to_be_bytes w n ≡ take (byte_len w) bytes = ap (to_be_bytes w) (sym t.1) ∙ wide.back (take (byte_len w) bytes) t.0.size_is t.0.fits in
    (Takes-is bytes (take (byte_len w) bytes) (to_be_bytes w n) rest rest (sym spelled) refl t.2, subst (λ (m : ℕ). m < limit) t.1 (wide.below (take (byte_len w) bytes) t.0.fits))

-- a number that fits its width and was written is read, whatever follows it
pub number_again : (w : Width) (limit : ℕ) (wide : IsWide w limit) (n : ℕ) (rest : List ℕ) → n < limit → big_endian_at w (to_be_bytes w n ++ rest) ≡ Some (n, rest)
number_again w limit wide n rest lt =
    subst (λ (m : ℕ). big_endian_at w (to_be_bytes w n ++ rest) ≡ Some (m, rest)) (wide.again n lt) (front_again (from_be_bytes w) (byte_len w) (to_be_bytes w n) rest (wide.len n))

-- ---- a number that has a limit

-- a count that is read is the one that was written, and is within its limit
pub count_takes : (w : Width) (bound : ℕ) (wide : IsWide w bound) (limit : ℕ) (bytes : List ℕ) (n : ℕ) (rest : List ℕ) → AreBytes bytes → count_at w limit bytes ≡ Some (n, rest)
    → Takes bytes (to_be_bytes w n) rest × (n ≤ limit)
unfolding count_at
count_takes w bound wide limit bytes n rest fits e =
    let a = bind_some (big_endian_at w bytes) _ (n, rest) e in
    let g = if_false (ltb limit a.0.0) (Some a.0) (n, rest) a.2 in
    let same = some_pair_parts a.0.0 n a.0.1 rest g.1 in
    ((number_takes w bound wide bytes n rest fits (a.1 ∙ g.1)).0, subst (λ (m : ℕ). m ≤ limit) same.0 (ltb-false limit a.0.0 g.0))

-- a count within its limit that was written is read
pub count_again : (w : Width) (bound : ℕ) (wide : IsWide w bound) (limit n : ℕ) (rest : List ℕ) → n < bound → n ≤ limit → count_at w limit (to_be_bytes w n ++ rest) ≡ Some (n, rest)
unfolding count_at
count_again w bound wide limit n rest lt few =
    let within : ltb limit n ≡ false = le-ltb _ _ few in
    rw (number_again w bound wide n rest lt, within) refl
