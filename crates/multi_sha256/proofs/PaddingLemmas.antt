-- The padding behind a message, byte by byte.
use Rattle.std.proofs.Common.{◌≡◌, ℕ, zero, suc, ◌<◌, ◌≤◌, ◌+◌, ◌-◌, ◌*◌, ◌%◌, ◌^◌, List, [], ◌∷◌, ◌++◌, length, take, drop, length-drop, length-append, replicate, slice_set, refl, sym, ap, ap₂, ◌∙◌, arith}
use Rattle.std.proofs.lemmas.List.{append_assoc, take_more_set, length-take-le, drop_all, append-nil}
use Rattle.std.specs.Int.{w64, to_be_bytes}
use Rattle.std.proofs.lemmas.Simd.{length-replicate}
use Rattle.sha2.specs.Sha256.{padded_message}
use borrow.Rule.Slice.PartMut.{put_mid}

-- one more zero
replicate_push : (z n : ℕ) → replicate n z ++ z ∷ [] ≡ replicate (suc n) z
replicate_push z zero = refl
replicate_push z (suc n) = ap (λ (l : List ℕ). z ∷ l) (replicate_push z n)

-- the first byte of the padding
pub padding_first : (m : List ℕ) (size : ℕ) → size < length m → take (size + 1) (slice_set m size 0x80) ≡ take size m ++ 0x80 ∷ replicate (size + 1 - (size + 1)) 0
padding_first m size h =
    let none : size + 1 - (size + 1) ≡ 0 = omega arith in
    rw none (take_more_set m size 0x80 h)

-- one more of its zeros
pub padding_more : (old m : List ℕ) (size i : ℕ) → size + 1 ≤ i → i < length m
    → take i m ≡ take size old ++ 0x80 ∷ replicate (i - (size + 1)) 0
    → take (i + 1) (slice_set m i 0) ≡ take size old ++ 0x80 ∷ replicate (i + 1 - (size + 1)) 0
padding_more old m size i low high before =
    let n = i - (size + 1) in
    let next : i + 1 - (size + 1) ≡ suc n = omega arith in
    take_more_set m i 0 high
    ∙ ap (λ (l : List ℕ). l ++ 0 ∷ []) before
    ∙ append_assoc (take size old) (0x80 ∷ replicate n 0) (0 ∷ [])
    ∙ ap (λ (l : List ℕ). take size old ++ 0x80 ∷ l) (replicate_push 0 n)
    ∙ sym (ap (λ (k : ℕ). take size old ++ 0x80 ∷ replicate k 0) next)

-- its end, the size in bits
pub padding_last : (old m ys : List ℕ) (size end k : ℕ) → length old % 64 ≡ 0 → size + 9 ≤ length old → length old < size + 73
    → length m ≡ length old → end ≡ length old - 8
    → take end m ≡ take size old ++ 0x80 ∷ replicate (end - (size + 1)) 0
    → ys ≡ to_be_bytes w64 (size * 8 % 2 ^ 64)
    → k ≡ length ys → put_mid end k m ys ≡ padded_message (take size old)
padding_last old m ys size end k whole room tight len at before ey ek =
    let n : length (take size old) ≡ size = length-take-le size old (omega arith) in
    let count : end - (size + 1) ≡ (119 - size % 64) % 64 = omega arith in
    let ly : length ys ≡ 8 = rw ey refl in
    let rest : drop k (drop end m) ≡ [] = drop_all k (drop end m) (omega (arith, length-drop end m)) in
    ap (λ (l : List ℕ). take end m ++ (ys ++ l)) rest
    ∙ ap (λ (l : List ℕ). take end m ++ l) (append-nil ys)
    ∙ ap₂ (λ (x y : List ℕ). x ++ y) (before ∙ ap (λ (z : ℕ). take size old ++ 0x80 ∷ replicate z 0) count) ey
    ∙ append_assoc (take size old) (0x80 ∷ replicate ((119 - size % 64) % 64) 0) (to_be_bytes w64 (size * 8 % 2 ^ 64))
    ∙ sym (ap (λ (z : ℕ). take size old ++ ((0x80 ∷ replicate ((119 - z % 64) % 64) 0) ++ to_be_bytes w64 (z * 8 % 2 ^ 64))) n)

-- how long a padded message is
pub length-padded : (m : List ℕ) (n : ℕ) → n % 64 ≡ 0 → length m + 9 ≤ n → n < length m + 73 → length (padded_message m) ≡ n
length-padded m n whole room tight =
    let zeros : List ℕ = replicate ((119 - length m % 64) % 64) 0 in
    let end : List ℕ = to_be_bytes w64 (length m * 8 % 2 ^ 64) in
    let ends : length end ≡ 8 = refl in
    let one : length (0x80 ∷ zeros) ≡ suc ((119 - length m % 64) % 64) = ap (λ (k : ℕ). suc k) (length-replicate ((119 - length m % 64) % 64) 0) in
    omega (arith, ends, one, length-append m ((0x80 ∷ zeros) ++ end), length-append (0x80 ∷ zeros) end)
