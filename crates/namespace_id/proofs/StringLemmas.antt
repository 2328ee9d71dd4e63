-- Lemmas on byte strings and their parts.
use Rattle.std.proofs.Common.{◌≡◌, ◌∙◌, ℕ, zero, suc, ◌+◌, ◌-◌, ◌<◌, List, [], ◌∷◌, ◌++◌, length, take, drop, replicate, sym, ap, ap₂, inl, inr, arith}
use Rattle.std.proofs.Math.Seq.{take-append_seam, drop-append_seam, drop-append-add}
use Rattle.std.proofs.lemmas.Bool.{cases_lt}
use Rattle.std.proofs.lemmas.List.{length-take, get_or-drop, get_or-take, get_or_past}
use Rattle.namespace_id.specs.Bytes.{AreBytes}

-- what is behind some bytes
pub AreBytes-drop : (n : ℕ) (bytes : List ℕ) → AreBytes bytes → AreBytes (drop n bytes)
AreBytes-drop n bytes h i = rw get_or-drop (h (n + i))

-- the first bytes
pub AreBytes-take : (n : ℕ) (bytes : List ℕ) → AreBytes bytes → AreBytes (take n bytes)
AreBytes-take n bytes h i =
    elim (cases_lt i n) [
      | inl lt ↦ rw (get_or-take n bytes i 0 lt) (h i)
      | inr le ↦ rw (get_or_past (take n bytes) i 0 (omega (arith, length-take n bytes))) (omega arith)
    ]

-- no bytes
pub AreBytes-none : AreBytes []
AreBytes-none i = omega arith

-- a byte before bytes
pub AreBytes-cons : (byte : ℕ) (bytes : List ℕ) → byte < 256 → AreBytes bytes → AreBytes (byte ∷ bytes)
AreBytes-cons byte bytes h fits zero = h
AreBytes-cons byte bytes h fits (suc i) = fits i

-- bytes behind bytes
pub AreBytes-append : (a b : List ℕ) → AreBytes a → AreBytes b → AreBytes (a ++ b)
AreBytes-append [] b h k i = k i
AreBytes-append (x ∷ a) b h k zero = h 0
AreBytes-append (x ∷ a) b h k (suc i) = AreBytes-append a b (λ j. h (suc j)) k i

-- one byte, so many times
pub AreBytes-replicate : (n byte : ℕ) → byte < 256 → AreBytes (replicate n byte)
AreBytes-replicate zero byte h i = omega arith
AreBytes-replicate (suc n) byte h zero = h
AreBytes-replicate (suc n) byte h (suc i) = AreBytes-replicate n byte h i

-- the front of two lists
pub front : {A : Type 0} (a b : List A) (n : ℕ) → length a ≡ n → take n (a ++ b) ≡ a
front a b n h = sym (ap (λ (m : ℕ). take m (a ++ b)) h) ∙ take-append_seam a b

-- what is behind it
pub behind : {A : Type 0} (a b : List A) (n : ℕ) → length a ≡ n → drop n (a ++ b) ≡ b
behind a b n h = sym (ap (λ (m : ℕ). drop m (a ++ b)) h) ∙ drop-append_seam a b

-- a part that is put behind a front leaves the front, and what is behind the part
pub put_next : (before rest part : List ℕ) → take (length before) (before ++ rest) ++ part ++ drop (length before + length part) (before ++ rest)
    ≡ before ++ part ++ drop (length part) rest
put_next before rest part =
    ap₂ (λ (x y : List ℕ). x ++ part ++ y) (take-append_seam before rest) (drop-append-add before rest (length part))

-- leaving out one byte and then n - 1 leaves out n
pub drop_one : (n : ℕ) (bytes : List ℕ) → 0 < n → 0 < length bytes → drop (n - 1) (drop 1 bytes) ≡ drop n bytes
drop_one zero bytes h k = absurd (omega arith)
drop_one (suc n) [] h k = absurd (omega arith)
drop_one (suc n) (b ∷ bytes) h k = let e : suc n - 1 ≡ n = omega arith in ap (λ (m : ℕ). drop m bytes) e
