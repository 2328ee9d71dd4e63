-- Both readings have the laws.
use Rattle.std.proofs.Common.{◌≡◌, ℕ, zero, suc, ◌+◌, ◌*◌, ◌/◌, ◌%◌, ◌^◌, ◌<◌, ◌≤◌, List, [], ◌∷◌, length, inl, inr, get_or, if◌then◌else◌, cond, refl, sym, ap, ap₂, ◌∙◌, arith}
use Rattle.std.specs.Prelude.{bit_xor, nat_lt}
use Rattle.std.proofs.lemmas.Bool.{cases_lt, lt-ltb, le-ltb}
use Rattle.std.proofs.lemmas.Nat.{xor_block}
use Rattle.std.proofs.lemmas.Grind.{same_number_lists}
use Rattle.gf_cantor.specs.Field.{byte_field, word_field}
use Rattle.gf_cantor.specs.Words.{place, word}
use Rattle.gf_cantor.specs.Laws.{ArePowerLaws}
use Rattle.gf_cantor.proofs.FieldLaws.{byte_laws, word_laws}
use Rattle.gf_cantor.proofs.ExponentLaws.{byte_power_laws, word_power_laws}
use Rattle.namespace_id.specs.Bytes.{AreBytes}
use Rattle.namespace_id.specs.declared.shares.Share.{Share}
use Rattle.namespace_id.specs.Shares.{IsShare}
use Rattle.lch_fft.specs.Readings.{byte_reading, word_reading, AreReadingLaws}

-- a list by its elements
unfoldable listed : ℕ → (ℕ → ℕ) → List ℕ
listed zero f = []
listed (suc n) f = f 0 ∷ listed n (λ i. f (suc i))

-- a list of n values of a function has n
length-listed : (n : ℕ) (f : ℕ → ℕ) → length (listed n f) ≡ n
unfolding listed
length-listed zero f = refl
length-listed (suc n) f = ap suc (length-listed n (λ i. f (suc i)))

-- each is the value at its place
get_or-listed : (n : ℕ) (f : ℕ → ℕ) (i : ℕ) → i < n → get_or (listed n f) i 0 ≡ f i
unfolding listed
get_or-listed zero f i h = absurd (omega arith)
get_or-listed (suc n) f zero h = refl
get_or-listed (suc n) f (suc i) h = get_or-listed n (λ j. f (suc j)) i (omega arith)

-- bytes that are listed are bytes
listed-lt : (n : ℕ) (f : ℕ → ℕ) → ((i : ℕ) → f i < 256) → AreBytes (listed n f)
unfolding listed
listed-lt zero f h i = omega arith
listed-lt (suc n) f h zero = h 0
listed-lt (suc n) f h (suc i) = listed-lt n (λ j. f (suc j)) (λ j. h (suc j)) i

-- a share by its bytes
share_by_bytes : (f : ℕ → ℕ) → ((b : ℕ) → f b < 256) → (share : Share) × IsShare share × ((b : ℕ) → b < 512 → get_or share.0 b 0 ≡ f b)
share_by_bytes f h = (record { 0 = listed 512 f }, record { size_is = length-listed 512 f; fits = listed-lt 512 f h }, get_or-listed 512 f)

-- the lower bytes of equal words are equal, and the higher ones
word_tells : (x y z w : ℕ) → x < 256 → z < 256 → x + 256 * y ≡ z + 256 * w → (x ≡ z) × (y ≡ w)
word_tells x y z w hx hz e = (omega arith, omega arith)

-- each byte stands in a word
byte_told : (share other : Share) → IsShare share → IsShare other → ((i : ℕ) → i < 256 → word share.0 i ≡ word other.0 i)
    → (k : ℕ) → k < 512 → get_or share.0 k 0 ≡ get_or other.0 k 0
unfolding word
byte_told share other hs ho same k l =
    let i : ℕ = 32 * (k / 64) + k % 32 in
    let both = word_tells (get_or share.0 (place i) 0) (get_or share.0 (place i + 32) 0) (get_or other.0 (place i) 0) (get_or other.0 (place i + 32) 0)
    (hs.fits (place i)) (ho.fits (place i)) (same i (omega arith)) in
    elim (cases_lt (k % 64) 32) [
      | inl low ↦
          let here : place i ≡ k = omega arith in
          ap (λ j. get_or share.0 j 0) (sym here) ∙ both.0 ∙ ap (λ j. get_or other.0 j 0) here
      | inr high ↦
          let here : place i + 32 ≡ k = omega arith in
          ap (λ j. get_or share.0 j 0) (sym here) ∙ both.1 ∙ ap (λ j. get_or other.0 j 0) here
    ]

-- shares with the same bytes are one share
same_share : (share other : Share) → IsShare share → IsShare other → ((b : ℕ) → b < 512 → get_or share.0 b 0 ≡ get_or other.0 b 0) → share ≡ other
same_share share other hs ho same =
    ap (λ (l : List ℕ). record { 0 = l })
    (same_number_lists share.0 other.0 (hs.size_is ∙ sym ho.size_is) (λ k l. same k (omega (arith, hs.size_is))))

-- the byte of a place of a share that has given words
abbrev byte_from : (ℕ → ℕ) → ℕ → ℕ
byte_from f b = if nat_lt (b % 64) 32 then f (32 * (b / 64) + b % 32) % 256 else f (32 * (b / 64) + b % 32) / 256

-- it is a byte
byte_from-lt : (f : ℕ → ℕ) → ((c : ℕ) → f c < 65536) → (b : ℕ) → byte_from f b < 256
byte_from-lt f h b = elim (cases_lt (b % 64) 32) [
  | inl low ↦
      let e : byte_from f b ≡ f (32 * (b / 64) + b % 32) % 256 =
      ap (λ t. cond t (f (32 * (b / 64) + b % 32) % 256) (f (32 * (b / 64) + b % 32) / 256)) (lt-ltb (b % 64) 32 low) in
      omega arith
  | inr high ↦
      let e : byte_from f b ≡ f (32 * (b / 64) + b % 32) / 256 =
      ap (λ t. cond t (f (32 * (b / 64) + b % 32) % 256) (f (32 * (b / 64) + b % 32) / 256)) (le-ltb (b % 64) 32 high) in
      omega (arith, h (32 * (b / 64) + b % 32))
]

-- the lower byte of a word, and the higher one
low_from : (f : ℕ → ℕ) (c : ℕ) → byte_from f (place c) ≡ f c % 256
low_from f c =
    let low : place c % 64 < 32 = omega arith in
    let here : 32 * (place c / 64) + place c % 32 ≡ c = omega arith in
    ap (λ t. cond t (f (32 * (place c / 64) + place c % 32) % 256) (f (32 * (place c / 64) + place c % 32) / 256)) (lt-ltb (place c % 64) 32 low)
    ∙ ap (λ i. f i % 256) here

high_from : (f : ℕ → ℕ) (c : ℕ) → byte_from f (place c + 32) ≡ f c / 256
high_from f c =
    let high : 32 ≤ (place c + 32) % 64 = omega arith in
    let here : 32 * ((place c + 32) / 64) + (place c + 32) % 32 ≡ c = omega arith in
    ap (λ t. cond t (f (32 * ((place c + 32) / 64) + (place c + 32) % 32) % 256) (f (32 * ((place c + 32) / 64) + (place c + 32) % 32) / 256))
    (le-ltb ((place c + 32) % 64) 32 high)
    ∙ ap (λ i. f i / 256) here

-- a share by its words
share_of_words : (f : ℕ → ℕ) → ((c : ℕ) → f c < 65536) → (share : Share) × IsShare share × ((c : ℕ) → c < 256 → word share.0 c ≡ f c)
unfolding word
share_of_words f h =
    let made = share_by_bytes (byte_from f) (byte_from-lt f h) in (
      made.0,
      made.1,
      λ c l.
          let whole : f c % 256 + 256 * (f c / 256) ≡ f c = omega arith in
          ap₂ (λ (x y : ℕ). x + 256 * y)
          (made.2 (place c) (omega arith) ∙ low_from f c)
          (made.2 (place c + 32) (omega arith) ∙ high_from f c)
          ∙ whole,
    )

-- the sums of both bytes make the sum of the words
both_sums : (x y z w : ℕ) → x < 256 → z < 256 → bit_xor x z + 256 * bit_xor y w ≡ bit_xor (x + 256 * y) (z + 256 * w)
both_sums x y z w hx hz =
    let left : x + 256 * y ≡ y * 2 ^ 8 + x = omega arith in
    let right : z + 256 * w ≡ w * 2 ^ 8 + z = omega arith in
    let whole : bit_xor x z + 256 * bit_xor y w ≡ bit_xor y w * 2 ^ 8 + bit_xor x z = omega arith in
    whole ∙ sym (ap₂ bit_xor left right ∙ xor_block 8 y w x z hx hz)

-- a word of a sum of shares
word_sum : (acc row new : List ℕ) → AreBytes acc → AreBytes row
    → ((b : ℕ) → b < 512 → get_or new b 0 ≡ bit_xor (get_or acc b 0) (get_or row b 0))
    → (c : ℕ) → c < 256 → word new c ≡ bit_xor (word acc c) (word row c)
unfolding word
word_sum acc row new ha hr sum c l =
    ap₂ (λ x y. x + 256 * y) (sum (place c) (omega arith)) (sum (place c + 32) (omega arith))
    ∙ both_sums (get_or acc (place c) 0) (get_or acc (place c + 32) 0) (get_or row (place c) 0) (get_or row (place c + 32) 0) (ha (place c)) (hr (place c))

-- of bytes
pub byte_reading_laws : AreReadingLaws byte_reading
unfolding byte_reading byte_field
byte_reading_laws = record {
  laws = byte_laws;
  below = λ share h c. h.fits c;
  told = same_share;
  made = share_by_bytes;
  sum = λ acc row new ha hr sum. sum;
}

-- of words
pub word_reading_laws : AreReadingLaws word_reading
unfolding word_reading word_field word
word_reading_laws = record {
  laws = word_laws;
  below = λ share h c. omega (arith, h.fits (place c), h.fits (place c + 32));
  told = λ share other hs ho same. same_share share other hs ho (byte_told share other hs ho same);
  made = share_of_words;
  sum = word_sum;
}

-- the powers of x, of bytes and of words
pub byte_reading_powers : ArePowerLaws byte_reading.field
unfolding byte_reading
byte_reading_powers = byte_power_laws

pub word_reading_powers : ArePowerLaws word_reading.field
unfolding word_reading
word_reading_powers = word_power_laws
