-- Fields of characteristic 2 with labels in a Cantor basis: the binary polynomials modulo one of them (docs/RULES.md,
-- "The byte field" and "The word field"). A polynomial is the number whose bit i is the coefficient of x^i; the sum of
-- two polynomials, and of two labels, is their xor.
use Rattle.std.specs.Prelude.{ℕ, zero, suc, ◌*◌, ◌/◌, ◌%◌, ◌^◌, List, [], ◌∷◌, bit_xor, ◌==◌, nat_lt, if◌then◌else◌}

-- what makes a field
pub record Field : Type 0 where
  -- the highest degree that a polynomial may have
  pub top : ℕ
  -- the polynomial that counts as 0, of one degree more
  pub modulus : ℕ
  -- the elements of the Cantor basis: each squared and added to itself gives the one before it
  pub basis : List ℕ
  -- the labels of 1, x, x^2, ..
  pub power_labels : List ℕ

-- the xor of the members of a list at the set bits of a number, the lowest bit for the first
unfoldable pub combine : List ℕ → ℕ → ℕ
combine [] a = 0
combine (b ∷ bs) a = bit_xor (if a % 2 == 1 then b else 0) (combine bs (a / 2))

-- the element that a label stands for: the xor of the basis elements at its set bits
unfoldable pub element : Field → ℕ → ℕ
element f a = combine f.basis a

-- the label of an element: the xor of the labels of its powers of x
unfoldable pub label : Field → ℕ → ℕ
label f p = combine f.power_labels p

-- x times a polynomial, modulo the field's
unfoldable pub times_x : Field → ℕ → ℕ
times_x f p = if nat_lt p (2 ^ f.top) then 2 * p else bit_xor (2 * p) f.modulus

-- x^i times a polynomial
unfoldable pub shift : Field → ℕ → ℕ → ℕ
shift f zero p = p
shift f (suc i) p = times_x f (shift f i p)

-- x^i
abbrev pub power : Field → ℕ → ℕ
power f i = shift f i 1

-- p times the polynomial of the n lowest bits of q: its constant term times p, and x times p times the rest
unfoldable pub times_low : Field → ℕ → ℕ → ℕ → ℕ
times_low f zero p q = 0
times_low f (suc n) p q = bit_xor (if q % 2 == 1 then p else 0) (times_x f (times_low f n p (q / 2)))

-- the product of two elements
unfoldable pub times : Field → ℕ → ℕ → ℕ
times f p q = times_low f (suc f.top) p q

-- the product of two labels: the label whose element is the product of both elements
unfoldable pub product : Field → ℕ → ℕ → ℕ
product f a b = label f (times f (element f a) (element f b))

-- how many bits a label has
abbrev pub bits : Field → ℕ
bits f = suc f.top

-- how many labels there are
abbrev pub size : Field → ℕ
size f = 2 ^ bits f

-- the byte field: 256 elements, modulo x^8 + x^4 + x^3 + x^2 + 1
unfoldable pub byte_field : Field
byte_field = record {
  top = 7;
  modulus = 0x11D;
  basis = 1 ∷ 214 ∷ 152 ∷ 146 ∷ 86 ∷ 200 ∷ 88 ∷ 230 ∷ [];
  power_labels = 1 ∷ 104 ∷ 92 ∷ 100 ∷ 114 ∷ 240 ∷ 86 ∷ 18 ∷ [];
}

-- the word field: 65,536 elements, modulo x^16 + x^5 + x^3 + x^2 + 1
unfoldable pub word_field : Field
word_field = record {
  top = 15;
  modulus = 0x1002D;
  basis =
      0x0001 ∷ 0xACCA ∷ 0x3C0E ∷ 0x163E ∷ 0xC582 ∷ 0xED2E ∷ 0x914C ∷ 0x4012
      ∷ 0x6C98 ∷ 0x10D8 ∷ 0x6A72 ∷ 0xB900 ∷ 0xFDB8 ∷ 0xFB34 ∷ 0xFF38 ∷ 0x991E ∷ [];
  power_labels =
      1 ∷ 18064 ∷ 26072 ∷ 25296 ∷ 22324 ∷ 17904 ∷ 21432 ∷ 7736
      ∷ 31918 ∷ 20024 ∷ 26376 ∷ 49756 ∷ 31332 ∷ 40620 ∷ 4388 ∷ 21050 ∷ [];
}
