-- Sums and multiples of codewords.
use Rattle.std.proofs.Common.{◌≡◌, ◌∙◌, ℕ, suc, ◌<◌, List, [], ◌∷◌, length, refl, sym, ap, ap₂, subst, arith}
use Rattle.std.specs.Prelude.{bit_xor}
use Rattle.gf_cantor.specs.Field.{product, byte_field}
use Rattle.gf_cantor.proofs.FieldLaws.{byte_laws}
use Rattle.namespace_id.specs.declared.shares.Share.{Share}
use Rattle.namespace_id.specs.Bytes.{AreBytes}
use Rattle.namespace_id.specs.Shares.{IsShare, AreShares}
use Rattle.label_polynomial.specs.Polynomial.{PassesThrough}
use Rattle.label_polynomial.proofs.Sums.{sum, scaled, value_at-sum, value_at-scaled, length-sum, length-scaled, AreCoefficients-sum, AreCoefficients-scaled}
use Rattle.lch_fft.specs.Readings.{LabelReading, AreReadingLaws}
use Rattle.lch_fft.specs.Transforms.{column}
use Rattle.lch_fft.specs.Butterflies.{multiple}
use Rattle.lch_fft.proofs.ByteLemmas.{length-bytes_sum, get_or-bytes_sum, AllLabels-bytes_sum}
use Rattle.leopard_code.specs.Codewords.{points, IsColumn, IsCodewordOver, bytes_sum, share_sum, shares_sum, AreMultiples}

-- a sum of byte strings has bytes
AreBytes-sum : (xs ys : List ℕ) → AreBytes xs → AreBytes ys → AreBytes (bytes_sum xs ys)
unfolding byte_field
AreBytes-sum = AllLabels-bytes_sum byte_field byte_laws

-- a sum of shares is a share
IsShare-sum : (s t : Share) → IsShare s → IsShare t → IsShare (share_sum s t)
IsShare-sum s t hs ht = record {
  size_is = length-bytes_sum s.0 t.0 512 hs.size_is ht.size_is;
  fits = AreBytes-sum s.0 t.0 hs.fits ht.fits;
}

-- a sum of lists of shares is a list of shares
AreShares-sum : (ss ts : List Share) → AreShares ss → AreShares ts → AreShares (shares_sum ss ts)
unfolding shares_sum
AreShares-sum [] ts hs ht = tt
AreShares-sum (s ∷ ss) [] hs ht = tt
AreShares-sum (s ∷ ss) (t ∷ ts) hs ht = (IsShare-sum s t hs.0 ht.0, AreShares-sum ss ts hs.1 ht.1)

-- a sum of lists of shares is as long as they are
length-shares_sum : (ss ts : List Share) → length ss ≡ length ts → length (shares_sum ss ts) ≡ length ss
unfolding shares_sum
length-shares_sum [] ts e = refl
length-shares_sum (s ∷ ss) [] e = absurd (omega arith)
length-shares_sum (s ∷ ss) (t ∷ ts) e = ap suc (length-shares_sum ss ts (omega arith))

module _ (R : LabelReading) (L : AreReadingLaws R) where
  -- a column of a sum is the sum of the columns
  column-sum : (c : ℕ) (ss ts : List Share) → c < R.columns → AreShares ss → AreShares ts
      → column R c (shares_sum ss ts) ≡ bytes_sum (column R c ss) (column R c ts)
  unfolding column shares_sum bytes_sum
  column-sum c [] ts h hs ht = refl
  column-sum c (s ∷ ss) [] h hs ht = refl
  column-sum c (s ∷ ss) (t ∷ ts) h hs ht =
      ap₂ (λ (y : ℕ) (ys : List ℕ). y ∷ ys)
      (L.sum s.0 t.0 (bytes_sum s.0 t.0) hs.0.fits ht.0.fits (λ b l. get_or-bytes_sum s.0 t.0 b (omega (arith, hs.0.size_is)) (omega (arith, ht.0.size_is))) c h)
      (column-sum c ss ts h hs.1 ht.1)

  -- a sum of polynomials takes the sums of their values
  takes-sum : (ps qs xs ys zs : List ℕ) → PassesThrough R.field ps xs ys → PassesThrough R.field qs xs zs → PassesThrough R.field (sum ps qs) xs (bytes_sum ys zs)
  unfolding PassesThrough bytes_sum
  takes-sum ps qs [] [] zs h g = tt
  takes-sum ps qs [] (y ∷ ys) zs h g = elim h [ ]
  takes-sum ps qs (x ∷ xs) [] zs h g = elim h [ ]
  takes-sum ps qs (x ∷ xs) (y ∷ ys) [] h g = elim g [ ]
  takes-sum ps qs (x ∷ xs) (y ∷ ys) (z ∷ zs) h g =
      (value_at-sum R.field L.laws ps qs x ∙ ap₂ bit_xor h.0 g.0, takes-sum ps qs xs ys zs h.1 g.1)

  -- a sum of columns of codewords is one
  pub IsColumn-sum : (k : ℕ) (ys zs : List ℕ) → IsColumn R.field k ys → IsColumn R.field k zs → IsColumn R.field k (bytes_sum ys zs)
  IsColumn-sum k ys zs d e = (
    sum d.0 e.0,
    omega (arith, length-sum R.field L.laws d.0 e.0, d.1, e.1),
    AreCoefficients-sum R.field L.laws d.0 e.0 d.2 e.2,
    takes-sum d.0 e.0 (points k) ys zs d.3 e.3,
  )

  -- a sum of codewords is a codeword
  pub codeword_over-sum : (k : ℕ) (word other : List Share) → IsCodewordOver R k word → IsCodewordOver R k other → IsCodewordOver R k (shares_sum word other)
  codeword_over-sum k word other cw co = record {
    count = length-shares_sum word other (cw.count ∙ sym co.count) ∙ cw.count;
    shares = AreShares-sum word other cw.shares co.shares;
    columns = λ c h.
        subst (IsColumn R.field k) (sym (column-sum c word other h cw.shares co.shares))
        (IsColumn-sum k (column R c word) (column R c other) (cw.columns c h) (co.columns c h));
  }

  -- a multiple of a polynomial takes the multiples of its values
  takes-multiple : (by : ℕ) (ps xs ys : List ℕ) → PassesThrough R.field ps xs ys
      → PassesThrough R.field (scaled R.field L.laws by ps) xs (multiple R.field by ys)
  unfolding PassesThrough
  takes-multiple by ps [] [] h = tt
  takes-multiple by ps [] (y ∷ ys) h = elim h [ ]
  takes-multiple by ps (x ∷ xs) [] h = elim h [ ]
  takes-multiple by ps (x ∷ xs) (y ∷ ys) h = (value_at-scaled R.field L.laws by ps x ∙ ap (product R.field by) h.0, takes-multiple by ps xs ys h.1)

  -- a multiple of a column of a codeword is one
  pub IsColumn-multiple : (k by : ℕ) (ys : List ℕ) → IsColumn R.field k ys → IsColumn R.field k (multiple R.field by ys)
  IsColumn-multiple k by ys d = (
    scaled R.field L.laws by d.0,
    length-scaled R.field L.laws by d.0 ∙ d.1,
    AreCoefficients-scaled R.field L.laws by d.0,
    takes-multiple by d.0 (points k) ys d.3,
  )

  -- a multiple of a codeword is a codeword
  pub codeword_over-multiple : (k by : ℕ) (word other : List Share) → IsCodewordOver R k word → AreMultiples R by word other → IsCodewordOver R k other
  codeword_over-multiple k by word other cw multiples = record {
    count = multiples.count ∙ cw.count;
    shares = multiples.shares;
    columns = λ c h. subst (IsColumn R.field k) (sym (multiples.columns c h)) (IsColumn-multiple k by (column R c word) (cw.columns c h));
  }
