-- The points of the positions.
use Rattle.std.proofs.Common.{ℕ, zero, suc, ◌+◌, ◌<◌, ◌≤◌, List, [], ◌∷◌, ◌++◌, arith}
use Rattle.namespace_id.specs.declared.shares.Share.{Share}
use Rattle.namespace_id.specs.Shares.{AreShares}
use Rattle.gf_cantor.specs.Field.{Field, size}
use Rattle.lch_fft.specs.Readings.{LabelReading, AreReadingLaws}
use Rattle.lch_fft.specs.Transforms.{column}
use Rattle.label_polynomial.specs.Polynomial.{AreCoefficients, Avoids, ArePoints, PassesThrough}
use Rattle.namespace_id.specs.Lists.{ascending}

-- a number below the first of those that count up is none of them
avoids-ascending : (n x first : ℕ) → x < first → Avoids x (ascending first n)
unfolding ascending Avoids
avoids-ascending zero x first h = tt
avoids-ascending (suc n) x first h = ((λ e. absurd (omega arith)), avoids-ascending n x (suc first) (omega arith))

-- numbers that count up are different points
pub points-ascending : (f : Field) (n first : ℕ) → first + n ≤ size f → ArePoints f (ascending first n)
unfolding ascending ArePoints
points-ascending f zero first h = tt
points-ascending f (suc n) first h = (omega arith, avoids-ascending n first (suc first) (omega arith), points-ascending f n (suc first) (omega arith))

-- a column has labels
pub column_labels : (r : LabelReading) → AreReadingLaws r → (c : ℕ) (ss : List Share) → AreShares ss → AreCoefficients r.field (column r c ss)
unfolding column AreCoefficients
column_labels r laws c [] h = tt
column_labels r laws c (s ∷ ss) h = (laws.below s h.0 c, column_labels r laws c ss h.1)

-- a polynomial takes two lists of values where it takes each
pub takes-append : (f : Field) (cs xs ys xs' ys' : List ℕ) → PassesThrough f cs xs ys → PassesThrough f cs xs' ys' → PassesThrough f cs (xs ++ xs') (ys ++ ys')
unfolding PassesThrough
takes-append f cs [] [] xs' ys' h g = g
takes-append f cs [] (y ∷ ys) xs' ys' h g = elim h [ ]
takes-append f cs (x ∷ xs) [] xs' ys' h g = elim h [ ]
takes-append f cs (x ∷ xs) (y ∷ ys) xs' ys' h g = (h.0, takes-append f cs xs ys xs' ys' h.1 g)
