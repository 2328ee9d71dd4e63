-- Entries of a codeword over a reading, by the shares at other points.
use Rattle.std.proofs.Common.{◌≡◌, ◌∙◌, ℕ, zero, suc, ◌*◌, ◌<◌, ◌≤◌, List, [], ◌∷◌, length, get_or, refl, sym, ap, ap₂, subst, arith, IsTrue}
use Rattle.std.specs.Prelude.{IfSome, Some, None, Option, slice_get}
use Rattle.std.proofs.lemmas.Option.{IfSome_then}
use Rattle.std.proofs.lemmas.List.{get_or-map}
use Rattle.namespace_id.specs.declared.shares.Share.{Share}
use Rattle.namespace_id.specs.Shares.{IsShare, AreShares}
use Rattle.label_polynomial.specs.Polynomial.{value_at, AreCoefficients, PassesThrough}
use Rattle.label_polynomial.proofs.Through.{through}
use Rattle.lch_fft.specs.Transforms.{column}
use Rattle.leopard_code.specs.Codewords.{HasCode, points, point, points_at, are_positions, IsCodewordOver, HasEntries}
use Rattle.lch_fft.proofs.ColumnLemmas.{length-column}
use Rattle.leopard_code.proofs.PointLemmas.{column_labels}
use Rattle.leopard_code.proofs.PositionLemmas.{points_differ, position-lt, takes-at, takes_each, length-points_at, get_or-points, length-points}
use Rattle.gf_cantor.specs.Field.{size}
use Rattle.lch_fft.specs.Readings.{LabelReading, AreReadingLaws}

-- the share has the values at x of the polynomials through the shares at the points
abbrev pub IsEntry : LabelReading → List ℕ → List Share → ℕ → Share → Type 0
IsEntry r xs shares x share = (b : ℕ) → b < r.columns → (cs : List ℕ) → length cs ≡ length xs → AreCoefficients r.field cs
    → PassesThrough r.field cs xs (column r b shares) → r.label_at share.0 b ≡ value_at r.field cs x

-- the label of a share that a list may have
abbrev pub byte_of : LabelReading → ℕ → Option Share → ℕ
byte_of r b None = 0
byte_of r b (Some share) = r.label_at share.0 b

module _ (R : LabelReading) (L : AreReadingLaws R) where
  -- the label of a column is that of the share at its place
  pub get_or-column : (b : ℕ) (ss : List Share) (i : ℕ) → get_or (column R b ss) i 0 ≡ byte_of R b (slice_get ss i)
  unfolding column
  get_or-column b [] i = refl
  get_or-column b (s ∷ ss) zero = refl
  get_or-column b (s ∷ ss) (suc i) = get_or-column b ss i

  -- the label of a column at a place that is there
  pub get_or-column_at : (b : ℕ) (ss : List Share) (i : ℕ) (d : Share) → i < length ss → get_or (column R b ss) i 0 ≡ R.label_at (get_or ss i d).0 b
  unfolding column
  get_or-column_at b [] i d h = absurd (omega arith)
  get_or-column_at b (s ∷ ss) zero d h = refl
  get_or-column_at b (s ∷ ss) (suc i) d h = get_or-column_at b ss i d (omega arith)

  -- what a fact of an element says of its label
  pub byte_of_entry : (b v : ℕ) (ss : List Share) (i : ℕ) → i < length ss → IfSome (slice_get ss i) (λ share. R.label_at share.0 b ≡ v) → get_or (column R b ss) i 0 ≡ v
  unfolding column
  byte_of_entry b v [] i h e = absurd (omega arith)
  byte_of_entry b v (s ∷ ss) zero h e = e
  byte_of_entry b v (s ∷ ss) (suc i) h e = byte_of_entry b v ss i (omega arith) e

  -- a column whose labels are a polynomial's values at the points of all positions
  pub takes_all : (k : ℕ) (cs ys : List ℕ) → length ys ≡ 2 * k → ((pos : ℕ) → pos < 2 * k → get_or ys pos 0 ≡ value_at R.field cs (point k pos)) → PassesThrough R.field cs (points k) ys
  takes_all k cs ys long each =
      takes_each R.field cs (points k) ys (length-points k ∙ sym long) (λ i h.
      let within : i < 2 * k = omega (arith, length-points k) in
      ap (value_at R.field cs) (get_or-points k i within) ∙ sym (each i within))

  -- entries at all positions are a codeword
  pub codeword_of_entries : (k : ℕ) (known : List ℕ) (shares word : List Share) → 2 * k ≤ size R.field → length known ≡ k → IsTrue (are_positions k known)
      → length shares ≡ k → AreShares shares → length word ≡ 2 * k → AreShares word
      → ((pos : ℕ) → pos < 2 * k → IfSome (slice_get word pos) (λ share. IsEntry R (points_at k known) shares (point k pos) share))
      → IsCodewordOver R k word
  codeword_of_entries k known shares word few count positions same shares_fit long word_fits entries = record {
    count = long;
    shares = word_fits;
    columns = λ b h.
        let xs : List ℕ = points_at k known in
        let found = through R.field L.laws xs (column R b shares) (omega (arith, length-points_at k known, length-column R L b shares)) (points_differ R.field k known few positions) (column_labels R L b shares shares_fit) in (
          found.0,
          omega (arith, found.1, length-points_at k known),
          found.2,
          takes_all k found.0 (column R b word) (length-column R L b word ∙ long) (λ pos within.
              byte_of_entry b (value_at R.field found.0 (point k pos)) word pos (omega arith)
              (IfSome_then (slice_get word pos) (entries pos within) (λ share entry. entry b h found.0 found.1 found.2 found.3))),
        );
  }

  -- shares with the same labels are one
  same_bytes : (s t : Share) → IsShare s → IsShare t → ((b : ℕ) → b < R.columns → R.label_at s.0 b ≡ R.label_at t.0 b) → s ≡ t
  same_bytes s t hs ht each =
      L.told s t hs ht each

  -- two shares of two lists that have the same labels
  pub same_place : (ss ts : List Share) (i j : ℕ) → i < length ss → j < length ts → AreShares ss → AreShares ts
      → ((b : ℕ) → b < R.columns → get_or (column R b ss) i 0 ≡ get_or (column R b ts) j 0) → slice_get ss i ≡ slice_get ts j
  unfolding column
  same_place [] ts i j hi hj fs ft each = absurd (omega arith)
  same_place (s ∷ ss) [] i j hi hj fs ft each = absurd (omega arith)
  same_place (s ∷ ss) (t ∷ ts) zero zero hi hj fs ft each = ap Some (same_bytes s t fs.0 ft.0 each)
  same_place (s ∷ ss) (t ∷ ts) zero (suc j) hi hj fs ft each = same_place (s ∷ ss) ts zero j hi (omega arith) fs ft.1 each
  same_place (s ∷ ss) (t ∷ ts) (suc i) j hi hj fs ft each = same_place ss (t ∷ ts) i j (omega arith) hj fs.1 ft each

  -- lists of shares that have the same labels
  pub same_shares : (ss ts : List Share) → length ss ≡ length ts → AreShares ss → AreShares ts
      → ((b i : ℕ) → b < R.columns → i < length ss → get_or (column R b ss) i 0 ≡ get_or (column R b ts) i 0) → ss ≡ ts
  unfolding column
  same_shares [] [] same fs ft each = refl
  same_shares [] (t ∷ ts) same fs ft each = absurd (omega arith)
  same_shares (s ∷ ss) [] same fs ft each = absurd (omega arith)
  same_shares (s ∷ ss) (t ∷ ts) same fs ft each =
      ap₂ (λ (x : Share) (xs : List Share). x ∷ xs) (same_bytes s t fs.0 ft.0 (λ b h. each b 0 h (omega arith)))
      (same_shares ss ts (omega arith) fs.1 ft.1 (λ b i hb hi. each b (suc i) hb (omega arith)))

  -- the entries at the known positions are the shares
  pub entries_are_known : (k : ℕ) (known : List ℕ) (shares word : List Share) → 2 * k ≤ size R.field → length known ≡ k → IsTrue (are_positions k known)
      → length shares ≡ k → AreShares shares → length word ≡ 2 * k → AreShares word
      → ((pos : ℕ) → pos < 2 * k → IfSome (slice_get word pos) (λ share. IsEntry R (points_at k known) shares (point k pos) share))
      → HasEntries known shares word
  entries_are_known k known shares word few count positions same shares_fit long word_fits entries i h =
      let pos : ℕ = get_or known i 0 in
      let within : pos < 2 * k = position-lt k known i h positions in
      same_place word shares pos i (omega arith) (omega arith) word_fits shares_fit (λ b hb.
      let xs : List ℕ = points_at k known in
      let found = through R.field L.laws xs (column R b shares) (omega (arith, length-points_at k known, length-column R L b shares)) (points_differ R.field k known few positions) (column_labels R L b shares shares_fit) in
      byte_of_entry b (value_at R.field found.0 (point k pos)) word pos (omega arith)
      (IfSome_then (slice_get word pos) (entries pos within) (λ share entry. entry b hb found.0 found.1 found.2 found.3))
      ∙ sym (ap (value_at R.field found.0) (get_or-map (point k) known i 0 0 h))
      ∙ takes-at R.field found.0 xs (column R b shares) i (omega (arith, length-points_at k known)) found.3)

  -- both, of the points as they were kept
  pub rebuilt : (k n : ℕ) (xs known : List ℕ) (shares word : List Share) → k ≡ n → HasCode R.field k → length known ≡ n → IsTrue (are_positions n known)
      → length shares ≡ n → AreShares shares → length word ≡ 2 * n → AreShares word → xs ≡ points_at k known
      → ((pos : ℕ) → pos < 2 * k → IfSome (slice_get word pos) (λ share. IsEntry R xs shares (point k pos) share)) → IsCodewordOver R n word × HasEntries known shares word
  rebuilt k n xs known shares word e width count positions same shares_fit long word_fits are entries =
      let few : 2 * n ≤ size R.field = omega (arith, e, width.fits) in
      let by_points : (pos : ℕ) → pos < 2 * k → IfSome (slice_get word pos) (λ share. IsEntry R (points_at k known) shares (point k pos) share) =
      subst (λ (l : List ℕ). (pos : ℕ) → pos < 2 * k → IfSome (slice_get word pos) (λ share. IsEntry R l shares (point k pos) share)) are entries in
      let by_width : (pos : ℕ) → pos < 2 * n → IfSome (slice_get word pos) (λ share. IsEntry R (points_at n known) shares (point n pos) share) =
      subst (λ (m : ℕ). (pos : ℕ) → pos < 2 * m → IfSome (slice_get word pos) (λ share. IsEntry R (points_at m known) shares (point m pos) share)) e by_points in
      (codeword_of_entries n known shares word few count positions same shares_fit long word_fits by_width, entries_are_known n known shares word few count positions same shares_fit long word_fits by_width)
