-- Lost shares by the derivative of the product with the locator of the missing positions. Position
-- pos is taken as a point: the sum of a codeword's points and k are its positions.
use Rattle.std.proofs.Common.{◌≡◌, ◌≢◌, ◌∙◌, ℕ, ◌+◌, ◌*◌, ◌<◌, ◌≤◌, List, ◌∷◌, ◌++◌, length, get_or, sym, ap, ap₂, subst, arith, IsTrue, inl, inr}
use Rattle.std.specs.Prelude.{bit_xor, slice_get}
use Rattle.std.proofs.lemmas.List.{get_or-map}
use Rattle.gf_cantor.proofs.Laws.{product_comm, product-zero}
use Rattle.namespace_id.specs.declared.shares.Share.{Share}
use Rattle.namespace_id.specs.Shares.{AreShares}
use Rattle.lch_fft.proofs.CountLemmas.{count-pos}
use Rattle.label_polynomial.specs.Polynomial.{value_at, AreCoefficients, ArePoints, PassesThrough}
use Rattle.label_polynomial.proofs.Sums.{value_at-lt}
use Rattle.label_polynomial.proofs.Through.{through}
use Rattle.label_polynomial.proofs.Translated.{translated, value_at-translated, length-translated}
use Rattle.lch_fft.specs.Transforms.{column}
use Rattle.leopard_code.specs.Codewords.{HasCode, points, point, points_at, are_positions, IsCodewordOver, HasEntries}
use Rattle.leopard_code.proofs.DifferenceLemmas.{away}
use Rattle.leopard_code.specs.Locators.{missing_from, apart_from, AreDerivatives}
use Rattle.lch_fft.proofs.ColumnLemmas.{length-column}
use Rattle.leopard_code.proofs.PointLemmas.{column_labels}
use Rattle.leopard_code.proofs.PositionLemmas.{point_moved, points_differ, takes-at, length-points_at}
use Rattle.leopard_code.proofs.EntryReadingLemmas.{byte_of, get_or-column, takes_all}
use Rattle.leopard_code.proofs.MissingLemmas.{IsKnown, IsMissing, Stands, length-missing, points_missing}
use Rattle.leopard_code.proofs.StandingLemmas.{stands, positions_rise}
use Rattle.leopard_code.proofs.LocatorLemmas.{apart_from-avoids, apart_from-middle}
use Rattle.leopard_code.proofs.ErasureLemmas.{away-root, missing_value}
use Rattle.gf_cantor.specs.Field.{product, size}
use Rattle.lch_fft.specs.Readings.{LabelReading, AreReadingLaws}

module _ (R : LabelReading) (L : AreReadingLaws R) where
  -- what the calls of `rebuild` make, one after another, of shares at known positions
  pub record IsRebuilding (k : ℕ) (known : List ℕ) (shares : List Share) (values : ℕ → ℕ) (blank multiplied derived divided word : List Share) : Type 0 where
    pub code : HasCode R.field k
    pub count : length known ≡ k
    pub positions : IsTrue (are_positions k known)
    pub as_many : length shares ≡ k
    pub bytes : AreShares shares
    pub located : (x : ℕ) → x < 2 * k → values x ≡ apart_from R.field (missing_from 0 (2 * k) known) x
    pub blank_bytes : (b i : ℕ) → b < R.columns → i < 2 * k → get_or (column R b blank) i 0 ≡ 0
    pub products_known : (b i : ℕ) → b < R.columns → i < length known → get_or (column R b multiplied) (get_or known i 0) 0
        ≡ bit_xor (get_or (column R b blank) (get_or known i 0) 0)
        (product R.field (values (get_or known i 0)) (get_or (column R b shares) i 0))
    pub products_others : (b pos : ℕ) → b < R.columns → pos < 2 * k → ((i : ℕ) → i < length known → get_or known i 0 ≢ pos)
        → get_or (column R b multiplied) pos 0 ≡ get_or (column R b blank) pos 0
    pub long : length multiplied ≡ 2 * k
    pub derivatives : AreDerivatives R multiplied derived
    pub quotients : (b pos y : ℕ) → b < R.columns → pos < 2 * k → y < size R.field
        → ((i : ℕ) → i < length known → get_or known i 0 ≢ pos)
        → get_or (column R b derived) pos 0 ≡ product R.field y (values pos) → get_or (column R b divided) pos 0 ≡ y
    pub known_again : HasEntries known shares word
    pub others_again : (pos : ℕ) → ((i : ℕ) → i < length known → get_or known i 0 ≢ pos) → slice_get word pos ≡ slice_get divided pos
    pub all_bytes : AreShares word
    pub whole : length word ≡ 2 * k

  -- ---- one column, of a polynomial that takes the labels of the known shares

  module _ (k : ℕ) (known : List ℕ) (shares : List Share) (values : ℕ → ℕ) (blank multiplied derived divided word : List Share)
      (r : IsRebuilding k known shares values blank multiplied derived divided word)
      (b : ℕ) (hb : b < R.columns) (cs : List ℕ) (degree : length cs ≡ k) (coefficients : AreCoefficients R.field cs) (takes : PassesThrough R.field cs (points_at k known) (column R b shares)) where
    -- the missing positions
    abbrev ms : List ℕ
    ms = missing_from 0 (2 * k) known

    -- the polynomial of the column, over positions
    abbrev moved : List ℕ
    moved = translated R.field L.laws k cs

    -- its value at a position
    value_moved : (pos : ℕ) → pos < 2 * k → value_at R.field moved pos ≡ value_at R.field cs (point k pos)
    value_moved pos h = value_at-translated R.field L.laws k cs pos ∙ ap (value_at R.field cs) (sym (point_moved k pos r.code.count h))

    -- each position is known or missing
    standing : (pos : ℕ) → pos < 2 * k → Stands pos known ms
    standing pos h = stands (2 * k) 0 (2 * k) known pos (omega arith) (positions_rise k known r.positions) (omega arith) h

    -- the value at a known position is the label there
    value_known : (pos : ℕ) → pos < 2 * k → (s : IsKnown pos known ms) → value_at R.field moved pos ≡ get_or (column R b shares) s.index 0
    value_known pos h s =
        value_moved pos h
        ∙ ap (value_at R.field cs) (ap (point k) (sym s.here) ∙ sym (get_or-map (point k) known s.index 0 0 s.within))
        ∙ takes-at R.field cs (points_at k known) (column R b shares) s.index (omega (arith, s.within, length-points_at k known)) takes

    -- the label at a known position
    byte_known : (list : List Share) (pos : ℕ) → HasEntries known shares list → (s : IsKnown pos known ms) → get_or (column R b list) pos 0 ≡ get_or (column R b shares) s.index 0
    byte_known list pos entries s =
        get_or-column R L b list pos
        ∙ ap (λ (p : ℕ). byte_of R b (slice_get list p)) (sym s.here)
        ∙ ap (byte_of R b) (entries s.index s.within)
        ∙ sym (get_or-column R L b shares s.index)

    -- the label at a missing one
    byte_missing : (new old : List Share) (pos : ℕ) → slice_get new pos ≡ slice_get old pos → get_or (column R b new) pos 0 ≡ get_or (column R b old) pos 0
    byte_missing new old pos same = get_or-column R L b new pos ∙ ap (byte_of R b) same ∙ sym (get_or-column R L b old pos)

    -- the product at a known position
    product_known : (pos : ℕ) → pos < 2 * k → (s : IsKnown pos known ms)
        → get_or (column R b multiplied) pos 0 ≡ product R.field (values pos) (get_or (column R b shares) s.index 0)
    product_known pos h s =
        ap (λ (p : ℕ). get_or (column R b multiplied) p 0) (sym s.here)
        ∙ r.products_known b s.index hb s.within
        ∙ ap (λ (p : ℕ). bit_xor (get_or (column R b blank) p 0) (product R.field (values p) (get_or (column R b shares) s.index 0)))
        s.here
        ∙ ap (λ (y : ℕ). bit_xor y (product R.field (values pos) (get_or (column R b shares) s.index 0)))
        (r.blank_bytes b pos hb h)

    -- the products are values of the product of the polynomial and the locator
    product_value : (pos : ℕ) → pos < 2 * k → Stands pos known ms → get_or (column R b multiplied) pos 0 ≡ product R.field (value_at R.field moved pos) (away R.field L.laws ms pos)
    product_value pos h (inl s) =
        product_known pos h s
        ∙ ap₂ (product R.field) (r.located pos h ∙ apart_from-avoids R.field L.laws ms pos s.avoids) (sym (value_known pos h s))
        ∙ product_comm R.field L.laws (away R.field L.laws ms pos) (value_at R.field moved pos)
    product_value pos h (inr s) =
        r.products_others b pos hb h s.unknown
        ∙ r.blank_bytes b pos hb h
        ∙ sym (ap (product R.field (value_at R.field moved pos)) (ap (λ (l : List ℕ). away R.field L.laws l pos) s.parts ∙ away-root R.field L.laws s.before s.after pos) ∙ product-zero R.field L.laws (value_at R.field moved pos))

    -- the derivative at a missing position is a multiple of the value there
    derivative_value : (pos : ℕ) → pos < 2 * k → (s : IsMissing pos known ms) → get_or (column R b derived) pos 0 ≡ product R.field (value_at R.field moved pos) (values pos)
    derivative_value pos h s =
        let narrow : 2 * k ≤ size R.field = r.code.fits in
        let found = r.derivatives b hb in
        let lost : length ms + length known ≡ 2 * k = length-missing (2 * k) 0 (2 * k) known (omega arith) (positions_rise k known r.positions) in
        let same_length : length moved ≡ k = length-translated R.field L.laws k cs ∙ degree in
        let agree : (x : ℕ) → x < 2 * k → value_at R.field found.0 x ≡ product R.field (value_at R.field moved x) (away R.field L.laws (s.before ++ pos ∷ s.after) x) =
        λ x l. found.3 x (omega (arith, l, r.long)) ∙ product_value x l (standing x l) ∙ ap (λ (l : List ℕ). product R.field (value_at R.field moved x) (away R.field L.laws l x)) s.parts in
        let apart : values pos ≡ away R.field L.laws (s.before ++ s.after) pos =
        r.located pos h ∙ ap (λ (l : List ℕ). apart_from R.field l pos) s.parts
        ∙ apart_from-middle R.field L.laws s.before s.after pos (subst (ArePoints R.field) s.parts (points_missing R.field (2 * k) 0 known (omega arith))) in
        sym (found.4 pos (omega (arith, h, r.long)))
        ∙ missing_value R.field L.laws moved found.0 s.before s.after pos (2 * k) (omega arith) (omega (arith, same_length, count-pos (2 * k) r.code.count)) (omega (arith, found.1, r.long))
        (omega (arith, same_length, ap length s.parts, lost, r.count)) found.2 agree
        ∙ ap (product R.field (value_at R.field moved pos)) (sym apart)

    -- each label of the word is the value at its point
    word_value : (pos : ℕ) → pos < 2 * k → Stands pos known ms → get_or (column R b word) pos 0 ≡ value_at R.field cs (point k pos)
    word_value pos h (inl s) = byte_known word pos r.known_again s ∙ sym (value_known pos h s) ∙ value_moved pos h
    word_value pos h (inr s) =
        byte_missing word divided pos (r.others_again pos s.unknown)
        ∙ r.quotients b pos (value_at R.field moved pos) hb h
        (subst (λ (v : ℕ). v < size R.field) (sym (value_moved pos h)) (value_at-lt R.field L.laws cs (point k pos) coefficients))
        s.unknown (derivative_value pos h s)
        ∙ value_moved pos h

    -- and it takes the polynomial's values at all points
    pub takes_word : PassesThrough R.field cs (points k) (column R b word)
    takes_word = takes_all R L k cs (column R b word) (length-column R L b word ∙ r.whole) (λ pos h. word_value pos h (standing pos h))

  -- what the calls make is a codeword
  pub rebuilt_codeword : (k : ℕ) (known : List ℕ) (shares : List Share) (values : ℕ → ℕ) (blank multiplied derived divided word : List Share)
      → IsRebuilding k known shares values blank multiplied derived divided word → IsCodewordOver R k word
  rebuilt_codeword k known shares values blank multiplied derived divided word r = record {
    count = r.whole;
    shares = r.all_bytes;
    columns = λ b h.
        let xs : List ℕ = points_at k known in
        let found = through R.field L.laws xs (column R b shares) (omega (arith, r.count, r.as_many, length-points_at k known, length-column R L b shares))
        (points_differ R.field k known r.code.fits r.positions) (column_labels R L b shares r.bytes) in
        let degree : length found.0 ≡ k = omega (arith, found.1, r.count, length-points_at k known) in
        (found.0, degree, found.2, takes_word k known shares values blank multiplied derived divided word r b h found.0 degree found.2 found.3);
  }
