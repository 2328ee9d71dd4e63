-- The laws of codewords over a reading.
use Rattle.std.proofs.Common.{◌≡◌, ◌≢◌, ◌∙◌, ℕ, zero, suc, ◌*◌, ◌<◌, ◌≤◌, List, [], ◌∷◌, ◌++◌, length, get_or, refl, sym, ap, subst, arith, append_assoc, IsTrue}
use Rattle.std.specs.Prelude.{IfSome, slice_get, slice_index}
use Rattle.std.proofs.lemmas.List.{get_or-map}
use Rattle.gf_cantor.proofs.Laws.{product-lt, has_inverse}
use Rattle.namespace_id.specs.declared.shares.Share.{Share}
use Rattle.namespace_id.specs.Shares.{IsShare, AreShares}
use Rattle.label_polynomial.specs.Polynomial.{value_at, AreCoefficients, ArePoints, PassesThrough}
use Rattle.label_polynomial.proofs.Sums.{value_at-lt}
use Rattle.label_polynomial.proofs.Through.{through, vanishing_elsewhere}
use Rattle.label_polynomial.proofs.Roots.{one_polynomial}
use Rattle.lch_fft.specs.Transforms.{column}
use Rattle.leopard_code.specs.Codewords.{HasCode, points, point, points_at, are_positions, IsCodewordOver, HasEntries, weighted}
use Rattle.leopard_code.proofs.ListedLemmas.{listed, length-listed, AreShares-listed, listed-at}
use Rattle.leopard_code.proofs.LagrangeLemmas.{AreWeights, lagrange, away-is, points_middle, undone}
use Rattle.leopard_code.proofs.DifferenceLemmas.{away, away-lt}
use Rattle.lch_fft.proofs.ColumnLemmas.{length-column}
use Rattle.leopard_code.proofs.PointLemmas.{column_labels}
use Rattle.leopard_code.proofs.PositionLemmas.{points_differ, position-lt, takes_each, length-points_at, value_at_position}
use Rattle.leopard_code.proofs.EntryReadingLemmas.{IsEntry, byte_of, get_or-column, same_shares, rebuilt}
use Rattle.gf_cantor.specs.Field.{product, size}
use Rattle.lch_fft.specs.Readings.{LabelReading, AreReadingLaws}

module _ (R : LabelReading) (L : AreReadingLaws R) where
  -- a polynomial that takes a column takes the labels of the known entries at their points
  pub takes_known : (k : ℕ) (known : List ℕ) (cs ys zs : List ℕ) → IsTrue (are_positions k known) → length zs ≡ length known → PassesThrough R.field cs (points k) ys
      → ((i : ℕ) → i < length known → get_or ys (get_or known i 0) 0 ≡ get_or zs i 0) → PassesThrough R.field cs (points_at k known) zs
  takes_known k known cs ys zs positions long takes same =
      takes_each R.field cs (points_at k known) zs (length-points_at k known ∙ sym long) (λ i h.
      let within : i < length known = omega (arith, length-points_at k known) in
      ap (value_at R.field cs) (get_or-map (point k) known i 0 0 within)
      ∙ value_at_position R.field k (get_or known i 0) cs ys (position-lt k known i within positions) takes ∙ same i within)

  -- the labels of the entries at the positions
  picked : List ℕ → List ℕ → List ℕ
  picked [] ys = []
  picked (p ∷ known) ys = get_or ys p 0 ∷ picked known ys

  -- as many values are picked as there are places
  length-picked : (known ys : List ℕ) → length (picked known ys) ≡ length known
  unfolding picked
  length-picked [] ys = refl
  length-picked (p ∷ known) ys = ap suc (length-picked known ys)

  -- a value that is picked is that at its place
  get_or-picked : (known ys : List ℕ) (i : ℕ) → i < length known → get_or (picked known ys) i 0 ≡ get_or ys (get_or known i 0) 0
  unfolding picked
  get_or-picked [] ys i h = absurd (omega arith)
  get_or-picked (p ∷ known) ys zero h = refl
  get_or-picked (p ∷ known) ys (suc i) h = get_or-picked known ys i (omega arith)

  -- one label of two codewords with the same entries
  same_byte : (k : ℕ) (known ys zs : List ℕ) (pos : ℕ) (cs ds : List ℕ) → 2 * k ≤ size R.field → length known ≡ k → IsTrue (are_positions k known) → pos < 2 * k
      → length cs ≡ k → AreCoefficients R.field cs → PassesThrough R.field cs (points k) ys → length ds ≡ k → AreCoefficients R.field ds → PassesThrough R.field ds (points k) zs
      → ((i : ℕ) → i < length known → get_or ys (get_or known i 0) 0 ≡ get_or zs (get_or known i 0) 0) → get_or ys pos 0 ≡ get_or zs pos 0
  same_byte k known ys zs pos cs ds few count positions within long_c bytes_c takes_c long_d bytes_d takes_d same =
      let xs : List ℕ = points_at k known in
      let there : List ℕ = picked known zs in
      let long : length xs ≡ k = length-points_at k known ∙ count in
      let first : PassesThrough R.field cs xs there = takes_known k known cs ys there positions (length-picked known zs) takes_c (λ i h. same i h ∙ sym (get_or-picked known zs i h)) in
      let second : PassesThrough R.field ds xs there = takes_known k known ds zs there positions (length-picked known zs) takes_d (λ i h. sym (get_or-picked known zs i h)) in
      sym (value_at_position R.field k pos cs ys within takes_c)
      ∙ one_polynomial R.field L.laws cs ds xs there (omega arith) (omega arith) bytes_c bytes_d (points_differ R.field k known few positions) first second (point k pos)
      ∙ value_at_position R.field k pos ds zs within takes_d

  -- two codewords with the same shares at k positions are one
  pub one_codeword : (k : ℕ) (known : List ℕ) (word other : List Share) → HasCode R.field k → length known ≡ k → IsTrue (are_positions k known)
      → IsCodewordOver R k word → IsCodewordOver R k other
      → ((i : ℕ) → i < k → slice_get word (slice_index known i) ≡ slice_get other (slice_index known i)) → word ≡ other
  one_codeword k known word other width count positions cw co same =
      same_shares R L word other (cw.count ∙ sym co.count) cw.shares co.shares (λ b pos hb hp.
      let c = cw.columns b hb in
      let d = co.columns b hb in
      same_byte k known (column R b word) (column R b other) pos c.0 d.0 (width.fits) count positions (omega (arith, cw.count)) c.1 c.2 c.3 d.1 d.2 d.3
      (λ i h. get_or-column R L b word (get_or known i 0) ∙ ap (byte_of R b) (same i (omega arith)) ∙ sym (get_or-column R L b other (get_or known i 0))))

  -- through k shares at k positions goes a codeword
  pub through_shares : (k : ℕ) (known : List ℕ) (shares : List Share) → HasCode R.field k → length known ≡ k → IsTrue (are_positions k known)
      → length shares ≡ k → AreShares shares → (word : List Share) × IsCodewordOver R k word × HasEntries known shares word
  through_shares k known shares width count positions same fits =
      let xs : List ℕ = points_at k known in
      let apart : ArePoints R.field xs = points_differ R.field k known (width.fits) positions in
      let found : (b : ℕ) → (cs : List ℕ) × (length cs ≡ length xs) × AreCoefficients R.field cs × PassesThrough R.field cs xs (column R b shares) =
      λ b. through R.field L.laws xs (column R b shares) (omega (arith, length-points_at k known, length-column R L b shares)) apart (column_labels R L b shares fits) in
      let byte : ℕ → ℕ → ℕ = λ pos b. value_at R.field (found b).0 (point k pos) in
      let made : (pos : ℕ) → (share : Share) × IsShare share × ((c : ℕ) → c < R.columns → R.label_at share.0 c ≡ byte pos c) =
      λ pos. L.made (byte pos) (λ b. value_at-lt R.field L.laws (found b).0 (point k pos) (found b).2) in
      let entry : ℕ → Share = λ pos. (made pos).0 in
      let word : List Share = listed (2 * k) entry in
      let each : (pos : ℕ) → IsShare (entry pos) = λ pos. (made pos).1 in
      let is_entry : (pos : ℕ) → IsEntry R xs shares (point k pos) (entry pos) = λ pos b hb cs long bytes takes.
      (made pos).2 b hb
      ∙ one_polynomial R.field L.laws (found b).0 cs xs (column R b shares) (omega (arith, (found b).1)) (omega (arith, long)) (found b).2 bytes apart (found b).3 takes (point k pos) in
      let both = rebuilt R L k k xs known shares word refl width count positions same fits (length-listed (2 * k) entry) (AreShares-listed (2 * k) entry each) refl
      (λ pos h. listed-at (λ share. IsEntry R xs shares (point k pos) share) (2 * k) entry pos h (is_entry pos)) in
      (word, both.0, both.1)

  -- there are weights at each point
  weights_exist : (before ps : List ℕ) (x : ℕ) → ArePoints R.field (before ++ ps) → (ws : List ℕ) × (length ws ≡ length ps) × AreCoefficients R.field ws × AreWeights R.field L.laws before ps x ws
  unfolding AreWeights AreCoefficients
  weights_exist before [] x apart = ([], refl, tt, tt)
  weights_exist before (p ∷ ps) x apart =
      let middle = points_middle R.field L.laws before p ps apart in
      let d : ℕ = away R.field L.laws (before ++ ps) p in
      let nonzero : d ≢ 0 = λ e. vanishing_elsewhere R.field L.laws (before ++ ps) p middle.0 middle.2 middle.1 (away-is R.field L.laws (before ++ ps) p ∙ e) in
      let u = has_inverse R.field L.laws d (omega arith) (away-lt R.field L.laws (before ++ ps) p) in
      let rest = weights_exist (before ++ p ∷ []) ps x (subst (ArePoints R.field) (sym (append_assoc before (p ∷ []) ps)) apart) in (
        product R.field (away R.field L.laws (before ++ ps) x) u.0 ∷ rest.0,
        ap suc rest.1,
        (product-lt R.field L.laws (away R.field L.laws (before ++ ps) x) u.0, rest.2),
        (undone R.field L.laws (away R.field L.laws (before ++ ps) x) u.0 d (away-lt R.field L.laws (before ++ ps) x) u.2, rest.3),
      )

  -- values of a polynomial are labels
  labels_taken : (cs xs ys : List ℕ) → AreCoefficients R.field cs → PassesThrough R.field cs xs ys → AreCoefficients R.field ys
  unfolding PassesThrough AreCoefficients
  labels_taken cs [] [] bytes takes = tt
  labels_taken cs [] (y ∷ ys) bytes takes = elim takes [ ]
  labels_taken cs (x ∷ xs) [] bytes takes = tt
  labels_taken cs (x ∷ xs) (y ∷ ys) bytes takes = (subst (λ (v : ℕ). v < size R.field) takes.0 (value_at-lt R.field L.laws cs x bytes), labels_taken cs xs ys bytes takes.1)

  -- the label of a column is that of the entry
  entry_of_byte : (b v : ℕ) (ss : List Share) (i : ℕ) → i < length ss → get_or (column R b ss) i 0 ≡ v → IfSome (slice_get ss i) (λ share. R.label_at share.0 b ≡ v)
  unfolding column
  entry_of_byte b v [] i h e = absurd (omega arith)
  entry_of_byte b v (s ∷ ss) zero h e = e
  entry_of_byte b v (s ∷ ss) (suc i) h e = entry_of_byte b v ss i (omega arith) e

  -- an entry is the same weighted sum of the known ones in each codeword
  pub generated : (k : ℕ) (known : List ℕ) (pos : ℕ) → HasCode R.field k → length known ≡ k → IsTrue (are_positions k known) → pos < 2 * k
      → (ws : List ℕ) × (length ws ≡ k) × AreCoefficients R.field ws × ((word shares : List Share) → IsCodewordOver R k word → length shares ≡ k → HasEntries known shares word → (b : ℕ) → b < R.columns
      → IfSome (slice_get word pos) (λ share. R.label_at share.0 b ≡ weighted R.field ws (column R b shares)))
  generated k known pos width count positions within =
      let xs : List ℕ = points_at k known in
      let apart : ArePoints R.field xs = points_differ R.field k known (width.fits) positions in
      let long : length xs ≡ k = length-points_at k known ∙ count in
      let weights = weights_exist [] xs (point k pos) apart in (
        weights.0,
        weights.1 ∙ long,
        weights.2,
        λ word shares code same entries b hb.
            let c = code.columns b hb in
            let ys : List ℕ = column R b shares in
            let takes : PassesThrough R.field c.0 xs ys = takes_known k known c.0 (column R b word) ys positions (omega (arith, length-column R L b shares)) c.3
            (λ i h. get_or-column R L b word (get_or known i 0) ∙ ap (byte_of R b) (entries i h) ∙ sym (get_or-column R L b shares i)) in
            entry_of_byte b (weighted R.field weights.0 ys) word pos (omega (arith, code.count))
            (sym (value_at_position R.field k pos c.0 (column R b word) within c.3)
            ∙ sym (lagrange R.field L.laws c.0 xs ys weights.0 (point k pos) (omega (arith, length-column R L b shares)) (omega (arith, c.1)) apart c.2 (labels_taken c.0 xs ys c.2 takes) takes weights.3)),
      )
