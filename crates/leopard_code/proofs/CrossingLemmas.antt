-- Rows of a square of shares as weighted sums of others, where its columns are codewords.
use Rattle.std.proofs.Common.{◌≡◌, ◌∙◌, ℕ, zero, suc, ◌+◌, ◌*◌, ◌<◌, ◌≤◌, List, [], ◌∷◌, length, get_or, take, sym, ap, ap₂, subst, arith}
use Rattle.std.specs.Prelude.{IfSome, Option, bit_xor, slice_get}
use Rattle.std.specs.Int.Bits.{xor_zero_r}
use Rattle.std.proofs.lemmas.List.{get_or-map, get_or-take, length-take-le, ext_get_or}
use Rattle.gf_cantor.specs.Field.{product}
use Rattle.namespace_id.specs.declared.shares.Share.{Share}
use Rattle.namespace_id.specs.Shares.{IsShare, AreShares}
use Rattle.namespace_id.specs.Lists.{ascending}
use Rattle.namespace_id.proofs.AscendingLemmas.{length-ascending}
use Rattle.lch_fft.specs.Readings.{LabelReading, AreReadingLaws}
use Rattle.lch_fft.specs.Transforms.{column}
use Rattle.lch_fft.specs.Butterflies.{bytes_sum, multiple}
use Rattle.lch_fft.proofs.ByteLemmas.{length-bytes_sum, length-multiple, get_or-bytes_sum}
use Rattle.lch_fft.proofs.ColumnLemmas.{length-column, column-take}
use Rattle.leopard_code.specs.Codewords.{HasCode, IsColumn, IsCodewordOver, HasEntries, weighted, AreLines}
use Rattle.leopard_code.proofs.EntryReadingLemmas.{byte_of, get_or-column, byte_of_entry}
use Rattle.leopard_code.proofs.LawReadingLemmas.{generated}
use Rattle.leopard_code.proofs.LinearLemmas.{IsColumn-sum, IsColumn-multiple}
use Rattle.leopard_code.proofs.FirstLemmas.{first_positions, first_entries}

-- a share of a list of shares
share_at : (shares : List Share) (i : ℕ) → i < length shares → AreShares shares → IfSome (slice_get shares i) IsShare
share_at [] i h are = absurd (omega arith)
share_at (share ∷ shares) zero h are = are.0
share_at (share ∷ shares) (suc i) h are = share_at shares i (omega arith) are.1

-- a list whose elements are shares
shares_each : (shares : List Share) → ((i : ℕ) → i < length shares → IfSome (slice_get shares i) IsShare) → AreShares shares
shares_each [] each = tt
shares_each (share ∷ shares) each = (each 0 (omega arith), shares_each shares (λ i h. each (suc i) (omega arith)))

module _ (R : LabelReading) (L : AreReadingLaws R) where
  -- the sum of the lists from one number on, each times its weight; the first weight stands alone
  unfoldable lists_sum : (ℕ → List ℕ) → ℕ → ℕ → List ℕ → List ℕ
  lists_sum ys first w [] = multiple R.field w (ys first)
  lists_sum ys first w (v ∷ ws) = bytes_sum (multiple R.field w (ys first)) (lists_sum ys (suc first) v ws)

  -- it is as long as each
  length-lists_sum : (n : ℕ) (ys : ℕ → List ℕ) (first w : ℕ) (ws : List ℕ)
      → ((i : ℕ) → first ≤ i → i ≤ first + length ws → length (ys i) ≡ n) → length (lists_sum ys first w ws) ≡ n
  unfolding lists_sum
  length-lists_sum n ys first w [] long = length-multiple R.field L.laws w (ys first) ∙ long first (omega arith) (omega arith)
  length-lists_sum n ys first w (v ∷ ws) long =
      length-bytes_sum (multiple R.field w (ys first)) (lists_sum ys (suc first) v ws) n
      (length-multiple R.field L.laws w (ys first) ∙ long first (omega arith) (omega arith))
      (length-lists_sum n ys (suc first) v ws (λ i low high. long i (omega arith) (omega arith)))

  -- a sum of columns of codewords is one
  column-lists_sum : (k : ℕ) (ys : ℕ → List ℕ) (first w : ℕ) (ws : List ℕ)
      → ((i : ℕ) → first ≤ i → i ≤ first + length ws → IsColumn R.field k (ys i)) → IsColumn R.field k (lists_sum ys first w ws)
  unfolding lists_sum
  column-lists_sum k ys first w [] each = IsColumn-multiple R L k w (ys first) (each first (omega arith) (omega arith))
  column-lists_sum k ys first w (v ∷ ws) each =
      IsColumn-sum R L k (multiple R.field w (ys first)) (lists_sum ys (suc first) v ws)
      (IsColumn-multiple R L k w (ys first) (each first (omega arith) (omega arith)))
      (column-lists_sum k ys (suc first) v ws (λ i low high. each i (omega arith) (omega arith)))

  -- a label of it is the sum of the labels by the weights
  get_or-lists_sum : (n : ℕ) (ys : ℕ → List ℕ) (first w : ℕ) (ws vs : List ℕ) (j : ℕ) → j < n
      → ((i : ℕ) → first ≤ i → i ≤ first + length ws → length (ys i) ≡ n) → length vs ≡ suc (length ws)
      → ((i : ℕ) → i < length vs → get_or vs i 0 ≡ get_or (ys (first + i)) j 0)
      → get_or (lists_sum ys first w ws) j 0 ≡ weighted R.field (w ∷ ws) vs
  unfolding lists_sum weighted
  get_or-lists_sum n ys first w ws [] j h long count each = absurd (omega arith)
  get_or-lists_sum n ys first w [] (y ∷ []) j h long count each =
      let start : first + 0 ≡ first = omega arith in
      let own : get_or (ys first) j 0 ≡ y = sym (each 0 (omega arith) ∙ ap (λ (i : ℕ). get_or (ys i) j 0) start) in
      get_or-map (product R.field w) (ys first) j 0 0 (omega (arith, long first (omega arith) (omega arith)))
      ∙ ap (product R.field w) own ∙ sym (xor_zero_r (product R.field w y))
  get_or-lists_sum n ys first w [] (y ∷ z ∷ vs) j h long count each = absurd (omega arith)
  get_or-lists_sum n ys first w (v ∷ ws) (y ∷ vs) j h long count each =
      let start : first + 0 ≡ first = omega arith in
      let own : get_or (ys first) j 0 ≡ y = sym (each 0 (omega arith) ∙ ap (λ (i : ℕ). get_or (ys i) j 0) start) in
      let here : length (ys first) ≡ n = long first (omega arith) (omega arith) in
      let later : (i : ℕ) → suc first ≤ i → i ≤ suc first + length ws → length (ys i) ≡ n = λ i low high. long i (omega arith) (omega arith) in
      get_or-bytes_sum (multiple R.field w (ys first)) (lists_sum ys (suc first) v ws) j
      (omega (arith, length-multiple R.field L.laws w (ys first))) (omega (arith, length-lists_sum n ys (suc first) v ws later))
      ∙ ap₂ bit_xor (get_or-map (product R.field w) (ys first) j 0 0 (omega arith) ∙ ap (product R.field w) own)
      (get_or-lists_sum n ys (suc first) v ws vs j h later (omega arith) (λ i l.
      let next : first + suc i ≡ suc first + i = omega arith in
      each (suc i) (omega arith) ∙ ap (λ (m : ℕ). get_or (ys m) j 0) next))

  module _ (k : ℕ) (rows cols : ℕ → List Share) (lines : AreLines k rows cols)
      (upper : (i : ℕ) → i < k → IsCodewordOver R k (rows i)) (codes : (i : ℕ) → i < 2 * k → IsCodewordOver R k (cols i)) where
    -- a label of a row is one of a column
    crosses : (c i j : ℕ) → i < 2 * k → j < 2 * k → get_or (column R c (rows i)) j 0 ≡ get_or (column R c (cols j)) i 0
    crosses c i j hi hj = get_or-column R L c (rows i) j ∙ ap (byte_of R c) (lines.same i j hi hj) ∙ sym (get_or-column R L c (cols j) i)

    -- the first labels of a column are those of the upper rows
    first_labels : (c j a : ℕ) → j < 2 * k → a < k → get_or (column R c (take k (cols j))) a 0 ≡ get_or (column R c (rows (0 + a))) j 0
    first_labels c j a hj ha =
        let start : 0 + a ≡ a = omega arith in
        ap (λ (l : List ℕ). get_or l a 0) (column-take R L c k (cols j))
        ∙ get_or-take k (column R c (cols j)) a 0 ha
        ∙ sym (ap (λ (i : ℕ). get_or (column R c (rows i)) j 0) start ∙ crosses c a j (omega arith) hj)

    -- a row has shares
    row_shares : (i : ℕ) → i < 2 * k → AreShares (rows i)
    row_shares i hi =
        shares_each (rows i) (λ j h.
        let hj : j < 2 * k = omega (arith, lines.row_count i hi) in
        subst (λ (o : Option Share). IfSome o IsShare) (sym (lines.same i j hi hj))
        (share_at (cols j) i (omega (arith, lines.col_count j hj)) (codes j hj).shares))

    -- each column of labels of a row is the sum of those of the upper rows by the weights of its place
    row_column : (i c : ℕ) → i < 2 * k → c < R.columns → 0 < k → (ws : List ℕ) → length ws ≡ k
        → ((word shares : List Share) → IsCodewordOver R k word → length shares ≡ k → HasEntries (ascending 0 k) shares word → (b : ℕ) → b < R.columns
        → IfSome (slice_get word i) (λ share. R.label_at share.0 b ≡ weighted R.field ws (column R b shares)))
        → IsColumn R.field k (column R c (rows i))
    row_column i c hi hc some [] count made = absurd (omega arith)
    row_column i c hi hc some (v ∷ ws) count made =
        let ys : ℕ → List ℕ = λ a. column R c (rows a) in
        let long : (a : ℕ) → 0 ≤ a → a ≤ 0 + length ws → length (column R c (rows a)) ≡ 2 * k =
        λ a low high. length-column R L c (rows a) ∙ lines.row_count a (omega arith) in
        subst (IsColumn R.field k)
        (sym (ext_get_or 0 (column R c (rows i)) (lists_sum ys 0 v ws)
        (length-column R L c (rows i) ∙ lines.row_count i hi ∙ sym (length-lists_sum (2 * k) ys 0 v ws long))
        (λ j h.
        let hj : j < 2 * k = omega (arith, length-column R L c (rows i), lines.row_count i hi) in
        let front : List Share = take k (cols j) in
        let as_many : length (take k (cols j)) ≡ k = length-take-le k (cols j) (omega (arith, lines.col_count j hj)) in
        crosses c i j hi hj
        ∙ byte_of_entry R L c (weighted R.field (v ∷ ws) (column R c front)) (cols j) i (omega (arith, lines.col_count j hj))
        (made (cols j) front (codes j hj) as_many (first_entries k (cols j)) c hc)
        ∙ sym (get_or-lists_sum (2 * k) ys 0 v ws (column R c front) j hj long (omega (arith, length-column R L c front, as_many))
        (λ a ha. first_labels c j a hj (omega (arith, length-column R L c front, as_many)))))))
        (column-lists_sum k ys 0 v ws (λ a low high. (upper a (omega arith)).columns c hc))

    -- so each row is a codeword
    pub crossed_row : HasCode R.field k → 0 < k → (i : ℕ) → i < 2 * k → IsCodewordOver R k (rows i)
    crossed_row code some i hi =
        let made = generated R L k (ascending 0 k) i code (length-ascending k 0) (first_positions k) hi in
        record {
          count = lines.row_count i hi;
          shares = row_shares i hi;
          columns = λ c hc. row_column i c hi hc some made.0 made.1 made.3;
        }
