-- Columns of lists of shares.
use Rattle.std.proofs.Common.{◌≡◌, ◌∙◌, ℕ, zero, suc, ◌<◌, List, [], ◌∷◌, ◌++◌, length, take, drop, get_or, replicate, refl, sym, ap, ap₂, arith}
use Rattle.std.specs.Prelude.{bit_xor}
use Rattle.std.specs.Int.Bits.{xor_self}
use Rattle.gf_cantor.proofs.Laws.{size-pos}
use Rattle.namespace_id.specs.declared.shares.Share.{Share}
use Rattle.lch_fft.proofs.ByteLemmas.{AllLabels}
use Rattle.namespace_id.specs.Shares.{IsShare, AreShares}
use Rattle.lch_fft.specs.Transforms.{column}
use Rattle.lch_fft.specs.Readings.{LabelReading, AreReadingLaws}

-- the label in column b of share i
abbrev pub byte : LabelReading → List Share → ℕ → ℕ → ℕ
byte r shares i b = r.label_at (get_or shares i (record { 0 = [] })).0 b

-- a list of zeros has 0 anywhere
zero_anywhere : (n i : ℕ) → get_or (replicate n zero) i zero ≡ zero
zero_anywhere zero i = refl
zero_anywhere (suc n) zero = refl
zero_anywhere (suc n) (suc i) = zero_anywhere n i

module _ (R : LabelReading) (L : AreReadingLaws R) where
  -- a column is as long as the list of shares
  pub length-column : (b : ℕ) (shares : List Share) → length (column R b shares) ≡ length shares
  unfolding column
  length-column b [] = refl
  length-column b (share ∷ shares) = ap suc (length-column b shares)

  -- the label of a column is that of the share at its place
  pub column-at : (b : ℕ) (shares : List Share) (i : ℕ) → i < length shares → get_or (column R b shares) i 0 ≡ byte R shares i b
  unfolding column
  column-at b [] i h = absurd (omega arith)
  column-at b (share ∷ shares) zero h = refl
  column-at b (share ∷ shares) (suc i) h = column-at b shares i (omega arith)

  -- a column of two lists is the column of each
  pub column-append : (b : ℕ) (ss ts : List Share) → column R b (ss ++ ts) ≡ column R b ss ++ column R b ts
  unfolding column
  column-append b [] ts = refl
  column-append b (s ∷ ss) ts = ap (λ (ys : List ℕ). R.label_at s.0 b ∷ ys) (column-append b ss ts)

  -- a column of the first shares
  pub column-take : (b n : ℕ) (ss : List Share) → column R b (take n ss) ≡ take n (column R b ss)
  unfolding column
  column-take b zero ss = refl
  column-take b (suc n) [] = refl
  column-take b (suc n) (s ∷ ss) = ap (λ (ys : List ℕ). R.label_at s.0 b ∷ ys) (column-take b n ss)

  -- a column of the shares behind them
  pub column-drop : (b n : ℕ) (ss : List Share) → column R b (drop n ss) ≡ drop n (column R b ss)
  unfolding column
  column-drop b zero ss = refl
  column-drop b (suc n) [] = refl
  column-drop b (suc n) (s ∷ ss) = column-drop b n ss

  -- the columns of shares are labels
  pub AllLabels-column : (b : ℕ) (ss : List Share) → AreShares ss → AllLabels R.field (column R b ss)
  unfolding column
  AllLabels-column b [] h i = size-pos R.field L.laws
  AllLabels-column b (s ∷ ss) h zero = L.below s h.0 b
  AllLabels-column b (s ∷ ss) h (suc i) = AllLabels-column b ss h.1 i

  -- shares with the same labels are one share
  same_share : (s t : Share) → IsShare s → IsShare t → ((b : ℕ) → b < R.columns → R.label_at s.0 b ≡ R.label_at t.0 b) → s ≡ t
  same_share s t hs ht same =
      L.told s t hs ht same

  -- lists of shares with the same columns are one list
  pub same_columns : (ss ts : List Share) → length ss ≡ length ts → AreShares ss → AreShares ts → ((b : ℕ) → b < R.columns → column R b ss ≡ column R b ts) → ss ≡ ts
  unfolding column
  same_columns [] [] e hs ht same = refl
  same_columns [] (t ∷ ts) e hs ht same = absurd (omega arith)
  same_columns (s ∷ ss) [] e hs ht same = absurd (omega arith)
  same_columns (s ∷ ss) (t ∷ ts) e hs ht same =
      ap₂ (λ (y : Share) (ys : List Share). y ∷ ys)
      (same_share s t hs.0 ht.0 (λ b l. ap (λ (ys : List ℕ). get_or ys 0 0) (same b l)))
      (same_columns ss ts (omega arith) hs.1 ht.1 (λ b l. ap (λ (ys : List ℕ). drop 1 ys) (same b l)))

  -- each label of a share of zeros is 0
  pub label_of_zeros : (c : ℕ) → c < R.columns → R.label_at (replicate 512 0) c ≡ 0
  label_of_zeros c l =
      let zeros : List ℕ = replicate 512 0 in
      let fits : (i : ℕ) → get_or zeros i 0 < 256 = λ i. omega (arith, zero_anywhere 512 i) in
      L.sum zeros zeros zeros fits fits (λ b h. zero_anywhere 512 b ∙ sym (ap₂ bit_xor (zero_anywhere 512 b) (zero_anywhere 512 b))) c l
      ∙ xor_self (R.label_at zeros c)
