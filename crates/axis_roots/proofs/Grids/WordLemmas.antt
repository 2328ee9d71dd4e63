-- Codewords by their first k shares.
use Rattle.std.proofs.Common.{◌≡◌, ◌∙◌, ℕ, zero, suc, ◌+◌, ◌<◌, List, [], ◌∷◌, length, get_or, map, sym, ap, subst, inl, inr, arith, IsTrue}
use Rattle.std.specs.Prelude.{Some, slice_get, slice_index}
use Rattle.std.specs.List.{AllByRecursion}
use Rattle.std.proofs.lemmas.Bool.{cases_lt}
use Rattle.std.proofs.lemmas.List.{get_or_past, length-replicate, get_or-map, length-map}
use Rattle.std.proofs.lemmas.Option.{slice_get-get_or, get_or_from_slice_get}
use Rattle.namespace_id.specs.declared.shares.Share.{Share}
use Rattle.namespace_id.specs.Shares.{IsShare, AreShares}
use Rattle.namespace_id.specs.Cells.{is_width}
use Rattle.namespace_id.proofs.StringLemmas.{AreBytes-replicate}
use Rattle.namespace_id.specs.Lists.{ascending}
use Rattle.namespace_id.proofs.AscendingLemmas.{length-ascending, get_or-ascending}
use Rattle.leopard_code.specs.Codewords.{IsCodeword}
pub use Rattle.leopard_code.proofs.FirstLemmas.{first_positions}
use Rattle.leopard_code.proofs.LawLemmas.{one_codeword, through_shares}
use Rattle.axis_roots.specs.Lines.{blank}

-- ---- shares of lists

-- a fact of each of some values
pub each-map : {A B : Type 0} (P : B → Type 0) (f : A → B) (xs : List A) → ((x : A) → P (f x)) → AllByRecursion P (map f xs)
each-map P f [] each = tt
each-map P f (x ∷ xs) each = (each x, each-map P f xs each)

-- a share of a list of shares
pub share_in : (shares : List Share) (i : ℕ) (d : Share) → i < length shares → AreShares shares → IsShare (get_or shares i d)
share_in [] i d h are = absurd (omega arith)
share_in (share ∷ shares) zero d h are = are.0
share_in (share ∷ shares) (suc i) d h are = share_in shares i d (omega arith) are.1

-- a list whose elements are shares
pub shares_each : (shares : List Share) (d : Share) → ((i : ℕ) → i < length shares → IsShare (get_or shares i d)) → AreShares shares
shares_each [] d each = tt
shares_each (share ∷ shares) d each = (each 0 (omega arith), shares_each shares d (λ i h. each (suc i) (omega arith)))

-- the share of zeros is a share
blank_share : IsShare blank
unfolding blank
blank_share = record { size_is = length-replicate {A = ℕ} 512 0; fits = AreBytes-replicate 512 0 (omega arith) }

-- any place of a list of shares has a share
pub share_anywhere : (shares : List Share) (i : ℕ) → AreShares shares → IsShare (get_or shares i blank)
share_anywhere shares i are = elim (cases_lt i (length shares)) [
  | inl within ↦ share_in shares i blank within are
  | inr past ↦ subst IsShare (sym (get_or_past shares i blank past)) blank_share
]

-- ---- the first k positions

-- two codewords with the same first k shares are one
pub one_word : (k : ℕ) (word other : List Share) → IsTrue (is_width k) → IsCodeword k word → IsCodeword k other
    → ((i : ℕ) → i < k → get_or word i blank ≡ get_or other i blank) → word ≡ other
one_word k word other width first second same =
    one_codeword k (ascending 0 k) word other width (length-ascending k 0) (first_positions k) first second (λ i h.
    let start : 0 + i ≡ i = omega arith in
    let place : slice_index (ascending 0 k) i ≡ i = get_or-ascending k 0 i h ∙ start in
    ap (slice_get word) place
    ∙ slice_get-get_or word i blank (omega (arith, first.count)) ∙ ap Some (same i h) ∙ sym (slice_get-get_or other i blank (omega (arith, second.count)))
    ∙ ap (slice_get other) (sym place))

-- k shares, one for each of these
pub length-mapped : (k : ℕ) (f : ℕ → Share) → length (map f (ascending 0 k)) ≡ k
length-mapped k f = length-map (ascending 0 k) f ∙ length-ascending k 0

-- a codeword begins with any k shares
pub word_through : (k : ℕ) (f : ℕ → Share) → IsTrue (is_width k) → ((i : ℕ) → IsShare (f i))
    → (word : List Share) × IsCodeword k word × ((i : ℕ) → i < k → get_or word i blank ≡ f i)
word_through k f width each =
    let shares : List Share = map f (ascending 0 k) in
    let long : length shares ≡ k = length-mapped k f in
    let found = through_shares k (ascending 0 k) shares width (length-ascending k 0) (first_positions k) long (each-map IsShare f (ascending 0 k) each) in (
      found.0,
      found.1,
      λ i h.
          let start : 0 + i ≡ i = omega arith in
          let known : i < length (ascending 0 k) = omega (arith, length-ascending k 0) in
          let place : slice_index (ascending 0 k) i ≡ i = get_or-ascending k 0 i h ∙ start in
          get_or_from_slice_get found.0 i (f i) blank
          (ap (slice_get found.0) (sym place) ∙ found.2 i known ∙ slice_get-get_or shares i blank (omega arith)
          ∙ ap Some (get_or-map f (ascending 0 k) i 0 blank known ∙ ap f place)),
    )
