-- Fraud claims: the codeword through a claim's cells.
use Rattle.std.proofs.Common.{◌≡◌, ◌≢◌, ◌∙◌, ℕ, ◌*◌, ◌<◌, List, [], ◌∷◌, length, map, Bool, true, false, cond, ◌==◌, ◌&&◌, IsTrue, refl, sym, ap, inl, inr, arith}
use Rattle.std.specs.Prelude.{◌⊎◌, Option, Some, None, nat_lt}
use Rattle.std.specs.List.{AllByRecursion, list_all}
use Rattle.std.specs.Str.{bytes_eq}
use Rattle.std.proofs.lemmas.Bool.{and_parts, and_from, cases_Bool}
use Rattle.std.proofs.lemmas.Bool.Decides.{nat_tests}
use Rattle.std.proofs.lemmas.List.{length-map}
use Rattle.std.proofs.lemmas.Option.{none-some}
use Rattle.std.proofs.lemmas.Slice.Eq.{bytes_eq-Decides}
use Rattle.namespace_id.specs.declared.cells.Axis.{Axis}
use Rattle.namespace_id.specs.declared.shares.Share.{Share}
use Rattle.namespace_id.specs.declared.digests.Digest.{Digest}
use Rattle.namespace_id.specs.Shares.{AreShares}
use Rattle.namespace_id.specs.Cells.{is_width, is_in_square}
use Rattle.namespace_id.specs.Lists.{holds_along}
use Rattle.leopard_code.specs.Codewords.{are_positions}
use Rattle.leopard_code.proofs.LawLemmas.{one_codeword, through_shares}
use Rattle.axis_roots.specs.declared.message.messages.Message.{Message}
use Rattle.axis_roots.specs.Messages.{IsMessage, position}
use Rattle.nmt_tree.specs.Roots.{halvings, strict_root, root as tree_root}
use Rattle.axis_roots.specs.Lines.{line_names, is_ordered_line, line_strict_root}
use Rattle.axis_roots.specs.Claims.{ClaimParts, IsClaim, positions_of, claim_shares, is_on, has_shape, IsThrough, ShowsBad, FitsRoot}
use Rattle.axis_roots.proofs.Grids.NumberLemmas.{position-lt}

-- ---- the cells of a claim

-- whether the cells of these samples are in the square
abbrev pub are_inside : ℕ → List Message → Bool
are_inside k cells = list_all (λ m. is_in_square k m.cell) cells

-- what the test of a claim says
pub record Shape (k : ℕ) (claim : ClaimParts) : Type 0 where
  pub index : claim.index < 2 * k
  pub count : length claim.cells ≡ k
  pub on : list_all (is_on claim) claim.cells ≡ true
  pub rising : holds_along nat_lt (positions_of claim) ≡ true

pub shape_of : (k : ℕ) (claim : ClaimParts) → has_shape k claim ≡ true → Shape k claim
shape_of k claim test =
    let below : Bool = nat_lt claim.index (2 * k) in
    let count : Bool = length claim.cells == k in
    let on : Bool = list_all (is_on claim) claim.cells in
    let rising = and_parts (below && count && on) (holds_along nat_lt (positions_of claim)) test in
    let all_on = and_parts (below && count) on rising.0 in
    let both = and_parts below count all_on.0 in
    let first : nat_lt claim.index (2 * k) ≡ true = both.0 in
    let second : (length claim.cells == k) ≡ true = both.1 in
    record { index = grind (arith, nat_tests); count = grind (arith, nat_tests); on = all_on.1; rising = rising.1 }

-- the positions of cells of the square
positions-lt : (k : ℕ) (axis : Axis) (cells : List Message) → are_inside k cells ≡ true
    → list_all (λ pos. nat_lt pos (2 * k)) (map (λ m. position axis m.cell) cells) ≡ true
positions-lt k axis [] inside = refl
positions-lt k axis (m ∷ cells) inside =
    let both = and_parts (is_in_square k m.cell) (are_inside k cells) inside in
    let below : position axis m.cell < 2 * k = position-lt k axis m.cell both.0 in
    let here : nat_lt (position axis m.cell) (2 * k) ≡ true = grind (arith, nat_tests) in
    and_from (nat_lt (position axis m.cell) (2 * k)) (list_all (λ pos. nat_lt pos (2 * k)) (map (λ n. position axis n.cell) cells)) here
    (positions-lt k axis cells both.1)

-- the positions of a claim's cells are positions of a codeword
pub positions_fit : (k : ℕ) (claim : ClaimParts) → Shape k claim → are_inside k claim.cells ≡ true → IsTrue (are_positions k (positions_of claim))
positions_fit k claim shape inside =
    and_from (list_all (λ pos. nat_lt pos (2 * k)) (positions_of claim)) (holds_along nat_lt (positions_of claim)) (positions-lt k claim.axis claim.cells inside)
    shape.rising

-- as many as the width
positions_count : (k : ℕ) (claim : ClaimParts) → Shape k claim → length (positions_of claim) ≡ k
positions_count k claim shape = length-map claim.cells (λ m. position claim.axis m.cell) ∙ shape.count

-- the shares of samples are shares
shares_fit : (cells : List Message) → AllByRecursion IsMessage cells → AreShares (map (λ m. m.share) cells)
shares_fit [] are = tt
shares_fit (m ∷ cells) are = (are.0.share, shares_fit cells are.1)

-- ---- the codeword through them

-- there is one
word_there : (k : ℕ) (claim : ClaimParts) → is_width k ≡ true → IsClaim claim → Shape k claim → are_inside k claim.cells ≡ true
    → (word : List Share) × IsThrough k claim word
word_there k claim width are shape inside =
    let made = through_shares k (positions_of claim) (claim_shares claim) width (positions_count k claim shape) (positions_fit k claim shape inside)
    (length-map claim.cells (λ m. m.share) ∙ shape.count) (shares_fit claim.cells are.messages) in
    (made.0, record { codeword = made.1; entries = made.2 })

-- and only one
pub word_once : (k : ℕ) (claim : ClaimParts) (word other : List Share) → is_width k ≡ true → Shape k claim → are_inside k claim.cells ≡ true
    → IsThrough k claim word → IsThrough k claim other → word ≡ other
word_once k claim word other width shape inside first second =
    let count : length (positions_of claim) ≡ k = positions_count k claim shape in
    one_codeword k (positions_of claim) word other width count (positions_fit k claim shape inside) first.codeword second.codeword
    (λ i h. let known : i < length (positions_of claim) = omega arith in first.entries i known ∙ sym (second.entries i known))

-- a root is this one, or it isn't
this_or_other : (found : Option Digest) (root : Digest) → (found ≡ Some root) ⊎ (found ≢ Some root)
this_or_other None root = inr (λ e. none-some root e)
this_or_other (Some digest) root = elim (cases_Bool (bytes_eq digest.0 root.0)) [
  | inl same ↦ inl (ap (λ (bytes : List ℕ). Some (record { 0 = bytes })) ((bytes_eq-Decides digest.0 root.0).0 same))
  | inr other ↦ inr (λ e.
      let one : digest ≡ root = cc in
      let same : bytes_eq digest.0 root.0 ≡ true = (bytes_eq-Decides digest.0 root.0).1 (ap (λ (d : Digest). d.0) one) in absurd cc)
]

-- it has the root, or it shows that the axis is bad
pub bad_or_fits : (k : ℕ) (claim : ClaimParts) (root : Digest) → is_width k ≡ true → IsClaim claim → has_shape k claim ≡ true → are_inside k claim.cells ≡ true
    → ShowsBad k claim root ⊎ FitsRoot k claim root
bad_or_fits k claim root width are test inside =
    let made = word_there k claim width are (shape_of k claim test) inside in
    elim (this_or_other (line_strict_root k claim.axis claim.index made.0) root) [
      | inl same ↦ inr (record { word = made.0; through = made.1; same = same })
      | inr other ↦ inl (record { shape = test; word = made.0; through = made.1; other = other })
    ]

-- never both
pub bad_apart : (k : ℕ) (claim : ClaimParts) (root : Digest) → is_width k ≡ true → are_inside k claim.cells ≡ true
    → ShowsBad k claim root → FitsRoot k claim root → ⊥
bad_apart k claim root width inside bad fits =
    let one : bad.word ≡ fits.word = word_once k claim bad.word fits.word width (shape_of k claim bad.shape) inside bad.through fits.through in
    bad.other (ap (line_strict_root k claim.axis claim.index) one ∙ fits.same)

-- where the leaf namespaces along it fall, every root is bad
pub falls_bad : (k : ℕ) (claim : ClaimParts) (root : Digest) (word : List Share) → has_shape k claim ≡ true → IsThrough k claim word
    → is_ordered_line k claim.axis claim.index word ≡ false → ShowsBad k claim root
unfolding strict_root
falls_bad k claim root word shape through falls = record {
  shape = shape;
  word = word;
  through = through;
  other = λ e. none-some root (sym (ap (λ (b : Bool). cond b (Some (tree_root (halvings (2 * k)) (line_names k claim.axis claim.index word) word)) None) falls) ∙ e);
}
