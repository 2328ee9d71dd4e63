-- Rows that fit a range.
use Rattle.std.proofs.Common.{◌≡◌, ◌∙◌, ℕ, zero, suc, ◌+◌, ◌-◌, ◌*◌, ◌%◌, ◌^◌, ◌<◌, ◌≤◌, ◌==◌, ◌&&◌, nat_lt, List, [], ◌∷◌, length, true, IsTrue, refl, sym, ap, subst, inl, inr, arith, length-append}
use Rattle.std.proofs.lemmas.Bool.{eqb-true, and_parts, ltb-true}
use Rattle.std.proofs.lemmas.Nat.{pow_pos}
use Rattle.std.proofs.Math.Nat.{mod-lt, min-le_left, min-le_right}
use Rattle.namespace_id.specs.Cells.{is_width}
use Rattle.namespace_id.proofs.WidthLemmas.{is_width-pos}
use Rattle.nmt_tree.specs.Roots.{halvings}
use Rattle.share_split.specs.Widths.{subtree_width_of}
use Rattle.nmt_tree.proofs.CountLemmas.{power_halvings}
use Rattle.nmt_proofs.specs.Places.{AreAligned}
use Rattle.square_layout.specs.Refusals.{max_shares}
use Rattle.blob_commit.specs.Bounds.{most_levels, most_subtrees}
use Rattle.blob_commit.specs.Cuts.{cut_by, cut, levels_of}
use Rattle.blob_commit.specs.Proofs.{RowParts, part_of_row, row_sizes, fits_rows, subtrees_of, is_range}
use Rattle.blob_commit.proofs.WidthLemmas.{width_count, width_divides, square_bound}
use Rattle.blob_commit.proofs.CutLemmas.{total-cut, total-of, some_pieces, few-cut}
use Rattle.blob_commit.proofs.RowCutLemmas.{cut_zero, cut_parts, aligned-cut, mod_row}
use Rattle.blob_commit.proofs.CommitOwnLemmas.{next_row, min_cases, rest_whole, range_parts}

-- what a row that fits has
pub fits-parts : (k levels at left : ℕ) (rows others : List RowParts) (row : RowParts) → rows ≡ row ∷ others → fits_rows k levels at left rows ≡ true
    → (0 < left) × (length row.subtrees ≡ length (row_sizes k levels at left)) × (fits_rows k levels (at + part_of_row k at left) (left - part_of_row k at left) others ≡ true)
unfolding fits_rows
fits-parts k levels at left rows others row e fits =
    let here = sym (ap (fits_rows k levels at left) e) ∙ fits in
    let two = and_parts (nat_lt 0 left && (length row.subtrees == length (row_sizes k levels at left))) (fits_rows k levels (at + part_of_row k at left) (left - part_of_row k at left) others) here in
    let one = and_parts (nat_lt 0 left) (length row.subtrees == length (row_sizes k levels at left)) two.0 in
    (ltb-true 0 left one.0, eqb-true _ _ one.1, two.1)

-- a share at least is in a row
pub part-pos : (k at left : ℕ) → 0 < k → 0 < left → 0 < part_of_row k at left
part-pos k at left some more =
    let r_lt : at % k < k = mod-lt at some in
    elim (min_cases left (k - at % k)) [ inl e ↦ omega (arith, e, more) | inr e ↦ omega (arith, e, r_lt) ]

-- there are no more rows than shares
pub few_rows : (k levels at left : ℕ) (rows : List RowParts) → 0 < k → fits_rows k levels at left rows ≡ true → length rows ≤ left
few_rows k levels at left [] some fits = omega arith
few_rows k levels at left (row ∷ rows) some fits =
    let parts = fits-parts k levels at left (row ∷ rows) rows row refl fits in
    let rest = few_rows k levels (at + part_of_row k at left) (left - part_of_row k at left) rows some parts.2 in
    omega (arith, rest, part-pos k at left some parts.0, parts.0)

-- as many subtrees as the range is cut into
pub subtrees_cut : (k l at left : ℕ) (rows : List RowParts) → 0 < k → k % 2 ^ l ≡ 0 → (0 < left → at % 2 ^ l ≡ 0) → fits_rows k (suc l) at left rows ≡ true
    → length (subtrees_of rows) ≡ length (cut_by (suc l) left)
unfolding fits_rows subtrees_of
subtrees_cut k l at left [] some div begins fits =
    let none : left ≡ 0 = eqb-true left 0 fits in
    sym (ap (λ (n : ℕ). length (cut_by (suc l) n)) none ∙ ap length (cut_zero (suc l)))
subtrees_cut k l at left (row ∷ rows) some div begins fits =
    let n : ℕ = part_of_row k at left in
    let r : ℕ = at % k in
    let z : ℕ = 2 ^ l in
    let parts = fits-parts k (suc l) at left (row ∷ rows) rows row refl fits in
    let some_z : 0 < z = pow_pos l in
    let r_lt : r < k = mod-lt at some in
    let begin : r % z ≡ 0 = mod_row at k z some_z (begins parts.0) div in
    let next : 0 < left - n → (at + n) % z ≡ 0 = λ more. elim (min_cases left (k - r)) [
      | inl all ↦ absurd (omega (arith, more, all))
      | inr full_row ↦ ap (λ (m : ℕ). (at + m) % z) full_row ∙ (next_row at k z some_z some (omega (arith, r_lt)) div).0
    ] in
    let whole = cut_parts l n left (min-le_left left (k - r)) (elim (min_cases left (k - r)) [
      | inl all ↦ inl all
      | inr full_row ↦ inr (ap (λ (m : ℕ). m % z) full_row ∙ rest_whole r k z some_z (omega (arith, r_lt)) begin div)
    ]) in
    let rest = subtrees_cut k l (at + n) (left - n) rows some div next parts.2 in
    let count : length (cut_by (suc l) left) ≡ length (cut_by (suc l) n) + length (cut_by (suc l) (left - n)) = ap length whole ∙ length-append (cut_by (suc l) n) (cut_by (suc l) (left - n)) in
    omega (arith, length-append row.subtrees (subtrees_of rows), parts.1, rest, count)

-- the subtrees of a row are aligned in it
pub row_places : (k levels at left n from : ℕ) → IsTrue (is_width k) → 1 ≤ levels → levels ≤ most_levels → k % 2 ^ (levels - 1) ≡ 0 → at % 2 ^ (levels - 1) ≡ 0 → from ≡ at % k → n ≡ part_of_row k at left
    → AreAligned from (2 * k) (cut_by levels n)
row_places k zero at left n from width some deep div begins from_is n_is = absurd (omega (arith, some))
row_places k (suc l) at left n from width some deep div begins from_is n_is =
    let low : suc l - 1 ≡ l = omega arith in
    let d : k % 2 ^ l ≡ 0 = ap (λ (m : ℕ). k % 2 ^ m) (sym low) ∙ div in
    let b : at % 2 ^ l ≡ 0 = ap (λ (m : ℕ). at % 2 ^ m) (sym low) ∙ begins in
    let r_lt : at % k < k = mod-lt at (is_width-pos k width) in
    let within : n ≤ k - at % k = subst (λ (m : ℕ). m ≤ k - at % k) (sym n_is) (min-le_right left (k - at % k)) in
    subst (λ (f : ℕ). AreAligned f (2 * k) (cut_by (suc l) n)) (sym from_is)
    (aligned-cut l (at % k) n (2 * k) (omega (arith, deep)) (mod_row at k (2 ^ l) (pow_pos l) b d) (omega (arith, within, r_lt)))

-- a row has a subtree
pub some_sizes : (levels n : ℕ) → 1 ≤ levels → 0 < n → 0 < length (cut_by levels n)
some_sizes zero n h some = absurd (omega (arith, h))
some_sizes (suc l) n h some = let one = some_pieces (cut_by (suc l) n) (omega (arith, total-cut l n, some)) in omega (arith, one)

-- the next row begins at a multiple
pub next_begins : (k levels at left n : ℕ) → IsTrue (is_width k) → 1 ≤ levels → k % 2 ^ (levels - 1) ≡ 0 → n ≡ part_of_row k at left → 0 < left - n → (at + n) % 2 ^ (levels - 1) ≡ 0
next_begins k levels at left n width some div n_is more =
    let r_lt : at % k < k = mod-lt at (is_width-pos k width) in
    elim (min_cases left (k - at % k)) [
      | inl all ↦ absurd (omega (arith, more, n_is, all))
      | inr full_row ↦ ap (λ (m : ℕ). (at + m) % 2 ^ (levels - 1)) (n_is ∙ full_row) ∙ (next_row at k (2 ^ (levels - 1)) (pow_pos (levels - 1)) (is_width-pos k width) (omega (arith, r_lt)) div).0
    ]

-- ---- of a whole range

levels-less : (count : ℕ) → levels_of count - 1 ≡ halvings (subtree_width_of count)
levels-less count = omega arith

pub range_divides : (k start count levels : ℕ) → IsTrue (is_width k) → is_range k start count ≡ true → levels ≡ levels_of count → k % 2 ^ (levels - 1) ≡ 0
range_divides k start count levels width range e =
    let r = range_parts k start count range in
    let some : 1 ≤ count = omega (arith, r.0) in
    let within : count ≤ k * k = omega (arith, r.1) in
    let most : count ≤ max_shares = square_bound k count width within in
    ap (λ (m : ℕ). k % 2 ^ (m - 1)) e ∙ ap (λ (m : ℕ). k % 2 ^ m) (levels-less count)
    ∙ ap (λ (w : ℕ). k % w) (power_halvings (subtree_width_of count) (width_count count most).0) ∙ width_divides k count width within

pub range_begins : (k start count levels : ℕ) → IsTrue (is_width k) → is_range k start count ≡ true → levels ≡ levels_of count → start % 2 ^ (levels - 1) ≡ 0
range_begins k start count levels width range e =
    let r = range_parts k start count range in
    let some : 1 ≤ count = omega (arith, r.0) in
    let within : count ≤ k * k = omega (arith, r.1) in
    let most : count ≤ max_shares = square_bound k count width within in
    ap (λ (m : ℕ). start % 2 ^ (m - 1)) e ∙ ap (λ (m : ℕ). start % 2 ^ m) (levels-less count)
    ∙ ap (λ (w : ℕ). start % w) (power_halvings (subtree_width_of count) (width_count count most).0) ∙ r.2

-- the number of all subtrees
pub range_subtrees : (k start count levels : ℕ) (rows : List RowParts) → IsTrue (is_width k) → is_range k start count ≡ true → levels ≡ levels_of count → fits_rows k levels start count rows ≡ true
    → (length (subtrees_of rows) ≤ most_subtrees) × (1 ≤ length (subtrees_of rows))
range_subtrees k start count levels rows width range e fits =
    let l : ℕ = halvings (subtree_width_of count) in
    let r = range_parts k start count range in
    let some : 1 ≤ count = omega (arith, r.0) in
    let within : count ≤ k * k = omega (arith, r.1) in
    let most : count ≤ max_shares = square_bound k count width within in
    let all = subtrees_cut k l start count rows (is_width-pos k width) (ap (λ (m : ℕ). k % 2 ^ m) (sym (levels-less count)) ∙ range_divides k start count (levels_of count) width range refl)
    (λ _. ap (λ (m : ℕ). start % 2 ^ m) (sym (levels-less count)) ∙ range_begins k start count (levels_of count) width range refl)
    (subst (λ (m : ℕ). fits_rows k m start count rows ≡ true) e fits) in
    (omega (arith, all, few-cut count some most), let one = some_pieces (cut count) (omega (arith, total-of count, some)) in omega (arith, all, one))
