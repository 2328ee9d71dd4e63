-- A commitment proof under the data root of a square's header is of the square's shares, or they name a collision.
use Rattle.std.proofs.Common.{◌≡◌, ◌⊎◌, ◌∙◌, ℕ, suc, ◌+◌, ◌-◌, ◌*◌, ◌/◌, ◌%◌, ◌^◌, ◌<◌, ◌≤◌, ◌==◌, ◌&&◌, nat_lt, nat_le, min, List, [], ◌∷◌, ◌++◌, length, drop, take, map, true, refl, sym, ap, ap₂, subst, inl, inr, arith, length-drop}
use Rattle.std.specs.List.{AllByRecursion}
use Rattle.std.proofs.lemmas.Bool.{cases_lt, eqb-true, and_parts, ltb-true, leb-true}
use Rattle.std.proofs.lemmas.List.{drop-drop, drop-take, take-take, length-take-le}
use Rattle.std.proofs.lemmas.Nat.{div-add-mod', pow_pos}
use Rattle.std.proofs.lemmas.Slice.Eq.{bytes_eq-Decides}
use Rattle.std.proofs.Math.Nat.{mod-lt, mod-eq_of_lt, mul_comm, mul_assoc, mul-le-mul_right, min-le_left, min-le_right, min-eq_left, min-eq_right, add-mul-div_left}
use Rattle.namespace_id.specs.declared.cells.Axis.TheVariants.{Row}
use Rattle.namespace_id.specs.declared.namespaces.Namespace.{Namespace}
use Rattle.namespace_id.specs.declared.shares.Share.{Share}
use Rattle.namespace_id.specs.declared.digests.Digest.{Digest}
use Rattle.namespace_id.specs.Shares.{name_in}
use Rattle.namespace_id.specs.Digests.{AreDigests}
use Rattle.namespace_id.specs.Cells.{is_width}
use Rattle.namespace_id.proofs.PowerLemmas.{halvings-le, double_halvings}
use Rattle.nmt_tree.specs.Roots.{halvings, root}
use Rattle.nmt_tree.proofs.CountLemmas.{power_halvings}
use Rattle.share_split.specs.Widths.{subtree_width_of}
use Rattle.nmt_proofs.specs.Parts.{Part, digest_of}
use Rattle.nmt_proofs.specs.Openings.{intervals_from}
use Rattle.nmt_proofs.specs.Clashes.{IsOpening, AreShown}
use Rattle.nmt_proofs.specs.Places.{AreAligned}
use Rattle.nmt_proofs.proofs.Parts.ShownLemmas.{opening-sized, opening-deep}
use Rattle.nmt_proofs.proofs.Sets.PieceLawLemmas.{subtrees_agreed}
use Rattle.data_header.specs.Headers.{Roots}
use Rattle.data_header.specs.DataRoots.{data_root_of}
use Rattle.square_layout.specs.Blocks.{SquareShares}
use Rattle.axis_roots.specs.Grids.{IsHeaderOf, axis_names, axis_shares}
use Rattle.axis_roots.proofs.Grids.HeaderLemmas.{header_width}
use Rattle.axis_roots.proofs.Messages.OwnLemmas.{names_or_agrees}
use Rattle.square_layout.specs.Refusals.{max_shares}
use Rattle.blob_commit.specs.Bounds.{most_halvings}
use Rattle.blob_commit.specs.Cuts.{cut_by, cut, levels_of}
use Rattle.blob_commit.specs.Commitments.{subtree_roots, root_of_digests}
use Rattle.blob_commit.specs.Proofs.{RowParts, CommitParts, IsRow, IsCommit, CommitHolds, RowsLead, RowsOpen, fits_rows, is_range, part_of_row, row_sizes, shown_in, subtrees_of}
use Rattle.blob_commit.specs.Places.{AxisText, RowsText, PlacesNameClash, IsOwnCommit, row_tree}
use Rattle.blob_commit.proofs.WidthLemmas.{width_count, width_divides, square_bound}
use Rattle.blob_commit.proofs.CutLemmas.{total, total-cut, total-of, levels_le}
use Rattle.blob_commit.proofs.RowCutLemmas.{cut_zero, cut_parts, aligned-cut, roots-append, mod_row, mod_more, as_multiple, none_fits}
use Rattle.blob_commit.proofs.HeaderLemmas.{header_whole, root_own}
use Rattle.blob_commit.proofs.RootedLemmas.{clash_above, clash_inside}
use Rattle.blob_commit.proofs.OwnRowLemmas.{pieces_inside}

-- ---- numbers

pub min_cases : (a b : ℕ) → (min a b ≡ a) ⊎ (min a b ≡ b)
min_cases a b = elim (cases_lt a b) [
  | inl lt ↦ let le : a ≤ b = omega (arith, lt) in inl (min-eq_left le)
  | inr ge ↦ inr (min-eq_right ge)
]

-- an index of a square is in one of its rows
pub row-lt : (at k : ℕ) → at < k * k → at / k < k
row-lt at k h = elim (cases_lt (at / k) k) [
  | inl lt ↦ lt
  | inr ge ↦ let up : k * k ≤ at / k * k = mul-le-mul_right k ge in absurd (omega (arith, up, div-add-mod' at k, h))
]

-- the rest of a row is a multiple where the place in it and the width are
pub rest_whole : (r k z : ℕ) → 0 < z → r ≤ k → r % z ≡ 0 → k % z ≡ 0 → (k - r) % z ≡ 0
rest_whole r k z some le er ek =
    let sum : k ≡ (k - r) + z * (r / z) = omega (arith, as_multiple r z er, le) in
    sym (mod_more (k - r) z (r / z) some) ∙ ap (λ (n : ℕ). n % z) (sym sum) ∙ ek

next_times : (r k : ℕ) → r * k + k ≡ 0 + k * suc r
next_times r k = omega (arith, mul_comm r k)

-- the row behind a row
pub next_row : (at k z : ℕ) → 0 < z → 0 < k → at % k ≤ k → k % z ≡ 0 → ((at + (k - at % k)) % z ≡ 0) × (suc (at / k) ≡ (at + (k - at % k)) / k)
next_row at k z some some_k le ek =
    let r : ℕ = at / k in
    let c : ℕ = k / z in
    let place : at + (k - at % k) ≡ 0 + k * suc r = omega (arith, div-add-mod' at k, le, next_times r k) in
    let none : 0 / k ≡ 0 = none_fits k some_k (let whole = div-add-mod' 0 k in let rest : 0 % k ≡ 0 = mod-eq_of_lt some_k in omega (arith, whole, rest)) in
    let row : (0 + k * suc r) / k ≡ 0 / k + suc r = add-mul-div_left 0 (suc r) some_k in
    let times : 0 + k * suc r ≡ 0 + z * (c * suc r) = ap (λ (n : ℕ). 0 + n * suc r) (as_multiple k z ek) ∙ ap (λ (n : ℕ). 0 + n) (mul_assoc z c (suc r)) in (
      ap (λ (n : ℕ). n % z) (place ∙ times) ∙ mod_more 0 z (c * suc r) some ∙ mod-eq_of_lt some,
      sym (ap (λ (n : ℕ). n / k) place ∙ row ∙ omega (arith, none)),
    )

-- ---- places

-- a collision of the first row, and one of another
names_head : (S : SquareShares) (k levels index at left : ℕ) (row : RowParts) (rows : List RowParts)
    → PlacesNameClash (AxisText k Row index row.root row.up (row_tree k levels at left row)) S → PlacesNameClash (RowsText k levels index at left (row ∷ rows)) S
names_head S k levels index at left row rows (place, a, b, here, there, clash) = (place, a, b, inl here, there, clash)

names_tail : (S : SquareShares) (k levels index at left : ℕ) (row : RowParts) (rows : List RowParts)
    → PlacesNameClash (RowsText k levels (suc index) (at + part_of_row k at left) (left - part_of_row k at left) rows) S → PlacesNameClash (RowsText k levels index at left (row ∷ rows)) S
names_tail S k levels index at left row rows (place, a, b, here, there, clash) = (place, a, b, inr here, there, clash)

-- ---- rows

-- digests may be shown
shown_digests : (from : ℕ) (sizes : List ℕ) (digests : List Digest) → AreDigests digests → AreShown (intervals_from from sizes digests)
unfolding intervals_from
shown_digests from [] digests h = tt
shown_digests from (z ∷ sizes) [] h = tt
shown_digests from (z ∷ sizes) (d ∷ digests) h = (h.0, shown_digests (from + z) sizes digests h.1)

-- what is proved of rows
abbrev pub RowsOwn : Roots → SquareShares → ℕ → ℕ → List RowParts → ℕ → ℕ → ℕ → Type 0
RowsOwn header S k l rows index at left =
    k % 2 ^ l ≡ 0 → at + left ≤ k * k → (0 < left → (at % 2 ^ l ≡ 0) × (index ≡ at / k)) → fits_rows k (suc l) at left rows ≡ true
    → RowsLead (data_root_of header) k index rows → RowsOpen k (suc l) at left rows
    → (subtrees_of rows ≡ subtree_roots (cut_by (suc l) left) (drop at S.shares)) ⊎ PlacesNameClash (RowsText k (suc l) index at left rows) S

none_left : (l left : ℕ) (shares : List Share) → left ≡ 0 → [] ≡ subtree_roots (cut_by (suc l) left) shares
unfolding subtree_roots
none_left l left shares e = sym (ap (λ (n : ℕ). subtree_roots (cut_by (suc l) n) shares) e ∙ ap (λ (t : List ℕ). subtree_roots t shares) (cut_zero (suc l)))

pub rows_own : (header : Roots) (S : SquareShares) (l : ℕ) (rows : List RowParts) (index at left : ℕ) → IsHeaderOf header S → l ≤ most_halvings → AllByRecursion IsRow rows
    → RowsOwn header S S.k l rows index at left
unfolding fits_rows subtrees_of
rows_own header S l [] index at left own deep sized div within begins fits lead opens = inl (none_left l left (drop at S.shares) (eqb-true left 0 fits))
rows_own header S l (row ∷ rows) index at left own deep sized div within begins fits lead opens =
    let k : ℕ = S.k in
    let z : ℕ = 2 ^ l in
    let d : ℕ = halvings (2 * k) in
    let n : ℕ = part_of_row k at left in
    let r : ℕ = at % k in
    let sizes : List ℕ = row_sizes k (suc l) at left in
    let part : Part = row_tree k (suc l) at left row in
    let two = and_parts (nat_lt 0 left && (length row.subtrees == length sizes)) (fits_rows k (suc l) (at + n) (left - n) rows) fits in
    let one = and_parts (nat_lt 0 left) (length row.subtrees == length sizes) two.0 in
    let some : 0 < left = ltb-true 0 left one.0 in
    let count : length row.subtrees ≡ length sizes = eqb-true _ _ one.1 in
    let b = begins some in
    let in_rows : at / k < k = row-lt at k (omega (arith, within, some)) in
    let below : index < k = omega (arith, b.1, in_rows) in
    let some_k : 0 < k = omega (arith, in_rows) in
    let some_z : 0 < z = pow_pos l in
    let r_lt : r < k = mod-lt at some_k in
    let up : (at / k + 1) * k ≤ k * k = mul-le-mul_right k (omega (arith, in_rows)) in
    let same_row : index * k ≡ at / k * k = ap (λ (m : ℕ). m * k) b.1 in
    let place : index * k + r ≡ at = omega (arith, div-add-mod' at k, same_row) in
    let row_end : index * k + k ≤ k * k = omega (arith, up, same_row) in
    let n_left : n ≤ left = min-le_left left (k - r) in
    let n_row : n ≤ k - r = min-le_right left (k - r) in
    let begin : r % z ≡ 0 = mod_row at k z some_z b.0 div in
    let power : 2 * k ≡ 2 ^ d = sym (double_halvings k own.whole.width) in
    let lead_own = root_own header k Row index row.root row.up (header_whole header S own) lead.0 sized.0.root sized.0.up in
    elim lead_own [
      | inr clash ↦ inr (names_head S k (suc l) index at left row rows (clash_above header S k Row index row.root row.up part own clash))
      | inl is_root ↦
          let opening : IsOpening d (shown_in k (suc l) at left row) row.nodes =
          record { count = opens.0.count; parts = shown_digests r sizes row.subtrees sized.0.subtrees; node_bytes = sized.0.nodes } in
          let value : digest_of part ≡ row.root = ap (λ (bytes : List ℕ). record { 0 = bytes }) ((bytes_eq-Decides (digest_of part).0 row.root.0).0 opens.0.value) in
          elim (names_or_agrees header S Row index part own (omega (arith, below)) (opening-deep d (shown_in k (suc l) at left row) row.nodes opening)
          (opening-sized d (shown_in k (suc l) at left row) row.nodes opening) (value ∙ is_root.own)) [
            | inr names ↦ inr (names_head S k (suc l) index at left row rows (clash_inside S k Row index row.root row.up part refl (omega (arith, below)) names))
            | inl agrees ↦
                let ns : List Namespace = axis_names k agrees.grid Row index in
                let ss : List Share = axis_shares k agrees.grid Row index in
                let whole : AreAligned r (2 ^ d) sizes = aligned-cut l r n (2 ^ d) deep begin (omega (arith, n_row, r_lt, power)) in
                let inside : AreAligned r k sizes = aligned-cut l r n k deep begin (omega (arith, n_row, r_lt)) in
                let found = subtrees_agreed d r sizes row.subtrees row.nodes ns ss (halvings-le (2 * k)) opening whole count agrees.same in
                let mine : row.subtrees ≡ subtree_roots sizes (drop at S.shares) =
                found.0 ∙ pieces_inside k index r k sizes S.shares agrees.grid agrees.extends own.whole.count below row_end inside (omega arith)
                ∙ ap (λ (m : ℕ). subtree_roots sizes (drop m S.shares)) place in
                let next : 0 < left - n → ((at + n) % z ≡ 0) × (suc index ≡ (at + n) / k) = λ more. elim (min_cases left (k - r)) [
                  | inl all ↦ absurd (omega (arith, more, all))
                  | inr full_row ↦
                      let behind = next_row at k z some_z some_k (omega (arith, r_lt)) div in
                      (ap (λ (m : ℕ). (at + m) % z) full_row ∙ behind.0, ap suc b.1 ∙ behind.1 ∙ ap (λ (m : ℕ). (at + m) / k) (sym full_row))
                ] in
                let parts : cut_by (suc l) left ≡ sizes ++ cut_by (suc l) (left - n) = cut_parts l n left n_left (elim (min_cases left (k - r)) [
                  | inl all ↦ inl all
                  | inr full_row ↦ inr (ap (λ (m : ℕ). m % z) full_row ∙ rest_whole r k z some_z (omega (arith, r_lt)) begin div)
                ]) in
                elim (rows_own header S l rows (suc index) (at + n) (left - n) own deep sized.1 div (omega (arith, within, n_left)) next two.1 lead.1 opens.1) [
                  | inr names ↦ inr (names_tail S k (suc l) index at left row rows names)
                  | inl rest ↦
                      let behind : drop (total sizes) (drop at S.shares) ≡ drop (at + n) S.shares = drop-drop (total sizes) at S.shares ∙ ap (λ (m : ℕ). drop (at + m) S.shares) (total-cut l n) in
                      inl (
                      ap₂ (λ (x y : List Digest). x ++ y) mine (rest ∙ ap (subtree_roots (cut_by (suc l) (left - n))) (sym behind))
                      ∙ sym (roots-append sizes (cut_by (suc l) (left - n)) (drop at S.shares))
                      ∙ ap (λ (t : List ℕ). subtree_roots t (drop at S.shares)) (sym parts))
                ]
          ]
    ]

-- ---- the law

-- the shares behind the pieces play no part
roots-take : (sizes : List ℕ) (n : ℕ) (shares : List Share) → total sizes ≤ n → subtree_roots sizes (take n shares) ≡ subtree_roots sizes shares
unfolding subtree_roots
roots-take [] n shares h = refl
roots-take (z ∷ sizes) n shares h =
    let sum : n ≡ z + (n - z) = omega (arith, h) in
    let front : take z (take n shares) ≡ take z shares = take-take z n shares (omega (arith, h)) in
    let back : drop z (take n shares) ≡ take (n - z) (drop z shares) = ap (λ (m : ℕ). drop z (take m shares)) sum ∙ drop-take z (n - z) shares in
    ap₂ (λ (x : List Share) (y : List Digest). root (halvings z) (map name_in x) x ∷ y) front
    (ap (subtree_roots sizes) back ∙ roots-take sizes (n - z) (drop z shares) (omega (arith, h)))

-- a proof has a row
no_rows : (k levels at left : ℕ) → fits_rows k levels at left [] ≡ true → 0 < left → ⊥
unfolding fits_rows
no_rows k levels at left fits some = omega (arith, eqb-true left 0 fits, some)

-- the parts of a range
pub range_parts : (k start count : ℕ) → is_range k start count ≡ true → (0 < count) × (start + count ≤ k * k) × (start % subtree_width_of count ≡ 0)
range_parts k start count h =
    let two = and_parts (nat_lt 0 count && nat_le (start + count) (k * k)) (start % subtree_width_of count == 0) h in
    let one = and_parts (nat_lt 0 count) (nat_le (start + count) (k * k)) two.0 in
    (ltb-true 0 count one.0, leb-true (start + count) (k * k) one.1, eqb-true _ _ two.1)

-- the width that a proof's first row leads to
first_width : (header : Roots) (S : SquareShares) (k levels index at left : ℕ) (rows : List RowParts) → IsHeaderOf header S → AllByRecursion IsRow rows
    → fits_rows k levels at left rows ≡ true → 0 < left → RowsLead (data_root_of header) k index rows → (k ≡ S.k) ⊎ PlacesNameClash (RowsText k levels index at left rows) S
first_width header S k levels index at left [] own sized fits some lead = absurd (no_rows k levels at left fits some)
first_width header S k levels index at left (row ∷ rows) own sized fits some lead =
    elim (root_own header k Row index row.root row.up (header_whole header S own) lead.0 sized.0.root sized.0.up) [
      | inl is_root ↦ inl (is_root.width ∙ header_width S.k own.grid header own.roots)
      | inr clash ↦ inr (names_head S k levels index at left row rows (clash_above header S k Row index row.root row.up (row_tree k levels at left row) own clash))
    ]

-- a commitment proof that holds under the data root of a square's header is of the square's shares, or they name a collision
pub commit_own : (header : Roots) (proof : CommitParts) → IsCommit proof → CommitHolds (data_root_of header) proof → IsOwnCommit header proof
commit_own header proof sized holds S own =
    let k : ℕ = proof.k in
    let start : ℕ = proof.start in
    let count : ℕ = proof.count in
    let l : ℕ = halvings (subtree_width_of count) in
    let two = and_parts (is_width k && is_range k start count) (fits_rows k (levels_of count) start count proof.rows) holds.shape in
    let one = and_parts (is_width k) (is_range k start count) two.0 in
    let range = range_parts k start count one.1 in
    let some : 1 ≤ count = omega (arith, range.0) in
    let within : count ≤ k * k = omega (arith, range.1) in
    let most : count ≤ max_shares = square_bound k count one.0 within in
    let power : 2 ^ l ≡ subtree_width_of count = power_halvings (subtree_width_of count) (width_count count most).0 in
    let div : k % 2 ^ l ≡ 0 = ap (λ (w : ℕ). k % w) power ∙ width_divides k count one.0 within in
    let begins : start % 2 ^ l ≡ 0 = ap (λ (w : ℕ). start % w) power ∙ range.2 in
    elim (first_width header S k (levels_of count) (start / k) start count proof.rows own sized.rows two.1 range.0 holds.lead) [
      | inr names ↦ inr names
      | inl width ↦
          let rows : RowsOwn header S k l proof.rows (start / k) start count =
          subst (λ (m : ℕ). RowsOwn header S m l proof.rows (start / k) start count) (sym width)
          (rows_own header S l proof.rows (start / k) start count own (let deep = levels_le count some most in omega (arith, deep)) sized.rows) in
          elim (rows div range.1 (λ more. (begins, refl)) two.1 holds.lead holds.opens) [
            | inr names ↦ inr names
            | inl roots ↦
                let shares : List Share = take count (drop start S.shares) in
                let all : length S.shares ≡ k * k = own.whole.count ∙ ap (λ (m : ℕ). m * m) (sym width) in
                let long : length shares ≡ count = length-take-le count (drop start S.shares) (omega (arith, length-drop start S.shares, all, range.1)) in
                let same : subtrees_of proof.rows ≡ subtree_roots (cut (length shares)) shares =
                roots ∙ sym (roots-take (cut count) count (drop start S.shares) (let t = total-of count in omega (arith, t))) ∙ ap (λ (m : ℕ). subtree_roots (cut m) shares) (sym long) in
                inl (record { width = width; commitment = sym holds.commitment ∙ ap root_of_digests same })
          ]
    ]
