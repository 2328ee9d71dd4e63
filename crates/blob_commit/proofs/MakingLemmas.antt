-- Rows that are made, one behind another.
use Rattle.std.proofs.Common.{◌≡◌, ◌∙◌, ℕ, suc, ◌+◌, ◌-◌, ◌*◌, ◌/◌, ◌%◌, ◌^◌, ◌<◌, ◌≤◌, List, [], ◌∷◌, ◌++◌, length, get_or, true, IsTrue, Option, None, Some, refl, sym, ap, subst, inl, inr, arith}
use Rattle.std.proofs.lemmas.List.{append_assoc, append-nil}
use Rattle.std.specs.Option.{option_map}
use Rattle.std.proofs.lemmas.Option.{slice_get-get_or}
use Rattle.std.proofs.lemmas.Bool.{eq-eqb}
use Rattle.std.proofs.lemmas.Nat.{pow_pos}
use Rattle.std.proofs.Math.Nat.{mod-lt}
use Rattle.namespace_id.specs.declared.cells.Axis.TheVariants.{Row}
use Rattle.namespace_id.specs.declared.digests.Digest.{Digest}
use Rattle.namespace_id.specs.Cells.{is_width}
use Rattle.nmt_tree.specs.Roots.{halvings}
use Rattle.nmt_tree.specs.Levels.{span}
use Rattle.nmt_tree.specs.Trees.{StoredTree}
use Rattle.nmt_proofs.specs.Openings.{intervals_from, Opens}
use Rattle.nmt_proofs.specs.Places.{AreAligned}
use Rattle.nmt_proofs.specs.Making.{interval_digests}
use Rattle.data_header.specs.Headers.{Roots, root_of}
use Rattle.data_header.specs.DataRoots.{OpensRoot}
use Rattle.blob_commit.specs.Bounds.{most_subtrees}
use Rattle.blob_commit.specs.Cuts.{levels_of}
use Rattle.blob_commit.specs.Proofs.{RowParts, part_of_row, row_sizes, is_range, fits_rows, RowsLead, RowsOpen, subtrees_of}
use Rattle.blob_commit.specs.Making.{IsHeaderRowTree, RowHolds, RowsHold, AddsRow, AddsRows}
use Rattle.blob_commit.proofs.FitLemmas.{fits-parts, range_subtrees}
use Rattle.blob_commit.proofs.CommitOwnLemmas.{min_cases, next_row}
use Rattle.blob_commit.proofs.WalkLemmas.{fits-more}

-- ---- rows

-- where nothing is left there are no rows, which lead anywhere
lead_behind : (root : List ℕ) (k levels at left index : ℕ) (rows : List RowParts) → left ≡ 0 → fits_rows k levels at left rows ≡ true → RowsLead root k index rows
lead_behind root k levels at left index [] e fits = tt
lead_behind root k levels at left index (row ∷ rows) e fits = let some = (fits-parts k levels at left (row ∷ rows) rows row refl fits).0 in absurd (omega (arith, some, e))

-- no rows hold of nothing
pub no_rows_hold : (root : List ℕ) (k levels at left : ℕ) → left ≡ 0 → RowsHold root k levels at left []
unfolding fits_rows
no_rows_hold root k levels at left e = record { fits = eq-eqb left 0 e; lead = tt; opens = tt }

-- by what a row was made of
pub row_holds : (root : List ℕ) (k levels at left index from : ℕ) (sizes : List ℕ) (row : RowParts) → index ≡ at / k → from ≡ at % k → sizes ≡ row_sizes k levels at left
    → OpensRoot root k Row index row.root row.up → length row.subtrees ≡ length sizes → Opens (halvings (2 * k)) (intervals_from from sizes row.subtrees) row.nodes row.root
    → RowHolds root k levels at left row
row_holds root k levels at left index from sizes row index_is from_is sizes_are lead count opens = record {
  lead = subst (λ (i : ℕ). OpensRoot root k Row i row.root row.up) index_is lead;
  count = count ∙ ap length sizes_are;
  opens =
      subst (λ (f : ℕ). Opens (halvings (2 * k)) (intervals_from f (row_sizes k levels at left) row.subtrees) row.nodes row.root) from_is
      (subst (λ (l : List ℕ). Opens (halvings (2 * k)) (intervals_from from l row.subtrees) row.nodes row.root) sizes_are opens);
}

-- a row and those behind it
pub rows_hold : (root : List ℕ) (k levels at left n : ℕ) (row : RowParts) (rows : List RowParts) → 0 < k → k % 2 ^ (levels - 1) ≡ 0 → 0 < left → n ≡ part_of_row k at left
    → RowHolds root k levels at left row → RowsHold root k levels (at + n) (left - n) rows → RowsHold root k levels at left (row ∷ rows)
rows_hold root k levels at left n row rows some_k div some n_is first behind =
    let z : ℕ = 2 ^ (levels - 1) in
    let m : ℕ = part_of_row k at left in
    let r_lt : at % k < k = mod-lt at some_k in
    let fits : fits_rows k levels (at + m) (left - m) rows ≡ true = ap (λ (x : ℕ). fits_rows k levels (at + x) (left - x) rows) (sym n_is) ∙ behind.fits in
    let opens : RowsOpen k levels (at + m) (left - m) rows = subst (λ (x : ℕ). RowsOpen k levels (at + x) (left - x) rows) n_is behind.opens in
    let lead : RowsLead root k (suc (at / k)) rows = elim (min_cases left (k - at % k)) [
      | inl all ↦ lead_behind root k levels (at + m) (left - m) (suc (at / k)) rows (omega (arith, all)) fits
      | inr full_row ↦
          let next = (next_row at k z (pow_pos (levels - 1)) some_k (omega (arith, r_lt)) div).1 in
          subst (λ (i : ℕ). RowsLead root k i rows) (ap (λ (x : ℕ). (at + x) / k) (n_is ∙ full_row) ∙ sym next) behind.lead
    ] in
    record {
      fits = sym (fits-more k levels at left (row ∷ rows) rows row refl some first.count) ∙ fits;
      lead = (first.lead, lead);
      opens = (first.opens, opens);
    }

-- one more row, and then the others
pub adds_more : (root : List ℕ) (k levels at left n : ℕ) (old mid new : List RowParts) → 0 < k → k % 2 ^ (levels - 1) ≡ 0 → 0 < left → n ≡ part_of_row k at left
    → AddsRow root k levels at left old mid → AddsRows root k levels (at + n) (left - n) mid new → AddsRows root k levels at left old new
adds_more root k levels at left n old mid new some_k div some n_is first behind = record {
  added = first.row ∷ behind.added;
  all = behind.all ∙ ap (λ (l : List RowParts). l ++ behind.added) first.all ∙ append_assoc old (first.row ∷ []) behind.added;
  hold = rows_hold root k levels at left n first.row behind.added some_k div some n_is first.holds behind.hold;
}

-- and where nothing is left
pub adds_none : (root : List ℕ) (k levels at left : ℕ) (old : List RowParts) → left ≡ 0 → AddsRows root k levels at left old old
adds_none root k levels at left old e = record { added = []; all = sym (append-nil old); hold = no_rows_hold root k levels at left e }

-- ---- digests

-- no digests
pub subtrees_none : (leaves : List Digest) (from : ℕ) (sizes : List ℕ) (old : List Digest) → length sizes ≡ 0 → old ≡ old ++ interval_digests leaves from sizes
unfolding interval_digests
subtrees_none leaves from [] old e = sym (append-nil old)
subtrees_none leaves from (z ∷ sizes) old e = absurd (omega (arith, e))

-- one more digest, and then the others
pub subtrees_next : (leaves : List Digest) (from z : ℕ) (sizes others : List ℕ) (digest : Digest) (old mid new : List Digest) → sizes ≡ z ∷ others → digest ≡ span leaves from (halvings z)
    → mid ≡ old ++ digest ∷ [] → new ≡ mid ++ interval_digests leaves (from + z) others → new ≡ old ++ interval_digests leaves from sizes
unfolding interval_digests
subtrees_next leaves from z sizes others digest old mid new e here pushed rest =
    rest ∙ ap (λ (l : List Digest). l ++ interval_digests leaves (from + z) others) pushed ∙ append_assoc old (digest ∷ []) (interval_digests leaves (from + z) others)
    ∙ ap (λ (d : Digest). old ++ d ∷ interval_digests leaves (from + z) others) here ∙ sym (ap (λ (l : List ℕ). old ++ interval_digests leaves from l) e)

-- the first of aligned subtrees, and those behind it
pub aligned_first : (from high z : ℕ) (sizes others : List ℕ) → sizes ≡ z ∷ others → AreAligned from high sizes → AreAligned from high (z ∷ others)
aligned_first from high z sizes others e h = subst (λ (l : List ℕ). AreAligned from high l) e h

-- ---- trees

-- what stands at a place, whatever stands for a missing one
pub at_place : (trees : List StoredTree) (i : ℕ) (t d : StoredTree) → i < length trees → t ≡ get_or trees i t → get_or trees i d ≡ t
at_place trees i t d lt is =
    let both : Some (get_or trees i d) ≡ Some (get_or trees i t) = sym (slice_get-get_or trees i d lt) ∙ slice_get-get_or trees i t lt in
    let same : get_or trees i d ≡ get_or trees i t = cc in
    same ∙ sym is

-- what is something after a map was something before
some_before : {A B : Type 0} (f : A → B) (o : Option A) (y : B) → option_map f o ≡ Some y → (x : A) × (o ≡ Some x)
some_before f None y e = absurd cc
some_before f (Some x) y e = (x, refl)

-- a tree of a row isn't empty
pub row_tree-filled : (header : Roots) (row : ℕ) (tree : StoredTree) → IsHeaderRowTree header row tree → (leaves : List Digest) × (tree.leaves ≡ Some leaves)
row_tree-filled header row tree h = some_before (λ (l : List Digest). span l 0 (halvings (2 * header.k))) tree.leaves (root_of header Row row) h.root

-- ---- a whole proof

-- where nothing came before, the rows are those that came
pub rows_alone : (root : List ℕ) (k levels at left : ℕ) (old new : List RowParts) → old ≡ [] → AddsRows root k levels at left old new → RowsHold root k levels at left new
rows_alone root k levels at left old new e h =
    subst (RowsHold root k levels at left) (sym (h.all ∙ ap (λ (l : List RowParts). l ++ h.added) e)) h.hold

-- the digests of all subtrees are some, and few
pub subtrees_few : (root : List ℕ) (k start count : ℕ) (rows : List RowParts) → IsTrue (is_width k) → is_range k start count ≡ true → RowsHold root k (levels_of count) start count rows
    → (length (subtrees_of rows) ≤ most_subtrees) × (1 ≤ length (subtrees_of rows))
subtrees_few root k start count rows width range h = range_subtrees k start count (levels_of count) rows width range refl h.fits
