-- What is found of a namespace in a row of a held square, and that it opens and is complete.
use Rattle.std.proofs.Common.{◌≡◌, ◌∙◌, ℕ, ◌+◌, ◌-◌, ◌*◌, ◌<◌, ◌≤◌, List, length, take, drop, get_or, Bool, true, false, cond, true≢false, inl, inr, sym, ap, subst, arith}
use Rattle.std.proofs.lemmas.Bool.{cases_lt, ne_eqb, eq-eqb}
use Rattle.std.proofs.lemmas.Slice.Eq.{bytes_eq-Decides}
use Rattle.namespace_id.specs.declared.cells.Axis.TheVariants.{Row}
use Rattle.namespace_id.specs.declared.namespaces.Namespace.{Namespace}
use Rattle.namespace_id.specs.declared.shares.Share.{Share}
use Rattle.namespace_id.specs.declared.digests.Digest.{Digest}
use Rattle.namespace_id.specs.Names.{IsNamespace, is_at_most, is_below, is_parity, parity}
use Rattle.namespace_id.specs.Digests.{least_of, greatest_of, no_digest}
use Rattle.namespace_id.proofs.OrderLemmas.{at_most_parity, at_most_antisym}
use Rattle.namespace_id.proofs.PowerLemmas.{double_halvings}
use Rattle.nmt_tree.specs.Roots.{halvings}
use Rattle.nmt_tree.specs.Spans.{name_at, IsOver}
use Rattle.nmt_tree.proofs.NameLemmas.{same_name}
use Rattle.nmt_proofs.specs.Making.{leaf_nodes, range_nodes}
use Rattle.axis_roots.specs.declared.answers.Found.{Found}
use Rattle.axis_roots.specs.declared.answers.Found.TheVariants.{Range, Absence}
use Rattle.axis_roots.specs.Grids.{axis_names, axis_shares}
use Rattle.axis_roots.specs.Trees.{axis_leaves}
use Rattle.axis_roots.proofs.Grids.LineLemmas.{length-line_names}
use Rattle.square_serve.specs.Serving.{count_below, count_same, found_at}
use Rattle.square_serve.proofs.RowLemmas.{axis_names-parity}
use Rattle.square_serve.proofs.RowTreeLemmas.{IsRow}
use Rattle.square_serve.proofs.Serving.CountLemmas.{parity_not-below}
use Rattle.square_serve.proofs.Serving.PlaceLemmas.{IsCounted, counted, at_most_not-below}

-- ---- either form

-- what holds of the absence where there are none, and of the range where there are some, holds of what is found
pub found_both : (k : ℕ) (grid : List Share) (row start count : ℕ) (P : Found → Type 0)
    → (count ≡ 0 → P (Absence start (get_or (axis_leaves k grid Row row) start no_digest) (leaf_nodes (2 * k) (axis_leaves k grid Row row) start)))
    → (0 < count → P (Range start (take count (drop start (axis_shares k grid Row row))) (range_nodes (2 * k) (axis_leaves k grid Row row) start count)))
    → P (found_at k grid row start count)
found_both k grid row start count P none some =
    let absence : Found = Absence start (get_or (axis_leaves k grid Row row) start no_digest) (leaf_nodes (2 * k) (axis_leaves k grid Row row) start) in
    let range : Found = Range start (take count (drop start (axis_shares k grid Row row))) (range_nodes (2 * k) (axis_leaves k grid Row row) start count) in
    elim (cases_lt 0 count) [
      | inl more ↦ subst (λ (b : Bool). P (cond b absence range)) (sym (ne_eqb count 0 (λ e. omega (arith, e, more)))) (some more)
      | inr few ↦ let e : count ≡ 0 = omega (arith, few) in subst (λ (b : Bool). P (cond b absence range)) (sym (eq-eqb count 0 e)) (none e)
    ]

-- ---- where a namespace stands in a row

-- how many leaves of a row are below a namespace
abbrev pub below : Namespace → ℕ → List Share → ℕ → ℕ
below name k grid row = count_below name (axis_names k grid Row row)

-- and how many have it
abbrev pub same : Namespace → ℕ → List Share → ℕ → ℕ
same name k grid row = count_same name (axis_names k grid Row row)

-- the namespace PARITY
is_its_own : (name : Namespace) → name ≡ parity → is_parity name ≡ true
is_its_own name e = (bytes_eq-Decides name.0 parity.0).1 (ap (λ (n : Namespace). n.0) e)

-- another isn't it
other_than : (name : Namespace) → is_parity name ≡ false → name ≡ parity → ⊥
other_than name other e = true≢false (sym (is_its_own name e) ∙ other)

module _ (name : Namespace) (k : ℕ) (grid : List Share) (row : ℕ) (named : IsNamespace name) (is : IsRow k grid row) where
  -- the row's leaves by these counts
  pub stands : IsCounted name (axis_names k grid Row row) (below name k grid row) (same name k grid row)
  stands = counted name (axis_names k grid Row row) is.ordered

  -- there are 2k leaves
  pub row_names : length (axis_names k grid Row row) ≡ 2 * k
  row_names = length-line_names k Row row (axis_shares k grid Row row)

  -- the last one isn't below the namespace
  pub below-lt : below name k grid row < 2 * k
  below-lt = elim (cases_lt (below name k grid row) (2 * k)) [
    | inl lt ↦ lt
    | inr le ↦
        absurd (true≢false (sym (stands.under (2 * k - 1) (omega (arith, le, is.within)))
        ∙ ap (λ (n : Namespace). is_below n name) (axis_names-parity k grid row (2 * k - 1) is.within (omega (arith, is.within)) (omega (arith, is.within)))
        ∙ parity_not-below name named))
  ]

  -- those that have it stand in the original square, but for PARITY
  pub same-le : is_parity name ≡ false → 0 < same name k grid row → below name k grid row + same name k grid row ≤ k
  same-le other some = elim (cases_lt k (below name k grid row + same name k grid row)) [
    | inl more ↦
        let last : ℕ = below name k grid row + same name k grid row - 1 in
        absurd (other_than name other (sym (stands.here last (omega (arith, some)) (omega (arith, some)))
        ∙ axis_names-parity k grid row last is.within (omega (arith, more)) (omega (arith, some, stands.within, row_names))))
    | inr fits ↦ fits
  ]

  -- where the root's namespaces have it between them, a leaf of the original square isn't below it
  pub below-le : is_parity name ≡ false → (root : Digest) → IsOver (axis_names k grid Row row) 0 (halvings (2 * k)) root
      → is_at_most (least_of root) name ≡ true → is_at_most name (greatest_of root) ≡ true → below name k grid row < k
  below-le other root over low high = elim (cases_lt (below name k grid row) k) [
    | inl lt ↦ lt
    | inr le ↦ elim (cases_lt over.place k) [
      | inl before ↦
          absurd (at_most_not-below name (name_at (axis_names k grid Row row) over.place)
          (ap (is_at_most name) (sym over.greatest) ∙ high) (stands.under over.place (omega (arith, before, le))))
      | inr behind ↦
          let greatest : greatest_of root ≡ parity =
          over.greatest ∙ axis_names-parity k grid row over.place is.within behind (omega (arith, over.high, double_halvings k is.width)) in
          let least : least_of root ≡ parity = same_name (least_of root) parity ((bytes_eq-Decides (least_of root).0 parity.0).0 (over.parity (is_its_own (greatest_of root) greatest))) in
          absurd (other_than name other (at_most_antisym name parity (at_most_parity name named) (ap (λ (n : Namespace). is_at_most n name) (sym least) ∙ low)))
    ]
  ]
