-- The trees over the leaves of a grid's rows.
use Rattle.std.proofs.Common.{◌≡◌, ◌∙◌, ℕ, ◌*◌, ◌^◌, ◌<◌, List, Option, None, Some, true, false, refl, sym, ap, ap₂, arith}
use Rattle.std.specs.Prelude.{IsSome, IsNone, IfSome}
use Rattle.std.specs.Option.{option_map}
use Rattle.namespace_id.specs.declared.cells.Axis.TheVariants.{Row, Col}
use Rattle.namespace_id.specs.declared.namespaces.Namespace.{Namespace}
use Rattle.namespace_id.specs.declared.shares.Share.{Share}
use Rattle.namespace_id.specs.declared.digests.Digest.{Digest}
use Rattle.namespace_id.specs.Cells.{is_width}
use Rattle.namespace_id.proofs.PowerLemmas.{double_halvings}
use Rattle.nmt_tree.specs.Roots.{halvings}
use Rattle.nmt_tree.specs.Levels.{leaf_digests, span}
use Rattle.nmt_tree.specs.Trees.{StoredTree}
use Rattle.nmt_tree.proofs.SpanLemmas.{root_is_span}
use Rattle.data_header.specs.Headers.{Roots, root_of}
use Rattle.axis_roots.specs.Lines.{line_root}
use Rattle.axis_roots.specs.Grids.{share_at, axis_names, axis_shares, is_ordered_axis, are_ordered_axes, axis_roots, header_of_grid}
use Rattle.axis_roots.proofs.Grids.AxisLemmas.{length-along}
use Rattle.axis_roots.proofs.Grids.LineLemmas.{length-line_names}
use Rattle.axis_roots.proofs.Grids.HeaderLemmas.{ordered_axis, some_if, header_width, header_root}
use Rattle.blob_commit.specs.Making.{IsHeaderRowTree}

-- a header's root of a row is the digest over all leaves of the row
row_span : (k : ℕ) (shares : List Share) (header : Roots) (row : ℕ) → is_width k ≡ true → header_of_grid k shares ≡ Some header → row < 2 * k
    → span (leaf_digests (axis_names k shares Row row) (axis_shares k shares Row row)) 0 (halvings (2 * k)) ≡ root_of header Row row
unfolding line_root
row_span k shares header row width e lt =
    let ns : List Namespace = axis_names k shares Row row in
    let ss : List Share = axis_shares k shares Row row in
    let power : 2 * k ≡ 2 ^ halvings (2 * k) = sym (double_halvings k width) in
    sym (header_root k shares header e Row row lt ∙ root_is_span (halvings (2 * k)) ns ss (length-line_names k Row row ss ∙ power) (length-along k (share_at (2 * k) shares) Row row ∙ power))

-- so a tree over them is the header's tree of the row
pub row_tree_of : (k : ℕ) (shares : List Share) (header : Roots) (row : ℕ) (tree : StoredTree) → is_width k ≡ true → header_of_grid k shares ≡ Some header → row < k
    → tree.count ≡ 2 * k → tree.leaves ≡ Some (leaf_digests (axis_names k shares Row row) (axis_shares k shares Row row)) → IsHeaderRowTree header row tree
row_tree_of k shares header row tree width e lt count leaves =
    let same : header.k ≡ k = header_width k shares header e in
    record {
      count = count ∙ ap (λ (m : ℕ). 2 * m) (sym same);
      root =
          ap₂ (λ (m : ℕ) (o : Option (List Digest)). option_map (λ (l : List Digest). span l 0 (halvings (2 * m))) o) same leaves
          ∙ ap Some (row_span k shares header row width e (omega (arith, lt)));
    }

-- where there is a header, the namespaces of a row don't fall
pub row_ordered : (k : ℕ) (shares : List Share) (header : Roots) (row : ℕ) → header_of_grid k shares ≡ Some header → row < 2 * k → is_ordered_axis k shares Row row ≡ true
row_ordered k shares header row e lt =
    let made : Roots = record { k = k; rows = axis_roots k shares Row; cols = axis_roots k shares Col } in
    ordered_axis k shares (some_if (are_ordered_axes k shares) made header e).0 Row row lt

-- what isn't none is something
pub some_of : {A : Type 0} (o : Option A) → (IsNone o → ⊥) → IsSome o
some_of None h = absurd (h refl)
some_of (Some x) h = refl

-- and what holds of something holds
pub if_some : {A : Type 0} (o : Option A) (P : Type 0) → IsSome o → IfSome o (λ _. P) → P
if_some None P some h = absurd (let no : false ≡ true = some in cc)
if_some (Some x) P some h = h
