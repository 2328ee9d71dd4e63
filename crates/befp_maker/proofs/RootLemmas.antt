-- Two lines with one root.
use Rattle.std.proofs.Common.{◌≡◌, ◌≢◌, ◌∙◌, ℕ, ◌*◌, List, length, true, false, refl, sym, ap, ap₂}
use Rattle.std.specs.Cmp.Lexicographic.{pointwise}
use Rattle.std.proofs.lemmas.Bool.{and_parts, false_from_ne_true}
use Rattle.std.proofs.lemmas.Slice.Eq.{bytes_eq-Decides, slice_eq-Decides}
use Rattle.namespace_id.specs.declared.cells.Axis.{Axis}
use Rattle.namespace_id.specs.declared.namespaces.Namespace.{Namespace}
use Rattle.namespace_id.specs.declared.shares.Share.{Share}
use Rattle.nmt_tree.specs.Roots.{halvings, root}
use Rattle.axis_roots.specs.Lines.{line_names, line_root}
use Rattle.axis_roots.proofs.Grids.LineLemmas.{length-line_names}
use Rattle.hash_clash.specs.Openings.{is_one_name, is_one_share, is_one_list}

-- the roots of two lines are those of their namespaces and shares
pub same_roots : (k : ℕ) (axis : Axis) (i : ℕ) (line other : List Share) (names others : List Namespace) → names ≡ line_names k axis i line
    → others ≡ line_names k axis i other → line_root k axis i line ≡ line_root k axis i other
    → root (halvings (length names)) names line ≡ root (halvings (length names)) others other
unfolding line_root
same_roots k axis i line other names others first second same =
    let count : length names ≡ 2 * k = ap length first ∙ length-line_names k axis i line in
    ap₂ (λ (n : ℕ) (l : List Namespace). root (halvings n) l line) count first ∙ same
    ∙ sym (ap₂ (λ (n : ℕ) (l : List Namespace). root (halvings n) l other) count second)

-- two lists of shares are told apart
pub lists_apart : (names others : List Namespace) (line other : List Share) → line ≢ other → is_one_list names line others other ≡ false
lists_apart names others line other apart =
    false_from_ne_true (is_one_list names line others other)
    (λ (one : is_one_list names line others other ≡ true).
    apart ((slice_eq-Decides (λ a b. (λ t. ap (λ (l : List ℕ). record { 0 = l }) ((bytes_eq-Decides a.0 b.0).0 t), λ e. (bytes_eq-Decides a.0 b.0).1 (ap (λ (s : Share). s.0) e)))
    line other (pointwise is_one_share line other) refl).0 (and_parts (pointwise is_one_name names others) (pointwise is_one_share line other) one).1))
