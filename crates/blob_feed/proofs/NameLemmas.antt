-- Namespaces that compare as one.
use Rattle.std.proofs.Common.{◌≡◌, ℕ, List, true, refl, sym, ap, ◌∙◌}
use Rattle.std.proofs.lemmas.Map.Text.{is_eq-slice_cmp}
use Rattle.std.proofs.lemmas.Slice.Eq.{bytes_eq-Decides}
use Rattle.namespace_id.specs.declared.namespaces.Namespace.{Namespace}
use Rattle.blob_feed.specs.Followers.{is_name}

-- two namespaces that compare as one are one
pub same_name : (name other : Namespace) → is_name name other ≡ true → name ≡ other
same_name name other e =
    ap (λ (l : List ℕ). record { 0 = l }) ((bytes_eq-Decides name.0 other.0).0 (sym (is_eq-slice_cmp name.0 other.0) ∙ e))

-- and a namespace compares as itself
pub same_refl : (name : Namespace) → is_name name name ≡ true
same_refl name = is_eq-slice_cmp name.0 name.0 ∙ (bytes_eq-Decides name.0 name.0).1 refl
