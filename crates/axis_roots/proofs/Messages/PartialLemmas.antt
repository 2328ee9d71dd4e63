-- The trees of what is kept under a header: their roots, and how many leaves each has.
use Rattle.std.proofs.Common.{◌≡◌, ◌∙◌, ℕ, List, [], ◌∷◌, length, map, refl, sym, ap, subst}
use Rattle.std.proofs.lemmas.List.{length-map}
use Rattle.namespace_id.specs.declared.digests.Digest.{Digest}
use Rattle.nmt_proofs.specs.Partial.{RootedTree}
use Rattle.axis_roots.specs.Partials.{rooted, roots_in, HaveCount}

-- trees under roots have these roots
roots_under : (n : ℕ) (roots : List Digest) → roots_in (map (rooted n) roots) ≡ roots
roots_under n [] = refl
roots_under n (root ∷ roots) = ap (λ (l : List Digest). root ∷ l) (roots_under n roots)

-- and each has as many leaves
count_under : (n : ℕ) (roots : List Digest) → HaveCount n (map (rooted n) roots)
count_under n [] = tt
count_under n (root ∷ roots) = (refl, count_under n roots)

-- trees that are made under the roots of a header have its roots
pub trees_roots : (n : ℕ) (trees : List RootedTree) (roots kept : List Digest) → trees ≡ map (rooted n) roots → roots ≡ kept → roots_in trees ≡ kept
trees_roots n trees roots kept made same = ap roots_in made ∙ roots_under n roots ∙ same

-- and as many leaves as they are made with
pub trees_leaves : (n : ℕ) (trees : List RootedTree) (roots : List Digest) → trees ≡ map (rooted n) roots → HaveCount n trees
trees_leaves n trees roots made = subst (HaveCount n) (sym made) (count_under n roots)

-- and are as many as the roots
pub trees_count : (n m : ℕ) (trees : List RootedTree) (roots kept : List Digest) → trees ≡ map (rooted n) roots → roots ≡ kept → length kept ≡ m → length trees ≡ m
trees_count n m trees roots kept made same count = ap length made ∙ length-map roots (rooted n) ∙ ap length same ∙ count
