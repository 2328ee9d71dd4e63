-- Cuts that are known (docs/RULES.md, "Subtrees").
use Rattle.std.proofs.Common.{◌≡◌, [], ◌∷◌, ◌++◌, replicate, refl}
use Rattle.namespace_id.specs.Doublings.{least_doubling}
use Rattle.blob_commit.specs.Cuts.{cut_by, cut}

pub cut_19 : cut 19 ≡ replicate 19 1
unfolding cut_by least_doubling
cut_19 = refl

pub cut_65 : cut 65 ≡ replicate 32 2 ++ 1 ∷ []
unfolding cut_by least_doubling
cut_65 = refl

pub cut_131 : cut 131 ≡ replicate 32 4 ++ 2 ∷ 1 ∷ []
unfolding cut_by least_doubling
cut_131 = refl
