-- Two lists that go along, with one more of each.
use Rattle.std.proofs.Common.{List, [], ◌∷◌, ◌++◌}
use Rattle.std.specs.List.{AllZip}

-- what holds along two lists, and of one more of each
pub zip_push : {A B : Type 0} (R : A → B → Type 0) (xs : List A) (ys : List B) (x : A) (y : B) → AllZip R xs ys → R x y
    → AllZip R (xs ++ x ∷ []) (ys ++ y ∷ [])
zip_push R [] [] x y along here = (here, tt)
zip_push R [] (b ∷ ys) x y along here = absurd along
zip_push R (a ∷ xs) [] x y along here = absurd along
zip_push R (a ∷ xs) (b ∷ ys) x y along here = (along.0, zip_push R xs ys x y along.1 here)
