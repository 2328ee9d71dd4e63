-- Lists that begin alike.
use Rattle.std.proofs.Common.{◌≡◌, ◌∙◌, ◌<◌, ◌+◌, ℕ, zero, suc, List, [], ◌∷◌, ◌++◌, length, slice_get, slice_index, drop, refl, sym, ap, arith}
use Rattle.std.proofs.Math.Seq.{drop-append_seam}
use Rattle.namespace_id.specs.Lists.{ascending}
use Rattle.namespace_id.proofs.AscendingLemmas.{get_or-ascending}

-- in front they have the same elements
same_front : {A : Type 0} (front one other : List A) (i : ℕ) → i < length front
    → slice_get (front ++ one) i ≡ slice_get (front ++ other) i
same_front [] one other i within = absurd (omega arith)
same_front (x ∷ front) one other zero within = refl
same_front (x ∷ front) one other (suc i) within = same_front front one other i (omega arith)

-- the first positions of a codeword are those in front
pub same_first : {A : Type 0} (front one other : List A) (i : ℕ) → i < length front
    → slice_get (front ++ one) (slice_index (ascending 0 (length front)) i)
    ≡ slice_get (front ++ other) (slice_index (ascending 0 (length front)) i)
same_first front one other i within =
    let start : 0 + i ≡ i = omega arith in
    let place : slice_index (ascending 0 (length front)) i ≡ i = get_or-ascending (length front) 0 i within ∙ start in
    ap (slice_get (front ++ one)) place ∙ same_front front one other i within ∙ sym (ap (slice_get (front ++ other)) place)

-- what stands behind one front is one
pub same_behind : {A : Type 0} (front one other : List A) → front ++ one ≡ front ++ other → one ≡ other
same_behind front one other same = sym (drop-append_seam front one) ∙ ap (drop (length front)) same ∙ drop-append_seam front other
