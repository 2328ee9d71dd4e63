-- The codeword whose originals are given.
use Rattle.std.proofs.Common.{◌≡◌, ◌∙◌, ℕ, suc, ◌+◌, ◌-◌, ◌*◌, ◌<◌, ◌≤◌, List, [], ◌∷◌, ◌++◌, length, get_or, take, refl, sym, ap, subst, arith}
use Rattle.std.proofs.Math.Seq.{take-append_seam}
use Rattle.namespace_id.specs.declared.shares.Share.{Share}
use Rattle.namespace_id.specs.Lists.{ascending}
use Rattle.namespace_id.proofs.AscendingLemmas.{get_or-ascending}
use Rattle.leopard_code.specs.Codewords.{HasEntries}
use Rattle.leopard_code.proofs.FirstLemmas.{first_entries}
use Rattle.leopard_code.proofs.MissingLemmas.{Rises}
use Rattle.leopard_code.proofs.StandingLemmas.{positions_rise}
use Rattle.repair_queue.specs.Closures.{AreChosen}

-- numbers that rise, of which the last leaves no room between them, count up
rises_whole : (ps : List ℕ) (low high : ℕ) → Rises low high ps → get_or ps (length ps - 1) 0 < low + length ps → ps ≡ ascending low (length ps)
unfolding Rises ascending
rises_whole [] low high up last = refl
rises_whole (p ∷ []) low high up last = let least : low ≤ p = up.0 in let first : p ≡ low = omega arith in ap (λ (q : ℕ). q ∷ []) first
rises_whole (p ∷ q ∷ ps) low high up last =
    let least : low ≤ p = up.0 in
    let end : length (p ∷ q ∷ ps) - 1 ≡ suc (length (q ∷ ps) - 1) = omega arith in
    let there : get_or (p ∷ q ∷ ps) (length (p ∷ q ∷ ps) - 1) 0 ≡ get_or (q ∷ ps) (length (q ∷ ps) - 1) 0 = ap (λ (n : ℕ). get_or (p ∷ q ∷ ps) n 0) end in
    let rest : q ∷ ps ≡ ascending (suc p) (length (q ∷ ps)) = rises_whole (q ∷ ps) (suc p) high up.2 (omega (arith, least, there, last)) in
    let most : get_or (q ∷ ps) (length (q ∷ ps) - 1) 0 ≡ suc p + (length (q ∷ ps) - 1) =
    ap (λ (l : List ℕ). get_or l (length (q ∷ ps) - 1) 0) rest ∙ get_or-ascending (length (q ∷ ps)) (suc p) (length (q ∷ ps) - 1) (omega arith) in
    let first : p ≡ low = omega (arith, least, there, last, most) in
    ap (λ (n : ℕ). n ∷ q ∷ ps) first ∙ ap (λ (l : List ℕ). low ∷ l) (rest ∙ ap (λ (n : ℕ). ascending (suc n) (length (q ∷ ps))) first)

-- where the last of k known positions is below k the originals are the given shares
pub originals_known : (k : ℕ) (known : List ℕ) (given originals recovery : List Share) → AreChosen k known → length given ≡ k → originals ≡ given
    → get_or known (k - 1) 0 < k → HasEntries known given (originals ++ recovery)
originals_known k known given originals recovery are count same last =
    let end : get_or known (length known - 1) 0 ≡ get_or known (k - 1) 0 = ap (λ (n : ℕ). get_or known (n - 1) 0) are.count in
    let first : known ≡ ascending 0 k =
    rises_whole known 0 (2 * k) (positions_rise k known are.positions) (omega (arith, end, last, are.count)) ∙ ap (ascending 0) are.count in
    let front : take k (given ++ recovery) ≡ given = ap (λ (n : ℕ). take n (given ++ recovery)) (sym count) ∙ take-append_seam given recovery in
    subst (λ (ps : List ℕ). HasEntries ps given (originals ++ recovery)) (sym first)
    (subst (λ (l : List Share). HasEntries (ascending 0 k) given (l ++ recovery)) (sym same)
    (subst (λ (l : List Share). HasEntries (ascending 0 k) l (given ++ recovery)) front (first_entries k (given ++ recovery))))
