-- Lemmas on later shares.
use Rattle.std.proofs.Common.{◌≡◌, ◌∙◌, ℕ, suc, ◌+◌, ◌-◌, ◌<◌, List, [], ◌∷◌, ◌++◌, take, drop, sym, ap, ap₂, arith}
use Rattle.std.proofs.lemmas.List.{append_assoc}
use Rattle.namespace_id.specs.declared.namespaces.Namespace.{Namespace}
use Rattle.namespace_id.specs.declared.shares.Share.{Share}
use Rattle.share_split.specs.Blobs.{later_content, later_share, later_shares}

-- no shares are left
pub later_shares-none : (name : Namespace) (version : ℕ) (bytes : List ℕ) (count : ℕ) → count ≡ 0 → later_shares count name version bytes ≡ []
unfolding later_shares
later_shares-none name version bytes count e = ap (λ (n : ℕ). later_shares n name version bytes) e

-- the next share, and then the others
pub later_shares-next : (name : Namespace) (version : ℕ) (bytes : List ℕ) (count left : ℕ) → count ≡ suc left
    → later_shares count name version bytes ≡ later_share name version (take later_content bytes) ∷ later_shares left name version (drop later_content bytes)
unfolding later_shares
later_shares-next name version bytes count left e = ap (λ (n : ℕ). later_shares n name version bytes) e

-- one share more is there, and the others are left
pub later-step : (name : Namespace) (version : ℕ) (rest content after : List ℕ) (out new whole : List Share) (share : Share) (count i : ℕ) → i < count
    → out ++ later_shares (count - i) name version rest ≡ whole
    → content ≡ take later_content rest → after ≡ drop later_content rest → share ≡ later_share name version content
    → new ≡ out ++ share ∷ []
    → new ++ later_shares (count - (i + 1)) name version after ≡ whole
later-step name version rest content after out new whole share count i h before c a s n =
    let left : List Share = later_shares (count - (i + 1)) name version (drop later_content rest) in
    let here : share ≡ later_share name version (take later_content rest) = s ∙ ap (λ (x : List ℕ). later_share name version x) c in
    ap₂ (λ (x : List Share) (y : List ℕ). x ++ later_shares (count - (i + 1)) name version y) n a
    ∙ append_assoc out (share ∷ []) left
    ∙ ap (λ (x : Share). out ++ x ∷ left) here
    ∙ sym (ap (λ (x : List Share). out ++ x) (later_shares-next name version rest (count - i) (count - (i + 1)) (omega (arith, h))))
    ∙ before
