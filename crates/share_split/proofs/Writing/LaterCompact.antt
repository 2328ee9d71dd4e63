-- Lemmas on later compact shares.
use Rattle.std.proofs.Common.{◌≡◌, ◌∙◌, ℕ, zero, suc, ◌+◌, ◌-◌, ◌<◌, ◌≤◌, List, [], ◌∷◌, ◌++◌, take, drop, refl, sym, ap, ap₂, add-one, arith}
use Rattle.std.proofs.lemmas.List.{append_assoc}
use Rattle.namespace_id.specs.declared.namespaces.Namespace.{Namespace}
use Rattle.namespace_id.specs.declared.shares.Share.{Share}
use Rattle.share_split.specs.Units.{later_compact_content, content_start, starts_on, reserved_of, later_compact_share, later_compact_shares}
use Rattle.share_split.proofs.Writing.Starts.{reserved_of-on}
use Rattle.share_split.proofs.Writing.Places.{content_start-next}

-- no compact shares are left
pub later_compact_shares-none : (name : Namespace) (i : ℕ) (starts text : List ℕ) (count : ℕ) → count ≡ 0
    → later_compact_shares count name i starts text ≡ []
unfolding later_compact_shares
later_compact_shares-none name i starts text count e = ap (λ (n : ℕ). later_compact_shares n name i starts text) e

-- the next share, and then the others
pub later_compact_shares-next : (name : Namespace) (i : ℕ) (starts text : List ℕ) (count left : ℕ) → count ≡ suc left
    → later_compact_shares count name i starts text
    ≡ later_compact_share name (reserved_of i starts) (take later_compact_content text)
    ∷ later_compact_shares left name (suc i) starts (drop later_compact_content text)
unfolding later_compact_shares
later_compact_shares-next name i starts text count left e = ap (λ (n : ℕ). later_compact_shares n name i starts text) e

-- starts before the first of them don't matter
pub later_compact_shares-on : (name : Namespace) (from i : ℕ) (starts text : List ℕ) (count : ℕ) → from ≤ content_start i
    → later_compact_shares count name i (starts_on from starts) text ≡ later_compact_shares count name i starts text
later_compact_shares-on name from i starts text zero h =
    later_compact_shares-none name i (starts_on from starts) text 0 refl ∙ sym (later_compact_shares-none name i starts text 0 refl)
later_compact_shares-on name from i starts text (suc count) h =
    let content : List ℕ = take later_compact_content text in
    let after : List ℕ = drop later_compact_content text in
    later_compact_shares-next name i (starts_on from starts) text (suc count) count refl
    ∙ ap₂ (λ (n : ℕ) (l : List Share). later_compact_share name n content ∷ l)
    (reserved_of-on from i starts h)
    (later_compact_shares-on name from (suc i) starts after count (omega (arith, content_start-next i)))
    ∙ sym (later_compact_shares-next name i starts text (suc count) count refl)

-- one share more is there, and the others are left
pub later_compact-step : (name : Namespace) (rest content after starts here : List ℕ) (out new whole : List Share) (share : Share) (count i place reserved : ℕ)
    → i < count
    → out ++ later_compact_shares (count - i) name (suc i) starts rest ≡ whole
    → place ≡ content_start (i + 1) → here ≡ starts_on place starts → reserved ≡ reserved_of (i + 1) here
    → content ≡ take later_compact_content rest → after ≡ drop later_compact_content rest
    → share ≡ later_compact_share name reserved content → new ≡ out ++ share ∷ []
    → new ++ later_compact_shares (count - (i + 1)) name (suc (i + 1)) here after ≡ whole
later_compact-step name rest content after starts here out new whole share count i place reserved lt before p e r c a s n =
    let one : i + 1 ≡ suc i = add-one i in
    let left : List Share = later_compact_shares (count - (i + 1)) name (suc (suc i)) here (drop later_compact_content rest) in
    let number : reserved ≡ reserved_of (suc i) here = r ∙ ap (λ (k : ℕ). reserved_of k here) one in
    let this : share ≡ later_compact_share name (reserved_of (suc i) here) (take later_compact_content rest)
    = s ∙ ap₂ (λ (k : ℕ) (x : List ℕ). later_compact_share name k x) number c in
    let start : place ≡ content_start (suc i) = p ∙ ap content_start one in
    let passed : later_compact_shares (count - i) name (suc i) here rest ≡ later_compact_shares (count - i) name (suc i) starts rest
    = ap (λ (l : List ℕ). later_compact_shares (count - i) name (suc i) l rest) e
    ∙ later_compact_shares-on name place (suc i) starts rest (count - i) (omega (arith, start)) in
    ap₂ (λ (x : List Share) (y : List ℕ). x ++ later_compact_shares (count - (i + 1)) name (suc (i + 1)) here y) n a
    ∙ ap (λ (k : ℕ). (out ++ share ∷ []) ++ later_compact_shares (count - (i + 1)) name (suc k) here (drop later_compact_content rest)) one
    ∙ append_assoc out (share ∷ []) left
    ∙ ap (λ (x : Share). out ++ x ∷ left) this
    ∙ sym (ap (λ (x : List Share). out ++ x) (later_compact_shares-next name (suc i) here rest (count - i) (count - (i + 1)) (omega (arith, lt))))
    ∙ ap (λ (x : List Share). out ++ x) passed
    ∙ before
