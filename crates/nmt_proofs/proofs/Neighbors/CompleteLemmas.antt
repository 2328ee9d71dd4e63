-- What the digests over leaves beside some places say of a namespace.
use Rattle.std.proofs.Common.{◌≡◌, ◌∙◌, ℕ, suc, ◌+◌, ◌^◌, ◌<◌, ◌≤◌, List, [], ◌∷◌, length, Bool, true, false, cond, Option, Some, None, refl, sym, ap, inl, inr, arith}
use Rattle.std.specs.Prelude.{nat_lt, not}
use Rattle.std.specs.List.{AllByRecursion}
use Rattle.std.proofs.lemmas.Bool.{cases_Bool, true≢false, not-true, lt-ltb, le-ltb}
use Rattle.std.proofs.lemmas.Nat.{pow_pos}
use Rattle.namespace_id.specs.declared.namespaces.Namespace.{Namespace}
use Rattle.namespace_id.specs.declared.shares.Share.{Share}
use Rattle.namespace_id.specs.declared.digests.Digest.{Digest}
use Rattle.namespace_id.specs.Names.{is_at_most, is_below, is_parity}
use Rattle.namespace_id.specs.Digests.{least_of, greatest_of}
use Rattle.namespace_id.proofs.OrderLemmas.{at_most_refl, at_most_trans}
use Rattle.nmt_tree.specs.Roots.{is_ordered}
use Rattle.nmt_tree.specs.Levels.{span, leaf_digests}
use Rattle.nmt_tree.specs.Spans.{name_at, IsOver, IsAbove}
use Rattle.nmt_tree.proofs.NameLemmas.{ordered_at}
use Rattle.nmt_tree.proofs.OverLemmas.{over_span}
use Rattle.nmt_tree.proofs.AboveLemmas.{above_span}
use Rattle.nmt_proofs.specs.Clashes.{AreLeaves}
use Rattle.nmt_proofs.specs.Complete.{excludes, first_break, IsBetween, StandsBetween, IsNowhereElse}
use Rattle.nmt_proofs.specs.Making.{spans}
use Rattle.nmt_proofs.proofs.Neighbors.BesideLemmas.{IsBeside, IsFound}

-- the digest over an interval excludes a namespace
abbrev pub IsExcluded : Namespace → ℕ → List Digest → ℕ × ℕ → Type 0
IsExcluded name from leaves x = excludes name (nat_lt x.0 from) (span leaves x.0 x.1) ≡ true

-- where each does, no node leaves a place
pub break_none : (name : Namespace) (from number : ℕ) (leaves : List Digest) (xs : List (ℕ × ℕ)) → AllByRecursion (IsExcluded name from leaves) xs
    → first_break name from number xs (spans leaves xs) ≡ None
unfolding first_break
break_none name from number leaves [] each = refl
break_none name from number leaves (x ∷ xs) each =
    ap (λ (b : Bool). cond b (first_break name from (suc number) xs (spans leaves xs)) (Some number)) each.0
    ∙ break_none name from (suc number) leaves xs each.1

-- and where no node leaves a place, each does
pub none_breaks : (name : Namespace) (from number : ℕ) (leaves : List Digest) (xs : List (ℕ × ℕ)) → first_break name from number xs (spans leaves xs) ≡ None
    → AllByRecursion (IsExcluded name from leaves) xs
unfolding first_break
none_breaks name from number leaves [] e = tt
none_breaks name from number leaves (x ∷ xs) e =
    let test : Bool = excludes name (nat_lt x.0 from) (span leaves x.0 x.1) in
    let rest : Option ℕ = first_break name from (suc number) xs (spans leaves xs) in
    elim (cases_Bool test) [
      | inl t ↦ (t, none_breaks name from (suc number) leaves xs (sym (ap (λ (b : Bool). cond b rest (Some number)) t) ∙ e))
      | inr f ↦ let some : Some number ≡ None = sym (ap (λ (b : Bool). cond b rest (Some number)) f) ∙ e in absurd cc
    ]

-- an interval beside the places of a namespace excludes it
excluded : (name : Namespace) (low high depth : ℕ) (names : List Namespace) (shares : List Share) (x : ℕ × ℕ) → AreLeaves depth names shares
    → IsBetween name names low high → low ≤ high → IsBeside low high (2 ^ depth) x → IsExcluded name low (leaf_digests names shares) x
excluded name low high depth names shares x of between apart beside =
    let d : Digest = span (leaf_digests names shares) x.0 x.1 in
    let over : IsOver names x.0 x.1 d = over_span x.1 x.0 names shares of.name_bytes (of.share_count ∙ sym of.name_count) (omega (arith, beside.within, of.name_count)) in
    elim beside.side [
      | inl left ↦
          let on_left : nat_lt x.0 low ≡ true = lt-ltb x.0 low (omega (arith, left, pow_pos x.1)) in
          ap (λ (b : Bool). excludes name b d) on_left
          ∙ ap (λ (n : Namespace). is_below n name) over.greatest ∙ between.below over.place (omega (arith, over.high, left))
      | inr right ↦
          let on_right : nat_lt x.0 low ≡ false = le-ltb x.0 low (omega (arith, right)) in
          ap (λ (b : Bool). excludes name b d) on_right
          ∙ ap (is_below name) over.least ∙ between.above x.0 right (omega (arith, beside.within, of.name_count, pow_pos x.1))
    ]

-- so do all of them
pub each_excluded : (name : Namespace) (low high depth : ℕ) (names : List Namespace) (shares : List Share) (xs : List (ℕ × ℕ)) → AreLeaves depth names shares
    → IsBetween name names low high → low ≤ high → AllByRecursion (IsBeside low high (2 ^ depth)) xs → AllByRecursion (IsExcluded name low (leaf_digests names shares)) xs
each_excluded name low high depth names shares [] of between apart beside = tt
each_excluded name low high depth names shares (x ∷ xs) of between apart beside =
    (excluded name low high depth names shares x of between apart beside.0, each_excluded name low high depth names shares xs of between apart beside.1)

-- an interval that is beside some places, and excludes a namespace
abbrev pub IsClear : Namespace → ℕ → ℕ → ℕ → List Digest → ℕ × ℕ → Type 0
IsClear name low high last leaves x = IsBeside low high last x × IsExcluded name low leaves x

-- each interval that is beside and excludes does both
pub each_clear : (name : Namespace) (low high last : ℕ) (leaves : List Digest) (xs : List (ℕ × ℕ)) → AllByRecursion (IsBeside low high last) xs
    → AllByRecursion (IsExcluded name low leaves) xs → AllByRecursion (IsClear name low high last leaves) xs
each_clear name low high last leaves [] beside excluded = tt
each_clear name low high last leaves (x ∷ xs) beside excluded = ((beside.0, excluded.0), each_clear name low high last leaves xs beside.1 excluded.1)

-- what isn't at most a namespace is above it
below_of : (a b : Namespace) → (is_at_most b a ≡ true → ⊥) → is_below a b ≡ true
below_of a b h = elim (cases_Bool (is_at_most b a)) [ inl t ↦ absurd (h t) | inr f ↦ ap not f ]

-- over ordered names, a leaf in such an interval on the left has PARITY or a namespace below it
pub leaf_on_left : (name : Namespace) (low high depth i : ℕ) (names : List Namespace) (shares : List Share) → AreLeaves depth names shares
    → is_ordered names ≡ true → low ≤ high → IsFound (IsClear name low high (2 ^ depth) (leaf_digests names shares)) i → i < low
    → is_parity (name_at names i) ≡ false → is_below (name_at names i) name ≡ true
leaf_on_left name low high depth i names shares of ordered apart found before other =
    let x : ℕ × ℕ = found.interval in
    let beside : IsBeside low high (2 ^ depth) x = found.fact.0 in
    let d : Digest = span (leaf_digests names shares) x.0 x.1 in
    let count : length shares ≡ length names = of.share_count ∙ sym of.name_count in
    let fits : x.0 + 2 ^ x.1 ≤ length names = omega (arith, beside.within, of.name_count) in
    let above : IsAbove names x.0 x.1 d = above_span x.1 x.0 names shares of.name_bytes count ordered fits in
    let on_left : nat_lt x.0 low ≡ true = lt-ltb x.0 low (omega (arith, found.low, before)) in
    let below : is_below (greatest_of d) name ≡ true = sym (ap (λ (b : Bool). excludes name b d) on_left) ∙ found.fact.1 in
    below_of (name_at names i) name (λ over.
    let under : is_at_most name (greatest_of d) ≡ true =
    at_most_trans name (name_at names i) (greatest_of d) over (above i found.low found.high other) in
    true≢false (sym under ∙ not-true _ below))

-- and a leaf in one on the right has a namespace above it
pub leaf_on_right : (name : Namespace) (low high depth i : ℕ) (names : List Namespace) (shares : List Share) → AreLeaves depth names shares
    → is_ordered names ≡ true → low ≤ high → IsFound (IsClear name low high (2 ^ depth) (leaf_digests names shares)) i → high ≤ i
    → is_below name (name_at names i) ≡ true
leaf_on_right name low high depth i names shares of ordered apart found behind =
    let x : ℕ × ℕ = found.interval in
    let beside : IsBeside low high (2 ^ depth) x = found.fact.0 in
    let d : Digest = span (leaf_digests names shares) x.0 x.1 in
    let count : length shares ≡ length names = of.share_count ∙ sym of.name_count in
    let fits : x.0 + 2 ^ x.1 ≤ length names = omega (arith, beside.within, of.name_count) in
    let over : IsOver names x.0 x.1 d = over_span x.1 x.0 names shares of.name_bytes count fits in
    let on_right : nat_lt x.0 low ≡ false =
    le-ltb x.0 low (elim beside.side [ inl left ↦ omega (arith, left, found.high, behind, apart) | inr right ↦ omega (arith, right, apart) ]) in
    let below : is_below name (least_of d) ≡ true = sym (ap (λ (b : Bool). excludes name b d) on_right) ∙ found.fact.1 in
    below_of name (name_at names i) (λ under.
    let least : is_at_most (least_of d) (name_at names i) ≡ true =
    ap (λ (n : Namespace). is_at_most n (name_at names i)) over.least ∙ ordered_at names x.0 i ordered found.low (omega (arith, found.high, fits)) in
    true≢false (sym (at_most_trans (least_of d) (name_at names i) name least under) ∙ not-true _ below))

-- where other leaves stand so, none of them has the namespace
pub stands_alone : (name : Namespace) (names : List Namespace) (from to : ℕ) → is_parity name ≡ false → StandsBetween name names from to
    → IsNowhereElse name names from to
stands_alone name names from to other stands i within beside same =
    let never : is_below name name ≡ true → ⊥ = λ below. true≢false (sym (at_most_refl name) ∙ not-true _ below) in
    elim beside [
      | inl before ↦
          never (ap (λ (n : Namespace). is_below n name) (sym same) ∙ stands.below i within before (ap is_parity same ∙ other))
      | inr behind ↦ never (ap (is_below name) (sym same) ∙ stands.above i behind within)
    ]
