-- Each cause, from the checks of the body.
use Rattle.std.proofs.Common.{◌≡◌, ℕ, Bool, true, false, Option, Some, None, refl, sym, ap, ◌∙◌, Result, Ok, Err, IsOk, List}
use Rattle.std.proofs.lemmas.Bool.{true≢false}
use Rattle.nmt_proofs.specs.declared.opening.OpenRefusal.{OpenRefusal}
use Rattle.nmt_proofs.specs.declared.opening.OpenRefusal.TheVariants.{NodeCount, Unordered, OtherRoot, Incomplete}
use Rattle.std.specs.Prelude.{IsErrOf}
use Rattle.std.proofs.lemmas.Option.{none-some}
use Rattle.namespace_id.specs.Answers.{refusal_in}
use Rattle.namespace_id.specs.declared.digests.Digest.{Digest}
use Rattle.nmt_proofs.specs.Causes.{HasCause, opening_refusal, set_refusal}
use Rattle.nmt_proofs.specs.Openings.{Shown, Opens, has_count, has_order, has_root}

-- the answer is `Ok` exactly where every check holds
pub accepts : (r : Result (Unit {0}) OpenRefusal) (c o v : Bool) (b : Option ℕ) → HasCause r c o v b
    → (IsOk r → (c ≡ true) × (o ≡ true) × (v ≡ true) × (b ≡ None)) × ((c ≡ true) × (o ≡ true) × (v ≡ true) × (b ≡ None) → IsOk r)
accepts (Ok done) c o v b h = (λ k. h, λ k. refl)
accepts (Err NodeCount) c o v b h = (λ k. absurd (cc), λ k. absurd (true≢false (sym k.0 ∙ h)))
accepts (Err Unordered) c o v b h = (λ k. absurd (cc), λ k. absurd (true≢false (sym k.1 ∙ h.1)))
accepts (Err OtherRoot) c o v b h = (λ k. absurd (cc), λ k. absurd (true≢false (sym k.2 ∙ h.2)))
accepts (Err (Incomplete i)) c o v b h = (λ k. absurd (cc), λ k. absurd (cc))

-- it names the count exactly where that is wrong
pub node_count : (r : Result (Unit {0}) OpenRefusal) (c o v : Bool) (b : Option ℕ) → HasCause r c o v b → (IsErrOf r NodeCount → c ≡ false) × (c ≡ false → IsErrOf r NodeCount)
node_count (Ok done) c o v b h = (λ k. absurd (cc), λ k. absurd (true≢false (sym h.0 ∙ k)))
node_count (Err NodeCount) c o v b h = (λ k. h, λ k. refl)
node_count (Err Unordered) c o v b h = (λ k. absurd (cc), λ k. absurd (true≢false (sym h.0 ∙ k)))
node_count (Err OtherRoot) c o v b h = (λ k. absurd (cc), λ k. absurd (true≢false (sym h.0 ∙ k)))
node_count (Err (Incomplete i)) c o v b h = (λ k. absurd (cc), λ k. absurd (true≢false (sym h.0 ∙ k)))

-- the order exactly where the count is right and the order wrong
pub unordered : (r : Result (Unit {0}) OpenRefusal) (c o v : Bool) (b : Option ℕ) → HasCause r c o v b
    → (IsErrOf r Unordered → (c ≡ true) × (o ≡ false)) × ((c ≡ true) × (o ≡ false) → IsErrOf r Unordered)
unordered (Ok done) c o v b h = (λ k. absurd (cc), λ k. absurd (true≢false (sym h.1 ∙ k.1)))
unordered (Err NodeCount) c o v b h = (λ k. absurd (cc), λ k. absurd (true≢false (sym k.0 ∙ h)))
unordered (Err Unordered) c o v b h = (λ k. h, λ k. refl)
unordered (Err OtherRoot) c o v b h = (λ k. absurd (cc), λ k. absurd (true≢false (sym h.1 ∙ k.1)))
unordered (Err (Incomplete i)) c o v b h = (λ k. absurd (cc), λ k. absurd (true≢false (sym h.1 ∙ k.1)))

-- and the root exactly where it alone is wrong of the three
pub other_root : (r : Result (Unit {0}) OpenRefusal) (c o v : Bool) (b : Option ℕ) → HasCause r c o v b
    → (IsErrOf r OtherRoot → (c ≡ true) × (o ≡ true) × (v ≡ false)) × ((c ≡ true) × (o ≡ true) × (v ≡ false) → IsErrOf r OtherRoot)
other_root (Ok done) c o v b h = (λ k. absurd (cc), λ k. absurd (true≢false (sym h.2 ∙ k.2)))
other_root (Err NodeCount) c o v b h = (λ k. absurd (cc), λ k. absurd (true≢false (sym k.0 ∙ h)))
other_root (Err Unordered) c o v b h = (λ k. absurd (cc), λ k. absurd (true≢false (sym k.1 ∙ h.1)))
other_root (Err OtherRoot) c o v b h = (λ k. h, λ k. refl)
other_root (Err (Incomplete i)) c o v b h = (λ k. absurd (cc), λ k. absurd (true≢false (sym h.2 ∙ k.2)))

-- a node exactly where it is the first that leaves a place, and all else holds
pub incomplete : (r : Result (Unit {0}) OpenRefusal) (c o v : Bool) (b : Option ℕ) → HasCause r c o v b → (i : ℕ)
    → (IsErrOf r (Incomplete i) → (c ≡ true) × (o ≡ true) × (v ≡ true) × (b ≡ Some i)) × ((c ≡ true) × (o ≡ true) × (v ≡ true) × (b ≡ Some i) → IsErrOf r (Incomplete i))
incomplete (Ok done) c o v b h i = (λ k. absurd (cc), λ k. let e : None ≡ Some i = sym h.3 ∙ k.3 in absurd (cc))
incomplete (Err NodeCount) c o v b h i = (λ k. absurd (cc), λ k. absurd (true≢false (sym k.0 ∙ h)))
incomplete (Err Unordered) c o v b h i = (λ k. absurd (cc), λ k. absurd (true≢false (sym k.1 ∙ h.1)))
incomplete (Err OtherRoot) c o v b h i = (λ k. absurd (cc), λ k. absurd (true≢false (sym k.2 ∙ h.2)))
incomplete (Err (Incomplete j)) c o v b h i = (
  λ k. let e : j ≡ i = cc in (h.0, h.1, h.2, h.3 ∙ ap (λ (n : ℕ). Some n) e),
  λ k. let e : Some j ≡ Some i = sym h.3 ∙ k.3 in let f : j ≡ i = cc in ap (λ (n : ℕ). Err (Incomplete n)) f,
)

-- so the answer gives the refusal of the first check that fails
pub first_refusal : (r : Result (Unit {0}) OpenRefusal) (c o v : Bool) (b : Option ℕ) → HasCause r c o v b → refusal_in r ≡ opening_refusal c o v b
first_refusal (Ok done) c o v b h = let e : opening_refusal c o v b ≡ None = λ i. opening_refusal (h.0 i) (h.1 i) (h.2 i) (h.3 i) in sym e
first_refusal (Err NodeCount) c o v b h = let e : opening_refusal c o v b ≡ Some NodeCount = λ i. opening_refusal (h i) o v b in sym e
first_refusal (Err Unordered) c o v b h = let e : opening_refusal c o v b ≡ Some Unordered = λ i. opening_refusal (h.0 i) (h.1 i) v b in sym e
first_refusal (Err OtherRoot) c o v b h = let e : opening_refusal c o v b ≡ Some OtherRoot = λ i. opening_refusal (h.0 i) (h.1 i) (h.2 i) b in sym e
first_refusal (Err (Incomplete j)) c o v b h = let e : opening_refusal c o v b ≡ Some (Incomplete j) = λ i. opening_refusal (h.0 i) (h.1 i) (h.2 i) (h.3 i) in sym e

-- a refusal stays where one more node is looked at behind the others
pub still_refused : (e : OpenRefusal) (r : Result (Unit {0}) OpenRefusal) (c o v : Bool) (b d : Option ℕ) → HasCause r c o v b → r ≡ Err e
    → ((i : ℕ) → c ≡ true → b ≡ Some i → d ≡ Some i) → HasCause r c o v d
still_refused e (Ok done) c o v b d h k more = absurd (cc)
still_refused e (Err NodeCount) c o v b d h k more = h
still_refused e (Err Unordered) c o v b d h k more = h
still_refused e (Err OtherRoot) c o v b d h k more = h
still_refused e (Err (Incomplete i)) c o v b d h k more = (h.0, h.1, h.2, more i h.0 h.3)

-- where nothing is to be complete
pub never_incomplete : (r : Result (Unit {0}) OpenRefusal) (c o v : Bool) → HasCause r c o v None → (i : ℕ) → IsErrOf r (Incomplete i) → ⊥
never_incomplete (Ok done) c o v h i k = absurd cc
never_incomplete (Err NodeCount) c o v h i k = absurd cc
never_incomplete (Err Unordered) c o v h i k = absurd cc
never_incomplete (Err OtherRoot) c o v h i k = absurd cc
never_incomplete (Err (Incomplete j)) c o v h i k = let e : None ≡ Some j = h.3 in absurd cc

-- three checks hold where none of them is refused
checks_hold : (c o v : Bool) → opening_refusal c o v None ≡ None → (c ≡ true) × (o ≡ true) × (v ≡ true)
checks_hold true true true e = (refl, refl, refl)
checks_hold true true false e = absurd (none-some _ (sym e))
checks_hold true false v e = absurd (none-some _ (sym e))
checks_hold false o v e = absurd (none-some _ (sym e))

-- nodes open what is shown where they aren't refused
pub opens_where : (d : ℕ) (ss : List Shown) (nodes : List Digest) (root : Digest) → set_refusal d ss nodes root ≡ None → Opens d ss nodes root
opens_where d ss nodes root e =
    let all = checks_hold (has_count d ss nodes) (has_order d ss nodes) (has_root d ss nodes root) e in
    record { count = all.0; order = all.1; value = all.2 }

-- and the other way round
pub not_refused_where : (d : ℕ) (ss : List Shown) (nodes : List Digest) (root : Digest) → Opens d ss nodes root → set_refusal d ss nodes root ≡ None
not_refused_where d ss nodes root h = λ i. opening_refusal (h.count i) (h.order i) (h.value i) None
