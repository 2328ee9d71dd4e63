-- Two parts with one digest: a clash, or they agree.
use Rattle.std.proofs.Common.{◌≡◌, ◌≢◌, ◌⊎◌, ◌∙◌, ℕ, zero, suc, List, cond, Option, Some, None, refl, sym, ap, subst₂, inl, inr}
use Rattle.std.specs.Prelude.{MatchOption}
use Rattle.std.specs.Option.{option_or}
use Rattle.std.specs.Str.{bytes_eq}
use Rattle.std.proofs.lemmas.Option.{none-some}
use Rattle.std.proofs.lemmas.Slice.Eq.{bytes_eq-Decides}
use Rattle.std.proofs.lemmas.Bool.{cases_Bool, true≢false}
use Rattle.sha2.specs.Sha256.{sha256}
use Rattle.namespace_id.specs.Bytes.{AreBytes}
use Rattle.namespace_id.specs.Digests.{IsDigest}
use Rattle.nmt_proofs.specs.Parts.{Part, given, leaf, join, digest_of}
use Rattle.nmt_proofs.specs.Clashes.{IsClash, leaf_text, join_text, apart_or, clash_at, ClashOr, IsSized, HasDepth, Agree}
use Rattle.nmt_proofs.proofs.Parts.DigestLemmas.{digest-leaf, digest-node, bytes-leaf, bytes-join, leaf_hash, join_hash, leaf_parts, join_parts}

-- the digest of a sized part
pub digest-sized : (p : Part) → IsSized p → IsDigest (digest_of p)
digest-sized (given d) h = h
digest-sized (leaf n s) h = digest-leaf n s h.0
digest-sized (join l r) h = digest-node (digest_of l) (digest_of r) (digest-sized l h.0) (digest-sized r h.1)

-- what a comparison of two strings found
pub compared : (x y a b : List ℕ) (rest : Option (List ℕ × List ℕ)) → apart_or x y rest ≡ Some (a, b)
    → ((x ≡ y) × (rest ≡ Some (a, b))) ⊎ ((x ≢ y) × (x ≡ a) × (y ≡ b))
compared x y a b rest e = elim (cases_Bool (bytes_eq x y)) [
  | inl t ↦ inl ((bytes_eq-Decides x y).0 t, sym (ap (λ c. cond c rest (Some (x, y))) t) ∙ e)
  | inr f ↦
      let one : Some (x, y) ≡ Some (a, b) = sym (ap (λ c. cond c rest (Some (x, y))) f) ∙ e in
      let pair : (x, y) ≡ (a, b) = cc in
      inr (λ same. true≢false (sym ((bytes_eq-Decides x y).1 same) ∙ f), ap (λ (o : List ℕ × List ℕ). o.0) pair, ap (λ (o : List ℕ × List ℕ). o.1) pair)
]

-- where a comparison of two strings found nothing, they are equal
pub none_where : (x y : List ℕ) (rest : Option (List ℕ × List ℕ)) → apart_or x y rest ≡ None → (x ≡ y) × (rest ≡ None)
none_where x y rest e = elim (cases_Bool (bytes_eq x y)) [
  | inl t ↦ ((bytes_eq-Decides x y).0 t, sym (ap (λ c. cond c rest (Some (x, y))) t) ∙ e)
  | inr f ↦ absurd (none-some _ (sym e ∙ ap (λ c. cond c rest (Some (x, y))) f))
]

-- what either of two searches found
pub or_found : (o p : Option (List ℕ × List ℕ)) (w : List ℕ × List ℕ) → option_or o p ≡ Some w → (o ≡ Some w) ⊎ (p ≡ Some w)
or_found None p w e = inr e
or_found (Some x) p w e = inl e

-- each of two found nothing, where neither found anything
pub or_none : (o p : Option (List ℕ × List ℕ)) → option_or o p ≡ None → (o ≡ None) × (p ≡ None)
or_none None p e = (refl, e)
or_none (Some x) p e = absurd (none-some _ (sym e))

-- two different byte strings with one digest are a clash
clash_of : (x y a b : List ℕ) → AreBytes x → AreBytes y → x ≢ y → sha256 x ≡ sha256 y → x ≡ a → y ≡ b → IsClash a b
clash_of x y a b h g apart same e f =
    let clash : IsClash x y = record { left_bytes = h; right_bytes = g; apart = apart; digest = same } in
    subst₂ IsClash e f clash

-- what was found is a clash
pub found_is_clash : (p q : Part) (a b : List ℕ) → IsSized p → IsSized q → digest_of p ≡ digest_of q → clash_at p q ≡ Some (a, b) → IsClash a b
unfolding clash_at
found_is_clash (given d) q a b h k e f = absurd (none-some _ f)
found_is_clash (leaf n s) (given d) a b h k e f = absurd (none-some _ f)
found_is_clash (leaf n s) (leaf m t) a b h k e f = elim (compared (leaf_text n s) (leaf_text m t) a b None f) [
  | inl x ↦ absurd (none-some _ x.1)
  | inr x ↦ clash_of (leaf_text n s) (leaf_text m t) a b (bytes-leaf n s h.0 h.1) (bytes-leaf m t k.0 k.1) x.0 (leaf_hash n m s t h.0 k.0 e) x.1 x.2
]
found_is_clash (leaf n s) (join u v) a b h k e f = absurd (none-some _ f)
found_is_clash (join l r) (given d) a b h k e f = absurd (none-some _ f)
found_is_clash (join l r) (leaf m t) a b h k e f = absurd (none-some _ f)
found_is_clash (join l r) (join u v) a b h k e f =
    let hl = digest-sized l h.0 in
    let hr = digest-sized r h.1 in
    let hu = digest-sized u k.0 in
    let hv = digest-sized v k.1 in
    elim (compared (join_text (digest_of l) (digest_of r)) (join_text (digest_of u) (digest_of v)) a b (option_or (clash_at l u) (clash_at r v)) f) [
      | inl x ↦
          let same = join_parts (digest_of l) (digest_of r) (digest_of u) (digest_of v) hl hu x.0 in
          elim (or_found (clash_at l u) (clash_at r v) (a, b) x.1) [
            | inl y ↦ found_is_clash l u a b h.0 k.0 same.0 y
            | inr y ↦ found_is_clash r v a b h.1 k.1 same.1 y
          ]
      | inr x ↦ clash_of (join_text (digest_of l) (digest_of r)) (join_text (digest_of u) (digest_of v)) a b
          (bytes-join (digest_of l) (digest_of r) hl hr) (bytes-join (digest_of u) (digest_of v) hu hv) x.0
          (join_hash (digest_of l) (digest_of r) (digest_of u) (digest_of v) hl hr hu hv e) x.1 x.2
    ]

-- where nothing was found, both agree
pub none_found : (n : ℕ) (p q : Part) → HasDepth n p → HasDepth n q → IsSized p → IsSized q → digest_of p ≡ digest_of q → clash_at p q ≡ None → Agree p q
unfolding clash_at
none_found n (given d) q dp dq h k e f = e
none_found n (leaf a s) (given d) dp dq h k e f = e
none_found n (leaf a s) (leaf m t) dp dq h k e f = leaf_parts a m s t h.0 k.0 (none_where (leaf_text a s) (leaf_text m t) None f).0
none_found zero (leaf a s) (join u v) dp dq h k e f = elim dq [ ]
none_found (suc n) (leaf a s) (join u v) dp dq h k e f = elim dp [ ]
none_found n (join l r) (given d) dp dq h k e f = e
none_found zero (join l r) (leaf m t) dp dq h k e f = elim dp [ ]
none_found (suc n) (join l r) (leaf m t) dp dq h k e f = elim dq [ ]
none_found zero (join l r) (join u v) dp dq h k e f = elim dp [ ]
none_found (suc n) (join l r) (join u v) dp dq h k e f =
    let x = none_where (join_text (digest_of l) (digest_of r)) (join_text (digest_of u) (digest_of v)) (option_or (clash_at l u) (clash_at r v)) f in
    let same = join_parts (digest_of l) (digest_of r) (digest_of u) (digest_of v) (digest-sized l h.0) (digest-sized u k.0) x.0 in
    let sub = or_none (clash_at l u) (clash_at r v) x.1 in
    (none_found n l u dp.0 dq.0 h.0 k.0 same.0 sub.0, none_found n r v dp.1 dq.1 h.1 k.1 same.1 sub.1)

-- what was found is a clash, and a fact holds where nothing was
by_cases : (p q : Part) (Fact : Type 0) (o : Option (List ℕ × List ℕ)) → clash_at p q ≡ o → IsSized p → IsSized q → digest_of p ≡ digest_of q → (clash_at p q ≡ None → Fact)
    → MatchOption o Fact (λ texts. IsClash texts.0 texts.1)
by_cases p q Fact None f h k e fact = fact f
by_cases p q Fact (Some texts) f h k e fact = found_is_clash p q texts.0 texts.1 h k e f

-- a clash is in hand, or what follows where both agree
pub agree_or : (n : ℕ) (p q : Part) (Fact : Type 0) → HasDepth n p → HasDepth n q → IsSized p → IsSized q → digest_of p ≡ digest_of q → (Agree p q → Fact) → ClashOr p q Fact
agree_or n p q Fact dp dq h k e fact = by_cases p q Fact (clash_at p q) refl h k e (λ none. fact (none_found n p q dp dq h k e none))

-- a comparison of equal strings finds nothing where nothing comes after it
same_texts : (x y : List ℕ) (rest : Option (List ℕ × List ℕ)) → x ≡ y → rest ≡ None → apart_or x y rest ≡ None
same_texts x y rest e r = ap (λ c. cond c rest (Some (x, y))) ((bytes_eq-Decides x y).1 e) ∙ r

-- neither of two found anything, where each found nothing
both_none : (o p : Option (List ℕ × List ℕ)) → o ≡ None → p ≡ None → option_or o p ≡ None
both_none o p e f = ap (λ x. option_or x p) e ∙ f

-- nothing is given in a part
abbrev pub IsFull : Part → Type 0
IsFull (given d) = ⊥
IsFull (leaf n s) = Unit {0}
IsFull (join l r) = IsFull l × IsFull r

-- two parts of which neither differs from a full one don't differ from one another
pub fit_together : (n : ℕ) (f p q : Part) → HasDepth n f → HasDepth n p → HasDepth n q → IsFull f → clash_at p f ≡ None → clash_at q f ≡ None → clash_at p q ≡ None
unfolding clash_at
fit_together n (given d) p q df dp dq w e g = absurd w
fit_together n f (given d) q df dp dq w e g = refl
fit_together zero (leaf m t) (leaf a s) (given d) df dp dq w e g = refl
fit_together zero (leaf m t) (leaf a s) (leaf b u) df dp dq w e g =
    same_texts (leaf_text a s) (leaf_text b u) None ((none_where (leaf_text a s) (leaf_text m t) None e).0 ∙ sym (none_where (leaf_text b u) (leaf_text m t) None g).0) refl
fit_together zero (leaf m t) (leaf a s) (join left b) df dp dq w e g = elim dq [ ]
fit_together (suc n) (leaf m t) (leaf a s) q df dp dq w e g = elim df [ ]
fit_together zero (leaf m t) (join l r) q df dp dq w e g = elim dp [ ]
fit_together (suc n) (leaf m t) (join l r) q df dp dq w e g = elim df [ ]
fit_together zero (join u v) (leaf a s) q df dp dq w e g = elim df [ ]
fit_together (suc n) (join u v) (leaf a s) q df dp dq w e g = elim dp [ ]
fit_together zero (join u v) (join l r) q df dp dq w e g = elim df [ ]
fit_together (suc n) (join u v) (join l r) (leaf b share) df dp dq w e g = elim dq [ ]
fit_together (suc n) (join u v) (join l r) (given d) df dp dq w e g = refl
fit_together (suc n) (join u v) (join l r) (join a b) df dp dq w e g =
    let x = none_where (join_text (digest_of l) (digest_of r)) (join_text (digest_of u) (digest_of v)) (option_or (clash_at l u) (clash_at r v)) e in
    let y = none_where (join_text (digest_of a) (digest_of b)) (join_text (digest_of u) (digest_of v)) (option_or (clash_at a u) (clash_at b v)) g in
    let xs = or_none (clash_at l u) (clash_at r v) x.1 in
    let ys = or_none (clash_at a u) (clash_at b v) y.1 in
    same_texts (join_text (digest_of l) (digest_of r)) (join_text (digest_of a) (digest_of b)) (option_or (clash_at l a) (clash_at r b)) (x.0 ∙ sym y.0)
    (both_none (clash_at l a) (clash_at r b)
    (fit_together n u l a df.0 dp.0 dq.0 w.0 xs.0 ys.0) (fit_together n v r b df.1 dp.1 dq.1 w.1 xs.1 ys.1))
