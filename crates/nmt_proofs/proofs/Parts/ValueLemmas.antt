-- The digest of a part whose joins are ordered, from those of its halves.
use Rattle.std.proofs.Common.{◌≡◌, ◌∙◌, Bool, true, false, cond, ◌&&◌, sym, ap, ap₂, Option, Some, None, inl, inr}
use Rattle.std.proofs.lemmas.Bool.{cases_Bool}
use Rattle.std.proofs.lemmas.Option.{cond_some}
use Rattle.namespace_id.specs.declared.digests.Digest.{Digest}
use Rattle.nmt_tree.specs.Digests.{node_digest, is_ordered_join}
use Rattle.nmt_proofs.specs.Parts.{Part, given, join, digest_of, is_in_order, ordered_digest}

-- a given digest is its own value
pub value_given : (p : Part) (d : Digest) → p ≡ given d → Some d ≡ ordered_digest p
unfolding ordered_digest
value_given p d e = sym (ap ordered_digest e)

-- a part without a value has a join that isn't ordered
pub none_unordered : (p : Part) → None ≡ ordered_digest p → is_in_order p ≡ false
unfolding ordered_digest
none_unordered p h = elim (cases_Bool (is_in_order p)) [
  | inl t ↦ let e : None ≡ Some (digest_of p) = h ∙ ap (λ b. cond b (Some (digest_of p)) None) t in absurd (cc)
  | inr f ↦ f
]

-- one with a value is in order, and the value is its digest
pub some_ordered : (p : Part) (d : Digest) → Some d ≡ ordered_digest p → (is_in_order p ≡ true) × (d ≡ digest_of p)
unfolding ordered_digest
some_ordered p d h = let x = cond_some (is_in_order p) (digest_of p) d (sym h) in (x.0, sym x.1)

-- a join has no value where its left half has none
pub left_unordered : (p l r : Part) → p ≡ join l r → None ≡ ordered_digest l → None ≡ ordered_digest p
unfolding ordered_digest
left_unordered p l r e h =
    sym (ap ordered_digest e ∙ ap (λ b. cond (b && is_in_order r && is_ordered_join (digest_of l) (digest_of r)) (Some (digest_of (join l r))) None) (none_unordered l h))

-- nor where its right half has none
pub right_unordered : (p l r : Part) (a : Digest) → p ≡ join l r → Some a ≡ ordered_digest l → None ≡ ordered_digest r → None ≡ ordered_digest p
unfolding ordered_digest
right_unordered p l r a e g h =
    sym (ap ordered_digest e
    ∙ ap₂ (λ (b c : Bool). cond (b && c && is_ordered_join (digest_of l) (digest_of r)) (Some (digest_of (join l r))) None) (some_ordered l a g).0 (none_unordered r h))

-- a join of two values has theirs, where it is ordered
pub both_ordered : (p l r : Part) (a b : Digest) (o : Option Digest) → p ≡ join l r → Some a ≡ ordered_digest l → Some b ≡ ordered_digest r
    → o ≡ cond (is_ordered_join a b) (Some (node_digest a b)) None → o ≡ ordered_digest p
unfolding ordered_digest
both_ordered p l r a b o e g h n =
    let x : (is_in_order l ≡ true) × (a ≡ digest_of l) = some_ordered l a g in
    let y : (is_in_order r ≡ true) × (b ≡ digest_of r) = some_ordered r b h in
    n
    ∙ (λ i. cond (is_ordered_join (x.1 i) (y.1 i)) (Some (node_digest (x.1 i) (y.1 i))) None)
    ∙ sym (ap ordered_digest e
    ∙ ap₂ (λ (b c : Bool). cond (b && c && is_ordered_join (digest_of l) (digest_of r)) (Some (digest_of (join l r))) None) x.0 y.0)
