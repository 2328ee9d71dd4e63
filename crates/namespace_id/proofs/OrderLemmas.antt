-- The order of namespaces is total, and none is above that of parity shares.
use Rattle.std.proofs.Common.{◌≡◌, ◌⊎◌, ◌∙◌, ℕ, zero, suc, ◌<◌, List, [], ◌∷◌, length, replicate, true, refl, sym, ap, subst, inl, inr, arith, Ordering, Less, Equal, Greater}
use Rattle.std.specs.Ordering.{nat_cmp, is_le, ordering_reverse, ordering_then}
use Rattle.std.specs.Cmp.Lexicographic.{slice_cmp}
use Rattle.std.proofs.lemmas.Cmp.{nat_list_cmp_total}
use Rattle.std.proofs.lemmas.Map.Lookups.{exact_bytes}
use Rattle.std.proofs.lemmas.Bool.{cases_order, true≢false}
use Rattle.namespace_id.specs.declared.namespaces.Namespace.{Namespace}
use Rattle.namespace_id.specs.Bytes.{AreBytes}
use Rattle.namespace_id.specs.Names.{is_at_most, parity, IsNamespace}

-- an answer of a comparison is one of three
cases_Ordering : (o : Ordering) → (o ≡ Less) ⊎ ((o ≡ Equal) ⊎ (o ≡ Greater))
cases_Ordering Less = inl refl
cases_Ordering Equal = inr (inl refl)
cases_Ordering Greater = inr (inr refl)

-- a byte string is equal to itself
reflexive : (a : List ℕ) → slice_cmp nat_cmp a a ≡ Equal
reflexive [] = refl
reflexive (c ∷ a) = grind (arith, reflexive a)

-- a namespace isn't above itself
pub at_most_refl : (a : Namespace) → is_at_most a a ≡ true
at_most_refl a = ap is_le (reflexive a.0)

-- the order is transitive
pub at_most_trans : (a b c : Namespace) → is_at_most a b ≡ true → is_at_most b c ≡ true → is_at_most a c ≡ true
at_most_trans a b c h k = elim (cases_Ordering (slice_cmp nat_cmp a.0 b.0)) [
  | inl x ↦ elim (cases_Ordering (slice_cmp nat_cmp b.0 c.0)) [
    | inl y ↦ ap is_le (nat_list_cmp_total.trans a.0 b.0 c.0 x y)
    | inr y ↦ elim y [
      | inl e ↦ ap is_le (ap (λ (z : List ℕ). slice_cmp nat_cmp a.0 z) (sym (exact_bytes b.0 c.0 e)) ∙ x)
      | inr g ↦ absurd (true≢false (sym k ∙ ap is_le g))
    ]
  ]
  | inr x ↦ elim x [
    | inl e ↦ ap (λ (z : List ℕ). is_le (slice_cmp nat_cmp z c.0)) (exact_bytes a.0 b.0 e) ∙ k
    | inr g ↦ absurd (true≢false (sym h ∙ ap is_le g))
  ]
]

-- two namespaces of which none is above the other are one
pub at_most_antisym : (a b : Namespace) → is_at_most a b ≡ true → is_at_most b a ≡ true → a ≡ b
at_most_antisym a b h k = elim (cases_Ordering (slice_cmp nat_cmp a.0 b.0)) [
  | inl x ↦ absurd (true≢false (sym k ∙ ap is_le (nat_list_cmp_total.antisymm b.0 a.0 ∙ ap ordering_reverse x)))
  | inr x ↦ elim x [
    | inl e ↦ ap (λ (l : List ℕ). record { 0 = l }) (exact_bytes a.0 b.0 e)
    | inr g ↦ absurd (true≢false (sym h ∙ ap is_le g))
  ]
]

-- of two namespaces one isn't above the other
pub at_most_total : (a b : Namespace) → (is_at_most a b ≡ true) ⊎ (is_at_most b a ≡ true)
at_most_total a b = elim (cases_Ordering (slice_cmp nat_cmp a.0 b.0)) [
  | inl x ↦ inl (ap is_le x)
  | inr x ↦ elim x [
    | inl e ↦ inl (ap is_le e)
    | inr g ↦ inr (ap is_le (nat_list_cmp_total.antisymm b.0 a.0 ∙ ap ordering_reverse g))
  ]
]

-- a byte is below 255 or is 255
byte_below : (c : ℕ) → c < 256 → (nat_cmp c 255 ≡ Less) ⊎ (c ≡ 255)
byte_below c h = elim (cases_order c 255) [
  | inl e ↦ inr e
  | inr x ↦ elim x [ inl lt ↦ inl (grind (arith, lt)) | inr gt ↦ absurd (omega (arith, h, gt)) ]
]

-- no string of n bytes is above n bytes 0xFF
full_is_greatest : (n : ℕ) (a : List ℕ) → length a ≡ n → AreBytes a → is_le (slice_cmp nat_cmp a (replicate n 255)) ≡ true
full_is_greatest zero [] h k = refl
full_is_greatest zero (c ∷ a) h k = absurd (omega (arith, h))
full_is_greatest (suc n) [] h k = absurd (omega (arith, h))
full_is_greatest (suc n) (c ∷ a) h k =
    let rest : is_le (slice_cmp nat_cmp a (replicate n 255)) ≡ true = full_is_greatest n a (omega (arith, h)) (λ i. k (suc i)) in
    elim (byte_below c (k 0)) [
      | inl x ↦ ap (λ (o : Ordering). is_le (ordering_then o (slice_cmp nat_cmp a (replicate n 255)))) x
      | inr x ↦ subst (λ (z : ℕ). is_le (slice_cmp nat_cmp (z ∷ a) (replicate (suc n) 255)) ≡ true) (sym x) rest
    ]

-- no namespace is above that of parity shares
pub at_most_parity : (a : Namespace) → IsNamespace a → is_at_most a parity ≡ true
at_most_parity a h = full_is_greatest 29 a.0 h.size_is h.fits
