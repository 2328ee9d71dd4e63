-- Walking over bytes: a value at the front, none at the front, and no bytes left.
use Rattle.std.proofs.Common.{◌≡◌, ◌∙◌, ℕ, zero, suc, ◌+◌, ◌-◌, ◌<◌, ◌≤◌, List, [], ◌∷◌, length, length-drop, take, drop, Option, Some, None, refl, sym, ap, ap₂, arith}
use Rattle.std.specs.Option.{option_map_or}
use Rattle.std.proofs.lemmas.List.{drop-drop, take_rest}
use Rattle.namespace_id.proofs.StringLemmas.{drop_one}
use Rattle.da_wire.specs.Walks.{walk_from, stop_from}

-- the bytes of a value before are passed over
walk_skip : {A : Type 0} (one : List ℕ → Option (A × ℕ)) (n : ℕ) (bytes : List ℕ) → walk_from one n bytes ≡ walk_from one 0 (drop n bytes)
unfolding walk_from
walk_skip one zero bytes = refl
walk_skip one (suc n) [] = refl
walk_skip one (suc n) (b ∷ bytes) = walk_skip one n bytes

-- a search for the first bad place passes over the bytes of a value before
stop_skip : {A : Type 0} (one : List ℕ → Option (A × ℕ)) (n at : ℕ) (bytes : List ℕ) → stop_from one n at bytes ≡ stop_from one 0 (at + n) (drop n bytes)
unfolding stop_from
stop_skip one zero at bytes = let e : at ≡ at + 0 = omega arith in ap (λ (k : ℕ). stop_from one 0 k bytes) e
stop_skip one (suc n) at [] = refl
stop_skip one (suc n) at (b ∷ bytes) =
    let e : suc at + n ≡ at + suc n = omega arith in
    stop_skip one n (suc at) bytes ∙ ap (λ (k : ℕ). stop_from one 0 k (drop n bytes)) e

-- what stands at the front decides where the first bad place is
stop_front : {A : Type 0} (one : List ℕ → Option (A × ℕ)) (at : ℕ) (bytes : List ℕ) (o : Option (A × ℕ)) → 0 < length bytes → one bytes ≡ o
    → stop_from one 0 at bytes ≡ option_map_or (λ x. stop_from one (x.1 - 1) (suc at) (drop 1 bytes)) o (Some at)
unfolding stop_from
stop_front one at [] o h e = absurd (omega arith)
stop_front {A} one at (b ∷ bytes) o h e = ap (λ (r : Option (A × ℕ)). option_map_or (λ x. stop_from one (x.1 - 1) (suc at) bytes) r (Some at)) e

-- what stands at the front decides what a walk finds first
walk_front : {A : Type 0} (one : List ℕ → Option (A × ℕ)) (bytes : List ℕ) (o : Option (A × ℕ)) → 0 < length bytes → one bytes ≡ o
    → walk_from one 0 bytes ≡ option_map_or (λ x. x.0 ∷ walk_from one (x.1 - 1) (drop 1 bytes)) o []
unfolding walk_from
walk_front one [] o h e = absurd (omega arith)
walk_front {A} one (b ∷ bytes) o h e = ap (λ (r : Option (A × ℕ)). option_map_or (λ x. x.0 ∷ walk_from one (x.1 - 1) bytes) r []) e

-- a value stands here: the walk goes on behind it
pub stop_on : {A : Type 0} (one : List ℕ → Option (A × ℕ)) (at : ℕ) (bytes : List ℕ) (x : A) (n : ℕ) → one bytes ≡ Some (x, n) → 0 < n → 0 < length bytes
    → stop_from one 0 at bytes ≡ stop_from one 0 (at + n) (drop n bytes)
stop_on one at bytes x n e some h =
    let next : suc at + (n - 1) ≡ at + n = omega arith in
    stop_front one at bytes (Some (x, n)) h e
    ∙ stop_skip one (n - 1) (suc at) (drop 1 bytes)
    ∙ ap₂ (λ (k : ℕ) (l : List ℕ). stop_from one 0 k l) next (drop_one n bytes some h)

-- a walk finds the value at the front, and goes on behind it
pub walk_on : {A : Type 0} (one : List ℕ → Option (A × ℕ)) (bytes : List ℕ) (x : A) (n : ℕ) → one bytes ≡ Some (x, n) → 0 < n → 0 < length bytes
    → walk_from one 0 bytes ≡ x ∷ walk_from one 0 (drop n bytes)
walk_on {A} one bytes x n e some h =
    walk_front one bytes (Some (x, n)) h e
    ∙ ap (λ (l : List A). x ∷ l) (walk_skip one (n - 1) (drop 1 bytes) ∙ ap (walk_from one 0) (drop_one n bytes some h))

-- none stands here
pub stop_here : {A : Type 0} (one : List ℕ → Option (A × ℕ)) (at : ℕ) (bytes : List ℕ) → one bytes ≡ None → 0 < length bytes → stop_from one 0 at bytes ≡ Some at
stop_here one at bytes e h = stop_front one at bytes None h e

-- a walk finds nothing where no value stands at the front
pub walk_stop : {A : Type 0} (one : List ℕ → Option (A × ℕ)) (bytes : List ℕ) → one bytes ≡ None → walk_from one 0 bytes ≡ []
unfolding walk_from
walk_stop one [] e = refl
walk_stop one (b ∷ bytes) e = walk_front one (b ∷ bytes) None (omega arith) e

-- no byte is left
pub stop_end : {A : Type 0} (one : List ℕ → Option (A × ℕ)) (at : ℕ) (bytes : List ℕ) → length bytes ≤ 0 → stop_from one 0 at bytes ≡ None
unfolding stop_from
stop_end one at [] h = refl
stop_end one at (b ∷ bytes) h = absurd (omega arith)

-- ---- a search that has come to a place

-- the bytes from a place on decide where the first bad place is
pub record IsAt (A : Type 0) (one : List ℕ → Option (A × ℕ)) (bytes : List ℕ) (at : ℕ) (bad : Option ℕ) : Type 0 where
  pub within : at ≤ length bytes
  pub rest : stop_from one 0 at (drop at bytes) ≡ bad

module _ {A : Type 0} (one : List ℕ → Option (A × ℕ)) (bytes : List ℕ) (at : ℕ) (bad : Option ℕ) (is : IsAt A one bytes at bad) where
  -- a value stands here: the search goes on behind it
  pub at_on : (x : A) (size : ℕ) → at < length bytes → one (take (length bytes - at) (drop at bytes)) ≡ Some (x, size) → 0 < size
      → size ≤ length (take (length bytes - at) (drop at bytes)) → IsAt A one bytes (at + size) bad
  at_on x size more found some few =
      let part : take (length bytes - at) (drop at bytes) ≡ drop at bytes = take_rest bytes at in
      record {
        within = omega (arith, few, ap length part, length-drop at bytes, more);
        rest = ap (λ (l : List ℕ). stop_from one 0 (at + size) l) (sym (drop-drop size at bytes))
            ∙ sym (stop_on one at (drop at bytes) x size (ap one (sym part) ∙ found) some (omega (arith, more, length-drop at bytes))) ∙ is.rest;
      }

  -- none stands here
  pub at_stop : at < length bytes → one (take (length bytes - at) (drop at bytes)) ≡ None → Some at ≡ bad
  at_stop more missed =
      sym (stop_here one at (drop at bytes) (ap one (sym (take_rest bytes at)) ∙ missed) (omega (arith, more, length-drop at bytes))) ∙ is.rest

  -- no byte is left
  pub at_end : length bytes ≤ at → None ≡ bad
  at_end end = sym (stop_end one at (drop at bytes) (omega (arith, end, length-drop at bytes))) ∙ is.rest
