-- Walking over bytes, and then over more bytes.
use Rattle.std.proofs.Common.{◌≡◌, ◌∙◌, ℕ, zero, suc, ◌+◌, ◌<◌, ◌≤◌, List, [], ◌∷◌, ◌++◌, length, length-append, length-drop, drop, Option, Some, None, refl, sym, ap, arith}
use Rattle.std.proofs.lemmas.List.{drop-append-le}
use Rattle.std.proofs.lemmas.Option.{none-some}
use Rattle.da_wire.specs.Walks.{walk_from, stop_from}
use Rattle.da_wire.proofs.WalkLemmas.{walk_on, walk_stop, stop_on, stop_here}

-- a reader that finds a value within bytes finds it whatever bytes follow
pub record IsSteady (A : Type 0) (one : List ℕ → Option (A × ℕ)) : Type 0 where
  pub again : (bytes more : List ℕ) (x : A) (n : ℕ) → one bytes ≡ Some (x, n) → one (bytes ++ more) ≡ Some (x, n)
  pub within : (bytes : List ℕ) (x : A) (n : ℕ) → one bytes ≡ Some (x, n) → (0 < n) × (n ≤ length bytes)

-- what a walk finds is found whatever bytes follow, and behind whole values it goes on
pub record IsGrown (A : Type 0) (one : List ℕ → Option (A × ℕ)) (at : ℕ) (bytes more : List ℕ) : Type 0 where
  pub later : List A
  pub found : walk_from one 0 (bytes ++ more) ≡ walk_from one 0 bytes ++ later
  pub whole : stop_from one 0 at bytes ≡ None → (later ≡ walk_from one 0 more) × (stop_from one 0 at (bytes ++ more) ≡ stop_from one 0 (at + length bytes) more)

module _ {A : Type 0} (one : List ℕ → Option (A × ℕ)) (steady : IsSteady A one) where
  -- what stands at the front decides
  grown_by : (at : ℕ) (bytes more : List ℕ) (o : Option (A × ℕ)) → 0 < length bytes → one bytes ≡ o → ((n : ℕ) → 0 < n → IsGrown A one (at + n) (drop n bytes) more)
      → IsGrown A one at bytes more
  grown_by at bytes more None some e later = record {
    later = walk_from one 0 (bytes ++ more);
    found = sym (ap (λ (l : List A). l ++ walk_from one 0 (bytes ++ more)) (walk_stop one bytes e));
    whole = λ stop. absurd (none-some at (sym stop ∙ stop_here one at bytes e some));
  }
  grown_by at bytes more (Some (x, n)) some e later =
      let w = steady.within bytes x n e in
      let rest : IsGrown A one (at + n) (drop n bytes) more = later n w.0 in
      let again = steady.again bytes more x n e in
      let longer : 0 < length (bytes ++ more) = omega (arith, some, length-append bytes more) in
      let behind : drop n (bytes ++ more) ≡ drop n bytes ++ more = drop-append-le n bytes more w.1 in
      record {
        later = rest.later;
        found = walk_on one (bytes ++ more) x n again w.0 longer ∙ ap (λ (l : List ℕ). x ∷ walk_from one 0 l) behind ∙ ap (λ (l : List A). x ∷ l) rest.found
            ∙ ap (λ (l : List A). l ++ rest.later) (sym (walk_on one bytes x n e w.0 some));
        whole = λ stop.
            let on = rest.whole (sym (stop_on one at bytes x n e w.0 some) ∙ stop) in
            let end : at + n + length (drop n bytes) ≡ at + length bytes = omega (arith, w.1, length-drop n bytes) in (
              on.0,
              stop_on one at (bytes ++ more) x n again w.0 longer ∙ ap (λ (l : List ℕ). stop_from one 0 (at + n) l) behind ∙ on.1
                  ∙ ap (λ (k : ℕ). stop_from one 0 k more) end,
            );
      }

  -- by recursion on a bound of the length
  grown_within : (most at : ℕ) (bytes more : List ℕ) → length bytes ≤ most → IsGrown A one at bytes more
  unfolding walk_from stop_from
  grown_within most at [] more h =
      let same : at ≡ at + 0 = omega arith in
      record { later = walk_from one 0 more; found = refl; whole = λ stop. (refl, ap (λ (k : ℕ). stop_from one 0 k more) same) }
  grown_within zero at (b ∷ bytes) more h = absurd (omega arith)
  grown_within (suc most) at (b ∷ bytes) more h =
      grown_by at (b ∷ bytes) more (one (b ∷ bytes)) (omega arith) refl
      (λ n some. grown_within most (at + n) (drop n (b ∷ bytes)) more (omega (arith, length-drop n (b ∷ bytes))))

  -- a walk over more bytes
  pub grown : (at : ℕ) (bytes more : List ℕ) → IsGrown A one at bytes more
  grown at bytes more = grown_within (length bytes) at bytes more (omega arith)
