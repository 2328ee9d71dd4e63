-- The first share whose reserved bytes don't state where its first unit starts.
use Rattle.std.proofs.Common.{◌≡◌, ◌≢◌, ◌∙◌, inl, inr, ℕ, zero, suc, ◌+◌, Bool, cond, eqb, eqb-true, eq-eqb, List, [], ◌∷◌, ◌++◌, length, Option, Some, None, Ok, Err, true≢false, refl, sym, ap, arith}
use Rattle.std.specs.List.{slice_get}
use Rattle.std.specs.Option.{option_map_or}
use Rattle.std.proofs.lemmas.Bool.{cases_Bool}
use Rattle.std.proofs.lemmas.Option.{none-some}
use Rattle.namespace_id.specs.declared.shares.Share.{Share}
use Rattle.share_split.specs.declared.joining.JoinError.TheVariants.{BadReserved}
use Rattle.share_split.specs.Units.{starts_from, reserved_of}
use Rattle.share_split.specs.Walks.{reserved_in, bad_reserved}
use Rattle.share_split.specs.JoinRefusals.{IsFirstMisstated}
use Rattle.share_split.proofs.Reading.Reserved.{bad_reserved-cons, bad_reserved-nil}

-- the first one, where shares are counted from some number on
record FoundFrom (n : ℕ) (starts : List ℕ) (shares : List Share) (i : ℕ) : Type 0 where
  pub before : List Share
  pub share : Share
  pub after : List Share
  pub parts : shares ≡ before ++ share ∷ after
  pub number : i ≡ n + length before
  pub stated : (j : ℕ) (one : Share) → slice_get before j ≡ Some one → reserved_in one ≡ reserved_of (n + j) starts
  pub misstated : reserved_in share ≢ reserved_of i starts

-- one share more states what it should
stated_more : (n : ℕ) (starts : List ℕ) (share : Share) (before : List Share) → reserved_in share ≡ reserved_of n starts
    → ((j : ℕ) (one : Share) → slice_get before j ≡ Some one → reserved_in one ≡ reserved_of (suc n + j) starts)
    → (j : ℕ) (one : Share) → slice_get (share ∷ before) j ≡ Some one → reserved_in one ≡ reserved_of (n + j) starts
stated_more n starts share before states stated zero one is =
    let same : share ≡ one = cc in
    let here : n ≡ n + 0 = omega arith in
    sym (ap reserved_in same) ∙ states ∙ ap (λ (k : ℕ). reserved_of k starts) here
stated_more n starts share before states stated (suc j) one is =
    let up : suc n + j ≡ n + suc j = omega arith in
    stated j one is ∙ ap (λ (k : ℕ). reserved_of k starts) up

-- it is found share by share
found_from : (n : ℕ) (starts : List ℕ) (shares : List Share) (i : ℕ) → bad_reserved n starts shares ≡ Some i → FoundFrom n starts shares i
found_from n starts [] i e = absurd (none-some i (sym (bad_reserved-nil n starts) ∙ e))
found_from n starts (share ∷ shares) i e =
    let on : cond (eqb (reserved_in share) (reserved_of n starts)) (bad_reserved (suc n) starts shares) (Some n) ≡ Some i =
    sym (bad_reserved-cons n starts share shares) ∙ e in
    elim (cases_Bool (eqb (reserved_in share) (reserved_of n starts))) [
      | inl t ↦
          let rest = found_from (suc n) starts shares i (sym (ap (λ (b : Bool). cond b (bad_reserved (suc n) starts shares) (Some n)) t) ∙ on) in
          record {
            before = share ∷ rest.before;
            share = rest.share;
            after = rest.after;
            parts = ap (λ (l : List Share). share ∷ l) rest.parts;
            number = omega (arith, rest.number);
            stated = stated_more n starts share rest.before (eqb-true _ _ t) rest.stated;
            misstated = rest.misstated;
          }
      | inr f ↦
          let one : Some n ≡ Some i = sym (ap (λ (b : Bool). cond b (bad_reserved (suc n) starts shares) (Some n)) f) ∙ on in
          let same : n ≡ i = cc in
          record {
            before = [];
            share = share;
            after = shares;
            parts = refl;
            number = omega (arith, same);
            stated = λ j one is. absurd (none-some one is);
            misstated = λ e. true≢false (sym (eq-eqb _ _ (e ∙ ap (λ (k : ℕ). reserved_of k starts) (sym same))) ∙ f);
          }
    ]

-- the one that a refusal names
pub first_misstated : (units : List (List ℕ)) (shares : List Share) (i : ℕ)
    → option_map_or (λ j. Err (BadReserved j)) (bad_reserved 0 (starts_from 0 units) shares) (Ok units) ≡ Err (BadReserved i)
    → IsFirstMisstated units shares i
first_misstated units shares i e =
    let found = found_from 0 (starts_from 0 units) shares i (named (bad_reserved 0 (starts_from 0 units) shares) e) in
    record {
      before = found.before;
      share = found.share;
      after = found.after;
      parts = found.parts;
      number = omega (arith, found.number);
      stated = λ j one is. (let same : 0 + j ≡ j = omega arith in found.stated j one is ∙ ap (λ (k : ℕ). reserved_of k (starts_from 0 units)) same);
      misstated = found.misstated;
    }
  where
    named : (o : Option ℕ) → option_map_or (λ j. Err (BadReserved j)) o (Ok units) ≡ Err (BadReserved i) → o ≡ Some i
    named None e = absurd cc
    named (Some j) e = let same : j ≡ i = cc in ap Some same
