-- Two readings of a message are one, and so are two lengths.
use Rattle.std.proofs.Common.{◌≡◌, ◌∙◌, ◌↔◌, ℕ, Option, Some, None, Result, Ok, Err, IfOk, IfSome, IsSome, IsErrOf, inl, inr, refl, sym, ap}
use Rattle.std.proofs.lemmas.Bool.{false≢true}
use Rattle.celestia_pb.specs.declared.errors.PbError.{PbError}
use Rattle.celestia_pb.specs.declared.errors.PbError.TheVariants.{At, NoMemory}
use Rattle.one_answer.specs.Ones.{AreOne}

module _ {A : Type 0} (value : Result A ℕ) where
  -- what is read as one value, or refused exactly at the offset of the refusal
  pub one_message : (r s : Result A PbError) → IfOk r (λ x. value ≡ Ok x) → IfOk s (λ x. value ≡ Ok x)
      → ((at : ℕ) → IsErrOf r (At at) ↔ (value ≡ Err at)) → ((at : ℕ) → IsErrOf s (At at) ↔ (value ≡ Err at)) → AreOne (λ x. x) NoMemory r s
  one_message (Ok a) (Ok b) r_is s_is R S = let same : ◌≡◌ {A = Result A ℕ} (Ok a) (Ok b) = sym r_is ∙ s_is in cc
  one_message (Ok a) (Err (At at)) r_is s_is R S =
      let both : ◌≡◌ {A = Result A ℕ} (Ok a) (Err at) = sym r_is ∙ (S at).0 refl in absurd cc
  one_message (Ok a) (Err NoMemory) r_is s_is R S = refl
  one_message (Err (At at)) (Ok b) r_is s_is R S =
      let both : ◌≡◌ {A = Result A ℕ} (Ok b) (Err at) = sym s_is ∙ (R at).0 refl in absurd cc
  one_message (Err NoMemory) (Ok b) r_is s_is R S = refl
  one_message (Err (At at)) (Err (At here)) r_is s_is R S =
      let both : ◌≡◌ {A = Result A ℕ} (Err at) (Err here) = sym ((R at).0 refl) ∙ (S here).0 refl in
      let same : at ≡ here = cc in inl (ap At same)
  one_message (Err (At at)) (Err NoMemory) r_is s_is R S = inr (inr refl)
  one_message (Err NoMemory) (Err e) r_is s_is R S = inr (inl refl)

  -- the same where no memory is taken
  pub one_reading : (found : Result A ℕ) → value ≡ found → (r s : Result A PbError)
      → ((x : A) → (r ≡ Ok x) ↔ (value ≡ Ok x)) → ((x : A) → (s ≡ Ok x) ↔ (value ≡ Ok x))
      → ((at : ℕ) → IsErrOf r (At at) ↔ (value ≡ Err at)) → ((at : ℕ) → IsErrOf s (At at) ↔ (value ≡ Err at)) → r ≡ s
  one_reading (Ok x) is r s R S left right = (R x).1 is ∙ sym ((S x).1 is)
  one_reading (Err at) is r s R S left right = (left at).1 is ∙ sym ((right at).1 is)

-- what has one length exactly where there is one
pub one_length : {P : Type 0} (n : ℕ) (r s : Option ℕ) → (IsSome r ↔ P) → (IsSome s ↔ P) → IfSome r (λ size. size ≡ n) → IfSome s (λ size. size ≡ n) → r ≡ s
one_length n None None R S r_is s_is = refl
one_length n None (Some b) R S r_is s_is = absurd (false≢true (R.1 (S.0 refl)))
one_length n (Some a) None R S r_is s_is = absurd (false≢true (S.1 (R.0 refl)))
one_length n (Some a) (Some b) R S r_is s_is = ap (λ (size : ℕ). Some size) (r_is ∙ sym s_is)
