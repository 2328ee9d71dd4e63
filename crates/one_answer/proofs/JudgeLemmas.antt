-- The judgement of a fraud claim is one.
use Rattle.std.proofs.Common.{◌≡◌, ◌∙◌, ◌↔◌, Option, Some, None, refl, sym, ap}
use Rattle.std.proofs.lemmas.Bool.{false≢true}
use Rattle.std.proofs.lemmas.Option.{none-some, some_pair_parts}
use Rattle.data_header.specs.Headers.{Roots}
use Rattle.nmt_proofs.specs.declared.opening.OpenRefusal.{OpenRefusal}
use Rattle.axis_roots.specs.Claims.{ClaimParts, Accepts}
use Rattle.befp_verify.specs.declared.verifying.FraudRefusal.{FraudRefusal}
use Rattle.befp_verify.specs.declared.verifying.FraudRefusal.TheVariants.{Shape, Cell, Set, AxisMatches}
use Rattle.befp_verify.specs.Refusals.{HasFraudCause}

-- two causes of one refusal are one
one_refusal : (header : Roots) (claim : ClaimParts) (d e : FraudRefusal) → HasFraudCause header claim (Some d) → HasFraudCause header claim (Some e) → d ≡ e
one_refusal header claim Shape Shape p q = refl
one_refusal header claim Shape (Cell j y) p q = absurd (false≢true (sym p ∙ q.0))
one_refusal header claim Shape (Set y) p q = absurd (false≢true (sym p ∙ q.0))
one_refusal header claim Shape AxisMatches p q = absurd (false≢true (sym p ∙ q.0))
one_refusal header claim (Cell i x) Shape p q = absurd (false≢true (sym q ∙ p.0))
one_refusal header claim (Cell i x) (Cell j y) p q =
    let parts = some_pair_parts i j x y (sym p.1 ∙ q.1) in λ k. Cell (parts.0 k) (parts.1 k)
one_refusal header claim (Cell i x) (Set y) p q = absurd (none-some (i, x) (sym q.1 ∙ p.1))
one_refusal header claim (Cell i x) AxisMatches p q = absurd (none-some (i, x) (sym q.1 ∙ p.1))
one_refusal header claim (Set x) Shape p q = absurd (false≢true (sym q ∙ p.0))
one_refusal header claim (Set x) (Cell j y) p q = absurd (none-some (j, y) (sym p.1 ∙ q.1))
one_refusal header claim (Set x) (Set y) p q =
    let both : ◌≡◌ {A = Option OpenRefusal} (Some x) (Some y) = sym p.2 ∙ q.2 in cc
one_refusal header claim (Set x) AxisMatches p q = absurd (none-some x (sym q.2 ∙ p.2))
one_refusal header claim AxisMatches Shape p q = absurd (false≢true (sym q ∙ p.0))
one_refusal header claim AxisMatches (Cell j y) p q = absurd (none-some (j, y) (sym p.1 ∙ q.1))
one_refusal header claim AxisMatches (Set y) p q = absurd (none-some y (sym p.2 ∙ q.2))
one_refusal header claim AxisMatches AxisMatches p q = refl

-- what refuses a claim exactly where it isn't accepted, and for a cause that is there
pub one_judgement : (header : Roots) (claim : ClaimParts) (r s : Option FraudRefusal) → ((r ≡ None) ↔ Accepts header claim) → ((s ≡ None) ↔ Accepts header claim)
    → HasFraudCause header claim r → HasFraudCause header claim s → r ≡ s
one_judgement header claim None s R S p q = sym (S.1 (R.0 refl))
one_judgement header claim (Some d) None R S p q = R.1 (S.0 refl)
one_judgement header claim (Some d) (Some e) R S p q = ap (λ (why : FraudRefusal). Some why) (one_refusal header claim d e p q)
