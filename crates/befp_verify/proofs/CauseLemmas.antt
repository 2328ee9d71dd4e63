-- No two answers to a claim have their cause at once.
use Rattle.std.proofs.Common.{◌≡◌, ◌≢◌, ◌∙◌, ℕ, List, true, Option, Some, None, refl, sym, ap}
use Rattle.std.specs.Prelude.{IfSome}
use Rattle.std.specs.List.{AllByRecursion}
use Rattle.std.specs.Option.{option_map_or}
use Rattle.std.proofs.lemmas.Option.{none-some}
use Rattle.std.proofs.lemmas.Bool.{true≢false, and_parts, and_from}
use Rattle.namespace_id.specs.declared.digests.Digest.{Digest}
use Rattle.namespace_id.specs.Digests.{AreDigests}
use Rattle.namespace_id.specs.Cells.{is_width}
use Rattle.nmt_proofs.specs.declared.opening.OpenRefusal.{OpenRefusal}
use Rattle.nmt_proofs.proofs.Parts.CauseLemmas.{opens_where, not_refused_where}
use Rattle.data_header.specs.Headers.{Roots}
use Rattle.axis_roots.specs.declared.message.messages.CheckRefusal.{CheckRefusal}
use Rattle.axis_roots.specs.Messages.{IsMessage}
use Rattle.axis_roots.specs.Sets.{OpensSet}
use Rattle.axis_roots.specs.Claims.{ClaimParts, IsClaim, has_shape, has_set_shape, claimed_root, FitsRoot, AreProved, Accepts}
use Rattle.befp_verify.specs.declared.verifying.FraudRefusal.{FraudRefusal}
use Rattle.befp_verify.specs.declared.verifying.FraudRefusal.TheVariants.{Shape, Cell, Set, AxisMatches}
use Rattle.befp_verify.specs.Lines.{IsRootThrough}
use Rattle.befp_verify.specs.Refusals.{is_shaped, first_unproved, nodes_refusal, unopened, HasFraudCause}

-- ---- the set

-- a set that isn't refused opens
set_opens : (header : Roots) (claim : ClaimParts) (set : Option (List Digest)) → is_width header.k ≡ true → AllByRecursion IsMessage claim.cells → IfSome set AreDigests
    → nodes_refusal header claim set ≡ None → IfSome set (λ nodes. OpensSet header.k claim.axis claim.cells nodes (claimed_root header claim))
set_opens header claim None width messages digests e = tt
set_opens header claim (Some nodes) width messages digests e = record {
  width = width;
  messages = messages;
  digests = digests;
  opens = opens_where _ _ nodes (claimed_root header claim) e;
}

-- and the other way round
set_passes : (header : Roots) (claim : ClaimParts) (set : Option (List Digest)) → IfSome set (λ nodes. OpensSet header.k claim.axis claim.cells nodes (claimed_root header claim))
    → nodes_refusal header claim set ≡ None
set_passes header claim None h = refl
set_passes header claim (Some nodes) h = not_refused_where _ _ nodes (claimed_root header claim) h.opens

-- ---- answers

-- a claim of proved cells and a set that opens, by whose codeword the axis has another root
pub accepted : (header : Roots) (claim : ClaimParts) (root : Option Digest) → is_width header.k ≡ true → IsClaim claim → is_shaped header.k claim ≡ true
    → AreProved header claim claim.cells → unopened header claim ≡ None → IsRootThrough header.k claim root → root ≢ Some (claimed_root header claim)
    → Accepts header claim
accepted header claim root width is shape proved opened line other =
    let both = and_parts (has_shape header.k claim) (has_set_shape header.k claim) shape in
    record {
      set_shape = both.1;
      proved = proved;
      set = set_opens header claim claim.set width is.messages is.digests opened;
      bad = record { shape = both.0; word = line.word; through = line.through; other = λ e. other (sym line.value ∙ e) };
    }

-- an accepted claim has no cause of a refusal
not_refused : (header : Roots) (claim : ClaimParts)
    → (AreProved header claim claim.cells → first_unproved header claim ≡ None)
    → (Accepts header claim → FitsRoot header.k claim (claimed_root header claim) → ⊥)
    → (why : FraudRefusal) → Accepts header claim → HasFraudCause header claim (Some why) → ⊥
not_refused header claim none apart Shape accepts shape =
    true≢false (sym (and_from (has_shape header.k claim) (has_set_shape header.k claim) accepts.bad.shape accepts.set_shape) ∙ shape)
not_refused header claim none apart (Cell i why) accepts cell = none-some _ (sym (none accepts.proved) ∙ cell.1)
not_refused header claim none apart (Set why) accepts cause = none-some _ (sym (set_passes header claim claim.set accepts.set) ∙ cause.2)
not_refused header claim none apart AxisMatches accepts fits = apart accepts fits.3

-- a number and a reason decide a refusal of a cell
same_cell : (i j : ℕ) (why other : CheckRefusal) → ◌≡◌ {A = Option (ℕ × CheckRefusal)} (Some (i, why)) (Some (j, other)) → Cell i why ≡ Cell j other
same_cell i j why other e = ap (λ (o : Option (ℕ × CheckRefusal)). option_map_or (λ p. Cell p.0 p.1) o Shape) e

-- a reason decides a refusal of a set
same_set : (why other : OpenRefusal) → ◌≡◌ {A = Option OpenRefusal} (Some why) (Some other) → Set why ≡ Set other
same_set why other e = ap (λ (o : Option OpenRefusal). option_map_or (λ p. Set p) o Shape) e

-- two causes of refusals are one
one_refusal : (header : Roots) (claim : ClaimParts) (a b : FraudRefusal) → HasFraudCause header claim (Some a) → HasFraudCause header claim (Some b) → a ≡ b
one_refusal header claim Shape Shape x y = refl
one_refusal header claim Shape (Cell i why) x y = absurd (true≢false (sym y.0 ∙ x))
one_refusal header claim Shape (Set why) x y = absurd (true≢false (sym y.0 ∙ x))
one_refusal header claim Shape AxisMatches x y = absurd (true≢false (sym y.0 ∙ x))
one_refusal header claim (Cell i why) Shape x y = absurd (true≢false (sym x.0 ∙ y))
one_refusal header claim (Cell i why) (Cell j other) x y =
    same_cell i j why other (sym x.1 ∙ y.1)
one_refusal header claim (Cell i why) (Set other) x y = absurd (none-some _ (sym y.1 ∙ x.1))
one_refusal header claim (Cell i why) AxisMatches x y = absurd (none-some _ (sym y.1 ∙ x.1))
one_refusal header claim (Set why) Shape x y = absurd (true≢false (sym x.0 ∙ y))
one_refusal header claim (Set why) (Cell i other) x y = absurd (none-some _ (sym x.1 ∙ y.1))
one_refusal header claim (Set why) (Set other) x y = same_set why other (sym x.2 ∙ y.2)
one_refusal header claim (Set why) AxisMatches x y = absurd (none-some _ (sym y.2 ∙ x.2))
one_refusal header claim AxisMatches Shape x y = absurd (true≢false (sym x.0 ∙ y))
one_refusal header claim AxisMatches (Cell i why) x y = absurd (none-some _ (sym x.1 ∙ y.1))
one_refusal header claim AxisMatches (Set why) x y = absurd (none-some _ (sym x.2 ∙ y.2))
one_refusal header claim AxisMatches AxisMatches x y = refl

-- two answers that have their cause are one
pub one_cause : (header : Roots) (claim : ClaimParts)
    → (AreProved header claim claim.cells → first_unproved header claim ≡ None)
    → (Accepts header claim → FitsRoot header.k claim (claimed_root header claim) → ⊥)
    → (a b : Option FraudRefusal) → HasFraudCause header claim a → HasFraudCause header claim b → a ≡ b
one_cause header claim none apart None None x y = refl
one_cause header claim none apart None (Some b) x y = absurd (not_refused header claim none apart b x y)
one_cause header claim none apart (Some a) None x y = absurd (not_refused header claim none apart a y x)
one_cause header claim none apart (Some a) (Some b) x y = ap Some (one_refusal header claim a b x y)
