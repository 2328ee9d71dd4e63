-- What one more event changes.
use Rattle.std.proofs.Common.{◌≡◌, ◌∙◌, List, [], ◌∷◌, ◌++◌, append_assoc, Option, Some, None, refl, sym, subst, ap, inl, inr}
use Rattle.std.specs.Prelude.{◌⊎◌}
use Rattle.std.proofs.lemmas.List.Elements.{Contains-append_left, Contains-push, Contains-push_cases}
use Rattle.namespace_id.specs.declared.cells.Cell.{Cell}
use Rattle.data_header.specs.Headers.{Roots}
use Rattle.axis_roots.specs.declared.message.messages.Message.{Message}
use Rattle.axis_roots.specs.Openings.{IsProved}
use Rattle.axis_roots.specs.Claims.{ClaimParts, Accepts}
use Rattle.light_node.specs.declared.events.Event.{Event}
use Rattle.light_node.specs.declared.events.Event.TheVariants.{Sample, Claim}
use Rattle.light_node.specs.Events.{IsShownCell, NoneAccepted, IsFirstAccepted}

-- two samples that are one event are one
same_sample : (m n : Message) → Sample m ≡ Sample n → m ≡ n
same_sample m n e = cc

-- and so are two claims
pub same_claim : (c d : ClaimParts) → Claim c ≡ Claim d → c ≡ d
same_claim c d e = cc

-- a sample is no claim
apart : (m : Message) (c : ClaimParts) → Sample m ≡ Claim c → ⊥
apart m c e = cc

module _ (header : Roots) (events : List Event) where
  -- what was shown stays so
  pub stays_shown : (event : Event) (cell : Cell) → IsShownCell header events cell
      → IsShownCell header (events ++ event ∷ []) cell
  stays_shown event cell (m, at, proved, is) =
      (m, Contains-append_left events (event ∷ []) (Sample m) at, proved, is)

  -- a claim shows nothing
  pub claim_shows : (claim : ClaimParts) (cell : Cell) → IsShownCell header (events ++ Claim claim ∷ []) cell
      → IsShownCell header events cell
  claim_shows claim cell (m, at, proved, is) = elim (Contains-push_cases events (Claim claim) (Sample m) at) [
    | inl before ↦ (m, before, proved, is)
    | inr e ↦ absurd (apart m claim (sym e))
  ]

  -- a sample shows no other cell than its own, and that only where it is proved
  pub sample_shows : (m : Message) (cell : Cell) → IsShownCell header (events ++ Sample m ∷ []) cell
      → IsShownCell header events cell ⊎ (IsProved header m × (m.cell ≡ cell))
  sample_shows m cell (n, at, proved, is) = elim (Contains-push_cases events (Sample m) (Sample n) at) [
    | inl before ↦ inl (n, before, proved, is)
    | inr e ↦
        let same : m ≡ n = same_sample m n e in
        inr (subst (IsProved header) (sym same) proved, ap (λ (x : Message). x.cell) same ∙ is)
  ]

  -- and then it does
  pub shows_cell : (m : Message) (cell : Cell) → IsProved header m → m.cell ≡ cell
      → IsShownCell header (events ++ Sample m ∷ []) cell
  shows_cell m cell proved is = (m, Contains-push events (Sample m), proved, is)

  -- the first accepted claim stays the first
  pub first_kept : (event : Event) (claim : ClaimParts) → IsFirstAccepted header events (Some claim)
      → IsFirstAccepted header (events ++ event ∷ []) (Some claim)
  first_kept event claim (accepts, before, after, is, none) = (
    accepts,
    before,
    after ++ event ∷ [],
    ap (λ (l : List Event). l ++ event ∷ []) is ∙ append_assoc before (Claim claim ∷ after) (event ∷ []),
    none,
  )

  -- a sample is no accepted claim
  pub first_by_sample : (m : Message) (kept : Option ClaimParts) → IsFirstAccepted header events kept
      → IsFirstAccepted header (events ++ Sample m ∷ []) kept
  first_by_sample m None none = λ claim at accepts. elim (Contains-push_cases events (Sample m) (Claim claim) at) [
    | inl before ↦ none claim before accepts
    | inr e ↦ apart m claim e
  ]
  first_by_sample m (Some claim) first = first_kept (Sample m) claim first

  -- the first claim that is accepted
  pub first_by_claim : (claim : ClaimParts) → NoneAccepted header events → Accepts header claim
      → IsFirstAccepted header (events ++ Claim claim ∷ []) (Some claim)
  first_by_claim claim none accepts = (accepts, events, [], refl, none)

  -- one that isn't
  pub none_by_claim : (claim : ClaimParts) → NoneAccepted header events → (Accepts header claim → ⊥)
      → NoneAccepted header (events ++ Claim claim ∷ [])
  none_by_claim claim none refused = λ other at accepts. elim (Contains-push_cases events (Claim claim) (Claim other)
      at) [
        | inl before ↦ none other before accepts
        | inr e ↦ refused (subst (Accepts header) (sym (same_claim claim other e)) accepts)
      ]
