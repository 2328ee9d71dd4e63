-- Verdicts of a node, and the texts that tell them.
use Rattle.std.proofs.Common.{◌≡◌, ◌∙◌, ℕ, ◌<◌, List, [], ◌∷◌, ◌++◌, length, get_or, Some, sym, ap, ap₂, subst, arith}
use Rattle.std.specs.List.{Contains}
use Rattle.std.proofs.lemmas.List.{same_lists}
use Rattle.std.proofs.lemmas.List.Elements.{Contains-append_right}
use Rattle.std.proofs.lemmas.Option.{same_Some, slice_get-get_or, get_or_from_slice_get}
use Rattle.namespace_id.specs.declared.cells.Cell.{Cell}
use Rattle.namespace_id.specs.Cells.{CellList}
use Rattle.namespace_id.proofs.MemberLemmas.{contains_head, contains_none}
use Rattle.data_header.specs.Headers.{Roots}
use Rattle.axis_roots.specs.Claims.{ClaimParts}
use Rattle.light_node.specs.declared.events.Event.{Event}
use Rattle.light_node.specs.declared.events.Event.TheVariants.{Claim}
use Rattle.light_node.specs.declared.events.LightState.{LightState}
use Rattle.light_node.specs.declared.events.LightState.TheVariants as state
use Rattle.light_node.specs.declared.events.Light.TheVariants as light
use Rattle.light_node.specs.Events.{NoneAccepted, IsFirstAccepted, AllShown, AreWaitedFor, IsState, IsLight}
use Rattle.light_node.specs.Plans.{IsPlanOf}
use Rattle.da_wire.specs.declared.frames.Frame.{Frame}
use Rattle.da_wire.specs.declared.frames.Frame.TheVariants.{State}
use Rattle.da_wire.specs.Spelling.{spelling}
use Rattle.da_wire.specs.Writing.{AppendsSpelling}
use Rattle.da_watching.specs.Watched.{state_frame}
use Rattle.da_watching.specs.Watchers.{PicksOf}

-- ---- texts

-- what was appended to an empty text is all of it
pub said_all : (value : Frame) (old new : List ℕ) → old ≡ [] → AppendsSpelling value old new → spelling value ≡ Some new
said_all value old new empty said = said.1 ∙ ap (λ (l : List ℕ). Some l) (sym (said.2 ∙ ap (λ (l : List ℕ). l ++ said.0) empty))

-- the spelling of a state is its frame
pub state_said : (text : List ℕ) → spelling State ≡ Some text → text ≡ state_frame
state_said text e = sym (same_Some state_frame text e)

-- ---- verdicts

-- a claim that is among events
claim_among : (claim : ClaimParts) (before after events : List Event) → events ≡ before ++ Claim claim ∷ after → Contains events (Claim claim)
claim_among claim before after events e =
    subst (λ (l : List Event). Contains l (Claim claim)) (sym e) (Contains-append_right before (Claim claim ∷ after) (Claim claim) (contains_head (Claim claim) after))

-- where no claim is accepted none is the first
pub none_first : (header : Roots) (events : List Event) (claim : ClaimParts) → NoneAccepted header events → IsFirstAccepted header events (Some claim) → ⊥
none_first header events claim none (accepts, before, after, e, earlier) = none claim (claim_among claim before after events e) accepts

-- where no cell waits, the state tells that each is shown
pub all_shown : (header : Roots) (plan : List Cell) (events : List Event) (cells : CellList) (now : LightState) → cells.list ≡ [] → NoneAccepted header events
    → AreWaitedFor header plan events cells → IsState header plan events now → AllShown header plan events
all_shown header plan events cells state.Available empty none are is = is.1
all_shown header plan events cells state.Waiting empty none are (nothing, (cell, waits)) =
    absurd (contains_none cell (subst (λ (l : List Cell). Contains l cell) empty ((are.waited_for cell).1 waits)))
all_shown header plan events cells state.Rejected empty none are (claim, first) = absurd (none_first header events claim none first)

-- cells wait
pub some_wait : (header : Roots) (plan : List Cell) (events : List Event) (cells : CellList) (k : ℕ) (list : List Cell) → cells.k ≡ k → list ≡ cells.list
    → 0 < length list → NoneAccepted header events → AreWaitedFor header plan events cells → IsLight header plan events (light.Waiting (record { k = k; list = list }))
some_wait header plan events cells k list width same some none are =
    let whole : cells ≡ record { k = k; list = list } = ap₂ (λ (n : ℕ) (l : List Cell). let made : CellList = record { k = n; list = l } in made) width (sym same) in (
      none,
      λ e. absurd (omega (arith, some, ap (λ (l : List Cell). length l) e)),
      subst (AreWaitedFor header plan events) whole are,
    )

-- ---- plans

-- the plan of a picker that answers exactly these cells are these cells
pub plan_is : {F : Type 0} (picks : F → ℕ → Cell → Type 0) (pick : F) (plan cells : List Cell) → PicksOf picks pick cells → IsPlanOf picks pick plan → length plan ≡ length cells
    → plan ≡ cells
plan_is picks pick plan cells of is count = same_lists plan cells count (λ i d below.
    let cell = get_or plan i d in
    sym (get_or_from_slice_get cells i cell d (of i cell (is i cell (slice_get-get_or plan i d below)))))
