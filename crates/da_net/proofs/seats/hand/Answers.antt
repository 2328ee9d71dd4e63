use Rattle.std.proofs.Common.{◌∙◌, ◌++◌, ◌∷◌, [], sym, subst, true≢false}
use Rattle.da_net.specs.declared.items.Item.{Item}
use Rattle.axis_roots.specs.Claims.{Accepts}
use Rattle.da_net.specs.Nets.{AfterClash}
use Rattle.da_net.specs.Seats.{alarm_of, IsSeatStep, IsAcceptedItem}
use Rattle.da_net.proofs.SeatLemmas.{unaccepted_step}
use Rattle.da_net.proofs.seats.hand.Goals as goal

-- a sample
pub returns-in-Message-clause-step : goal.returns-in-Message-clause-step
returns-in-Message-clause-step g c = λ items is.
    subst (λ (one : Item). IsSeatStep g.F.Picker.picks c.args.header.now (items ++ one ∷ []) c.args.seat.now c.hand_message.new.seat) (sym c.in-Message.is)
    (c.hand_message.ensures.step items is)

-- an accepted claim
pub returns-then-entry-clause-step : goal.returns-then-entry-clause-step
returns-then-entry-clause-step g c = λ items is.
    subst (λ (one : Item). IsSeatStep g.F.Picker.picks c.args.header.now (items ++ one ∷ []) c.args.seat.now c.hand_accepted.new.seat) (sym c.in-Claim.is)
    (c.hand_accepted.ensures.step items is)

-- another
pub returns-else-entry-clause-step : goal.returns-else-entry-clause-step
returns-else-entry-clause-step g c = λ items is.
    subst (λ (one : Item). IsSeatStep g.F.Picker.picks c.args.header.now (items ++ one ∷ []) c.args.seat.now c.args.seat.now) (sym c.in-Claim.is)
    (unaccepted_step g.F.Picker.picks c.args.header.now items c.args.seat.now c.in-Claim.claim
    (λ accepts. true≢false (sym (c.requires.judged.1 (subst (IsAcceptedItem c.args.header.now) (sym c.in-Claim.is) accepts)) ∙ c.if-entry.false)) is)

-- ---- a collision

-- stays after a sample
pub returns-in-Message-clause-clashes : goal.returns-in-Message-clause-clashes
returns-in-Message-clause-clashes g c = λ left right e.
    subst (λ (one : Item). AfterClash c.args.header.now left right one (alarm_of c.hand_message.new.seat.node)) (sym c.in-Message.is)
    (c.hand_message.ensures.clashes left right e)

-- goes for an accepted claim
pub returns-then-entry-clause-clashes : goal.returns-then-entry-clause-clashes
returns-then-entry-clause-clashes g c = λ left right e.
    let accepts : Accepts c.args.header.now c.in-Claim.claim =
    subst (IsAcceptedItem c.args.header.now) c.in-Claim.is (c.requires.judged.0 c.if-entry.true) in
    subst (λ (one : Item). AfterClash c.args.header.now left right one (alarm_of c.hand_accepted.new.seat.node)) (sym c.in-Claim.is)
    ((λ again. c.hand_accepted.ensures.clashes left right e), λ not. absurd (not accepts))

-- and stays after another
pub returns-else-entry-clause-clashes : goal.returns-else-entry-clause-clashes
returns-else-entry-clause-clashes g c = λ left right e.
    let refused : Accepts c.args.header.now c.in-Claim.claim → ⊥ =
    λ accepts. true≢false (sym (c.requires.judged.1 (subst (IsAcceptedItem c.args.header.now) (sym c.in-Claim.is) accepts)) ∙ c.if-entry.false) in
    subst (λ (one : Item). AfterClash c.args.header.now left right one (alarm_of c.args.seat.now.node)) (sym c.in-Claim.is)
    ((λ accepts. absurd (refused accepts)), λ not. e)
