use Rattle.std.proofs.Common.{◌≡◌, ◌∙◌, ◌*◌, ◌≤◌, ℕ, length, ap, arith}
use Rattle.namespace_id.specs.Names.{tail_padding}
use Rattle.share_split.specs.Joined.{padding_share}
use Rattle.square_layout.specs.Plans.{PlanParts, bound, front, planned}
use Rattle.square_layout.specs.Refusals.{max_shares}
use Rattle.square_layout.proofs.CountLemmas.{lent}
use Rattle.square_layout.proofs.LaidLemmas.{length-padded}
use Rattle.square_layout.proofs.PlanLemmas.{plan_in, bound_told, length-front, front_there, order_has_bytes, order_fits, planned_there, planned_fits, tail_there, plan_there}
use Rattle.square_layout.proofs.planning.lay_plan.Goals as goal

pub put_behind-requires-clause-some : goal.put_behind-requires-clause-some
put_behind-requires-clause-some c =
    order_has_bytes (lent c.args.blobs.items) (lent c.deref-2.result.now) (ap lent c.deref-2.ensures.value ∙ c.in_ok-order.ensures) c.requires.some

pub put_behind-requires-clause-room : goal.put_behind-requires-clause-room
put_behind-requires-clause-room c =
    let plan : PlanParts = plan_in c.args.units.now c.args.pay_units.now (lent c.args.blobs.items) c.args.reserve in
    let compact = front_there (front plan) c.in-Ok.shares.items c.put_front.new.out.items c.in-Ok.ensures.items c.in_ok-put_front.ensures in
    omega (arith, ap length compact, length-front plan, c.requires.room)

pub put_behind-requires-clause-fits : goal.put_behind-requires-clause-fits
put_behind-requires-clause-fits c =
    let plan : PlanParts = plan_in c.args.units.now c.args.pay_units.now (lent c.args.blobs.items) c.args.reserve in
    let counted : c.plan_bound.result ≡ bound plan = bound_told plan (lent c.deref.result.now) c.plan_bound.result (ap lent c.deref.ensures.value) c.plan_bound.ensures c.requires.few in
    order_fits plan (lent c.deref-2.result.now) c.plan_bound.result max_shares (ap lent c.deref-2.ensures.value ∙ c.in_ok-order.ensures) counted (omega (arith, counted, c.requires.few))

pub put_padding-requires : goal.put_padding-requires
put_padding-requires c =
    let plan : PlanParts = plan_in c.args.units.now c.args.pay_units.now (lent c.args.blobs.items) c.args.reserve in
    let counted : c.plan_bound.result ≡ bound plan = bound_told plan (lent c.deref.result.now) c.plan_bound.result (ap lent c.deref.ensures.value) c.plan_bound.ensures c.requires.few in
    let compact = front_there (front plan) c.in-Ok.shares.items c.put_front.new.out.items c.in-Ok.ensures.items c.in_ok-put_front.ensures in
    let all = planned_there plan c.put_front.new.out.items c.put_behind.new.out.items (lent c.deref-2.result.now) compact
    (ap lent c.deref-2.ensures.value ∙ c.in_ok-order.ensures) c.in_ok-put_behind.ensures in
    let room : length (front plan) ≤ c.args.reserve = omega (arith, length-front plan, c.requires.room) in
    omega (arith, ap length all, planned_fits plan room, counted, c.least_width-k.ensures.holds, c.square_size-2.ensures)

pub invariant_of-result : goal.invariant_of-result
invariant_of-result c =
    let plan : PlanParts = plan_in c.args.units.now c.args.pay_units.now (lent c.args.blobs.items) c.args.reserve in
    let counted : c.plan_bound.result ≡ bound plan = bound_told plan (lent c.deref.result.now) c.plan_bound.result (ap lent c.deref.ensures.value) c.plan_bound.ensures c.requires.few in
    let k : ℕ = c.least_width-k.result in
    let compact = front_there (front plan) c.in-Ok.shares.items c.put_front.new.out.items c.in-Ok.ensures.items c.in_ok-put_front.ensures in
    let all = planned_there plan c.put_front.new.out.items c.put_behind.new.out.items (lent c.deref-2.result.now) compact
    (ap lent c.deref-2.ensures.value ∙ c.in_ok-order.ensures) c.in_ok-put_behind.ensures in
    let whole = tail_there (planned plan) c.put_behind.new.out.items c.put_padding.new.out.items c.padding_share-tail.result (k * k) c.square_size-2.result
    c.padding_share-tail.ensures all c.square_size-2.ensures c.in_ok-put_padding.ensures in
    let room : length (front plan) ≤ c.args.reserve = omega (arith, length-front plan, c.requires.room) in
    let fits : length (planned plan) ≤ k * k = omega (arith, planned_fits plan room, counted, c.least_width-k.ensures.holds) in
    record {
      width = c.least_width-k.ensures.width;
      count = ap length whole ∙ length-padded (planned plan) (padding_share tail_padding) (k * k) fits;
    }

pub returns : goal.returns
returns c =
    let plan : PlanParts = plan_in c.args.units.now c.args.pay_units.now (lent c.args.blobs.items) c.args.reserve in
    let counted : c.plan_bound.result ≡ bound plan = bound_told plan (lent c.deref.result.now) c.plan_bound.result (ap lent c.deref.ensures.value) c.plan_bound.ensures c.requires.few in
    let k : ℕ = c.least_width-k.result in
    let compact = front_there (front plan) c.in-Ok.shares.items c.put_front.new.out.items c.in-Ok.ensures.items c.in_ok-put_front.ensures in
    let all = planned_there plan c.put_front.new.out.items c.put_behind.new.out.items (lent c.deref-2.result.now) compact
    (ap lent c.deref-2.ensures.value ∙ c.in_ok-order.ensures) c.in_ok-put_behind.ensures in
    let whole = tail_there (planned plan) c.put_behind.new.out.items c.put_padding.new.out.items c.padding_share-tail.result (k * k) c.square_size-2.result
    c.padding_share-tail.ensures all c.square_size-2.ensures c.in_ok-put_padding.ensures in
    plan_there plan k c.plan_bound.result c.put_padding.new.out.items c.least_width-k.ensures.value counted whole
