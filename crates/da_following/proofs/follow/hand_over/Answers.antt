use Rattle.std.proofs.Common.{◌≡◌, ℕ, ◌<◌, List, length, IfSome, Bor, ap, subst, arith}
use Rattle.std.specs.declared.option.Option.{Option}
use Rattle.std.specs.List.{cons_option, filter_map}
use Rattle.da_wire.specs.declared.frames.Frame.{Frame}
use Rattle.da_following.specs.Follow.{feed_kinds, item_of, items_in}
use Rattle.da_following.specs.Heights.{IsOnWay}
use Rattle.da_files.proofs.ValueLemmas.{first_is}
use Rattle.da_following.proofs.follow.hand_over.Goals as goal

-- the next frame was handed over
pub loop-found-preserved : goal.loop-found-preserved
loop-found-preserved c =
    let first = first_is feed_kinds c.loop-found.rest.now c.in-Ok.found c.in-Some.frame c.in-Some.after c.in-Some.is c.in-Ok.ensures.values in
    let next : items_in c.loop-found.rest.now ≡ cons_option (item_of c.in-Some.frame) (items_in c.in-Some.after.now) = ap (filter_map item_of) first in
    let shorter : length c.in-Some.after.now < length c.loop-found.rest.now =
    subst (λ (o : Option (Frame × Bor (List ℕ))). IfSome o (λ (x : Frame × Bor (List ℕ)). length x.1.now < length c.loop-found.rest.now))
    c.in-Some.is c.in-Ok.ensures.shorter in
    record {
      way = λ all on.
          c.in_ok-hand.ensures.way all (items_in c.in-Some.after.now)
          (subst (IsOnWay c.args.names.now all c.loop-found.way) next (c.loop-found.invariant.way all on));
      few = omega (arith, c.loop-found.invariant.few, c.in_ok-hand.ensures.count, shorter);
      fits = c.in_ok-hand.ensures.fits;
    }
