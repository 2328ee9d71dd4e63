use Rattle.std.proofs.Common.{◌≡◌, ◌+◌, ◌<◌, ◌≤◌, ℕ, List, length, drop, map, refl, subst, sym, arith}
use Rattle.std.specs.List.{AllByRecursion}
use Rattle.std.proofs.lemmas.List.{length-set}
use Rattle.square_layout.specs.Layout.{share_count_of, start_after, end_of}
use Rattle.square_layout.specs.Refusals.{max_shares}
use Rattle.tx_list.specs.Steps.{numbered, unnumbered}
use Rattle.tx_list.specs.Places.{Numbered}
use Rattle.tx_list.proofs.PlaceLemmas.{drop-seen, drop-seen_all, some-next, numbers-next, fits-next, put_on, put_none}
use Rattle.tx_list.proofs.placing.put_places.Goals as goal

pub start_after-requires : goal.start_after-requires
start_after-requires c =
    let left = drop-seen numbered c.args.order.now c.loop-one.one-index c.one-item.result c.loop-one-test.true c.one-item.is in
    (some-next _ _ _ left c.loop-one.invariant.some).0

pub overflow_cast-places : goal.overflow_cast-places
overflow_cast-places c =
    let left = drop-seen numbered c.args.order.now c.loop-one.one-index c.one-item.result c.loop-one-test.true c.one-item.is in
    let fits = fits-next c.loop-one.end max_shares _ _ _ left c.loop-one.invariant.fits in
    omega (arith, fits.0, c.start_after.ensures)

pub offset_bounds-places-one : goal.offset_bounds-places-one
offset_bounds-places-one c =
    let left = drop-seen numbered c.args.order.now c.loop-one.one-index c.one-item.result c.loop-one-test.true c.one-item.is in
    let numbers = numbers-next (length c.loop-one.places) _ _ _ left c.loop-one.invariant.numbers in
    omega (arith, numbers.0)

pub bounds-places-one : goal.bounds-places-one
bounds-places-one c =
    let left = drop-seen numbered c.args.order.now c.loop-one.one-index c.one-item.result c.loop-one-test.true c.one-item.is in
    (numbers-next (length c.loop-one.places) _ _ _ left c.loop-one.invariant.numbers).0

pub end_after-end-requires : goal.end_after-end-requires
end_after-end-requires c =
    let left = drop-seen numbered c.args.order.now c.loop-one.one-index c.one-item.result c.loop-one-test.true c.one-item.is in
    (some-next _ _ _ left c.loop-one.invariant.some).0

pub loop-one-preserved : goal.loop-one-preserved
loop-one-preserved c =
    let left = drop-seen numbered c.args.order.now c.loop-one.one-index c.one-item.result c.loop-one-test.true c.one-item.is in
    let fits = fits-next c.loop-one.end max_shares _ _ _ left c.loop-one.invariant.fits in
    let numbers = numbers-next (length c.loop-one.places) _ _ _ left c.loop-one.invariant.numbers in
    let start : c.start_after.result ≡ start_after c.loop-one.end c.one-item.result.blob.now = omega (arith, fits.0, c.start_after.ensures) in
    let next : c.end_after-end.result ≡ start_after c.loop-one.end c.one-item.result.blob.now + share_count_of c.one-item.result.blob.now =
    omega (arith, fits.0, c.end_after-end.ensures) in
    let others : List Numbered = drop (c.loop-one.one-index + 1) (map numbered c.args.order.now) in
    record {
      all = put_on c.loop-one.end c.end_after-end.result c.start_after.result (numbered c.one-item.result) _ others c.loop-one.places _ _ left start next refl
          c.loop-one.invariant.all;
      some = (some-next _ _ _ left c.loop-one.invariant.some).1;
      numbers = subst (λ (n : ℕ). AllByRecursion (λ one. one.number < n) others)
          (sym (length-set c.loop-one.places c.one-item.result.number c.start_after.result)) numbers.1;
      fits = subst (λ (e : ℕ). end_of e (unnumbered others) ≤ max_shares) (sym next) fits.1;
    }

pub returns : goal.returns
returns c =
    put_none c.loop-one.end _ c.loop-one.places _ (drop-seen_all numbered c.args.order.now c.loop-one.one-index c.loop-one-test.false) c.loop-one.invariant.all
