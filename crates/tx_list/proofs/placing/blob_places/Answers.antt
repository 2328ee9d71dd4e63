use Rattle.std.proofs.Common.{◌≡◌, ◌∙◌, ℕ, List, map, length, replicate, ap, ap₂, sym, arith}
use Rattle.std.proofs.lemmas.List.{length-map}
use Rattle.square_layout.specs.Refusals.{max_shares}
use Rattle.square_layout.proofs.CountLemmas.{lent}
use Rattle.tx_list.specs.Places.{Numbered, order_numbered, ordered, places_from}
use Rattle.tx_list.specs.Steps.{numbered, put_places}
use Rattle.tx_list.proofs.PlaceLemmas.{ordered_some, ordered_below, ordered_fits, length-put_places, put_places_are, lent_whole}
use Rattle.tx_list.proofs.placing.blob_places.Goals as goal

pub put_places-requires-clause-some : goal.put_places-requires-clause-some
put_places-requires-clause-some c =
    let order : map numbered c.deref.result.now ≡ ordered (lent c.args.blobs.now) =
    ap (map numbered) c.deref.ensures.value ∙ c.in_ok-order.ensures ∙ ap order_numbered c.in_ok-all.ensures in
    ordered_some (lent c.args.blobs.now) _ order c.requires.some

pub put_places-requires-clause-numbers : goal.put_places-requires-clause-numbers
put_places-requires-clause-numbers c =
    let order : map numbered c.deref.result.now ≡ ordered (lent c.args.blobs.now) =
    ap (map numbered) c.deref.ensures.value ∙ c.in_ok-order.ensures ∙ ap order_numbered c.in_ok-all.ensures in
    let count : length (lent c.args.blobs.now) ≡ length c.args.blobs.now = length-map c.args.blobs.now _ in
    ordered_below (lent c.args.blobs.now) _ (length c.deref_mut.result.now) order (omega (arith, count, c.deref_mut.ensures.len, c.in-Ok.ensures.len))

pub put_places-requires-clause-fits : goal.put_places-requires-clause-fits
put_places-requires-clause-fits c =
    let order : map numbered c.deref.result.now ≡ ordered (lent c.args.blobs.now) =
    ap (map numbered) c.deref.ensures.value ∙ c.in_ok-order.ensures ∙ ap order_numbered c.in_ok-all.ensures in
    ordered_fits c.args.end max_shares (lent c.args.blobs.now) _ order c.requires.fits

pub returns : goal.returns
returns c =
    let blobs = lent c.args.blobs.now in
    let order : map numbered c.deref.result.now ≡ ordered blobs =
    ap (map numbered) c.deref.ensures.value ∙ c.in_ok-order.ensures ∙ ap order_numbered c.in_ok-all.ensures in
    let count : length blobs ≡ length c.args.blobs.now = length-map c.args.blobs.now _ in
    let zeros : c.in-Ok.places.items ≡ replicate (length c.args.blobs.now) 0 = c.in-Ok.ensures.items_if_clones_equal (λ y same. same) in
    let size : length c.put_places.new.places ≡ c.in-Ok.places.len =
    omega (
      arith,
      ap length c.put_places.ensures,
      length-put_places (places_from c.args.end (map numbered c.deref.result.now)) c.deref_mut.result.now,
      c.deref_mut.ensures.len,
    ) in
    lent_whole c.in-Ok.places.len c.put_places.new.places c.in-Ok.places.items size
    ∙ c.put_places.ensures
    ∙ ap₂ (λ (l : List Numbered) (s : List ℕ). put_places (places_from c.args.end l) s) order (c.deref_mut.ensures.value ∙ zeros)
    ∙ ap (λ (n : ℕ). put_places (places_from c.args.end (ordered blobs)) (replicate n 0)) (sym count)
    ∙ put_places_are (length blobs) (places_from c.args.end (ordered blobs))
