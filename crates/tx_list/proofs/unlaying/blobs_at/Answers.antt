use Rattle.std.proofs.Common.{◌∙◌, inr, sym}
use Rattle.tx_list.proofs.UnlayLemmas.{place_missing, place_passed, blob_more, places_end}
use Rattle.tx_list.proofs.unlaying.blobs_at.Goals as goal

pub returns-in_default-found-clause-first : goal.returns-in_default-found-clause-first
returns-in_default-found-clause-first c =
    inr (place_missing c.args.i c.loop-j.j c.args.shares.now c.args.places.now _ c.loop-j-test.true (sym c.in-Ok.ensures.blob ∙ c.in_default-found.is) c.loop-j.invariant.same)

pub loop-j-preserved : goal.loop-j-preserved
loop-j-preserved c = record {
  same = place_passed c.args.i c.loop-j.j c.args.shares.now c.args.places.now c.in-Some.blob _ c.loop-j-test.true (sym c.in-Ok.ensures.blob ∙ c.in-Some.is)
      c.loop-j.invariant.same;
  all = blob_more c.loop-j.j c.args.shares.now c.args.places.now c.in-Some.blob c.loop-j.blobs.items c.push.new.self.items _ c.loop-j-test.true
      (sym c.in-Ok.ensures.blob ∙ c.in-Some.is) c.in-Ok-push.ensures.items c.loop-j.invariant.all;
}

pub returns-clause-first : goal.returns-clause-first
returns-clause-first c = places_end c.args.i c.loop-j.j c.args.shares.now c.args.places.now _ c.loop-j-test.false c.loop-j.invariant.same
