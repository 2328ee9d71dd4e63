use Rattle.std.proofs.Common.{◌∙◌, drop, refl, sym, ap, arith}
use Rattle.celestia_pb.specs.Digests.{entry_digest}
use Rattle.celestia_pb.proofs.EntryListLemmas.{drop_more, entries_taken, entries-none}
use Rattle.celestia_pb.proofs.digests.digests_in.Goals as goal

-- none is taken
pub loop-init : goal.loop-init
loop-init c = record {
  items = c.in_ok-digests.ensures.items ∙ sym (entries-none entry_digest 92 c.args.bytes.now);
  len = omega (arith, c.in_ok-digests.ensures.len);
  rest = refl;
}

-- one more is taken
pub loop-preserved : goal.loop-preserved
loop-preserved c = record {
  items = entries_taken entry_digest 92 c.loop.counter c.args.bytes.now _ _ _ _ c.loop.invariant.items c.loop.invariant.rest c.entry_digest.ensures c.in-Ok.ensures.items;
  len = omega (arith, c.in-Ok.ensures.len, c.loop.invariant.len);
  rest = c.split_at.ensures.back ∙ ap (drop 92) c.loop.invariant.rest ∙ drop_more 92 c.loop.counter c.args.bytes.now;
}
