use Rattle.std.proofs.Common.{◌∙◌, drop, length, refl, sym, ap, arith}
use Rattle.celestia_pb.specs.Digests.{entry_digest}
use Rattle.celestia_pb.proofs.EntryListLemmas.{drop_more, entries_taken, entries-none, length-entries}
use Rattle.celestia_pb.proofs.inclusions.path_in.Goals as goal

-- none is taken
pub loop-init : goal.loop-init
loop-init c = record {
  items = c.new-path.ensures ∙ sym (entries-none entry_digest 92 c.args.bytes.now);
  rest = refl;
}

-- fewer are taken than there may be
pub push-requires : goal.push-requires
push-requires c = omega (arith, ap length c.loop.invariant.items, length-entries entry_digest 92 c.loop.counter c.args.bytes.now)

-- one more is taken
pub loop-preserved : goal.loop-preserved
loop-preserved c = record {
  items = entries_taken entry_digest 92 c.loop.counter c.args.bytes.now _ _ _ _ c.loop.invariant.items c.loop.invariant.rest c.entry_digest.ensures c.push.ensures;
  rest = c.split_at.ensures.back ∙ ap (drop 92) c.loop.invariant.rest ∙ drop_more 92 c.loop.counter c.args.bytes.now;
}
