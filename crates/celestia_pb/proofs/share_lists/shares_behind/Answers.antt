use Rattle.std.proofs.Common.{◌≡◌, ◌∙◌, ℕ, ◌+◌, ◌*◌, drop, sym, ap, arith}
use Rattle.celestia_pb.specs.ShareLists.{share_behind}
use Rattle.celestia_pb.proofs.EntryListLemmas.{entries-none, entries_taken, drop_more, one_left}
use Rattle.celestia_pb.proofs.share_lists.shares_behind.Goals as goal

-- none is taken
pub loop-init : goal.loop-init
loop-init c =
    let none : (c.args.front + 512) * 0 ≡ 0 = search arith in record {
      items = c.in_ok-shares.ensures.items ∙ sym (entries-none (share_behind c.args.front) (c.args.front + 512) c.args.bytes.now);
      len = omega (arith, c.in_ok-shares.ensures.len);
      rest = ap (λ (k : ℕ). drop k c.args.bytes.now) (sym none);
    }

-- one more is there
pub split_at-requires : goal.split_at-requires
split_at-requires c = one_left (c.args.front + 512) c.loop.counter c.args.count c.args.bytes.now c.loop.rest.now c.loop-test.true c.loop.invariant.rest c.requires.size

pub share_behind-requires : goal.share_behind-requires
share_behind-requires c = one_left (c.args.front + 512) c.loop.counter c.args.count c.args.bytes.now c.loop.rest.now c.loop-test.true c.loop.invariant.rest c.requires.size

-- one more is taken
pub loop-preserved : goal.loop-preserved
loop-preserved c = record {
  items = entries_taken (share_behind c.args.front) (c.args.front + 512) c.loop.counter c.args.bytes.now _ _ _ _ c.loop.invariant.items c.loop.invariant.rest
      c.share_behind.ensures c.in-Ok.ensures.items;
  len = omega (arith, c.in-Ok.ensures.len, c.loop.invariant.len);
  rest = c.split_at.ensures.back ∙ ap (drop (c.args.front + 512)) c.loop.invariant.rest ∙ drop_more (c.args.front + 512) c.loop.counter c.args.bytes.now;
}
