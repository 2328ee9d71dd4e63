use Rattle.std.proofs.Common.{◌∙◌, ◌-◌, ◌++◌, List, sym, ap, arith}
use Rattle.std.proofs.lemmas.List.{append-nil}
use Rattle.namespace_id.specs.declared.shares.Share.{Share}
use Rattle.share_split.proofs.Writing.Later.{later_shares-none, later-step}
use Rattle.share_split.proofs.blobs.put_later.Goals as goal

pub loop-preserved : goal.loop-preserved
loop-preserved c = record {
  all = later-step c.args.namespace.now c.args.version c.loop.rest.now c.split_within.result.0.now c.split_within.result.1.now
      c.loop.out.items c.put_share.new.out.items _ c.later_share.result c.args.count c.loop.counter c.loop-test.true
      c.loop.invariant.all c.split_within.ensures.first c.split_within.ensures.rest c.later_share.ensures c.put_share.ensures.appended;
  len = omega (arith, c.loop.invariant.len, c.put_share.ensures.len, c.loop-test.true);
  capacity = omega (arith, c.loop.invariant.capacity, c.put_share.ensures.capacity);
}

pub returns : goal.returns
returns c = record {
  appended = sym (append-nil c.loop.out.items)
      ∙ sym (ap (λ (l : List Share). c.loop.out.items ++ l) (later_shares-none c.args.namespace.now c.args.version c.loop.rest.now (c.args.count - c.loop.counter) (omega (arith, c.loop-test.false))))
      ∙ c.loop.invariant.all;
}
