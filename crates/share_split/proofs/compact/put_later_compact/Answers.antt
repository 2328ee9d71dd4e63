use Rattle.std.proofs.Common.{◌∙◌, suc, ◌-◌, ◌++◌, List, sym, ap, arith}
use Rattle.std.proofs.lemmas.List.{append-nil}
use Rattle.namespace_id.specs.declared.shares.Share.{Share}
use Rattle.share_split.specs.Texts.{starts_of}
use Rattle.share_split.proofs.Writing.LaterCompact.{later_compact_shares-none, later_compact-step}
use Rattle.share_split.proofs.compact.put_later_compact.Goals as goal

pub loop-i-preserved : goal.loop-i-preserved
loop-i-preserved c = record {
  all = later_compact-step c.args.namespace.now c.loop-i.rest.now c.split_within.result.0.now c.split_within.result.1.now
      (starts_of c.args.units.now c.loop-i.next) (starts_of c.args.units.now c.next_on-next.result)
      c.loop-i.out.items c.put_share.new.out.items _ c.later_compact_share.result c.args.count c.loop-i.i
      c.content_start.result c.reserved_of-reserved.result c.loop-i-test.true c.loop-i.invariant.all
      c.content_start.ensures c.next_on-next.ensures.starts c.reserved_of-reserved.ensures
      c.split_within.ensures.first c.split_within.ensures.rest c.later_compact_share.ensures c.put_share.ensures.appended;
  next = c.next_on-next.ensures.next;
  len = omega (arith, c.loop-i.invariant.len, c.put_share.ensures.len, c.loop-i-test.true);
  capacity = omega (arith, c.loop-i.invariant.capacity, c.put_share.ensures.capacity);
}

pub returns : goal.returns
returns c = record {
  appended = sym (append-nil c.loop-i.out.items)
      ∙ sym (ap (λ (l : List Share). c.loop-i.out.items ++ l)
      (later_compact_shares-none c.args.namespace.now (suc c.loop-i.i) (starts_of c.args.units.now c.loop-i.next) c.loop-i.rest.now
      (c.args.count - c.loop-i.i) (omega (arith, c.loop-i-test.false))))
      ∙ c.loop-i.invariant.all;
}
