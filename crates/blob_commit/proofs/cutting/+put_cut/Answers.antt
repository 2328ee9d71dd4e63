use Rattle.std.proofs.Common.{arith}
use Rattle.blob_commit.proofs.CutLemmas.{cut_none, room_more, room_rest, all_of}
use Rattle.blob_commit.proofs.cutting.+put_cut.Goals as goal

pub returns-then-levels-eq0 : goal.returns-then-levels-eq0
returns-then-levels-eq0 t c = cut_none c.args.sizes.now c.args.levels c.args.count c.if-levels-eq0.true

pub push-requires : goal.push-requires
push-requires t c =
    room_more c.args.sizes.now c.loop.sizes c.args.levels c.args.count c.leaf_count-width.result c.loop.counter (omega (arith, c.if-levels-eq0.false)) c.leaf_count-width.ensures c.requires.room c.loop.invariant c.loop-test.true

pub put_cut-requires : goal.put_cut-requires
put_cut-requires t c = (
  omega (arith, c.decreases, c.if-levels-eq0.false),
  (omega (arith, c.requires.levels), room_rest c.args.sizes.now c.loop.sizes c.args.levels c.args.count c.leaf_count-width.result c.loop.counter (omega (arith, c.if-levels-eq0.false)) c.leaf_count-width.ensures c.requires.room c.loop.invariant (omega (arith, c.loop-test.false))),
)

pub returns : goal.returns
returns t c =
    all_of c.args.sizes.now c.loop.sizes c.put_cut.new.sizes c.args.levels c.args.count c.leaf_count-width.result c.loop.counter (omega (arith, c.if-levels-eq0.false)) c.leaf_count-width.ensures c.loop.invariant (omega (arith, c.loop-test.false))
    c.put_cut.ensures
