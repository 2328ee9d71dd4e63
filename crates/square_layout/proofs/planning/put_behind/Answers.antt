use Rattle.std.proofs.Common.{◌∙◌, ◌-◌, ◌++◌, true, length, replicate, ap}
use Rattle.std.proofs.lemmas.Result.{on_ok_weaker}
use Rattle.namespace_id.specs.declared.shares.Share.{Share}
use Rattle.square_layout.specs.Layout.{placed_behind}
use Rattle.square_layout.proofs.CountLemmas.{lent}
use Rattle.square_layout.proofs.PlanLemmas.{lent_none, lent_some, behind_none, behind_some}
use Rattle.square_layout.proofs.planning.put_behind.Goals as goal

pub returns-then-is_empty : goal.returns-then-is_empty
returns-then-is_empty c =
    behind_none _ c.args.reserve (lent c.args.order.now) c.args.out.now.items
    (lent_none c.args.order.now c.is_empty.result c.is_empty.ensures c.if-is_empty.true)

pub returns : goal.returns
returns c =
    let some = lent_some c.args.order.now c.is_empty.result c.is_empty.ensures c.if-is_empty.false in
    let full = c.in_ok-put_padding.ensures
    ∙ ap (λ (s : Share). c.args.out.now.items ++ replicate (c.args.reserve - length c.args.out.now.items) s) c.padding_share-reserved.ensures in
    on_ok_weaker c.put_blobs.result
    (λ new. behind_some c.args.reserve (lent c.args.order.now) c.args.out.now.items c.put_padding.new.out.items c.put_blobs.new.out.items
    some c.requires.room full
    (new ∙ ap (λ (s : Share). c.put_padding.new.out.items ++ placed_behind true s (length c.put_padding.new.out.items) (lent c.args.order.now)) c.padding_share-reserved.ensures))
    c.put_blobs.ensures
