use Rattle.std.proofs.Common.{rules}
use Rattle.std.proofs.lemmas.List.Sorted.{answers_always}
use Rattle.tx_list.proofs.PlaceLemmas.{name_of, sorted_numbered}
use Rattle.tx_list.proofs.placing.in_order.Goals as goal

pub returns : goal.returns
returns c =
    let keys = answers_always _ _ _ (λ f a r next called. search rules) in
    sorted_numbered c.args.blobs.items c.sort_by_key.new.self.items (c.in-Ok.ensures.sorted name_of keys) (c.in-Ok.ensures.stable name_of keys)
