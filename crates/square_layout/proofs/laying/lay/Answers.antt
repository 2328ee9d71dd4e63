use Rattle.std.proofs.Common.{◌≤◌, ◌∙◌, ◌*◌, ◌-◌, List, length, map, sym, ap, arith}
use Rattle.namespace_id.specs.declared.shares.Share.{Share}
use Rattle.namespace_id.specs.Lists.{holds_along}
use Rattle.namespace_id.specs.Names.{is_at_most, tail_padding}
use Rattle.namespace_id.specs.Shares.{name_in}
use Rattle.share_split.specs.Joined.{padding_share}
use Rattle.square_layout.specs.Blocks.{BlockParts}
use Rattle.square_layout.specs.Layout.{laid, needed}
use Rattle.square_layout.proofs.AcceptedLemmas.{ordered_have_bytes, all_between}
use Rattle.square_layout.proofs.CountLemmas.{lent}
use Rattle.square_layout.proofs.LaidLemmas.{length-padded, laid_fits, square_fits}
use Rattle.square_layout.proofs.NameLemmas.{names_rise}
use Rattle.square_layout.proofs.laying.lay.Goals as goal

pub needed-count-requires-clause-some : goal.needed-count-requires-clause-some
needed-count-requires-clause-some c =
    ordered_have_bytes c.deref.result.now c.deref-2.result.now _ c.in_default.ensures (c.deref.ensures.value ∙ sym c.deref-2.ensures.value)
    (ap lent c.deref-3.ensures.value ∙ c.in-Ok.ensures)

pub shares_of-requires-clause-some : goal.shares_of-requires-clause-some
shares_of-requires-clause-some c =
    ordered_have_bytes c.deref.result.now c.deref-2.result.now _ c.in_default.ensures (c.deref.ensures.value ∙ sym c.deref-2.ensures.value)
    (ap lent c.deref-4.ensures.value ∙ c.in-Ok.ensures)

-- the layout fits, and padding fills what is left
pub invariant_of-result : goal.invariant_of-result
invariant_of-result c =
    let fits : needed c.args.block.now ≤ c.width_for-k.result * c.width_for-k.result =
    omega (arith, c.needed-count.ensures, c.width_for-k.ensures.holds, square_fits c.width_for-k.result c.width_for-k.ensures.width) in
    record {
      width = c.width_for-k.ensures.width;
      count = ap length c.in-Ok-shares_of.ensures
          ∙ length-padded (laid c.args.block.now) (padding_share tail_padding) (c.width_for-k.result * c.width_for-k.result)
          (laid_fits c.args.block.now (c.width_for-k.result * c.width_for-k.result) fits);
    }

pub returns-clause-names : goal.returns-clause-names
returns-clause-names c =
    let between = all_between c.deref.result.now _ c.in_default.ensures (c.deref.ensures.value ∙ ap (λ (b : BlockParts). b.blobs) c.block.view_is) in
    ap (λ (l : List Share). holds_along is_at_most (map name_in l)) c.in-Ok-shares_of.ensures
    ∙ names_rise c.args.block.now (c.width_for-k.result * c.width_for-k.result - length (laid c.args.block.now)) between
