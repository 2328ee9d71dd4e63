use Rattle.std.proofs.Common.{◌∙◌, ◌++◌, List, sym, ap, append_assoc}
use Rattle.square_layout.specs.Layout.{compact_part}
use Rattle.square_layout.proofs.ReadBackLemmas.{behind_compact_part, placed_of, tail_of}
use Rattle.namespace_id.specs.declared.shares.Share.{Share}
use Rattle.da_serving.proofs.BackLemmas.{blobs_back}
use Rattle.da_serving.proofs.blobs.blobs_laws.Goals as goal

pub returns : goal.returns
returns c = record {
  back = λ block none is.
      blobs_back c.share_laws.ensures.blobs c.share_laws.ensures.units c.share_laws.ensures.padding c.join_laws.ensures.blobs block
      (c.share_laws.ensures.ordered block none is) (c.name_laws.ensures.named block none) (c.share_laws.ensures.behind block none is)
      (c.size_laws.ensures.shares block is) (behind_compact_part block)
      (append_assoc (compact_part block) (placed_of block) (tail_of block)
      ∙ ap (λ (l : List Share). compact_part block ++ l) (sym (behind_compact_part block)));
}
