use Rattle.std.proofs.Common.{◌∙◌, ℕ, List, ◌++◌, sym, ap, subst}
use Rattle.std.specs.List.{AllByRecursion}
use Rattle.square_layout.specs.Blocks.{BlockParts}
use Rattle.da_serving.specs.Commit.{commitment_lines}
use Rattle.da_serving.proofs.CommitLemmas.{IsLaid, laid_blobs}
use Rattle.da_serving.proofs.commit.block_lines.Goals as goal

-- the blobs of a block that isn't refused
pub put_lines-requires : goal.put_lines-requires
put_lines-requires c =
    subst (AllByRecursion IsLaid) (sym (c.deref.ensures.value ∙ ap (λ (b : BlockParts). b.blobs) c.block.view_is))
    (laid_blobs c.args.block.now c.in_ok-lay.ensures.first)

-- what was appended are their lines
pub returns-in-Ok-clause-lines : goal.returns-in-Ok-clause-lines
returns-in-Ok-clause-lines c =
    c.in-Ok.ensures ∙ ap (λ (l : List ℕ). l ++ commitment_lines c.deref.result.now) c.new-text.ensures.items
    ∙ ap commitment_lines (c.deref.ensures.value ∙ ap (λ (b : BlockParts). b.blobs) c.block.view_is)
