use Rattle.std.proofs.Common.{ℕ, List, subst}
use Rattle.std.specs.List.{AllByRecursion}
use Rattle.namespace_id.specs.Bytes.{AreBytes}
use Rattle.share_split.specs.Blobs.{NamedBytes, IsNamed}
use Rattle.square_layout.specs.Blocks.{BlockParts, IsBlock}
use Rattle.da_wire.proofs.bounds.block_law.Goals as goal

pub returns : goal.returns
returns c = subst (λ (b : BlockParts). IsBlock b) c.block.view_is (record {
  units = subst (λ (l : List (List ℕ)). AllByRecursion AreBytes l) c.deref.ensures.value c.units_law.ensures;
  pay_units = subst (λ (l : List (List ℕ)). AllByRecursion AreBytes l) c.deref-2.ensures.value c.units_law-2.ensures;
  blobs = subst (λ (l : List NamedBytes). AllByRecursion IsNamed l) c.deref-3.ensures.value c.blobs_law.ensures;
  width = c.width_law.ensures;
})
