use Rattle.std.proofs.Common.{◌∙◌, subst, ap}
use Rattle.namespace_id.specs.Cells.{is_in_square}
use Rattle.square_layout.specs.Blocks.{SquareShares}
use Rattle.da_serving.specs.declared.extension.Extension.{Extension}
use Rattle.da_serving.specs.Extension.{IsExtensionOf}
use Rattle.da_serving.proofs.SampleLemmas.{whole_sample, half_sample}
use Rattle.da_serving.proofs.extension.Extension.sample.Goals as goal

-- the square has the cell
pub sample-requires-in-Left : goal.sample-requires-in-Left
sample-requires-in-Left c =
    let are = subst (λ (e : Extension). IsExtensionOf e c.requires.0 c.requires.1) c.in-Left.is c.requires.2 in
    record { cell = ap (λ (s : SquareShares). is_in_square s.k c.args.asked.0) are.1.0 ∙ c.requires.3 }

-- a sample of the whole extension is one of the square
pub returns-in-Ok-clause-sample : goal.returns-in-Ok-clause-sample
returns-in-Ok-clause-sample c = λ square header is.
    whole_sample c.in-Whole.held square header c.args.asked c.in-Ok.message (subst (λ (e : Extension). IsExtensionOf e square header) c.in-Whole.is is)
    c.in-Ok.ensures.cell c.in-Ok.ensures.axis c.in-Ok.ensures.share c.in-Ok.ensures.proved

-- so is one of its left half
pub returns-in-Left-clause-sample : goal.returns-in-Left-clause-sample
returns-in-Left-clause-sample c = λ square header is.
    half_sample c.in-Left.half square header c.args.asked c.sample-in-Left.result (subst (λ (e : Extension). IsExtensionOf e square header) c.in-Left.is is)
    c.sample-in-Left.ensures.cell c.sample-in-Left.ensures.axis c.sample-in-Left.ensures.share c.sample-in-Left.ensures.proved
