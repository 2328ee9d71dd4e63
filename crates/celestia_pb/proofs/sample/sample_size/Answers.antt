use Rattle.std.proofs.Common.{◌∙◌, ℕ, List, length, ap}
use Rattle.namespace_id.specs.declared.digests.Digest.{Digest}
use Rattle.proto_fields.specs.Canonical.{number_text}
use Rattle.celestia_pb.specs.Inclusions.{inclusion_text}
use Rattle.celestia_pb.proofs.SizeLemmas.{sample_sized}
use Rattle.celestia_pb.proofs.sample.sample_size.Goals as goal

-- the share, the proof, and the axis
pub returns : goal.returns
returns c =
    sample_sized c.args.cell c.args.sample.now c.part_size.result c.part_size-share.result c.from-place.result c.inclusion_size.result c.part_size-proof.result
    c.number_size.result c.share_law.ensures.size_is c.part_size.ensures.value c.part_size-share.ensures.value (c.from-place.ensures ∙ c.place_on.ensures)
    (c.inclusion_size.ensures.value ∙ ap (λ (l : List Digest). length (inclusion_text c.from-place.result 1 l)) c.nodes.ensures.value)
    c.part_size-proof.ensures.value (c.number_size.ensures.value ∙ ap (λ (n : ℕ). length (number_text 3 n)) c.axis_number.ensures.value)
