use Rattle.std.proofs.Common.{◌∙◌, ℕ, List, length, ap, subst, arith}
use Rattle.namespace_id.specs.declared.shares.Share.{Share}
use Rattle.namespace_id.specs.Shares.{AreShares}
use Rattle.proto_fields.specs.Spelled.{field_size}
use Rattle.proto_fields.specs.Canonical.{number_text}
use Rattle.celestia_pb.proofs.HalfRowLemmas.{entry_size}
use Rattle.celestia_pb.proofs.HalfRowLemmas.{half_row_sized}
use Rattle.celestia_pb.proofs.half_row.half_row_size.Goals as goal

-- so many shares of 518 bytes, and the side
pub returns : goal.returns
returns c = half_row_sized c.args.half.now _ _ c.len.result c.part_size-share.result c.number_size.result c.half.view_is
    (subst (λ (l : List Share). AreShares l) c.deref.ensures.value c.shares_law.ensures)
    (omega (arith, c.len.ensures, c.deref.ensures.len, ap length c.deref.ensures.value))
    (c.part_size-share.ensures.value ∙ ap (field_size 1) c.part_size.ensures.value ∙ entry_size)
    (c.number_size.ensures.value ∙ ap (λ (n : ℕ). length (number_text 2 n)) c.side_number.ensures)
