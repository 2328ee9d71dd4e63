use Rattle.std.proofs.Common.{◌∙◌, sym}
use Rattle.share_split.proofs.Reading.Fields.{bytes_before-signed}
use Rattle.share_split.proofs.fields.bytes_before.Goals as goal

-- the signer comes first
pub returns-then-is_signed-clause-value : goal.returns-then-is_signed-clause-value
returns-then-is_signed-clause-value c =
    bytes_before-signed c.args.form c.args.share.now c.in-Blobs.is (sym c.is_signed.ensures ∙ c.if-is_signed.true) c.share_law.ensures.size_is
