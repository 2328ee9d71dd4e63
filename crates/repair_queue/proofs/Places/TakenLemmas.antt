-- The sample of a certificate.
use Rattle.std.proofs.Common.{ℕ, sym, subst}
use Rattle.namespace_id.specs.declared.digests.Digest.{Digest}
use Rattle.data_header.specs.Headers.{Roots}
use Rattle.axis_roots.specs.declared.message.proved.Proved.{Proved}
use Rattle.axis_roots.specs.Messages.{root_for}
use Rattle.axis_roots.specs.Openings.{OpensAt, IsProved}
use Rattle.axis_roots.specs.Proved.{kept_width, kept_message, IsUnder}

-- the sample of a certificate is proved under each header that the certificate is under
pub under_proved : (header : Roots) (kept : Proved) → IsUnder header kept → IsProved header (kept_message kept)
under_proved header kept under =
    subst (λ (k : ℕ). OpensAt k (kept_message kept) (root_for header (kept_message kept))) (sym under.width)
    (subst (λ (root : Digest). OpensAt (kept_width kept) (kept_message kept) root) (sym under.root) kept.opened)
