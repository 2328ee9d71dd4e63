use Rattle.std.proofs.Common.{◌≡◌, ◌∙◌, ◌++◌, ℕ, List, length, Option, is_some, sym, ap, ap₂, arith}
use Rattle.std.specs.Option.{option_copied}
use Rattle.namespace_id.specs.declared.shares.Share.{Share}
use Rattle.share_split.specs.Blobs.{blob_shares_of, share_count}
use Rattle.blob_commit.proofs.committing.commitment_of.Goals as goal

pub commitment-requires-clause-bound : goal.commitment-requires-clause-bound
commitment-requires-clause-bound c =
    let bytes : List ℕ = c.deref.result.now in
    let signer : Option (List ℕ) = option_copied c.as_ref-signer.result in
    let own : signer ≡ c.blob.inside.signer = c.as_ref-signer.ensures.value in
    let shares = c.deref-2.ensures.value ∙ c.in-Ok.ensures.written
    ∙ ap (λ (l : List Share). l ++ blob_shares_of c.blob.inside.namespace signer bytes) c.new-shares.ensures.items in
    let count = ap length shares ∙ c.blob_laws.ensures.counted c.blob.inside.namespace signer bytes in
    let len : c.len.result ≡ length bytes = omega (arith, c.len.ensures, c.deref.ensures.len, ap length c.deref.ensures.value) in
    let same : share_count c.len.result c.is_some.result ≡ share_count (length bytes) (is_some signer) =
    ap₂ share_count len (c.is_some.ensures ∙ ap (λ (s : Option (List ℕ)). is_some s) (sym own)) in
    omega (arith, count, same, c.blob_share_count.ensures.value, c.if-blob_share_count-gt-MAX_SHARES.false)
