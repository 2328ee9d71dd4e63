use Rattle.std.proofs.Common.{◌≡◌, ◌∙◌, ℕ, List, ◌++◌, drop, ap, ap₂, append_assoc}
use Rattle.share_split.specs.Blobs.{NamedBytes, signer_bytes}
use Rattle.tx_list.specs.Wrapped.{some_field}
use Rattle.tx_list.specs.Spelled.{version_field, blob_spelling}
use Rattle.tx_list.proofs.spelling.spelled_blob.Goals as goal

-- its id, its bytes and its signer, one behind another
pub returns : goal.returns
returns c =
    let blob : NamedBytes = record { namespace = c.blob.inside.namespace; bytes = c.blob.inside.bytes.items; signer = c.blob.inside.signer } in
    let id : List ℕ = some_field 1 (drop 1 blob.namespace.0) in
    let bytes : List ℕ = some_field 2 blob.bytes in
    let signer : List ℕ = version_field blob.signer ++ some_field 5 (signer_bytes blob.signer) in
    let first : c.put_some_field.new.out.items ≡ id =
    c.in_ok-put_some_field.ensures ∙ ap₂ (λ (l i : List ℕ). l ++ some_field 1 i) c.new-bytes.ensures.items c.id_of.ensures in
    let second : c.put_some_field-2.new.out.items ≡ id ++ bytes =
    c.in_ok-put_some_field-2.ensures ∙ ap₂ (λ (l b : List ℕ). l ++ some_field 2 b) first c.deref.ensures.value in
    c.in_ok-put_signer.ensures ∙ ap (λ (l : List ℕ). l ++ signer) second ∙ append_assoc id bytes signer ∙ ap blob_spelling c.blob.view_is
