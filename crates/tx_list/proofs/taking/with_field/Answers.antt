use Rattle.std.proofs.Common.{◌∙◌, ◌==◌, ◌++◌, ◌∷◌, [], List, ℕ, sym, ap, subst}
use Rattle.std.specs.List.{AllByRecursion}
use Rattle.proto_fields.specs.Values.{field_parts}
use Rattle.tx_list.specs.Reads.{StatedBlob, blob_of}
use Rattle.tx_list.specs.Walks.{stated_parts, with_entries, with_blobs, IsTaken, IsTakenEntry}
use Rattle.tx_list.proofs.EntryLemmas.{own_some, own_none}
use Rattle.tx_list.proofs.JudgeLemmas.{with-none, with-one, entry_checked}
use Rattle.tx_list.proofs.TakingLemmas.{fine_taken, taken_fine}
use Rattle.tx_list.proofs.taking.with_field.Goals as goal

-- it carries none
pub returns-in_default-clause-checked : goal.returns-in_default-clause-checked
returns-in_default-clause-checked c =
    let field = field_parts c.args.field in
    sym (ap (with_entries c.args.i c.args.checked.now) (own_none (field.number == 2) field.value c.in_default.ensures) ∙ with-none c.args.i c.args.checked.now)

-- what isn't refused is taken
pub keep_blob-requires : goal.keep_blob-requires
keep_blob-requires c = λ is.
    fine_taken c.args.i c.args.checked.now.count (stated_parts c.read_blob-are_fields.result.0) c.read_blob-are_fields.result.1 c.entry_refusal-refusal.result
    c.entry_refusal-refusal.ensures (sym c.is_taken.ensures ∙ is)

-- it carries one
pub returns-clause-checked : goal.returns-clause-checked
returns-clause-checked c =
    let field = field_parts c.args.field in
    c.with_checked.ensures
    ∙ entry_checked c.args.i c.args.checked.now c.in-Some.entry.now (stated_parts c.read_blob-are_fields.result.0) c.read_blob-are_fields.result.1
    c.entry_refusal-refusal.result c.read_blob-are_fields.ensures.fields c.read_blob-are_fields.ensures.blob c.entry_refusal-refusal.ensures
    ∙ sym (ap (with_entries c.args.i c.args.checked.now) (own_some (field.number == 2) field.value c.in-Some.entry.now c.in-Some.ensures)
    ∙ with-one c.args.i c.args.checked.now c.in-Some.entry.now)

-- and keeps it, where it is taken
pub returns-clause-kept : goal.returns-clause-kept
returns-clause-kept c = λ kept all.
    let field = field_parts c.args.field in
    let own = own_some (field.number == 2) field.value c.in-Some.entry.now c.in-Some.ensures in
    let taken = (subst (λ (l : List (List ℕ)). AllByRecursion IsTakenEntry l) own all).0 in
    let is = c.read_blob-are_fields.ensures.blob taken.fields in
    let blob = subst (λ (s : StatedBlob). IsTaken s) (sym is) taken.blob in
    c.keep_blob.ensures kept
    (c.is_taken.ensures
    ∙ taken_fine c.args.i c.args.checked.now.count (stated_parts c.read_blob-are_fields.result.0) c.read_blob-are_fields.result.1 c.entry_refusal-refusal.result
    c.entry_refusal-refusal.ensures (c.read_blob-are_fields.ensures.fields ∙ taken.fields) blob)
    ∙ ap (λ (s : StatedBlob). c.args.blobs.now.items ++ (blob_of s ∷ [])) is
    ∙ sym (ap (with_blobs c.args.blobs.now.items) own)
