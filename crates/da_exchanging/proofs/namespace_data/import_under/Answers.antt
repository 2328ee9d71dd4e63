use Rattle.std.proofs.Common.{◌∙◌, List, subst}
use Rattle.data_header.specs.Headers.{Roots, AreRoots}
use Rattle.axis_roots.specs.declared.answers.NsEntry.{NsEntry}
use Rattle.da_files.specs.Contents.{contents_of}
use Rattle.da_exchanging.proofs.NamespaceDataLemmas.{read_short, data_made, no_data}
use Rattle.da_exchanging.proofs.namespace_data.import_under.Goals as goal

-- entries that were read are short enough to be written
pub answer_frame-requires : goal.answer_frame-requires
answer_frame-requires c =
    let answer : List NsEntry = c.in-Ok-read_namespace_data.answer in
    let h = c.namespace_data_laws.ensures.spelled c.deref.result.now c.file-bytes.result.now answer c.bytes_law.ensures
    c.in-Ok-read_namespace_data.ensures.answer in
    read_short c.args.header c.args.name answer (subst (λ (r : Roots). AreRoots r) c.header.view_is c.header.invariant).width
    (h.0 ∙ c.deref.ensures.value ∙ c.in-Ok.ensures) h.1

-- the frame of the entries that were read
pub returns-in-Ok-read_namespace_data : goal.returns-in-Ok-read_namespace_data
returns-in-Ok-read_namespace_data c =
    data_made c.args.name (contents_of c.args.files.now) c.args.header c.requires c.deref.result.now c.file-bytes.result.now
    (c.deref.ensures.value ∙ c.in-Ok.ensures) c.file-bytes.ensures c.in-Ok-read_namespace_data.answer c.answer_frame.result _
    c.in-Ok-read_namespace_data.ensures.answer c.answer_frame.ensures.value c.frame_text.ensures

-- the bytes are no stream
pub returns : goal.returns
returns c =
    no_data c.args.name (contents_of c.args.files.now) c.args.header c.requires c.deref.result.now c.file-bytes.result.now
    (c.deref.ensures.value ∙ c.in-Ok.ensures) c.file-bytes.ensures c.in-Err-read_namespace_data.why _ c.message_refusal.ensures
    c.in-Err-read_namespace_data.ensures.at
