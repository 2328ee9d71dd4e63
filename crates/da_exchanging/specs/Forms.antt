-- import FORM FILE, export FORM FILE: what they judge and answer, by the form.
use Rattle.std.specs.Prelude.{ℕ, List}
use Rattle.std.specs.declared.option.Option.{Option}
use Rattle.celestia_pb.specs.Headers.{dah_value}
use Rattle.celestia_pb.specs.Extended.{extended_value}
use Rattle.celestia_pb.specs.Samples.{sample_value}
use Rattle.celestia_pb.specs.HalfRows.{half_row_value}
use Rattle.celestia_pb.specs.Ids.{sample_id_value, namespace_id_value}
use Rattle.celestia_pb.specs.ShareProofs.{share_proof_value}
use Rattle.celestia_pb.specs.RowData.{row_value}
use Rattle.celestia_pb.specs.Befp.{befp_value}
use Rattle.celestia_pb.specs.Ods.{ods_value}
use Rattle.da_status.specs.Outcome.{Relation}
use Rattle.da_files.specs.Frames.{header_in, message_in, square_in, claim_in}
use Rattle.da_files.specs.Forms.{single_judged}
use Rattle.da_words.specs.declared.forms.ImportForm.{ImportForm}
use Rattle.da_words.specs.declared.forms.ImportForm.TheVariants as from
use Rattle.da_words.specs.declared.forms.ExportForm.{ExportForm}
use Rattle.da_words.specs.declared.forms.ExportForm.TheVariants as to
use Rattle.da_exchanging.specs.Dah.{ImportDahOf, ExportDahOf}
use Rattle.da_exchanging.specs.Header.{ImportHeaderOf}
use Rattle.da_exchanging.specs.Sample.{ImportSampleOf, ExportSampleOf}
use Rattle.da_exchanging.specs.Answers.{ns_answer_in}
use Rattle.da_exchanging.specs.RowData.{ImportRowDataOf, ExportRowDataOf}
use Rattle.da_exchanging.specs.Befp.{ImportBefpOf, ExportBefpOf}
use Rattle.da_exchanging.specs.NamespaceData.{namespace_data_judged, ImportNamespaceDataOf, entries_in, ExportNamespaceDataOf}
use Rattle.da_exchanging.specs.Ods.{ImportOdsOf, ExportOdsOf}
use Rattle.da_exchanging.specs.ShareProof.{rooted_in, ImportShareProofOf, ExportShareProofOf}
use Rattle.da_exchanging.specs.Row.{ImportRowOf, samples_judged, ExportRowOf}
use Rattle.da_exchanging.specs.Ids.{asked_cell_in, asked_name_in, ImportSampleIdOf, ExportSampleIdOf, ImportNamespaceIdOf, ExportNamespaceIdOf}

-- of each file of `import` where it leaves its form, if it does
abbrev pub import_judged : ImportForm → List (List ℕ) → List (Option ℕ)
import_judged from.Dah files = single_judged dah_value files
import_judged from.Header files = single_judged extended_value files
import_judged (from.Sample cell) files = single_judged (sample_value cell) files
import_judged (from.RowData row name) files = single_judged (row_value row) files
import_judged (from.Befp hash height) files = single_judged (befp_value hash height) files
import_judged (from.NamespaceData name) files = namespace_data_judged name files
import_judged (from.Row row) files = single_judged half_row_value files
import_judged from.Ods files = single_judged ods_value files
import_judged from.ShareProof files = single_judged share_proof_value files
import_judged (from.SampleId height) files = single_judged (sample_id_value height) files
import_judged (from.NamespaceId height) files = single_judged (namespace_id_value height) files

-- what `import` answers over files in their forms
abbrev pub ImportOf : ImportForm → List (List ℕ) → Relation
ImportOf from.Dah files = ImportDahOf files
ImportOf from.Header files = ImportHeaderOf files
ImportOf (from.Sample cell) files = ImportSampleOf cell files
ImportOf (from.RowData row name) files = ImportRowDataOf row name files
ImportOf (from.Befp hash height) files = ImportBefpOf hash height files
ImportOf (from.NamespaceData name) files = ImportNamespaceDataOf name files
ImportOf (from.Row row) files = ImportRowOf row files
ImportOf from.Ods files = ImportOdsOf files
ImportOf from.ShareProof files = ImportShareProofOf files
ImportOf (from.SampleId height) files = ImportSampleIdOf height files
ImportOf (from.NamespaceId height) files = ImportNamespaceIdOf height files

-- of each file of `export` where it leaves its form, if it does
abbrev pub export_judged : ExportForm → List (List ℕ) → List (Option ℕ)
export_judged to.Dah files = single_judged header_in files
export_judged to.Sample files = single_judged message_in files
export_judged to.RowData files = single_judged ns_answer_in files
export_judged (to.Befp k hash height) files = single_judged claim_in files
export_judged to.NamespaceData files = single_judged entries_in files
export_judged to.Row files = samples_judged files
export_judged to.Ods files = single_judged square_in files
export_judged to.ShareProof files = single_judged rooted_in files
export_judged (to.SampleId height) files = single_judged asked_cell_in files
export_judged (to.NamespaceId height) files = single_judged asked_name_in files

-- what `export` answers over files in their forms
abbrev pub ExportOf : ExportForm → List (List ℕ) → Relation
ExportOf to.Dah files = ExportDahOf files
ExportOf to.Sample files = ExportSampleOf files
ExportOf to.RowData files = ExportRowDataOf files
ExportOf (to.Befp k hash height) files = ExportBefpOf k hash height files
ExportOf to.NamespaceData files = ExportNamespaceDataOf files
ExportOf to.Row files = ExportRowOf files
ExportOf to.Ods files = ExportOdsOf files
ExportOf to.ShareProof files = ExportShareProofOf files
ExportOf (to.SampleId height) files = ExportSampleIdOf height files
ExportOf (to.NamespaceId height) files = ExportNamespaceIdOf height files
