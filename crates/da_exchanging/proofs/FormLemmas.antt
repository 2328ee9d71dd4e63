-- What import and export answer is an answer, by the form.
use Rattle.std.proofs.Common.{ℕ, List}
use Rattle.celestia_pb.specs.Headers.{dah_text, dah_value}
use Rattle.celestia_pb.specs.Samples.{sample_value}
use Rattle.celestia_pb.specs.Ids.{sample_id_text, namespace_id_text, sample_id_value, namespace_id_value}
use Rattle.celestia_pb.specs.ShareProofs.{share_proof_value}
use Rattle.celestia_pb.specs.Ods.{ods_text, ods_value}
use Rattle.da_wire.specs.declared.frames.Frame.TheVariants.{Header, Square, Request, Rooted, Fraud}
use Rattle.celestia_pb.specs.RowData.{row_value}
use Rattle.celestia_pb.specs.Befp.{befp_value}
use Rattle.da_status.specs.declared.status.Status.{Status}
use Rattle.da_status.specs.Statuses.{status_kind}
use Rattle.da_status.proofs.EndLemmas.{IsAnswer}
use Rattle.da_files.specs.Frames.{header_in, message_in, square_in, claim_in}
use Rattle.da_words.specs.declared.forms.ImportForm.{ImportForm}
use Rattle.da_words.specs.declared.forms.ImportForm.TheVariants as from
use Rattle.da_words.specs.declared.forms.ExportForm.{ExportForm}
use Rattle.da_words.specs.declared.forms.ExportForm.TheVariants as to
use Rattle.da_exchanging.specs.Sample.{sample_frame, message_text}
use Rattle.da_exchanging.specs.Ids.{asked_cell_in, asked_name_in, row_request}
use Rattle.da_exchanging.specs.Answers.{ns_answer_in}
use Rattle.da_exchanging.specs.RowData.{row_frame, answer_message}
use Rattle.da_exchanging.specs.Befp.{claim_message}
use Rattle.da_exchanging.specs.Forms.{ImportOf, ExportOf}
use Rattle.da_exchanging.proofs.MadeLemmas.{frames_answer, texts_answer, texts_if_answer}
use Rattle.da_exchanging.proofs.ShareProofLemmas.{share_proof_answers}
use Rattle.da_exchanging.proofs.HeaderLemmas.{header_answers}
use Rattle.da_exchanging.proofs.NamespaceDataLemmas as stream
use Rattle.da_exchanging.proofs.RowLemmas as half

-- what import answers to its files is an answer
pub import_answers : (form : ImportForm) (files : List (List ℕ)) (w : List ℕ) (status : Status) → ImportOf form files w status → IsAnswer (status_kind status)
import_answers from.Dah files w status h = frames_answer dah_value Header files w status h
import_answers from.Header files w status h = header_answers files w status h
import_answers (from.Sample cell) files w status h = frames_answer (sample_value cell) (sample_frame cell) files w status h
import_answers (from.RowData row name) files w status h = frames_answer (row_value row) (row_frame name) files w status h
import_answers (from.Befp hash height) files w status h = frames_answer (befp_value hash height) Fraud files w status h
import_answers (from.NamespaceData name) files w status h = stream.import_answers name files w status h
import_answers (from.Row row) files w status h = half.import_answers row files w status h
import_answers from.Ods files w status h = frames_answer ods_value Square files w status h
import_answers from.ShareProof files w status h = frames_answer share_proof_value Rooted files w status h
import_answers (from.SampleId height) files w status h = frames_answer (sample_id_value height) row_request files w status h
import_answers (from.NamespaceId height) files w status h = frames_answer (namespace_id_value height) Request files w status h

-- what export answers to its files is
pub export_answers : (form : ExportForm) (files : List (List ℕ)) (w : List ℕ) (status : Status) → ExportOf form files w status → IsAnswer (status_kind status)
export_answers to.Dah files w status h = texts_answer header_in dah_text files w status h
export_answers to.Sample files w status h = texts_answer message_in message_text files w status h
export_answers to.RowData files w status h = texts_if_answer ns_answer_in (λ read. answer_message read.1) files w status h
export_answers (to.Befp k hash height) files w status h = texts_if_answer claim_in (claim_message k hash height) files w status h
export_answers to.NamespaceData files w status h = stream.export_answers files w status h
export_answers to.Row files w status h = half.export_answers files w status h
export_answers to.Ods files w status h = texts_answer square_in ods_text files w status h
export_answers to.ShareProof files w status h = share_proof_answers files w status h
export_answers (to.SampleId height) files w status h = texts_answer asked_cell_in (sample_id_text height) files w status h
export_answers (to.NamespaceId height) files w status h = texts_answer asked_name_in (namespace_id_text height) files w status h
