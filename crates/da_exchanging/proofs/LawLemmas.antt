-- What import and export say of each other, by what of a form is promised.
use Rattle.std.proofs.Common.{◌≡◌, ◌∙◌, ◌<◌, ◌^◌, ℕ, Bool, true, false, cond, List, [], ◌∷◌, Some, None, Result, Ok, Err, refl, sym, ap, subst, arith}
use Rattle.std.specs.declared.option.Option.{Option}
use Rattle.std.specs.Option.{option_map_or}
use Rattle.std.proofs.lemmas.Option.{same_Some}
use Rattle.namespace_id.specs.declared.cells.Cell.{Cell}
use Rattle.namespace_id.specs.declared.namespaces.Namespace as names
use Rattle.namespace_id.specs.Bytes.{AreBytes}
use Rattle.namespace_id.specs.Names.{IsNamespace}
use Rattle.axis_roots.specs.declared.answers.NsEntry.{NsEntry}
use Rattle.axis_roots.specs.declared.message.messages.Message as sent
use Rattle.axis_roots.specs.Answers.{IsEntry}
use Rattle.axis_roots.specs.Claims.{ClaimParts}
use Rattle.celestia_pb.specs.declared.sample.Sample.{Sample}
use Rattle.celestia_pb.proofs.Steps.{same_ok}
use Rattle.celestia_pb.specs.Headers.{dah_text, dah_value}
use Rattle.celestia_pb.specs.Laws.{DahIsRead, ReadIsDah}
use Rattle.celestia_pb.specs.Samples.{IsSample, sample_value}
use Rattle.namespace_id.specs.Cells.{IsCell}
use Rattle.celestia_pb.specs.SampleLaws.{SampleIsRead, ReadIsSample}
use Rattle.celestia_pb.specs.Ids.{sample_id_text, namespace_id_text, sample_id_value, namespace_id_value, SampleIdIsRead, ReadIsSampleId, NamespaceIdIsRead, ReadIsNamespaceId}
use Rattle.celestia_pb.specs.Ods.{ods_text, ods_value, OdsIsRead, ReadIsOds}
use Rattle.celestia_pb.specs.Befp.{befp_text, befp_value}
use Rattle.celestia_pb.specs.Befp as claims
use Rattle.celestia_pb.specs.BefpLaws as befp
use Rattle.celestia_pb.specs.RowData.{found_has_message, found_message, row_value}
use Rattle.celestia_pb.specs.RowDataLaws.{FoundHasMessage, RowIsRead, ReadIsRow}
use Rattle.da_wire.specs.declared.frames.Frame.{Frame}
use Rattle.da_wire.specs.declared.frames.Frame.TheVariants as frames
use Rattle.da_wire.specs.Spelling.{spelling, IsFrame, header_kind, square_kind, message_kind, names_kind, fraud_kind, sample_kind, request_kind}
use Rattle.da_wire.specs.Writing.{kind_of}
use Rattle.da_wire.specs.Reading.{is_among, only_of}
use Rattle.da_wire.specs.Laws.{OnlyIsSpelled, SpelledIsOnly}
use Rattle.da_wire.specs.Single.{header_of, square_of, message_of, claim_of}
use Rattle.da_status.specs.declared.status.Asked.{Asked}
use Rattle.da_status.specs.declared.status.Asked.TheVariants.{Form}
use Rattle.da_status.specs.declared.status.Status.{Status}
use Rattle.da_status.specs.declared.status.Status.TheVariants.{Done, BadInput, BadRequest}
use Rattle.da_status.specs.Judging.{Judged}
use Rattle.da_status.specs.Outcome.{Relation}
use Rattle.da_files.specs.Contents.{file_of}
use Rattle.da_files.specs.Frames.{single_file, error_of, Writes, WritesText}
use Rattle.da_files.specs.Requests.{namespace_of}
use Rattle.da_files.specs.Forms.{Over, single_judged}
use Rattle.da_files.proofs.FormLemmas.{single_is}
use Rattle.da_files.proofs.FileLemmas.{header_file, square_file, single_value}
use Rattle.da_words.specs.declared.forms.ImportForm.TheVariants as from
use Rattle.da_words.specs.declared.forms.ExportForm.TheVariants as to
use Rattle.da_exchanging.specs.Made.{WritesIf}
use Rattle.da_exchanging.specs.Sample.{sample_frame, message_text}
use Rattle.da_exchanging.specs.Ids.{cell_of, row_request}
use Rattle.da_exchanging.specs.Answers.{ns_answer_of}
use Rattle.da_exchanging.specs.RowData.{row_frame, answer_message}
use Rattle.da_exchanging.specs.Befp.{claim_message}
use Rattle.da_exchanging.proofs.MadeLemmas.{has_written}
use Rattle.da_exchanging.specs.Laws.{IsExportedBack, IsImportedBack, SampleIsImportedBack, RowDataIsImportedBack, BefpIsExportedBack, BefpIsImportedBack, SampleIdIsImportedBack}

-- a refusal of a file isn't done
pub not_refused : (i at : ℕ) → ◌≡◌ {A = Status} Done (BadInput i at) → ⊥
not_refused i at e = absurd cc

-- nor is one of what it asks for
pub not_asked : (why : Asked) → ◌≡◌ {A = Status} Done (BadRequest why) → ⊥
not_asked why e = absurd cc

-- ---- one file each

module _ {A B : Type 0} (value : List ℕ → Result A ℕ) (frame : A → Frame) (shown : A → B) (of : Frame → Option B) (kinds : List ℕ) (Answer : B → Relation) where
  -- `import` makes this text of these bytes
  abbrev Made : List ℕ → List ℕ → Type 0
  Made bytes text = Judged (single_judged value (bytes ∷ [])) (Over (value (file_of (bytes ∷ []) 0)) (λ x. Writes (frame x))) text Done

  -- `export` makes these bytes of this text
  abbrev Told : List ℕ → List ℕ → Type 0
  Told text bytes =
      Judged (single_judged (λ b. single_file of (only_of b kinds)) (text ∷ [])) (Over (single_file of (only_of (file_of (text ∷ []) 0) kinds)) Answer) bytes Done

  -- a frame of the kind that has a value is read as the value
  told_value : (text : List ℕ) (x : A) → of (frame x) ≡ Some (shown x) → only_of text kinds ≡ Ok (frame x) → single_file of (only_of text kinds) ≡ Ok (shown x)
  told_value text x seen read =
      ap (single_file of) read ∙ ap (λ (o : Option B). option_map_or {U = Result B ℕ} Ok o (Err 0)) seen

  -- a value that was read of bytes is one of the kind, and the bytes answer it
  abbrev Goes : List ℕ → A → Type 0
  Goes bytes x = IsFrame (frame x) × (is_among kinds (kind_of (frame x)) ≡ true) × (of (frame x) ≡ Some (shown x)) × Answer (shown x) bytes Done

  -- by what is read of the bytes
  exported_by : SpelledIsOnly → (bytes text : List ℕ) (read : Result A ℕ) → ((x : A) → read ≡ Ok x → Goes bytes x)
      → Judged (error_of read ∷ []) (Over read (λ x. Writes (frame x))) text Done
      → Judged (error_of (single_file of (only_of text kinds)) ∷ []) (Over (single_file of (only_of text kinds)) Answer) bytes Done
  exported_by again bytes text (Err at) law h = absurd (not_refused 0 at h.1)
  exported_by again bytes text (Ok x) law h =
      let goes = law x refl in
      let read = told_value text x goes.2 (again (frame x) text kinds goes.0 h.0 goes.1) in
      subst (λ (R : Relation). R bytes Done) (single_is Answer (single_file of (only_of text kinds)) (shown x) read) goes.3

  -- what is imported is exported
  pub exported_back : SpelledIsOnly → (bytes text : List ℕ) → ((x : A) → value bytes ≡ Ok x → Goes bytes x) → Made bytes text → Told text bytes
  unfolding file_of
  exported_back again bytes text law h = exported_by again bytes text (value bytes) law h

  -- a value that was read of a text is that of these bytes
  abbrev Comes : List ℕ → List ℕ → Type 0
  Comes bytes text = (x : A) × (value bytes ≡ Ok x) × (spelling (frame x) ≡ Some text)

  -- by what is read of a text
  imported_by : (bytes text : List ℕ) (read : Result B ℕ) → ((y : B) → read ≡ Ok y → Answer y bytes Done → Comes bytes text)
      → Judged (error_of read ∷ []) (Over read Answer) bytes Done
      → Judged (error_of (value bytes) ∷ []) (Over (value bytes) (λ x. Writes (frame x))) text Done
  imported_by bytes text (Err at) law h = absurd (not_refused 0 at h.1)
  imported_by bytes text (Ok y) law h =
      let comes = law y refl h in
      subst (λ (R : Relation). R text Done) (single_is (λ (x : A). Writes (frame x)) (value bytes) comes.0 comes.1) (comes.2, refl)

  -- what is exported is imported as another text
  pub imported_as : (bytes text again : List ℕ) → ((y : B) → single_file of (only_of text kinds) ≡ Ok y → Answer y bytes Done → Comes bytes again)
      → Told text bytes → Made bytes again
  unfolding file_of
  imported_as bytes text again law h = imported_by bytes again (single_file of (only_of text kinds)) law h

  -- what is exported is imported
  pub imported_back : (bytes text : List ℕ) → ((y : B) → single_file of (only_of text kinds) ≡ Ok y → Answer y bytes Done → Comes bytes text) → Told text bytes → Made bytes text
  imported_back bytes text law h = imported_as bytes text text law h

-- a file that is read as a value is the one spelling of the value's frame
pub file_spelled : {A : Type 0} (of : Frame → Option A) (make : A → Frame) → ((frame : Frame) (x : A) → of frame ≡ Some x → frame ≡ make x)
    → ((x : A) → of (make x) ≡ Some x) → OnlyIsSpelled → (kinds text : List ℕ) (x : A) → AreBytes text → single_file of (only_of text kinds) ≡ Ok x
    → IsFrame (make x) × (spelling (make x) ≡ Some text)
file_spelled of make is_made is_value only kinds text x fits e =
    let is = (only (make x) text kinds fits).0 (single_value of make is_made is_value (only_of text kinds) x e) in (is.0, is.1)

-- ---- headers

pub dah_exported : SpelledIsOnly → ReadIsDah → IsExportedBack from.Dah to.Dah
dah_exported again law = λ bytes text fits made.
    exported_back dah_value frames.Header (λ x. x) header_of (header_kind ∷ []) (λ x. WritesText Done (dah_text x)) again bytes text
    (λ x e. let is = law bytes x fits e in (is.0, refl, refl, (is.1, refl))) made

pub dah_imported : OnlyIsSpelled → DahIsRead → IsImportedBack from.Dah to.Dah
dah_imported only law = λ bytes text fits told.
    imported_back dah_value frames.Header (λ x. x) header_of (header_kind ∷ []) (λ x. WritesText Done (dah_text x)) bytes text
    (λ y e answer. let is = (header_file only text y fits).0 e in (y, ap dah_value answer.0 ∙ law y is.0, is.1)) told

-- ---- squares

pub ods_exported : SpelledIsOnly → ReadIsOds → IsExportedBack from.Ods to.Ods
ods_exported again law = λ bytes text fits made.
    exported_back ods_value frames.Square (λ x. x) square_of (square_kind ∷ []) (λ x. WritesText Done (ods_text x)) again bytes text
    (λ x e. let is = law bytes x fits e in (is.0, refl, refl, (is.1, refl))) made

pub ods_imported : OnlyIsSpelled → OdsIsRead → IsImportedBack from.Ods to.Ods
ods_imported only law = λ bytes text fits told.
    imported_back ods_value frames.Square (λ x. x) square_of (square_kind ∷ []) (λ x. WritesText Done (ods_text x)) bytes text
    (λ y e answer. let is = (square_file only text y fits).0 e in (y, ap ods_value answer.0 ∙ law y is.0 is.1, is.2)) told

-- ---- samples

-- a sample of a cell, as it is sent
abbrev sent_of : Cell → Sample → sent.Message
sent_of cell x = record { cell = cell; axis = x.axis; share = x.share; path = x.path }

-- a sample that is sent, without its cell
abbrev sample_of : sent.Message → Sample
sample_of m = record { axis = m.axis; share = m.share; path = m.path }

-- a frame of a sample is that sample's
message_made : (frame : Frame) (m : sent.Message) → message_of frame ≡ Some m → frame ≡ frames.Message m
message_made (frames.Message n) m e = cc
message_made frame m e = absurd cc

pub sample_exported : SpelledIsOnly → ReadIsSample → (cell : Cell) → IsCell cell → IsExportedBack (from.Sample cell) to.Sample
sample_exported again law cell in_cell = λ bytes text fits made.
    exported_back (sample_value cell) (sample_frame cell) (sent_of cell) message_of (message_kind ∷ []) (λ m. WritesText Done (message_text m)) again bytes text
    (λ x e.
    let is = law cell bytes x fits e in (
      record { row = in_cell.row; col = in_cell.col; share = is.0.share; few = is.0.few; nodes = is.0.nodes },
      refl,
      refl,
      (is.1, refl),
    ))
    made

pub sample_imported : OnlyIsSpelled → SampleIsRead → SampleIsImportedBack
sample_imported only law = λ bytes text m fits read told.
    imported_back (sample_value m.cell) (sample_frame m.cell) (sent_of m.cell) message_of (message_kind ∷ []) (λ n. WritesText Done (message_text n)) bytes text
    (λ y e answer.
    let is = file_spelled message_of frames.Message message_made (λ x. refl) only (message_kind ∷ []) text m fits read in
    let same : y ≡ m = same_ok y m (sym e ∙ read) in
    let of_cell : IsCell m.cell = record { row = is.0.row; col = is.0.col } in
    let sample : IsSample (sample_of m) = record { share = is.0.share; few = is.0.few; nodes = is.0.nodes } in
    (sample_of m, ap (sample_value m.cell) (answer.0 ∙ ap message_text same) ∙ law m.cell (sample_of m) of_cell sample, is.1))
    told

-- ---- what is found in a row

-- a frame of an answer is that answer's
pub answer_made : (frame : Frame) (x : names.Namespace × List NsEntry) → ns_answer_of frame ≡ Some x → frame ≡ frames.Names x.0 x.1
answer_made (frames.Names name entries) x e = ap (λ (y : names.Namespace × List NsEntry). frames.Names y.0 y.1) (same_Some (name, entries) x e)
answer_made frame x e = absurd cc

pub row_data_exported : SpelledIsOnly → ReadIsRow → (row : ℕ) (name : names.Namespace) → row < 2 ^ 16 → IsNamespace name
    → IsExportedBack (from.RowData row name) to.RowData
row_data_exported again law row name short is_name = λ bytes text fits made.
    exported_back (row_value row) (row_frame name) (λ x. (name, x ∷ [])) ns_answer_of (names_kind ∷ []) (λ read. WritesIf (answer_message read.1)) again bytes text
    (λ x e.
    let is = law row bytes x fits e in
    let entry : IsEntry x = record { row = subst (λ (n : ℕ). n < 2 ^ 16) (sym is.0) short; found = is.1.is } in (
      (is_name, (entry, tt)),
      refl,
      refl,
      subst (λ (b : Bool). WritesIf (cond b (Some (found_message x.found)) None) bytes Done) (sym is.1.has) (is.2, refl),
    ))
    made

-- bytes that were written are those of a message that there is
written_message : (b : Bool) (bytes text : List ℕ) → WritesIf (cond b (Some text) None) bytes Done → (b ≡ true) × (bytes ≡ text)
written_message true bytes text h = (refl, h.0)
written_message false bytes text h = absurd (not_asked Form h.1)

pub row_data_imported : OnlyIsSpelled → RowIsRead → RowDataIsImportedBack
row_data_imported only law = λ bytes text name entry fits read told.
    imported_back (row_value entry.row) (row_frame name) (λ x. (name, x ∷ [])) ns_answer_of (names_kind ∷ []) (λ read. WritesIf (answer_message read.1)) bytes text
    (λ y e answer.
    let is = file_spelled ns_answer_of (λ x. frames.Names x.0 x.1) answer_made (λ x. refl) only (names_kind ∷ []) text (name, entry ∷ []) fits read in
    let same = same_ok y (name, entry ∷ []) (sym e ∙ read) in
    let written = written_message (found_has_message entry.found) bytes (found_message entry.found)
    (subst (λ (x : names.Namespace × List NsEntry). WritesIf (answer_message x.1) bytes Done) same answer) in
    let has : FoundHasMessage entry.found = record { is = is.0.1.0.found; has = written.0 } in
    (entry, ap (row_value entry.row) written.1 ∙ law entry.row entry.found has, is.1))
    told

-- ---- claims

-- a frame of a claim is that claim's
claim_made : (frame : Frame) (claim : ClaimParts) → claim_of frame ≡ Some claim → frame ≡ frames.Fraud claim
claim_made (frames.Fraud other) claim e = cc
claim_made frame claim e = absurd cc

pub befp_exported : SpelledIsOnly → befp.BefpIsRead → BefpIsExportedBack
befp_exported again law = λ k hash height claim text long short has made.
    let bytes : List ℕ = befp_text 1 k hash height claim in
    let Answer : ClaimParts → Relation = λ x. WritesIf (claim_message k hash height x) in
    exported_back (befp_value hash height) frames.Fraud (λ x. x) claim_of (fraud_kind ∷ []) Answer again bytes text
    (λ x e.
    subst (λ (y : ClaimParts). Goes (befp_value hash height) frames.Fraud (λ z. z) claim_of (fraud_kind ∷ []) Answer bytes y)
    (same_ok claim x (sym (law 1 k hash height claim (omega arith) long short has) ∙ e))
    (has.is, refl, refl, has_written (claims.claim_has_message k claim) bytes bytes has.has refl))
    made

pub befp_imported : OnlyIsSpelled → befp.BefpIsRead → BefpIsImportedBack
befp_imported only law = λ k hash height bytes text long short fits told.
    imported_back (befp_value hash height) frames.Fraud (λ x. x) claim_of (fraud_kind ∷ []) (λ x. WritesIf (claim_message k hash height x)) bytes text
    (λ y e answer.
    let is = file_spelled claim_of frames.Fraud claim_made (λ x. refl) only (fraud_kind ∷ []) text y fits e in
    let written = written_message (claims.claim_has_message k y) bytes (befp_text 1 k hash height y) answer in
    let has : befp.ClaimHasMessage k y = record { is = is.0; has = written.0 } in
    (y, ap (befp_value hash height) written.1 ∙ law 1 k hash height y (omega arith) long short has, is.1))
    told

-- ---- identifiers

pub sample_id_exported : SpelledIsOnly → ReadIsSampleId → (height : ℕ) → IsExportedBack (from.SampleId height) (to.SampleId height)
sample_id_exported again law height = λ bytes text fits made.
    exported_back (sample_id_value height) row_request (λ x. x) cell_of (sample_kind ∷ []) (λ x. WritesText Done (sample_id_text height x)) again bytes text
    (λ x e. let is = law height bytes x fits e in (record { row = is.0.row; col = is.0.col }, refl, refl, (is.1, refl))) made

pub sample_id_imported : OnlyIsSpelled → SampleIdIsRead → SampleIdIsImportedBack
sample_id_imported only law = λ height bytes text again cell axis fits read spelled told.
    imported_as (sample_id_value height) row_request (λ x. x) cell_of (sample_kind ∷ []) (λ x. WritesText Done (sample_id_text height x)) bytes text again
    (λ y e answer.
    let is = (only (frames.Sample cell axis) text (sample_kind ∷ []) fits).0 read in
    let same : y ≡ cell = same_ok y cell (sym e ∙ ap (single_file cell_of) read) in
    let of_cell : IsCell cell = record { row = is.0.row; col = is.0.col } in
    (cell, ap (sample_id_value height) (answer.0 ∙ ap (sample_id_text height) same) ∙ law height cell of_cell, spelled))
    told

-- a frame of a request for a namespace is that namespace's
request_made : (frame : Frame) (name : names.Namespace) → namespace_of frame ≡ Some name → frame ≡ frames.Request name
request_made (frames.Request other) name e = cc
request_made frame name e = absurd cc

pub namespace_id_exported : SpelledIsOnly → ReadIsNamespaceId → (height : ℕ) → IsExportedBack (from.NamespaceId height) (to.NamespaceId height)
namespace_id_exported again law height = λ bytes text fits made.
    exported_back (namespace_id_value height) frames.Request (λ x. x) namespace_of (request_kind ∷ []) (λ x. WritesText Done (namespace_id_text height x))
    again bytes text (λ x e. let is = law height bytes x fits e in (is.0, refl, refl, (is.1, refl))) made

pub namespace_id_imported : OnlyIsSpelled → NamespaceIdIsRead → (height : ℕ) → IsImportedBack (from.NamespaceId height) (to.NamespaceId height)
namespace_id_imported only law height = λ bytes text fits told.
    imported_back (namespace_id_value height) frames.Request (λ x. x) namespace_of (request_kind ∷ []) (λ x. WritesText Done (namespace_id_text height x))
    bytes text
    (λ y e answer.
    let is = file_spelled namespace_of frames.Request request_made (λ x. refl) only (request_kind ∷ []) text y fits e in
    (y, ap (namespace_id_value height) answer.0 ∙ law height y is.0, is.1))
    told
