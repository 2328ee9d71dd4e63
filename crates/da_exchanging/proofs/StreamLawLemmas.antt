-- What import and export of what is found of a namespace in the rows of a header say of each other.
use Rattle.std.proofs.Common.{◌≡◌, ◌∙◌, ◌+◌, ◌≤◌, ◌<◌, ◌^◌, ℕ, zero, suc, Bool, true, false, List, [], ◌∷◌, length, Some, None, Result, Ok, Err, refl, sym, ap, subst, arith, nat_le, le-leb}
use Rattle.std.specs.List.{AllByRecursion, filter, list_all}
use Rattle.std.proofs.lemmas.Bool.{and_parts, and_from}
use Rattle.std.proofs.lemmas.List.Elements.{All-filter, All-from_recursion, recursion_from_All}
use Rattle.namespace_id.specs.declared.namespaces.Namespace as names
use Rattle.namespace_id.specs.Cells.{is_width}
use Rattle.namespace_id.specs.Lists.{ascending}
use Rattle.namespace_id.specs.Sizes.{greatest_width}
use Rattle.namespace_id.proofs.WidthLemmas.{is_width-le}
use Rattle.data_header.specs.Headers.{Roots}
use Rattle.axis_roots.specs.declared.answers.NsEntry.{NsEntry}
use Rattle.axis_roots.specs.Answers.{AreEntries}
use Rattle.square_serve.specs.Answers.{is_wanted, wanted_rows}
use Rattle.celestia_pb.specs.NamespaceData.{namespace_data_text, has_part, has_stream, namespace_data_value, rows_of, HaveMessages, NamespaceDataIsRead, ReadIsNamespaceData}
use Rattle.da_wire.specs.declared.frames.Frame.TheVariants as frames
use Rattle.da_wire.specs.Spelling.{spelling, names_kind}
use Rattle.da_wire.specs.Reading.{only_of}
use Rattle.da_wire.specs.Laws.{OnlyIsSpelled, SpelledIsOnly}
use Rattle.da_status.specs.declared.status.Asked.TheVariants.{Form}
use Rattle.da_status.specs.declared.status.Status.TheVariants.{Done}
use Rattle.da_status.specs.Judging.{Judged}
use Rattle.da_status.specs.Outcome.{Relation}
use Rattle.da_files.specs.Contents.{file_of}
use Rattle.da_files.specs.Frames.{header_in, single_file, error_of, Writes}
use Rattle.da_files.specs.Forms.{Over}
use Rattle.da_files.proofs.FormLemmas.{single_is}
use Rattle.da_files.proofs.FileLemmas.{header_file, single_value}
use Rattle.da_words.specs.declared.forms.ExportForm.TheVariants as to
use Rattle.da_exchanging.specs.Answers.{ns_answer_of}
use Rattle.da_exchanging.specs.NamespaceData.{data_under, bad_data, entries_of, entries_in, StreamBy, StreamOf}
use Rattle.da_exchanging.specs.Laws.{Exports, ImportsUnder, NamespaceDataIsExportedBack, NamespaceDataIsImportedBack}
use Rattle.da_exchanging.proofs.NamespaceDataLemmas.{by_header, by_data, answer_few, stream_is}
use Rattle.da_exchanging.proofs.LawLemmas.{not_refused, not_asked, file_spelled, answer_made}

-- ---- entries of rows that may hold a namespace

-- numbers that end at or before one are below it
ascending_below : (end first count : ℕ) → first + count ≤ end → AllByRecursion (λ (row : ℕ). row < end) (ascending first count)
unfolding ascending
ascending_below end first zero le = tt
ascending_below end first (suc count) le = (omega arith, ascending_below end (suc first) count (omega arith))

-- numbers of a list that pass a test are below what all are
filter_below : (end : ℕ) (test : ℕ → Bool) (rows : List ℕ) → AllByRecursion (λ (row : ℕ). row < end) rows
    → AllByRecursion (λ (row : ℕ). row < end) (filter test rows)
filter_below end test rows all =
    let Below : ℕ → Type 0 = λ row. row < end in
    recursion_from_All Below (filter test rows) (All-filter test Below rows (All-from_recursion Below rows all))

-- the rows have two bytes
rows_short : (header : Roots) (name : names.Namespace) → is_width header.k ≡ true → AllByRecursion (λ (row : ℕ). row < 2 ^ 16) (wanted_rows header name)
rows_short header name width =
    filter_below (2 ^ 16) (is_wanted header name) (ascending 0 header.k)
    (ascending_below (2 ^ 16) 0 header.k (omega (arith, is_width-le header.k width)))

-- so have the entries, which have messages
entries_of_rows : (answer : List NsEntry) → AllByRecursion (λ (row : ℕ). row < 2 ^ 16) (rows_of answer) → HaveMessages answer → AreEntries answer
entries_of_rows [] short have = tt
entries_of_rows (entry ∷ answer) short have = (record { row = short.0; found = have.0.is }, entries_of_rows answer short.1 have.1)

-- ---- entries with messages, and their stream

all_parts : (answer : List NsEntry) → HaveMessages answer → list_all has_part answer ≡ true
all_parts [] have = refl
all_parts (entry ∷ answer) have = and_from (has_part entry) (list_all has_part answer) have.0.has (all_parts answer have.1)

messages_of : (answer : List NsEntry) → AreEntries answer → list_all has_part answer ≡ true → HaveMessages answer
messages_of [] are all = tt
messages_of (entry ∷ answer) are all =
    let both = and_parts (has_part entry) (list_all has_part answer) all in
    (record { is = are.0.found; has = both.0 }, messages_of answer are.1 both.1)

-- bytes that were written are those of a stream that there is
written_stream : (b : Bool) (answer : List NsEntry) (bytes : List ℕ) → StreamBy b answer bytes Done → (b ≡ true) × (bytes ≡ namespace_data_text answer)
written_stream true answer bytes h = (refl, h.0)
written_stream false answer bytes h = absurd (not_asked Form h.1)

-- a text that is an answer is read as its entries
entries_read : (name : names.Namespace) (answer : List NsEntry) (text : List ℕ) → only_of text (names_kind ∷ []) ≡ Ok (frames.Names name answer)
    → entries_in text ≡ Ok answer
entries_read name answer text read = ap (single_file entries_of) read

-- ---- what was imported under a header

module _ (name : names.Namespace) (header bytes text : List ℕ) where
  -- a header and entries that were read, with their frame
  record IsUnder : Type 0 where
    roots : Roots
    answer : List NsEntry
    there : header_in header ≡ Ok roots
    read : data_under name roots bytes ≡ Ok answer
    spelled : spelling (frames.Names name answer) ≡ Some text

  data_there : (roots : Roots) → header_in header ≡ Ok roots → (read : Result (List NsEntry) ℕ) → data_under name roots bytes ≡ read
      → Judged (error_of read ∷ None ∷ []) (Over read (λ answer. Writes (frames.Names name answer))) text Done → IsUnder
  data_there roots there (Ok answer) is h = record { roots = roots; answer = answer; there = there; read = is; spelled = h.0 }
  data_there roots there (Err at) is h = absurd (not_refused 0 at h.1)

  header_there : (read : Result Roots ℕ) → header_in header ≡ read
      → Judged (bad_data name read bytes ∷ error_of read ∷ [])
      (Over read (λ roots. Over (data_under name roots bytes) (λ answer. Writes (frames.Names name answer)))) text Done
      → IsUnder
  header_there (Ok roots) there h = data_there roots there (data_under name roots bytes) refl h
  header_there (Err at) there h = absurd (not_refused 1 at h.1)

  under_there : ImportsUnder name header bytes text → IsUnder
  unfolding file_of
  under_there h = header_there (header_in header) refl h

-- ---- both ways

exported_of : (text bytes : List ℕ) (answer : List NsEntry) → entries_in text ≡ Ok answer → StreamOf answer bytes Done → Exports to.NamespaceData text bytes
unfolding file_of
exported_of text bytes answer read h = subst (λ (R : Relation). R bytes Done) (single_is StreamOf (entries_in text) answer read) h

stream_of : (text bytes : List ℕ) (answer : List NsEntry) → entries_in text ≡ Ok answer → Exports to.NamespaceData text bytes → StreamOf answer bytes Done
unfolding file_of
stream_of text bytes answer read h = subst (λ (R : Relation). R bytes Done) (sym (single_is StreamOf (entries_in text) answer read)) h

pub stream_exported : OnlyIsSpelled → SpelledIsOnly → ReadIsNamespaceData → NamespaceDataIsExportedBack
stream_exported only again law = λ name header bytes text is_name header_fits fits made.
    let under = under_there name header bytes text made in
    let width = ((header_file only header under.roots header_fits).0 under.there).0.roots.width in
    let is = law (wanted_rows under.roots name) bytes under.answer fits under.read in
    let short = subst (λ (rows : List ℕ). AllByRecursion (λ (row : ℕ). row < 2 ^ 16) rows) (sym is.0) (rows_short under.roots name width) in
    let read = again (frames.Names name under.answer) text (names_kind ∷ []) (is_name, entries_of_rows under.answer short is.1) under.spelled refl in
    let few = le-leb (length under.answer) greatest_width (answer_few under.roots name under.answer width is.0) in
    let has = and_from (nat_le (length under.answer) greatest_width) (list_all has_part under.answer) few (all_parts under.answer is.1) in
    exported_of text bytes under.answer (entries_read name under.answer text read) (stream_is under.answer bytes has (is.2, refl))

imported_under : (name : names.Namespace) (answer : List NsEntry) (roots : Roots) (header bytes text : List ℕ) → header_in header ≡ Ok roots
    → data_under name roots bytes ≡ Ok answer → spelling (frames.Names name answer) ≡ Some text → ImportsUnder name header bytes text
unfolding file_of
imported_under name answer roots header bytes text there read spelled =
    subst (λ (R : Relation). R text Done)
    (sym (ap (by_header name (bytes ∷ header ∷ [])) there ∙ ap (by_data name) read)) (spelled, refl)

pub stream_imported : OnlyIsSpelled → NamespaceDataIsRead → NamespaceDataIsImportedBack
stream_imported only law = λ name answer roots header bytes text fits read there rows told.
    let is = file_spelled ns_answer_of (λ x. frames.Names x.0 x.1) answer_made (λ x. refl) only (names_kind ∷ []) text (name, answer) fits read in
    let frame = single_value ns_answer_of (λ x. frames.Names x.0 x.1) answer_made (λ x. refl) (only_of text (names_kind ∷ [])) (name, answer) read in
    let written = written_stream (has_stream answer) answer bytes (stream_of text bytes answer (entries_read name answer text frame) told) in
    let parts = and_parts (nat_le (length answer) greatest_width) (list_all has_part answer) written.0 in
    let have = messages_of answer is.0.1 parts.1 in
    let under : data_under name roots bytes ≡ Ok answer =
    ap (namespace_data_value (wanted_rows roots name)) written.1
    ∙ ap (λ (l : List ℕ). namespace_data_value l (namespace_data_text answer)) (sym rows)
    ∙ law answer have in
    imported_under name answer roots header bytes text there under is.1
