-- Streams of what is found in rows: the rows that are asked of a header, the frames of entries, and what is answered to FILE and HEADER.
use Rattle.std.proofs.Common.{◌≡◌, ◌∙◌, ◌↔◌, ℕ, suc, ◌+◌, ◌≤◌, Bool, true, false, cond, List, [], ◌∷◌, ◌++◌, length, None, Result, Ok, Err, IsErrOf, Vec, Global, IsSome, refl, sym, ap, ap₂, subst, arith, leb-true, append-nil}
use Rattle.std.specs.Prelude.{not, nat_lt, nat_le}
use Rattle.std.specs.List.{filter, list_any}
use Rattle.std.proofs.lemmas.Bool.{and_parts, or_from, le-ltb}
use Rattle.std.proofs.lemmas.List.{length-map}
use Rattle.std.proofs.lemmas.List.Elements.{filter-append}
use Rattle.std.proofs.lemmas.List.Filters.{length-filter_both}
use Rattle.namespace_id.specs.declared.namespaces.Namespace as names
use Rattle.namespace_id.specs.Sizes.{greatest_width}
use Rattle.namespace_id.specs.Lists.{ascending}
use Rattle.namespace_id.proofs.AscendingLemmas.{length-ascending}
use Rattle.namespace_id.proofs.AscentLemmas.{ascending-last}
use Rattle.namespace_id.specs.Cells.{is_width}
use Rattle.namespace_id.proofs.WidthLemmas.{is_width-le}
use Rattle.data_header.specs.Headers.{Roots}
use Rattle.axis_roots.specs.declared.answers.Found.{Found}
use Rattle.axis_roots.specs.declared.answers.Found.TheVariants.{Range, Absence}
use Rattle.axis_roots.specs.declared.answers.NsEntry.{NsEntry}
use Rattle.square_serve.specs.Answers.{is_wanted, wanted_rows}
use Rattle.celestia_pb.specs.declared.errors.PbError.{PbError}
use Rattle.celestia_pb.specs.declared.errors.PbError.TheVariants as message
use Rattle.celestia_pb.specs.RowData.{found_has_message}
use Rattle.celestia_pb.specs.NamespaceData.{has_stream, namespace_data_value, rows_of, HaveMessages}
use Rattle.frame_payloads.specs.kinds.Names.{most_entries, is_long_found, is_long_entry, is_long_answer}
use Rattle.da_wire.specs.declared.frames.Frame.{Frame}
use Rattle.da_wire.specs.declared.frames.Frame.TheVariants.{Names}
use Rattle.da_wire.specs.Spelling.{names_kind}
use Rattle.da_wire.specs.Reading.{is_among}
use Rattle.da_wire.specs.Writing.{kind_of}
use Rattle.da_status.specs.declared.status.Asked.TheVariants.{Form}
use Rattle.da_status.specs.declared.status.Status.{Status}
use Rattle.da_status.specs.declared.status.Status.TheVariants.{Done, BadInput, BadRequest}
use Rattle.da_status.specs.Judging.{Judged}
use Rattle.da_status.specs.Outcome.{Relation}
use Rattle.da_status.specs.Statuses as statuses
use Rattle.da_status.proofs.EndLemmas.{IsAnswer, status_answers}
use Rattle.da_files.proofs.FormLemmas.{over_each}
use Rattle.da_files.specs.declared.frames.Unread.{Unread}
use Rattle.da_files.specs.declared.frames.Unread.TheVariants as unread
use Rattle.da_files.specs.Contents.{file_of}
use Rattle.da_files.specs.Frames.{header_in, error_of, ReadsSingle, Writes}
use Rattle.da_files.specs.Forms.{Over}
use Rattle.da_exchanging.specs.Made.{pb_refusal, IsMadeOutput}
use Rattle.da_exchanging.specs.NamespaceData.{data_under, bad_data, namespace_data_judged, header_refusal, ImportNamespaceDataOf, entries_of, entries_in, StreamBy, StreamOf, ExportNamespaceDataOf}
use Rattle.da_exchanging.proofs.MadeLemmas.{made_as}

-- ---- rows that may hold a namespace

-- those of the rows below one, and then the row, if it may
wanted_next : (header : Roots) (name : names.Namespace) (row : ℕ) (b : Bool) → is_wanted header name row ≡ b
    → filter (is_wanted header name) (ascending 0 (row + 1)) ≡ filter (is_wanted header name) (ascending 0 row) ++ cond b (row ∷ []) []
wanted_next header name row b is =
    let next : row + 1 ≡ suc row = omega arith in
    let last : 0 + row ≡ row = omega arith in
    ap (λ (n : ℕ). filter (is_wanted header name) (ascending 0 n)) next
    ∙ ap (filter (is_wanted header name)) (ascending-last row 0 ∙ ap (λ (n : ℕ). ascending 0 row ++ n ∷ []) last)
    ∙ filter-append (is_wanted header name) (ascending 0 row) (row ∷ [])
    ∙ ap (λ (t : Bool). filter (is_wanted header name) (ascending 0 row) ++ cond t (row ∷ []) []) is

-- the row may
pub wanted_more : (header : Roots) (name : names.Namespace) (row : ℕ) → is_wanted header name row ≡ true
    → filter (is_wanted header name) (ascending 0 (row + 1)) ≡ filter (is_wanted header name) (ascending 0 row) ++ row ∷ []
wanted_more header name row is = wanted_next header name row true is

-- it may not
pub wanted_same : (header : Roots) (name : names.Namespace) (row : ℕ) → is_wanted header name row ≡ false
    → filter (is_wanted header name) (ascending 0 (row + 1)) ≡ filter (is_wanted header name) (ascending 0 row)
wanted_same header name row is = wanted_next header name row false is ∙ append-nil (filter (is_wanted header name) (ascending 0 row))

-- no row may below the first
pub wanted_none : (header : Roots) (name : names.Namespace) → filter (is_wanted header name) (ascending 0 0) ≡ []
unfolding ascending
wanted_none header name = refl

-- ---- entries that were read are short enough to be written

found_short : (found : Found) → found_has_message found ≡ true → is_long_found found ≡ false
found_short (Range start shares nodes) has =
    le-ltb greatest_width (length shares) (leb-true (length shares) greatest_width (and_parts (nat_lt 0 (length shares)) (nat_le (length shares) greatest_width) has).1)
found_short (Absence pos leaf nodes) has = refl

entries_short : (answer : List NsEntry) → HaveMessages answer → list_any is_long_entry answer ≡ false
entries_short [] have = refl
entries_short (entry ∷ answer) have =
    or_from (is_long_entry entry) (list_any is_long_entry answer) (found_short entry.found have.0.has) (entries_short answer have.1)

filter_few : {A : Type 0} (test : A → Bool) (xs : List A) → length (filter test xs) ≤ length xs
filter_few test xs = omega (arith, length-filter_both test (λ x. not (test x)) (λ x. refl) xs)

-- an answer with an entry for just the rows that may hold a namespace has at most as many as the widest square has rows
pub answer_few : (header : Roots) (name : names.Namespace) (answer : List NsEntry) → is_width header.k ≡ true → rows_of answer ≡ wanted_rows header name
    → length answer ≤ greatest_width
answer_few header name answer width rows =
    let few = filter_few (is_wanted header name) (ascending 0 header.k) in
    let many : length (rows_of answer) ≡ length (wanted_rows header name) = ap length rows in
    let all : length (rows_of answer) ≡ length answer = length-map answer (λ (entry : NsEntry). entry.row) in
    omega (arith, few, many, all, length-ascending header.k 0, is_width-le header.k width)

pub read_short : (header : Roots) (name : names.Namespace) (answer : List NsEntry) → is_width header.k ≡ true → rows_of answer ≡ wanted_rows header name
    → HaveMessages answer → is_long_answer answer ≡ false
read_short header name answer width rows have =
    or_from (nat_lt most_entries (length answer)) (list_any is_long_entry answer)
    (le-ltb greatest_width (length answer) (answer_few header name answer width rows)) (entries_short answer have)

-- ---- what is answered to FILE and HEADER

-- by what HEADER was read as
abbrev pub by_header : names.Namespace → List (List ℕ) → Result Roots ℕ → Relation
by_header name files header =
    Judged (bad_data name header (file_of files 0) ∷ error_of header ∷ [])
    (Over header (λ h. Over (data_under name h (file_of files 0)) (λ answer. Writes (Names name answer))))

-- and by what FILE was under a header
abbrev pub by_data : names.Namespace → Result (List NsEntry) ℕ → Relation
by_data name read = Judged (error_of read ∷ None ∷ []) (Over read (λ answer. Writes (Names name answer)))

module _ (name : names.Namespace) (files : List (List ℕ)) where
  abbrev Meaning : Relation
  Meaning = Judged (namespace_data_judged name files) (ImportNamespaceDataOf name files)

  -- HEADER isn't one
  header_none : (why : Unread) → ReadsSingle (Err why) (header_in (file_of files 1)) → IsMadeOutput Meaning (Err (header_refusal why))
  header_none (unread.BadForm at) h = subst (λ (r : Result Roots ℕ). by_header name files r [] (BadInput 1 at)) (sym h) (refl, refl)
  header_none unread.NoMemory h = tt

  pub no_header : (why : Unread) (status : Status) → status ≡ header_refusal why → ReadsSingle (Err why) (header_in (file_of files 1))
      → IsMadeOutput Meaning (Err status)
  no_header why status is h = subst (λ (s : Status). IsMadeOutput Meaning (Err s)) (sym is) (header_none why h)

  module _ (header : Roots) (there : header_in (file_of files 1) ≡ Ok header) where
    -- FILE is this under HEADER
    data_is : (read : Result (List NsEntry) ℕ) → data_under name header (file_of files 0) ≡ read → by_data name read ≡ Meaning
    data_is read is = sym (ap (by_header name files) there ∙ ap (by_data name) is)

    module _ (rows bytes : List ℕ) (are : rows ≡ wanted_rows header name) (here : bytes ≡ file_of files 0) where
      -- what was read is what FILE is under HEADER
      read_is : (read : Result (List NsEntry) ℕ) → namespace_data_value rows bytes ≡ read → by_data name read ≡ Meaning
      read_is read is = data_is read (sym (ap₂ namespace_data_value are here) ∙ is)

      pub data_made : (answer : List NsEntry) (shown : Frame) (made : Result (Vec ℕ Global) Status) → namespace_data_value rows bytes ≡ Ok answer
          → shown ≡ Names name answer → IsMadeOutput (Writes shown) made → IsMadeOutput Meaning made
      data_made answer shown made is same h = made_as (Writes shown) Meaning made (ap Writes same ∙ read_is (Ok answer) is) h

      -- FILE isn't a stream
      data_none : {T : Type 0} (why : PbError)
          → ((at : ℕ) → IsErrOf {T = T} {E = PbError} (Err why) (message.At at) ↔ (namespace_data_value rows bytes ≡ Err at))
          → IsMadeOutput Meaning (Err (pb_refusal why))
      data_none (message.At at) h = subst (λ (M : Relation). M [] (BadInput 0 at)) (read_is (Err at) ((h at).0 refl)) (refl, refl)
      data_none message.NoMemory h = tt

      pub no_data : {T : Type 0} (why : PbError) (status : Status) → status ≡ pb_refusal why
          → ((at : ℕ) → IsErrOf {T = T} {E = PbError} (Err why) (message.At at) ↔ (namespace_data_value rows bytes ≡ Err at))
          → IsMadeOutput Meaning (Err status)
      no_data {T} why status is h = subst (λ (s : Status). IsMadeOutput Meaning (Err s)) (sym is) (data_none {T = T} why h)

-- ---- frames of entries

-- a frame of this kind has entries
pub entries_there : (frame : Frame) → is_among (names_kind ∷ []) (kind_of frame) ≡ true → IsSome (entries_of frame)
entries_there (Names name answer) e = refl
entries_there frame e = absurd cc

-- entries that have no stream
pub no_stream : (answer : List NsEntry) → has_stream answer ≡ false → StreamOf answer [] (BadRequest Form)
no_stream answer none = subst (λ (b : Bool). StreamBy b answer [] (BadRequest Form)) (sym none) (refl, refl)

-- entries that have one
pub stream_is : (answer : List NsEntry) (text : List ℕ) → has_stream answer ≡ true → StreamBy true answer text Done → StreamOf answer text Done
stream_is answer text has h = subst (λ (b : Bool). StreamBy b answer text Done) (sym has) h

-- ---- answers

-- the stream of entries, or that they have none, is an answer
stream_answers : (b : Bool) (answer : List NsEntry) (w : List ℕ) (status : Status) → StreamBy b answer w status → IsAnswer (statuses.status_kind status)
stream_answers true answer w status h = status_answers status Done h.1 tt
stream_answers false answer w status h = status_answers status (BadRequest Form) h.1 tt

pub import_answers : (name : names.Namespace) (files : List (List ℕ)) (w : List ℕ) (status : Status) → ImportNamespaceDataOf name files w status
    → IsAnswer (statuses.status_kind status)
import_answers name files w status h =
    over_each (λ header. Over (data_under name header (file_of files 0)) (λ answer. Writes (Names name answer))) (header_in (file_of files 1)) w status
    (IsAnswer (statuses.status_kind status))
    (λ header under. over_each (λ answer. Writes (Names name answer)) (data_under name header (file_of files 0)) w status (IsAnswer (statuses.status_kind status))
    (λ answer is. status_answers status Done is.1 tt) under) h

pub export_answers : (files : List (List ℕ)) (w : List ℕ) (status : Status) → ExportNamespaceDataOf files w status → IsAnswer (statuses.status_kind status)
export_answers files w status h =
    over_each StreamOf (entries_in (file_of files 0)) w status (IsAnswer (statuses.status_kind status)) (λ answer is. stream_answers (has_stream answer) answer w status is) h
