-- Streams of what is found in rows, written and read.
use Rattle.std.proofs.Common.{◌≡◌, ◌∙◌, ℕ, cond, eqb, eqb-true, List, [], ◌∷◌, ◌++◌, length, Option, Some, None, Result, Ok, Err, refl, sym, ap, ap₂, subst}
use Rattle.std.proofs.lemmas.List.{nil_from_length}
use Rattle.namespace_id.specs.Bytes.{AreBytes}
use Rattle.proto_fields.specs.Varints.{varint}
use Rattle.proto_fields.specs.Spelled.{text}
use Rattle.proto_fields.specs.Canonical.{part_at}
use Rattle.proto_fields.proofs.CanonicalVarints.{front_fits, behind_fits, part_is_read, read_is_part}
use Rattle.axis_roots.specs.declared.answers.NsEntry.{NsEntry}
use Rattle.celestia_pb.specs.Reading.{then_read, or_left, with_offset}
use Rattle.celestia_pb.specs.RowData.{found_message, row_left}
use Rattle.celestia_pb.specs.RowDataLaws.{FoundHasMessage}
use Rattle.celestia_pb.specs.NamespaceData.{ns_entry_text, namespace_data_text, entry_before, entry_at, with_entry, entries_left, namespace_data_value, rows_of, HaveMessages}
use Rattle.celestia_pb.proofs.Steps.{same_ok, cond_ok, then_ok, placed_ok}
use Rattle.celestia_pb.proofs.SampleLemmas.{or_left_some}
use Rattle.celestia_pb.proofs.RowDataLemmas.{row_is_read, found_small, row_back}

-- ---- one after another

-- the entry of a row in front of those of others
abbrev pub before_others : List ℕ → NsEntry → List ℕ → Result (List NsEntry) ℕ
before_others rows entry rest = with_entry entry (entries_left rows rest)

-- no row is left
pub entries_left-none : (bytes : List ℕ) → entries_left [] bytes ≡ cond (eqb (length bytes) 0) (Ok []) (Err (length bytes))
unfolding entries_left
entries_left-none bytes = refl

-- one row, and then the others
pub entries_left-next : (row : ℕ) (rows bytes : List ℕ) → entries_left (row ∷ rows) bytes ≡ then_read (before_others rows) (entry_at row bytes)
unfolding entries_left
entries_left-next row rows bytes = refl

-- no message is in front
pub entry_at-none : (row : ℕ) (bytes : List ℕ) → part_at bytes ≡ None → entry_at row bytes ≡ Err (length bytes)
entry_at-none row bytes none =
    ap (λ (o : Option (List ℕ × List ℕ)). then_read (λ part rest. entry_before rest (row_left row part)) (or_left bytes o)) none

-- one is
pub entry_at-some : (row : ℕ) (bytes part rest : List ℕ) (r : Result NsEntry ℕ) → part_at bytes ≡ Some (part, rest) → row_left row part ≡ r
    → entry_at row bytes ≡ entry_before rest r
entry_at-some row bytes part rest r there is =
    ap (λ (o : Option (List ℕ × List ℕ)). then_read (λ part rest. entry_before rest (row_left row part)) (or_left bytes o)) there
    ∙ ap (entry_before rest) is

-- ---- what is written is read

-- the message of an entry, whatever follows
entry_is_read : (entry : NsEntry) (rest : List ℕ) → FoundHasMessage entry.found → entry_at entry.row (ns_entry_text entry ++ rest) ≡ Ok (entry, rest)
entry_is_read entry rest has =
    let message : List ℕ = found_message entry.found in
    entry_at-some entry.row (ns_entry_text entry ++ rest) message rest (Ok entry) (part_is_read message rest (found_small entry.found has))
    (placed_ok (length message) (row_left entry.row message) entry (row_is_read entry.row entry.found has))

entries_are_read : (answer : List NsEntry) → HaveMessages answer → entries_left (rows_of answer) (namespace_data_text answer) ≡ Ok answer
entries_are_read [] have = entries_left-none []
entries_are_read (entry ∷ answer) have =
    entries_left-next entry.row (rows_of answer) (namespace_data_text (entry ∷ answer))
    ∙ ap (then_read (before_others (rows_of answer))) (entry_is_read entry (namespace_data_text answer) have.0)
    ∙ ap (with_entry entry) (entries_are_read answer have.1)

-- the messages of entries are read as these
pub namespace_data_is_read : (answer : List NsEntry) → HaveMessages answer
    → namespace_data_value (rows_of answer) (namespace_data_text answer) ≡ Ok answer
namespace_data_is_read answer have = ap (with_offset (length (namespace_data_text answer))) (entries_are_read answer have)

-- ---- what is read was written

-- an entry that was read, and what follows it
before_ok : (rest : List ℕ) (r : Result NsEntry ℕ) (x : NsEntry × List ℕ) → entry_before rest r ≡ Ok x → (r ≡ Ok x.0) × (rest ≡ x.1)
before_ok rest (Ok entry) x e =
    let same : (entry, rest) ≡ x = same_ok (entry, rest) x e in
    (ap (λ (y : NsEntry × List ℕ). Ok y.0) same, ap (λ (y : NsEntry × List ℕ). y.1) same)
before_ok rest (Err left) x e = absurd cc

-- others that were read behind an entry
with_entry_ok : (entry : NsEntry) (r : Result (List NsEntry) ℕ) (answer : List NsEntry) → with_entry entry r ≡ Ok answer
    → (others : List NsEntry) × (r ≡ Ok others) × (entry ∷ others ≡ answer)
with_entry_ok entry (Ok others) answer e = (others, refl, same_ok (entry ∷ others) answer e)
with_entry_ok entry (Err left) answer e = absurd cc

-- what is read as an entry
record IsEntryRead (row : ℕ) (bytes : List ℕ) (entry : NsEntry) (rest : List ℕ) : Type 0 where
  row_is : entry.row ≡ row
  has : FoundHasMessage entry.found
  parts : bytes ≡ ns_entry_text entry ++ rest
  fits : AreBytes rest

entry_back : (row : ℕ) (bytes : List ℕ) (x : NsEntry × List ℕ) → AreBytes bytes → entry_at row bytes ≡ Ok x → IsEntryRead row bytes x.0 x.1
entry_back row bytes x fits e =
    let a = then_ok (λ (part rest : List ℕ). entry_before rest (row_left row part)) (or_left bytes (part_at bytes)) x e in
    let part : List ℕ = a.0.0 in
    let rest : List ℕ = a.0.1 in
    let b = before_ok rest (row_left row part) x a.2 in
    let p = read_is_part bytes part rest fits (or_left_some bytes (part_at bytes) a.0 a.1) in
    let all : AreBytes (text part ++ rest) = subst (λ (l : List ℕ). AreBytes l) p.1 fits in
    let r = row_back row part x.0 (behind_fits (varint (length part)) part (front_fits (text part) rest all)) b.0 in
    record {
      row_is = r.0;
      has = r.1;
      parts = p.1 ∙ ap₂ (λ (m l : List ℕ). text m ++ l) r.2 b.1;
      fits = subst (λ (l : List ℕ). AreBytes l) b.1 (behind_fits (text part) rest all);
    }

-- what is read as entries
abbrev AreEntriesRead : List ℕ → List ℕ → List NsEntry → Type 0
AreEntriesRead rows bytes answer = (rows_of answer ≡ rows) × HaveMessages answer × (bytes ≡ namespace_data_text answer)

entries_back : (rows bytes : List ℕ) (answer : List NsEntry) → AreBytes bytes → entries_left rows bytes ≡ Ok answer → AreEntriesRead rows bytes answer
entries_back [] bytes answer fits e =
    let test = cond_ok (eqb (length bytes) 0) [] answer (length bytes) (sym (entries_left-none bytes) ∙ e) in
    let none : bytes ≡ [] = nil_from_length bytes (eqb-true (length bytes) 0 test.0) in
    subst (λ (l : List NsEntry). AreEntriesRead [] bytes l) test.1 (refl, tt, none)
entries_back (row ∷ rows) bytes answer fits e =
    let a = then_ok (before_others rows) (entry_at row bytes) answer (sym (entries_left-next row rows bytes) ∙ e) in
    let entry : NsEntry = a.0.0 in
    let h = entry_back row bytes a.0 fits a.1 in
    let b = with_entry_ok entry (entries_left rows a.0.1) answer a.2 in
    let others = entries_back rows a.0.1 b.0 h.fits b.1 in
    let are : AreEntriesRead (row ∷ rows) bytes (entry ∷ b.0) = (
      ap₂ (λ (n : ℕ) (l : List ℕ). n ∷ l) h.row_is others.0,
      (h.has, others.1),
      h.parts ∙ ap (λ (l : List ℕ). ns_entry_text entry ++ l) others.2,
    ) in
    subst (λ (l : List NsEntry). AreEntriesRead (row ∷ rows) bytes l) b.2 are

-- entries of the rows, of which the bytes are the messages
pub read_is_namespace_data : (rows bytes : List ℕ) (answer : List NsEntry) → AreBytes bytes → namespace_data_value rows bytes ≡ Ok answer
    → (rows_of answer ≡ rows) × HaveMessages answer × (bytes ≡ namespace_data_text answer)
read_is_namespace_data rows bytes answer fits e = entries_back rows bytes answer fits (placed_ok (length bytes) (entries_left rows bytes) answer e)
