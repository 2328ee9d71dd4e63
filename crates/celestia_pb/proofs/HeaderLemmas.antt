-- Headers, written and read.
use Rattle.std.proofs.Common.{◌≡◌, ◌∙◌, ℕ, ◌*◌, ◌/◌, ◌≤◌, Bool, true, false, cond, ◌&&◌, ◌==◌, eqb, eqb-true, List, [], ◌++◌, length, drop, Some, Ok, Err, refl, sym, ap, ap₂, subst, arith, append-nil, length-append}
use Rattle.std.proofs.lemmas.Bool.{and_parts, and_from}
use Rattle.std.proofs.lemmas.Bool.Decides.{nat_tests}
use Rattle.std.proofs.lemmas.List.{nil_from_length}
use Rattle.namespace_id.specs.declared.digests.Digest.{Digest}
use Rattle.namespace_id.specs.Bytes.{AreBytes}
use Rattle.namespace_id.specs.Cells.{is_width}
use Rattle.namespace_id.proofs.WidthLemmas.{is_width-le}
use Rattle.data_header.specs.Headers.{Roots, IsHeader}
use Rattle.proto_fields.specs.Fields.{FieldParts, fields_of, all_bytes}
use Rattle.proto_fields.proofs.FieldLemmas.{no_fields, all_bytes_in_a_row}
use Rattle.celestia_pb.specs.Reading.{then_read, with_offset}
use Rattle.celestia_pb.specs.Digests.{digests_text, digests_at, digests_in, entry_digest}
use Rattle.celestia_pb.proofs.Steps.{cond_ok, placed_ok, then_ok}
use Rattle.proto_fields.specs.Canonical.{begins}
use Rattle.celestia_pb.specs.Headers.{dah_text, has_counts, dah_end, dah_cols, dah_left, dah_value}
use Rattle.celestia_pb.specs.Laws.{bytes_of_all}
use Rattle.celestia_pb.proofs.DigestLemmas.{AreDigestsRead, begins_digests, digests_are_read, read_are_digests}
use Rattle.celestia_pb.proofs.EntryLemmas.{length-digests_text}
use Rattle.celestia_pb.proofs.EntryListLemmas.{length-entries}
use Rattle.celestia_pb.proofs.CommonLemmas.{digest_fields, digest_fields_of, own_digests, other_digests}

-- ---- what is written is read

-- numbers of roots of a width
counts_are : (k rows cols : ℕ) → is_width k ≡ true → rows ≡ 2 * k → cols ≡ 2 * k → has_counts rows cols ≡ true
counts_are k rows cols width r c =
    let half : rows / 2 ≡ k = omega arith in
    let even : eqb rows (2 * (rows / 2)) ≡ true = grind (arith, nat_tests) in
    let same : eqb cols rows ≡ true = grind (arith, nat_tests) in
    and_from _ _ (ap is_width half ∙ width) (and_from _ _ even same)

-- the header of such roots
end_is : (h : Roots) → IsHeader h → dah_end h.rows h.cols [] ≡ Ok h
end_is h is =
    let half : length h.rows / 2 ≡ h.k = omega (arith, is.roots.rows) in
    ap (λ (b : Bool). cond b (Ok (record { k = length h.rows / 2; rows = h.rows; cols = h.cols })) (Err 0)) (counts_are h.k (length h.rows) (length h.cols) is.roots.width is.roots.rows is.roots.cols)
    ∙ ap (λ (k : ℕ). Ok (record { k = k; rows = h.rows; cols = h.cols })) half

-- the message of a header is read as the header
left_is_read : (h : Roots) → IsHeader h → dah_left (dah_text h) ≡ Ok h
left_is_read h is =
    let few : length h.rows ≤ 1024 = omega (arith, is.roots.rows, is_width-le h.k is.roots.width) in
    let same : length h.cols ≤ length h.rows = omega (arith, is.roots.rows, is.roots.cols) in
    let cols : List ℕ = digests_text 2 h.cols in
    let whole : cols ≡ cols ++ [] = sym (append-nil cols) in
    let none : begins 10 cols ≡ false = ap (begins 10) whole ∙ begins_digests 10 2 h.cols [] (omega arith) refl refl in
    ap (then_read dah_cols) (digests_are_read 1 1024 h.rows cols (omega arith) is.rows few none)
    ∙ ap (dah_cols h.rows) whole
    ∙ ap (then_read (dah_end h.rows)) (digests_are_read 2 (length h.rows) h.cols [] (omega arith) is.cols same refl)
    ∙ end_is h is

pub dah_is_read : (h : Roots) → IsHeader h → dah_value (dah_text h) ≡ Ok h
dah_is_read h is = ap (with_offset (length (dah_text h))) (left_is_read h is)

-- how many bytes it has
pub length-dah_text : (h : Roots) → IsHeader h → length (dah_text h) ≡ 368 * h.k
length-dah_text h is =
    omega (
      arith,
      length-append (digests_text 1 h.rows) (digests_text 2 h.cols),
      length-digests_text 1 h.rows (omega arith) is.rows,
      length-digests_text 2 h.cols (omega arith) is.cols,
      is.roots.rows,
      is.roots.cols,
    )

-- ---- what is read was written

-- the row roots and the column roots that were read
record WasRead (bytes : List ℕ) (h : Roots) : Type 0 where
  is : IsHeader h
  text : bytes ≡ dah_text h

-- nothing is left, and the numbers are those of a width
end_back : (bytes : List ℕ) (h : Roots) (rows cols : List Digest) (behind rest : List ℕ) → AreDigestsRead 1 1024 bytes rows behind
    → AreDigestsRead 2 (length rows) behind cols rest → dah_end rows cols rest ≡ Ok h → WasRead bytes h
end_back bytes h rows cols behind rest first second e =
    let test = cond_ok ((length rest == 0) && has_counts (length rows) (length cols)) (record { k = length rows / 2; rows = rows; cols = cols }) h (length rest) e in
    let both = and_parts (eqb (length rest) 0) (has_counts (length rows) (length cols)) test.0 in
    let counts = and_parts (is_width (length rows / 2)) (eqb (length rows) (2 * (length rows / 2)) && eqb (length cols) (length rows)) both.1 in
    let sides = and_parts (eqb (length rows) (2 * (length rows / 2))) (eqb (length cols) (length rows)) counts.1 in
    let even : length rows ≡ 2 * (length rows / 2) = eqb-true _ _ sides.0 in
    let none : rest ≡ [] = nil_from_length rest (eqb-true _ _ both.0) in
    let text : behind ≡ digests_text 2 cols = second.parts ∙ ap (λ (l : List ℕ). digests_text 2 cols ++ l) none ∙ append-nil (digests_text 2 cols) in
    subst (λ (g : Roots). WasRead bytes g) test.1 (record {
      is = record { roots = record { width = counts.0; rows = even; cols = eqb-true _ _ sides.1 ∙ even }; rows = first.are; cols = second.are };
      text = first.parts ∙ ap (λ (l : List ℕ). digests_text 1 rows ++ l) text;
    })

-- what is read as a header was written so
was_read : (bytes : List ℕ) (h : Roots) → AreBytes bytes → dah_value bytes ≡ Ok h → WasRead bytes h
was_read bytes h fits e =
    let left = placed_ok (length bytes) (dah_left bytes) h e in
    let rows = then_ok dah_cols (digests_at 1 1024 bytes) h left in
    let first = read_are_digests 1 1024 bytes rows.0.0 rows.0.1 (omega arith) fits rows.1 in
    let cols = then_ok (dah_end rows.0.0) (digests_at 2 (length rows.0.0) rows.0.1) h rows.2 in
    let second = read_are_digests 2 (length rows.0.0) rows.0.1 cols.0.0 cols.0.1 (omega arith) first.fits cols.1 in
    end_back bytes h rows.0.0 cols.0.0 rows.0.1 cols.0.1 first second cols.2

pub read_is_dah : (bytes : List ℕ) (h : Roots) → AreBytes bytes → dah_value bytes ≡ Ok h → IsHeader h × (bytes ≡ dah_text h)
read_is_dah bytes h fits e = let was = was_read bytes h fits e in (was.is, was.text)

-- ---- lenient reading

-- the fields of a header
abbrev fields_in : Roots → List FieldParts
fields_in h = digest_fields 1 h.rows ++ (digest_fields 2 h.cols ++ [])

-- the message of a header is its fields
text_fields : (h : Roots) → IsHeader h → fields_of (dah_text h) ≡ Some (fields_in h)
text_fields h is =
    let cols : List ℕ = digests_text 2 h.cols in
    let whole : cols ≡ cols ++ [] = sym (append-nil cols) in
    digest_fields_of 1 h.rows cols (digest_fields 2 h.cols ++ []) (omega arith) (omega arith) is.rows
    (ap fields_of whole ∙ digest_fields_of 2 h.cols [] [] (omega arith) (omega arith) is.cols no_fields)

-- of which those of a number are these
in_fields : (n : ℕ) (h : Roots) (rows cols : List (List ℕ)) → all_bytes n (digest_fields 1 h.rows) ≡ rows → all_bytes n (digest_fields 2 h.cols) ≡ cols
    → all_bytes n (fields_in h) ≡ rows ++ (cols ++ [])
in_fields n h rows cols first second =
    all_bytes_in_a_row n (digest_fields 1 h.rows) (digest_fields 2 h.cols ++ [])
    ∙ ap₂ (λ (x y : List (List ℕ)). x ++ y) first (all_bytes_in_a_row n (digest_fields 2 h.cols) [] ∙ ap (λ (x : List (List ℕ)). x ++ []) second)

pub dah_is_common : (bytes : List ℕ) (h : Roots) → AreBytes bytes → dah_value bytes ≡ Ok h
    → (fields : List FieldParts) × (fields_of bytes ≡ Some fields) × (all_bytes 1 fields ≡ bytes_of_all h.rows) × (all_bytes 2 fields ≡ bytes_of_all h.cols)
dah_is_common bytes h fits e =
    let was = was_read bytes h fits e in (
      fields_in h,
      ap fields_of was.text ∙ text_fields h was.is,
      in_fields 1 h (bytes_of_all h.rows) [] (own_digests 1 h.rows) (other_digests 2 1 h.cols refl) ∙ append-nil (bytes_of_all h.rows),
      in_fields 2 h [] (bytes_of_all h.cols) (other_digests 1 2 h.rows refl) (own_digests 2 h.cols) ∙ append-nil (bytes_of_all h.cols),
    )

-- ---- what the calls find

module _ (bytes behind : List ℕ) (rows : ℕ) (first : digests_at 1 1024 bytes ≡ Ok (digests_in rows bytes, behind)) where
  -- the column roots behind so many row roots
  behind_rows : dah_left bytes ≡ then_read (dah_end (digests_in rows bytes)) (digests_at 2 rows behind)
  behind_rows =
      ap (then_read dah_cols) first
      ∙ ap (λ (n : ℕ). then_read (dah_end (digests_in rows bytes)) (digests_at 2 n behind)) (length-entries entry_digest 92 rows bytes)

  -- a column root is wrong
  pub wrong_cols : (left : ℕ) → digests_at 2 rows behind ≡ Err left → dah_left bytes ≡ Err left
  wrong_cols left e = behind_rows ∙ ap (then_read (dah_end (digests_in rows bytes))) e

  module _ (cols : ℕ) (rest : List ℕ) (second : digests_at 2 rows behind ≡ Ok (digests_in cols behind, rest)) where
    -- the test of what was found
    behind_cols : (b : Bool) → ((length rest == 0) && has_counts rows cols) ≡ b
        → dah_left bytes ≡ cond b (Ok (record { k = length (digests_in rows bytes) / 2; rows = digests_in rows bytes; cols = digests_in cols behind })) (Err (length rest))
    behind_cols b test =
        let same : has_counts (length (digests_in rows bytes)) (length (digests_in cols behind)) ≡ has_counts rows cols =
        ap₂ has_counts (length-entries entry_digest 92 rows bytes) (length-entries entry_digest 92 cols behind) in
        behind_rows
        ∙ ap (then_read (dah_end (digests_in rows bytes))) second
        ∙ ap (λ (c : Bool). cond c (Ok (record { k = length (digests_in rows bytes) / 2; rows = digests_in rows bytes; cols = digests_in cols behind })) (Err (length rest)))
        (ap (λ (c : Bool). (length rest == 0) && c) same ∙ test)

    -- something is left, or the numbers are those of no width
    pub wrong_end : ((length rest == 0) && has_counts rows cols) ≡ false → dah_left bytes ≡ Err (length rest)
    wrong_end test = behind_cols false test

    -- the header
    pub right_end : ((length rest == 0) && has_counts rows cols) ≡ true → behind ≡ drop (92 * rows) bytes
        → dah_left bytes ≡ Ok (record { k = rows / 2; rows = digests_in (2 * (rows / 2)) bytes; cols = digests_in (2 * (rows / 2)) (drop (92 * (2 * (rows / 2))) bytes) })
    right_end test place =
        let both = and_parts (eqb (length rest) 0) (has_counts rows cols) test in
        let counts = and_parts (is_width (rows / 2)) (eqb rows (2 * (rows / 2)) && eqb cols rows) both.1 in
        let sides = and_parts (eqb rows (2 * (rows / 2))) (eqb cols rows) counts.1 in
        let even : rows ≡ 2 * (rows / 2) = eqb-true _ _ sides.0 in
        let same : cols ≡ 2 * (rows / 2) = eqb-true _ _ sides.1 ∙ even in
        behind_cols true test
        ∙ ap (λ (n : ℕ). Ok (record { k = n / 2; rows = digests_in rows bytes; cols = digests_in cols behind })) (length-entries entry_digest 92 rows bytes)
        ∙ ap (λ (l : List ℕ). Ok (record { k = rows / 2; rows = digests_in rows bytes; cols = digests_in cols l })) place
        ∙ ap (λ (n : ℕ). Ok (record { k = rows / 2; rows = digests_in rows bytes; cols = digests_in n (drop (92 * rows) bytes) })) same
        ∙ ap (λ (n : ℕ). Ok (record { k = rows / 2; rows = digests_in n bytes; cols = digests_in (2 * (rows / 2)) (drop (92 * n) bytes) })) even
