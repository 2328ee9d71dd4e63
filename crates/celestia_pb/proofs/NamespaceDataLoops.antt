-- The loops over the messages of a stream.
use Rattle.std.proofs.Common.{◌≡◌, ◌∙◌, ℕ, ◌+◌, ◌≤◌, ◌<◌, Bool, true, false, cond, eqb, List, [], ◌∷◌, ◌++◌, length, drop, get_or, Some, None, Result, Ok, Err, IsErr, IsErrAnd, refl, sym, ap, append_assoc, append-nil}
use Rattle.std.proofs.lemmas.List.{drop_all, drop_more}
use Rattle.namespace_id.specs.Answers.{refusal_in}
use Rattle.axis_roots.specs.declared.answers.NsEntry.{NsEntry}
use Rattle.celestia_pb.specs.Reading.{then_read}
use Rattle.celestia_pb.specs.NamespaceData.{entry_at, with_entry, entries_left}
use Rattle.celestia_pb.proofs.NamespaceDataLemmas.{before_others, entries_left-none, entries_left-next}

-- those of the rows from one on
abbrev pub left_from : ℕ → List ℕ → List ℕ → Result (List NsEntry) ℕ
left_from i rows rest = entries_left (drop i rows) rest

-- an entry in front changes no refusal
refusal_in-with_entry : (entry : NsEntry) (r : Result (List NsEntry) ℕ) → refusal_in (with_entry entry r) ≡ refusal_in r
refusal_in-with_entry entry (Ok entries) = refl
refusal_in-with_entry entry (Err left) = refl

-- ---- a row is left

module _ (rows : List ℕ) (i : ℕ) (d : ℕ) (rest : List ℕ) (more : i < length rows) where
  left_next : (r : Result (NsEntry × List ℕ) ℕ) → entry_at (get_or rows i d) rest ≡ r
      → left_from i rows rest ≡ then_read (before_others (drop (i + 1) rows)) r
  left_next r is =
      ap (λ (l : List ℕ). entries_left l rest) (drop_more rows i d more)
      ∙ entries_left-next (get_or rows i d) (drop (i + 1) rows) rest
      ∙ ap (then_read (before_others (drop (i + 1) rows))) is

  -- its message is wrong
  pub left_wrong : (left : ℕ) → entry_at (get_or rows i d) rest ≡ Err left → left_from i rows rest ≡ Err left
  left_wrong left is = left_next (Err left) is

  -- it is right
  pub left_right : (entry : NsEntry) (after : List ℕ) → entry_at (get_or rows i d) rest ≡ Ok (entry, after)
      → left_from i rows rest ≡ with_entry entry (left_from (i + 1) rows after)
  left_right entry after is = left_next (Ok (entry, after)) is

  pub refusal_after : (entry : NsEntry) (after : List ℕ) → entry_at (get_or rows i d) rest ≡ Ok (entry, after)
      → refusal_in (left_from i rows rest) ≡ refusal_in (left_from (i + 1) rows after)
  refusal_after entry after is = ap refusal_in (left_right entry after is) ∙ refusal_in-with_entry entry (left_from (i + 1) rows after)

  -- it is, where all are
  first_right : (r : Result (NsEntry × List ℕ) ℕ) → entry_at (get_or rows i d) rest ≡ r → refusal_in (left_from i rows rest) ≡ None → refusal_in r ≡ None
  first_right (Ok x) is none = refl
  first_right (Err left) is none = sym (ap refusal_in (left_wrong left is)) ∙ none

  pub entry_right : refusal_in (left_from i rows rest) ≡ None → refusal_in (entry_at (get_or rows i d) rest) ≡ None
  entry_right none = first_right (entry_at (get_or rows i d) rest) refl none

-- ---- no row is left

-- nothing may follow
abbrev pub end_left : Bool → ℕ → Result (List NsEntry) ℕ
end_left b size = cond b (Ok []) (Err size)

pub left_past : (rows : List ℕ) (i : ℕ) (rest : List ℕ) → length rows ≤ i → (b : Bool) → eqb (length rest) 0 ≡ b
    → left_from i rows rest ≡ end_left b (length rest)
left_past rows i rest past b test =
    ap (λ (l : List ℕ). entries_left l rest) (drop_all i rows past)
    ∙ entries_left-none rest
    ∙ ap (λ (t : Bool). end_left t (length rest)) test

-- ---- entries that were taken

-- entries in front of others
abbrev pub with_entries : List NsEntry → Result (List NsEntry) ℕ → Result (List NsEntry) ℕ
with_entries entries (Ok others) = Ok (entries ++ others)
with_entries entries (Err left) = Err left

-- none
pub with_entries-none : (r : Result (List NsEntry) ℕ) → with_entries [] r ≡ r
with_entries-none (Ok others) = refl
with_entries-none (Err left) = refl

-- one more
pub with_entries-more : (entries : List NsEntry) (entry : NsEntry) (r : Result (List NsEntry) ℕ)
    → with_entries entries (with_entry entry r) ≡ with_entries (entries ++ entry ∷ []) r
with_entries-more entries entry (Ok others) = ap (λ (l : List NsEntry). Ok l) (sym (append_assoc entries (entry ∷ []) others))
with_entries-more entries entry (Err left) = refl

-- they change no refusal
refusal_in-with_entries : (entries : List NsEntry) (r : Result (List NsEntry) ℕ) → refusal_in (with_entries entries r) ≡ refusal_in r
refusal_in-with_entries entries (Ok others) = refl
refusal_in-with_entries entries (Err left) = refl

-- where nothing is refused nothing of what is left is
pub still_right : (all : Result (List NsEntry) ℕ) (entries : List NsEntry) (r : Result (List NsEntry) ℕ) → all ≡ with_entries entries r
    → refusal_in all ≡ None → refusal_in r ≡ None
still_right all entries r is none = sym (ap refusal_in is ∙ refusal_in-with_entries entries r) ∙ none

-- where nothing is refused behind the last row they are all
last_taken : (entries : List NsEntry) (b : Bool) (size : ℕ) → refusal_in (end_left b size) ≡ None → with_entries entries (end_left b size) ≡ Ok entries
last_taken entries true size none = ap (λ (l : List NsEntry). Ok l) (append-nil entries)
last_taken entries false size none = absurd cc

pub all_taken : (rows : List ℕ) (i : ℕ) (rest : List ℕ) (entries : List NsEntry) → length rows ≤ i → refusal_in (left_from i rows rest) ≡ None
    → with_entries entries (left_from i rows rest) ≡ Ok entries
all_taken rows i rest entries past none =
    let is = left_past rows i rest past (eqb (length rest) 0) refl in
    ap (with_entries entries) is
    ∙ last_taken entries (eqb (length rest) 0) (length rest) (sym (ap refusal_in is) ∙ none)

-- ---- an error that was handed on

-- it is the refusal
pub err_refusal : {T : Type 0} (result : Result T ℕ) (left : ℕ) → IsErr result × IsErrAnd result (λ e. e ≡ left) → refusal_in result ≡ Some left
err_refusal (Ok x) left is = absurd is.1
err_refusal (Err other) left is = ap (λ (n : ℕ). Some n) is.1
