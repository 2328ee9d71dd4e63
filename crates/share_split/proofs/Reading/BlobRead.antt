-- Shares that are blobs and padding are read as these blobs.
use Rattle.std.proofs.Common.{◌≡◌, ◌∙◌, ℕ, suc, ◌+◌, ◌-◌, ◌<◌, ◌≤◌, inl, inr, Bool, true, false, cond, eqb, le-leb, List, [], ◌∷◌, ◌++◌, length, take, drop, Option, Some, None, Ok, Err, refl, sym, ap, ap₂, arith, length-take, length-drop, length-append, append_assoc, take-append-drop, take_all}
use Rattle.std.specs.Int.{div_ceil}
use Rattle.std.specs.List.{flat_map, AllByRecursion}
use Rattle.std.specs.Option.{option_map_or}
use Rattle.std.proofs.lemmas.Bool.{cases_lt}
use Rattle.std.proofs.lemmas.Bool.Decides.{nat_tests}
use Rattle.namespace_id.specs.Names.{IsNamespace}
use Rattle.namespace_id.specs.declared.namespaces.Namespace.{Namespace}
use Rattle.namespace_id.specs.declared.shares.Share.{Share}
use Rattle.share_split.specs.declared.joining.JoinError.{JoinError}
use Rattle.share_split.specs.Blobs.{NamedBytes, max_sequence_length, version_of, first_blob_content, later_shares, share_count}
use Rattle.share_split.specs.Walks.{Sequence, missing, is_complete, with_blob, blob_share_refusal, sequence_after, blobs_from}
use Rattle.share_split.specs.Joined.{Piece, piece_shares, piece_blobs, IsPiece, padding_of}
use Rattle.share_split.specs.Joined.Piece.{padding, blob}
use Rattle.share_split.proofs.Reading.Fields.{opening, opening_is_first}
use Rattle.share_split.proofs.Reading.Signers.{IsLabel, blob_label, padding_label}
use Rattle.share_split.specs.declared.walking.Form.TheVariants.{Blobs}
use Rattle.std.specs.Prelude.{is_some}
use Rattle.share_split.proofs.Reading.Sequence.{seq, first_passes, first_taken, later_passes, later_taken}
use Rattle.share_split.proofs.Reading.Runs.{AreLater, none_later, later_are, later_count}
use Rattle.share_split.proofs.Reading.BlobWalk.{Read, blobs_on, blobs_from-cons, blobs_from-nil}

-- what is read once the share before share i was taken into this sequence
abbrev pub taken_on : ℕ → Sequence → List Share → Read
taken_on i s shares = cond (is_complete s) (with_blob s (blobs_from i None shares)) (blobs_from i (Some s) shares)

-- a complete sequence is closed
whole_on : (i : ℕ) (s : Sequence) (shares : List Share) → s.size ≤ length s.content → taken_on i s shares ≡ with_blob s (blobs_from i None shares)
whole_on i s shares le = ap (λ (b : Bool). cond b (with_blob s (blobs_from i None shares)) (blobs_from i (Some s) shares)) (le-leb _ _ le)

-- an open one goes on
open_on : (i : ℕ) (s : Sequence) (shares : List Share) → length s.content < s.size → taken_on i s shares ≡ blobs_from i (Some s) shares
open_on i s shares lt =
    let no : is_complete s ≡ false = grind (arith, nat_tests) in
    ap (λ (b : Bool). cond b (with_blob s (blobs_from i None shares)) (blobs_from i (Some s) shares)) no

-- a share whose checks pass
on : (i : ℕ) (so_far : Option Sequence) (share : Share) (shares : List Share) (t : Sequence) → blob_share_refusal i so_far share ≡ None → sequence_after Blobs i so_far share ≡ t
    → blobs_from i so_far (share ∷ shares) ≡ taken_on (suc i) t shares
on i so_far share shares t passes taken =
    blobs_from-cons i so_far share shares
    ∙ ap (λ (o : Option JoinError). option_map_or Err o (blobs_on i so_far share shares)) passes
    ∙ ap (λ (s : Sequence). taken_on (suc i) s shares) taken

-- the rest of a sequence
pub run_read : (i : ℕ) (s : Sequence) (text : List ℕ) (shares more : List Share) → s.size ≡ length s.content + length text → 0 < length text
    → AreLater Blobs s.name s.version text shares
    → blobs_from i (Some s) (shares ++ more) ≡ with_blob (seq s.first s.name s.version s.signer s.size (s.content ++ text)) (blobs_from (i + length shares) None more)
run_read i s text [] more all some later = absurd (omega arith)
run_read i s text (share ∷ shares) more all some later =
    let left : length text ≡ missing s = omega arith in
    let part : List ℕ = take 482 text in
    let rest : List ℕ = drop 482 text in
    let t : Sequence = seq s.first s.name s.version s.signer s.size (s.content ++ part) in
    let step : blobs_from i (Some s) (share ∷ (shares ++ more)) ≡ taken_on (suc i) t (shares ++ more) =
    on i (Some s) share (shares ++ more) t (later_passes Blobs i s text share left later.1) (later_taken Blobs s text share left later.1) in
    let behind : length rest ≡ length text - 482 = length-drop 482 text in
    let front : length part + length rest ≡ length text = omega (arith, length-take 482 text, behind) in
    let so_far : length (s.content ++ part) ≡ length s.content + length part = length-append s.content part in
    let content : (s.content ++ part) ++ rest ≡ s.content ++ text = append_assoc s.content part rest ∙ ap (λ (l : List ℕ). s.content ++ l) (take-append-drop 482 text) in
    let place : suc i + length shares ≡ i + length (share ∷ shares) = omega arith in
    elim (cases_lt 482 (length text)) [
      | inl more_left ↦
          step ∙ open_on (suc i) t (shares ++ more) (omega arith)
          ∙ run_read (suc i) t rest shares more (omega arith) (omega arith) later.2
          ∙ ap₂ (λ (l : List ℕ) (k : ℕ). with_blob (seq s.first s.name s.version s.signer s.size l) (blobs_from k None more)) content place
      | inr last ↦
          let none : shares ≡ [] = none_later Blobs s.name s.version rest shares later.2 (omega arith) in
          let all_taken : s.content ++ part ≡ s.content ++ text = ap (λ (l : List ℕ). s.content ++ l) (take_all 482 text last) in
          let one : suc i ≡ i + length (share ∷ shares) = omega (arith, ap length none) in
          step ∙ whole_on (suc i) t (shares ++ more) (omega arith)
          ∙ ap (λ (l : List Share). with_blob t (blobs_from (suc i) None (l ++ more))) none
          ∙ ap₂ (λ (l : List ℕ) (k : ℕ). with_blob (seq s.first s.name s.version s.signer s.size l) (blobs_from k None more)) all_taken one
    ]

-- the shares of a sequence with this version and signer
abbrev pub sequence_shares : Namespace → ℕ → Option (List ℕ) → List ℕ → List Share
sequence_shares name version signer bytes =
    opening name version signer (length bytes) bytes
    ∷ later_shares (share_count (length bytes) (is_some signer) - 1) name version (drop (first_blob_content (is_some signer)) bytes)

-- a whole sequence, also that of no bytes
pub sequence_read : (i : ℕ) (name : Namespace) (version : ℕ) (signer : Option (List ℕ)) (bytes : List ℕ) (more : List Share) → IsNamespace name
    → IsLabel version signer (length bytes) → length bytes ≤ max_sequence_length
    → blobs_from i None (sequence_shares name version signer bytes ++ more)
    ≡ with_blob (seq i name version signer (length bytes) bytes) (blobs_from (i + length (sequence_shares name version signer bytes)) None more)
sequence_read i name version signer bytes more named label few =
    let size : ℕ = length bytes in
    let n : ℕ = first_blob_content (is_some signer) in
    let part : List ℕ = take n bytes in
    let rest : List ℕ = drop n bytes in
    let share : Share = opening name version signer size bytes in
    let count : ℕ = share_count size (is_some signer) - 1 in
    let shares : List Share = later_shares count name version rest in
    let t : Sequence = seq i name version signer size part in
    let first = opening_is_first name version signer size bytes named.size_is (omega arith) label in
    let behind : length rest ≡ size - n = length-drop n bytes in
    let count_is : count ≡ div_ceil (length rest) 482 = later_count size (is_some signer) ∙ ap (λ (n : ℕ). div_ceil n 482) (sym behind) in
    let later : AreLater Blobs name version rest shares = later_are count name version rest named.size_is count_is in
    let step : blobs_from i None (share ∷ (shares ++ more)) ≡ taken_on (suc i) t (shares ++ more) =
    on i None share (shares ++ more) t (first_passes Blobs i name version signer size bytes share (le-leb _ _ label.low) refl first)
    (first_taken Blobs i name version signer size bytes share refl first) in
    let front : length part + length rest ≡ size = omega (arith, length-take n bytes, behind) in
    let place : suc i + length shares ≡ i + length (share ∷ shares) = omega arith in
    elim (cases_lt n size) [
      | inl more_left ↦
          step ∙ open_on (suc i) t (shares ++ more) (omega arith)
          ∙ run_read (suc i) t rest shares more (omega arith) (omega arith) later
          ∙ ap₂ (λ (l : List ℕ) (k : ℕ). with_blob (seq i name version signer size l) (blobs_from k None more)) (take-append-drop n bytes) place
      | inr last ↦
          let none : shares ≡ [] = none_later Blobs name version rest shares later (omega arith) in
          let one : suc i ≡ i + length (share ∷ shares) = omega (arith, ap length none) in
          step ∙ whole_on (suc i) t (shares ++ more) (omega (arith, ap length (take_all n bytes last)))
          ∙ ap (λ (l : List Share). with_blob t (blobs_from (suc i) None (l ++ more))) none
          ∙ ap₂ (λ (l : List ℕ) (k : ℕ). with_blob (seq i name version signer size l) (blobs_from k None more)) (take_all n bytes last) one
    ]

-- padding is the sequence of no bytes
pub padding_is : (name : Namespace) (version : ℕ) → sequence_shares name version None [] ≡ padding_of version name ∷ []
unfolding later_shares
padding_is name version = refl

-- a blob of some bytes, with the others behind it
one_more : (s : Sequence) (empty : Bool) (r : Read) (more : List NamedBytes) → eqb s.size 0 ≡ empty → r ≡ Ok more
    → with_blob s r ≡ Ok (cond empty more (record { namespace = s.name; bytes = s.content; signer = s.signer } ∷ more))
one_more s empty r more is e =
    ap (with_blob s) e ∙ ap (λ (b : Bool). Ok (cond b more (record { namespace = s.name; bytes = s.content; signer = s.signer } ∷ more))) is

-- a blob has a length above 0
some_size : (bytes : List ℕ) → (bytes ≡ [] → ⊥) → eqb (length bytes) 0 ≡ false
some_size [] some = absurd (some refl)
some_size (b ∷ bytes) some = grind (arith, nat_tests)

-- all pieces, one after another
pub pieces_read : (i : ℕ) (pieces : List Piece) → AllByRecursion IsPiece pieces → blobs_from i None (flat_map piece_shares pieces) ≡ Ok (flat_map piece_blobs pieces)
pieces_read i [] are = blobs_from-nil i
pieces_read i (padding version name ∷ pieces) are =
    let more : List Share = flat_map piece_shares pieces in
    let shares : List Share = sequence_shares name version None [] in
    sym (ap (λ (l : List Share). blobs_from i None (l ++ more)) (padding_is name version))
    ∙ sequence_read i name version None [] more are.0.1 (padding_label version are.0.0) (omega arith)
    ∙ one_more (seq i name version None 0 []) true (blobs_from (i + length shares) None more) (flat_map piece_blobs pieces) refl
    (pieces_read (i + length shares) pieces are.1)
pieces_read i (blob named ∷ pieces) are =
    let more : List Share = flat_map piece_shares pieces in
    let version : ℕ = version_of named.signer in
    let shares : List Share = sequence_shares named.namespace version named.signer named.bytes in
    let some : eqb (length named.bytes) 0 ≡ false = some_size named.bytes are.0.some in
    sequence_read i named.namespace version named.signer named.bytes more are.0.name (blob_label named.signer (length named.bytes) some are.0.signer) are.0.few
    ∙ one_more (seq i named.namespace version named.signer (length named.bytes) named.bytes) false (blobs_from (i + length shares) None more)
    (flat_map piece_blobs pieces) some (pieces_read (i + length shares) pieces are.1)
