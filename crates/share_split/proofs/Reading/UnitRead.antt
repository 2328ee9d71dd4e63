-- The compact sequence of units is read as these units.
use Rattle.std.proofs.Common.{◌≡◌, ◌∙◌, ℕ, suc, ◌+◌, ◌-◌, ◌<◌, ◌≤◌, Bool, false, cond, le-leb, eq-eqb, List, [], ◌∷◌, ◌++◌, length, take, drop, Option, Some, None, Ok, Err, refl, sym, ap, arith, length-take, length-drop, length-append, append_assoc, take-append-drop, append-nil}
use Rattle.std.specs.Int.{div_ceil}
use Rattle.std.specs.Option.{option_map_or}
use Rattle.std.proofs.lemmas.Bool.Decides.{nat_tests}
use Rattle.std.proofs.lemmas.List.{nil_from_length}
use Rattle.namespace_id.specs.Names.{IsNamespace}
use Rattle.namespace_id.specs.declared.namespaces.Namespace.{Namespace}
use Rattle.namespace_id.specs.declared.shares.Share.{Share}
use Rattle.share_split.specs.declared.joining.JoinError.{JoinError}
use Rattle.share_split.specs.declared.joining.JoinError.TheVariants.{BadReserved}
use Rattle.share_split.specs.Blobs.{max_sequence_length}
use Rattle.share_split.specs.Units.{units_text, starts_from, reserved_of, first_compact_share, later_compact_shares, compact_count, compact_shares}
use Rattle.share_split.specs.declared.walking.Form.TheVariants.{Units}
use Rattle.share_split.specs.Walks.{Sequence, missing, is_complete, later_refusal, surplus_refusal, unit_refusal, sequence_after, sequence_from, bad_reserved, reserved_units, units_in, units_of}
use Rattle.share_split.proofs.Reading.CompactFields.{first_compact_is}
use Rattle.share_split.proofs.Reading.Sequence.{seq, first_passes, first_taken, later_passes, later_taken}
use Rattle.share_split.proofs.Reading.Runs.{AreLater, later_compact_are, later_compact_count, later_compact_good}
use Rattle.share_split.proofs.Reading.Reserved.{bad_reserved-cons}
use Rattle.share_split.proofs.Writing.Places.{reserved_of-small}
use Rattle.share_split.proofs.Reading.TextLaws.{units_again}
use Rattle.share_split.proofs.Reading.UnitWalk.{sequence_from-cons, sequence_from-whole}

-- a share whose checks pass
on : (i : ℕ) (so_far : Option Sequence) (share : Share) (shares : List Share) (t : Sequence) → unit_refusal i so_far share ≡ None → sequence_after Units i so_far share ≡ t
    → sequence_from i so_far (share ∷ shares) ≡ sequence_from (suc i) (Some t) shares
on i so_far share shares t passes taken =
    sequence_from-cons i so_far share shares
    ∙ ap (λ (o : Option JoinError). option_map_or Err o (sequence_from (suc i) (Some (sequence_after Units i so_far share)) shares)) passes
    ∙ ap (λ (s : Sequence). sequence_from (suc i) (Some s) shares) taken

-- the rest of the sequence
run_read : (i : ℕ) (s : Sequence) (text : List ℕ) (shares : List Share) → s.size ≡ length s.content + length text → AreLater Units s.name s.version text shares
    → sequence_from i (Some s) shares ≡ Ok (Some (seq s.first s.name s.version s.signer s.size (s.content ++ text)))
run_read i s text [] all later =
    let none : text ≡ [] = nil_from_length text later in
    sequence_from-whole i s (le-leb _ _ (omega arith))
    ∙ ap (λ (l : List ℕ). Ok (Some (seq s.first s.name s.version s.signer s.size l))) (sym (append-nil s.content) ∙ sym (ap (λ (l : List ℕ). s.content ++ l) none))
run_read i s text (share ∷ shares) all later =
    let some : 0 < length text = later.0 in
    let left : length text ≡ missing s = omega arith in
    let part : List ℕ = take 478 text in
    let rest : List ℕ = drop 478 text in
    let t : Sequence = seq s.first s.name s.version s.signer s.size (s.content ++ part) in
    let still : is_complete s ≡ false = grind (arith, nat_tests) in
    let passes : unit_refusal i (Some s) share ≡ None =
    ap (λ (b : Bool). cond b (Some (surplus_refusal i share)) (later_refusal Units i s share)) still ∙ later_passes Units i s text share left later.1 in
    let front : length part + length rest ≡ length text = omega (arith, length-take 478 text, length-drop 478 text) in
    on i (Some s) share shares t passes (later_taken Units s text share left later.1)
    ∙ run_read (suc i) t rest shares (omega (arith, length-append s.content part, front)) later.2
    ∙ ap (λ (l : List ℕ). Ok (Some (seq s.first s.name s.version s.signer s.size l))) (append_assoc s.content part rest ∙ ap (λ (l : List ℕ). s.content ++ l) (take-append-drop 478 text))

-- where units start in their text
abbrev starts : List (List ℕ) → List ℕ
starts units = starts_from 0 units

-- the whole sequence
sequence_read : (name : Namespace) (units : List (List ℕ)) → IsNamespace name → length (units_text units) ≤ max_sequence_length
    → sequence_from 0 None (compact_shares name units) ≡ Ok (Some (seq 0 name 0 None (length (units_text units)) (units_text units)))
sequence_read name units named few =
    let text : List ℕ = units_text units in
    let size : ℕ = length text in
    let part : List ℕ = take 474 text in
    let rest : List ℕ = drop 474 text in
    let reserved : ℕ = reserved_of 0 (starts units) in
    let share : Share = first_compact_share name size reserved part in
    let count : ℕ = compact_count size - 1 in
    let shares : List Share = later_compact_shares count name 1 (starts units) rest in
    let t : Sequence = seq 0 name 0 None size part in
    let first = (first_compact_is name size reserved text named.size_is (omega arith) (reserved_of-small 0 (starts units))).0 in
    let behind : length rest ≡ size - 474 = length-drop 474 text in
    let count_is : count ≡ div_ceil (length rest) 478 = later_compact_count size ∙ ap (λ (n : ℕ). div_ceil n 478) (sym behind) in
    let later : AreLater Units name 0 rest shares = later_compact_are count name 1 (starts units) rest named.size_is count_is in
    on 0 None share shares t (first_passes Units 0 name 0 None size text share refl refl first) (first_taken Units 0 name 0 None size text share refl first)
    ∙ run_read 1 t rest shares (omega (arith, length-take 474 text, behind)) later
    ∙ ap (λ (l : List ℕ). Ok (Some (seq 0 name 0 None size l))) (take-append-drop 474 text)

-- its reserved bytes are the rule's
reserved_good : (name : Namespace) (units : List (List ℕ)) → IsNamespace name → length (units_text units) ≤ max_sequence_length
    → bad_reserved 0 (starts units) (compact_shares name units) ≡ None
reserved_good name units named few =
    let text : List ℕ = units_text units in
    let size : ℕ = length text in
    let reserved : ℕ = reserved_of 0 (starts units) in
    let share : Share = first_compact_share name size reserved (take 474 text) in
    let rest : List Share = later_compact_shares (compact_count size - 1) name 1 (starts units) (drop 474 text) in
    bad_reserved-cons 0 (starts units) share rest
    ∙ ap (λ (b : Bool). cond b (bad_reserved 1 (starts units) rest) (Some 0))
    (eq-eqb _ _ (first_compact_is name size reserved text named.size_is (omega arith) (reserved_of-small 0 (starts units))).1)
    ∙ later_compact_good (compact_count size - 1) name 1 (starts units) (drop 474 text) named.size_is

-- the compact shares of units are read as these
pub compact_read : (name : Namespace) (units : List (List ℕ)) → IsNamespace name → length (units_text units) ≤ max_sequence_length
    → units_of (compact_shares name units) ≡ Ok units
compact_read name units named few =
    let shares : List Share = compact_shares name units in
    ap (units_in shares) (sequence_read name units named few)
    ∙ ap (reserved_units shares) (units_again 0 units (omega arith))
    ∙ ap (λ (o : Option ℕ). option_map_or (λ i. Err (BadReserved i)) o (Ok units)) (reserved_good name units named few)
