-- Which share is named when shares are read back and refused.
use Rattle.std.proofs.Common.{◌≡◌, ◌∙◌, ◌↔◌, ◌⊎◌, ⊎_elim, inl, inr, ℕ, suc, Bool, true, false, cond, List, [], ◌∷◌, ◌++◌, length, Option, Some, None, Result, Ok, Err, refl, sym, ap, subst, arith, length-append, append_assoc, append-nil}
use Rattle.std.specs.Bool.{⊤}
use Rattle.std.specs.Option.{option_map_or}
use Rattle.namespace_id.specs.declared.shares.Share.{Share}
use Rattle.share_split.specs.declared.joining.JoinError.{JoinError}
use Rattle.share_split.specs.declared.joining.JoinError.TheVariants.{Short}
use Rattle.share_split.specs.declared.walking.Form.{Form}
use Rattle.share_split.specs.declared.walking.Form.TheVariants.{Blobs, Units}
use Rattle.share_split.specs.Walks.{Sequence, is_complete, with_blob, blob_share_refusal, unit_refusal, sequence_after, blobs_from, sequence_from}
use Rattle.share_split.specs.Steps.{open_after}
use Rattle.share_split.specs.JoinRefusals.{refusal_of, AreRead, start, next, IsRefusedFor}
use Rattle.share_split.proofs.Reading.BlobWalk.{Read, blobs_on, blobs_from-cons, blobs_from-nil, blobs_from-open}
use Rattle.share_split.proofs.Reading.UnitWalk.{sequence_from-cons, sequence_from-none, sequence_from-whole, sequence_from-open}

-- ---- of both forms

-- a check that refused, or what follows did
refused_or : {A E : Type 0} (o : Option E) (r : Result A E) (e : E) → option_map_or Err o r ≡ Err e → (o ≡ Some e) ⊎ ((o ≡ None) × (r ≡ Err e))
refused_or None r e is = inr (refl, is)
refused_or (Some why) r e is = inl cc

-- the share at hand is refused
here : (form : Form) (before : List Share) (so_far : Option Sequence) (share : Share) (shares : List Share) (why : JoinError) → AreRead form before so_far
    → refusal_of form (length before) so_far share ≡ Some why → IsRefusedFor form (before ++ share ∷ shares) why
here form before so_far share shares why are_read refused =
    inl (record { before = before; share = share; after = shares; so_far = so_far; parts = refl; are_read = are_read; refused = refused })

-- the list ends in an open sequence
at_end : (form : Form) (before : List Share) (s : Sequence) (why : JoinError) → AreRead form before (Some s) → is_complete s ≡ false → why ≡ Short s.first
    → IsRefusedFor form (before ++ []) why
at_end form before s why are_read incomplete named =
    inr (record { sequence = s; are_read = subst (λ (l : List Share). AreRead form l (Some s)) (sym (append-nil before)) are_read; incomplete = incomplete; named = named })

-- one share more was read
length-more : (before : List Share) (share : Share) → length (before ++ share ∷ []) ≡ suc (length before)
length-more before share = omega (arith, length-append before (share ∷ []))

-- the shares that were read, and those that follow
parted : (form : Form) (before : List Share) (share : Share) (shares : List Share) (why : JoinError)
    → IsRefusedFor form ((before ++ share ∷ []) ++ shares) why → IsRefusedFor form (before ++ share ∷ shares) why
parted form before share shares why refused =
    subst (λ (l : List Share). IsRefusedFor form l why) (append_assoc before (share ∷ []) shares) refused

-- ---- blobs

-- a sequence that may be open has content to come
abbrev IsOpen : Option Sequence → Type 0
IsOpen None = ⊤
IsOpen (Some s) = is_complete s ≡ false

-- what is left of a sequence has
left_open : (done : Bool) (s : Sequence) → is_complete s ≡ done → IsOpen (cond done None (Some s))
left_open true s is = tt
left_open false s is = is

-- a blob before a refusal changes nothing
with_blob-err : (s : Sequence) (r : Read) (why : JoinError) → (with_blob s r ≡ Err why) → r ≡ Err why
with_blob-err s (Err e) why is = is
with_blob-err s (Ok blobs) why is = absurd cc

-- a share that passed its checks
blobs_after_one : (done : Bool) (s : Sequence) (on : Option Sequence → Read) (why : JoinError)
    → cond done (with_blob s (on None)) (on (Some s)) ≡ Err why → on (cond done None (Some s)) ≡ Err why
blobs_after_one true s on why is = with_blob-err s (on None) why is
blobs_after_one false s on why is = is

-- and the other way round
blobs_before_one : (done : Bool) (s : Sequence) (on : Option Sequence → Read) (why : JoinError)
    → on (cond done None (Some s)) ≡ Err why → cond done (with_blob s (on None)) (on (Some s)) ≡ Err why
blobs_before_one true s on why is = ap (with_blob s) is
blobs_before_one false s on why is = is

-- the share that is named
blobs_named : (shares before : List Share) (so_far : Option Sequence) (why : JoinError) → AreRead Blobs before so_far → IsOpen so_far
    → blobs_from (length before) so_far shares ≡ Err why → IsRefusedFor Blobs (before ++ shares) why
blobs_named [] before None why are_read is_open is = let nil = blobs_from-nil (length before) in absurd cc
blobs_named [] before (Some s) why are_read is_open is =
    let cut = blobs_from-open (length before) s in
    let same : Err (Short s.first) ≡ Err why = sym cut ∙ is in
    at_end Blobs before s why are_read is_open cc
blobs_named (share ∷ shares) before so_far why are_read is_open is =
    let n : ℕ = length before in
    let t : Sequence = sequence_after Blobs n so_far share in
    let more : List Share = before ++ share ∷ [] in
    ⊎_elim (λ (refused : blob_share_refusal n so_far share ≡ Some why). here Blobs before so_far share shares why are_read refused)
    (λ (on : (blob_share_refusal n so_far share ≡ None) × (blobs_on n so_far share shares ≡ Err why)).
    parted Blobs before share shares why
    (blobs_named shares more (open_after t) why (next before so_far share are_read on.0) (left_open (is_complete t) t refl)
    (ap (λ (k : ℕ). blobs_from k (open_after t) shares) (length-more before share)
    ∙ blobs_after_one (is_complete t) t (λ o. blobs_from (suc n) o shares) why on.1)))
    (refused_or (blob_share_refusal n so_far share) (blobs_on n so_far share shares) why (sym (blobs_from-cons n so_far share shares) ∙ is))

-- what follows shares that were read is refused as it is behind them
blobs_behind : (before : List Share) (so_far : Option Sequence) (shares : List Share) (why : JoinError) → AreRead Blobs before so_far
    → blobs_from (length before) so_far shares ≡ Err why → blobs_from 0 None (before ++ shares) ≡ Err why
blobs_behind _ _ shares why start is = is
blobs_behind _ _ shares why (next before so_far share are_read passed) is =
    let n : ℕ = length before in
    let t : Sequence = sequence_after Blobs n so_far share in
    let on : blobs_on n so_far share shares ≡ Err why =
    blobs_before_one (is_complete t) t (λ o. blobs_from (suc n) o shares) why
    (sym (ap (λ (k : ℕ). blobs_from k (open_after t) shares) (length-more before share)) ∙ is) in
    ap (blobs_from 0 None) (append_assoc before (share ∷ []) shares)
    ∙ blobs_behind before so_far (share ∷ shares) why are_read
    (blobs_from-cons n so_far share shares
    ∙ ap (λ (o : Option JoinError). option_map_or Err o (blobs_on n so_far share shares)) passed ∙ on)

-- a refusal of blobs says which share is refused, and the other way round
pub blobs_refused : (shares : List Share) (why : JoinError) → (blobs_from 0 None shares ≡ Err why) ↔ IsRefusedFor Blobs shares why
blobs_refused shares why = (blobs_named shares [] None why start tt, refused_is)
  where
    refused_is : IsRefusedFor Blobs shares why → blobs_from 0 None shares ≡ Err why
    refused_is (inl one) =
        let n : ℕ = length one.before in
        ap (blobs_from 0 None) one.parts
        ∙ blobs_behind one.before one.so_far (one.share ∷ one.after) why one.are_read
        (blobs_from-cons n one.so_far one.share one.after
        ∙ ap (λ (o : Option JoinError). option_map_or Err o (blobs_on n one.so_far one.share one.after)) one.refused)
    refused_is (inr cut) =
        ap (blobs_from 0 None) (sym (append-nil shares))
        ∙ blobs_behind shares (Some cut.sequence) [] why cut.are_read (blobs_from-open (length shares) cut.sequence ∙ ap Err (sym cut.named))

-- ---- units

-- a sequence that is open where the list ends isn't complete
units_end : (done : Bool) (before : List Share) (s : Sequence) (why : JoinError) → is_complete s ≡ done → AreRead Units before (Some s)
    → sequence_from (length before) (Some s) [] ≡ Err why → IsRefusedFor Units (before ++ []) why
units_end true before s why done are_read is = let whole = sequence_from-whole (length before) s done in absurd cc
units_end false before s why done are_read is =
    let same : Err (Short s.first) ≡ Err why = sym (sequence_from-open (length before) s done) ∙ is in
    at_end Units before s why are_read done cc

-- the share that is named
units_named : (shares before : List Share) (so_far : Option Sequence) (why : JoinError) → AreRead Units before so_far
    → sequence_from (length before) so_far shares ≡ Err why → IsRefusedFor Units (before ++ shares) why
units_named [] before None why are_read is = let nil = sequence_from-none (length before) in absurd cc
units_named [] before (Some s) why are_read is = units_end (is_complete s) before s why refl are_read is
units_named (share ∷ shares) before so_far why are_read is =
    let n : ℕ = length before in
    let t : Sequence = sequence_after Units n so_far share in
    ⊎_elim (λ (refused : unit_refusal n so_far share ≡ Some why). here Units before so_far share shares why are_read refused)
    (λ (on : (unit_refusal n so_far share ≡ None) × (sequence_from (suc n) (Some t) shares ≡ Err why)).
    parted Units before share shares why
    (units_named shares (before ++ share ∷ []) (Some t) why (next before so_far share are_read on.0)
    (ap (λ (k : ℕ). sequence_from k (Some t) shares) (length-more before share) ∙ on.1)))
    (refused_or (unit_refusal n so_far share) (sequence_from (suc n) (Some t) shares) why (sym (sequence_from-cons n so_far share shares) ∙ is))

-- what follows shares that were read is refused as it is behind them
units_behind : (before : List Share) (so_far : Option Sequence) (shares : List Share) (why : JoinError) → AreRead Units before so_far
    → sequence_from (length before) so_far shares ≡ Err why → sequence_from 0 None (before ++ shares) ≡ Err why
units_behind _ _ shares why start is = is
units_behind _ _ shares why (next before so_far share are_read passed) is =
    let n : ℕ = length before in
    let t : Sequence = sequence_after Units n so_far share in
    ap (sequence_from 0 None) (append_assoc before (share ∷ []) shares)
    ∙ units_behind before so_far (share ∷ shares) why are_read
    (sequence_from-cons n so_far share shares
    ∙ ap (λ (o : Option JoinError). option_map_or Err o (sequence_from (suc n) (Some t) shares)) passed
    ∙ sym (ap (λ (k : ℕ). sequence_from k (Some t) shares) (length-more before share)) ∙ is)

-- a refusal of the one sequence of units says which share is refused, and the other way round
pub units_refused : (shares : List Share) (why : JoinError) → (sequence_from 0 None shares ≡ Err why) ↔ IsRefusedFor Units shares why
units_refused shares why = (units_named shares [] None why start, refused_is)
  where
    refused_is : IsRefusedFor Units shares why → sequence_from 0 None shares ≡ Err why
    refused_is (inl one) =
        let n : ℕ = length one.before in
        ap (sequence_from 0 None) one.parts
        ∙ units_behind one.before one.so_far (one.share ∷ one.after) why one.are_read
        (sequence_from-cons n one.so_far one.share one.after
        ∙ ap (λ (o : Option JoinError). option_map_or Err o (sequence_from (suc n) (Some (sequence_after Units n one.so_far one.share)) one.after)) one.refused)
    refused_is (inr cut) =
        ap (sequence_from 0 None) (sym (append-nil shares))
        ∙ units_behind shares (Some cut.sequence) [] why cut.are_read
        (sequence_from-open (length shares) cut.sequence cut.incomplete ∙ ap Err (sym cut.named))
