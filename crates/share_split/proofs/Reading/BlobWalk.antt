-- Walking over the shares of blobs, one share at a time.
use Rattle.std.proofs.Common.{◌≡◌, ◌∙◌, ◌⊎◌, inl, inr, ℕ, suc, ◌+◌, ◌<◌, ◌≤◌, Bool, true, false, cond, not, ◌&&◌, eqb, List, [], ◌∷◌, ◌++◌, length, drop, get_or, Option, Some, None, Result, Ok, Err, refl, sym, ap, ap₂, arith, append_assoc, append-nil}
use Rattle.std.specs.Option.{option_map_or}
use Rattle.std.proofs.lemmas.List.{drop_more, drop_all}
use Rattle.namespace_id.specs.declared.shares.Share.{Share}
use Rattle.share_split.specs.declared.joining.JoinError.{JoinError}
use Rattle.share_split.specs.declared.joining.JoinError.TheVariants.{Short, NoMemory}
use Rattle.share_split.specs.declared.walking.Form.TheVariants.{Blobs}
use Rattle.share_split.specs.Blobs.{NamedBytes}
use Rattle.share_split.specs.Walks.{Sequence, is_complete, with_blob, blob_share_refusal, sequence_after, blobs_from}
use Rattle.share_split.specs.Steps.{open_after, blobs_after, behind_blobs}

-- what shares are read as
abbrev pub Read : Type 0
Read = Result (List NamedBytes) JoinError

-- what follows a share whose checks pass
abbrev pub blobs_on : ℕ → Option Sequence → Share → List Share → Read
blobs_on i so_far share shares =
    cond (is_complete (sequence_after Blobs i so_far share))
    (with_blob (sequence_after Blobs i so_far share) (blobs_from (suc i) None shares))
    (blobs_from (suc i) (Some (sequence_after Blobs i so_far share)) shares)

-- the next share is checked first
pub blobs_from-cons : (i : ℕ) (so_far : Option Sequence) (share : Share) (shares : List Share)
    → blobs_from i so_far (share ∷ shares) ≡ option_map_or Err (blob_share_refusal i so_far share) (blobs_on i so_far share shares)
unfolding blobs_from
blobs_from-cons i None share shares = refl
blobs_from-cons i (Some s) share shares = refl

-- no shares are no blobs
pub blobs_from-nil : (i : ℕ) → blobs_from i None [] ≡ Ok []
unfolding blobs_from
blobs_from-nil i = refl

-- shares that end in an open sequence are cut short
pub blobs_from-open : (i : ℕ) (s : Sequence) → blobs_from i (Some s) [] ≡ Err (Short s.first)
unfolding blobs_from
blobs_from-open i s = refl

-- a sequence that is complete is a blob or padding
one_blob : (empty : Bool) (b : NamedBytes) (blobs more : List NamedBytes) → blobs ++ cond empty more (b ∷ more) ≡ (blobs ++ cond (not empty) (b ∷ []) []) ++ more
one_blob true b blobs more = ap (λ (l : List NamedBytes). l ++ more) (sym (append-nil blobs))
one_blob false b blobs more = sym (append_assoc blobs (b ∷ []) more)

-- blobs before it stay before it
with_blob-behind : (s : Sequence) (blobs : List NamedBytes) (r : Read)
    → behind_blobs blobs (with_blob s r) ≡ behind_blobs (blobs ++ cond (not (eqb s.size 0)) (record { namespace = s.name; bytes = s.content; signer = s.signer } ∷ []) []) r
with_blob-behind s blobs (Err e) = refl
with_blob-behind s blobs (Ok more) = ap Ok (one_blob (eqb s.size 0) (record { namespace = s.name; bytes = s.content; signer = s.signer }) blobs more)

-- one share was taken, and the blobs so far grew by what it completed
closed_on : (done : Bool) (s : Sequence) (blobs : List NamedBytes) (next : Option Sequence → Read)
    → behind_blobs blobs (cond done (with_blob s (next None)) (next (Some s)))
    ≡ behind_blobs (blobs ++ cond (done && not (eqb s.size 0)) (record { namespace = s.name; bytes = s.content; signer = s.signer } ∷ []) []) (next (cond done None (Some s)))
closed_on true s blobs next = with_blob-behind s blobs (next None)
closed_on false s blobs next = ap (λ (l : List NamedBytes). behind_blobs l (next (Some s))) (sym (append-nil blobs))

-- one share more was read
pub blobs_more : (i : ℕ) (shares : List Share) (none : Share) (so_far left : Option Sequence) (sequence : Sequence) (blobs after : List NamedBytes) (whole : Read)
    → i < length shares
    → blob_share_refusal i so_far (get_or shares i none) ≡ None → sequence ≡ sequence_after Blobs i so_far (get_or shares i none)
    → left ≡ open_after sequence → after ≡ blobs ++ blobs_after sequence
    → behind_blobs blobs (blobs_from i so_far (drop i shares)) ≡ whole
    → behind_blobs after (blobs_from (i + 1) left (drop (i + 1) shares)) ≡ whole
blobs_more i shares none so_far left sequence blobs after whole lt passed taken left_is after_is before =
    let share : Share = get_or shares i none in
    let rest : List Share = drop (i + 1) shares in
    let next : Option Sequence → Read = λ o. blobs_from (suc i) o rest in
    let on : Sequence → Read = λ s. cond (is_complete s) (with_blob s (next None)) (next (Some s)) in
    let here : blobs_from i so_far (drop i shares) ≡ on sequence =
    ap (blobs_from i so_far) (drop_more shares i none lt)
    ∙ blobs_from-cons i so_far share rest
    ∙ ap (λ (o : Option JoinError). option_map_or Err o (blobs_on i so_far share rest)) passed
    ∙ sym (ap on taken) in
    let e : i + 1 ≡ suc i = omega arith in
    ap₂ (λ (l : List NamedBytes) (o : Option Sequence). behind_blobs l (blobs_from (i + 1) o rest)) after_is left_is
    ∙ ap (λ (k : ℕ). behind_blobs (blobs ++ blobs_after sequence) (blobs_from k (open_after sequence) rest)) e
    ∙ sym (closed_on (is_complete sequence) sequence blobs next)
    ∙ sym (ap (behind_blobs blobs) here)
    ∙ before

-- a check of a share failed, or memory ran out
pub blobs_stop : (i : ℕ) (shares : List Share) (none : Share) (so_far : Option Sequence) (blobs : List NamedBytes) (whole : Read) (error : JoinError)
    → i < length shares → (error ≡ NoMemory) ⊎ (blob_share_refusal i so_far (get_or shares i none) ≡ Some error)
    → behind_blobs blobs (blobs_from i so_far (drop i shares)) ≡ whole
    → (error ≡ NoMemory) ⊎ (whole ≡ Err error)
blobs_stop i shares none so_far blobs whole error lt (inl full) before = inl full
blobs_stop i shares none so_far blobs whole error lt (inr refused) before =
    let share : Share = get_or shares i none in
    let rest : List Share = drop (i + 1) shares in
    inr (sym before ∙ ap (behind_blobs blobs)
    (ap (blobs_from i so_far) (drop_more shares i none lt)
    ∙ blobs_from-cons i so_far share rest
    ∙ ap (λ (o : Option JoinError). option_map_or Err o (blobs_on i so_far share rest)) refused))

-- no share is left
pub blobs_end : (i : ℕ) (shares : List Share) (blobs : List NamedBytes) (whole : Read) → length shares ≤ i
    → behind_blobs blobs (blobs_from i None (drop i shares)) ≡ whole → whole ≡ Ok blobs
unfolding blobs_from
blobs_end i shares blobs whole le before =
    sym before ∙ ap (λ (l : List Share). behind_blobs blobs (blobs_from i None l)) (drop_all i shares le) ∙ ap Ok (append-nil blobs)

-- none is left and a sequence is open
pub blobs_cut : (i : ℕ) (shares : List Share) (blobs : List NamedBytes) (whole : Read) (s : Sequence) → length shares ≤ i
    → behind_blobs blobs (blobs_from i (Some s) (drop i shares)) ≡ whole → whole ≡ Err (Short s.first)
unfolding blobs_from
blobs_cut i shares blobs whole s le before =
    sym before ∙ ap (λ (l : List Share). behind_blobs blobs (blobs_from i (Some s) l)) (drop_all i shares le)
