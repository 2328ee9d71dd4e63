-- How many blobs a complete answer shows.
use Rattle.std.proofs.Common.{◌≡◌, ◌∙◌, ℕ, suc, ◌+◌, ◌*◌, ◌^◌, ◌<◌, ◌≤◌, List, [], ◌∷◌, length, length-append, Bool, true, false, cond, ◌==◌, if◌then◌else◌, Option, Some, None, Ok, Err, sym, ap, subst, arith}
use Rattle.std.specs.Prelude.{⊤}
use Rattle.std.specs.Option.{option_map_or}
use Rattle.std.proofs.lemmas.List.{length-map}
use Rattle.std.specs.List.{filter, flat_map, AllByRecursion}
use Rattle.std.proofs.lemmas.Bool.Decides.{nat_tests}
use Rattle.std.proofs.lemmas.List.Concat.{flat_map-cons}
use Rattle.namespace_id.specs.declared.namespaces.Namespace.{Namespace}
use Rattle.namespace_id.specs.declared.shares.Share.{Share}
use Rattle.namespace_id.specs.Cells.{is_width}
use Rattle.namespace_id.specs.Sizes.{greatest_width}
use Rattle.namespace_id.specs.Lists.{ascending}
use Rattle.namespace_id.proofs.WidthLemmas.{is_width-le}
use Rattle.namespace_id.proofs.AscendingLemmas.{length-ascending}
use Rattle.share_split.specs.declared.joining.JoinError.{JoinError}
use Rattle.share_split.specs.Blobs.{NamedBytes}
use Rattle.share_split.specs.Walks.{Sequence, with_blob, blob_share_refusal, blobs_from, blobs_joined}
use Rattle.data_header.specs.Headers.{Roots}
use Rattle.axis_roots.specs.declared.answers.Found.{Found}
use Rattle.axis_roots.specs.declared.answers.Found.TheVariants.{Range, Absence}
use Rattle.axis_roots.specs.declared.answers.NsEntry.{NsEntry}
use Rattle.square_serve.specs.Answers.{IsComplete, HoldsEntry, is_placed, is_wanted, wanted_rows}
use Rattle.blob_feed.specs.Feeds.{Read, shares_shown, shares_found, IsCounted}
use Rattle.blob_feed.proofs.ShownLemmas.{shown_by_entry}

-- ---- blobs and their shares

-- at most so many blobs
abbrev AtMost : ℕ → Read → Type 0
AtMost n (Ok blobs) = length blobs ≤ n
AtMost n (Err why) = ⊤

-- so at most one more
more : (n : ℕ) (read : Read) → AtMost n read → AtMost (suc n) read
more n (Ok blobs) few = omega (arith, few)
more n (Err why) few = tt

-- a refusal has no blobs
checked_few : (n : ℕ) (why : Option JoinError) (read : Read) → AtMost n read → AtMost n (option_map_or Err why read)
checked_few n None read few = few
checked_few n (Some why) read few = tt

-- at most so many in both cases
either_few : (n : ℕ) (b : Bool) (one other : Read) → AtMost n one → AtMost n other
    → AtMost n (if b then one else other)
either_few n true one other few rest = few
either_few n false one other few rest = rest

-- one more where there is one more
one_more : (n : ℕ) (b : Bool) (blob : NamedBytes) (blobs : List NamedBytes) → length blobs ≤ n
    → length (if b then blobs else blob ∷ blobs) ≤ suc n
one_more n true blob blobs few = omega (arith, few)
one_more n false blob blobs few = omega (arith, few)

-- a complete sequence is one blob more at most, wherever it began and whatever its version is
with_few : (n : ℕ) (s : Sequence) (read : Read) → AtMost n read → AtMost (suc n) (with_blob s read)
with_few n s (Ok blobs) few = one_more n (s.size == 0) (record { namespace = s.name; bytes = s.content; signer = s.signer }) blobs few
with_few n s (Err why) few = tt

-- no more blobs than shares
blobs_few : (shares : List Share) (i : ℕ) (so_far : Option Sequence) → AtMost (length shares) (blobs_from i so_far shares)
unfolding blobs_from
blobs_few [] i None = omega arith
blobs_few [] i (Some s) = tt
blobs_few (share ∷ shares) i None =
    checked_few (suc (length shares)) (blob_share_refusal i None share) _
    (either_few (suc (length shares)) _ _ _
    (with_few (length shares) (record { first = i; name = _; version = 0; signer = _; size = _; content = _ })
    (blobs_from (suc i) None shares) (blobs_few shares (suc i) None))
    (more (length shares) _ (blobs_few shares (suc i) (Some _))))
blobs_few (share ∷ shares) i (Some s) =
    checked_few (suc (length shares)) (blob_share_refusal i (Some s) share) _
    (either_few (suc (length shares)) _ _ _
    (with_few (length shares) (record { first = i; name = _; version = 0; signer = _; size = _; content = _ })
    (blobs_from (suc i) None shares) (blobs_few shares (suc i) None))
    (more (length shares) _ (blobs_few shares (suc i) (Some _))))

-- fewer than four bytes state
few_counted : (n : ℕ) (read : Read) → n < 2 ^ 32 → AtMost n read → IsCounted read
few_counted n (Ok blobs) below few = omega (arith, below, few)
few_counted n (Err why) below few = tt

-- ---- the shares of an answer

-- a number that is kept or not
kept_short : (b : Bool) (x : ℕ) (kept : List ℕ) (n : ℕ) → length kept ≤ n → length (cond b (x ∷ kept) kept) ≤ suc n
kept_short true x kept n le = omega (arith, le)
kept_short false x kept n le = omega (arith, le)

-- what passes is no longer than all
filter_short : (test : ℕ → Bool) (xs : List ℕ) → length (filter test xs) ≤ length xs
filter_short test [] = omega arith
filter_short test (x ∷ xs) = kept_short (test x) x (filter test xs) (length xs) (filter_short test xs)

-- a range within the original square has at most k shares
placed_few : (k : ℕ) (found : Found) → is_placed k found ≡ true → length (shares_found found) ≤ k
placed_few k (Range start shares nodes) e = grind (arith, nat_tests, e)
placed_few k (Absence pos leaf nodes) e = omega arith

-- so an answer has at most k for each entry
entries_few : (header : Roots) (name : Namespace) (answer : List NsEntry)
    → AllByRecursion (HoldsEntry header name) answer
    → length (flat_map (λ (e : NsEntry). shares_found e.found) answer) ≤ length answer * header.k
entries_few header name [] all = omega arith
entries_few header name (entry ∷ answer) all =
    let here = placed_few header.k entry.found all.0.placed in
    let rest = entries_few header name answer all.1 in
    let long : length (flat_map (λ (e : NsEntry). shares_found e.found) (entry ∷ answer))
    ≡ length (shares_found entry.found) + length (flat_map (λ (e : NsEntry). shares_found e.found) answer) =
    ap (λ (l : List Share). length l) (flat_map-cons (λ (e : NsEntry). shares_found e.found) entry answer)
    ∙ length-append (shares_found entry.found) (flat_map (λ (e : NsEntry). shares_found e.found) answer) in
    grind (arith, here, rest, long)

-- no more entries than the greatest square has rows, each of no more shares than one of these has
square_few : (a n k : ℕ) → n ≤ k → k ≤ greatest_width → a ≤ n * k → a < 2 ^ 32
square_few a n k few small le =
    let rows : n * k ≤ greatest_width * k = grind (arith, few, small) in
    omega (arith, rows, small, le)

-- the number of blobs of a complete answer has four bytes
pub complete_counted : (header : Roots) (name : Namespace) (answer : List NsEntry) → is_width header.k ≡ true
    → IsComplete header name answer → IsCounted (blobs_joined (shares_shown answer))
complete_counted header name answer width complete =
    let rows : length answer ≤ header.k =
    let same : length answer ≡ length (wanted_rows header name) =
    sym (length-map answer (λ (e : NsEntry). e.row)) ∙ ap (λ (l : List ℕ). length l) complete.rows in
    let short = filter_short (is_wanted header name) (ascending 0 header.k) in
    let long = length-ascending header.k 0 in
    omega (arith, same, short, long) in
    let shares : length (shares_shown answer) ≤ length answer * header.k =
    subst (λ (l : List Share). length l ≤ length answer * header.k) (sym (shown_by_entry answer))
    (entries_few header name answer complete.entries) in
    few_counted (length (shares_shown answer)) (blobs_joined (shares_shown answer))
    (square_few (length (shares_shown answer)) (length answer) header.k rows (is_width-le header.k width) shares)
    (blobs_few (shares_shown answer) 0 None)
