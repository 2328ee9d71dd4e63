-- What an answer tells of the checks and the sequences before it.
use Rattle.std.proofs.Common.{◌≡◌, ℕ, ◌<◌, ◌≤◌, Bool, true, false, cond, eqb, leb-true, leb-false, List, ◌∷◌, length, Some, None, Ok, Err, refl}
use Rattle.namespace_id.specs.declared.shares.Share.{Share}
use Rattle.share_split.specs.Blobs.{NamedBytes}
use Rattle.share_split.specs.Walks.{Sequence, is_complete, with_blob, blobs_from}
use Rattle.share_split.proofs.Reading.BlobWalk.{Read}
use Rattle.share_split.proofs.Reading.BlobRead.{taken_on}

-- a complete sequence, and the others
pub record IsClosed (s : Sequence) (r : Read) (blobs : List NamedBytes) : Type 0 where
  pub others : List NamedBytes
  pub rest : r ≡ Ok others
  pub shown : cond (eqb s.size 0) others (record { namespace = s.name; bytes = s.content; signer = s.signer } ∷ others) ≡ blobs

-- a complete sequence was followed by other blobs
closed : (s : Sequence) (r : Read) (blobs : List NamedBytes) → with_blob s r ≡ Ok blobs → IsClosed s r blobs
closed s (Err why) blobs e = absurd cc
closed s (Ok others) blobs e = record { others = others; rest = refl; shown = cc }

-- the same where it is told which
goes_on_by : {P : Type 0} (i : ℕ) (s : Sequence) (shares : List Share) (blobs : List NamedBytes) (b : Bool) → is_complete s ≡ b
    → cond b (with_blob s (blobs_from i None shares)) (blobs_from i (Some s) shares) ≡ Ok blobs
    → (s.size ≤ length s.content → IsClosed s (blobs_from i None shares) blobs → P)
    → (length s.content < s.size → blobs_from i (Some s) shares ≡ Ok blobs → P) → P
goes_on_by i s shares blobs true is e whole more = whole (leb-true _ _ is) (closed s (blobs_from i None shares) blobs e)
goes_on_by i s shares blobs false is e whole more = more (leb-false _ _ is) e

-- a sequence was completed, or is still open
pub goes_on : {P : Type 0} (i : ℕ) (s : Sequence) (shares : List Share) (blobs : List NamedBytes) → taken_on i s shares ≡ Ok blobs
    → (s.size ≤ length s.content → IsClosed s (blobs_from i None shares) blobs → P)
    → (length s.content < s.size → blobs_from i (Some s) shares ≡ Ok blobs → P) → P
goes_on i s shares blobs e whole more = goes_on_by i s shares blobs (is_complete s) refl e whole more
