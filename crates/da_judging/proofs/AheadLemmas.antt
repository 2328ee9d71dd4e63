-- Digests of leaves that are known ahead of the frames which show them.
use Rattle.std.proofs.Common.{◌≡◌, ◌∙◌, ℕ, List, [], ◌∷◌, ◌++◌, Option, None, Some, refl, sym, ap, ap₂, subst, append_assoc, append-nil}
use Rattle.std.specs.Prelude.{IfSome, IsNone}
use Rattle.namespace_id.specs.declared.digests.Digest.{Digest}
use Rattle.nmt_tree.specs.Queues.{QueuedLeaves, queued, no_leaves}
use Rattle.da_wire.specs.Reading.{Raw}
use Rattle.da_judging.specs.Ahead.{IsLeafDigestOf, AreAhead, IsNextAhead}

-- no digests are ahead
pub none_ahead : (k : ℕ) (frames : List Raw) → AreAhead k [] frames
unfolding AreAhead
none_ahead k frames = tt

-- nor in a queue without leaves
pub new_ahead : (k : ℕ) (queue : QueuedLeaves) (frames : List Raw) → queue ≡ no_leaves → AreAhead k (queued queue) frames
new_ahead k queue frames none = subst (λ (q : QueuedLeaves). AreAhead k (queued q) frames) (sym none) (none_ahead k frames)

-- the digest of a leaf in front of those of the leaves that the frames behind it show
pub one_ahead : (k : ℕ) (digest : Digest) (digests : List Digest) (frame : Raw) (frames : List Raw) → IsLeafDigestOf k digest frame → AreAhead k digests frames → AreAhead k (digest ∷ digests) (frame ∷ frames)
unfolding AreAhead
one_ahead k digest digests frame frames shown ahead = (shown, ahead)

-- digests behind these are those of the leaves that the frames behind them show
abbrev pub Leads : ℕ → List Digest → List Raw → List Raw → Type 0
Leads k before rest all = (more : List Digest) → AreAhead k more rest → AreAhead k (before ++ more) all

-- and one more leaf that waits gives one more
pub leads_on : (k : ℕ) (old new : QueuedLeaves) (digest : Digest) (frame : Raw) (rest after all : List Raw) → Leads k (queued old) rest all → rest ≡ frame ∷ after
    → new.ready ≡ old.ready → new.waiting ≡ old.waiting ++ digest ∷ [] → IsLeafDigestOf k digest frame → Leads k (queued new) after all
leads_on k old new digest frame rest after all so_far next ready waiting shown more ahead =
    let longer : queued new ≡ queued old ++ digest ∷ [] = ap₂ (λ (x y : List Digest). x ++ y) ready waiting ∙ sym (append_assoc old.ready old.waiting (digest ∷ [])) in
    let joined : queued new ++ more ≡ queued old ++ (digest ∷ more) = ap (λ (l : List Digest). l ++ more) longer ∙ append_assoc (queued old) (digest ∷ []) more in
    subst (λ (l : List Digest). AreAhead k l all) (sym joined)
    (so_far (digest ∷ more) (subst (AreAhead k (digest ∷ more)) (sym next) (one_ahead k digest more frame after shown ahead)))

-- where no more come, these are ahead of all frames
pub leads_all : (k : ℕ) (before : List Digest) (rest all : List Raw) → Leads k before rest all → AreAhead k before all
leads_all k before rest all so_far = subst (λ (l : List Digest). AreAhead k l all) (append-nil before) (so_far [] (none_ahead k rest))

-- ---- the first of them

-- what is taken is the first digest, and where there is none there are no others
pub taken_ahead : (k : ℕ) (leaf : Option Digest) (old new : List Digest) (frames : List Raw) → AreAhead k old frames → IfSome leaf (λ digest. old ≡ digest ∷ new)
    → (IsNone leaf → new ≡ []) → IsNextAhead k leaf new frames
unfolding AreAhead
taken_ahead k None old new frames ahead first empty = λ frame after next. (tt, subst (λ (l : List Digest). AreAhead k l after) (sym (empty refl)) (none_ahead k after))
taken_ahead k (Some digest) old new frames ahead first empty = λ frame after next.
    subst (λ (l : List Digest). AreAhead k l (frame ∷ after)) first (subst (AreAhead k old) next ahead)
