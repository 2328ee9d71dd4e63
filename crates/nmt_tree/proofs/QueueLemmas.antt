-- Leaves in a queue: how many wait, and the digests of one more.
use Rattle.std.proofs.Common.{◌≡◌, ◌∙◌, ℕ, ◌+◌, ◌<◌, ◌≤◌, List, [], ◌∷◌, ◌++◌, length, take, drop, set, sym, ap, ap₂, arith, ◌-◌, length-drop, length-append}
use Rattle.std.proofs.lemmas.List.{take_more_set, length-take-le}
use Rattle.namespace_id.specs.declared.namespaces.Namespace.{Namespace}
use Rattle.namespace_id.specs.declared.shares.Share.{Share}
use Rattle.namespace_id.specs.declared.digests.Digest.{Digest}
use Rattle.nmt_tree.specs.Digests.{leaf_digest}
use Rattle.nmt_tree.specs.Levels.{leaf_digests}
use Rattle.nmt_tree.specs.Queues.{QueuedLeaves, queued}
use Rattle.nmt_tree.proofs.LevelLemmas.{leaf_digests-append}
use Rattle.nmt_tree.proofs.SpanLemmas.{length-leaf_digests}

-- a queue with these digests ready, of which so many of these leaves wait
abbrev pub queue_of : List Digest → ℕ → List Namespace → List Share → QueuedLeaves
queue_of ready count ns ss = record { ready = ready; waiting = leaf_digests (take count ns) (take count ss) }

-- as many leaves wait as stand at the front
pub waits : (queue : QueuedLeaves) (ready : List Digest) (count : ℕ) (ns : List Namespace) (ss : List Share) → count ≤ length ns → count ≤ length ss
    → queue_of ready count ns ss ≡ queue → length queue.waiting ≡ count
waits queue ready count ns ss hn hs seen =
    ap (λ (q : QueuedLeaves). length q.waiting) (sym seen)
    ∙ length-leaf_digests (take count ns) (take count ss) (length-take-le count ns hn ∙ sym (length-take-le count ss hs))
    ∙ length-take-le count ns hn

-- one more leaf that waits gives one more digest
pub waits_more : (count : ℕ) (ns : List Namespace) (ss : List Share) (n : Namespace) (s : Share) → count < length ns → count < length ss
    → leaf_digests (take (count + 1) (set ns count n)) (take (count + 1) (set ss count s)) ≡ leaf_digests (take count ns) (take count ss) ++ leaf_digest n s ∷ []
waits_more count ns ss n s hn hs =
    ap₂ leaf_digests (take_more_set ns count n hn) (take_more_set ss count s hs)
    ∙ leaf_digests-append (take count ns) (take count ss) n s (length-take-le count ns (omega arith) ∙ sym (length-take-le count ss (omega arith)))

-- as many digests are ready as were hashed and not given
pub ready_count : (queue : QueuedLeaves) (given hashed : ℕ) (ds waiting : List Digest) → hashed ≤ length ds
    → (let made : QueuedLeaves = record { ready = drop given (take hashed ds); waiting = waiting } in made) ≡ queue → length queue.ready ≡ hashed - given
ready_count queue given hashed ds waiting within seen =
    ap (λ (q : QueuedLeaves). length q.ready) (sym seen) ∙ length-drop given (take hashed ds) ∙ ap (λ (k : ℕ). k - given) (length-take-le hashed ds within)

-- a queue has as many leaves as are ready and wait
pub leaves_count : (queue : QueuedLeaves) (given hashed : ℕ) (ds : List Digest) (count : ℕ) (ns : List Namespace) (ss : List Share) → hashed ≤ length ds → count ≤ length ns → count ≤ length ss
    → queue_of (drop given (take hashed ds)) count ns ss ≡ queue → length (queued queue) ≡ hashed - given + count
leaves_count queue given hashed ds count ns ss hd hn hs seen =
    length-append queue.ready queue.waiting
    ∙ ap₂ (λ (a b : ℕ). a + b) (ready_count queue given hashed ds _ hd seen) (waits queue (drop given (take hashed ds)) count ns ss hn hs seen)
