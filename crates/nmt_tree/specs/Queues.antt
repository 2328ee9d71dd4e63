-- Leaves in a queue, of which the digests are given one by one.
use Rattle.std.specs.Prelude.{◌≡◌, ◌≤◌, ℕ, List, [], ◌++◌, length}
use Rattle.namespace_id.specs.declared.namespaces.Namespace.{Namespace}
use Rattle.namespace_id.specs.declared.shares.Share.{Share}
use Rattle.namespace_id.specs.declared.digests.Digest.{Digest}

-- a queue of leaves as contracts see it: the digests that are ready, and those of the leaves that wait to
-- be hashed, each in the order in which the leaves were added
pub record QueuedLeaves : Type 0 where
  pub ready : List Digest
  pub waiting : List Digest

-- no leaves
abbrev pub no_leaves : QueuedLeaves
no_leaves = record { ready = []; waiting = [] }

-- the digests of all leaves in a queue, in their order
abbrev pub queued : QueuedLeaves → List Digest
queued queue = queue.ready ++ queue.waiting

-- what a queue keeps: at most 8 leaves wait, at most 8 were hashed, and of these some were given
pub record IsQueue (waiting given hashed : ℕ) (names : List Namespace) (shares : List Share)
    (digests : List Digest) : Type 0 where
  pub name_room : length names ≡ 8
  pub share_room : length shares ≡ 8
  pub digest_room : length digests ≡ 8
  pub few : waiting ≤ 8
  pub given_few : given ≤ hashed
  pub hashed_few : hashed ≤ 8
