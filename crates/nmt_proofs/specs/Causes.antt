-- What each answer to an opening says.
use Rattle.std.specs.Prelude.{◌≡◌, ℕ, List, Bool, true, false, Option, Some, None, Result, Ok, Err, if◌then◌else◌}
use Rattle.std.specs.Option.{option_map}
use Rattle.namespace_id.specs.declared.namespaces.Namespace.{Namespace}
use Rattle.namespace_id.specs.declared.shares.Share.{Share}
use Rattle.namespace_id.specs.declared.digests.Digest.{Digest}
use Rattle.nmt_proofs.specs.Openings.{Shown, Opens, has_count, has_order, has_root, leaves_from, one_digest}
use Rattle.nmt_proofs.specs.Complete.{range_break, absence_break}
use Rattle.nmt_proofs.specs.declared.opening.OpenRefusal.{OpenRefusal}
use Rattle.nmt_proofs.specs.declared.opening.OpenRefusal.TheVariants.{NodeCount, Unordered, OtherRoot, Incomplete}

-- the cause of each answer, by the four checks in their order: count, order, root, and the first node
-- that breaks completeness
abbrev pub HasCause : {T : Type 0} → Result T OpenRefusal → Bool → Bool → Bool → Option ℕ → Type 0
HasCause (Ok done) count order root break = (count ≡ true) × (order ≡ true) × (root ≡ true) × (break ≡ None)
HasCause (Err NodeCount) count order root break = count ≡ false
HasCause (Err Unordered) count order root break = (count ≡ true) × (order ≡ false)
HasCause (Err OtherRoot) count order root break = (count ≡ true) × (order ≡ true) × (root ≡ false)
HasCause (Err (Incomplete i)) count order root break = (count ≡ true) × (order ≡ true) × (root ≡ true) × (break ≡ Some i)

-- the refusal of an opening: for the first of the four checks that fails, none where all hold
abbrev pub opening_refusal : Bool → Bool → Bool → Option ℕ → Option OpenRefusal
opening_refusal count order root break =
    if count then (if order then (if root then option_map Incomplete break else Some OtherRoot) else Some Unordered)
    else Some NodeCount

-- the refusal of an opening that has nothing to be complete for
abbrev pub set_refusal : ℕ → List Shown → List Digest → Digest → Option OpenRefusal
set_refusal depth shown nodes root =
    opening_refusal (has_count depth shown nodes) (has_order depth shown nodes) (has_root depth shown nodes root) None

-- the refusal of a range proof
abbrev pub range_refusal : ℕ → ℕ → Namespace → List Share → List Digest → Digest → Option OpenRefusal
range_refusal depth from name shares nodes root =
    opening_refusal (has_count depth (leaves_from from name shares) nodes)
    (has_order depth (leaves_from from name shares) nodes)
    (has_root depth (leaves_from from name shares) nodes root) (range_break depth from name shares nodes)

-- the refusal of an absence proof
abbrev pub absence_refusal : ℕ → ℕ → Namespace → Digest → List Digest → Digest → Option OpenRefusal
absence_refusal depth pos name leaf nodes root =
    opening_refusal (has_count depth (one_digest pos leaf) nodes) (has_order depth (one_digest pos leaf) nodes)
    (has_root depth (one_digest pos leaf) nodes root) (absence_break depth pos name leaf nodes)

-- the nodes open a range of leaves of a namespace, and leave no other place for it
pub record OpensRange (depth from : ℕ) (name : Namespace) (shares : List Share) (nodes : List Digest)
    (root : Digest) : Type 0 where
  pub opens : Opens depth (leaves_from from name shares) nodes root
  pub complete : range_break depth from name shares nodes ≡ None

-- the nodes open the digest of a leaf, and leave no place for a namespace
pub record OpensAbsence (depth pos : ℕ) (name : Namespace) (leaf : Digest) (nodes : List Digest)
    (root : Digest) : Type 0 where
  pub opens : Opens depth (one_digest pos leaf) nodes root
  pub complete : absence_break depth pos name leaf nodes ≡ None
