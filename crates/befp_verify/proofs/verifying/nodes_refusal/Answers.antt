use Rattle.std.proofs.Common.{◌≡◌, ◌∙◌, ◌*◌, ◌≤◌, ℕ, List, true, inl, inr, sym, ap, subst₂, arith, length, map, take}
use Rattle.std.specs.Prelude.{◌⊎◌}
use Rattle.std.specs.List.{list_all, list_any}
use Rattle.std.proofs.lemmas.Bool.{and_parts}
use Rattle.std.proofs.lemmas.List.{length-map}
use Rattle.namespace_id.specs.declared.namespaces.Namespace.{Namespace}
use Rattle.namespace_id.specs.declared.shares.Share.{Share}
use Rattle.namespace_id.specs.Cells.{leaf_namespace}
use Rattle.nmt_tree.specs.Roots.{halvings}
use Rattle.nmt_proofs.specs.Openings.{leaves_at}
use Rattle.nmt_proofs.specs.Places.{AreAscending}
use Rattle.nmt_proofs.specs.Causes.{set_refusal}
use Rattle.data_header.specs.Headers.{Roots}
use Rattle.axis_roots.specs.declared.message.messages.Message.{Message}
use Rattle.axis_roots.specs.Messages.{position}
use Rattle.axis_roots.specs.Sets.{is_along, along_in, sample_names, is_bare}
use Rattle.axis_roots.specs.Claims.{ClaimParts, claimed_root, has_shape}
use Rattle.axis_roots.proofs.Messages.ClaimLemmas.{shape_of}
use Rattle.axis_roots.proofs.Messages.SetLemmas.{set_ascending, some_along}
use Rattle.befp_verify.proofs.verifying.nodes_refusal.Goals as goal
use Rattle.namespace_id.proofs.StringLemmas.{front}

-- buffers of k or of 2k are enough for the cells of a claim
cells_fit : {A : Type 0} (k n : ℕ) (claim : ClaimParts) (cells : List Message) (buffer : List A) → has_shape k claim ≡ true
    → cells ≡ claim.cells → n ≡ k → (length buffer ≡ n) ⊎ (length buffer ≡ 2 * n) → length cells ≤ length buffer
cells_fit k n claim cells buffer shape same width (inl long) =
    omega (arith, ap (λ (l : List Message). length l) same, (shape_of k claim shape).count, width, long)
cells_fit k n claim cells buffer shape same width (inr long) =
    omega (arith, ap (λ (l : List Message). length l) same, (shape_of k claim shape).count, width, long)

-- a front that is what a function says of so many cells is so long
front_long : {A : Type 0} (f : Message → A) (cells : List Message) (n : ℕ) (old new : List A) → n ≡ length cells → old ≡ new
    → take n new ≡ map f cells → length (take n old) ≡ n
front_long f cells n old new count same is =
    ap (λ (l : List _). length (take n l)) same ∙ ap (λ (l : List _). length l) is ∙ length-map cells f ∙ sym count

-- two such fronts, of what two functions say of the same cells, are equally long
fronts_long : {A B : Type 0} (f : Message → A) (g : Message → B) (cells : List Message) (n : ℕ) (old new : List A) (left right : List B) → n ≡ length cells
    → old ≡ new → take n new ≡ map f cells → left ≡ right → take n right ≡ map g cells → length (take n old) ≡ length (take n left)
fronts_long f g cells n old new left right count same is like are =
    front_long f cells n old new count same is ∙ sym (front_long g cells n left right count like are)

-- the claim has k cells
pub gather_along-count-requires-clause-known : goal.gather_along-count-requires-clause-known
gather_along-count-requires-clause-known c =
    cells_fit c.args.header.now.k c.room.inside.k c.args.claim.now c.claim.inside.cells.now c.deref_mut.result.now
    c.requires.shape (ap (λ (p : ClaimParts). p.cells) c.claim.view_is) (c.room.view_is
    ∙ c.requires.room)
    (inl (ap (λ (l : List ℕ). length l) c.deref_mut.ensures.value ∙ c.room.invariant.positions))

pub gather_along-count-requires-clause-names : goal.gather_along-count-requires-clause-names
gather_along-count-requires-clause-names c =
    cells_fit c.args.header.now.k c.room.inside.k c.args.claim.now c.claim.inside.cells.now c.deref_mut-2.result.now
    c.requires.shape (ap (λ (p : ClaimParts). p.cells) c.claim.view_is) (c.room.view_is
    ∙ c.requires.room)
    (inr (ap (λ (l : List Namespace). length l) c.deref_mut-2.ensures.value ∙ c.room.invariant.leaf_names))

pub gather_along-count-requires-clause-shares : goal.gather_along-count-requires-clause-shares
gather_along-count-requires-clause-shares c =
    cells_fit c.args.header.now.k c.room.inside.k c.args.claim.now c.claim.inside.cells.now c.deref_mut-3.result.now
    c.requires.shape (ap (λ (p : ClaimParts). p.cells) c.claim.view_is) (c.room.view_is
    ∙ c.requires.room)
    (inl (ap (λ (l : List Share). length l) c.deref_mut-3.ensures.value ∙ c.room.invariant.known_shares))

-- which are bare along the axis
pub gather_along-count-requires-clause-bare : goal.gather_along-count-requires-clause-bare
gather_along-count-requires-clause-bare c =
    ap (λ (r : Roots). list_all (is_bare r.k c.claim.inside.axis) c.claim.inside.cells.now) c.header.view_is
    ∙ ap (λ (p : ClaimParts). list_all (is_bare c.args.header.now.k p.axis) p.cells) c.claim.view_is
    ∙ (and_parts (list_any (is_along c.args.claim.now.axis) c.args.claim.now.cells)
    (list_all (is_bare c.args.header.now.k c.args.claim.now.axis) c.args.claim.now.cells) c.requires.set_shape).1

-- as many are gathered as are along it
pub slice_bounds-open_set-end : goal.slice_bounds-open_set-end
slice_bounds-open_set-end c =
    sym (front_long (λ m. position c.claim.inside.axis m.cell)
    (along_in c.claim.inside.axis c.claim.inside.cells.now)
    c.gather_along-count.result c.deref.result.now c.gather_along-count.new.known
    c.gather_along-count.ensures.count
    (c.deref.ensures.value
    ∙ front c.gather_along-count.new.known _ _ (c.gather_along-count.auto.known ∙ c.deref_mut.ensures.len))
    c.gather_along-count.ensures.known)

pub slice_bounds-open_set-end-2 : goal.slice_bounds-open_set-end-2
slice_bounds-open_set-end-2 c =
    sym (front_long (λ m. leaf_namespace c.header.inside.k m.cell m.share)
    (along_in c.claim.inside.axis c.claim.inside.cells.now)
    c.gather_along-count.result c.deref-2.result.now c.gather_along-count.new.names
    c.gather_along-count.ensures.count
    (c.deref-2.ensures.value
    ∙ front c.gather_along-count.new.names _ _ (c.gather_along-count.auto.names ∙ c.deref_mut-2.ensures.len))
    c.gather_along-count.ensures.names)

pub slice_bounds-open_set-end-3 : goal.slice_bounds-open_set-end-3
slice_bounds-open_set-end-3 c =
    sym (front_long (λ m. m.share)
    (along_in c.claim.inside.axis c.claim.inside.cells.now)
    c.gather_along-count.result c.deref-3.result.now c.gather_along-count.new.shares
    c.gather_along-count.ensures.count
    (c.deref-3.ensures.value
    ∙ front c.gather_along-count.new.shares _ _ (c.gather_along-count.auto.shares ∙ c.deref_mut-3.ensures.len))
    c.gather_along-count.ensures.shares)

pub open_set-requires-clause-names : goal.open_set-requires-clause-names
open_set-requires-clause-names c =
    fronts_long (λ m. leaf_namespace c.header.inside.k m.cell m.share) (λ m. position c.claim.inside.axis m.cell)
    (along_in c.claim.inside.axis c.claim.inside.cells.now) c.gather_along-count.result _ _ _ _ c.gather_along-count.ensures.count
    (c.deref-2.ensures.value ∙ front c.gather_along-count.new.names _ _ (c.gather_along-count.auto.names ∙ c.deref_mut-2.ensures.len)) c.gather_along-count.ensures.names
    (c.deref.ensures.value ∙ front c.gather_along-count.new.known _ _ (c.gather_along-count.auto.known ∙ c.deref_mut.ensures.len)) c.gather_along-count.ensures.known

pub open_set-requires-clause-shares : goal.open_set-requires-clause-shares
open_set-requires-clause-shares c =
    fronts_long (λ m. m.share) (λ m. position c.claim.inside.axis m.cell)
    (along_in c.claim.inside.axis c.claim.inside.cells.now) c.gather_along-count.result _ _ _ _ c.gather_along-count.ensures.count
    (c.deref-3.ensures.value ∙ front c.gather_along-count.new.shares _ _ (c.gather_along-count.auto.shares ∙ c.deref_mut-3.ensures.len)) c.gather_along-count.ensures.shares
    (c.deref.ensures.value ∙ front c.gather_along-count.new.known _ _ (c.gather_along-count.auto.known ∙ c.deref_mut.ensures.len)) c.gather_along-count.ensures.known

pub open_set-requires-clause-some : goal.open_set-requires-clause-some
open_set-requires-clause-some c =
    let places : take c.gather_along-count.result c.deref.result.now ≡ map (λ m. position c.args.claim.now.axis m.cell) (along_in c.args.claim.now.axis c.args.claim.now.cells) =
    ap (take c.gather_along-count.result) (c.deref.ensures.value
    ∙ front c.gather_along-count.new.known _ _ (c.gather_along-count.auto.known ∙ c.deref_mut.ensures.len))
    ∙ c.gather_along-count.ensures.known
    ∙ ap (λ (p : ClaimParts). map (λ m. position p.axis m.cell) (along_in p.axis p.cells)) c.claim.view_is in
    let tests = and_parts (list_any (is_along c.args.claim.now.axis) c.args.claim.now.cells) (list_all (is_bare c.args.header.now.k c.args.claim.now.axis) c.args.claim.now.cells) c.requires.set_shape in
    omega (arith, ap length places, length-map (along_in c.args.claim.now.axis c.args.claim.now.cells) (λ m. position c.args.claim.now.axis m.cell), some_along c.args.claim.now.axis c.args.claim.now.cells tests.0)

pub open_set-requires-clause-places : goal.open_set-requires-clause-places
open_set-requires-clause-places c =
    let places : take c.gather_along-count.result c.deref.result.now ≡ map (λ m. position c.args.claim.now.axis m.cell) (along_in c.args.claim.now.axis c.args.claim.now.cells) =
    ap (take c.gather_along-count.result) (c.deref.ensures.value
    ∙ front c.gather_along-count.new.known _ _ (c.gather_along-count.auto.known ∙ c.deref_mut.ensures.len))
    ∙ c.gather_along-count.ensures.known
    ∙ ap (λ (p : ClaimParts). map (λ m. position p.axis m.cell) (along_in p.axis p.cells)) c.claim.view_is in
    let tests = and_parts (list_any (is_along c.args.claim.now.axis) c.args.claim.now.cells) (list_all (is_bare c.args.header.now.k c.args.claim.now.axis) c.args.claim.now.cells) c.requires.set_shape in
    subst₂ (λ (k : ℕ) (ps : List ℕ). AreAscending 0 (2 * k) ps) (sym (ap (λ (r : Roots). r.k) c.header.view_is)) (sym places)
    (set_ascending c.args.header.now.k c.args.claim.now.axis c.args.claim.now.cells (and_parts _ _ c.requires.shape).1 tests.1)

pub returns-clause-refusal : goal.returns-clause-refusal
returns-clause-refusal c =
    let places : take c.gather_along-count.result c.deref.result.now ≡ map (λ m. position c.args.claim.now.axis m.cell) (along_in c.args.claim.now.axis c.args.claim.now.cells) =
    ap (take c.gather_along-count.result) (c.deref.ensures.value
    ∙ front c.gather_along-count.new.known _ _ (c.gather_along-count.auto.known ∙ c.deref_mut.ensures.len))
    ∙ c.gather_along-count.ensures.known
    ∙ ap (λ (p : ClaimParts). map (λ m. position p.axis m.cell) (along_in p.axis p.cells)) c.claim.view_is in
    let width : c.header.inside.k ≡ c.args.header.now.k = ap (λ (r : Roots). r.k) c.header.view_is in
    let names : take c.gather_along-count.result c.deref-2.result.now ≡ sample_names c.args.header.now.k (along_in c.args.claim.now.axis c.args.claim.now.cells) =
    ap (take c.gather_along-count.result) (c.deref-2.ensures.value
    ∙ front c.gather_along-count.new.names _ _ (c.gather_along-count.auto.names ∙ c.deref_mut-2.ensures.len))
    ∙ c.gather_along-count.ensures.names
    ∙ ap (λ (k : ℕ). sample_names k (along_in c.claim.inside.axis c.claim.inside.cells.now)) width
    ∙ ap (λ (p : ClaimParts). sample_names c.args.header.now.k (along_in p.axis p.cells)) c.claim.view_is in
    let shares : take c.gather_along-count.result c.deref-3.result.now ≡ map (λ m. m.share) (along_in c.args.claim.now.axis c.args.claim.now.cells) =
    ap (take c.gather_along-count.result) (c.deref-3.ensures.value
    ∙ front c.gather_along-count.new.shares _ _ (c.gather_along-count.auto.shares ∙ c.deref_mut-3.ensures.len))
    ∙ c.gather_along-count.ensures.shares
    ∙ ap (λ (p : ClaimParts). map (λ m. m.share) (along_in p.axis p.cells)) c.claim.view_is in
    let root : c.root_of-axis_root.result ≡ claimed_root c.args.header.now c.args.claim.now =
    c.root_of-axis_root.ensures ∙ ap (claimed_root c.args.header.now) c.claim.view_is in
    c.reason.ensures ∙ c.open_set.ensures.first
    ∙ (λ i. set_refusal (halvings (2 * width i)) (leaves_at (places i) (names i) (shares i)) c.args.nodes.now (root i))
