use Rattle.std.proofs.Common.{◌≡◌, ◌∙◌, ◌*◌, ◌<◌, ℕ, List, Bool, IsTrue, true, cond, Option, Some, None, length, inl, inr, sym, ap, ap₂, subst, rules}
use Rattle.std.specs.Prelude.{IfSome}
use Rattle.std.proofs.lemmas.Bool.{cases_Bool}
use Rattle.std.proofs.lemmas.List.{length-map}
use Rattle.namespace_id.specs.declared.cells.Axis.{Axis}
use Rattle.namespace_id.specs.declared.shares.Share.{Share}
use Rattle.namespace_id.specs.declared.namespaces.Namespace.{Namespace}
use Rattle.nmt_tree.specs.Trees.{StoredTree}
use Rattle.axis_roots.specs.Lines.{is_ordered_line, line_strict_root}
use Rattle.axis_roots.specs.Trees.{line_stored}
use Rattle.axis_roots.specs.declared.message.proved.Proved.{Proved}
use Rattle.axis_roots.specs.Proved.{kept_message}
use Rattle.namespace_id.proofs.StringLemmas.{front}
use Rattle.leopard_code.specs.Codewords.{are_positions}
use Rattle.axis_roots.specs.Messages.{position}
use Rattle.axis_roots.specs.Claims.{positions_of, claim_with, has_shape, IsThrough}
use Rattle.axis_roots.proofs.Messages.ClaimLemmas.{positions_fit, shape_of}
use Rattle.befp_maker.specs.Rooms.{RoomParts}
use Rattle.befp_maker.proofs.CellLemmas.{map-kept, line_through}
use Rattle.befp_maker.proofs.rooms.AxisRoom.rebuild.Goals as goal

-- k samples
as_many : (k : ℕ) (axis : Axis) (i : ℕ) (cells : List Proved) → has_shape k (claim_with axis i cells) ≡ true → k ≡ length cells
as_many k axis i cells shape = sym (shape_of k (claim_with axis i cells) shape).count ∙ length-map cells kept_message

-- a tree that is told to be of an axis is that over its line
kept_tree : (k : ℕ) (axis : Axis) (i : ℕ) (line same : List Share) (tree : StoredTree) (held : Option (Axis × ℕ)) → i < 2 * k
    → line ≡ same → held ≡ cond (is_ordered_line k axis i line) (Some (axis, i)) None
    → (is_ordered_line k axis i line ≡ true → tree ≡ line_stored k axis i line)
    → IfSome held (λ x. (x.1 < 2 * k) × (tree ≡ line_stored k x.0 x.1 same))
kept_tree k axis i line same tree held below e is stored =
    let Kept : Option (Axis × ℕ) → Type 0 = λ h. IfSome h (λ x. (x.1 < 2 * k) × (tree ≡ line_stored k x.0 x.1 same)) in
    let Told : Bool → Type 0 = λ ordered. Kept (cond ordered (Some (axis, i)) None) in
    subst Kept (sym is) (elim (cases_Bool (is_ordered_line k axis i line)) [
      | inl t ↦ subst Told (sym t) (below, stored t ∙ ap (line_stored k axis i) e)
      | inr f ↦ subst Told (sym f) tt
    ])

-- as many samples as there are places for them
pub gather-requires-clause-known : goal.gather-requires-clause-known
gather-requires-clause-known c =
    ap (λ (l : List ℕ). length l) c.deref_mut.ensures.value ∙ c.self.invariant.positions
    ∙ ap (λ (r : RoomParts). r.k) c.self.view_is
    ∙ as_many c.args.self.now.k c.args.axis c.args.index c.args.cells.now c.requires.shape

pub gather-requires-clause-given : goal.gather-requires-clause-given
gather-requires-clause-given c =
    ap (λ (l : List Share). length l) c.deref_mut-2.ensures.value ∙ c.self.invariant.known_shares
    ∙ ap (λ (r : RoomParts). r.k) c.self.view_is
    ∙ as_many c.args.self.now.k c.args.axis c.args.index c.args.cells.now c.requires.shape

-- the positions that were gathered are those of the cells
pub rebuild-requires-clause-positions : goal.rebuild-requires-clause-positions
rebuild-requires-clause-positions c =
    let known : c.deref.result.now ≡ positions_of (claim_with c.args.axis c.args.index c.args.cells.now) =
    c.deref.ensures.value ∙ front c.gather.new.known _ _ (c.gather.auto.known ∙ c.deref_mut.ensures.len)
    ∙ c.gather.ensures.known
    ∙ map-kept (λ m. position c.args.axis m.cell) c.args.cells.now in
    let width : c.self.inside.code ≡ c.args.self.now.k = c.self.invariant.coded ∙ ap (λ (r : RoomParts). r.k) c.self.view_is in
    subst (λ (k : ℕ). IsTrue (are_positions k c.deref.result.now)) (sym width)
    (subst (λ (ps : List ℕ). IsTrue (are_positions c.args.self.now.k ps)) (sym known)
    (positions_fit c.args.self.now.k (claim_with c.args.axis c.args.index c.args.cells.now)
    (shape_of c.args.self.now.k (claim_with c.args.axis c.args.index c.args.cells.now) c.requires.shape) c.requires.inside))

-- the line that was rebuilt is through the cells
pub returns-clause-through : goal.returns-clause-through
returns-clause-through c =
    subst (IsThrough c.args.self.now.k (claim_with c.args.axis c.args.index c.args.cells.now)) (sym
    (front c.rebuild.new.all _ _ (c.rebuild.auto.all ∙ c.deref_mut-3.ensures.len)))
    (line_through c.args.self.now.k c.self.inside.code (claim_with c.args.axis c.args.index c.args.cells.now) c.deref.result.now c.deref-2.result.now c.rebuild.new.all
    (c.self.invariant.coded ∙ ap (λ (r : RoomParts). r.k) c.self.view_is)
    (c.deref.ensures.value ∙ front c.gather.new.known _ _ (c.gather.auto.known ∙ c.deref_mut.ensures.len)
    ∙ c.gather.ensures.known ∙ map-kept (λ m. position c.args.axis m.cell) c.args.cells.now)
    (c.deref-2.ensures.value ∙ front c.gather.new.given _ _ (c.gather.auto.given ∙ c.deref_mut-2.ensures.len)
    ∙ c.gather.ensures.given ∙ map-kept (λ m. m.share) c.args.cells.now)
    c.rebuild.ensures.codeword c.rebuild.ensures.known)

-- all buffers keep their lengths
pub invariant_of-self : goal.invariant_of-self
invariant_of-self c = record {
  width = c.self.invariant.width;
  coded = search rules;
  positions = ap (λ (l : List ℕ). length l) (front c.gather.new.known _ _ (c.gather.auto.known
      ∙ c.deref_mut.ensures.len)) ∙ c.gather.auto.known
      ∙ ap (λ (l : List ℕ). length l) c.deref_mut.ensures.value ∙ c.self.invariant.positions;
  known_shares = ap (λ (l : List Share). length l) (front c.gather.new.given _ _ (c.gather.auto.given
      ∙ c.deref_mut-2.ensures.len)) ∙ c.gather.auto.given
      ∙ ap (λ (l : List Share). length l) c.deref_mut-2.ensures.value ∙ c.self.invariant.known_shares;
  line = ap (λ (l : List Share). length l) (front c.rebuild.new.all _ _ (c.rebuild.auto.all
      ∙ c.deref_mut-3.ensures.len)) ∙ c.rebuild.auto.all
      ∙ ap (λ (l : List Share). length l) c.deref_mut-3.ensures.value ∙ c.self.invariant.line;
  leaf_names = ap (λ (l : List Namespace). length l)
      (front c.fill_tree-self-inside.new.names _ _ (c.fill_tree-self-inside.auto.names ∙ c.deref_mut-4.ensures.len))
      ∙ c.fill_tree-self-inside.ensures.names;
  other_names = c.self.invariant.other_names;
  leaves = c.fill_tree-self-inside.ensures.count;
  kept = kept_tree c.self.inside.k c.args.axis c.args.index c.deref-3.result.now _ c.fill_tree-self-inside.new.tree
      c.fill_tree-self-inside.result
      (subst (λ (r : RoomParts). c.args.index < 2 * r.k) (sym c.self.view_is)
      (shape_of c.args.self.now.k (claim_with c.args.axis c.args.index c.args.cells.now) c.requires.shape).index)
      c.deref-3.ensures.value c.fill_tree-self-inside.ensures.held c.fill_tree-self-inside.ensures.tree;
}

-- the root is that of the line
pub returns-clause-root : goal.returns-clause-root
returns-clause-root c =
    c.root.ensures ∙ c.fill_tree-self-inside.ensures.root
    ∙ ap₂ (λ (k : ℕ) (line : List Share). line_strict_root k c.args.axis c.args.index line)
    (ap (λ (r : RoomParts). r.k) c.self.view_is) c.deref-3.ensures.value
