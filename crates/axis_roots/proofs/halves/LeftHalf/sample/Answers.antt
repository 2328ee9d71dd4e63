use Rattle.std.proofs.Common.{◌≡◌, ◌∙◌, List, Vec, Global, Option, refl, sym, ap, subst, IsTrue}
use Rattle.std.specs.Prelude.{IsSome}
use Rattle.namespace_id.specs.declared.digests.Digest.{Digest}
use Rattle.namespace_id.specs.declared.shares.Share.{Share}
use Rattle.namespace_id.specs.Cells.{is_in_square}
use Rattle.axis_roots.specs.declared.message.messages.Message.{Message}
use Rattle.axis_roots.specs.Openings.{IsProved}
use Rattle.axis_roots.specs.Grids.{Extends}
use Rattle.axis_roots.specs.Trees.{message_at}
use Rattle.axis_roots.specs.Halves.{HeadedSquare, AreOrderedLeaves}
use Rattle.axis_roots.proofs.Messages.HalfLemmas.{kept_digests, ordered_digests, made_proved, message_made}
use Rattle.axis_roots.proofs.halves.LeftHalf.sample.Goals as goal

-- the leaves are those of the square, along whose axes no namespaces fall
pub fill-requires-clause-leaves : goal.fill-requires-clause-leaves
fill-requires-clause-leaves c =
    subst (λ (v : Vec Digest Global). AreOrderedLeaves c.self.inside.square.k v.items) (sym c.share-share.ensures.leaves)
    (ordered_digests c.self.inside.header c.self.inside.square c.self.inside.parts.leaves.items c.self.invariant.own c.self.invariant.digests)

-- so the tree is filled
pub make_leaf-path-requires-clause-filled : goal.make_leaf-path-requires-clause-filled
make_leaf-path-requires-clause-filled c =
    let own = c.self.invariant.own in
    let are = kept_digests c.self.inside.header c.self.inside.square c.self.inside.parts.leaves.items c.share-share.new.self.leaves.items own c.self.invariant.digests
    (ap (λ (v : Vec Digest Global). v.items) c.share-share.ensures.leaves) in
    subst (λ (o : Option (List Digest)). IsSome o) (sym (c.fill.ensures.tree own.grid (are own.grid own.extends))) refl

-- what is kept is as it was, but for the tree
pub invariant_of-self : goal.invariant_of-self
invariant_of-self c =
    let own = c.self.invariant.own in
    record {
      own = own;
      kept = c.fill.ensures.parts;
      digests = kept_digests c.self.inside.header c.self.inside.square c.self.inside.parts.leaves.items c.fill.new.self.leaves.items own c.self.invariant.digests
          (ap (λ (v : Vec Digest Global). v.items) (c.fill.ensures.leaves ∙ c.share-share.ensures.leaves)) own.grid own.extends;
    }

-- the sample is that of each extension
pub returns-clause-value : goal.returns-clause-value
returns-clause-value c =
    let m : Message = record { cell = c.args.cell; axis = c.args.axis; share = c.share-share.result; path = c.make_leaf-path.result } in
    let are = kept_digests c.self.inside.header c.self.inside.square c.self.inside.parts.leaves.items c.share-share.new.self.leaves.items c.self.invariant.own c.self.invariant.digests
    (ap (λ (v : Vec Digest Global). v.items) c.share-share.ensures.leaves) in
    subst (λ (h : HeadedSquare). (grid : List Share) → Extends h.square.k h.square.shares grid → m ≡ message_at h.square.k grid c.args.cell c.args.axis) c.self.view_is
    (λ grid extends. message_made c.self.inside.square.k c.fill.new.self.tree.count c.index.result c.position.result grid c.args.cell c.args.axis
    c.share-share.result c.make_leaf-path.result c.fill.new.self.tree.leaves c.fill.ensures.parts.count c.index.ensures c.position.ensures
    (c.share-share.ensures.share grid extends) (c.fill.ensures.tree grid (are grid extends)) c.make_leaf-path.ensures.nodes)

-- and so it is proved
pub returns-clause-proved : goal.returns-clause-proved
returns-clause-proved c =
    let m : Message = record { cell = c.args.cell; axis = c.args.axis; share = c.share-share.result; path = c.make_leaf-path.result } in
    let within : IsTrue (is_in_square c.self.inside.square.k c.args.cell) =
    subst (λ (h : HeadedSquare). IsTrue (is_in_square h.square.k c.args.cell)) (sym c.self.view_is) c.requires.cell in
    let are = kept_digests c.self.inside.header c.self.inside.square c.self.inside.parts.leaves.items c.share-share.new.self.leaves.items c.self.invariant.own c.self.invariant.digests
    (ap (λ (v : Vec Digest Global). v.items) c.share-share.ensures.leaves) in
    subst (λ (h : HeadedSquare). IsProved h.header m) c.self.view_is
    (made_proved c.self.inside.header c.self.inside.square c.args.cell c.args.axis m c.self.invariant.own within
    (λ grid extends. message_made c.self.inside.square.k c.fill.new.self.tree.count c.index.result c.position.result grid c.args.cell c.args.axis
    c.share-share.result c.make_leaf-path.result c.fill.new.self.tree.leaves c.fill.ensures.parts.count c.index.ensures c.position.ensures
    (c.share-share.ensures.share grid extends) (c.fill.ensures.tree grid (are grid extends)) c.make_leaf-path.ensures.nodes))
