use Rattle.std.proofs.Common.{◌++◌, ◌∷◌, ◌<◌, ◌*◌, [], List, sym, subst}
use Rattle.namespace_id.specs.declared.cells.Axis.TheVariants.{Row, Col}
use Rattle.namespace_id.specs.declared.digests.Digest.{Digest}
use Rattle.data_header.specs.Headers.{Roots}
use Rattle.data_header.proofs.RootLemmas.{IsRootOf, IsPathOf}
use Rattle.data_header.proofs.OpenLemmas.{opens-axis, opens-same}
use Rattle.data_header.proofs.proving.make_root_proof.Goals as goal

-- the path along the rows, and the root over the columns
pub returns-in-Row : goal.returns-in-Row
returns-in-Row c =
    let header : Roots = record { k = c.header.inside.k; rows = c.header.inside.rows.items; cols = c.header.inside.cols.items } in
    opens-same header c.args.header.now Row c.args.axis c.args.index (c.path_of-path.result ++ c.merkle_root.result ∷ []) c.push.new.self
    c.header.view_is c.in-Row.is c.push.ensures
    (opens-axis header Row c.args.index c.path_of-path.result c.merkle_root.result c.header.invariant
    (subst (λ (h : Roots). c.args.index < 2 * h.k) (sym c.header.view_is) c.requires)
    (subst (λ (l : List Digest). IsPathOf l c.args.index c.path_of-path.result) c.deref.ensures.value c.path_of-path.ensures.value)
    (subst (λ (l : List Digest). IsRootOf l c.merkle_root.result) c.deref-in-Row.ensures.value c.merkle_root.ensures))

-- the path along the columns, and the root over the rows
pub returns-in-Col : goal.returns-in-Col
returns-in-Col c =
    let header : Roots = record { k = c.header.inside.k; rows = c.header.inside.rows.items; cols = c.header.inside.cols.items } in
    opens-same header c.args.header.now Col c.args.axis c.args.index (c.path_of-path-in-Col.result ++ c.merkle_root-in-Col.result ∷ []) c.push-in-Col.new.self
    c.header.view_is c.in-Col.is c.push-in-Col.ensures
    (opens-axis header Col c.args.index c.path_of-path-in-Col.result c.merkle_root-in-Col.result c.header.invariant
    (subst (λ (h : Roots). c.args.index < 2 * h.k) (sym c.header.view_is) c.requires)
    (subst (λ (l : List Digest). IsPathOf l c.args.index c.path_of-path-in-Col.result) c.deref-in-Col.ensures.value c.path_of-path-in-Col.ensures.value)
    (subst (λ (l : List Digest). IsRootOf l c.merkle_root-in-Col.result) c.deref-in-Col-2.ensures.value c.merkle_root-in-Col.ensures))
