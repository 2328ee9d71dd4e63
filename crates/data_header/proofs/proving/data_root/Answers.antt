use Rattle.std.proofs.Common.{◌∙◌, ap}
use Rattle.data_header.specs.Headers.{Roots}
use Rattle.data_header.specs.DataRoots.{data_root_of}
use Rattle.data_header.proofs.OpenLemmas.{data_root-halves}
use Rattle.data_header.proofs.proving.data_root.Goals as goal

-- the data root is the hash over the root over the rows and that over the columns
pub returns : goal.returns
returns c =
    let header : Roots = record { k = c.header.inside.k; rows = c.header.inside.rows.items; cols = c.header.inside.cols.items } in
    c.inner_hash.ensures
    ∙ data_root-halves header c.deref.result.now c.deref-2.result.now c.merkle_root.result c.merkle_root-2.result c.header.invariant
    c.deref.ensures.value c.deref-2.ensures.value c.merkle_root.ensures c.merkle_root-2.ensures
    ∙ ap (λ (h : Roots). data_root_of h) c.header.view_is
