use Rattle.std.proofs.Common.{◌≡◌, ℕ, ◌*◌, List, length, subst, sym}
use Rattle.namespace_id.specs.declared.digests.Digest.{Digest}
use Rattle.namespace_id.specs.Digests.{AreDigests}
use Rattle.data_header.specs.Headers.{Roots, AreRoots}
use Rattle.celestia_pb.specs.Headers.{dah_text}
use Rattle.celestia_pb.proofs.HeaderLemmas.{length-dah_text}
use Rattle.celestia_pb.proofs.dah.dah_size.Goals as goal

-- the length of a header's message, by what its fields are
sized : (h : Roots) (k : ℕ) (rows cols : List Digest) → record { k = k; rows = rows; cols = cols } ≡ h → AreRoots (record { k = k; rows = rows; cols = cols })
    → AreDigests rows → AreDigests cols → 368 * k ≡ length (dah_text h)
sized h k rows cols seen are rows_are cols_are =
    subst (λ (g : Roots). 368 * k ≡ length (dah_text g)) seen
    (sym (length-dah_text (record { k = k; rows = rows; cols = cols }) (record { roots = are; rows = rows_are; cols = cols_are })))

pub returns : goal.returns
returns c =
    sized c.args.header.now _ _ _ c.header.view_is c.header.invariant
    (subst (λ (l : List Digest). AreDigests l) c.deref.ensures.value c.digests_law.ensures)
    (subst (λ (l : List Digest). AreDigests l) c.deref-2.ensures.value c.digests_law-2.ensures)
