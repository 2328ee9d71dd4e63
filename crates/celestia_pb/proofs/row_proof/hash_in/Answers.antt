use Rattle.std.proofs.Common.{◌≡◌, ◌∙◌, ℕ, List, [], ◌∷◌, drop, sym, ap, arith}
use Rattle.namespace_id.specs.declared.digests.Digest.{Digest}
use Rattle.celestia_pb.specs.Digests.{entry_digest, digests_in}
use Rattle.celestia_pb.proofs.EntryListLemmas.{entries-next, entries-none}
use Rattle.celestia_pb.proofs.row_proof.hash_in.Goals as goal

-- there is none
pub returns-then-count-eq0 : goal.returns-then-count-eq0
returns-then-count-eq0 c =
    let none : c.args.count ≡ 0 = omega arith in
    sym (ap (λ (k : ℕ). digests_in k c.args.bytes.now) none ∙ entries-none entry_digest 92 c.args.bytes.now)

-- there is one
pub returns : goal.returns
returns c =
    let one : c.args.count ≡ 1 = omega arith in
    ap (λ (d : Digest). d ∷ []) c.entry_digest.ensures
    ∙ sym (
    ap (λ (k : ℕ). digests_in k c.args.bytes.now) one
    ∙ entries-next entry_digest 92 0 c.args.bytes.now
    ∙ ap (λ (l : List Digest). entry_digest c.args.bytes.now ∷ l) (entries-none entry_digest 92 (drop 92 c.args.bytes.now)))
