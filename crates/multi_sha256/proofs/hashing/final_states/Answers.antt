use Rattle.std.proofs.Common.{◌≡◌, ◌*◌, ◌/◌, ◌∙◌, ℕ, List, [], take, drop, slice_index_or, sym, ap, ap₂, arith}
use Rattle.sha2.specs.Sha256.{compress, hash_after, initial_hash_256}
use Rattle.sha2.proofs.Absorbing256.{hash_after_next}
use Rattle.multi_sha256.proofs.hashing.final_states.Goals as goal

pub blocks-2-init : goal.blocks-2-init
unfolding hash_after
blocks-2-init g c j h = c.initial_states-states.ensures j h

pub blocks-2-preserved : goal.blocks-2-preserved
blocks-2-preserved g c j h =
    let m = slice_index_or c.args.messages.now j [] in
    let n = c.blocks-2.block in
    let at : 64 * n ≡ n * 64 = omega arith in
    c.compress.ensures j h
    ∙ ap₂ (λ (x y : List ℕ). compress x y) (c.blocks-2.invariant j h) (ap (λ (k : ℕ). take 64 (drop k m)) at)
    ∙ sym (hash_after_next initial_hash_256 m n)

pub returns : goal.returns
returns g c j h =
    let end : c.blocks-2.block ≡ g.row.N / 64 = omega arith in
    c.blocks-2.invariant j h ∙ ap (hash_after initial_hash_256 (slice_index_or c.args.messages.now j [])) end
