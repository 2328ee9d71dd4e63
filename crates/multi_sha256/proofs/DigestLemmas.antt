-- From the state after all blocks of a padded message to its digest.
use Rattle.std.proofs.Common.{◌≡◌, ◌∙◌, ℕ, ◌<◌, ◌≤◌, ◌+◌, ◌/◌, ◌%◌, List, length, take, sym, ap, ap₂, arith}
use Rattle.std.proofs.lemmas.List.{length-take-le}
use Rattle.sha2.specs.Sha256.{digest_bytes, hash_after, initial_hash_256, padded_message, sha256}
use Rattle.multi_sha256.proofs.PaddingLemmas.{length-padded}

pub digest_of_padded : (m p h d : List ℕ) (n size : ℕ) → n % 64 ≡ 0 → size + 9 ≤ n → n < size + 73 → length m ≡ n
    → p ≡ padded_message (take size m) → h ≡ hash_after initial_hash_256 p (n / 64) → d ≡ digest_bytes h 8
    → d ≡ sha256 (take size m)
unfolding sha256
digest_of_padded m p h d n size whole room tight count ep eh ed =
    let short : length (take size m) ≡ size = length-take-le size m (omega arith) in
    let long : length (padded_message (take size m)) ≡ n = length-padded (take size m) n whole (omega arith) (omega arith) in
    ed ∙ ap (λ (x : List ℕ). digest_bytes x 8)
    (eh ∙ ap₂ (λ (x : List ℕ) (k : ℕ). hash_after initial_hash_256 x (k / 64)) ep (sym long))
