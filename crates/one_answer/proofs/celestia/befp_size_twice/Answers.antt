use Rattle.std.proofs.Common.{ℕ, List, replicate}
use Rattle.std.proofs.lemmas.List.{length-replicate}
use Rattle.one_answer.proofs.MessageLemmas.{one_length}
use Rattle.one_answer.proofs.celestia.befp_size_twice.Goals as goal

-- the length is one for every hash
pub returns : goal.returns
returns c =
    let hash : List ℕ = replicate 32 0 in
    one_length _ c.befp_size-first.result c.befp_size-second.result c.befp_size-first.ensures.which c.befp_size-second.ensures.which
    (c.befp_size-first.ensures.size hash (length-replicate {A = ℕ} 32 0)) (c.befp_size-second.ensures.size hash (length-replicate {A = ℕ} 32 0))
