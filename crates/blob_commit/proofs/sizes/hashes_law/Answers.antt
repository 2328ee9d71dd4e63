use Rattle.std.proofs.Common.{[], arith}
use Rattle.std.proofs.lemmas.List.Elements.{All-more}
use Rattle.namespace_id.specs.Bytes.{IsString}
use Rattle.namespace_id.proofs.ElementLemmas.{all_passed}
use Rattle.blob_commit.proofs.sizes.hashes_law.Goals as goal

pub loop-hash-preserved : goal.loop-hash-preserved
loop-hash-preserved c = All-more (IsString 32) c.args.hashes.now c.loop-hash.hash-index [] (omega arith) c.loop-hash.invariant c.hash_law.ensures

pub returns : goal.returns
returns c = all_passed (IsString 32) c.args.hashes.now c.loop-hash.hash-index (omega arith) c.loop-hash.invariant
