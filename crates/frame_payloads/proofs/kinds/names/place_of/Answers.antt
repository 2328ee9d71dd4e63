use Rattle.std.proofs.Common.{ℕ, sym, ap}
use Rattle.namespace_id.specs.Shares.{share_of}
use Rattle.frame_payloads.specs.declared.shown.FoundPlace.TheVariants.{Range}
use Rattle.frame_payloads.proofs.Fields.Split.{length-split_into}
use Rattle.frame_payloads.proofs.kinds.names.place_of.Goals as goal

-- so many shares as are counted are read
pub returns-in-Range : goal.returns-in-Range
returns-in-Range c = rw c.in-Range.is (ap (λ (n : ℕ). Range c.in-Range.start n) (sym (length-split_into share_of 512 c.in-Range.count c.in-Range.shares.now)))
