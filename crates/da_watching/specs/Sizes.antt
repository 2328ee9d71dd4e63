-- How long frames of a talk with a watcher are.
use Rattle.std.specs.Prelude.{ℕ, ◌+◌, max}
use Rattle.da_talk.specs.Sizes.{most_missing}

-- the most bytes of the payload of a fraud claim: that of 512 cells with a set of 512 nodes, which shows one of them
abbrev pub most_claim : ℕ
most_claim = 770179

-- the most bytes of what is said at once under a header of a width: a claim, or cells that wait. A refusal and a state are shorter
abbrev pub most_said : ℕ → ℕ
most_said k = max (5 + most_claim) (most_missing k)
