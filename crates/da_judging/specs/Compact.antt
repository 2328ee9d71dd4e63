-- compact HEADER CLAIM: an accepted fraud claim with one proof of all its cells along the accused axis.
use Rattle.std.specs.Prelude.{◌≢◌, ℕ, List, Some, None}
use Rattle.std.specs.declared.option.Option.{Option}
use Rattle.data_header.specs.Headers.{Roots}
use Rattle.square_layout.specs.Blocks.{SquareShares}
use Rattle.axis_roots.specs.Claims.{ClaimParts, ClaimNames}
use Rattle.befp_verify.specs.declared.verifying.FraudRefusal.{FraudRefusal}
use Rattle.befp_verify.specs.declared.compacting.Compacted.{Compacted}
use Rattle.befp_verify.specs.declared.compacting.Compacted.TheVariants as made
use Rattle.befp_verify.specs.Refusals.{HasFraudCause}
use Rattle.befp_verify.specs.Compacting.{IsCompacted}
use Rattle.da_wire.specs.declared.frames.Frame.TheVariants as frames
use Rattle.da_status.specs.declared.status.Status.{Status}
use Rattle.da_status.specs.declared.status.Status.TheVariants.{Clash, Refused}
use Rattle.da_status.specs.Outcome.{Relation}
use Rattle.da_files.specs.Contents.{file_of, header_file}
use Rattle.da_files.specs.Frames.{header_in, claim_in, Writes, WritesWith, WritesText}
use Rattle.da_files.specs.Forms.{Over}
use Rattle.da_judging.specs.Verify.{fraud_number, verdict_line}

-- ---- CLAIM

-- CLAIM, the second file of compact
abbrev pub claim_file : List (List ℕ) → List ℕ
claim_file files = file_of files 1

-- ---- answers

-- the output is the frame of what a claim was made into: a claim, or the collision that two of its cells name
abbrev pub WritesMade : Compacted → Relation
WritesMade (made.Claim claim) = Writes (frames.Fraud claim)
WritesMade (made.Clash clash) = WritesWith Clash (frames.Clash clash)

-- the output is the frame of what a claim is made into that is accepted under the header
abbrev pub Compacts : Roots → ClaimParts → Relation
Compacts header claim w status =
    (one : Compacted) × IsCompacted header claim one × WritesMade one w status

-- a claim that no check refuses is made compact; of another the number of the check is told
abbrev pub CompactsBy : Roots → ClaimParts → Option FraudRefusal → Relation
CompactsBy header claim None = Compacts header claim
CompactsBy header claim (Some why) = WritesText Refused (verdict_line (Some (fraud_number why)))

-- what is written for a claim under a header, by the first check that refuses it
abbrev pub CompactsJudged : Roots → ClaimParts → Relation
CompactsJudged header claim w status =
    (why : Option FraudRefusal) × HasFraudCause header claim why × CompactsBy header claim why w status

-- under the header of a square: the claim is refused, or a sample of it, or its set, and the square name a collision
abbrev pub CompactsOwn : ClaimParts → SquareShares → Status → Type 0
CompactsOwn claim square status = status ≢ Refused → ClaimNames claim square

-- ---- the command

-- what compact answers to a HEADER and a CLAIM in their forms
abbrev pub CompactOf : List (List ℕ) → Relation
CompactOf files =
    Over (header_in (header_file files)) (λ header. Over (claim_in (claim_file files)) (λ claim. CompactsJudged header claim))
