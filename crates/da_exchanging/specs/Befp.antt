-- befp: a fraud claim without a set as the message BadEncoding, which has the hash and the height of a header besides, and its frame B.
use Rattle.std.specs.Prelude.{ℕ, List, Some, None, if◌then◌else◌}
use Rattle.std.specs.declared.option.Option.{Option}
use Rattle.axis_roots.specs.Claims.{ClaimParts}
use Rattle.celestia_pb.specs.Befp.{claim_has_message, befp_text, befp_value}
use Rattle.da_wire.specs.declared.frames.Frame.TheVariants.{Fraud}
use Rattle.da_status.specs.Outcome.{Relation}
use Rattle.da_files.specs.Frames.{claim_in}
use Rattle.da_exchanging.specs.Made.{Frames, TextsIf}

-- the message of a claim against an axis of a square of width k, where it has one; its proofs pass over the parity namespace
abbrev pub claim_message : ℕ → List ℕ → ℕ → ClaimParts → Option (List ℕ)
claim_message k hash height claim = if claim_has_message k claim then Some (befp_text 1 k hash height claim) else None

-- what `import befp` answers to a FILE that is a message of this hash and this height: the frame of its claim
abbrev pub ImportBefpOf : List ℕ → ℕ → List (List ℕ) → Relation
ImportBefpOf hash height = Frames (befp_value hash height) Fraud

-- what `export befp` answers to a FILE that is a claim: its message at this width, where it has one
abbrev pub ExportBefpOf : ℕ → List ℕ → ℕ → List (List ℕ) → Relation
ExportBefpOf k hash height = TextsIf claim_in (claim_message k hash height)
