-- Claims that are accepted (docs/RULES.md, "Fraud claims").
use Rattle.data_header.specs.Headers.{Roots}
use Rattle.axis_roots.specs.Claims.{ClaimParts, Accepts}

-- a claim is accepted under some header
abbrev pub IsAccepted : ClaimParts → Type 0
IsAccepted claim = (header : Roots) × Accepts header claim
