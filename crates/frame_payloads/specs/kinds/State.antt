-- The payload of a state (docs/FORMATS.md, "Payloads").
use Rattle.std.specs.Prelude.{ℕ, List, [], length, Option, Some, None, if◌then◌else◌, ◌==◌, ⊤}

-- no byte
abbrev pub state_payload : List ℕ
state_payload = []

-- a state, where there is no byte
abbrev pub state_at : List ℕ → Option ⊤
state_at bytes = if length bytes == 0 then Some tt else None
