-- The payload of transactions (docs/FORMATS.md, "Payloads").
use Rattle.std.specs.Prelude.{ℕ, List, length, Option, Some, None, if◌then◌else◌, ◌==◌}
use Rattle.frame_fields.specs.Fields.{◌>>=◌}
use Rattle.frame_payloads.specs.kinds.Units.{unit_at, counted_at, unit_bytes, counted_bytes}

-- transactions behind their count, each behind its length
abbrev pub transactions_payload : List (List ℕ) → List ℕ
transactions_payload units = counted_bytes unit_bytes units

-- transactions behind their count, each behind its length, and nothing behind them
unfoldable pub transactions_at : List ℕ → Option (List (List ℕ))
transactions_at bytes = do
  units ← counted_at unit_at bytes
  if length units.1 == 0 then Some units.0 else None
