-- An entry that is read is the one that was written, and one that was written is read.
use Rattle.std.proofs.Common.{◌≡◌, ℕ, false, List, refl, arith}
use Rattle.axis_roots.specs.declared.answers.NsEntry.{NsEntry}
use Rattle.axis_roots.specs.Answers.{IsEntry}
use Rattle.frame_payloads.specs.kinds.Names.{is_long_entry, found_bytes, entry_bytes, found_at, entry_at}
use Rattle.frame_payloads.proofs.Fields.Fields.{AreMaps, ◌▸◌, made_field}
use Rattle.frame_payloads.proofs.Fields.Bases.{number16, field}
use Rattle.frame_payloads.proofs.Fields.Texts.{IsField}
use Rattle.frame_payloads.proofs.Forms.Founds.{IsWritable, found_field}

-- an entry that can be written
abbrev pub IsShortEntry : NsEntry → Type 0
IsShortEntry entry = IsEntry entry × (is_long_entry entry ≡ false)

-- an entry is a row, and what is found in it
maps : AreMaps {R = NsEntry × List ℕ} (number16 ▸ field found_at found_bytes IsWritable found_field) (λ x. record { row = x.0; found = x.1 }) (λ e. (e.row, e.found)) IsShortEntry
maps = record {
  there = λ x is. ((record { row = is.0; found = is.1.0 }, is.1.1), refl);
  back = λ e is. ((is.0.row, (is.0.found, is.1)), refl);
}

-- an entry is a field
pub entry_field : IsField entry_at entry_bytes IsShortEntry
unfolding entry_at
entry_field = made_field maps entry_at entry_bytes (λ bytes. refl) (λ e. refl) (λ e. omega arith)
