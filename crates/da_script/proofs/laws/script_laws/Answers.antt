use Rattle.da_script.proofs.CountLemmas.{within_bytes}
use Rattle.da_script.proofs.RoomLemmas.{has_room}
use Rattle.da_script.proofs.laws.script_laws.Goals as goal

pub returns : goal.returns
returns c = record { room = has_room; bytes = within_bytes }
