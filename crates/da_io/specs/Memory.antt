-- What inputs and sinks in memory tell.
use Rattle.std.specs.Prelude.{ℕ, List, Some}
use Rattle.std.specs.declared.option.Option.{Option}
use Rattle.da_io.specs.declared.mem_inputs.MemInputs.{MemInputs}
use Rattle.da_io.specs.declared.mem_sink.MemSink.{MemSink}
use Rattle.da_io.specs.Files.{Files, files_in, rest_in, name_bytes}

-- the files by name
abbrev pub files_of : MemInputs → Option Files
files_of inputs = Some (files_in inputs.names.items inputs.contents.items)

-- the unread bytes of the picked file
abbrev pub rest_of : MemInputs → Option (List ℕ)
rest_of inputs = Some (rest_in inputs.contents.items inputs.file inputs.place)

-- the name that was picked last
abbrev pub picked_of : MemInputs → Option (List ℕ)
picked_of inputs = name_bytes inputs.picked

-- the bytes that were taken
abbrev pub taken_of : MemSink → Option (List ℕ)
taken_of sink = Some sink.bytes.items
