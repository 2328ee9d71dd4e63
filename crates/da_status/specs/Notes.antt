-- The line that goes with a status.
use Rattle.std.specs.Prelude.{◌≡◌, ℕ, List, [], ◌++◌, codes, decimal, ◌⊎◌, ◌↔◌, IsSome}
use Rattle.std.specs.declared.option.Option.{Option}
use Rattle.std.specs.Io.KnownBytes.{Appends}
use Rattle.da_io.specs.Faults.{count_on}
use Rattle.da_io.specs.Sinks.{AppendsPart}
use Rattle.namespace_id.specs.declared.namespaces.NsError.{NsError}
use Rattle.namespace_id.specs.declared.namespaces.NsError.TheVariants.{Length, Version, Prefix, Reserved}
use Rattle.namespace_id.specs.declared.cells.Axis.{Axis}
use Rattle.namespace_id.specs.declared.cells.Axis.TheVariants.{Row, Col}
use Rattle.share_split.specs.declared.joining.JoinError.{JoinError}
use Rattle.share_split.specs.declared.joining.JoinError.TheVariants as join
use Rattle.square_layout.specs.declared.laying.LayError.{LayError}
use Rattle.square_layout.specs.declared.laying.LayError.TheVariants as lay
use Rattle.tx_list.specs.declared.refusals.ListError.{ListError}
use Rattle.tx_list.specs.declared.refusals.ListError.TheVariants as list
use Rattle.tx_list.specs.declared.refusals.BackError.{BackError}
use Rattle.tx_list.specs.declared.refusals.BackError.TheVariants as back
use Rattle.da_status.specs.declared.status.Asked.{Asked}
use Rattle.da_status.specs.declared.status.Asked.TheVariants.{NoHeader, At, Count, Nodes, Range, Shares, NoList, LongList, Form}
use Rattle.da_status.specs.declared.status.Status.{Status}
use Rattle.da_status.specs.declared.status.Status.TheVariants.{Done, Usage, PickFault, ReadFault, WriteFault, NoMemory, BadInput, TooLong, BadBlock, BadList, BadRequest, Fraud, Missing, Clash, Refused, Waiting}

-- the numbers of the refusals of a namespace
abbrev pub ns_refusal_number : NsError → ℕ
ns_refusal_number Length = 1
ns_refusal_number Version = 2
ns_refusal_number Prefix = 3
ns_refusal_number Reserved = 4

-- why a block can't be laid out: the number of the refusal, and what it tells
abbrev pub block_note : LayError → List ℕ
block_note (lay.BadBlob i why) = codes "1 " ++ decimal i ++ codes " " ++ decimal (ns_refusal_number why)
block_note (lay.EmptyBlob i) = codes "2 " ++ decimal i
block_note (lay.TooLarge needed) = codes "3 " ++ decimal needed
block_note (lay.WidthTooSmall needed) = codes "4 " ++ decimal needed
block_note lay.BadWidth = codes "5"
block_note lay.NoMemory = codes "6"

-- two numbers with a space between them
abbrev pub two_numbers : ℕ → ℕ → List ℕ
two_numbers i j = decimal i ++ codes " " ++ decimal j

-- why a list of transactions can't be laid out: the number of the refusal, of which that of the size is a block's, and what
-- it tells
abbrev pub list_note : ListError → List ℕ
list_note (list.Behind i) = codes "6 " ++ decimal i
list_note (list.NoBlobs i) = codes "7 " ++ decimal i
list_note (list.BadBlob i j why) = codes "8 " ++ two_numbers i j ++ codes " " ++ decimal (ns_refusal_number why)
list_note (list.BadVersion i j) = codes "9 " ++ two_numbers i j
list_note (list.NoBytes i j) = codes "10 " ++ two_numbers i j
list_note (list.TooLarge needed) = codes "3 " ++ decimal needed
list_note list.NoMemory = codes "11"

-- the numbers of the refusals of shares
abbrev pub join_number : JoinError → ℕ
join_number (join.NoStart i) = 1
join_number (join.Short i) = 2
join_number (join.BadVersion i) = 3
join_number (join.NonZeroFill i) = 4
join_number (join.BadVarint i) = 5
join_number (join.BadReserved i) = 6
join_number (join.MixedNamespace i) = 7
join_number join.NoMemory = 8

-- the share that such a refusal names, counted from 0
abbrev pub join_share : JoinError → ℕ
join_share (join.BadVersion i) = i
join_share (join.MixedNamespace i) = i
join_share (join.Short i) = i
join_share (join.NoStart i) = i
join_share (join.NonZeroFill i) = i
join_share (join.BadVarint i) = i
join_share (join.BadReserved i) = i
join_share join.NoMemory = 0

-- why a square isn't one that a list of transactions is laid out as: the number of the refusal, and what it tells
abbrev pub back_note : BackError → List ℕ
back_note (back.Units why) = codes "1 " ++ two_numbers (join_number why) (join_share why)
back_note (back.Payments why) = codes "2 " ++ two_numbers (join_number why) (join_share why)
back_note (back.Wrapper i) = codes "3 " ++ decimal i
back_note (back.Index i j) = codes "4 " ++ two_numbers i j
back_note (back.Unlike at) = codes "5 " ++ decimal at
back_note back.NoMemory = codes "7"

-- why what the files ask for can't be answered, in words
abbrev pub request_note : Asked → List ℕ
request_note NoHeader = codes "no header"
request_note (At i) = decimal i
request_note Count = codes "count"
request_note Nodes = codes "nodes"
request_note Range = codes "range"
request_note (Shares why) = codes "shares " ++ decimal (join_number why) ++ codes " " ++ decimal (join_share why)
request_note (NoList why) = codes "transactions " ++ back_note why
request_note LongList = codes "transactions 6"
request_note Form = codes "form"

-- the kind of an axis, in a word
abbrev pub axis_note : Axis → List ℕ
axis_note Row = codes "row "
axis_note Col = codes "col "

-- the line of a status
abbrev pub note_of : Status → List ℕ
note_of Done = []
note_of Usage = codes "usage: da COMMAND WORDS\n"
note_of (PickFault i) = codes "cannot open file " ++ decimal i ++ codes "\n"
note_of (ReadFault i) = codes "cannot read file " ++ decimal i ++ codes "\n"
note_of WriteFault = codes "cannot write\n"
note_of NoMemory = codes "out of memory\n"
note_of (BadInput i at) = codes "bad input: file " ++ decimal i ++ codes " at " ++ decimal at ++ codes "\n"
note_of (TooLong i) = codes "too long: file " ++ decimal i ++ codes "\n"
note_of (BadBlock why) = codes "bad block: " ++ block_note why ++ codes "\n"
note_of (BadList why) = codes "bad block: " ++ list_note why ++ codes "\n"
note_of (BadRequest why) = codes "bad request: " ++ request_note why ++ codes "\n"
note_of (Fraud axis i) = codes "fraud: " ++ axis_note axis ++ decimal i ++ codes "\n"
note_of (Missing cells lies) = codes "missing: " ++ decimal cells ++ codes " cells, " ++ decimal lies ++ codes " lies\n"
note_of Clash = codes "clash\n"
note_of Refused = codes "refused\n"
note_of (Waiting cells) = codes "waiting: " ++ decimal cells ++ codes "\n"

-- the line was taken, or a proper prefix of it where a write failed
pub record Notes (text : List ℕ) (old new : Option (List ℕ)) (before now : ℕ) : Type 0 where
  pub told : IsSome old ↔ IsSome new
  pub taken : (Appends old new text × (now ≡ before)) ⊎ (AppendsPart old new text × (now ≡ count_on before 1))
