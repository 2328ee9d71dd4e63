-- What the functions of this crate say to one another.
use Rattle.std.specs.Prelude.{◌≡◌, ℕ, ◌<◌, ◌++◌, ◌||◌, nat_lt, Bool, true, false, List, map, drop, length, codes, decimal, Some, Result, Ok, Err, ⊤, Vec}
use Rattle.std.specs.declared.alloc.Global.{Global}
use Rattle.std.specs.List.{list_any}
use Rattle.axis_roots.specs.Claims.{ClaimParts}
use Rattle.data_header.specs.Headers.{Roots}
use Rattle.sampling.specs.Draws.{draw_limit}
use Rattle.da_status.specs.Notes.{axis_note}
use Rattle.da_wire.specs.declared.frames.RawFrame.{RawFrame}
use Rattle.da_wire.specs.Reading.{raw_seen}
use Rattle.da_net.specs.declared.items.Item.{Item}
use Rattle.da_net.specs.declared.items.NodeState.{NodeState}
use Rattle.da_net.specs.Networks.{Standing}
use Rattle.da_net.specs.Nets.{NetParts, HasStanding, standing_state, is_too_many}
use Rattle.da_script.specs.declared.reading.Counts.{Counts}
use Rattle.da_script.specs.declared.reading.Move.{Move}
use Rattle.da_script.specs.declared.reading.Move.TheVariants as move
use Rattle.da_script.specs.declared.playing.PlayError.{PlayError}
use Rattle.da_script.specs.declared.playing.PlayError.TheVariants.{BadScript, Nodes, NoMemory}
use Rattle.da_script.specs.Scripts.{Draw, full_count, light_count, draws_at}
use Rattle.da_script.specs.Plays.{frame_item, pooling, put_bytes, is_refused, first_net, HasTail, TellsPlay}

-- these frames are these items
abbrev pub AreFramesOf : List RawFrame → List Item → Type 0
AreFramesOf frames items = map (λ frame. frame_item (raw_seen frame)) frames ≡ map Some items

-- how many bytes the payload of each of these frames has
abbrev pub payload_sizes : List RawFrame → List ℕ
payload_sizes frames = map (λ frame. length frame.payload.now) frames

-- an event puts one of so many items, or none
abbrev pub IsPuttable : ℕ → Move → Type 0
IsPuttable items (move.Put a) = a < items
IsPuttable items (move.Hand a b) = ⊤
IsPuttable items (move.Publish b) = ⊤

-- these are the counts of events over items of these sizes
pub record AreCounts (sizes : List ℕ) (counts : Counts) (moves : List Move) : Type 0 where
  pub moves_are : counts.moves ≡ length moves
  pub pooling_are : counts.pooling ≡ pooling moves
  pub bytes_are : counts.bytes ≡ put_bytes sizes moves

-- a key draws more cells than may be drawn of the square of a width
abbrev pub is_wide : ℕ → Draw → Bool
is_wide k draw = nat_lt (draw_limit k) draw.count

-- whether a script with these counts is refused
abbrev pub is_refused_by : ℕ → Counts → List ℕ → Bool
is_refused_by k counts script = is_too_many (full_count script) (light_count script) counts.pooling counts.moves
    || nat_lt 536870912 counts.bytes
    || list_any (is_wide k) (draws_at (light_count script) (drop 4 script))

-- the network of a script, or why there is none
abbrev pub IsMadeNet : Roots → List ℕ → List Move → List ℕ → Result NetParts PlayError → Type 0
IsMadeNet header sizes moves script (Ok net) =
    (is_refused header.k sizes moves script ≡ false) × (net ≡ first_net header moves script)
IsMadeNet header sizes moves script (Err (BadScript at)) = ⊥
IsMadeNet header sizes moves script (Err Nodes) = is_refused header.k sizes moves script ≡ true
IsMadeNet header sizes moves script (Err NoMemory) = ⊤

-- lines of which this holds were added to a text
abbrev pub Adds : (List ℕ → Type 0) → List ℕ → List ℕ → Type 0
Adds Holds old new = (lines : List ℕ) × Holds lines × (new ≡ old ++ lines)

-- what the line of a node that rejects has behind its state
abbrev pub claim_tail : ClaimParts → List ℕ
claim_tail claim = codes " " ++ axis_note claim.axis ++ decimal claim.index

-- what the line of a node has behind its state was added to it
abbrev pub IsTailed : NetParts → ℕ → NodeState → List ℕ → List ℕ → Type 0
IsTailed net node one old new = (standing : Standing) (stands : HasStanding net node standing) → one ≡ standing_state standing
    → Adds (HasTail net node stands.kind standing) old new

-- what a script that is in its form comes to over items of these sizes
abbrev pub IsPlayed : Roots → List ℕ → List Item → List Move → List ℕ → Result (Vec ℕ Global) PlayError → Type 0
IsPlayed header sizes items moves script (Ok text) =
    (is_refused header.k sizes moves script ≡ false) × TellsPlay items (first_net header moves script) moves text.items
IsPlayed header sizes items moves script (Err (BadScript at)) = ⊥
IsPlayed header sizes items moves script (Err Nodes) = is_refused header.k sizes moves script ≡ true
IsPlayed header sizes items moves script (Err NoMemory) = ⊤
