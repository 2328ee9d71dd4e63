-- What comes of a script under a header (docs/RULES.md, "Networks", and docs/COMMANDS.md, "Output").
use Rattle.std.specs.Prelude.{◌≡◌, ℕ, suc, ◌++◌, ◌||◌, nat_lt, Bool, true, false, List, [], ◌∷◌, length, map, slice_get, get_or, is_some, codes, decimal, Option, Some, None, Result, Ok, Err, ⊤, Vec}
use Rattle.std.specs.declared.alloc.Global.{Global}
use Rattle.std.specs.List.{filter, list_any, sum_by}
use Rattle.std.specs.Option.{option_map, option_map_or}
use Rattle.namespace_id.specs.Cells.{CellList}
use Rattle.data_header.specs.Headers.{Roots}
use Rattle.sampling.specs.Draws.{draw_limit, drawn_cells}
use Rattle.da_status.specs.Notes.{axis_note}
use Rattle.da_wire.specs.Reading.{Raw}
use Rattle.da_wire.specs.Frames.{raw_message, raw_claim}
use Rattle.da_net.specs.declared.items.Item.{Item}
use Rattle.da_net.specs.declared.items.Item.TheVariants.{Message, Claim}
use Rattle.da_net.specs.declared.items.NetEvent.{NetEvent}
use Rattle.da_net.specs.declared.items.NetEvent.TheVariants as event
use Rattle.da_net.specs.declared.items.NodeState.{NodeState}
use Rattle.da_net.specs.declared.items.NodeState.TheVariants as state
use Rattle.da_net.specs.declared.items.Stepped.{Stepped}
use Rattle.da_net.specs.declared.items.Stepped.TheVariants as stepped
use Rattle.da_net.specs.declared.items.StepRefusal.{StepRefusal}
use Rattle.da_net.specs.declared.items.StepRefusal.TheVariants as refusal
use Rattle.da_net.specs.Networks.{NodeKind, light, Standing, settled, clashing, waiting, available, rejecting, handed, IsRun}
use Rattle.da_net.specs.Nets.{NetParts, network_of, fresh, is_too_many, HasStanding, standing_state, AreMissed, why_not, HasHappened, IsSameNet}
use Rattle.da_script.specs.declared.reading.Move.{Move}
use Rattle.da_script.specs.declared.reading.Move.TheVariants as move
use Rattle.da_script.specs.declared.playing.PlayError.{PlayError}
use Rattle.da_script.specs.declared.playing.PlayError.TheVariants.{BadScript, Nodes, NoMemory}
use Rattle.da_script.specs.Scripts.{Draw, full_count, draws_of, moves_of, bad_script}

-- ---- items

-- the item that a frame is: a sample of the grammar, or a fraud claim of it; any other frame is none
abbrev pub frame_item : Raw → Option Item
frame_item frame = option_map_or (λ m. Some (Message m)) (raw_message frame) (option_map Claim (raw_claim frame))

-- the items among frames, in their order
unfoldable pub items_in : List Raw → List Item
items_in [] = []
items_in (frame ∷ later) = option_map_or (λ one. one ∷ items_in later) (frame_item frame) (items_in later)

-- the frames that are items, in their order
abbrev pub item_frames : List Raw → List Raw
item_frames frames = filter (λ frame. is_some (frame_item frame)) frames

-- how many bytes the payload of each item among frames has
abbrev pub item_sizes : List Raw → List ℕ
item_sizes frames = map (λ frame. length frame.payload) (item_frames frames)

-- ---- the network

-- a light node that planned what a key draws
abbrev pub light_of : ℕ → Draw → NodeKind
light_of k draw = light (drawn_cells draw.key k draw.count)

-- whether an event of a script puts an item into the pool
abbrev pub is_pooling_move : Move → Bool
is_pooling_move (move.Put a) = true
is_pooling_move (move.Hand a b) = false
is_pooling_move (move.Publish b) = true

-- how many items the events of a script may put into the pool
abbrev pub pooling : List Move → ℕ
pooling moves = length (filter is_pooling_move moves)

-- how many bytes of items an event of a script puts into the pool, by the sizes of the items
abbrev pub put_size : List ℕ → Move → ℕ
put_size sizes (move.Put a) = get_or sizes a 0
put_size sizes (move.Hand a b) = 0
put_size sizes (move.Publish b) = 0

-- how many all its events put, an item as often as it is put
abbrev pub put_bytes : List ℕ → List Move → ℕ
put_bytes sizes moves = sum_by (put_size sizes) moves

-- whether there are too many nodes, items or events for a network, too many bytes of items that are put, or too many
-- cells for a light node
abbrev pub is_refused : ℕ → List ℕ → List Move → List ℕ → Bool
is_refused k sizes moves script = is_too_many (full_count script) (length (draws_of script)) (pooling moves) (length moves)
    || nat_lt 536870912 (put_bytes sizes moves)
    || list_any (λ draw. nat_lt (draw_limit k) draw.count) (draws_of script)

-- the network of a script, in which nothing has happened
abbrev pub first_net : Roots → List Move → List ℕ → NetParts
first_net header moves script =
    fresh header (full_count script) (map (light_of header.k) (draws_of script)) (pooling moves) (length moves)

-- ---- events

-- the event of a network that an event of a script is; none where it puts no item of the list
abbrev pub event_of : List Item → Move → Option NetEvent
event_of items (move.Put a) = option_map event.Put (slice_get items a)
event_of items (move.Hand a b) = Some (event.Hand a b)
event_of items (move.Publish b) = Some (event.Publish b)

-- a state, in a word
abbrev pub state_word : NodeState → List ℕ
state_word state.Open = codes "open"
state_word state.Clash = codes "clash"
state_word state.Waiting = codes "waiting"
state_word state.Available = codes "available"
state_word state.Rejected = codes "rejected"

-- the line of an event that happened
abbrev pub step_line : Stepped → List ℕ
step_line (stepped.Pooled place) = codes "pooled " ++ decimal place ++ codes "\n"
step_line (stepped.Handed one) = codes "handed " ++ state_word one ++ codes "\n"

-- the number of the refusal of an event
abbrev pub refusal_number : StepRefusal → ℕ
refusal_number (refusal.Full one) = 1
refusal_number refusal.NoItem = 2
refusal_number refusal.NoNode = 3
refusal_number refusal.NotRejecting = 4
refusal_number refusal.Published = 5

-- the line of an event that is refused
abbrev pub refused_line : StepRefusal → List ℕ
refused_line why = codes "refused " ++ decimal (refusal_number why) ++ codes "\n"

-- an event over a network: the network afterwards, and its line; it happens, or is refused and changes nothing
pub data Goes (items : List Item) (old : NetParts) (one : Move) (new : NetParts) (line : List ℕ) : Type 0 where
  done : (given : NetEvent) (did : Stepped) → event_of items one ≡ Some given → why_not old given ≡ None
      → HasHappened old given new did → IsSameNet old new → line ≡ step_line did → Goes items old one new line
  refused : (given : NetEvent) (why : StepRefusal) → event_of items one ≡ Some given → why_not old given ≡ Some why
      → new ≡ old → line ≡ refused_line why → Goes items old one new line

-- events over a network, one after another: the network afterwards, and their lines
pub data GoOn (items : List Item) (first : NetParts) : List Move → NetParts → List ℕ → Type 0 where
  start : GoOn items first [] first []
  next : (moves : List Move) (old : NetParts) (lines : List ℕ) (one : Move) (new : NetParts) (line : List ℕ)
      → GoOn items first moves old lines → Goes items old one new line
      → GoOn items first (moves ++ one ∷ []) new (lines ++ line)

-- ---- nodes

-- what the line of a node has behind its state: the axis of its claim, or how many cells it misses
abbrev pub HasTail : NetParts → ℕ → NodeKind → Standing → List ℕ → Type 0
HasTail net node kind settled tail = (cells : CellList)
    × AreMissed net.header kind (handed net.pool net.steps node) cells × (tail ≡ codes " missing " ++ decimal (length cells.list))
HasTail net node kind (clashing left right) tail = tail ≡ []
HasTail net node kind waiting tail = (cells : CellList)
    × AreMissed net.header kind (handed net.pool net.steps node) cells × (tail ≡ codes " " ++ decimal (length cells.list))
HasTail net node kind available tail = tail ≡ []
HasTail net node kind (rejecting claim) tail = tail ≡ codes " " ++ axis_note claim.axis ++ decimal claim.index

-- the line of a node
pub record IsNodeLine (net : NetParts) (node : ℕ) (line : List ℕ) : Type 0 where
  pub standing : Standing
  pub stands : HasStanding net node standing
  pub tail : List ℕ
  pub tail_is : HasTail net node stands.kind standing tail
  pub line_is : line ≡ codes "node " ++ decimal node ++ codes " " ++ state_word (standing_state standing) ++ tail ++ codes "\n"

-- the lines of the first nodes
pub data AreNodeLines (net : NetParts) : ℕ → List ℕ → Type 0 where
  start : AreNodeLines net 0 []
  next : (n : ℕ) (lines line : List ℕ) → AreNodeLines net n lines → IsNodeLine net n line → AreNodeLines net (suc n) (lines ++ line)

-- ---- scripts

-- what is written of events over a network in which nothing had happened: a line for each event, and then a line for each
-- node of the network that they left, whose pool and steps are those of one run
abbrev pub TellsPlay : List Item → NetParts → List Move → List ℕ → Type 0
TellsPlay items first moves w = (net : NetParts) × (front back : List ℕ) × GoOn items first moves net front
    × IsRun (network_of net) net.pool net.steps × AreNodeLines net (length net.nodes) back × (w ≡ front ++ back)

-- what a script comes to over a list of frames: a place at which it isn't one, a refusal, or its lines
abbrev pub Plays : Roots → List Raw → List ℕ → Result (Vec ℕ Global) PlayError → Type 0
Plays header frames script (Ok text) =
    (bad_script (length (items_in frames)) script ≡ None)
    × (is_refused header.k (item_sizes frames) (moves_of (length (items_in frames)) script) script ≡ false)
    × TellsPlay (items_in frames) (first_net header (moves_of (length (items_in frames)) script) script)
    (moves_of (length (items_in frames)) script) text.items
Plays header frames script (Err (BadScript at)) = bad_script (length (items_in frames)) script ≡ Some at
Plays header frames script (Err Nodes) =
    (bad_script (length (items_in frames)) script ≡ None)
    × (is_refused header.k (item_sizes frames) (moves_of (length (items_in frames)) script) script ≡ true)
Plays header frames script (Err NoMemory) = ⊤
