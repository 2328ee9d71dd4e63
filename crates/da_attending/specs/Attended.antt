-- attend WANTED TALK: what is said to headers and namespace answers that come one after another (docs/FORMATS.md, "Talks").
use Rattle.std.specs.Prelude.{◌≡◌, ℕ, ◌-◌, ◌*◌, min, List, [], ◌∷◌, ◌++◌, length, slice_get, Bool, true, false, Option, Some, None, is_none, if◌then◌else◌, ⊤}
use Rattle.std.specs.List.{filter, filter_map, flat_map, list_any}
use Rattle.namespace_id.specs.declared.namespaces.Namespace.{Namespace}
use Rattle.frame_fields.specs.Fields.{◌>>=◌}
use Rattle.frame_payloads.specs.Payloads.{max_payload}
use Rattle.da_io.specs.Faults.{max_count}
use Rattle.blob_feed.specs.Feeds.{Item, headed, answered, Height, heights_of, Read}
use Rattle.blob_feed.specs.Firsts.{first_read}
use Rattle.blob_feed.specs.Followers.{is_name}
use Rattle.da_wire.specs.Reading.{Raw, value_at}
use Rattle.da_status.specs.declared.status.Status.{Status}
use Rattle.da_following.specs.Follow.{item_of, place_text, read_text, places_from, missing_count, feed_status}
use Rattle.da_following.specs.Heights.{read_at, fed_by}
use Rattle.da_talk.specs.declared.line.Line as line
use Rattle.da_talk.specs.declared.talker.Talker as talker
use Rattle.da_talk.specs.declared.talk_end.TalkEnd.{TalkEnd}
use Rattle.da_talk.specs.Spoken.{HasConversed}

-- ---- frames

-- the header or the namespace answer of the grammar that a frame is, if it is one
abbrev pub item_in : Raw → Option Item
item_in frame = value_at frame.kind frame.payload >>= item_of

-- the headers and answers among frames, in their order
abbrev pub items_of : List Raw → List Item
items_of frames = filter_map item_in frames

-- whether there are headers and answers
abbrev pub has_items : List Item → Bool
has_items [] = false
has_items (first ∷ items) = true

-- whether what a frame is fits behind headers and answers: a header does, and an answer behind a header
abbrev pub fits : List Item → Option Item → Bool
fits items None = false
fits items (Some (headed header)) = true
fits items (Some (answered given)) = has_items items

-- ---- the height under way

-- the height under way behind headers and answers, if one began
abbrev pub height_under_way : List Item → Option Height
height_under_way items = slice_get (heights_of items) (length (heights_of items) - 1)

-- its number
abbrev pub height_number : List Item → ℕ
height_number items = length (heights_of items) - 1

-- what is had of a namespace there so far
abbrev pub had : List Item → Namespace → Option Read
had items name = read_at (height_under_way items) name

-- the namespaces of which nothing is had at a height, if there is one
abbrev pub missing_at : List Namespace → Option Height → List Namespace
missing_at names None = []
missing_at names (Some height) = filter (λ name. is_none (first_read height.header name height.answers)) names

-- ---- lines

-- the lines of a namespace at a height, by what is had of it
abbrev pub height_lines : ℕ → Namespace → Option Read → List ℕ
height_lines number name read = place_text number name ++ read_text read

-- the lines of a namespace of which nothing was had before, and something is now
abbrev pub news : ℕ → Namespace → Option Read → Option Read → List ℕ
news number name None (Some read) = height_lines number name (Some read)
news number name before now = []

-- the lines of the wanted namespaces of which nothing is had at the height under way
abbrev pub height_missing : List Namespace → List Item → List ℕ
height_missing names items = flat_map (λ name. height_lines (height_number items) name None) (missing_at names (height_under_way items))

-- at how many places of all heights nothing is had of a wanted namespace
abbrev pub count_missing : List Namespace → List Item → ℕ
count_missing names items =
    missing_count (fed_by names (heights_of items)) (places_from names 0 (length (heights_of items)))

-- ---- what is due, where these namespaces are wanted

-- the reply to a header or an answer behind others: to a header the missing lines of the height before it, to an answer for a wanted
-- namespace the lines of what came to be had by it
abbrev pub reply_to : List Namespace → List Item → Item → List ℕ
reply_to names items (headed header) = height_missing names items
reply_to names items (answered given) =
    if list_any (is_name given.name) names
    then news (height_number items) given.name (had items given.name) (had (items ++ answered given ∷ []) given.name)
    else []

-- the reply to a frame behind others, which fits
pub record RepliesAttending (names : List Namespace) (frames : List Raw) (frame : Raw) (text : List ℕ) : Type 0 where
  pub item : Item
  pub is : item_in frame ≡ Some item
  pub fit : fits (items_of frames) (Some item) ≡ true
  pub reply : text ≡ reply_to names (items_of frames) item

-- a frame behind others doesn't fit
abbrev pub RefusesAttending : List Raw → Raw → Type 0
RefusesAttending frames frame = fits (items_of frames) (item_in frame) ≡ false

-- the last words behind frames: the missing lines of the last height; the status that goes with them counts those of all heights
pub record EndsAttending (names : List Namespace) (frames : List Raw) (text : List ℕ) (status : Status) : Type 0 where
  pub words : text ≡ height_missing names (items_of frames)
  pub counted : status ≡ feed_status (min (count_missing names (items_of frames)) max_count)

-- ---- talks

-- the most bytes of the missing lines of a height: 105 for each namespace
abbrev pub most_missing_lines : List Namespace → ℕ
most_missing_lines names = 105 * length names

-- what is due in a talk where these namespaces are wanted, for a talker of which no more is seen than the status that goes with
-- its last words
abbrev pub attending : List Namespace → talker.Ghosts Status
attending names = record {
  is_fresh = λ status. ⊤;
  led = λ first now frames. ⊤;
  is_over = λ status. false;
  longest = λ status. max_payload;
  most = λ status. most_missing_lines names;
  takes_memory = λ status. ⊤;
  begins = λ first text. text ≡ [];
  replies = λ first frames frame text. RepliesAttending names frames frame text;
  refuses = λ first frames frame. RefusesAttending frames frame;
  decides = λ first now frames text. ⊥;
  ends = λ first now frames text. EndsAttending names frames text now;
}

-- a talk about wanted namespaces: what was said to its frames and when, how it ended, and the status that goes with its last words
abbrev pub Attends : {L : Type 0} → line.Ghosts L → L → L → List Namespace → Status → TalkEnd → Type 0
Attends l old new names status ended = HasConversed l (attending names) old new status status ended
