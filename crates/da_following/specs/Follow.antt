-- follow WANTED ANSWERS: the blobs of namespaces from height to height, complete.
use Rattle.std.specs.Prelude.{◌≡◌, ℕ, ◌+◌, ◌<◌, ◌==◌, List, [], ◌∷◌, ◌++◌, length, map, codes, decimal, slice_index, Bool, not, Option, Some, None, is_some, IsSome, Ok, Err, if◌then◌else◌, MatchOption}
use Rattle.std.specs.List.{fold, filter, filter_map, flat_map, range_with_len, Contains}
use Rattle.std.specs.BTreeSet.{insert_key}
use Rattle.hex.specs.Hex.{encode_lower}
use Rattle.sha2.specs.Sha256.{sha256}
use Rattle.namespace_id.specs.declared.namespaces.Namespace as names
use Rattle.namespace_id.specs.Names.{namespace_cmp, is_blob_namespace}
use Rattle.share_split.specs.declared.joining.JoinError.{JoinError}
use Rattle.share_split.specs.Blobs.{NamedBytes}
use Rattle.blob_feed.specs.Feeds.{Item, headed, answered, heights_of, Read, IsFeedOf}
use Rattle.da_wire.specs.declared.frames.Frame.{Frame}
use Rattle.da_wire.specs.declared.frames.Frame.TheVariants.{Header, Names}
use Rattle.da_wire.specs.Spelling.{header_kind, names_kind, request_kind}
use Rattle.da_wire.specs.Values.{values_of, bad_value}
use Rattle.da_status.specs.declared.status.Asked.TheVariants.{At}
use Rattle.da_status.specs.declared.status.Status.{Status}
use Rattle.da_status.specs.declared.status.Status.TheVariants.{Done, BadRequest, Waiting}
use Rattle.da_status.specs.Notes.{join_number, join_share}
use Rattle.da_status.specs.Outcome.{Relation, Refuses}
use Rattle.da_following.specs.declared.feed_lines.FeedText.{FeedText}
use Rattle.da_files.specs.Contents.{file_of}
use Rattle.da_files.specs.Requests.{namespaces_in, failing_from}

-- ---- WANTED

-- WANTED, the first file of follow
abbrev pub wanted_file : List (List ℕ) → List ℕ
wanted_file files = file_of files 0

-- whether a namespace can be followed: it is one of a blob
abbrev pub is_followed : names.Namespace → Bool
is_followed name = is_blob_namespace name.0

-- namespaces, each once, ascending
abbrev pub each_once : List names.Namespace → List names.Namespace
each_once wanted = fold (insert_key namespace_cmp) [] wanted

-- ---- ANSWERS

-- ANSWERS, the second file of follow
abbrev pub answers_file : List (List ℕ) → List ℕ
answers_file files = file_of files 1

-- the kinds of the frames of ANSWERS
abbrev pub feed_kinds : List ℕ
feed_kinds = header_kind ∷ names_kind ∷ []

-- what a frame is for a follower: the header of the next height, or an answer
abbrev pub item_of : Frame → Option Item
item_of (Header header) = Some (headed header)
item_of (Names name answer) = Some (answered (record { name = name; answer = answer }))
item_of frame = None

-- the headers and answers in a file
abbrev pub items_in : List ℕ → List Item
items_in bytes = filter_map item_of (values_of feed_kinds bytes)

-- whether bytes begin with an answer
abbrev pub begins_with_answer : List ℕ → Bool
begins_with_answer bytes = slice_index bytes 0 == names_kind

-- where a file isn't a list of headers and answers that begins with a header, the offset of the first frame that
-- isn't as it has to be
abbrev pub bad_feed : List ℕ → Option ℕ
bad_feed bytes = if begins_with_answer bytes then Some 0 else bad_value feed_kinds bytes

-- ---- lines

-- what each height, counted from 0, has of each namespace
abbrev pub RunFeed : Type 0
RunFeed = ℕ → names.Namespace → Option Read

-- the line of a blob: how many bytes it has, and their SHA-256 value
abbrev pub blob_line : NamedBytes → List ℕ
blob_line blob =
    codes "blob " ++ decimal (length blob.bytes) ++ codes " " ++ encode_lower (sha256 blob.bytes) ++ codes "\n"

-- how the lines of a namespace at a height begin
abbrev pub place_text : ℕ → names.Namespace → List ℕ
place_text number name = codes "height " ++ decimal number ++ codes " namespace " ++ encode_lower name.0

-- how they go on where there are blobs: with their number
abbrev pub count_text : ℕ → List ℕ
count_text count = codes " blobs " ++ decimal count ++ codes "\n"

-- where the shares are none: with the number of the fault, and the share that it names
abbrev pub fault_text : JoinError → List ℕ
fault_text why = codes " malformed " ++ decimal (join_number why) ++ codes " " ++ decimal (join_share why) ++ codes "\n"

-- how they go on: with the number of the blobs, and a line for each; with the fault of the shares; or that there is
-- nothing
abbrev pub read_text : Option Read → List ℕ
read_text (Some (Ok blobs)) = count_text (length blobs) ++ flat_map blob_line blobs
read_text (Some (Err why)) = fault_text why
read_text None = codes " missing\n"

-- a height and a namespace
abbrev pub FeedPlace : Type 0
FeedPlace = ℕ × names.Namespace

-- a height with each of these namespaces
abbrev pub places_at : List names.Namespace → ℕ → List FeedPlace
places_at wanted number = map (λ name. (number, name)) wanted

-- each height from a first one on, so many, with each of these namespaces
abbrev pub places_from : List names.Namespace → ℕ → ℕ → List FeedPlace
places_from wanted first count = flat_map (places_at wanted) (range_with_len first count)

-- the lines of places, in their order
abbrev pub feed_lines : RunFeed → List FeedPlace → List ℕ
feed_lines feed places = flat_map (λ place. place_text place.0 place.1 ++ read_text (feed place.0 place.1)) places

-- whether nothing is had at a place
abbrev pub is_place_missing : RunFeed → FeedPlace → Bool
is_place_missing feed place = not (is_some (feed place.0 place.1))

-- at how many places nothing is had
abbrev pub missing_count : RunFeed → List FeedPlace → ℕ
missing_count feed places = length (filter (is_place_missing feed) places)

-- these are the lines of places, and of so many nothing is had
pub record IsFeedText (feed : RunFeed) (places : List FeedPlace) (told : FeedText) : Type 0 where
  pub lines : told.text.items ≡ feed_lines feed places
  pub missing : told.missing ≡ missing_count feed places

-- the lines of places were added
pub record HasFeedMore (feed : RunFeed) (places : List FeedPlace) (old new : FeedText) : Type 0 where
  pub lines : new.text.items ≡ old.text.items ++ feed_lines feed places
  pub missing : new.missing ≡ old.missing + missing_count feed places

-- ---- the command

-- the places of a run: each height with each of the wanted namespaces once, ascending
abbrev pub run_places : List names.Namespace → List Item → List FeedPlace
run_places wanted items = places_from (each_once wanted) 0 (length (heights_of items))

-- at each of so many heights something is had of each wanted namespace
abbrev pub HasAll : RunFeed → List names.Namespace → ℕ → Type 0
HasAll feed wanted count =
    (number : ℕ) (name : names.Namespace) → number < count → Contains wanted name → IsSome (feed number name)

-- the status of lines of which so many say that there is nothing
abbrev pub feed_status : ℕ → Status
feed_status missing = if missing == 0 then Done else Waiting missing

-- what is written for headers and answers: for each height in its order, and at each for each of the wanted
-- namespaces once, ascending, the lines of what the feed of the wanted namespaces has there
abbrev pub Follows : List names.Namespace → List Item → Relation
Follows wanted items w status = (feed : RunFeed) × IsFeedOf (Contains wanted) items feed
    × (w ≡ feed_lines feed (run_places wanted items)) × (status ≡ feed_status (missing_count feed (run_places wanted items)))

-- what is answered: where all wanted namespaces can be followed, what is written; else the first that can't is refused
abbrev pub FollowsAsked : List names.Namespace → List Item → Relation
FollowsAsked wanted items w status = MatchOption (failing_from is_followed 0 wanted) (Follows wanted items w status)
    (λ i. Refuses (BadRequest (At i)) w status)

-- WANTED is a list of requests for namespaces, and ANSWERS one of headers and answers that begins with a header
abbrev pub follow_judged : List (List ℕ) → List (Option ℕ)
follow_judged files = bad_value (request_kind ∷ []) (wanted_file files) ∷ bad_feed (answers_file files) ∷ []

-- what follow answers to such files
abbrev pub FollowOf : List (List ℕ) → Relation
FollowOf files = FollowsAsked (namespaces_in (wanted_file files)) (items_in (answers_file files))
