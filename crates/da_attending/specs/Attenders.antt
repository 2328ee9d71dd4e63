-- Attenders: what they keep of the headers and answers that they were handed.
use Rattle.std.specs.Prelude.{◌≡◌, ℕ, ◌+◌, ◌≤◌, min, List, [], ◌∷◌, ◌++◌, length, take, Bool, true, not, ◌&&◌, Option, Some, None, is_some, if◌then◌else◌}
use Rattle.std.specs.List.{list_any, filter}
use Rattle.std.specs.Option.{option_map}
use Rattle.namespace_id.specs.declared.namespaces.Namespace.{Namespace}
use Rattle.data_header.specs.Headers.{Roots}
use Rattle.da_io.specs.Faults.{max_count}
use Rattle.blob_feed.specs.Feeds.{Item, headed, answered, NamedAnswer, Height, heights_of}
use Rattle.blob_feed.specs.Followers.{is_name}
use Rattle.frame_payloads.specs.kinds.Header.{header_at}
use Rattle.frame_payloads.specs.kinds.Names.{names_at}
use Rattle.da_wire.specs.Reading.{Raw}
use Rattle.da_status.specs.declared.status.Status.{Status}
use Rattle.da_following.specs.Follow.{places_from, missing_count}
use Rattle.da_following.specs.Heights.{first_said, fed_by}
use Rattle.da_attending.specs.declared.handed.Handed.{Handed}
use Rattle.da_attending.specs.declared.handed.Handed.TheVariants.{Header, Answer}
use Rattle.da_attending.specs.Attended.{items_of, fits, height_under_way, height_number, had, reply_to}

-- ---- frames

-- the header whose payload the bytes are, if they are one
abbrev pub header_item : List ℕ → Option Item
header_item payload = option_map headed (header_at payload)

-- the answer whose payload they are
abbrev pub answer_item : List ℕ → Option Item
answer_item payload = option_map (λ names. answered (record { name = names.0; answer = names.1 })) (names_at payload)

-- the header or the answer that a frame was read as
abbrev pub item_handed : Handed → Item
item_handed (Header header) = headed header
item_handed (Answer name answer) = answered (record { name = name; answer = answer })

-- ---- namespaces

-- whether a namespace is one of these
abbrev pub is_listed : List Namespace → Namespace → Bool
is_listed names name = list_any (is_name name) names

-- the namespaces that aren't known
abbrev pub unknown : List Namespace → List Namespace → List Namespace
unknown known names = filter (λ name. not (is_listed known name)) names

-- ---- heights

-- the heights before the one under way
abbrev pub behind : List Item → List Height
behind items = take (height_number items) (heights_of items)

-- at how many places of heights nothing is had of these namespaces
abbrev pub places_missing : List Namespace → List Height → ℕ
places_missing names heights = missing_count (fed_by names heights) (places_from names 0 (length heights))

-- ---- attenders

-- an attender as contracts see it: the wanted namespaces, those of which something is had at the height under way, its header, if
-- one began, how many heights began, at how many places of those behind nothing is had, and the status that goes with its last words
pub record AttendParts : Type 0 where
  pub names : List Namespace
  pub known : List Namespace
  pub header : Option Roots
  pub heights : ℕ
  pub missing : ℕ
  pub status : Status

-- nothing was said to it yet
pub record IsFreshAttender (attender : AttendParts) : Type 0 where
  pub known : attender.known ≡ []
  pub header : attender.header ≡ None
  pub heights : attender.heights ≡ 0
  pub missing : attender.missing ≡ 0

-- an attender stands for the headers and answers that it was handed, which begin with a header if there are some
pub record AttenderStands (attender : AttendParts) (items : List Item) : Type 0 where
  pub led : heights_of items ≡ [] → items ≡ []
  pub header : attender.header ≡ option_map (λ height. height.header) (height_under_way items)
  pub heights : attender.heights ≡ length (heights_of items)
  pub known : (name : Namespace) → is_listed attender.names name ≡ true → is_listed attender.known name ≡ is_some (had items name)
  pub missing : attender.missing ≡ min (places_missing attender.names (behind items)) max_count

-- from the first attender on these frames led to the second: it stands for their headers and answers
pub record HasTaken (first now : AttendParts) (frames : List Raw) : Type 0 where
  pub names : now.names ≡ first.names
  pub stands : AttenderStands now (items_of frames)

-- how the lines of a namespace go on of which something comes to be had by an answer under a header: none where it isn't wanted or
-- something is had already
abbrev pub new_text : AttendParts → Roots → NamedAnswer → Option (List ℕ)
new_text attender header given =
    if is_listed attender.names given.name && not (is_listed attender.known given.name)
    then first_said header given.name (given ∷ [])
    else None

-- an attender took a header or an answer that fits behind those for which it stood: it stands for it too, and what is due to it was
-- written
pub record HasHeard (old new : AttendParts) (item : Item) (text : List ℕ) : Type 0 where
  pub names : new.names ≡ old.names
  pub fit : (items : List Item) → AttenderStands old items → fits items (Some item) ≡ true
  pub stands : (items : List Item) → AttenderStands old items → length (heights_of items) + 1 ≤ max_count → AttenderStands new (items ++ item ∷ [])
  pub reply : (items : List Item) → AttenderStands old items → text ≡ reply_to old.names items item
