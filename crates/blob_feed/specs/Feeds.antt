-- What a follower of namespaces has of each height (docs/RULES.md, "Following namespaces").
use Rattle.std.specs.Prelude.{◌≡◌, ℕ, ◌<◌, ◌^◌, List, [], ◌∷◌, ◌++◌, length, map, slice_get, true, Option, Some, None, Result, Ok, Err, ⊤}
use Rattle.std.specs.List.{Contains, AllByRecursion}
use Rattle.std.specs.Option.{option_map}
use Rattle.namespace_id.specs.declared.namespaces.Namespace.{Namespace}
use Rattle.namespace_id.specs.declared.shares.Share.{Share}
use Rattle.namespace_id.specs.Names.{IsNamespace, is_blob_namespace}
use Rattle.share_split.specs.declared.joining.JoinError.{JoinError}
use Rattle.share_split.specs.Blobs.{NamedBytes}
use Rattle.share_split.specs.Walks.{blobs_joined}
use Rattle.data_header.specs.Headers.{Roots}
use Rattle.axis_roots.specs.declared.answers.Found.{Found}
use Rattle.axis_roots.specs.declared.answers.Found.TheVariants.{Range, Absence}
use Rattle.axis_roots.specs.declared.answers.NsEntry.{NsEntry}
use Rattle.axis_roots.specs.Answers.{AreEntries}
use Rattle.square_layout.specs.Blocks.{SquareShares}
use Rattle.square_serve.specs.Shares.{namespace_shares}
use Rattle.square_serve.specs.Answers.{shown, IsComplete}
use Rattle.square_serve.specs.Own.{AnswerNames}
use Rattle.blob_feed.specs.declared.entries.Entry.{Entry}
use Rattle.blob_feed.specs.declared.entries.Entry.TheVariants.{Blobs, Malformed}
use Rattle.blob_feed.specs.declared.entries.Taken.{Taken}
use Rattle.blob_feed.specs.declared.entries.Taken.TheVariants as taken

-- ---- what is handed to a follower

-- an answer with the namespace that it is for
pub record NamedAnswer : Type 0 where
  pub name : Namespace
  pub answer : List NsEntry

-- the header of the next height, or an answer at the last one
pub data Item : Type 0 where
  headed : (header : Roots) → Item
  answered : (given : NamedAnswer) → Item

-- an answer is for a namespace, and has entries
pub record IsNamedAnswer (given : NamedAnswer) : Type 0 where
  pub name : IsNamespace given.name
  pub entries : AreEntries given.answer

-- a header, or such an answer
abbrev pub IsItem : Item → Type 0
IsItem (headed header) = ⊤
IsItem (answered given) = IsNamedAnswer given

-- each of these is one
abbrev pub AreItems : List Item → Type 0
AreItems items = AllByRecursion IsItem items

-- ---- heights

-- a height: its header, and the answers between it and the next one
pub record Height : Type 0 where
  pub header : Roots
  pub answers : List NamedAnswer

-- a height with one more answer
abbrev pub with_answer : Height → NamedAnswer → Height
with_answer height given = record { header = height.header; answers = height.answers ++ given ∷ [] }

-- the answers in front of the next header
unfoldable pub answers_ahead : List Item → List NamedAnswer
answers_ahead [] = []
answers_ahead (headed header ∷ items) = []
answers_ahead (answered given ∷ items) = given ∷ answers_ahead items

-- the heights of a list of headers and answers; answers in front of the first header count for none
unfoldable pub heights_of : List Item → List Height
heights_of [] = []
heights_of (headed header ∷ items) = record { header = header; answers = answers_ahead items } ∷ heights_of items
heights_of (answered given ∷ items) = heights_of items

-- the header of a height, counted from 0, if there is such a height
abbrev pub header_at : List Item → ℕ → Option Roots
header_at items number = option_map (λ h. h.header) (slice_get (heights_of items) number)

-- ---- the first complete answer

-- no answer for the namespace is complete under the header
abbrev pub NoneComplete : Roots → Namespace → List NamedAnswer → Type 0
NoneComplete header name answers = (answer : List NsEntry)
    → Contains answers (record { name = name; answer = answer }) → IsComplete header name answer → ⊥

-- the first answer for the namespace that is complete under the header
pub record IsFirstComplete (header : Roots) (name : Namespace) (answers : List NamedAnswer) (answer : List NsEntry)
    : Type 0 where
  pub before : List NamedAnswer
  pub after : List NamedAnswer
  pub parts : answers ≡ before ++ record { name = name; answer = answer } ∷ after
  pub complete : IsComplete header name answer
  pub none : NoneComplete header name before

-- the first complete one at a height, if there is such a height
abbrev pub IsFirstIn : Option Height → Namespace → List NsEntry → Type 0
IsFirstIn None name answer = ⊥
IsFirstIn (Some height) name answer = IsFirstComplete height.header name height.answers answer

-- ---- the feed

-- the shares that an answer shows, in their order
abbrev pub shares_shown : List NsEntry → List Share
shares_shown answer = map (λ p. p.1) (shown answer)

-- the shares of what is found in a row
abbrev pub shares_found : Found → List Share
shares_found (Range start shares nodes) = shares
shares_found (Absence pos leaf nodes) = []

-- what shares are read as: their blobs, or their first fault
abbrev pub Read : Type 0
Read = Result (List NamedBytes) JoinError

-- what a height has of a namespace: where this is one of a blob and wanted, what the first complete answer's shares
-- are read as; nothing where there is none
abbrev pub IsFedAt : (Namespace → Type 0) → Height → Namespace → Option Read → Type 0
IsFedAt wants height name None =
    wants name → is_blob_namespace name.0 ≡ true → NoneComplete height.header name height.answers
IsFedAt wants height name (Some read) = wants name × (is_blob_namespace name.0 ≡ true)
    × ((answer : List NsEntry) × IsFirstComplete height.header name height.answers answer
    × (read ≡ blobs_joined (shares_shown answer)))

-- what it has, if there is such a height
abbrev pub IsFedIn : (Namespace → Type 0) → Option Height → Namespace → Option Read → Type 0
IsFedIn wants None name read = read ≡ None
IsFedIn wants (Some height) name read = IsFedAt wants height name read

-- what a list of headers and answers feeds of a namespace at a height, counted from 0, under what is wanted
abbrev pub FeedsAt : (Namespace → Type 0) → List Item → ℕ → Namespace → Option Read → Type 0
FeedsAt wants items number name read = IsFedIn wants (slice_get (heights_of items) number) name read

-- the feed of a list of headers and answers: what it has of each namespace at each height
abbrev pub IsFeedOf : (Namespace → Type 0) → List Item → (ℕ → Namespace → Option Read) → Type 0
IsFeedOf wants items feed = (number : ℕ) (name : Namespace) → FeedsAt wants items number name (feed number name)

-- ---- entries

-- what an entry was read as
abbrev pub read_of : Entry → Read
read_of (Blobs blobs) = Ok blobs.items
read_of (Malformed why) = Err why

-- what an answer brought whose shares are read so
abbrev pub brought_by : Read → Taken
brought_by (Ok blobs) = taken.Blobs (length blobs)
brought_by (Err why) = taken.Malformed why

-- the number of what shares are read as has four bytes
abbrev pub IsCounted : Read → Type 0
IsCounted (Ok blobs) = length blobs < 2 ^ 32
IsCounted (Err why) = ⊤

-- ---- squares

-- the shares of a namespace in a square, row-major
abbrev pub shares_in : SquareShares → Namespace → List Share
shares_in square name = map (λ p. p.1) (namespace_shares square name)

-- the first complete answer for a namespace at a height and a square name a collision
abbrev pub FirstNames : List Item → ℕ → Namespace → SquareShares → Type 0
FirstNames items number name square = (answer : List NsEntry)
    × IsFirstIn (slice_get (heights_of items) number) name answer × AnswerNames name square answer
