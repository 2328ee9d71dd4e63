-- The heights of follow one after another: what their lines say, which were told, and which are to come.
use Rattle.std.specs.Prelude.{◌≡◌, ℕ, ◌+◌, List, [], ◌∷◌, ◌++◌, length, slice_get, true, Option, Some, None, IfSome, Vec, if◌then◌else◌}
use Rattle.std.specs.List.{list_any, cons_option, AllByRecursion}
use Rattle.std.specs.Map.{lookup}
use Rattle.std.specs.Option.{option_map}
use Rattle.std.specs.declared.alloc.Global.{Global}
use Rattle.namespace_id.specs.declared.namespaces.Namespace.{Namespace}
use Rattle.data_header.specs.Headers.{Roots}
use Rattle.blob_feed.specs.Feeds.{NamedAnswer, Item, Height, answers_ahead, heights_of, Read}
use Rattle.blob_feed.specs.Followers.{is_name}
use Rattle.blob_feed.specs.Firsts.{first_read}
use Rattle.da_following.specs.declared.heights.UnderWay.{UnderWay}
use Rattle.da_following.specs.declared.heights.Way.{Way}
use Rattle.da_following.specs.Follow.{RunFeed, read_text, places_from, IsFeedText}

-- ---- what lines say

-- how the lines of a namespace at a height go on, by what is had of it
abbrev pub said : Read → List ℕ
said read = read_text (Some read)

-- by the first of these answers that is complete under the header, if one is
abbrev pub first_said : Roots → Namespace → List NamedAnswer → Option (List ℕ)
first_said header name answers = option_map said (first_read header name answers)

-- by what is kept of the height under way, if something is
abbrev pub said_at : UnderWay → Namespace → Option (List ℕ)
said_at height name = option_map (λ (text : Vec ℕ Global). text.items) (lookup (is_name name) height.texts.entries)

-- what is kept of the height under way is, of each of these namespaces, what the lines of a feed say at this height
abbrev pub AreSaid : RunFeed → ℕ → UnderWay → List Namespace → Type 0
AreSaid feed number height names =
    AllByRecursion (λ (name : Namespace). said_at height name ≡ option_map said (feed number name)) names

-- ---- what heights feed

-- what the first complete answer of a height is read as, if there is such a height
abbrev pub read_at : Option Height → Namespace → Option Read
read_at None name = None
read_at (Some height) name = first_read height.header name height.answers

-- what heights feed of these namespaces; of others nothing
abbrev pub fed_by : List Namespace → List Height → RunFeed
fed_by names heights = λ number name. if list_any (is_name name) names then read_at (slice_get heights number) name else None

-- ---- the way through a run

-- the heights that weren't told yet: that under way with its answers so far, and those that are to come
abbrev pub heights_left : Option UnderWay → List NamedAnswer → List Item → List Height
heights_left None before rest = heights_of rest
heights_left (Some height) before rest =
    record { header = height.header; answers = before ++ answers_ahead rest } ∷ heights_of rest

-- what is kept of the height under way, if there is one, is what these answers say of these namespaces
abbrev pub KeepsAnswers : List Namespace → List NamedAnswer → Option UnderWay → Type 0
KeepsAnswers names answers height = IfSome height (λ (h : UnderWay). (name : Namespace) → list_any (is_name name) names ≡ true
    → said_at h name ≡ first_said h.header name answers)

-- the heights of a run that are behind were told, and what is kept of the height under way is what its answers
-- before say of these namespaces
pub record IsOnWay (names : List Namespace) (all : List Height) (way : Way) (rest : List Item) : Type 0 where
  pub behind : List Height
  pub before : List NamedAnswer
  pub parts : all ≡ behind ++ heights_left way.height before rest
  pub number : way.number ≡ length behind
  pub kept : KeepsAnswers names before way.height
  pub told : IsFeedText (fed_by names all) (places_from names 0 (length behind)) way.told

-- how many heights began: those behind, and that under way
abbrev pub begun : Way → ℕ
begun way = way.number + length (cons_option way.height [])
