-- What there is of a namespace at a height whose header is that of a square.
use Rattle.std.proofs.Common.{◌≡◌, ◌∙◌, ℕ, List, [], ◌∷◌, map, true, Option, Some, None, Ok, slice_get, sym, ap, subst, inl, inr}
use Rattle.std.specs.Prelude.{◌⊎◌, IfSome}
use Rattle.std.specs.List.{AllByRecursion}
use Rattle.std.specs.Option.{option_map}
use Rattle.namespace_id.specs.declared.cells.Cell.{Cell}
use Rattle.namespace_id.specs.declared.namespaces.Namespace.{Namespace}
use Rattle.namespace_id.specs.declared.shares.Share.{Share}
use Rattle.namespace_id.specs.Names.{IsNamespace, is_blob_namespace}
use Rattle.share_split.specs.Blobs.{NamedBytes}
use Rattle.share_split.specs.Walks.{blobs_joined}
use Rattle.data_header.specs.Headers.{Roots}
use Rattle.square_layout.specs.Blocks.{SquareShares}
use Rattle.axis_roots.specs.declared.answers.NsEntry.{NsEntry}
use Rattle.axis_roots.specs.Answers.{AreEntries}
use Rattle.axis_roots.specs.Grids.{IsHeaderOf}
use Rattle.square_serve.specs.Answers.{IsComplete}
use Rattle.square_serve.specs.Own.{AnswerNames, IsOwnAnswer}
use Rattle.blob_feed.specs.Feeds.{NamedAnswer, Item, headed, answered, IsNamedAnswer, AreItems, Height, answers_ahead, heights_of, header_at, IsFirstComplete, IsFirstIn, IsFedIn, FeedsAt, Read, shares_shown, shares_in, FirstNames}
use Rattle.blob_feed.proofs.EachLemmas.{each_at, each_between}
use Rattle.blob_feed.proofs.FedLemmas.{given_for}
use Rattle.blob_feed.proofs.StandLemmas.{same_header}

-- ---- the answers of a height

-- each answer in front of the next header is one
ahead_are : (items : List Item) → AreItems items → AllByRecursion IsNamedAnswer (answers_ahead items)
unfolding answers_ahead
ahead_are [] are = tt
ahead_are (headed header ∷ items) are = tt
ahead_are (answered given ∷ items) are = (are.0, ahead_are items are.1)

-- each answer of a height is one
abbrev AreAnswers : Height → Type 0
AreAnswers height = AllByRecursion IsNamedAnswer height.answers

-- so it is at each height
heights_are : (items : List Item) → AreItems items → AllByRecursion AreAnswers (heights_of items)
unfolding heights_of
heights_are [] are = tt
heights_are (headed header ∷ items) are = (ahead_are items are.1, heights_are items are.1)
heights_are (answered given ∷ items) are = heights_are items are.1

-- ---- what it has of a namespace

-- this is of a blob
fed_blob : (wants : Namespace → Type 0) (height : Option Height) (name : Namespace) (read : Read)
    → IsFedIn wants height name (Some read) → is_blob_namespace name.0 ≡ true
fed_blob wants None name read fed = absurd cc
fed_blob wants (Some height) name read (wanted, blob, first) = blob

module _ (law : (header : Roots) (name : Namespace) (answer : List NsEntry) → IsNamespace name → AreEntries answer
    → IsComplete header name answer → IsOwnAnswer header name answer) where
  -- a complete answer is read as the square's shares of the namespace, or it and the square name a collision
  own_answer : (header : Roots) (name : Namespace) (answer : List NsEntry) (square : SquareShares)
      → IsNamedAnswer (given_for name answer) → IsComplete header name answer → IsHeaderOf header square
      → (blobs_joined (shares_shown answer) ≡ blobs_joined (shares_in square name)) ⊎ AnswerNames name square answer
  own_answer header name answer square given complete own =
      elim (law header name answer given.name given.entries complete square own) [
        | inl all ↦ inl (ap (λ (l : List (Cell × Share)). blobs_joined (map (λ (p : Cell × Share). p.1) l)) all.shares)
        | inr clash ↦ inr clash
      ]

  -- so is the first complete one of a height
  own_height : (height : Height) (name : Namespace) (answer : List NsEntry) (square : SquareShares)
      → AreAnswers height → IsFirstComplete height.header name height.answers answer → IsHeaderOf height.header square
      → (blobs_joined (shares_shown answer) ≡ blobs_joined (shares_in square name)) ⊎ AnswerNames name square answer
  own_height height name answer square are first own = own_answer height.header name answer square
      (each_between IsNamedAnswer first.before (given_for name answer) first.after
      (subst (λ (l : List NamedAnswer). AllByRecursion IsNamedAnswer l) first.parts are)) first.complete own

  -- what there is at a height, if there is such a height
  own_in : (wants : Namespace → Type 0) (height : Option Height) (name : Namespace) (read : Read) (header : Roots)
      (square : SquareShares) → IfSome height AreAnswers → IsFedIn wants height name (Some read)
      → option_map (λ (h : Height). h.header) height ≡ Some header → IsHeaderOf header square
      → (read ≡ blobs_joined (shares_in square name))
      ⊎ ((answer : List NsEntry) × IsFirstIn height name answer × AnswerNames name square answer)
  own_in wants None name read header square are fed has own = absurd cc
  own_in wants (Some height) name read header square are (wanted, blob, (answer, first, is)) has own =
      elim (own_height height name answer square are first (subst (λ (h : Roots). IsHeaderOf h square)
      (sym (same_header height.header header has)) own)) [
        | inl same ↦ inl (is ∙ same)
        | inr clash ↦ inr (answer, first, clash)
      ]

  -- what a list of headers and answers feeds
  pub own_at : (wants : Namespace → Type 0) (items : List Item) (number : ℕ) (name : Namespace) (read : Read)
      (header : Roots) (square : SquareShares) → AreItems items → FeedsAt wants items number name (Some read)
      → header_at items number ≡ Some header → IsHeaderOf header square
      → (read ≡ blobs_joined (shares_in square name)) ⊎ FirstNames items number name square
  own_at wants items number name read header square are fed has own =
      own_in wants (slice_get (heights_of items) number) name read header square
      (each_at AreAnswers (heights_of items) (heights_are items are) number) fed has own

  -- and where the square's shares of a namespace of a blob are read as some blobs, it is these
  pub blobs_at : (wants : Namespace → Type 0) (items : List Item) (number : ℕ) (name : Namespace) (read : Read)
      (header : Roots) (square : SquareShares) (blobs : List NamedBytes) → AreItems items
      → FeedsAt wants items number name (Some read) → header_at items number ≡ Some header → IsHeaderOf header square
      → (is_blob_namespace name.0 ≡ true → blobs_joined (shares_in square name) ≡ Ok blobs)
      → (read ≡ Ok blobs) ⊎ FirstNames items number name square
  blobs_at wants items number name read header square blobs are fed has own joined =
      elim (own_at wants items number name read header square are fed has own) [
        | inl same ↦ inl (same ∙ joined (fed_blob wants (slice_get (heights_of items) number) name read fed))
        | inr clash ↦ inr clash
      ]
