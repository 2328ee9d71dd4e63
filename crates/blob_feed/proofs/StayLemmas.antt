-- What a height has of a namespace stays, whatever is handed later.
use Rattle.std.proofs.Common.{◌≡◌, ◌∙◌, ℕ, zero, suc, List, [], ◌∷◌, ◌++◌, Option, Some, None, refl, sym, ap, subst, append_assoc}
use Rattle.std.specs.List.{slice_get}
use Rattle.namespace_id.specs.declared.namespaces.Namespace.{Namespace}
use Rattle.data_header.specs.Headers.{Roots}
use Rattle.axis_roots.specs.declared.answers.NsEntry.{NsEntry}
use Rattle.blob_feed.specs.Feeds.{NamedAnswer, Item, headed, answered, Height, answers_ahead, heights_of, IsFirstComplete, Read, IsFedIn, FeedsAt}
use Rattle.blob_feed.proofs.FedLemmas.{given_for}

-- the answers in front of the next header are more, where more is handed
record MoreAhead (items later : List Item) : Type 0 where
  extra : List NamedAnswer
  is : answers_ahead (items ++ later) ≡ answers_ahead items ++ extra

-- those that are handed later come behind those that are there
more_ahead : (items later : List Item) → MoreAhead items later
unfolding answers_ahead
more_ahead [] later = record { extra = answers_ahead later; is = refl }
more_ahead (headed header ∷ items) later = record { extra = []; is = refl }
more_ahead (answered given ∷ items) later =
    let rest = more_ahead items later in
    record { extra = rest.extra; is = ap (λ (l : List NamedAnswer). given ∷ l) rest.is }

-- a height with more answers
abbrev with_more : Height → List NamedAnswer → Height
with_more height extra = record { header = height.header; answers = height.answers ++ extra }

-- a height that stays, with more answers
record SameHeight (items later : List Item) (number : ℕ) (height : Height) : Type 0 where
  extra : List NamedAnswer
  is : slice_get (heights_of (items ++ later)) number ≡ Some (with_more height extra)

-- the height that a header begins
abbrev begun : Roots → List NamedAnswer → Height
begun header answers = record { header = header; answers = answers }

-- so each height stays
same_height : (items later : List Item) (number : ℕ) (height : Height) → slice_get (heights_of items) number ≡ Some height
    → SameHeight items later number height
unfolding heights_of
same_height [] later number height e = absurd cc
same_height (answered given ∷ items) later number height e =
    let rest = same_height items later number height e in record { extra = rest.extra; is = rest.is }
same_height (headed header ∷ items) later zero height e =
    let here : begun header (answers_ahead items) ≡ height = cc in
    let ahead = more_ahead items later in
    record {
      extra = ahead.extra;
      is = ap (λ (l : List NamedAnswer). Some (begun header l)) ahead.is
          ∙ ap (λ (h : Height). Some (with_more h ahead.extra)) here;
    }
same_height (headed header ∷ items) later (suc number) height e =
    let rest = same_height items later number height e in record { extra = rest.extra; is = rest.is }

-- the first complete answer stays the first
first_stays : (header : Roots) (name : Namespace) (answers extra : List NamedAnswer) (answer : List NsEntry)
    → IsFirstComplete header name answers answer → IsFirstComplete header name (answers ++ extra) answer
first_stays header name answers extra answer first = record {
  before = first.before;
  after = first.after ++ extra;
  parts = ap (λ (l : List NamedAnswer). l ++ extra) first.parts
      ∙ append_assoc first.before (given_for name answer ∷ first.after) extra;
  complete = first.complete;
  none = first.none;
}

module _ (wants : Namespace → Type 0) (items later : List Item) (number : ℕ) (name : Namespace) (read : Read) where
  -- what a height has stays, by that height
  stays_at : (height : Option Height) → slice_get (heights_of items) number ≡ height → IsFedIn wants height name (Some read)
      → FeedsAt wants (items ++ later) number name (Some read)
  stays_at None e fed = absurd cc
  stays_at (Some height) e (wanted, blob, (answer, first, is)) =
      let same = same_height items later number height e in
      subst (λ (o : Option Height). IsFedIn wants o name (Some read)) (sym same.is)
      (wanted, blob, (answer, first_stays height.header name height.answers same.extra answer first, is))

  -- what is fed stays
  pub fed_stays : FeedsAt wants items number name (Some read) → FeedsAt wants (items ++ later) number name (Some read)
  fed_stays fed = stays_at (slice_get (heights_of items) number) refl fed
