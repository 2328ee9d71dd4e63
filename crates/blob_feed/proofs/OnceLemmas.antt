-- There is one first complete answer, and one feed.
use Rattle.std.proofs.Common.{◌≡◌, ◌∙◌, suc, List, [], ◌∷◌, ◌++◌, Option, Some, None, refl, sym, ap, subst, arith}
use Rattle.std.specs.List.{Contains}
use Rattle.std.proofs.lemmas.List.Elements.{Contains-append_right}
use Rattle.namespace_id.specs.declared.namespaces.Namespace.{Namespace}
use Rattle.share_split.specs.Walks.{blobs_joined}
use Rattle.data_header.specs.Headers.{Roots}
use Rattle.axis_roots.specs.declared.answers.NsEntry.{NsEntry}
use Rattle.square_serve.specs.Answers.{IsComplete}
use Rattle.blob_feed.specs.Feeds.{NamedAnswer, Height, NoneComplete, IsFirstComplete, IsFedIn, Read, shares_shown}
use Rattle.blob_feed.proofs.FedLemmas.{given_for, same_answer}

-- the first of a list is in it
first_in : (given : NamedAnswer) (answers : List NamedAnswer) → Contains (given ∷ answers) given
first_in given answers = (0, omega arith, refl)

-- and each behind it
later_in : (given other : NamedAnswer) (answers : List NamedAnswer) → Contains answers other
    → Contains (given ∷ answers) other
later_in given other answers (i, below, is) = (suc i, omega (arith, below), is)

module _ (header : Roots) (name : Namespace) where
  -- none behind the first is complete where none is
  none_behind : (given : NamedAnswer) (answers : List NamedAnswer) → NoneComplete header name (given ∷ answers)
      → NoneComplete header name answers
  none_behind given answers none = λ answer at. none answer (later_in given (given_for name answer) answers at)

  -- and the first isn't
  none_first : (given : NamedAnswer) (answers : List NamedAnswer) (answer : List NsEntry)
      → given_for name answer ≡ given → NoneComplete header name (given ∷ answers) → IsComplete header name answer → ⊥
  none_first given answers answer is none = none answer
      (subst (λ (g : NamedAnswer). Contains (given ∷ answers) g) (sym is) (first_in given answers))

  -- the first complete answer of one list that is parted twice
  first_of_split : (a b : List NsEntry) (before after front back : List NamedAnswer)
      → before ++ given_for name a ∷ after ≡ front ++ given_for name b ∷ back
      → NoneComplete header name before → NoneComplete header name front
      → IsComplete header name a → IsComplete header name b → a ≡ b
  first_of_split a b [] after [] back e none other ha hb =
      let here : given_for name a ≡ given_for name b = cc in same_answer name name a b here
  first_of_split a b [] after (y ∷ front) back e none other ha hb =
      let here : given_for name a ≡ y = cc in absurd (none_first y front a here other ha)
  first_of_split a b (x ∷ before) after [] back e none other ha hb =
      let here : given_for name b ≡ x = cc in absurd (none_first x before b here none hb)
  first_of_split a b (x ∷ before) after (y ∷ front) back e none other ha hb =
      let rest : before ++ given_for name a ∷ after ≡ front ++ given_for name b ∷ back = cc in
      first_of_split a b before after front back rest (none_behind x before none) (none_behind y front other) ha hb

  -- two answers that are the first complete one are one
  first_once : (answers : List NamedAnswer) (a b : List NsEntry) → IsFirstComplete header name answers a
      → IsFirstComplete header name answers b → a ≡ b
  first_once answers a b one other = first_of_split a b one.before one.after other.before other.after
      (sym one.parts ∙ other.parts) one.none other.none one.complete other.complete

  -- where one is complete, one is
  some_complete : (answers : List NamedAnswer) (a : List NsEntry) → IsFirstComplete header name answers a
      → NoneComplete header name answers → ⊥
  some_complete answers a first none = none a (subst (λ (l : List NamedAnswer). Contains l (given_for name a))
      (sym first.parts) (Contains-append_right first.before (given_for name a ∷ first.after) (given_for name a)
      (first_in (given_for name a) first.after))) first.complete

module _ (wants : Namespace → Type 0) where
  -- a height has one thing of a namespace
  pub fed_once : (height : Option Height) (name : Namespace) (one other : Option Read) → IsFedIn wants height name one
      → IsFedIn wants height name other → one ≡ other
  fed_once None name one other a b = a ∙ sym b
  fed_once (Some height) name None None a b = refl
  fed_once (Some height) name None (Some read) none (wanted, blob, (answer, first, is)) =
      absurd (some_complete height.header name height.answers answer first (none wanted blob))
  fed_once (Some height) name (Some read) None (wanted, blob, (answer, first, is)) none =
      absurd (some_complete height.header name height.answers answer first (none wanted blob))
  fed_once (Some height) name (Some one) (Some other) (_, _, (a, first, is)) (_, _, (b, second, was)) =
      ap (λ (r : Read). Some r) (is
      ∙ ap (λ (l : List NsEntry). blobs_joined (shares_shown l))
      (first_once height.header name height.answers a b first second)
      ∙ sym was)
