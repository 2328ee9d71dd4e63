-- The way through the heights of a run.
use Rattle.std.proofs.Common.{◌≡◌, ◌∙◌, ℕ, ◌+◌, List, [], ◌∷◌, ◌++◌, length, Bool, true, false, true≢false, Option, Some, None, slice_get, if◌then◌else◌, refl, sym, ap, subst, append_assoc, append-nil, inl, inr}
use Rattle.std.specs.List.{list_any}
use Rattle.std.specs.Option.{option_map, option_or}
use Rattle.std.proofs.lemmas.Bool.{cases_Bool}
use Rattle.std.proofs.lemmas.List.{length-append}
use Rattle.namespace_id.specs.declared.namespaces.Namespace.{Namespace}
use Rattle.data_header.specs.Headers.{Roots}
use Rattle.blob_feed.specs.Feeds.{NamedAnswer, Item, headed, answered, Height, answers_ahead, heights_of}
use Rattle.blob_feed.specs.Followers.{is_name}
use Rattle.blob_feed.proofs.NameLemmas.{same_name}
use Rattle.blob_feed.proofs.ZipLemmas.{get_behind}
use Rattle.da_following.specs.declared.heights.UnderWay.{UnderWay}
use Rattle.da_following.specs.declared.heights.Way.{Way}
use Rattle.da_following.specs.Follow.{places_at, places_from, IsFeedText, HasFeedMore}
use Rattle.da_following.specs.Heights.{said, first_said, said_at, AreSaid, read_at, fed_by, heights_left, KeepsAnswers, IsOnWay}
use Rattle.da_following.proofs.FeedLineLemmas.{none_told, told_more}
use Rattle.da_following.proofs.FeedStatusLemmas.{each_name}
use Rattle.da_following.proofs.KeptLemmas.{or_none, said_more, said_other}

-- the height that is under way, by its answers
abbrev height_with : Roots → List NamedAnswer → Height
height_with header answers = record { header = header; answers = answers }

-- no answers are in front of a header
pub none_ahead : (header : Roots) (later : List Item) → answers_ahead (headed header ∷ later) ≡ []
unfolding answers_ahead
none_ahead header later = refl

-- nor at the end
pub none_left : answers_ahead [] ≡ []
unfolding answers_ahead
none_left = refl

module _ (names : List Namespace) where
  -- before a run nothing is behind
  pub way_new : (way : Way) (items : List Item) → way.height ≡ None → way.number ≡ 0 → way.told.text.items ≡ [] → way.told.missing ≡ 0
      → IsOnWay names (heights_of items) way items
  way_new way items none number empty zero = record {
    behind = [];
    before = [];
    parts = ap (λ (o : Option UnderWay). heights_left o [] items) (sym none);
    number = number;
    kept = subst (KeepsAnswers names []) (sym none) tt;
    told = none_told (fed_by names (heights_of items)) names way.told empty zero;
  }

  module _ (all : List Height) where
    -- what is kept of a height is, of a namespace, what the heights feed there
    fed_there : (behind later : List Height) (header : Roots) (answers : List NamedAnswer) (name : Namespace)
        → all ≡ behind ++ height_with header answers ∷ later → list_any (is_name name) names ≡ true
        → first_said header name answers ≡ option_map said (fed_by names all (length behind) name)
    fed_there behind later header answers name parts found =
        ap (λ (o : Option Height). option_map said (read_at o name))
        (sym (ap (λ (l : List Height). slice_get l (length behind)) parts ∙ get_behind behind (height_with header answers) later))
        ∙ ap (λ (b : Bool). option_map said (if b then read_at (slice_get all (length behind)) name else None)) (sym found)

    -- with no answer to come, the height under way is told
    pub way_said : (way : Way) (rest : List Item) (height : UnderWay) → IsOnWay names all way rest → way.height ≡ Some height
        → answers_ahead rest ≡ [] → AreSaid (fed_by names all) way.number height names
    way_said way rest height on is none =
        let whole = ap (λ (l : List NamedAnswer). height_with height.header (on.before ++ l)) none
        ∙ ap (height_with height.header) (append-nil on.before) in
        let parts : all ≡ on.behind ++ height_with height.header on.before ∷ heights_of rest =
        on.parts ∙ ap (λ (o : Option UnderWay). on.behind ++ heights_left o on.before rest) is
        ∙ ap (λ (h : Height). on.behind ++ h ∷ heights_of rest) whole in
        let kept = subst (KeepsAnswers names on.before) is on.kept in
        (each_name (λ (name : Namespace). said_at height name ≡ option_map said (fed_by names all way.number name)) names).1
        (λ name found. kept name found ∙ fed_there on.behind (heights_of rest) height.header on.before name parts found
        ∙ ap (λ (n : ℕ). option_map said (fed_by names all n name)) (sym on.number))

    -- it is behind then
    pub way_closed : (old new : Way) (rest : List Item) (height : UnderWay) → IsOnWay names all old rest → old.height ≡ Some height
        → answers_ahead rest ≡ [] → new.height ≡ None → new.number ≡ old.number + 1
        → HasFeedMore (fed_by names all) (places_at names old.number) old.told new.told → IsOnWay names all new rest
    way_closed old new rest height on is none closed number more =
        let last = height_with height.header (on.before ++ answers_ahead rest) in
        let long : length (on.behind ++ last ∷ []) ≡ old.number + 1 = length-append on.behind (last ∷ []) ∙ ap (λ (n : ℕ). n + 1) (sym on.number) in
        record {
          behind = on.behind ++ last ∷ [];
          before = [];
          parts = on.parts ∙ ap (λ (o : Option UnderWay). on.behind ++ heights_left o on.before rest) is
              ∙ sym (append_assoc on.behind (last ∷ []) (heights_of rest))
              ∙ ap (λ (o : Option UnderWay). (on.behind ++ last ∷ []) ++ heights_left o [] rest) (sym closed);
          number = number ∙ sym long;
          kept = subst (KeepsAnswers names []) (sym closed) tt;
          told = subst (λ (n : ℕ). IsFeedText (fed_by names all) (places_from names 0 n) new.told) (sym long)
              (told_more (fed_by names all) names old.number old.told new.told
              (subst (λ (n : ℕ). IsFeedText (fed_by names all) (places_from names 0 n) old.told) (sym on.number) on.told) more);
        }

    -- the next height begins
    pub way_headed : (old new : Way) (later : List Item) (header : Roots) (height : UnderWay) → IsOnWay names all old (headed header ∷ later)
        → old.height ≡ None → new.told ≡ old.told → new.number ≡ old.number → new.height ≡ Some height → height.header ≡ header
        → ((name : Namespace) → said_at height name ≡ None) → IsOnWay names all new later
    unfolding heights_of answers_ahead
    way_headed old new later header height on closed told number is begins empty = record {
      behind = on.behind;
      before = [];
      parts = on.parts ∙ ap (λ (o : Option UnderWay). on.behind ++ heights_left o on.before (headed header ∷ later)) closed
          ∙ ap (λ (h : Roots). on.behind ++ height_with h (answers_ahead later) ∷ heights_of later) (sym begins)
          ∙ ap (λ (o : Option UnderWay). on.behind ++ heights_left o [] later) (sym is);
      number = number ∙ on.number;
      kept = subst (KeepsAnswers names []) (sym is) (λ name found. empty name);
      told = subst (IsFeedText (fed_by names all) (places_from names 0 (length on.behind))) (sym told) on.told;
    }

    -- in front of the first header an answer counts for nothing
    pub way_early : (way : Way) (later : List Item) (given : NamedAnswer) → IsOnWay names all way (answered given ∷ later)
        → way.height ≡ None → IsOnWay names all way later
    unfolding heights_of
    way_early way later given on none = record {
      behind = on.behind;
      before = on.before;
      parts = on.parts ∙ ap (λ (o : Option UnderWay). on.behind ++ heights_left o on.before (answered given ∷ later)) none
          ∙ ap (λ (o : Option UnderWay). on.behind ++ heights_left o on.before later) (sym none);
      number = on.number;
      kept = on.kept;
      told = on.told;
    }

    -- one answer more at the height under way
    pub way_answered : (old new : Way) (later : List Item) (given : NamedAnswer) (before height : UnderWay)
        → IsOnWay names all old (answered given ∷ later) → old.height ≡ Some before → new.told ≡ old.told → new.number ≡ old.number
        → new.height ≡ Some height → height.header ≡ before.header
        → ((name : Namespace) → list_any (is_name name) names ≡ true
        → said_at height name ≡ option_or (said_at before name) (first_said before.header name (given ∷ [])))
        → IsOnWay names all new later
    unfolding heights_of answers_ahead
    way_answered old new later given before height on was told number is same more = record {
      behind = on.behind;
      before = on.before ++ given ∷ [];
      parts = on.parts ∙ ap (λ (o : Option UnderWay). on.behind ++ heights_left o on.before (answered given ∷ later)) was
          ∙ ap (λ (l : List NamedAnswer). on.behind ++ height_with before.header l ∷ heights_of later)
          (sym (append_assoc on.before (given ∷ []) (answers_ahead later)))
          ∙ ap (λ (h : Roots). on.behind ++ height_with h ((on.before ++ given ∷ []) ++ answers_ahead later) ∷ heights_of later) (sym same)
          ∙ ap (λ (o : Option UnderWay). on.behind ++ heights_left o (on.before ++ given ∷ []) later) (sym is);
      number = number ∙ on.number;
      kept =
          let kept = subst (KeepsAnswers names on.before) was on.kept in
          subst (KeepsAnswers names (on.before ++ given ∷ [])) (sym is)
          (λ name found. more name found ∙ ap (λ (o : Option (List ℕ)). option_or o (first_said before.header name (given ∷ []))) (kept name found)
          ∙ sym (said_more before.header name on.before given)
          ∙ ap (λ (h : Roots). first_said h name (on.before ++ given ∷ [])) (sym same));
      told = subst (IsFeedText (fed_by names all) (places_from names 0 (length on.behind))) (sym told) on.told;
    }

    -- a namespace that is found isn't one that isn't
    apart : (name other : Namespace) → list_any (is_name name) names ≡ true → list_any (is_name other) names ≡ false → is_name other name ≡ false
    apart name other found none = elim (cases_Bool (is_name other name)) [
      | inl e ↦ absurd (true≢false (sym found ∙ subst (λ (n : Namespace). list_any (is_name n) names ≡ false) (same_name other name e) none))
      | inr e ↦ e
    ]

    -- an answer for a namespace that isn't wanted changes nothing, by the height under way
    unwanted_by : (way : Way) (later : List Item) (given : NamedAnswer) (o : Option UnderWay) → way.height ≡ o
        → IsOnWay names all way (answered given ∷ later) → list_any (is_name given.name) names ≡ false → IsOnWay names all way later
    unwanted_by way later given None is on none = way_early way later given on is
    unwanted_by way later given (Some height) is on none =
        way_answered way way later given height height on is refl refl is refl
        (λ name found. or_none (said_at height name) ∙ ap (option_or (said_at height name))
        (sym (said_other height.header given name (apart name given.name found none))))

    -- an answer for a namespace that isn't wanted changes nothing
    pub way_unwanted : (way : Way) (later : List Item) (given : NamedAnswer) → IsOnWay names all way (answered given ∷ later)
        → list_any (is_name given.name) names ≡ false → IsOnWay names all way later
    way_unwanted way later given on none = unwanted_by way later given way.height refl on none

    -- at the end of a run all is told
    pub way_end : (way : Way) → IsOnWay names all way [] → way.height ≡ None → IsFeedText (fed_by names all) (places_from names 0 (length all)) way.told
    unfolding heights_of
    way_end way on none =
        let whole : all ≡ on.behind = on.parts ∙ ap (λ (o : Option UnderWay). on.behind ++ heights_left o on.before []) none ∙ append-nil on.behind in
        subst (λ (n : ℕ). IsFeedText (fed_by names all) (places_from names 0 n) way.told) (sym (ap length whole)) on.told
