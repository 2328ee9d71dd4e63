-- What a script tells of nodes under the header of a square.
use Rattle.std.proofs.Common.{◌≡◌, ◌∙◌, ◌⊎◌, ℕ, false, List, [], ◌∷◌, ◌++◌, length, slice_get, Option, Some, None, refl, sym, ap, ap₂, subst, inl, inr}
use Rattle.std.specs.Prelude.{codes, decimal}
use Rattle.std.specs.List.{Contains}
use Rattle.std.specs.Option.{option_map}
use Rattle.std.proofs.lemmas.Option.{slice_get_within, get_or_from_slice_get}
use Rattle.std.proofs.lemmas.List.Elements.{Contains-push_cases}
use Rattle.namespace_id.proofs.MemberLemmas.{contains_none}
use Rattle.data_header.specs.Headers.{Roots}
use Rattle.square_layout.specs.Blocks.{SquareShares}
use Rattle.axis_roots.specs.declared.message.messages.Message as sent
use Rattle.axis_roots.specs.Grids.{IsHeaderOf}
use Rattle.axis_roots.specs.Own.{NamesClash}
use Rattle.axis_roots.specs.Claims.{ClaimParts, ClaimNames}
use Rattle.da_net.specs.declared.items.Item.{Item}
use Rattle.da_net.specs.declared.items.Item.TheVariants as item
use Rattle.da_net.specs.declared.items.Kept.{Kept}
use Rattle.da_net.specs.declared.items.Kept.TheVariants as kept
use Rattle.da_net.specs.declared.items.NetEvent.{NetEvent}
use Rattle.da_net.specs.declared.items.NetEvent.TheVariants as event
use Rattle.da_net.specs.declared.items.NodeState.{NodeState}
use Rattle.da_net.specs.declared.items.Stepped.{Stepped}
use Rattle.da_net.specs.declared.items.Stepped.TheVariants as stepped
use Rattle.da_net.specs.Networks.{NodeKind, Network, Standing, settled, clashing, waiting, available, rejecting, NodeMayStand, handed, IsRun}
use Rattle.da_net.specs.Promises.{IsAlarmed, PoolNames}
use Rattle.da_net.specs.Nets.{NetParts, network_of, HasStanding, standing_state, HasHappened, IsPooled, IsSameNet}
use Rattle.da_script.specs.declared.reading.Move.{Move}
use Rattle.da_script.specs.declared.reading.Move.TheVariants as move
use Rattle.da_script.specs.Plays.{first_net, event_of, state_word, step_line, refusal_number, refused_line, Goes, done, refused, GoOn, HasTail, IsNodeLine, AreNodeLines, TellsPlay}
use Rattle.da_script.specs.Alarms.{SaysAlarm, TellsOwn}
use Rattle.da_script.proofs.LetterLemmas.{has_c, without_c, decimal_plain, c_within}
use Rattle.da_script.proofs.StepLemmas.{pushed_parts, Before, before_last}

-- a node of a run under the header of a square rejects or has a collision only where the pool and the square name one
abbrev pub AlarmsName : Type 0
AlarmsName = (net : Network) (pool : List Item) (steps : List Kept) (node : ℕ) (kind : NodeKind) (standing : Standing) (square : SquareShares)
    → IsRun net pool steps → IsHeaderOf net.header square → NodeMayStand net.header kind (handed pool steps node) standing → IsAlarmed standing
    → PoolNames pool square

-- ---- lines without the letter c

-- a number between texts
number_plain : (front back : List ℕ) (n : ℕ) → has_c front ≡ false → has_c back ≡ false → has_c (front ++ decimal n ++ back) ≡ false
number_plain front back n one other = without_c (front ++ decimal n) back (without_c front (decimal n) one (decimal_plain n)) other

-- the word of a state, but for a node that is alarmed
word_plain : (standing : Standing) → IsAlarmed standing ⊎ (has_c (state_word (standing_state standing)) ≡ false)
word_plain settled = inr refl
word_plain (clashing left right) = inl (inr tt)
word_plain waiting = inr refl
word_plain available = inr refl
word_plain (rejecting claim) = inl (inl tt)

-- so what stands behind it
tail_plain : (net : NetParts) (node : ℕ) (kind : NodeKind) (standing : Standing) (tail : List ℕ) → HasTail net node kind standing tail
    → IsAlarmed standing ⊎ (has_c tail ≡ false)
tail_plain net node kind settled tail (cells, missed, is) =
    inr (ap has_c is ∙ without_c (codes " missing ") (decimal (length cells.list)) refl (decimal_plain (length cells.list)))
tail_plain net node kind (clashing left right) tail is = inl (inr tt)
tail_plain net node kind waiting tail (cells, missed, is) =
    inr (ap has_c is ∙ without_c (codes " ") (decimal (length cells.list)) refl (decimal_plain (length cells.list)))
tail_plain net node kind available tail is = inr (ap has_c is)
tail_plain net node kind (rejecting claim) tail is = inl (inl tt)

-- so the line of a node
line_plain : (net : NetParts) (node : ℕ) (line : List ℕ) (is : IsNodeLine net node line) → IsAlarmed is.standing ⊎ (has_c line ≡ false)
line_plain net node line is = elim (word_plain is.standing) [
  | inl alarmed ↦ inl alarmed
  | inr word ↦ elim (tail_plain net node is.stands.kind is.standing is.tail is.tail_is) [
    | inl alarmed ↦ inl alarmed
    | inr tail ↦
        let front : List ℕ = codes "node " ++ decimal node ++ codes " " in
        let named : List ℕ = state_word (standing_state is.standing) in
        inr (ap has_c is.line_is ∙ without_c (front ++ named ++ is.tail) (codes "\n")
        (without_c (front ++ named) is.tail (without_c front named (number_plain (codes "node ") (codes " ") node refl refl) word) tail) refl)
  ]
]

-- ---- nodes of a run under the header of a square

module _ (law : AlarmsName) (square : SquareShares) (net : NetParts) (run : IsRun (network_of net) net.pool net.steps)
    (own : IsHeaderOf net.header square) where
  -- one that is alarmed names a collision
  alarm_names : (node : ℕ) (standing : Standing) → HasStanding net node standing → IsAlarmed standing → PoolNames net.pool square
  alarm_names node standing stands alarmed = law (network_of net) net.pool net.steps node stands.kind standing square run own stands.stands alarmed

  -- a collision is named, or their lines don't have the letter
  lines_plain : (n : ℕ) (lines : List ℕ) → AreNodeLines net n lines → PoolNames net.pool square ⊎ (has_c lines ≡ false)
  lines_plain _ _ AreNodeLines.start = inr refl
  lines_plain _ _ (AreNodeLines.next n lines line are is) = elim (lines_plain n lines are) [
    | inl names ↦ inl names
    | inr before ↦ elim (line_plain net n line is) [
      | inl alarmed ↦ inl (alarm_names n is.standing is.stands alarmed)
      | inr plain ↦ inr (without_c lines line before plain)
    ]
  ]

-- ---- items

-- an item that a script puts is one of the list
put_there : (items : List Item) (one : Move) (given : Item) → event_of items one ≡ Some (event.Put given) → Contains items given
put_there items (move.Put a) given e = found (slice_get items a) refl e
  where
    found : (o : Option Item) → slice_get items a ≡ o → option_map event.Put o ≡ Some (event.Put given) → Contains items given
    found None is e = absurd cc
    found (Some x) is e =
        let same : x ≡ given = cc in
        let here : slice_get items a ≡ Some given = is ∙ ap Some same in
        (a, slice_get_within items a given here, get_or_from_slice_get items a given given here)
put_there items (move.Hand a b) given e = absurd cc
put_there items (move.Publish b) given e = absurd cc

-- a pool with an item more names a collision where the pool did, or this item does
more_names : (items pool : List Item) (one : Item) (square : SquareShares) → (PoolNames pool square → PoolNames items square)
    → ((m : sent.Message) → one ≡ item.Message m → NamesClash m square → PoolNames items square)
    → ((claim : ClaimParts) → one ≡ item.Claim claim → ClaimNames claim square → PoolNames items square)
    → PoolNames (pool ++ one ∷ []) square → PoolNames items square
more_names items pool one square before sample claimed (inl (m, at, names)) = elim (Contains-push_cases pool one (item.Message m) at) [
  | inl old ↦ before (inl (m, old, names))
  | inr is ↦ sample m is names
]
more_names items pool one square before sample claimed (inr (claim, at, names)) = elim (Contains-push_cases pool one (item.Claim claim) at) [
  | inl old ↦ before (inr (claim, old, names))
  | inr is ↦ claimed claim is names
]

-- ---- the run before an event

-- the run before the step of an event
run_before : (old new : NetParts) (step : Kept) → IsSameNet old new → new.steps ≡ old.steps ++ step ∷ [] → IsRun (network_of new) new.pool new.steps
    → Before (network_of old) new.pool old.steps step
run_before old new step same steps run =
    let nets : network_of new ≡ network_of old = ap₂ (λ (h : Roots) (nodes : List NodeKind). record { header = h; nodes = nodes }) same.header same.nodes in
    before_last (network_of old) new.pool new.steps (subst (λ (n : Network). IsRun n new.pool new.steps) nets run) old.steps step steps

-- before an item was put
run_put : (old new : NetParts) (one : Item) (place : ℕ) → IsSameNet old new → IsPooled old new one kept.Put place
    → IsRun (network_of new) new.pool new.steps → IsRun (network_of old) old.pool old.steps
run_put old new one place same pooled run =
    let before = run_before old new kept.Put same pooled.steps run in
    subst (λ (pool : List Item). IsRun (network_of old) pool old.steps)
    (pushed_parts before.0 old.pool before.1 one (sym before.2 ∙ pooled.pool)).0 before.3

-- before a claim was published, by a node that rejected by it
run_published : (old new : NetParts) (claim : ClaimParts) (by place : ℕ) → IsSameNet old new → IsPooled old new (item.Claim claim) (kept.Publish by) place
    → IsRun (network_of new) new.pool new.steps
    → IsRun (network_of old) old.pool old.steps × ((kind : NodeKind) × NodeMayStand old.header kind (handed old.pool old.steps by) (rejecting claim))
run_published old new claim by place same pooled run =
    let before = run_before old new (kept.Publish by) same pooled.steps run in
    let parts = pushed_parts before.0 old.pool (item.Claim before.2) (item.Claim claim) (sym before.3 ∙ pooled.pool) in
    let own : before.2 ≡ claim = let e : item.Claim before.2 ≡ item.Claim claim = parts.1 in cc in (
      subst (λ (pool : List Item). IsRun (network_of old) pool old.steps) parts.0 before.4,
      (
        before.1,
        subst (λ (c : ClaimParts). NodeMayStand old.header before.1 (handed old.pool old.steps by) (rejecting c)) own
            (subst (λ (pool : List Item). NodeMayStand old.header before.1 (handed pool old.steps by) (rejecting before.2)) parts.0 before.5),
      ),
    )

-- ---- events

-- what is known of a network that events led to, and of their lines: it has the first one's header, an item of its pool
-- names a collision only where one of the list does, and where none does, the lines don't have the letter
record Went (items : List Item) (first : NetParts) (square : SquareShares) (net : NetParts) (lines : List ℕ) : Type 0 where
  pub header : net.header ≡ first.header
  pub names : PoolNames net.pool square → PoolNames items square
  pub plain : PoolNames items square ⊎ (has_c lines ≡ false)

module _ (law : AlarmsName) (items : List Item) (first : NetParts) (square : SquareShares) (own : IsHeaderOf first.header square)
    (none : first.pool ≡ []) where
  -- a line more
  plain_on : (before line : List ℕ) → PoolNames items square ⊎ (has_c before ≡ false) → has_c line ≡ false
      → PoolNames items square ⊎ (has_c (before ++ line) ≡ false)
  plain_on before line (inl names) plain = inl names
  plain_on before line (inr earlier) plain = inr (without_c before line earlier plain)

  -- an event that happened, over what is known before it
  happened_on : (old new : NetParts) (one : Move) (given : NetEvent) (did : Stepped) (before : List ℕ) → event_of items one ≡ Some given
      → HasHappened old given new did → IsSameNet old new → IsRun (network_of new) new.pool new.steps
      → (IsRun (network_of old) old.pool old.steps → Went items first square old before) → Went items first square new (before ++ step_line did)
  happened_on old new one (event.Put given) (stepped.Pooled place) before is pooled same run earlier =
      let went = earlier (run_put old new given place same pooled run) in
      let there = put_there items one given is in
      record {
        header = same.header ∙ went.header;
        names = λ names. more_names items old.pool given square went.names (λ m e clash. inl (m, subst (λ (x : Item). Contains items x) e there, clash))
            (λ claim e clash. inr (claim, subst (λ (x : Item). Contains items x) e there, clash))
            (subst (λ (pool : List Item). PoolNames pool square) pooled.pool names);
        plain = plain_on before (step_line (stepped.Pooled place)) went.plain (number_plain (codes "pooled ") (codes "\n") place refl refl);
      }
  happened_on old new one (event.Put given) (stepped.Handed state) before is never same run earlier = absurd never
  happened_on old new one (event.Hand place to) (stepped.Pooled at) before is never same run earlier = absurd never
  happened_on old new one (event.Hand place to) (stepped.Handed state) before is given same run earlier =
      let went = earlier (subst (λ (pool : List Item). IsRun (network_of old) pool old.steps) given.pool
      (run_before old new (kept.Hand place to) same given.steps run)) in
      let header : new.header ≡ first.header = same.header ∙ went.header in
      let names : PoolNames new.pool square → PoolNames items square =
      λ named. went.names (subst (λ (pool : List Item). PoolNames pool square) given.pool named) in
      let stands = given.state_is in
      let headed : IsHeaderOf new.header square = subst (λ (h : Roots). IsHeaderOf h square) (sym header) own in
      record {
        header = header;
        names = names;
        plain = elim (word_plain stands.0) [
          | inl alarmed ↦ inl (names (alarm_names law square new run headed to stands.0 stands.1 alarmed))
          | inr word ↦ plain_on before (step_line (stepped.Handed state)) went.plain
              (without_c (codes "handed " ++ state_word state) (codes "\n")
              (without_c (codes "handed ") (state_word state) refl (ap (λ (s : NodeState). has_c (state_word s)) stands.2 ∙ word)) refl)
        ];
      }
  happened_on old new one (event.Publish by) (stepped.Pooled place) before is (claim, rejects, pooled) same run earlier =
      let was = run_published old new claim by place same pooled run in
      let went = earlier was.0 in
      let headed : IsHeaderOf old.header square = subst (λ (h : Roots). IsHeaderOf h square) (sym went.header) own in
      record {
        header = same.header ∙ went.header;
        names = λ names. more_names items old.pool (item.Claim claim) square went.names (λ m e clash. absurd cc)
            (λ other e clash. went.names (law (network_of old) old.pool old.steps by was.1.0 (rejecting claim) square was.0 headed was.1.1 (inl tt)))
            (subst (λ (pool : List Item). PoolNames pool square) pooled.pool names);
        plain = plain_on before (step_line (stepped.Pooled place)) went.plain (number_plain (codes "pooled ") (codes "\n") place refl refl);
      }
  happened_on old new one (event.Publish by) (stepped.Handed state) before is never same run earlier = absurd never

  -- an event, which happened or was refused
  goes_on : (old new : NetParts) (one : Move) (before line : List ℕ) → Goes items old one new line → IsRun (network_of new) new.pool new.steps
      → (IsRun (network_of old) old.pool old.steps → Went items first square old before) → Went items first square new (before ++ line)
  goes_on old new one before line (done given did is why happened same line_is) run earlier =
      subst (λ (l : List ℕ). Went items first square new (before ++ l)) (sym line_is)
      (happened_on old new one given did before is happened same run earlier)
  goes_on old new one before line (refused given why is because same line_is) run earlier =
      let was = subst (λ (n : NetParts). IsRun (network_of n) n.pool n.steps) same run in
      let went = subst (λ (n : NetParts). Went items first square n before) (sym same) (earlier was) in
      record {
        header = went.header;
        names = went.names;
        plain = subst (λ (l : List ℕ). PoolNames items square ⊎ (has_c (before ++ l) ≡ false)) (sym line_is)
            (plain_on before (refused_line why) went.plain (number_plain (codes "refused ") (codes "\n") (refusal_number why) refl refl));
      }

  -- all events
  went_on : (net : NetParts) (moves : List Move) (lines : List ℕ) → GoOn items first moves net lines → IsRun (network_of net) net.pool net.steps
      → Went items first square net lines
  went_on _ _ _ GoOn.start run = record {
    header = refl;
    names = λ names. absurd (no_names (subst (λ (pool : List Item). PoolNames pool square) none names));
    plain = inr refl;
  }
    where
      no_names : PoolNames [] square → ⊥
      no_names (inl (m, at, names)) = contains_none (item.Message m) at
      no_names (inr (claim, at, names)) = contains_none (item.Claim claim) at
  went_on _ _ _ (GoOn.next moves old lines one new line before goes) run =
      goes_on old new one lines line goes run (λ was. went_on old moves lines before was)

  -- a collision is named, or what is told doesn't have the letter
  told_plain : (moves : List Move) (w : List ℕ) → TellsPlay items first moves w → PoolNames items square ⊎ (has_c w ≡ false)
  told_plain moves w (net, front, back, goes, run, lines, is) =
      let went = went_on net moves front goes run in
      let headed : IsHeaderOf net.header square = subst (λ (h : Roots). IsHeaderOf h square) (sym went.header) own in
      elim went.plain [
        | inl names ↦ inl names
        | inr plain ↦ elim (lines_plain law square net run headed (length net.nodes) back lines) [
          | inl names ↦ inl (went.names names)
          | inr more ↦ inr (ap has_c is ∙ without_c front back plain more)
        ]
      ]

-- ---- what is told

-- a text without the letter says of no node that it rejects or has a collision
pub says_none : (w : List ℕ) → has_c w ≡ false → SaysAlarm w → ⊥
says_none w plain (inl rejected) = c_within w (codes "rejected") rejected refl plain
says_none w plain (inr clash) = c_within w (codes "clash") clash refl plain

-- under the header of a square what is told says so only where an item of the list names a collision, by what is known of
-- nodes that are alarmed
pub tells_own : AlarmsName → (items : List Item) (header : Roots) (moves : List Move) (script w : List ℕ) (square : SquareShares)
    → IsHeaderOf header square → TellsPlay items (first_net header moves script) moves w → TellsOwn items square w
tells_own law items header moves script w square own told says =
    elim (told_plain law items (first_net header moves script) square own refl moves w told) [
      | inl names ↦ names
      | inr plain ↦ absurd (says_none w plain says)
    ]
