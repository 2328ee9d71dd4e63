-- Whether the reserved bytes of compact shares state what they should.
use Rattle.std.proofs.Common.{◌≡◌, ◌∙◌, ℕ, suc, ◌+◌, ◌<◌, ◌≤◌, Bool, true, false, cond, eqb, eq-eqb, ne_eqb, ◌≢◌, List, [], ◌∷◌, length, drop, get_or, Option, Some, None, refl, sym, ap, ap₂, arith}
use Rattle.std.proofs.lemmas.List.{drop_more, drop_all}
use Rattle.namespace_id.specs.declared.shares.Share.{Share}
use Rattle.share_split.specs.Units.{content_start, starts_on, first_place, reserved_of}
use Rattle.share_split.specs.Walks.{reserved_in, bad_reserved}
use Rattle.share_split.proofs.Writing.Starts.{reserved_of-on}
use Rattle.share_split.proofs.Writing.Places.{content_start-next}

-- the next share is checked first
pub bad_reserved-cons : (i : ℕ) (starts : List ℕ) (share : Share) (shares : List Share)
    → bad_reserved i starts (share ∷ shares) ≡ cond (eqb (reserved_in share) (reserved_of i starts)) (bad_reserved (suc i) starts shares) (Some i)
unfolding bad_reserved
bad_reserved-cons i starts share shares = refl

-- no share is bad
pub bad_reserved-nil : (i : ℕ) (starts : List ℕ) → bad_reserved i starts [] ≡ None
unfolding bad_reserved
bad_reserved-nil i starts = refl

-- starts before the content of a share don't count from there on
bad_reserved-on : (earlier i : ℕ) (starts : List ℕ) (shares : List Share) → earlier ≤ content_start i
    → bad_reserved i (starts_on earlier starts) shares ≡ bad_reserved i starts shares
bad_reserved-on earlier i starts [] le = bad_reserved-nil i (starts_on earlier starts) ∙ sym (bad_reserved-nil i starts)
bad_reserved-on earlier i starts (share ∷ shares) le =
    bad_reserved-cons i (starts_on earlier starts) share shares
    ∙ ap₂ (λ (n : ℕ) (o : Option ℕ). cond (eqb (reserved_in share) n) o (Some i))
    (reserved_of-on earlier i starts le)
    (bad_reserved-on earlier (suc i) starts shares (omega (arith, content_start-next i)))
    ∙ sym (bad_reserved-cons i starts share shares)

-- share i states what it should, or doesn't
reserved_here : (i : ℕ) (starts : List ℕ) (shares : List Share) (none : Share) (good : Bool) (whole : Option ℕ) → i < length shares
    → eqb (reserved_in (get_or shares i none)) (reserved_of i starts) ≡ good → bad_reserved i starts (drop i shares) ≡ whole
    → cond good (bad_reserved (suc i) starts (drop (i + 1) shares)) (Some i) ≡ whole
reserved_here i starts shares none good whole lt test before =
    let share : Share = get_or shares i none in
    let rest : List Share = drop (i + 1) shares in
    sym (ap (λ (b : Bool). cond b (bad_reserved (suc i) starts rest) (Some i)) test)
    ∙ sym (bad_reserved-cons i starts share rest)
    ∙ sym (ap (bad_reserved i starts) (drop_more shares i none lt))
    ∙ before

-- share i states what it should
pub reserved_more : (i next stated should : ℕ) (starts left : List ℕ) (shares : List Share) (none : Share) (whole : Option ℕ) → i < length shares → next ≡ suc i
    → left ≡ starts_on (content_start i) starts → stated ≡ reserved_in (get_or shares i none) → should ≡ first_place i left
    → stated ≡ should → bad_reserved i starts (drop i shares) ≡ whole
    → bad_reserved next left (drop (i + 1) shares) ≡ whole
reserved_more i next stated should starts left shares none whole lt next_is left_is stated_is should_is same before =
    let rest : List Share = drop (i + 1) shares in
    let number : reserved_in (get_or shares i none) ≡ reserved_of i starts =
    sym stated_is ∙ same ∙ should_is ∙ ap (first_place i) left_is in
    ap₂ (λ (k : ℕ) (l : List ℕ). bad_reserved k l rest) next_is left_is
    ∙ bad_reserved-on (content_start i) (suc i) starts rest (omega (arith, content_start-next i))
    ∙ reserved_here i starts shares none true whole lt (eq-eqb _ _ number) before

-- share i doesn't state what it should
pub reserved_stop : (i stated should : ℕ) (starts left : List ℕ) (shares : List Share) (none : Share) (whole : Option ℕ) → i < length shares
    → left ≡ starts_on (content_start i) starts → stated ≡ reserved_in (get_or shares i none) → should ≡ first_place i left
    → stated ≢ should → bad_reserved i starts (drop i shares) ≡ whole
    → Some i ≡ whole
reserved_stop i stated should starts left shares none whole lt left_is stated_is should_is differ before =
    let number : should ≡ reserved_of i starts = should_is ∙ ap (first_place i) left_is in
    reserved_here i starts shares none false whole lt (ne_eqb _ _ (λ e. differ (stated_is ∙ e ∙ sym number))) before

-- no share is left
pub reserved_end : (i : ℕ) (starts : List ℕ) (shares : List Share) (whole : Option ℕ) → length shares ≤ i → bad_reserved i starts (drop i shares) ≡ whole → None ≡ whole
reserved_end i starts shares whole le before = sym (bad_reserved-nil i starts) ∙ sym (ap (bad_reserved i starts) (drop_all i shares le)) ∙ before
