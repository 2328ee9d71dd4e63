-- What is kept and the samples that it stands for: at the start, and with one sample more.
use Rattle.std.proofs.Common.{◌≡◌, ◌∙◌, ◌⊎◌, ℕ, List, [], ◌∷◌, ◌++◌, true, false, refl, sym, ap, subst, inl, inr}
use Rattle.std.specs.Prelude.{Some, None}
use Rattle.std.specs.List.{Contains}
use Rattle.std.proofs.lemmas.Bool.{true≢false}
use Rattle.std.proofs.lemmas.List.Elements.{Contains-append_left, Contains-push, Contains-push_cases}
use Rattle.namespace_id.specs.declared.cells.Cell.{Cell}
use Rattle.namespace_id.specs.declared.cells.Axis.{Axis}
use Rattle.namespace_id.specs.declared.shares.Share.{Share}
use Rattle.data_header.specs.Headers.{Roots}
use Rattle.axis_roots.specs.declared.message.messages.Message.{Message}
use Rattle.axis_roots.specs.declared.message.proved.Proved.{Proved}
use Rattle.axis_roots.specs.Proved.{kept_message, IsUnder}
use Rattle.axis_roots.specs.Lines.{cell_on}
use Rattle.repair_queue.specs.Closures.{Fact}
use Rattle.repair_queue.specs.Slots.{Kept, Flags, IsPut}
use Rattle.repair_queue.specs.Repairs.{Shows, IsSlotted}
use Rattle.repair_queue.specs.Boards.{Shared, is_lined, IsSound, Stands}
use Rattle.namespace_id.proofs.MemberLemmas.{contains_none}
use Rattle.repair_queue.proofs.Facts.ClosureLemmas.{fact_grows}
use Rattle.repair_queue.proofs.Places.PutLemmas.{put_cases, put_still}

-- facts stay facts with one sample more
pub fact_more : (header : Roots) (ms : List Message) (m : Message) (cell : Cell) (share : Share) → Fact header ms cell share → Fact header (ms ++ m ∷ []) cell share
fact_more header ms m = fact_grows header ms (ms ++ m ∷ []) (λ n at proved. Contains-append_left ms (m ∷ []) n at)

-- where nothing is kept and nothing is decided
pub nothing_sound : (header : Roots) (slot : Kept) (flag : Flags) (shares : Shared) → ((axis : Axis) (cell : Cell) → slot axis cell ≡ None)
    → ((axis : Axis) (i : ℕ) → flag axis i ≡ false) → IsSound header slot flag shares
nothing_sound header slot flag shares empty off = record {
  slotted = λ axis cell kept e. let none : None ≡ Some kept = sym (empty axis cell) ∙ e in absurd cc;
  lines = λ axis i within on. absurd (true≢false (sym on ∙ off axis i));
}

-- this stands for no sample
pub nothing_stands : (header : Roots) (slot : Kept) (flag : Flags) (shares : Shared) → ((axis : Axis) (cell : Cell) → slot axis cell ≡ None)
    → ((axis : Axis) (i : ℕ) → flag axis i ≡ false) → Stands header [] slot flag shares
nothing_stands header slot flag shares empty off = record {
  fed = λ axis cell kept off e. let none : None ≡ Some kept = sym (empty axis cell) ∙ e in absurd cc;
  facts = λ axis i pos hi hp on. absurd (true≢false (sym on ∙ off axis i));
  lined = λ m at proved on. absurd (contains_none m at);
  shown = λ m at proved low. absurd (contains_none m at);
}

-- with one sample more it stands for what it stood for and this one, where each sample that is kept is this one or was kept, shares
-- that were shown are shown still, and this one's is that of its decided row or column, or is shown
stands_more : (header : Roots) (ms : List Message) (old new : Kept) (flag : Flags) (shares : Shared) (m : Message)
    → ((axis : Axis) (cell : Cell) (kept : Proved) → new axis cell ≡ Some kept → (m ≡ kept_message kept) ⊎ (old axis cell ≡ Some kept))
    → ((axis : Axis) (cell : Cell) (share : Share) → Shows (old axis cell) share → Shows (new axis cell) share)
    → (is_lined flag m.cell ≡ true → shares m.cell ≡ m.share) → (is_lined flag m.cell ≡ false → (axis : Axis) × Shows (new axis m.cell) m.share)
    → Stands header ms old flag shares → Stands header (ms ++ m ∷ []) new flag shares
stands_more header ms old new flag shares m which still on off stand = record {
  fed = λ axis cell a low e. elim (which axis cell a e) [
    | inl is ↦ subst (Contains (ms ++ m ∷ [])) is (Contains-push ms m)
    | inr before ↦ Contains-append_left ms (m ∷ []) (kept_message a) (stand.fed axis cell a low before)
  ];
  facts = λ axis i pos hi hp set. fact_more header ms m (cell_on axis i pos) (shares (cell_on axis i pos)) (stand.facts axis i pos hi hp set);
  lined = λ n at proved set. elim (Contains-push_cases ms m n at) [
    | inl before ↦ stand.lined n before proved set
    | inr e ↦ subst (λ (x : Message). is_lined flag x.cell ≡ true → shares x.cell ≡ x.share) e on set
  ];
  shown = λ n at proved low. elim (Contains-push_cases ms m n at) [
    | inl before ↦ let there = stand.shown n before proved low in (there.0, still there.0 n.cell n.share there.1)
    | inr e ↦ subst (λ (x : Message). is_lined flag x.cell ≡ false → (axis : Axis) × Shows (new axis x.cell) x.share) e off low
  ];
}

module _ (header : Roots) (ms : List Message) (slot : Kept) (flag : Flags) (shares : Shared) (m : Message) (stand : Stands header ms slot flag shares) where
  -- a sample on a decided row or column that has its share
  pub stands_lined : is_lined flag m.cell ≡ true → shares m.cell ≡ m.share → Stands header (ms ++ m ∷ []) slot flag shares
  stands_lined on same =
      stands_more header ms slot slot flag shares m (λ axis cell kept e. inr e) (λ axis cell share shows. shows) (λ set. same)
      (λ low. absurd (true≢false (sym on ∙ low))) stand

  -- a sample on none whose share is shown already
  pub stands_shown : is_lined flag m.cell ≡ false → (axis : Axis) → Shows (slot axis m.cell) m.share → Stands header (ms ++ m ∷ []) slot flag shares
  stands_shown off own shows =
      stands_more header ms slot slot flag shares m (λ axis cell kept e. inr e) (λ axis cell share there. there)
      (λ set. absurd (true≢false (sym set ∙ off))) (λ low. (own, shows)) stand

module _ (header : Roots) (old new : Kept) (flag : Flags) (shares : Shared) (kept : Proved) (under : IsUnder header kept)
    (empty : old (kept_message kept).axis (kept_message kept).cell ≡ None)
    (put : IsPut old new (kept_message kept).axis (kept_message kept).cell kept) where
  -- a sample that is put into its empty slot leaves all sound
  pub put_sound : IsSound header old flag shares → IsSound header new flag shares
  put_sound sound = record {
    slotted = λ axis cell a e. elim (put_cases old new kept put axis cell a e) [
      | inl (ea, ec, is) ↦
          subst (IsSlotted header axis cell) is
          (subst (λ (x : Axis). IsSlotted header x cell kept) (sym ea)
          (subst (λ (x : Cell). IsSlotted header (kept_message kept).axis x kept) (sym ec) (record { under = under; axis_is = refl; cell_is = refl })))
      | inr before ↦ sound.slotted axis cell a before
    ];
    lines = sound.lines;
  }

  -- on no decided row or column it is kept
  pub put_stands : is_lined flag (kept_message kept).cell ≡ false → (ms : List Message) → Stands header ms old flag shares
      → Stands header (ms ++ kept_message kept ∷ []) new flag shares
  put_stands off ms stand =
      stands_more header ms old new flag shares (kept_message kept)
      (λ axis cell a e. elim (put_cases old new kept put axis cell a e) [ inl (ea, ec, is) ↦ inl (ap kept_message is) | inr before ↦ inr before ])
      (put_still old new kept put empty) (λ set. absurd (true≢false (sym set ∙ off)))
      (λ low. ((kept_message kept).axis, record { kept = kept; held = put.here; share_is = refl })) stand
