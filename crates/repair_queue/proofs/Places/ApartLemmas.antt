-- Slots that show another share.
use Rattle.std.proofs.Common.{◌≡◌, ◌∙◌, Bool, true, not, sym, ap, refl}
use Rattle.std.specs.Prelude.{Option, Some}
use Rattle.std.specs.Str.{bytes_eq}
use Rattle.std.proofs.lemmas.Bool.{true≢false}
use Rattle.std.proofs.lemmas.Slice.Eq.{bytes_eq-Decides}
use Rattle.namespace_id.specs.declared.shares.Share.{Share}
use Rattle.axis_roots.specs.declared.message.messages.Message.{Message}
use Rattle.axis_roots.specs.declared.message.proved.Proved.{Proved}
use Rattle.axis_roots.specs.Proved.{kept_message}
use Rattle.repair_queue.specs.Slots.{IsApart}

-- a share is found equal to itself
same_share : (share : Share) → bytes_eq share.0 share.0 ≡ true
same_share share = (bytes_eq-Decides share.0 share.0).1 refl

-- a slot whose sample is found to show another share
pub found_apart : (slot : Option Proved) (kept : Proved) (m : Message) (share : Share) (found : Bool) → slot ≡ Some kept → m ≡ kept_message kept
    → found ≡ not (bytes_eq m.share.0 share.0) → found ≡ true → IsApart slot share
found_apart slot kept m share found held is test other = record {
  kept = kept;
  held = held;
  other = λ e.
      let same : m.share ≡ share = ap (λ (x : Message). x.share) is ∙ e in
      true≢false (sym other ∙ test ∙ ap (λ (s : Share). not (bytes_eq s.0 share.0)) same ∙ ap not (same_share share));
}
