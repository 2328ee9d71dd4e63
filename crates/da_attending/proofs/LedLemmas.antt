-- Where frames lead an attender, and what is due to them.
use Rattle.std.proofs.Common.{◌≡◌, ◌∙◌, ℕ, ◌+◌, ◌^◌, ◌<◌, List, [], ◌∷◌, ◌++◌, length, Some, None, refl, sym, ap, subst, arith}
use Rattle.std.specs.Prelude.{min}
use Rattle.namespace_id.specs.declared.namespaces.Namespace.{Namespace}
use Rattle.da_io.specs.Faults.{max_count}
use Rattle.blob_feed.specs.Feeds.{NamedAnswer, Item, answered}
use Rattle.da_wire.specs.Reading.{Raw}
use Rattle.da_status.specs.declared.status.Status.{Status}
use Rattle.da_following.specs.Follow.{feed_status}
use Rattle.da_attending.specs.Attended.{has_items, item_in, items_of, fits, height_missing, count_missing, reply_to, RepliesAttending, RefusesAttending, EndsAttending}
use Rattle.da_attending.specs.Attenders.{AttendParts, IsFreshAttender, AttenderStands, HasTaken, HasHeard}
use Rattle.da_attending.proofs.FrameLemmas.{items_more, few_began}
use Rattle.da_attending.proofs.StandLemmas.{stands_fresh, none_began}

-- a talk begins
pub led_begin : (now : AttendParts) → IsFreshAttender now → HasTaken now now []
led_begin now fresh = record { names = refl; stands = stands_fresh now fresh }

module _ (first now : AttendParts) (frames : List Raw) (led : HasTaken first now frames) (frame : Raw) where
  module _ (item : Item) (is : item_in frame ≡ Some item) (new : AttendParts) (text : List ℕ) (heard : HasHeard now new item text) where
    -- a header or an answer that fits
    pub led_more : length frames + 1 < 2 ^ 64 → HasTaken first new (frames ++ frame ∷ [])
    led_more few = record {
      names = heard.names ∙ led.names;
      stands = subst (λ (l : List Item). AttenderStands new l) (sym (items_more frames frame item is))
          (heard.stands (items_of frames) led.stands (omega (arith, few, few_began frames)));
    }

    -- what is due to it
    pub replies_more : RepliesAttending first.names frames frame text
    replies_more = record {
      item = item;
      is = is;
      fit = heard.fit (items_of frames) led.stands;
      reply = heard.reply (items_of frames) led.stands ∙ ap (λ (n : List Namespace). reply_to n (items_of frames) item) led.names;
    }

  -- one that is neither
  pub refuses_none : item_in frame ≡ None → RefusesAttending frames frame
  refuses_none is = ap (fits (items_of frames)) is

  -- an answer in front of any header
  pub refuses_answer : (given : NamedAnswer) → item_in frame ≡ Some (answered given) → now.header ≡ None → RefusesAttending frames frame
  refuses_answer given is none =
      ap (fits (items_of frames)) is ∙ ap has_items (led.stands.led (none_began now (items_of frames) led.stands none))

-- the last words
pub ends_led : (first now : AttendParts) (frames : List Raw) → HasTaken first now frames → (text : List ℕ) (missing : ℕ) (status : Status)
    → text ≡ height_missing now.names (items_of frames) → missing ≡ min (count_missing now.names (items_of frames)) max_count
    → status ≡ feed_status missing → EndsAttending first.names frames text status
ends_led first now frames led text missing status words counted is = record {
  words = words ∙ ap (λ (n : List Namespace). height_missing n (items_of frames)) led.names;
  counted = is ∙ ap feed_status (counted ∙ ap (λ (n : List Namespace). min (count_missing n (items_of frames)) max_count) led.names);
}
