-- A session is fed as a stream goes on.
use Rattle.std.proofs.Common.{◌≡◌, ◌∙◌, ℕ, ◌+◌, ◌≤◌, ◌<◌, List, [], ◌∷◌, ◌++◌, length, take, drop, Some, None, Ok, Err, Result, refl, sym, ap, subst, arith, append_assoc, append-nil, length-append, take-append-drop}
use Rattle.std.specs.List.{sum_by}
use Rattle.std.specs.declared.option.Option.{Option}
use Rattle.std.specs.Option.{option_map_or}
use Rattle.std.specs.Io.KnownBytes.{Consumes, Keeps, IsAtEnd}
use Rattle.std.proofs.KnownBytes.{Consumes-nil, Consumes-trans, Consumes-kept}
use Rattle.std.proofs.lemmas.Grind.{flat_map-append}
use Rattle.std.proofs.lemmas.List.Sums.{sum_by-append}
use Rattle.std.proofs.lemmas.Option.{none-some}
use Rattle.data_header.specs.Headers.{Roots}
use Rattle.axis_roots.specs.declared.message.messages.Message.{Message}
use Rattle.axis_roots.specs.declared.message.messages.CheckRefusal.{CheckRefusal}
use Rattle.axis_roots.specs.Messages.{message_refusal}
use Rattle.da_io.specs.Faults.{max_count, count_on}
use Rattle.da_wire.specs.declared.streams.Pushed.TheVariants as pushed
use Rattle.da_wire.specs.Reading.{Raw}
use Rattle.da_wire.specs.Walks.{walk_from}
use Rattle.da_wire.specs.Frames.{frames_of, raw_message}
use Rattle.da_wire.specs.StreamParts.{StreamParts}
use Rattle.da_wire.specs.Streams.{StreamStands, EndsFrame, FramesStay}
use Rattle.da_cli.specs.declared.feeding.FeedFault.{FeedFault}
use Rattle.da_cli.specs.declared.feeding.FeedFault.TheVariants.{ReadFailed, TooLong, Bad}
use Rattle.da_cli.specs.Feeding.{proved_by, lies_by, proved_among, lies_among, HasGone, AnswersFed, Feeds, FeedsTold, EndsFed, JudgesFed, fed_faults}

-- ---- one sample

-- a sample that isn't proved is not fed, and is a lie
pub refused_by : (header : Roots) (m : Message) (why : CheckRefusal) → Some why ≡ message_refusal header m → (proved_by header (Some m) ≡ []) × (lies_by header (Some m) ≡ 1)
refused_by header m why e = (
  ap (λ (o : Option CheckRefusal). option_map_or (λ why. []) o (m ∷ [])) (sym e),
  ap (λ (o : Option CheckRefusal). option_map_or (λ why. 1) o 0) (sym e),
)

-- a proved one is fed, and is none
pub accepted_by : (header : Roots) (m : Message) → message_refusal header m ≡ None → (proved_by header (Some m) ≡ m ∷ []) × (lies_by header (Some m) ≡ 0)
accepted_by header m e = (
  ap (λ (o : Option CheckRefusal). option_map_or (λ why. []) o (m ∷ [])) e,
  ap (λ (o : Option CheckRefusal). option_map_or (λ why. 1) o 0) e,
)

-- ---- one push

-- a push that ended no frame
pub gone_same : (old new : StreamParts) (Had Has : List Message → Type 0) (header : Roots) (bytes : List ℕ)
    → ((before : List ℕ) → StreamStands old before → StreamStands new (before ++ bytes))
    → ((before : List ℕ) → StreamStands old before → frames_of (before ++ bytes) ≡ frames_of before)
    → ((ms : List Message) → Had ms → Has ms) → HasGone old new Had Has header bytes 0
gone_same old new Had Has header bytes stands same goes = record {
  stands = stands;
  fed = λ before ms is had. subst (λ (f : List Raw). Has (ms ++ proved_among header f)) (sym (same before is)) (goes (ms ++ proved_among header (frames_of before)) had);
  lies_are = λ before is. ap (lies_among header) (same before is) ∙ let e : lies_among header (frames_of before) ≡ lies_among header (frames_of before) + 0 = omega arith in e;
}

-- one more frame among frames
more_proved : (header : Roots) (before after : List Raw) (frame : Raw) (m : Option Message) → after ≡ before ++ frame ∷ [] → m ≡ raw_message frame
    → proved_among header after ≡ proved_among header before ++ proved_by header m
more_proved header before after frame m e f =
    ap (proved_among header) e ∙ flat_map-append (λ (g : Raw). proved_by header (raw_message g)) before (frame ∷ [])
    ∙ ap (λ (l : List Message). proved_among header before ++ l) (append-nil (proved_by header (raw_message frame)) ∙ ap (proved_by header) (sym f))

more_lies : (header : Roots) (before after : List Raw) (frame : Raw) (m : Option Message) → after ≡ before ++ frame ∷ [] → m ≡ raw_message frame
    → lies_among header after ≡ lies_among header before + lies_by header m
more_lies header before after frame m e f =
    let count : Raw → ℕ = λ g. lies_by header (raw_message g) in
    let all : sum_by count after ≡ sum_by count before + (0 + lies_by header (raw_message frame)) =
    ap (sum_by count) e ∙ sum_by-append count before (frame ∷ []) in
    omega (arith, all, ap (lies_by header) f)

-- a push that ended a frame, whose sample was fed where it is proved
pub gone_frame : (old new : StreamParts) (Had Has : List Message → Type 0) (header : Roots) (bytes : List ℕ) (m : Option Message)
    → ((before : List ℕ) → StreamStands old before → StreamStands new (before ++ bytes))
    → ((before : List ℕ) → StreamStands old before → EndsFrame (frames_of before) (frames_of (before ++ bytes)) (pushed.Frame m))
    → ((ms : List Message) → Had ms → Has (ms ++ proved_by header m)) → HasGone old new Had Has header bytes (lies_by header m)
gone_frame old new Had Has header bytes m stands ends goes = record {
  stands = stands;
  fed = λ before ms is had.
      let e = ends before is in
      let all : (ms ++ proved_among header (frames_of before)) ++ proved_by header m ≡ ms ++ proved_among header (frames_of (before ++ bytes)) =
      append_assoc ms (proved_among header (frames_of before)) (proved_by header m)
      ∙ ap (λ (l : List Message). ms ++ l) (sym (more_proved header (frames_of before) (frames_of (before ++ bytes)) e.0 m e.1 e.2)) in
      subst Has all (goes (ms ++ proved_among header (frames_of before)) had);
  lies_are = λ before is. let e = ends before is in more_lies header (frames_of before) (frames_of (before ++ bytes)) e.0 m e.1 e.2;
}

-- ---- one piece

-- bytes, and then more
pub gone_on : (a b c : StreamParts) (A B C : List Message → Type 0) (header : Roots) (some more : List ℕ) (lies others : ℕ)
    → HasGone a b A B header some lies → HasGone b c B C header more others → HasGone a c A C header (some ++ more) (lies + others)
gone_on a b c A B C header some more lies others first second =
    let joined : (before : List ℕ) → (before ++ some) ++ more ≡ before ++ (some ++ more) = λ before. append_assoc before some more in
    record {
      stands = λ before is. subst (λ (l : List ℕ). StreamStands c l) (joined before) (second.stands (before ++ some) (first.stands before is));
      fed = λ before ms is had.
          subst (λ (l : List ℕ). C (ms ++ proved_among header (frames_of l))) (joined before)
          (second.fed (before ++ some) ms (first.stands before is) (first.fed before ms is had));
      lies_are = λ before is.
          ap (λ (l : List ℕ). lies_among header (frames_of l)) (sym (joined before))
          ∙ second.lies_are (before ++ some) (first.stands before is)
          ∙ ap (λ (n : ℕ). n + others) (first.lies_are before is)
          ∙ let e : lies_among header (frames_of before) + lies + others ≡ lies_among header (frames_of before) + (lies + others) = omega arith in e;
    }

-- of a piece the bytes before the rest are done
abbrev pub IsPart : StreamParts → StreamParts → (List Message → Type 0) → (List Message → Type 0) → Roots → List ℕ → List ℕ → ℕ → Type 0
IsPart old new Had Has header piece rest lies = (done : List ℕ) × (piece ≡ done ++ rest) × HasGone old new Had Has header done lies

-- at first none are
pub part_none : (old : StreamParts) (Had : List Message → Type 0) (header : Roots) (piece : List ℕ) → IsPart old old Had Had header piece piece 0
part_none old Had header piece =
    ([], refl, gone_same old old Had Had header [] (λ before is. subst (StreamStands old) (sym (append-nil before)) is) (λ before is. ap frames_of (append-nil before)) (λ ms had. had))

-- more of them are
pub part_on : (a b c : StreamParts) (A B C : List Message → Type 0) (header : Roots) (piece rest : List ℕ) (count lies more : ℕ)
    → IsPart a b A B header piece rest lies → HasGone b c B C header (take count rest) more → IsPart a c A C header piece (drop count rest) (lies + more)
part_on a b c A B C header piece rest count lies more part gone = (
  part.0 ++ take count rest,
  part.1 ∙ ap (λ (l : List ℕ). part.0 ++ l) (sym (take-append-drop count rest)) ∙ sym (append_assoc part.0 (take count rest) (drop count rest)),
  gone_on a b c A B C header part.0 (take count rest) lies more part.2 gone,
)

-- ---- all pieces

-- what was read of a file, and what a session was fed with of it
pub record HasFed (stream : StreamParts) (old new : Option (List ℕ)) (before now : ℕ) (header : Roots) (lies : ℕ) (Had Has : List Message → Type 0) : Type 0 where
  pub bytes : List ℕ
  pub stands : StreamStands stream bytes
  pub moved : Consumes old new bytes
  pub counted : now ≡ count_on before (length bytes)
  pub lies_are : lies ≡ lies_among header (frames_of bytes)
  pub fed : (ms : List Message) → Had ms → Has (ms ++ proved_among header (frames_of bytes))

-- at first nothing was
pub fed_none : (stream : StreamParts) (rest : Option (List ℕ)) (given : ℕ) (header : Roots) (Had : List Message → Type 0) → StreamStands stream [] → given ≤ 18446744073709551615
    → HasFed stream rest rest given given header 0 Had Had
unfolding walk_from
fed_none stream rest given header Had stands few = record {
  bytes = [];
  stands = stands;
  moved = Consumes-nil rest;
  counted = omega (arith, few);
  lies_are = refl;
  fed = λ ms had. subst Had (sym (append-nil ms)) had;
}

-- one more piece
pub fed_on : (a b : StreamParts) (old mid new : Option (List ℕ)) (before given now : ℕ) (header : Roots) (lies more : ℕ) (Had A B : List Message → Type 0) (piece : List ℕ)
    → HasFed a old mid before given header lies Had A → HasGone a b A B header piece more → Consumes mid new piece → now ≡ count_on given (length piece)
    → HasFed b old new before now header (lies + more) Had B
fed_on a b old mid new before given now header lies more Had A B piece fed gone moved counted = record {
  bytes = fed.bytes ++ piece;
  stands = gone.stands fed.bytes fed.stands;
  moved = Consumes-trans old mid new fed.bytes piece fed.moved moved;
  counted = omega (arith, fed.counted, counted, length-append fed.bytes piece);
  lies_are = ap (λ (n : ℕ). n + more) fed.lies_are ∙ sym (gone.lies_are fed.bytes fed.stands);
  fed = λ ms had. gone.fed fed.bytes ms fed.stands (fed.fed ms had);
}

-- a read that gave no byte changes nothing
pub end_on : (a : StreamParts) (old mid new : Option (List ℕ)) (before given now : ℕ) (header : Roots) (lies : ℕ) (Had A : List Message → Type 0) (piece : List ℕ)
    → {count : ℕ} → HasFed a old mid before given header lies Had A → count ≡ 0 → Consumes mid new (take count piece) → now ≡ count_on given count
    → HasFed a old new before now header lies Had A
end_on a old mid new before given now header lies Had A piece fed none moved counted = record {
  bytes = fed.bytes;
  stands = fed.stands;
  moved = subst (Consumes old new) (append-nil fed.bytes) (Consumes-trans old mid new fed.bytes [] fed.moved (subst (λ (n : ℕ). Consumes mid new (take n piece)) none moved));
  counted = omega (arith, fed.counted, counted, none);
  lies_are = fed.lies_are;
  fed = fed.fed;
}

-- ---- answers

-- what is answered at the end
pub judged_feeds : (stream : StreamParts) (old new : Option (List ℕ)) (before now limit : ℕ) (header : Roots) (lies : ℕ) (Had Has : List Message → Type 0) (result : Result ℕ FeedFault)
    → (fed : HasFed stream old new before now header lies Had Has) → stream.taken ≤ limit → JudgesFed fed.bytes lies result
    → Feeds old new before now limit header (λ more. (ms : List Message) → Had ms → Has (ms ++ more)) result
judged_feeds stream old new before now limit header lies Had Has (Ok n) fed few j = record {
  bytes = fed.bytes;
  moved = fed.moved;
  counted = fed.counted;
  answer = (omega (arith, few, fed.stands.count), j.0, j.1 ∙ fed.lies_are);
  fed = fed.fed;
}
judged_feeds stream old new before now limit header lies Had Has (Err ReadFailed) fed few j = absurd j
judged_feeds stream old new before now limit header lies Had Has (Err (TooLong n)) fed few j = absurd j
judged_feeds stream old new before now limit header lies Had Has (Err (Bad at)) fed few j = record {
  bytes = fed.bytes;
  moved = fed.moved;
  counted = fed.counted;
  answer = (omega (arith, few, fed.stands.count), j);
  fed = (proved_among header (frames_of fed.bytes), [], sym (append-nil (proved_among header (frames_of fed.bytes))), fed.fed);
}

-- bytes that are all of what was left
pub all_left : (old new : Option (List ℕ)) (bytes rest : List ℕ) → old ≡ Some rest → Consumes old new bytes → IsAtEnd new → bytes ≡ rest
all_left None new bytes rest e moved end = absurd (none-some rest e)
all_left (Some l) None bytes rest e moved end = absurd moved
all_left (Some l) (Some m) bytes rest e moved end =
    let same : l ≡ rest = cc in
    sym (sym same ∙ moved ∙ ap (λ (x : List ℕ). bytes ++ x) end ∙ append-nil bytes)

-- what was left has at least the bytes that came
pub long_left : (old new : Option (List ℕ)) (bytes rest : List ℕ) → old ≡ Some rest → Consumes old new bytes → length bytes ≤ length rest
long_left None new bytes rest e moved = absurd (none-some rest e)
long_left (Some l) None bytes rest e moved = absurd moved
long_left (Some l) (Some m) bytes rest e moved =
    let same : l ≡ rest = cc in
    omega (arith, ap length moved, ap length same, length-append bytes m)

-- where the bytes are told, the answer is that of all of them
pub told : (old new : Option (List ℕ)) (before now limit : ℕ) (header : Roots) (Grows : List Message → Type 0) (result : Result ℕ FeedFault)
    → Feeds old new before now limit header Grows result → EndsFed new result → FeedsTold old header limit result
told None new before now limit header Grows result feeds end = tt
told (Some rest) new before now limit header Grows (Ok lies) feeds end =
    subst (λ (l : List ℕ). AnswersFed header l limit (Ok lies)) (all_left (Some rest) new feeds.bytes rest refl feeds.moved end) feeds.answer
told (Some rest) new before now limit header Grows (Err ReadFailed) feeds end = tt
told (Some rest) new before now limit header Grows (Err (TooLong n)) feeds end =
    (feeds.answer.0, omega (arith, feeds.answer.1, long_left (Some rest) new feeds.bytes rest refl feeds.moved))
told (Some rest) new before now limit header Grows (Err (Bad at)) feeds end =
    subst (λ (l : List ℕ). AnswersFed header l limit (Err (Bad at))) (all_left (Some rest) new feeds.bytes rest refl feeds.moved end) feeds.answer

-- a read that gave the end leaves nothing
pub ends_fed : (rest : Option (List ℕ)) (result : Result ℕ FeedFault) → IsAtEnd rest → EndsFed rest result
ends_fed rest (Ok lies) end = end
ends_fed rest (Err ReadFailed) end = tt
ends_fed rest (Err (TooLong n)) end = tt
ends_fed rest (Err (Bad at)) end = end

-- what is judged at the end counts no failure
pub no_fault : (faults lies : ℕ) (bytes : List ℕ) (result : Result ℕ FeedFault) → faults ≤ max_count → JudgesFed bytes lies result
    → faults ≡ count_on faults (fed_faults result)
no_fault faults lies bytes (Ok n) few j = omega (arith, few)
no_fault faults lies bytes (Err ReadFailed) few j = absurd j
no_fault faults lies bytes (Err (TooLong n)) few j = absurd j
no_fault faults lies bytes (Err (Bad at)) few j = omega (arith, few)

-- a read that failed
pub failed_feeds : (stream : StreamParts) (old mid new : Option (List ℕ)) (before given now limit : ℕ) (header : Roots) (lies : ℕ) (Had Has : List Message → Type 0)
    → HasFed stream old mid before given header lies Had Has → stream.taken ≤ limit → Keeps mid new → now ≡ given
    → Feeds old new before now limit header (λ more. (ms : List Message) → Had ms → Has (ms ++ more)) (Err ReadFailed)
failed_feeds stream old mid new before given now limit header lies Had Has fed few kept same = record {
  bytes = fed.bytes;
  moved = Consumes-kept old mid new fed.bytes fed.moved kept;
  counted = same ∙ fed.counted;
  answer = omega (arith, few, fed.stands.count);
  fed = (proved_among header (frames_of fed.bytes), [], sym (append-nil (proved_among header (frames_of fed.bytes))), fed.fed);
}

-- a read that went past the limit
pub long_feeds : FramesStay → (stream : StreamParts) (old mid new : Option (List ℕ)) (before given now limit : ℕ) (header : Roots) (lies : ℕ) (Had Has : List Message → Type 0) (piece : List ℕ)
    → HasFed stream old mid before given header lies Had Has → limit < stream.taken + length piece → Consumes mid new piece → now ≡ count_on given (length piece)
    → Feeds old new before now limit header (λ more. (ms : List Message) → Had ms → Has (ms ++ more)) (Err (TooLong limit))
long_feeds stay stream old mid new before given now limit header lies Had Has piece fed long moved counted =
    let later = stay fed.bytes piece in
    record {
      bytes = fed.bytes ++ piece;
      moved = Consumes-trans old mid new fed.bytes piece fed.moved moved;
      counted = omega (arith, fed.counted, counted, length-append fed.bytes piece);
      answer = (refl, omega (arith, long, fed.stands.count, length-append fed.bytes piece));
      fed = (
        proved_among header (frames_of fed.bytes),
        proved_among header later.0,
        ap (proved_among header) later.1 ∙ flat_map-append (λ (g : Raw). proved_by header (raw_message g)) (frames_of fed.bytes) later.0,
        fed.fed,
      );
    }
