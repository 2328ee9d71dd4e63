-- What was said to frames, and where.
use Rattle.std.proofs.Common.{ℕ, List, ◌++◌, length, refl, sym, subst, inl}
use Rattle.std.specs.List.Sorted.{IsStrictlySortedBy}
use Rattle.namespace_id.specs.declared.namespaces.Namespace.{Namespace}
use Rattle.namespace_id.specs.Names.{namespace_cmp}
use Rattle.blob_feed.specs.Feeds.{Item, heights_of}
use Rattle.da_wire.specs.Reading.{Raw}
use Rattle.da_status.specs.declared.status.Status.{Status}
use Rattle.da_following.specs.Heights.{fed_by}
use Rattle.da_talk.specs.Spoken.{AreReplies, begun, told}
use Rattle.da_attending.specs.Attended.{items_of, attending}
use Rattle.da_attending.specs.Orders.{AreLinesOf}
use Rattle.da_attending.specs.Laws.{SaysLines}
use Rattle.da_attending.proofs.FrameLemmas.{items_more}
use Rattle.da_attending.proofs.LineLemmas.{HasSaid, said_more, all_said}

-- what was said to frames is what is due so far
told_so : (names : List Namespace) (kept : Status) → IsStrictlySortedBy namespace_cmp names → (frames : List Raw) (said : List ℕ)
    → AreReplies (attending names) kept frames said → HasSaid names (items_of frames) said
told_so names kept sorted frames said (begun text is) = inl (refl, is)
told_so names kept sorted frames said (told before frame some text so replies) =
    subst (λ (l : List Item). HasSaid names l (some ++ text)) (sym (items_more before frame replies.item replies.is))
    (said_more names sorted (items_of before) replies.item some text (told_so names kept sorted before some so) replies.fit replies.reply)

-- with the last words they are the lines of what is fed
pub says_lines : SaysLines
says_lines names kept status frames said text sorted so ends =
    subst (λ (t : List ℕ). AreLinesOf (fed_by names (heights_of (items_of frames))) names (length (heights_of (items_of frames))) (said ++ t))
    (sym ends.words) (all_said names (items_of frames) said (told_so names kept sorted frames said so))
