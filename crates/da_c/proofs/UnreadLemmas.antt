-- What is left in a buffer by an argument that isn't read.
use Rattle.std.proofs.Common.{◌≡◌, ℕ, List, [], Result, Ok, Err, refl, sym, subst, inr}
use Rattle.std.specs.Prelude.{IsOk}
use Rattle.da_files.specs.declared.frames.Unread.{Unread}
use Rattle.da_files.specs.declared.frames.Unread.TheVariants as unread
use Rattle.da_files.specs.Frames.{ReadsSingle}
use Rattle.da_c.specs.declared.replies.Reply.{Reply}
use Rattle.da_c.specs.declared.replies.Reply.TheVariants.{NoMemory}
use Rattle.da_c.specs.Replies.{OutputRelation, TakesArgument, LeavesBuffer, unread_reply}

module _ {A : Type 0} (argument : ℕ) (M : A → OutputRelation) (old : List ℕ) (reply : Reply) where
  -- memory ran out over an argument that is in its form
  full_leaves : (read : Result A ℕ) → IsOk read → reply ≡ NoMemory → LeavesBuffer (TakesArgument argument read M) old old reply
  full_leaves (Ok x) is full = ([], inr (refl, full), refl)
  full_leaves (Err at) is full = absurd cc

  -- an argument isn't read, and nothing is written
  pub unread_leaves : (read : Result A ℕ) (why : Unread) → ReadsSingle {A = A} (Err why) read → reply ≡ unread_reply argument why
      → LeavesBuffer (TakesArgument argument read M) old old reply
  unread_leaves read (unread.BadForm at) e is =
      subst (λ (r : Result A ℕ). LeavesBuffer (TakesArgument argument r M) old old reply) (sym e) ([], (refl, is), refl)
  unread_leaves read unread.NoMemory ok is = full_leaves read ok is
