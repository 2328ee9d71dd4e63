use Rattle.std.proofs.Common.{◌≡◌, ◌∙◌, ◌-◌, ◌++◌, ℕ, List, Some, None, Vec, cond, true, refl, sym, ap}
use Rattle.std.specs.Option.{option_map}
use Rattle.std.specs.declared.alloc.Global.{Global}
use Rattle.blob_feed.specs.Followers.{is_name}
use Rattle.blob_feed.specs.Feeds.{NamedAnswer}
use Rattle.data_header.specs.Headers.{Roots}
use Rattle.da_following.specs.Follow.{place_text}
use Rattle.da_attending.specs.Attenders.{is_listed, AttendParts, new_text}
use Rattle.da_attending.proofs.StandLemmas.{not_first, more_none, more_some, text_with, reply_answered, stands_answered}
use Rattle.da_attending.proofs.attenders.Attender.take_answer.Goals as goal

-- nothing comes to be had by it
pub returns-in_default-2-clause-heard : goal.returns-in_default-2-clause-heard
returns-in_default-2-clause-heard c = λ fit.
    let given : NamedAnswer = record { name = c.args.name.now; answer = c.args.answer.now } in
    let header : Roots = c.in-Some.header in
    let some : c.args.self.now.header ≡ Some header = sym (ap (λ (w : AttendParts). w.header) c.self.view_is) ∙ c.in-Some.is in
    let none : new_text c.args.self.now header given ≡ None =
    sym c.in_ok-lines.ensures ∙ ap (option_map (λ (t : Vec ℕ Global). t.items)) c.in_default-2.is in
    record {
      names = refl;
      fit = λ items stands. not_first c.args.self.now items stands header some;
      stands = λ items stands few.
          stands_answered header given c.args.self.now items stands some c.args.self.now refl refl refl refl (more_none header given c.args.self.now none);
      reply = λ items stands.
          c.requires.empty ∙ sym (ap (text_with header given (c.args.self.now.heights - 1)) none)
          ∙ reply_answered header given c.args.self.now items stands some (c.args.self.now.heights - 1) refl;
    }

-- something comes to be had by it
pub returns-in-Ok-clause-heard : goal.returns-in-Ok-clause-heard
returns-in-Ok-clause-heard c = λ fit.
    let given : NamedAnswer = record { name = c.args.name.now; answer = c.args.answer.now } in
    let header : Roots = c.in-Some.header in
    let some : c.args.self.now.header ≡ Some header = sym (ap (λ (w : AttendParts). w.header) c.self.view_is) ∙ c.in-Some.is in
    let lines : List ℕ = c.in-Some-2.lines.items in
    let brings : new_text c.args.self.now header given ≡ Some lines =
    sym c.in_ok-lines.ensures ∙ ap (option_map (λ (t : Vec ℕ Global). t.items)) c.in-Some-2.is in
    let number : ℕ = c.saturating_sub.result in
    record {
      names = ap (λ (w : AttendParts). w.names) c.self.view_is;
      fit = λ items stands. not_first c.args.self.now items stands header some;
      stands = λ items stands few.
          stands_answered header given c.args.self.now items stands some _ (ap (λ (w : AttendParts). w.names) c.self.view_is)
          (ap (λ (w : AttendParts). w.header) c.self.view_is) (ap (λ (w : AttendParts). w.heights) c.self.view_is)
          (ap (λ (w : AttendParts). w.missing) c.self.view_is)
          (more_some header given c.args.self.now lines c.insert.new.self.keys brings
          (λ n. c.in-Ok.ensures.updates.0 n ∙ ap (λ (w : AttendParts). cond (is_name c.args.name.now n) true (is_listed w.known n)) c.self.view_is));
      reply = λ items stands.
          c.in_ok-put_known.ensures.appended
          ∙ ap (λ (l : List ℕ). l ++ (place_text number c.args.name.now ++ c.deref.result.now)) c.requires.empty
          ∙ ap (λ (l : List ℕ). place_text number c.args.name.now ++ l) c.deref.ensures.value
          ∙ sym (ap (text_with header given number) brings)
          ∙ reply_answered header given c.args.self.now items stands some number
          (c.saturating_sub.ensures ∙ ap (λ (w : AttendParts). w.heights - 1) c.self.view_is);
    }
