use Rattle.std.proofs.Common.{Ok, Err, subst, arith, ◌∙◌, ◌+◌, ◌≡◌, ℕ}
use Rattle.std.specs.declared.option.Option.{Option}
use Rattle.std.specs.String.{string_bytes}
use Rattle.da_io.specs.Files.{Files}
use Rattle.da_cli.specs.declared.files.Stop.TheVariants.{NoMemory}
use Rattle.da_cli.specs.Limits.{file_limit, file_limits}
use Rattle.da_words.specs.Words.{words_of, files_named}
use Rattle.da_files.specs.Contents.{contents_of}
use Rattle.da_cli.specs.Gathered.{GathersFiles, ReadsFile}
use Rattle.da_cli.proofs.GatheredLemmas.{last_on, stop_picks, come_on, stop_here, stop_in, all_read_on, named_here, contents_more}
use Rattle.da_cli.proofs.ComeLemmas.{within_here, memory_within}
use Rattle.da_cli.proofs.files.gather.Goals as goal

-- the file that stops it is read from the files that are told at the start
pub returns-in-Err-clause-contents : goal.returns-in-Err-clause-contents
returns-in-Err-clause-contents g c =
    let here = named_here c.args.plain c.args.words.now c.loop-i.i c.in-Ok.name (omega arith) (c.in-Ok.ensures.ok ∙ c.name_at.ensures) in
    let read = subst (λ (o : Option Files). ReadsFile file_limit o (string_bytes c.in-Ok.name) (Err c.in-Err.stop)) c.loop-i.invariant.files c.in-Err.ensures.content in
    stop_here file_limits (g.I.Inputs.files c.args.inputs.now) (files_named c.args.plain (words_of c.args.words.now)) c.loop-i.i c.args.count (contents_of c.loop-i.contents.items) (string_bytes c.in-Ok.name) _ _ c.in-Err.stop
    c.loop-i.invariant.come here read c.in-Err.ensures.stop

pub returns-in-Err-clause-stop : goal.returns-in-Err-clause-stop
returns-in-Err-clause-stop g c =
    let here = named_here c.args.plain c.args.words.now c.loop-i.i c.in-Ok.name (omega arith) (c.in-Ok.ensures.ok ∙ c.name_at.ensures) in
    stop_in file_limits (g.I.Inputs.files c.args.inputs.now) (files_named c.args.plain (words_of c.args.words.now)) c.loop-i.i (string_bytes c.in-Ok.name) _ _ _ c.in-Err.stop
    here c.loop-i.invariant.all c.in-Err.ensures.picked c.in-Err.ensures.stop

-- where memory ran out before a file was picked, the one before it kept its limit
pub returns-in_default-clause-within : goal.returns-in_default-clause-within
returns-in_default-clause-within g c = λ some.
    memory_within file_limits (files_named c.args.plain (words_of c.args.words.now)) c.loop-i.i _ _ _ _ c.loop-i.invariant.last c.loop-i.invariant.within c.loop-i.invariant.idle

-- behind it this one did
pub returns-in_default-push-clause-within : goal.returns-in_default-push-clause-within
returns-in_default-push-clause-within g c =
    let here = named_here c.args.plain c.args.words.now c.loop-i.i c.in-Ok.name (omega arith) (c.in-Ok.ensures.ok ∙ c.name_at.ensures) in
    λ some. within_here file_limits (files_named c.args.plain (words_of c.args.words.now)) c.loop-i.i c.args.count (string_bytes c.in-Ok.name) _ (g.I.Inputs.ended c.read_file.new.inputs) _ _ NoMemory
    here c.in-Ok-read_file.ensures.picked tt c.in-Ok-read_file.ensures.within

-- it kept its limit, or is too long
pub returns-in-Err-clause-within : goal.returns-in-Err-clause-within
returns-in-Err-clause-within g c =
    let here = named_here c.args.plain c.args.words.now c.loop-i.i c.in-Ok.name (omega arith) (c.in-Ok.ensures.ok ∙ c.name_at.ensures) in
    λ some. within_here file_limits (files_named c.args.plain (words_of c.args.words.now)) c.loop-i.i c.args.count (string_bytes c.in-Ok.name) _ _ _ _ c.in-Err.stop
    here c.in-Err.ensures.picked c.in-Err.ensures.stop c.in-Err.ensures.within

pub returns-in-Err-clause-picks : goal.returns-in-Err-clause-picks
returns-in-Err-clause-picks g c =
    stop_picks file_limit c.loop-i.i _ _ _ _ _ c.in-Err.stop c.loop-i-test.true c.in-Err.ensures.stop
    (omega (arith, c.in-Err.ensures.picks, c.loop-i.invariant.picks))

pub returns-in_default-push-clause-picks : goal.returns-in_default-push-clause-picks
returns-in_default-push-clause-picks g c =
    (c.loop-i.i + 1, omega (arith, c.loop-i-test.true), omega (arith, c.in-Ok-read_file.ensures.picks, c.loop-i.invariant.picks))

pub loop-i-preserved : goal.loop-i-preserved
loop-i-preserved g c =
    let told = g.I.Inputs.files c.args.inputs.now in
    let here = named_here c.args.plain c.args.words.now c.loop-i.i c.in-Ok.name (omega arith) (c.in-Ok.ensures.ok ∙ c.name_at.ensures) in
    let read = subst (λ (o : Option Files). ReadsFile file_limit o (string_bytes c.in-Ok.name) (Ok c.in-Ok-read_file.content.items)) c.loop-i.invariant.files c.in-Ok-read_file.ensures.content in
    let come = come_on file_limits told (files_named c.args.plain (words_of c.args.words.now)) c.loop-i.i (contents_of c.loop-i.contents.items) (string_bytes c.in-Ok.name) c.in-Ok-read_file.content.items
    c.loop-i.invariant.come here read in
    record {
      come = rw (c.in-Ok-push.ensures.items, contents_more c.loop-i.contents.items c.in-Ok-read_file.content) come;
      all = all_read_on file_limits told (files_named c.args.plain (words_of c.args.words.now)) c.loop-i.i (string_bytes c.in-Ok.name) c.in-Ok-read_file.content.items c.loop-i.invariant.all here read;
      within = (λ some. c.in-Ok-read_file.ensures.within);
      faults = c.in-Ok-read_file.ensures.faults ∙ c.loop-i.invariant.faults;
      last = last_on (files_named c.args.plain (words_of c.args.words.now)) c.loop-i.i (string_bytes c.in-Ok.name) _ _ here c.in-Ok-read_file.ensures.picked c.in-Ok-read_file.ensures.fine;
      picks = omega (arith, c.in-Ok-read_file.ensures.picks, c.loop-i.invariant.picks);
      idle = (λ none. absurd (omega arith));
      files = c.in-Ok-read_file.ensures.files ∙ c.loop-i.invariant.files;
    }

pub returns-clause-contents : goal.returns-clause-contents
returns-clause-contents g c =
    let end : c.loop-i.i ≡ c.args.count = omega arith in
    subst (λ (n : ℕ). GathersFiles file_limits (g.I.Inputs.files c.args.inputs.now) (files_named c.args.plain (words_of c.args.words.now)) n (Ok (contents_of c.loop-i.contents.items))) end c.loop-i.invariant.come
