use Rattle.std.proofs.Common.{◌≡◌, ◌≤◌, ◌<◌, Ok}
use Rattle.da_io.specs.Faults.{count_on}
use Rattle.da_cli.specs.Limits.{file_limit, file_limits}
use Rattle.da_words.specs.Words.{words_of, files_named}
use Rattle.da_files.specs.Contents.{contents_of}
use Rattle.da_cli.specs.Gathered.{AllRead, GathersFiles, IsLastOf}
use Rattle.da_cli.proofs.files.gather.Given as goal

-- the files before number i were read whole, and no call failed
abbrev pub invariant-loop-i : goal.invariant-loop-i
invariant-loop-i g l = record {
  come : GathersFiles file_limits (g.I.Inputs.files l.fn.inputs) (files_named l.plain (words_of l.words)) l.i (Ok (contents_of l.contents.items));
  all : AllRead file_limits (g.I.Inputs.files l.fn.inputs) (files_named l.plain (words_of l.words)) l.i;
  within : 0 < l.i → g.I.Inputs.given l.inputs ≤ file_limit;
  faults : g.I.Inputs.faults l.inputs ≡ g.I.Inputs.faults l.fn.inputs;
  last : IsLastOf (files_named l.plain (words_of l.words)) l.i (g.I.Inputs.picked l.inputs) (g.I.Inputs.ended l.inputs);
  picks : g.I.Inputs.picks l.inputs ≡ count_on (g.I.Inputs.picks l.fn.inputs) l.i;
  idle : l.i ≡ 0 → l.inputs ≡ l.fn.inputs;
  files : g.I.Inputs.files l.inputs ≡ g.I.Inputs.files l.fn.inputs;
}
