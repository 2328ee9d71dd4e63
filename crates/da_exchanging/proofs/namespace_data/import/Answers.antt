use Rattle.std.proofs.Common.{ℕ, List, Err, subst}
use Rattle.da_files.specs.Contents.{contents_of}
use Rattle.da_files.specs.Frames.{header_in, ReadsSingle}
use Rattle.da_exchanging.proofs.NamespaceDataLemmas.{no_header}
use Rattle.da_exchanging.proofs.namespace_data.import.Goals as goal

-- HEADER isn't one
pub returns-in-Err : goal.returns-in-Err
returns-in-Err c =
    no_header c.args.name (contents_of c.args.files.now) c.in-Err.why _ c.header_refusal.ensures
    (subst (λ (l : List ℕ). ReadsSingle (Err c.in-Err.why) (header_in l)) c.file.ensures c.in-Err.ensures)
