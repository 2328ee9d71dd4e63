use Rattle.std.proofs.Common.{List, ℕ, refl}
use Rattle.square_layout.specs.Blocks.{SquareShares}
use Rattle.da_files.specs.Contents.{contents_of, file_of}
use Rattle.da_files.specs.Frames.{square_in}
use Rattle.da_files.specs.Forms.{requests_judged}
use Rattle.da_serving.specs.Serving.{Serves}
use Rattle.da_status.proofs.EndLemmas.{ends_as}
use Rattle.da_files.proofs.FormLemmas.{refused_ends, judged_with}
use Rattle.da_serving.proofs.serving.answer.Goals as goal

pub returns-in-Err : goal.returns-in-Err
returns-in-Err g c =
    refused_ends (requests_judged c.args.kinds.now (contents_of c.args.files.now)) _ _ _ _ _ c.in-Err.ensures.judged refl

-- the files are the square and the requests that were read
pub returns-in-Ok : goal.returns-in-Ok
returns-in-Ok g c =
    let files = contents_of c.args.files.now in
    ends_as _ _ _ _ _ _ _ _
    (judged_with (λ (square : SquareShares) (bytes : List ℕ). Serves square (g.S.Server.passes square) (g.S.Server.allows square) (g.S.Server.asked bytes))
    (requests_judged c.args.kinds.now files) (square_in (file_of files 0)) c.in-Ok.square c.in-Ok.requests.now (file_of files 1)
    c.in-Ok.ensures.judged c.in-Ok.ensures.square c.in-Ok.ensures.requests) c.serve.ensures
