-- What each command writes and answers, over the contents of its files.
use Rattle.std.specs.Prelude.{ℕ, List, [], ◌∷◌, ⊤}
use Rattle.std.specs.declared.option.Option.{Option}
use Rattle.da_words.specs.declared.command.Command.{Command}
use Rattle.da_words.specs.declared.command.Command.TheVariants.{Check, Build, Header, Sample, Namespace, Verify, Compact, Repair, Light, LightBy, Net, Show, Json, Demo, VerifyCommitment, VerifyFor, Root, RootIs, Wanted, Cells, CellsBy, Blobs, Transactions, Find, Commit, Prove, ProveRange, Follow, Import, Export, Help, Version}
use Rattle.da_wire.specs.Spelling.{sample_kind, request_kind}
use Rattle.da_status.specs.Outcome.{Relation}
use Rattle.da_status.specs.Judging.{Judged}
use Rattle.da_files.specs.Frames.{header_in, square_in, block_or_list_in, claim_in}
use Rattle.da_files.specs.Forms.{single_judged, under_judged, messages_judged, requests_judged}
use Rattle.da_judging.specs.Check.{CheckOf}
use Rattle.da_serving.specs.Build.{BuildOf}
use Rattle.da_serving.specs.Header.{HeaderOf}
use Rattle.da_serving.specs.Sample.{SampleOf}
use Rattle.da_serving.specs.Namespace.{NamespaceOf}
use Rattle.da_judging.specs.Verify.{answer_in, VerifyOf}
use Rattle.da_judging.specs.Compact.{CompactOf}
use Rattle.da_judging.specs.Repair.{RepairOf}
use Rattle.da_judging.specs.Light.{LightOf, light_by_judged, LightByOf}
use Rattle.da_commands.specs.Net.{net_judged, NetOf}
use Rattle.da_commands.specs.Show.{show_judged, ShowOf, JsonOf}
use Rattle.da_commands.specs.Demo.{demo_judged, DemoOf}
use Rattle.da_judging.specs.VerifyFor.{verify_for_judged, VerifyForOf}
use Rattle.da_judging.specs.VerifyCommitment.{VerifyCommitmentOf}
use Rattle.da_judging.specs.Root.{RootOf, RootIsOf}
use Rattle.da_serving.specs.Wanted.{missing_in, WantedOf}
use Rattle.da_serving.specs.Blobs.{shares_frame, BlobsOf}
use Rattle.da_serving.specs.Transactions.{TransactionsOf}
use Rattle.da_serving.specs.Find.{FindOf}
use Rattle.da_serving.specs.Commit.{CommitOf}
use Rattle.da_serving.specs.Prove.{ProveOf, ProveRangeOf}
use Rattle.da_following.specs.Follow.{follow_judged, FollowOf}
use Rattle.da_exchanging.specs.Forms.{import_judged, ImportOf, export_judged, ExportOf}
use Rattle.da_commands.specs.Cells.{CellsOf, cells_by_judged, CellsByOf}
use Rattle.da_commands.specs.Help.{help_judged, HelpOf, VersionOf}

-- of each file where it leaves its form, if it does
abbrev pub judged_of : Command → List (List ℕ) → List (Option ℕ)
judged_of Check files = messages_judged files
judged_of Build files = single_judged block_or_list_in files
judged_of Header files = single_judged square_in files
judged_of Sample files = requests_judged (sample_kind ∷ []) files
judged_of Namespace files = requests_judged (request_kind ∷ []) files
judged_of Verify files = under_judged answer_in files
judged_of Compact files = under_judged claim_in files
judged_of Repair files = messages_judged files
judged_of (Light key count) files = messages_judged files
judged_of (LightBy count) files = light_by_judged files
judged_of Net files = net_judged files
judged_of Show files = show_judged files
judged_of Json files = show_judged files
judged_of (Demo number k) files = demo_judged
judged_of (VerifyCommitment commitment) files = under_judged answer_in files
judged_of VerifyFor files = verify_for_judged files
judged_of Root files = single_judged header_in files
judged_of (RootIs root) files = single_judged header_in files
judged_of (Wanted axis) files = single_judged missing_in files
judged_of (Cells key count axis) files = single_judged header_in files
judged_of (CellsBy count axis) files = cells_by_judged files
judged_of Blobs files = single_judged shares_frame files
judged_of Transactions files = single_judged square_in files
judged_of (Find commitment) files = single_judged square_in files
judged_of Commit files = single_judged block_or_list_in files
judged_of Prove files = requests_judged (sample_kind ∷ []) files
judged_of (ProveRange start count) files = single_judged square_in files
judged_of Follow files = follow_judged files
judged_of (Import form) files = import_judged form files
judged_of (Export form) files = export_judged form files
judged_of Help files = help_judged
judged_of Version files = help_judged

-- the answer over files in their forms
abbrev pub AnswerOf : Command → List (List ℕ) → Relation
AnswerOf Check files = CheckOf files
AnswerOf Build files = BuildOf files
AnswerOf Header files = HeaderOf files
AnswerOf Sample files = SampleOf files
AnswerOf Namespace files = NamespaceOf files
AnswerOf Verify files = VerifyOf files
AnswerOf Compact files = CompactOf files
AnswerOf Repair files = RepairOf files
AnswerOf (Light key count) files = LightOf key count files
AnswerOf (LightBy count) files = LightByOf count files
AnswerOf Net files = NetOf files
AnswerOf Show files = ShowOf files
AnswerOf Json files = JsonOf files
AnswerOf (Demo number k) files = DemoOf number k
AnswerOf (VerifyCommitment commitment) files = VerifyCommitmentOf commitment files
AnswerOf VerifyFor files = VerifyForOf files
AnswerOf Root files = RootOf files
AnswerOf (RootIs root) files = RootIsOf root files
AnswerOf (Wanted axis) files = WantedOf axis files
AnswerOf (Cells key count axis) files = CellsOf key count axis files
AnswerOf (CellsBy count axis) files = CellsByOf count axis files
AnswerOf Blobs files = BlobsOf files
AnswerOf Transactions files = TransactionsOf files
AnswerOf (Find commitment) files = FindOf commitment files
AnswerOf Commit files = CommitOf files
AnswerOf Prove files = ProveOf files
AnswerOf (ProveRange start count) files = ProveRangeOf start count files
AnswerOf Follow files = FollowOf files
AnswerOf (Import form) files = ImportOf form files
AnswerOf (Export form) files = ExportOf form files
AnswerOf Help files = HelpOf
AnswerOf Version files = VersionOf

-- what a command writes and answers over any files
abbrev pub Meaning : Command → List (List ℕ) → Relation
Meaning command files = Judged (judged_of command files) (AnswerOf command files)

-- commands that take all of their memory before they write
abbrev pub TakesFirst : Command → Type 0
TakesFirst Check = ⊤
TakesFirst Build = ⊤
TakesFirst Header = ⊤
TakesFirst Verify = ⊤
TakesFirst Compact = ⊤
TakesFirst Repair = ⊤
TakesFirst (Light key count) = ⊤
TakesFirst (LightBy count) = ⊤
TakesFirst Net = ⊤
TakesFirst (Demo number k) = ⊤
TakesFirst (VerifyCommitment commitment) = ⊤
TakesFirst VerifyFor = ⊤
TakesFirst Root = ⊤
TakesFirst (RootIs root) = ⊤
TakesFirst (Wanted axis) = ⊤
TakesFirst (Cells key count axis) = ⊤
TakesFirst (CellsBy count axis) = ⊤
TakesFirst Blobs = ⊤
TakesFirst Transactions = ⊤
TakesFirst (Find commitment) = ⊤
TakesFirst Commit = ⊤
TakesFirst (ProveRange start count) = ⊤
TakesFirst Follow = ⊤
TakesFirst (Import form) = ⊤
TakesFirst (Export form) = ⊤
TakesFirst Help = ⊤
TakesFirst Version = ⊤
TakesFirst command = ⊥
