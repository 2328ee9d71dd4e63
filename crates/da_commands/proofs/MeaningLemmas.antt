-- What every command answers over files in their forms.
use Rattle.std.proofs.Common.{ℕ, List}
use Rattle.da_wire.specs.Values.{values_of}
use Rattle.da_show.specs.Text.{shown_text}
use Rattle.da_show.specs.Json.{json_text}
use Rattle.da_status.specs.declared.status.Status.{Status}
use Rattle.da_status.specs.Statuses.{status_kind}
use Rattle.da_status.proofs.EndLemmas.{IsAnswer, answer_output, status_answers}
use Rattle.da_words.specs.declared.command.Command.{Command}
use Rattle.da_words.specs.declared.command.Command.TheVariants.{Check, Build, Header, Sample, Namespace, Verify, Compact, Repair, Light, LightBy, Net, Show, Json, Demo, VerifyCommitment, VerifyFor, Root, RootIs, Wanted, Cells, CellsBy, Blobs, Transactions, Find, Commit, Prove, ProveRange, Follow, Import, Export, Help, Version}
use Rattle.da_commands.specs.Show.{all_kinds, shown_file}
use Rattle.da_commands.specs.Meaning.{AnswerOf}
use Rattle.da_judging.proofs.CheckLemmas.{check_last}
use Rattle.da_serving.proofs.BuildLemmas.{build_answers}
use Rattle.da_serving.proofs.HeaderLemmas.{header_answers}
use Rattle.da_serving.proofs.SampleLemmas.{sample_answers}
use Rattle.da_serving.proofs.NamespaceLemmas.{namespace_answers}
use Rattle.da_judging.proofs.VerifyLemmas.{verify_last, verify_for_last, verify_commitment_last}
use Rattle.da_judging.proofs.CompactLemmas.{compact_last}
use Rattle.da_judging.proofs.RepairLemmas.{repair_last}
use Rattle.da_judging.proofs.LightLemmas.{light_answers, light_by_answers}
use Rattle.da_commands.proofs.Answering.NetLemmas.{net_answers}
use Rattle.da_commands.proofs.Answering.ShowLemmas.{shows_answers}
use Rattle.da_commands.proofs.Answering.DemoLemmas.{demo_answers}
use Rattle.da_commands.proofs.Answering.CellsLemmas.{cells_answers, cells_by_answers}
use Rattle.da_judging.proofs.RootLemmas.{root_last, root_is_last}
use Rattle.da_serving.proofs.WantedLemmas.{wanted_last}
use Rattle.da_serving.proofs.BlobsLemmas.{blobs_answers}
use Rattle.da_serving.proofs.TransactionsLemmas.{transactions_answers}
use Rattle.da_serving.proofs.FindLemmas.{find_answers}
use Rattle.da_serving.proofs.CommitLemmas.{commit_answers}
use Rattle.da_serving.proofs.ProveLemmas.{prove_answers, prove_range_answers}
use Rattle.da_following.proofs.FollowLemmas.{follow_answers}
use Rattle.da_exchanging.proofs.FormLemmas.{import_answers, export_answers}

-- a command's answer comes with its output, or refuses what the files ask for
pub answer_last : (command : Command) (files : List (List ℕ)) (w : List ℕ) (status : Status) → AnswerOf command files w status → IsAnswer (status_kind status)
answer_last Check files w status h = answer_output status (check_last files w status h)
answer_last Build files w status h = build_answers files w status h
answer_last Header files w status h = header_answers files w status h
answer_last Sample files w status h = sample_answers files w status h
answer_last Namespace files w status h = namespace_answers files w status h
answer_last Verify files w status h = answer_output status (verify_last files w status h)
answer_last Compact files w status h = answer_output status (compact_last files w status h)
answer_last Repair files w status h = answer_output status (repair_last files w status h)
answer_last (Light key count) files w status h = light_answers key count files w status h
answer_last (LightBy count) files w status h = light_by_answers count files w status h
answer_last Net files w status h = net_answers files w status h
answer_last Show files w status h = shows_answers shown_text (values_of all_kinds (shown_file files)) w status h
answer_last Json files w status h = shows_answers json_text (values_of all_kinds (shown_file files)) w status h
answer_last (Demo number k) files w status h = demo_answers number k w status h
answer_last (VerifyCommitment commitment) files w status h = answer_output status (verify_commitment_last commitment files w status h)
answer_last VerifyFor files w status h = answer_output status (verify_for_last files w status h)
answer_last Root files w status h = answer_output status (root_last files w status h)
answer_last (RootIs root) files w status h = answer_output status (root_is_last root files w status h)
answer_last (Wanted axis) files w status h = answer_output status (wanted_last axis files w status h)
answer_last (Cells key count axis) files w status h = cells_answers key count axis files w status h
answer_last (CellsBy count axis) files w status h = cells_by_answers count axis files w status h
answer_last Blobs files w status h = blobs_answers files w status h
answer_last Transactions files w status h = transactions_answers files w status h
answer_last (Find commitment) files w status h = find_answers commitment files w status h
answer_last Commit files w status h = commit_answers files w status h
answer_last Prove files w status h = prove_answers files w status h
answer_last (ProveRange start count) files w status h = prove_range_answers start count files w status h
answer_last Follow files w status h = follow_answers files w status h
answer_last (Import form) files w status h = import_answers form files w status h
answer_last (Export form) files w status h = export_answers form files w status h
answer_last Help files w status h = status_answers status _ h.1 tt
answer_last Version files w status h = status_answers status _ h.1 tt
