use Rattle.da_exchanging.proofs.LawLemmas.{dah_exported, dah_imported, sample_exported, sample_imported, row_data_exported, row_data_imported, befp_exported, befp_imported, ods_exported, ods_imported, sample_id_exported, sample_id_imported, namespace_id_exported, namespace_id_imported}
use Rattle.da_exchanging.proofs.ShareLawLemmas.{share_proof_exported, share_proof_imported}
use Rattle.da_exchanging.proofs.StreamLawLemmas.{stream_exported, stream_imported}
use Rattle.da_exchanging.proofs.OneWayLemmas.{header_is_of_dah, row_is_of_square}
use Rattle.da_exchanging.proofs.laws.exchange_laws.Goals as goal

pub returns-clause-dah : goal.returns-clause-dah
returns-clause-dah c = dah_exported c.wire_laws.ensures.only_read c.dah_laws.ensures.spelled

pub returns-clause-dah_back : goal.returns-clause-dah_back
returns-clause-dah_back c = dah_imported c.wire_laws.ensures.only c.dah_laws.ensures.read

pub returns-clause-sample : goal.returns-clause-sample
returns-clause-sample c = sample_exported c.wire_laws.ensures.only_read c.sample_laws.ensures.spelled

pub returns-clause-sample_back : goal.returns-clause-sample_back
returns-clause-sample_back c = sample_imported c.wire_laws.ensures.only c.sample_laws.ensures.read

pub returns-clause-row_data : goal.returns-clause-row_data
returns-clause-row_data c = row_data_exported c.wire_laws.ensures.only_read c.row_data_laws.ensures.spelled

pub returns-clause-row_data_back : goal.returns-clause-row_data_back
returns-clause-row_data_back c = row_data_imported c.wire_laws.ensures.only c.row_data_laws.ensures.read

pub returns-clause-befp : goal.returns-clause-befp
returns-clause-befp c = befp_exported c.wire_laws.ensures.only_read c.befp_laws.ensures.read

pub returns-clause-befp_back : goal.returns-clause-befp_back
returns-clause-befp_back c = befp_imported c.wire_laws.ensures.only c.befp_laws.ensures.read

pub returns-clause-ods : goal.returns-clause-ods
returns-clause-ods c = ods_exported c.wire_laws.ensures.only_read c.ods_laws.ensures.spelled

pub returns-clause-ods_back : goal.returns-clause-ods_back
returns-clause-ods_back c = ods_imported c.wire_laws.ensures.only c.ods_laws.ensures.read

pub returns-clause-sample_id : goal.returns-clause-sample_id
returns-clause-sample_id c = sample_id_exported c.wire_laws.ensures.only_read c.id_laws.ensures.sample_spelled

pub returns-clause-sample_id_back : goal.returns-clause-sample_id_back
returns-clause-sample_id_back c = sample_id_imported c.wire_laws.ensures.only c.id_laws.ensures.sample_read

pub returns-clause-namespace_id : goal.returns-clause-namespace_id
returns-clause-namespace_id c = namespace_id_exported c.wire_laws.ensures.only_read c.id_laws.ensures.namespace_spelled

pub returns-clause-namespace_id_back : goal.returns-clause-namespace_id_back
returns-clause-namespace_id_back c = namespace_id_imported c.wire_laws.ensures.only c.id_laws.ensures.namespace_read

pub returns-clause-share_proof : goal.returns-clause-share_proof
returns-clause-share_proof c = share_proof_exported c.wire_laws.ensures.only_read c.share_proof_laws.ensures.spelled

pub returns-clause-share_proof_back : goal.returns-clause-share_proof_back
returns-clause-share_proof_back c = share_proof_imported c.wire_laws.ensures.only c.share_proof_laws.ensures.read

pub returns-clause-namespace_data : goal.returns-clause-namespace_data
returns-clause-namespace_data c = stream_exported c.wire_laws.ensures.only c.wire_laws.ensures.only_read c.namespace_data_laws.ensures.spelled

pub returns-clause-namespace_data_back : goal.returns-clause-namespace_data_back
returns-clause-namespace_data_back c = stream_imported c.wire_laws.ensures.only c.namespace_data_laws.ensures.read

pub returns-clause-header : goal.returns-clause-header
returns-clause-header c = header_is_of_dah c.extended_laws.ensures.common

pub returns-clause-row : goal.returns-clause-row
returns-clause-row c = row_is_of_square c.half_row_laws.ensures.spelled c.row_laws.ensures.of_square
