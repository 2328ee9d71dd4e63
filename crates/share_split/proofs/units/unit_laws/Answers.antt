use Rattle.share_split.proofs.Writing.UnitLaws.{unit_shares_are_counted, long_texts_take_many_shares, unit_shares_are_shares}
use Rattle.proto_fields.proofs.Varint.Laws.{varint_states, varint_is_marked, varint_is_shortest}
use Rattle.share_split.proofs.Reading.Unit.{varint_is_read, read_is_varint}
use Rattle.share_split.proofs.Writing.ReservedLaws.{reserved_is_first, reserved_is_none}
use Rattle.share_split.proofs.units.unit_laws.Goals as goal

pub returns-clause-counted : goal.returns-clause-counted
returns-clause-counted c = unit_shares_are_counted

pub returns-clause-long : goal.returns-clause-long
returns-clause-long c = long_texts_take_many_shares

pub returns-clause-shares : goal.returns-clause-shares
returns-clause-shares c = unit_shares_are_shares

pub returns-clause-read : goal.returns-clause-read
returns-clause-read c = varint_is_read

pub returns-clause-one : goal.returns-clause-one
returns-clause-one c = read_is_varint

pub returns-clause-shortest : goal.returns-clause-shortest
returns-clause-shortest c = varint_is_shortest

pub returns-clause-states : goal.returns-clause-states
returns-clause-states c = varint_states

pub returns-clause-marked : goal.returns-clause-marked
returns-clause-marked c = varint_is_marked

pub returns-clause-reserved : goal.returns-clause-reserved
returns-clause-reserved c = reserved_is_first

pub returns-clause-unreserved : goal.returns-clause-unreserved
returns-clause-unreserved c = reserved_is_none
