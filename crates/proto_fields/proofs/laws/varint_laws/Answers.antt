use Rattle.proto_fields.proofs.Varint.Read.{read_in_one_way, shortest_is_varint, shortest_is_shortest}
use Rattle.proto_fields.proofs.laws.varint_laws.Goals as goal

pub returns-clause-one_way : goal.returns-clause-one_way
returns-clause-one_way c = read_in_one_way

pub returns-clause-varint : goal.returns-clause-varint
returns-clause-varint c = shortest_is_varint

pub returns-clause-shortest : goal.returns-clause-shortest
returns-clause-shortest c = shortest_is_shortest
