use Rattle.relations.proofs.Calls.{operation_left}
use Rattle.relations.proofs.table.operation.Goals as goal

pub returns-in_default : goal.returns-in_default
returns-in_default c = operation_left c.args.kind c.requires.0 c.requires.1 c.in_default.not-Union c.in_default.not-Except
