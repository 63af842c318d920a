use Rattle.std.proofs.Common.{sym, arith}
use Rattle.detfile.proofs.NamesFew.{many_none}
use Rattle.detfile.proofs.names.columns_of.Goals as goal

pub returns-then-spaces : goal.returns-then-spaces
returns-then-spaces c = sym (many_none c.args.line.now (omega arith))
