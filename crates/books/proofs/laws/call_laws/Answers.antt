use Rattle.books.proofs.Reserving.{reserves}
use Rattle.books.proofs.Reading.{reads}
use Rattle.books.proofs.Replacing.{replaces}
use Rattle.books.proofs.Lifting.{lifts}
use Rattle.books.proofs.laws.call_laws.Goals as goal

pub returns-clause-reserves : goal.returns-clause-reserves
returns-clause-reserves c k d s = reserves k d s

pub returns-clause-reads : goal.returns-clause-reads
returns-clause-reads c k d q s = reads k d q s

pub returns-clause-replaces : goal.returns-clause-replaces
returns-clause-replaces c k d q a s = replaces k d q a s

pub returns-clause-lifts : goal.returns-clause-lifts
returns-clause-lifts c k d b s = lifts k d b s
