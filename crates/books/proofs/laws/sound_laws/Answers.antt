use Rattle.books.proofs.Keeping.{reserving_sound, replacing_sound, lifting_sound}
use Rattle.books.proofs.laws.sound_laws.Goals as goal

pub returns-clause-reserving : goal.returns-clause-reserving
returns-clause-reserving c k d s = reserving_sound k d s

pub returns-clause-replacing : goal.returns-clause-replacing
returns-clause-replacing c k d q a s = replacing_sound k d s q a

pub returns-clause-lifting : goal.returns-clause-lifting
returns-clause-lifting c k d b s = lifting_sound k d s b
