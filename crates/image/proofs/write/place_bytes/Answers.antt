use Rattle.image.proofs.Back.{written}
use Rattle.image.proofs.write.place_bytes.Goals as goal

pub returns-clause-written : goal.returns-clause-written
returns-clause-written c = written c.args.place.now (record { day = c.head_of.ensures.day; long = c.all_words-words.ensures.long; fits = c.all_words-words.ensures.fits })
