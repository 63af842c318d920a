use Rattle.books.proofs.Standing.{passes, sound, places}
use Rattle.books.proofs.laws.survey_law.Goals as goal

pub returns : goal.returns
returns c = record { passes = passes; sound = sound; places = places }
