use Rattle.imagebook.proofs.Imaging.{imaged, read_sound, read_exact, cleared, zeros_open}
use Rattle.imagebook.proofs.laws.image_law.Goals as goal

pub returns : goal.returns
returns c = record {
  imaged = imaged;
  read = λ bs u s h. (read_sound bs u s h, read_exact bs u s h);
  cleared = cleared;
  new = zeros_open;
}
