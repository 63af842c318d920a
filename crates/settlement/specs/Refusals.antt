-- How the posting and the working of a file end: each case's number and values. Assumes nothing.
use Rattle.std.specs.Prelude.{Ok, Err, Result}
use Rattle.terms.specs.Told.{Told, fine}
use Rattle.detfile.specs.Refusals.{numbered as file_numbered}
use Rattle.runs.specs.Refusals.{day_numbered}
use Rattle.imagebook.specs.declared.fault.ImageFault.{ImageFault}
use Rattle.jobs.specs.Refusals.{numbered as job_numbered}
use Rattle.settlement.specs.declared.refusal.Unposted.{Unposted}
use Rattle.settlement.specs.declared.refusal.Unposted.TheVariants.{File, Image, Job}
use Rattle.settlement.specs.declared.refusal.Unworked.{Unworked}
use Rattle.settlement.specs.declared.refusal.Unworked.TheVariants.{File as BadFile, Day}

-- a call's answer; or the bytes are no book's, for which there is a fault and no number
pub data Ended (X : Type 0) : Type 0 where
  answered : Told X → Ended X
  no_book : ImageFault → Ended X

abbrev pub unposted : {X : Type 0} → Unposted → Ended X
unposted (File e) = answered (file_numbered e)
unposted (Image f) = no_book f
unposted (Job e) = answered (job_numbered e)

abbrev pub posting_told : {X : Type 0} → Result X Unposted → Ended X
posting_told (Ok x) = answered (fine x)
posting_told (Err e) = unposted e

abbrev pub unworked : {X : Type 0} → Unworked → Told X
unworked (BadFile e) = file_numbered e
unworked (Day e) = day_numbered e
