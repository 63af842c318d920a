-- A book that was opened from its bytes, posted to, and closed.
use Rattle.std.proofs.Common.{◌≡◌, ℕ, ◌<◌, ◌≤◌, List, [], ◌++◌, Some, None, Ok, Err, Result, IfErr, slice_index, refl, sym, ap, ◌∙◌, subst, arith}
use Rattle.std.proofs.lemmas.List.{append-nil}
use Rattle.terms.specs.Told.{fine}
use Rattle.intervals.specs.declared.warning.Warning.{Warning}
use Rattle.detfile.specs.declared.refusal.FileRefusal.{FileRefusal}
use Rattle.detfile.specs.declared.refusal.FileRefusal.TheVariants.{TooLong, Names, Shape, Form, Beyond}
use Rattle.detfile.specs.Refusals.{numbered}
use Rattle.detfile.specs.Files.{checked}
use Rattle.books.specs.Kept.{Kept}
use Rattle.books.specs.Laws.{Sound}
use Rattle.books.specs.Lists.{new_kept}
use Rattle.imagebook.specs.declared.fault.ImageFault.{ImageFault}
use Rattle.imagebook.specs.Images.{image_read, opened, fault_of, beside_by, image_of}
use Rattle.imagebook.proofs.Imaging.{imaged, read_exact}
use Rattle.accounts.specs.Histories.{History, Accounts}
use Rattle.accounts.proofs.Effects.{law_new}
use Rattle.jobs.specs.Jobs.{job_watched}
use Rattle.settlement.specs.declared.dayfile.DayFile.{DayFile}
use Rattle.settlement.specs.declared.bills.Bills.{Bills}
use Rattle.settlement.specs.Tables.{table_of}
use Rattle.settlement.specs.Refusals.{Ended, answered, no_book}
use Rattle.settlement.specs.Postings.{job_of, bills_of, AfterPosting, left, done, by_image, posted_sound, posted, heard_by_image, sound_watched, posted_watched}
use Rattle.settlement.specs.Accounts.{most_places, new_image}

pub new_sound : (places : ℕ) → places ≤ most_places → Sound (new_kept places)
new_sound places few = record { few = few; fits = omega arith; rising = tt; each = tt }

-- what a fault tells of the reading
pub is_broken : (r : Result ℕ ImageFault) (e : ImageFault) → fault_of r ≡ Some e → r ≡ Err e
is_broken (Ok n) e h = cc
is_broken (Err d) e h = cc

pub record Read (r : Result ℕ ImageFault) : Type 0 where
  pub days : ℕ
  pub is : r ≡ Ok days

pub is_read : (r : Result ℕ ImageFault) → fault_of r ≡ None → Read r
is_read (Ok n) h = record { days = n; is = refl }
is_read (Err e) h = absurd (let f : Some e ≡ None = h in cc)

module _ (f : DayFile) (ws : List Warning) (book : List ℕ) where
  pub sound_broken : (e : ImageFault) → image_read book ≡ Err e → posted_sound f ws book ≡ left f ws book (no_book e)
  unfolding posted_sound
  sound_broken e is = rw is refl

  pub sound_done : (n : ℕ) → image_read book ≡ Ok n → posted_sound f ws book ≡ done f ws book
  unfolding posted_sound
  sound_done n is = ap (by_image f ws book) is

  pub posted_refused : (e : FileRefusal) → numbered e ≡ checked f.bytes.now → posted f ws book ≡ left f ws book (answered (numbered e))
  unfolding posted
  posted_refused TooLong is = rw (← is) refl
  posted_refused Names is = rw (← is) refl
  posted_refused (Shape n) is = rw (← is) refl
  posted_refused (Form n) is = rw (← is) refl
  posted_refused (Beyond n) is = rw (← is) refl

  pub posted_checked : (n : ℕ) → fine n ≡ checked f.bytes.now → posted f ws book ≡ posted_sound f ws book
  unfolding posted
  posted_checked n is = rw (← is) refl

  module _ {S : Type 0} (tell : S → ℕ → List Warning → S) (s : S) where
    pub heard_broken : (e : ImageFault) → image_read book ≡ Err e → s ≡ sound_watched f ws book tell s
    unfolding sound_watched
    heard_broken e is = rw is refl

    pub heard_done : (n : ℕ) → image_read book ≡ Ok n → job_watched tell (table_of f) f.day ws (opened book) s ≡ sound_watched f ws book tell s
    unfolding sound_watched
    heard_done n is = sym (ap (heard_by_image f ws book tell s) is)

    pub heard_refused : (e : FileRefusal) → numbered e ≡ checked f.bytes.now → s ≡ posted_watched f ws book tell s
    unfolding posted_watched
    heard_refused TooLong is = rw (← is) refl
    heard_refused Names is = rw (← is) refl
    heard_refused (Shape n) is = rw (← is) refl
    heard_refused (Form n) is = rw (← is) refl
    heard_refused (Beyond n) is = rw (← is) refl

    pub heard_checked : (n : ℕ) → fine n ≡ checked f.bytes.now → sound_watched f ws book tell s ≡ posted_watched f ws book tell s
    unfolding posted_watched
    heard_checked n is = rw (← is) refl

  -- the book kept k as it was opened, and keeps l; closed, it is the image of that, and what was beside its places
  module _ (k l : Kept) (bytes beside : List ℕ) (n : ℕ) (read : image_read book ≡ Ok n) (was : k ≡ opened book) (beside-is : beside ≡ beside_by (image_read book) book) (image : bytes ≡ image_of l ++ beside) where
    pub image_is : bytes ≡ image_of l
    image_is = image ∙ ap (λ z. image_of l ++ z) (beside-is ∙ ap (λ r. beside_by r book) read) ∙ append-nil (image_of l)

    pub book_is : l ≡ (job_of f ws k).kept → bytes ≡ (posted_sound f ws book).book
    book_is kept = image_is ∙ ap image_of (kept ∙ ap (λ z. (job_of f ws z).kept) was) ∙ ap (λ o. o.book) (sym (sound_done n read))

    pub answer_is : (a : Ended Bills) → a ≡ answered (bills_of f ws k) → a ≡ (posted_sound f ws book).answer
    answer_is a is = is ∙ ap (λ z. answered (bills_of f ws z)) was ∙ ap (λ o. o.answer) (sym (sound_done n read))

    pub warnings_are : (us : List Warning) → us ≡ (job_of f ws k).warnings → us ≡ (posted_sound f ws book).warnings
    warnings_are us is = is ∙ ap (λ z. (job_of f ws z).warnings) was ∙ ap (λ o. o.warnings) (sym (sound_done n read))

    pub watch_is : {S : Type 0} (tell : S → ℕ → List Warning → S) (s z : S) → z ≡ job_watched tell (table_of f) f.day ws k s → z ≡ sound_watched f ws book tell s
    watch_is tell s z is = is ∙ ap (λ x. job_watched tell (table_of f) f.day ws x s) was ∙ heard_done tell s n read

    module _ (sound : Sound l) where
      means : opened bytes ≡ l
      means = ap opened image_is ∙ (imaged l sound).back

      pub law_is : ((h : History) → Accounts h k → Accounts ((job_of f ws k).calls ++ h) l) → (h : History) → Accounts h (opened book) → Accounts ((posted_sound f ws book).calls ++ h) (opened bytes)
      law_is law h holds =
          subst (λ o. Accounts (o.calls ++ h) (opened bytes)) (sym (sound_done n read))
          (subst (λ z. Accounts ((job_of f ws z).calls ++ h) (opened bytes)) was
          (subst (λ z. Accounts ((job_of f ws k).calls ++ h) z) (sym means) (law h (subst (λ z. Accounts h z) (sym was) holds))))

    -- bytes that are read are the image of what they mean
    pub same_is : ((i : ℕ) → slice_index book i < 256) → l ≡ k → bytes ≡ book
    same_is small same = image_is ∙ ap image_of (same ∙ was) ∙ read_exact book n small read

-- where nothing was called on the book, the law stays
pub law_left : (o : AfterPosting) (bytes book : List ℕ) → o.calls ≡ [] → bytes ≡ book → (h : History) → Accounts h (opened book) → Accounts (o.calls ++ h) (opened bytes)
law_left o bytes book none same h holds = rw (none, same) holds

pub if_refused : {X E : Type 0} {P Q : Type 0} (r : Result X E) → (P → Q) → IfErr r (λ e. P) → IfErr r (λ e. Q)
if_refused (Ok x) to h = tt
if_refused (Err e) to h = to h

-- the bytes of a new book mean one
pub new_means : (places : ℕ) → places ≤ most_places → opened (new_image places) ≡ new_kept places
new_means places few = (imaged (new_kept places) (new_sound places few)).back

-- the law for the calls of one posting on them
pub new_law : (places : ℕ) (calls : History) (bytes book : List ℕ) → places ≤ most_places → book ≡ new_image places → ((h : History) → Accounts h (opened book) → Accounts (calls ++ h) (opened bytes)) → Accounts calls (opened bytes)
new_law places calls bytes book few is law =
    let new = sym (ap opened is ∙ new_means places few) in
    subst (λ h. Accounts h (opened bytes)) (append-nil calls) (law [] (subst (λ k. Accounts [] k) new (law_new places)))
