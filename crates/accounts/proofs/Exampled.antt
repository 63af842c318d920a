-- The day that is written out, posted to a new book.
use Rattle.std.proofs.Common.{◌≡◌, ℕ, ◌≤◌, true, List, [], ◌∷◌, length, Ok, refl, ap, ◌∙◌, arith}
use Rattle.std.proofs.lemmas.Bool.{eq-eqb}
use Rattle.std.proofs.lemmas.Bool.Decides.{nat_tests}
use Rattle.std.proofs.lemmas.List.{length-replicate}
use Rattle.terms.specs.Limits.{last_day}
use Rattle.amounts.specs.declared.row.Amounts.{Amounts}
use Rattle.runs.specs.Calls.{trace_of}
use Rattle.runs.specs.Sheets.{said_of}
use Rattle.runs.specs.Example.{example, example_run}
use Rattle.runs.proofs.Exampled.{tables_are, totals_are, all_charged}
use Rattle.books.specs.Kept.{entry}
use Rattle.books.specs.Calls.{reserving}
use Rattle.books.specs.Lists.{new_kept}
use Rattle.books.proofs.Entries.{put_changes}
use Rattle.accounts.specs.Histories.{run, last, answered, amount_by}
use Rattle.accounts.specs.Calls.{asks, handed, kept_after, history_of, FirstBills, first_posting}
use Rattle.accounts.proofs.Keeping.{given_by}
use Rattle.accounts.proofs.Wording.{posts as in_words}
use Rattle.accounts.proofs.Calling.{calls_law}

module _ (n y : ℕ) (bills : List Amounts) (room : 1 ≤ n) (day : y ≤ last_day) (rows : 64 ≤ length bills) where
  reserved_answer : (reserving (new_kept n) y).answer ≡ Ok tt
  unfolding reserving
  reserved_answer = grind (arith, nat_tests)

  reserved_now : (entry (reserving (new_kept n) y).after y).reserved ≡ true
  reserved_now =
      let g = given_by (new_kept n) y reserved_answer in
      rw g.after (ap (λ e. e.reserved) (put_changes (new_kept n) y _ refl).there)

  long : 96 ≤ length (trace_of (example_run y)).tables
  long = rw (tables_are y day, length-replicate 96 example) (omega arith)

  posted_answer : (handed (kept_after (new_kept n) (asks y ∷ [])) y (example_run y) bills).answer ≡ Ok 192
  unfolding kept_after
  posted_answer =
      (in_words (reserving (new_kept n) y).after y (said_of (trace_of (example_run y))) bills).given reserved_now refl long rows
      ∙ ap (λ c. Ok c) (all_charged y day)

  last_run : last (history_of (new_kept n) (first_posting y bills)) y ≡ run (trace_of (example_run y))
  unfolding history_of
  last_run = rw (posted_answer, eq-eqb y y refl) refl

  last_answer : answered (history_of (new_kept n) (first_posting y bills)) y ≡ 192
  unfolding history_of
  last_answer = rw (posted_answer, eq-eqb y y refl) refl

  pub first_bills : FirstBills n y bills
  first_bills = record {
    posted = last_run;
    answered_is = last_answer;
    issued_is = λ q lt. (calls_law n (first_posting y bills)).issued_is y q lt ∙ ap (λ l. amount_by l q) last_run ∙ totals_are y day q lt;
  }
