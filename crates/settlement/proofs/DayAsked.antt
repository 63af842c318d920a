-- The asking of an interval depends on the source's answers about its day alone.
use Rattle.std.proofs.Common.{◌≡◌, ℕ, ℤ, refl, sym, ap, ◌∙◌, subst}
use Rattle.terms.specs.Sources.{Table}
use Rattle.amounts.specs.Tables.{Judged, readings_at, working}
use Rattle.intervals.specs.Courses.{of_resource, resource, resources_to, shares_to, summed, course}
use Rattle.amounts.specs.Traces.{entities, resources}
use Rattle.settlement.specs.SameDays.{SameDay}

-- what a table answers about day y, answered about every day
abbrev pub fixed : ℕ → Table → Table
fixed y t d n z i = t d n y i

pub fixed_same : (y : ℕ) (t u : Table) → SameDay y t u → fixed y t ≡ fixed y u
fixed_same y t u s = λ j d n z i. s.agree d n i j

module _ (t : Table) (y i : ℕ) where
  resources_fixed : (n : ℕ) → resources_to t y i n ≡ resources_to (fixed y t) y i n
  unfolding resources_to resource of_resource
  resources_fixed n = refl

  shares_fixed : (n : ℕ) → shares_to t y i n ≡ shares_to (fixed y t) y i n
  unfolding shares_to
  shares_fixed n = refl

  course_fixed : course t y i ≡ course (fixed y t) y i
  unfolding course summed
  course_fixed = rw (resources_fixed resources, shares_fixed entities) refl

  working_fixed : (rd : ℤ → ℕ → ℤ) → working t y i rd ≡ working (fixed y t) y i rd
  unfolding working readings_at
  working_fixed rd = refl

  judged_fixed : (n m : ℕ) → Judged t y i n m → Judged (fixed y t) y i n m
  unfolding readings_at
  judged_fixed n m j = record { price = j.price; owner = j.owner; readings = j.readings; shares = j.shares; whole = j.whole }

  judged_free : (n m : ℕ) → Judged (fixed y t) y i n m → Judged t y i n m
  unfolding readings_at
  judged_free n m j = record { price = j.price; owner = j.owner; readings = j.readings; shares = j.shares; whole = j.whole }

module _ (y : ℕ) (t u : Table) (same : SameDay y t u) where
  pub course_same : (i : ℕ) → course t y i ≡ course u y i
  course_same i = course_fixed t y i ∙ ap (λ z. course z y i) (fixed_same y t u same) ∙ sym (course_fixed u y i)

  pub working_same : (i : ℕ) (rd : ℤ → ℕ → ℤ) → working t y i rd ≡ working u y i rd
  working_same i rd = working_fixed t y i rd ∙ ap (λ z. working z y i rd) (fixed_same y t u same) ∙ sym (working_fixed u y i rd)

  pub judged_same : (i n m : ℕ) → Judged t y i n m → Judged u y i n m
  judged_same i n m j = judged_free u y i n m (subst (λ z. Judged z y i n m) (fixed_same y t u same) (judged_fixed t y i n m j))
