use Rattle.std.proofs.Common.{◌≡◌, sym, ap, ◌∙◌}
use Rattle.books.specs.Lists.{new_kept}
use Rattle.imagebook.specs.ImagesKept.{length-places_in}
use Rattle.imagebook.proofs.Meaning.{none_placed}
use Rattle.imagebook.proofs.opening.Opened.broken.Goals as goal

pub returns-clause-kept : goal.returns-clause-kept
returns-clause-kept c = c.cleared.ensures.kept ∙ ap new_kept (length-places_in c.aside.result.count c.aside.result.bytes.items ∙ c.aside.ensures.count)

pub returns-clause-bytes : goal.returns-clause-bytes
returns-clause-bytes c =
    let s = c.cleared.result.store in
    let k = ap (λ z. z.places) c.cleared.ensures.kept ∙ length-places_in c.aside.result.count c.aside.result.bytes.items ∙ c.aside.ensures.count in
    let n : s.count ≡ 0 = sym (length-places_in s.count s.bytes.items) ∙ k in
    sym (none_placed s.count s.bytes.items n) ∙ c.cleared.ensures.beside ∙ none_placed c.aside.result.count c.aside.result.bytes.items c.aside.ensures.count ∙ ap (λ v. v.items) c.aside.ensures.bytes

pub returns-clause-beside : goal.returns-clause-beside
returns-clause-beside c = c.cleared.ensures.beside ∙ none_placed c.aside.result.count c.aside.result.bytes.items c.aside.ensures.count ∙ ap (λ v. v.items) c.aside.ensures.bytes
