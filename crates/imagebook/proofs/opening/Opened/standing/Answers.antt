use Rattle.std.proofs.Common.{◌*◌, drop, sym, ap, ◌∙◌}
use Rattle.books.specs.Stores.{kept_of}
use Rattle.imagebook.specs.Images.{places_in, fault_of}
use Rattle.imagebook.proofs.Meaning.{read_held, read_flawed, opened_held, beside_held, opened_err, beside_err}
use Rattle.imagebook.proofs.opening.Opened.standing.Goals as goal

pub returns-in-Ok-clause-kept : goal.returns-in-Ok-clause-kept
returns-in-Ok-clause-kept c =
    let m = c.args.image in
    let u = c.in-Ok.book.used in
    ap (λ s. kept_of (places_in s.count s.bytes.items) u) c.in-Ok.ensures.fit.0 ∙ opened_held m.bytes.items m.count c.requires.form u c.in-Ok.ensures.fit.1

pub returns-in-Ok-clause-beside : goal.returns-in-Ok-clause-beside
returns-in-Ok-clause-beside c =
    let m = c.args.image in
    ap (λ s. drop (1544 * s.count) s.bytes.items) c.in-Ok.ensures.fit.0 ∙ beside_held m.bytes.items m.count c.requires.form c.in-Ok.book.used c.in-Ok.ensures.fit.1

pub returns-in-Ok-clause-fault : goal.returns-in-Ok-clause-fault
returns-in-Ok-clause-fault c =
    let m = c.args.image in
    ap fault_of (sym (read_held m.bytes.items m.count c.requires.form c.in-Ok.book.used c.in-Ok.ensures.fit.1))

pub returns-in-Err-clause-kept : goal.returns-in-Err-clause-kept
returns-in-Err-clause-kept c =
    let m = c.args.image in
    let r = read_flawed m.bytes.items m.count c.requires.form _ c.in-Err.ensures.unfit.1 in
    c.broken.ensures.kept ∙ sym (opened_err m.bytes.items _ r)

pub returns-in-Err-clause-beside : goal.returns-in-Err-clause-beside
returns-in-Err-clause-beside c =
    let m = c.args.image in
    let r = read_flawed m.bytes.items m.count c.requires.form _ c.in-Err.ensures.unfit.1 in
    c.broken.ensures.beside ∙ ap (λ s. s.bytes.items) c.in-Err.ensures.unfit.0 ∙ sym (beside_err m.bytes.items _ r)

pub returns-in-Err-clause-fault : goal.returns-in-Err-clause-fault
returns-in-Err-clause-fault c =
    let m = c.args.image in
    let r = read_flawed m.bytes.items m.count c.requires.form _ c.in-Err.ensures.unfit.1 in
    c.broken.ensures.fault ∙ ap fault_of (sym r)
