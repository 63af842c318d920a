use Rattle.std.proofs.Common.{sym, ap, ◌∙◌}
use Rattle.detfile.specs.Files.{parts_in}
use Rattle.detfile.specs.Names.{columns_in}
use Rattle.daytable.proofs.Filled.{judged_lines, filled_where}
use Rattle.daytable.proofs.Headed.{cut_apart}
use Rattle.daytable.proofs.filling.put_file.Goals as goal

pub put_lines-requires-clause-apart : goal.put_lines-requires-clause-apart
put_lines-requires-clause-apart c = cut_apart c.args.bytes.now _ _ (sym c.cut_names.ensures.parts ∙ ap parts_in c.in_ok-columns.was)

pub returns-clause-says : goal.returns-clause-says
returns-clause-says c =
    let bs = c.args.bytes.now in
    let ks = columns_in c.in_ok-columns.columns in
    let vs = c.in_ok-columns.values.now in
    let parts = sym c.cut_names.ensures.parts ∙ ap parts_in c.in_ok-columns.was in
    let verdict = judged_lines bs c.args.day ks vs c.if-bytes-gt-MOST_BYTES.false parts ∙ sym c.put_lines.ensures.verdict in
    filled_where bs c.args.day ks vs c.put_lines.result c.args.cuts.now c.put_lines.new.cuts verdict parts c.requires.blank c.put_lines.ensures.says
