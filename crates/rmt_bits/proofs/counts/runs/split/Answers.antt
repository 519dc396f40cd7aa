use Rattle.std.proofs.Common.{◌<◌, [], length, ap, ◌∙◌, arith}
use Rattle.std.proofs.lemmas.List.{get_or_read}
use Rattle.rmt_bits.specs.Counting.{joined, sizes_of}
use Rattle.rmt_bits.proofs.RunLaws.{joined_cut, sizes_cut}
use Rattle.rmt_bits.proofs.counts.runs.split.Goals as goal

pub returns-in-Ok-clause-counts : goal.returns-in-Ok-clause-counts
returns-in-Ok-clause-counts c =
    let runs = c.args.runs.now.items in
    let inside : c.args.at < length runs = omega (arith, c.requires.inside) in
    ap joined c.in-Ok.ensures.items
    ∙ joined_cut runs c.args.at c.halve.new.self c.halve.new.upper inside (c.halve.ensures.all ∙ get_or_read runs c.args.at c.index_mut-lower.result.now inside c.index_mut-lower.ensures.value [])

pub returns-in-Ok-clause-sizes : goal.returns-in-Ok-clause-sizes
returns-in-Ok-clause-sizes c =
    let runs = c.args.runs.now.items in
    let inside : c.args.at < length runs = omega (arith, c.requires.inside) in
    ap sizes_of c.in-Ok.ensures.items
    ∙ sizes_cut runs c.args.at c.halve.new.self c.halve.new.upper inside c.halve.ensures.lower c.halve.ensures.upper
