use Rattle.std.proofs.Common.{ℕ, List, ◌&&◌, length, leb, map, sym, ap, ◌∙◌}
use Rattle.std.specs.Str.{bytes_eq}
use Rattle.rmt_ast.specs.declared.names.RankOf.{RankOf}
use Rattle.rmt_ast.specs.Naming.{stands_first}
use Rattle.rmt_config.specs.NamesForm.{each_later}
use Rattle.rmt_config.proofs.SpelledTernary.{ternary-answer}
use Rattle.rmt_config.proofs.form.names.ternary.ternary_fits.Goals as goal

pub returns : goal.returns
returns c =
    let size = c.args.table.now.size in
    c.ranks_fit.ensures
    ∙ ap (λ (rs : List RankOf). bytes_eq (map (λ (r : RankOf). r.number) rs) c.args.numbers.now && leb (length c.args.numbers.now) size && each_later stands_first rs) c.as_slice.ensures
    ∙ ap (λ (ns : List ℕ). bytes_eq (map (λ (r : RankOf). r.number) c.args.table.now.ranks) ns && leb (length ns) size && each_later stands_first c.args.table.now.ranks) c.requires.numbers
    ∙ sym (ternary-answer c.args._config.now c.args.table.now c.requires.kind c.requires.distinct c.requires.parts c.requires.stand)
