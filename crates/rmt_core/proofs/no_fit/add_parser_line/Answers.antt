use Rattle.std.proofs.Common.{◌++◌, ◌∙◌, ap, codes}
use Rattle.std.specs.Fmt.{decimal}
use Rattle.rmt_drive.proofs.LineLaws.{three_parts}
use Rattle.rmt_core.proofs.no_fit.add_parser_line.Goals as goal

pub returns : goal.returns
returns c =
    three_parts c.args.text.now.items _ _ _ (codes "no fit parser ") (decimal c.args.entries) (codes "\n") c.in_ok-extend_from_slice.ensures.items
    (c.in_ok-add_number.ensures ∙ ap (λ n. c.extend_from_slice.new.self.items ++ decimal n) c.from.ensures)
    c.in_ok-push.ensures.items
