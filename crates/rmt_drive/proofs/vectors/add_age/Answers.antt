-- What the chip shows of an age is what has that age.
use Rattle.std.proofs.Common.{◌++◌, ◌∙◌, ap, sym, append-nil}
use Rattle.rmt_chip.specs.Stands.{in_flight}
use Rattle.rmt_drive.proofs.LineLaws.{ok_then}
use Rattle.rmt_drive.proofs.VectorTexts.{line_seen, line_unseen}
use Rattle.rmt_drive.proofs.vectors.add_age.Goals as goal

pub returns-in-None : goal.returns-in-None
returns-in-None c = λ k made stands.
    sym (append-nil c.args.text.now.items) ∙ ap (λ l. c.args.text.now.items ++ l) (line_unseen k c.args.age (in_flight k made c.args.age) (c.in-None.ensures k made stands))

pub returns-in-Some : goal.returns-in-Some
returns-in-Some c =
    ok_then c.add_line.result
    (λ written k made stands. written ∙ ap (λ l. c.args.text.now.items ++ l) (line_seen k c.args.age (in_flight k made c.args.age) c.in-Some.seen (c.in-Some.ensures k made stands)))
    c.add_line.ensures
