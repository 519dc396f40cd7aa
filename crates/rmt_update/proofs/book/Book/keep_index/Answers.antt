use Rattle.std.proofs.Common.{Some}
use Rattle.rmt_update.proofs.TakenLaws.{taken-index, taken-stands, with-index}
use Rattle.rmt_update.proofs.book.Book.keep_index.Goals as goal

pub returns-clause-stands : goal.returns-clause-stands
returns-clause-stands c = λ k cells lists h.
    let old = c.args.self.now in
    let taken = c.take_index.new.self in
    let index = c.in_ok-index.index in
    with-index k cells lists taken (Some index) (taken-stands old taken c.take_index.ensures.rest k cells lists h) (taken-index old taken c.take_index.ensures.rest index c.in_ok-index.ensures.index)
