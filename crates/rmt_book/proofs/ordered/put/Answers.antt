use Rattle.rmt_book.proofs.OrderedLaws.{order-more}
use Rattle.rmt_book.proofs.ordered.put.Goals as goal

pub returns : goal.returns
returns c = λ es order new. record {
  entries = order-more es c.args.entry c.args.ordered.now.entries c.insert.new.self.entries order.entries new c.in_ok-insert.ensures.entries;
}
