use Rattle.std.proofs.Common.{◌≡◌, ◌+◌, List, length, get_or, ap, arith}
use Rattle.rmt_ast.specs.declared.entry.Entry.{Entry}
use Rattle.rmt_verify.proofs.OrderLaws.{entries_more, entries_most}
use Rattle.rmt_verify.proofs.cells.entries.are_as_many.Goals as goal

pub returns-then-left-len : goal.returns-then-left-len
returns-then-left-len c = (
  λ no. absurd cc,
  λ same. absurd (
      let lists = c.args.lists.now in
      let i = c.loop-list.list-index in
      let more = entries_more lists i c.list-item.result c.loop-list-test.true in
      let most = entries_most lists (i + 1) in
      let own : length c.list-item.result ≡ length (get_or lists i c.list-item.result) = ap (λ (es : List Entry). length es) c.list-item.is in
      let inv = c.loop-list.invariant in
      let less = c.if-left-len.true in
      let len = c.len.ensures in
      omega (arith, more, most, own, inv, less, len, same)),
)
