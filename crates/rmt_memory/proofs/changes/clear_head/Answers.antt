use Rattle.std.proofs.Common.{◌≡◌, ◌+◌, ◌*◌, ◌<◌, ◌≤◌, length, refl, arith}
use Rattle.std.proofs.lemmas.Nat.{mul-le}
use Rattle.rmt_memory.proofs.RunWriteLaws.{head-own, head-other}
use Rattle.rmt_memory.proofs.changes.clear_head.Goals as goal

pub returns : goal.returns
returns c =
    let r = c.args.runs.now in
    let size = r.size in
    let at = c.args.at in
    let next : (at + 1) * size ≡ at * size + size = omega arith in
    let most : (at + 1) * size ≤ r.count * size = mul-le (at + 1) size r.count size (omega (arith, c.requires.at)) (omega arith) in
    let there : at * size < length r.bytes.items = omega (arith, next, most, r.whole, r.bytes.ok.0, c.requires.size) in
    record {
      stay = record { size = refl; count = refl; others = λ n lt ne. head-other size r.bytes.items at 0 c.requires.size n ne };
      head = head-own size r.bytes.items at 0 c.requires.size there;
    }
