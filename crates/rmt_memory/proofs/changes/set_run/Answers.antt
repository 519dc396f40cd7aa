use Rattle.std.proofs.Common.{◌≡◌, ◌+◌, ◌-◌, ◌*◌, ◌≤◌, ◌++◌, ℕ, List, length, take, drop, sym, refl, ap, ◌∙◌, arith}
use Rattle.std.proofs.lemmas.List.{with_items_is, length-append}
use Rattle.std.proofs.lemmas.Nat.{mul-le}
use Rattle.rmt_memory.proofs.RunWriteLaws.{written-size, written-own, written-other}
use Rattle.rmt_memory.proofs.changes.set_run.Goals as goal

pub returns : goal.returns
returns c =
    let r = c.args.runs.now in
    let size = r.size in
    let at = c.args.at in
    let old = r.bytes.items in
    let seen = c.deref_mut.result.now in
    let same : seen ≡ old = c.deref_mut.ensures.value in
    let run = c.fill.new.run in
    let k = at * size + size - at * size in
    let k_is : k ≡ size = omega arith in
    let next : (at + 1) * size ≡ at * size + size = omega arith in
    let most : (at + 1) * size ≤ r.count * size = mul-le (at + 1) size r.count size (omega (arith, c.requires.at)) (omega arith) in
    let long = length-append c.args.first.now (c.args.second.now ++ c.args.third.now) in
    let rest = length-append c.args.second.now c.args.third.now in
    let whole : length run ≡ size = ap (λ (bs : List ℕ). length bs) c.fill.ensures ∙ omega (arith, long, rest, c.requires.size) in
    let same_size = ap (λ (bs : List ℕ). length bs) same in
    let fits : at * size + size ≤ length seen = omega (arith, next, most, r.whole, r.bytes.ok.0, same_size) in
    let all = written-size size seen run at k k_is whole fits in
    let is = with_items_is r.bytes _ (all ∙ same_size ∙ sym r.bytes.ok.0) in
    record {
      stay = record {
        size = refl;
        count = refl;
        others = λ n lt ne.
            ap (λ (bs : List ℕ). take size (drop (n * size) bs)) is ∙ written-other size seen run at k k_is whole fits n ne
            ∙ ap (λ (bs : List ℕ). take size (drop (n * size) bs)) same;
      };
      run = ap (λ (bs : List ℕ). take size (drop (at * size) bs)) is ∙ written-own size seen run at k k_is whole fits ∙ c.fill.ensures;
    }
