use Rattle.std.proofs.Common.{◌≡◌, ◌-◌, ◌++◌, take, ap, sym, ◌∙◌, arith}
use Rattle.std.specs.Vec.{with_items}
use Rattle.std.proofs.lemmas.List.{with_items_is}
use Rattle.rmt_runs.proofs.reader.piece.Piece.fill.Goals as goal

pub returns-clause-given : goal.returns-clause-given
returns-clause-given g c told =
    let room = c.self.inside.room in
    let now = c.ask.new.into in
    let n = c.in_ok-count.count in
    let same : (with_items room now).items ≡ now = with_items_is room now (omega (arith, c.ask.auto.into, c.as_mut_slice.ensures.len)) in
    let all : n - 0 ≡ n = omega arith in
    let waits : take (n - 0) (with_items room now).items ≡ take n now = ap (λ k. take k (with_items room now).items) all ∙ ap (take n) same in
    c.in_ok-count.ensures.given told ∙ ap (λ xs. xs ++ (g.F.Shelf.state c.ask.new.shelf).rest) (sym waits)
