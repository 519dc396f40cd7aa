use Rattle.std.proofs.Common.{◌≡◌, ◌+◌, ◌-◌, ◌<◌, length, refl, ap, ◌∙◌, arith, length-append}
use Rattle.rmt_runs.specs.ReadsOn.{ReaderState}
use Rattle.rmt_runs.proofs.ReaderLaws.{filled, gone_too_far}
use Rattle.rmt_runs.proofs.reader.PacketReader.fill.Goals as goal

pub returns-clause-reads : goal.returns-clause-reads
returns-clause-reads g c told limit text gave h =
    let i = c.self.inside in
    let empty = ap (λ r. r.waiting) c.self.view_is ∙ c.requires.empty in
    let old : ReaderState = record { lines = i.lines; waiting = i.piece; left = i.left; is_finished = i.is_finished; given = i.given } in
    let new : ReaderState = record { lines = i.lines; waiting = c.fill.new.self; left = i.left - c.in-Ok.count; is_finished = i.is_finished; given = i.given } in
    let left : length c.fill.new.self + (i.left - c.in-Ok.count) ≡ i.left = omega (arith, c.in-Ok.ensures.count, c.if-self-count.false) in
    filled limit text (g.F.Shelf.state c.args.shelf.now).rest (g.F.Shelf.state c.fill.new.shelf).rest gave old new (rw (← c.self.view_is) at h) empty (c.in-Ok.ensures.given told) left refl refl

pub returns-then-self-count-clause-too_long : goal.returns-then-self-count-clause-too_long
returns-then-self-count-clause-too_long g c _ told limit text gave h =
    let i = c.self.inside in
    let empty = ap (λ r. r.waiting) c.self.view_is ∙ c.requires.empty in
    let going = ap (λ r. r.is_finished) c.self.view_is ∙ c.requires.going_on in
    let old : ReaderState = record { lines = i.lines; waiting = i.piece; left = i.left; is_finished = i.is_finished; given = i.given } in
    let rest = (g.F.Shelf.state c.args.shelf.now).rest in
    let none : i.left ≡ 0 = omega (arith, c.if-self-count.true, c.in-Ok.ensures.within, c.max-most.ensures, c.min.ensures) in
    let some : 0 < length rest = omega (arith, ap length (c.in-Ok.ensures.given told), length-append c.fill.new.self (g.F.Shelf.state c.fill.new.shelf).rest, c.in-Ok.ensures.count, c.if-self-count.true) in
    gone_too_far limit text rest gave old (rw (← c.self.view_is) at h) going empty none some
