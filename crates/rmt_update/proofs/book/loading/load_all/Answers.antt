use Rattle.std.proofs.Common.{refl, subst, arith}
use Rattle.rmt_update.specs.Loads.{AreTried, IsStuck}
use Rattle.rmt_update.proofs.LoadedLaws.{first-full, loaded-is, none-loads, stuck-more}
use Rattle.rmt_update.proofs.book.loading.load_all.Goals as goal

pub loop-seed-preserved : goal.loop-seed-preserved
loop-seed-preserved c =
    let tables = c.args.tables.now in
    let lists = c.args.entries.now in
    stuck-more tables lists c.loop-seed.seed c.in_default.field-0 c.loop-seed.invariant (subst (AreTried tables lists c.loop-seed.seed) c.in_default.is c.in_ok-spots.ensures)

pub returns-in-Stand-clause-loaded : goal.returns-in-Stand-clause-loaded
returns-in-Stand-clause-loaded c = λ config names are formed.
    let tables = c.args.tables.now in
    let lists = c.args.entries.now in
    loaded-is config names tables lists are formed c.never_both.ensures c.loop-seed.seed _ refl (let low = c.loop-seed-test.true in omega (arith, low))
    (subst (AreTried tables lists c.loop-seed.seed) c.in-Stand.is c.in_ok-spots.ensures) c.loop-seed.invariant

pub returns-in-Stand-2-clause-loaded : goal.returns-in-Stand-2-clause-loaded
returns-in-Stand-2-clause-loaded c = λ config names are formed.
    let tables = c.args.tables.now in
    let lists = c.args.entries.now in
    let end = c.loop-seed-test.false in
    loaded-is config names tables lists are formed c.never_both.ensures 7 _ refl (omega arith) (subst (AreTried tables lists 7) c.in-Stand-2.is c.in_ok-spots-2.ensures)
    (λ s lt. c.loop-seed.invariant s (omega (arith, lt, end)))

pub returns-in-Overfull-clause-refused : goal.returns-in-Overfull-clause-refused
returns-in-Overfull-clause-refused c = λ config names are formed.
    let tables = c.args.tables.now in
    let lists = c.args.entries.now in
    let end = c.loop-seed-test.false in
    let stuck : IsStuck tables lists 7 c.in-Overfull.full = subst (AreTried tables lists 7) c.in-Overfull.is c.in_ok-spots-2.ensures in (
      none-loads config names tables lists are formed c.never_both.ensures (stuck-more tables lists 7 c.in-Overfull.full (λ s lt. c.loop-seed.invariant s (omega (arith, lt, end))) stuck),
      first-full config names tables lists are formed 7 c.in-Overfull.full stuck,
    )
