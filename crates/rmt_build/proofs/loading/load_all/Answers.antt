use Rattle.std.proofs.Common.{ℕ, ◌≡◌, arith, inl, inr, subst, sym}
use Rattle.std.proofs.lemmas.Bool.{cases_lt}
use Rattle.rmt_build.specs.Loads.{IsFull}
use Rattle.rmt_build.specs.Tries.{AreTried}
use Rattle.rmt_build.proofs.TriedLaws.{all_loaded}
use Rattle.rmt_build.proofs.loading.load_all.Goals as goal

pub loop-seed-preserved : goal.loop-seed-preserved
loop-seed-preserved c s lt =
    let p = c.args.placed.now.program.now in
    let lists = c.args.placed.now.entries.now in
    let parts = c.args.placed.now.parts.now in
    let full = subst (AreTried p lists parts c.loop-seed.seed) c.in_default.is c.in_ok-stands.ensures in
    elim (cases_lt s c.loop-seed.seed) [
      | inl less ↦ c.loop-seed.invariant s less
      | inr le ↦
          let same : s ≡ c.loop-seed.seed = omega (arith, lt, le) in
          subst (λ k. (m : ℕ) × (count : ℕ) × (few : ℕ) × IsFull p lists parts k m count few) (sym same) (c.in_default.field-0.node, c.in_default.field-0.members, c.in_default.field-0.cells, full.0)
    ]

pub returns-in-Stand-clause-seed : goal.returns-in-Stand-clause-seed
returns-in-Stand-clause-seed c =
    let p = c.args.placed.now.program.now in
    let lists = c.args.placed.now.entries.now in
    let parts = c.args.placed.now.parts.now in
    let stand = subst (AreTried p lists parts c.loop-seed.seed) c.in-Stand.is c.in_ok-stands.ensures in
    record {
      few = let low = c.loop-seed-test.true in omega (arith, low);
      loaded = all_loaded p lists parts c.loop-seed.seed c.in-Stand.stands stand;
      least = c.loop-seed.invariant;
    }

pub returns-in-Stand-2-clause-seed : goal.returns-in-Stand-2-clause-seed
returns-in-Stand-2-clause-seed c =
    let p = c.args.placed.now.program.now in
    let lists = c.args.placed.now.entries.now in
    let parts = c.args.placed.now.parts.now in
    let stand = subst (AreTried p lists parts 7) c.in-Stand-2.is c.in_ok-stands-2.ensures in
    record {
      few = omega arith;
      loaded = all_loaded p lists parts 7 c.in-Stand-2.stands stand;
      least = λ s lt. c.loop-seed.invariant s (omega (arith, lt, c.loop-seed-test.false));
    }

pub returns-in-Overfull-clause-refused : goal.returns-in-Overfull-clause-refused
returns-in-Overfull-clause-refused c =
    let p = c.args.placed.now.program.now in
    let lists = c.args.placed.now.entries.now in
    let parts = c.args.placed.now.parts.now in
    let full = subst (AreTried p lists parts 7) c.in-Overfull.is c.in_ok-stands-2.ensures in
    record {
      each = λ s lt. elim (cases_lt s 7) [
        | inl less ↦ c.loop-seed.invariant s (omega (arith, less, c.loop-seed-test.false))
        | inr le ↦
            let same : s ≡ 7 = omega (arith, lt, le) in
            subst (λ k. (m : ℕ) × (count : ℕ) × (few : ℕ) × IsFull p lists parts k m count few) (sym same) (c.in-Overfull.full.node, c.in-Overfull.full.members, c.in-Overfull.full.cells, full.0)
      ];
      last = full.0;
      first = full.1;
    }
