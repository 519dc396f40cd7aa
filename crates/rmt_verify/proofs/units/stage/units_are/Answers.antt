use Rattle.std.proofs.Common.{◌≡◌, ℕ, get_or, arith}
use Rattle.std.proofs.lemmas.List.{get_or_default}
use Rattle.std.proofs.lemmas.Slice.Zip.{AllZip-long}
use Rattle.rmt_refine.specs.Types.{Unit}
use Rattle.rmt_refine.specs.Units.{UnitCarried}
use Rattle.rmt_verify.proofs.ZipLaws.{zip_at, zip_more}
use Rattle.rmt_verify.proofs.units.stage.units_are.Goals as goal

pub returns-then-nodes-units : goal.returns-then-nodes-units
returns-then-nodes-units c =
    let at = c.args.at.now in
    let R : ℕ → Unit → Type 0 = UnitCarried at.program.now at.places.now at.parts.now at.stage in
    (λ no. absurd cc, λ all. absurd (omega (arith, c.if-nodes-units.true, AllZip-long R c.args.nodes.now c.args.units.now all)))

pub returns-then-not-is_unit_of : goal.returns-then-not-is_unit_of
returns-then-not-is_unit_of c =
    let at = c.args.at.now in
    let R : ℕ → Unit → Type 0 = UnitCarried at.program.now at.places.now at.parts.now at.stage in
    let nodes = c.args.nodes.now in
    let i = c.loop-place.place in
    let n = get_or nodes i 0 in
    let same : n ≡ get_or nodes i n = get_or_default nodes i 0 n c.loop-place-test.true in (
      λ no. absurd cc,
      λ all. absurd (
          let yes = c.is_unit_of.ensures.1 (zip_at R nodes c.args.units.now i n c.index-units-place.result c.loop-place-test.true same c.index-units-place.is all) in
          cc),
    )

pub loop-place-preserved : goal.loop-place-preserved
loop-place-preserved c =
    let at = c.args.at.now in
    let R : ℕ → Unit → Type 0 = UnitCarried at.program.now at.places.now at.parts.now at.stage in
    let nodes = c.args.nodes.now in
    let i = c.loop-place.place in
    let n = get_or nodes i 0 in
    let same : n ≡ get_or nodes i n = get_or_default nodes i 0 n c.loop-place-test.true in
    zip_more R nodes c.args.units.now i n c.index-units-place.result c.loop-place-test.true (omega (arith, c.loop-place-test.true, c.if-nodes-units.false)) same c.index-units-place.is
    c.loop-place.invariant (c.is_unit_of.ensures.0 cc)
