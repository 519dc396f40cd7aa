use Rattle.std.proofs.Common.{length, refl, sym, ap, subst, arith}
use Rattle.std.proofs.lemmas.Option.{slice_get_within}
use Rattle.rmt_bits.proofs.ListLaws.{slice_get-seen}
use Rattle.rmt_config.proofs.InstructionLaws.{first_code_next}
use Rattle.rmt_verify.specs.StageCode.{UnitCoded}
use Rattle.rmt_verify.proofs.CodedLaws.{units_more}
use Rattle.rmt_verify.proofs.RisingLaws.{stage_rises}
use Rattle.rmt_verify.proofs.instructions.tables.stage_code_holds.Goals as goal

pub unit_holds-requires-clause-rises : goal.unit_holds-requires-clause-rises
unit_holds-requires-clause-rises c = stage_rises c.args.stage.now c.requires.formed

pub returns-then-not-branch : goal.returns-then-not-branch
returns-then-not-branch c =
    let stage = c.args.stage.now in
    let i = c.loop-unit.unit-index in
    let u = c.unit-item.result in
    let at = slice_get-seen stage.units c.as_slice-unit-items.result.now i u c.as_slice-unit-items.ensures c.loop-unit-test.true c.unit-item.is in (
      λ no. absurd cc,
      λ coded. absurd (let yes = c.in_ok-unit_holds.ensures.1 (subst (λ k. UnitCoded c.args.coding.now.program.now c.args.coding.now.places.now stage k u) (sym c.loop-unit.invariant.first_is) (coded i u at)) in cc),
    )

pub loop-unit-preserved : goal.loop-unit-preserved
loop-unit-preserved c =
    let stage = c.args.stage.now in
    let i = c.loop-unit.unit-index in
    let u = c.unit-item.result in
    let inv = c.loop-unit.invariant in
    let at = slice_get-seen stage.units c.as_slice-unit-items.result.now i u c.as_slice-unit-items.ensures c.loop-unit-test.true c.unit-item.is in
    let next = first_code_next stage i u at in
    record {
      few = omega (arith, inv.few, c.instructions_of.ensures.few);
      first_is = (let size = c.instructions_of.ensures.value in let is = inv.first_is in omega (arith, next, size, is));
      so_far = units_more c.args.coding.now.program.now c.args.coding.now.places.now stage i u at (subst (λ k. UnitCoded c.args.coding.now.program.now c.args.coding.now.places.now stage k u) inv.first_is (c.in_ok-unit_holds.ensures.0 cc)) inv.so_far;
    }

pub returns : goal.returns
returns c = (
  λ yes place u at.
      (let lt = slice_get_within c.args.stage.now.units place u at in
      let size = ap length c.as_slice-unit-items.ensures in
      c.loop-unit.invariant.so_far place u (omega (arith, lt, size, c.loop-unit-test.false)) at),
  λ all. refl,
)
