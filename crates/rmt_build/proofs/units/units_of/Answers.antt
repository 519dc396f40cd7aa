use Rattle.std.proofs.Common.{◌≡◌, ◌<◌, ◌+◌, ℕ, Bool, ◌++◌, ◌∷◌, [], ◌∙◌, ap, sym, subst, cond, filter, true, false, arith}
use Rattle.std.specs.Prelude.{All, nat_lt}
use Rattle.std.specs.List.{AllZip, range_with_len}
use Rattle.std.proofs.lemmas.Bool.{le-ltb, lt-ltb}
use Rattle.std.proofs.lemmas.List.{append-nil}
use Rattle.std.proofs.lemmas.List.Elements.{All-append, All-cons, All-nil}
use Rattle.rmt_build.specs.Types.{Unit}
use Rattle.rmt_pack.specs.Placements.{quanta_in}
use Rattle.rmt_refine.specs.Units.{UnitCarried}
use Rattle.rmt_bits.proofs.ListLaws.{filter-range_more, zip_push}
use Rattle.rmt_build.specs.BuiltStage.{HaveParts, SmallUnit}
use Rattle.rmt_build.proofs.PlanLaws.{absent_taken}
use Rattle.rmt_build.proofs.UnitPartLaws.{parts_push}
use Rattle.rmt_build.proofs.units.units_of.Goals as goal
use Rattle.rmt_build.proofs.units.units_of.Goals.{then-quanta_in-gt0+in_ok-unit_of+in_ok-push, else-quanta_in-gt0}

pub loop-node-preserved : goal.loop-node-preserved
loop-node-preserved c =
    let p = c.args.planned.now.program.now in
    let parts = c.args.planned.now.plan.now.placement.parts in
    let k = c.args.planned.now.stage in
    let n = c.loop-node.node in
    let test : ℕ → Bool = λ m. nat_lt 0 (quanta_in parts m k) in
    let so_far = filter test (range_with_len 0 n) in
    let same = c.quanta_in.ensures ∙ ap (λ ps. quanta_in ps n k) c.as_slice.ensures in
    let R : ℕ → Unit → Type 0 = UnitCarried p c.args.planned.now.plan.now.places parts k in
    elim c.if-quanta_in-gt0.branch [
      | then-quanta_in-gt0+in_ok-unit_of+in_ok-push w ↦
          let some : 0 < quanta_in parts n k = omega (arith, w.if-quanta_in-gt0.true, same) in
          let yes : test n ≡ true = lt-ltb 0 (quanta_in parts n k) some in
          let u = w.in_ok-unit_of.field-0 in
          record {
            units = subst (λ us. AllZip R (filter test (range_with_len 0 (n + 1))) us) (sym (w.units-is ∙ w.in_ok-push.ensures.ok))
                (subst (λ ns. AllZip R ns (c.loop-node.units ++ u ∷ [])) (sym (filter-range_more test n ∙ ap (λ b. so_far ++ cond b (n ∷ []) []) yes))
                (zip_push R so_far c.loop-node.units n u c.loop-node.invariant.units w.in_ok-unit_of.ensures.unit));
            parts = subst (HaveParts p c.args.planned.now.entries.now c.args.planned.now.plan.now k) (sym (w.units-is ∙ w.in_ok-push.ensures.ok))
                (parts_push p c.args.planned.now.entries.now c.args.planned.now.plan.now k c.loop-node.units u c.loop-node.invariant.parts w.in_ok-unit_of.ensures.parts);
            small = subst (All SmallUnit) (sym (w.units-is ∙ w.in_ok-push.ensures.ok))
                (All-append SmallUnit c.loop-node.units (u ∷ []) c.loop-node.invariant.small (All-cons SmallUnit u [] w.in_ok-unit_of.ensures.small (All-nil SmallUnit)));
            taken = w.taken-is ∙ w.in_ok-unit_of.ensures.taken;
          }
      | else-quanta_in-gt0 w ↦
          let none : quanta_in parts n k ≡ 0 = omega (arith, w.if-quanta_in-gt0.false, same) in
          let no_unit : test n ≡ false = le-ltb 0 (quanta_in parts n k) (omega (arith, none)) in
          record {
            units = subst (λ us. AllZip R (filter test (range_with_len 0 (n + 1))) us) (sym w.units-is)
                (subst (λ ns. AllZip R ns c.loop-node.units) (sym (filter-range_more test n ∙ (ap (λ b. so_far ++ cond b (n ∷ []) []) no_unit ∙ append-nil so_far))) c.loop-node.invariant.units);
            parts = subst (HaveParts p c.args.planned.now.entries.now c.args.planned.now.plan.now k) (sym w.units-is) c.loop-node.invariant.parts;
            small = subst (All SmallUnit) (sym w.units-is) c.loop-node.invariant.small;
            taken = w.taken-is ∙ (c.loop-node.invariant.taken ∙ absent_taken p parts k n none);
          }
    ]
