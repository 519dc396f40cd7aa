use Rattle.std.proofs.Common.{Bool, List, ◌+◌, ◌++◌, ◌∷◌, ◌&&◌, map, drop, sym, ap, subst, ◌∙◌, rules}
use Rattle.std.proofs.lemmas.List.{drop_all}
use Rattle.rmt_config.specs.Order.{each_between}
use Rattle.rmt_config.specs.Types.{Stage, Unit}
use Rattle.rmt_config.specs.TableForm.{placed_from, tables_are_formed, unit_stands}
use Rattle.rmt_config.proofs.TableLaws.{Reached, place_at, reached_stage, reached_unit, reached_more, reached_room}
use Rattle.rmt_config.proofs.form.tables.tables_fit.Goals as goal

pub loop-unit-init : goal.loop-unit-init
loop-unit-init c =
    reached_stage c.loop-number.nodes c.as_slice-stages.result.now c.loop-number.number c.index-stages-number.result c.as_slice-unit-items.result.now (tables_are_formed c.args.config.now)
    c.loop-number-test.true c.index-stages-number.is c.as_slice-unit-items.ensures c.loop-number.invariant

pub pass-requires : goal.pass-requires
pass-requires c =
    let k = c.loop-number.number in
    let rest = placed_from (k + 1) (drop (k + 1) c.as_slice-stages.result.now) in
    let whole = tables_are_formed c.args.config.now in
    let units = c.as_slice-unit-items.result.now in
    let unit = c.unit-item.result in
    let room = reached_room c.loop-unit.nodes (place_at k unit) (map (place_at k) (drop (c.loop-unit.unit-index + 1) units) ++ rest) whole
    (reached_unit c.loop-unit.nodes units c.loop-unit.unit-index k unit rest whole c.loop-unit-test.true c.unit-item.is c.loop-unit.invariant) c.unit_stands.ensures.byte in
    record { whole = search rules; comes = room.0; room = room.1 }

pub loop-unit-preserved : goal.loop-unit-preserved
loop-unit-preserved c =
    let k = c.loop-number.number in
    let rest = placed_from (k + 1) (drop (k + 1) c.as_slice-stages.result.now) in
    let whole = tables_are_formed c.args.config.now in
    let units = c.as_slice-unit-items.result.now in
    let unit = c.unit-item.result in
    reached_more c.loop-unit.nodes c.pass.new.self (place_at k unit) (map (place_at k) (drop (c.loop-unit.unit-index + 1) units) ++ rest) whole
    (reached_unit c.loop-unit.nodes units c.loop-unit.unit-index k unit rest whole c.loop-unit-test.true c.unit-item.is c.loop-unit.invariant)
    (λ before behind known. sym c.if-not-unit_stands.false ∙ c.unit_stands.ensures.value before behind known)
    c.pass.ensures

pub returns-then-not-unit_stands : goal.returns-then-not-unit_stands
returns-then-not-unit_stands c =
    let k = c.loop-number.number in
    let units = c.as_slice-unit-items.result.now in
    let unit = c.unit-item.result in
    let behind = map (place_at k) (drop (c.loop-unit.unit-index + 1) units) ++ placed_from (k + 1) (drop (k + 1) c.as_slice-stages.result.now) in
    let r = reached_unit c.loop-unit.nodes units c.loop-unit.unit-index k unit (placed_from (k + 1) (drop (k + 1) c.as_slice-stages.result.now)) (tables_are_formed c.args.config.now)
    c.loop-unit-test.true c.unit-item.is c.loop-unit.invariant in
    sym (ap (λ (b : Bool). b && each_between unit_stands (place_at k unit ∷ r.before) behind) (sym (c.unit_stands.ensures.value r.before behind r.known) ∙ c.if-not-unit_stands.true)) ∙ r.holds

pub loop-number-preserved : goal.loop-number-preserved
loop-number-preserved c =
    let k = c.loop-number.number in
    subst (λ (us : List Unit). Reached c.loop-unit.nodes (map (place_at k) us ++ placed_from (k + 1) (drop (k + 1) c.as_slice-stages.result.now)) (tables_are_formed c.args.config.now))
    (drop_all c.loop-unit.unit-index c.as_slice-unit-items.result.now c.loop-unit-test.false) c.loop-unit.invariant

pub returns : goal.returns
returns c =
    let k = c.loop-number.number in
    let r = subst (λ (ss : List Stage). Reached c.loop-number.nodes (placed_from k ss) (tables_are_formed c.args.config.now))
    (drop_all k c.as_slice-stages.result.now c.loop-number-test.false) c.loop-number.invariant in
    r.holds
