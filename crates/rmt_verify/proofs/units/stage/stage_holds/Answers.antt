use Rattle.std.proofs.Common.{◌≡◌, ◌↔◌, ℕ, List, IsTrue, length, get_or, ap, subst, ◌∙◌}
use Rattle.std.specs.List.{AllZip}
use Rattle.rmt_config.specs.Limits.{told}
use Rattle.rmt_pack.specs.Placements.{quanta_in}
use Rattle.rmt_refine.specs.Units.{UnitCarried, nodes_in}
use Rattle.rmt_verify.proofs.UnitLaws.{nodes_are}
use Rattle.rmt_verify.proofs.units.stage.stage_holds.Goals as goal

pub returns : goal.returns
returns c =
    let p = c.args.placed.now.program.now in
    let parts = c.args.placed.now.parts.now in
    let k = c.args.stage in
    let quanta = c.as_slice-quanta.result.now in
    let long : length quanta ≡ length p.nodes = ap (λ (xs : List ℕ). length xs) c.as_slice-quanta.ensures.value ∙ c.in_ok-quanta.ensures.all ∙ c.len.ensures in
    let each : (n : ℕ) → get_or quanta n 0 ≡ told (quanta_in parts n k) = λ n. ap (λ (xs : List ℕ). get_or xs n 0) c.as_slice-quanta.ensures.value ∙ c.in_ok-quanta.ensures.each n in
    let same : c.as_slice.result.now ≡ nodes_in p parts k = c.as_slice.ensures.value ∙ c.in_ok-nodes.ensures ∙ nodes_are p parts k quanta long each in
    subst (λ (ns : List ℕ). IsTrue c.units_are.result ↔ AllZip (UnitCarried p c.args.placed.now.places.now parts k) ns c.args.units.now) same c.units_are.ensures
