use Rattle.std.proofs.Common.{◌≡◌, ◌∙◌, List, Ok, length, ap, subst, sym}
use Rattle.std.proofs.lemmas.Option.{none-some}
use Rattle.rmt_deps.specs.Edges.{GoForward, dependencies_of}
use Rattle.rmt_deps.proofs.EdgeLaws.{go_forward}
use Rattle.rmt_bits.proofs.OptionLaws.{same_Ok}
use Rattle.rmt_pack.specs.declared.placement.Part.{Part}
use Rattle.rmt_place.specs.Placing.{placement}
use Rattle.rmt_build.specs.Loads.{AreNotLoaded}
use Rattle.rmt_build.proofs.PlacedLaws.{rule_placed}
use Rattle.rmt_build.proofs.RefusalLaws.{none_refused, placed_there}
use Rattle.rmt_build.proofs.joined.build.Goals as goal

pub place-requires-clause-forward : goal.place-requires-clause-forward
place-requires-clause-forward c =
    let p = c.args.program.now in
    subst (GoForward (length p.nodes)) (sym c.in_ok-front.ensures.front.deps) (go_forward p c.in_ok-front.front.places)

pub built_on-requires-clause-placed : goal.built_on-requires-clause-placed
built_on-requires-clause-placed c =
    let p = c.args.program.now in
    let front = c.in_ok-front.front in
    rule_placed p front.places c.in_ok-placement.placement.parts c.requires.program (ap (placement p front.places) (sym c.in_ok-front.ensures.front.deps) ∙ c.in_ok-placement.ensures.placed)

pub returns-clause-load : goal.returns-clause-load
returns-clause-load c node members cells places parts is packed placed =
    let p = c.args.program.now in
    let front = c.in_ok-front.front in
    let same : front.places ≡ places = same_Ok front.places places (sym c.in_ok-front.ensures.front.packed ∙ packed) in
    let there : placement p front.places front.deps ≡ Ok parts =
    ap (placement p front.places) c.in_ok-front.ensures.front.deps ∙ ap (λ ps. placement p ps (dependencies_of p ps)) same ∙ placed in
    let own = same_Ok c.in_ok-placement.placement.parts parts (sym c.in_ok-placement.ensures.placed ∙ there) in
    subst (λ (ps : List Part). AreNotLoaded p c.args.entries.now ps node members cells) own (c.built_on.ensures.load node members cells is)

pub returns-clause-placement : goal.returns-clause-placement
returns-clause-placement c =
    let p = c.args.program.now in
    let front = c.in_ok-front.front in
    let placed : placement p front.places (dependencies_of p front.places) ≡ Ok c.in_ok-placement.placement.parts = ap (placement p front.places) (sym c.in_ok-front.ensures.front.deps) ∙ c.in_ok-placement.ensures.placed in
    placed_there p front.places c.in_ok-placement.placement c.built_on.result placed c.built_on.ensures.laid

pub returns-clause-refused : goal.returns-clause-refused
returns-clause-refused c fault first other =
    let p = c.args.program.now in
    let front = c.in_ok-front.front in
    let own = c.in_ok-front.ensures.front in
    let placed : placement p front.places (dependencies_of p front.places) ≡ Ok c.in_ok-placement.placement.parts = ap (placement p front.places) (sym own.deps) ∙ c.in_ok-placement.ensures.placed in
    absurd (none-some fault (sym (none_refused p front.places c.in_ok-placement.placement.parts own.fits own.shallow own.packed placed) ∙ first))
