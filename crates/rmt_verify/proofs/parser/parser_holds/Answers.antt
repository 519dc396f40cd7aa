use Rattle.std.proofs.Common.{◌≡◌, ◌↔◌, ◌∙◌, Bool, IsTrue, List, Some, ap, sym}
use Rattle.std.specs.Prelude.{Ok}
use Rattle.std.proofs.lemmas.Option.{same_Some}
use Rattle.rmt_bits.specs.declared.lane.Lane.{Lane}
use Rattle.rmt_ast.specs.declared.program.Program.{Program}
use Rattle.rmt_config.specs.declared.config.ParserConfig.{ParserConfig}
use Rattle.rmt_ptcam.specs.Joins.{replayed}
use Rattle.rmt_ptcam.specs.Plain.{planned}
use Rattle.rmt_ptcam.proofs.ClusteringLaws.{planned_ok}
use Rattle.rmt_verify.specs.ParserMade.{IsMadeOf}
use Rattle.rmt_verify.specs.Types.{Join}
use Rattle.rmt_verify.proofs.parser.parser_holds.Goals as goal

made_of : (p : Program) (places : List (List Lane)) (joins : List Join) (parser plain made : ParserConfig) (b : Bool) → Ok plain ≡ planned p places → Some made ≡ replayed plain joins → IsTrue b ↔ (made ≡ parser)
    → IsTrue b ↔ IsMadeOf p places joins parser
made_of p places joins parser plain made b is given same = (
  λ yes. record { first = plain; plain = sym is; made = sym given ∙ ap Some (same.0 yes) },
  λ m.
      (let one : plain ≡ m.first = (planned_ok p places plain is).1 ∙ sym (planned_ok p places m.first (sym m.plain)).1 in
      same.1 (same_Some made parser (given ∙ ap (λ q. replayed q joins) one ∙ m.made))),
)

pub returns-in-Some-clause-exact : goal.returns-in-Some-clause-exact
returns-in-Some-clause-exact c =
    made_of c.args.program.now c.args.places.now c.args.joins.now c.args.parser.now c.in-Ok.plain c.in-Some.made c.is_same.result (c.in-Ok.ensures.made (λ e. cc)) (sym c.in-Some.is ∙ c.in_ok-made.ensures.given) c.is_same.ensures
