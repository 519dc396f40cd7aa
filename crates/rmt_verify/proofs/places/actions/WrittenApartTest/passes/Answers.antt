use Rattle.std.proofs.Common.{List, IsTrue, ◌↔◌, subst}
use Rattle.std.specs.Prelude.{All}
use Rattle.rmt_ast.specs.declared.program.Assign.{Assign}
use Rattle.rmt_verify.specs.WrittenApart.{AreApartFrom}
use Rattle.rmt_verify.proofs.PlaceLaws.{written_each}
use Rattle.rmt_verify.proofs.places.actions.WrittenApartTest.passes.Goals as goal

pub returns : goal.returns
returns c =
    let places = c.args.self.now.places.now in
    let all : IsTrue c.all_pass.result ↔ All (λ (x : Assign). All (λ (y : Assign). AreApartFrom places x.dest y.dest) c.args.action.now.assigns) c.args.action.now.assigns =
    subst (λ (xs : List Assign). IsTrue c.all_pass.result ↔ All (λ (x : Assign). All (λ (y : Assign). AreApartFrom places x.dest y.dest) xs) xs) c.as_slice-assigns.ensures c.all_pass.ensures in
    let same = written_each places c.args.action.now in
    (λ yes. same.0 (all.0 yes), λ apart. all.1 (same.1 apart))
