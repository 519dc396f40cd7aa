use Rattle.std.proofs.Common.{◌≡◌, ◌↔◌, Option, Some, IsTrue, subst}
use Rattle.std.specs.Prelude.{IfSome}
use Rattle.rmt_ast.specs.declared.names.Names.{Names}
use Rattle.rmt_ast.specs.Naming.{names_of}
use Rattle.rmt_refine.specs.Named.{NamesCarried}
use Rattle.rmt_verify.proofs.NameLaws.{named}
use Rattle.rmt_verify.proofs.names.names_hold.Goals as goal

pub returns-in_ok-own-in-Some-clause-exact : goal.returns-in_ok-own-in-Some-clause-exact
returns-in_ok-own-in-Some-clause-exact c =
    let p = c.args.given.now.program.now in
    let lists = c.args.given.now.entries.now in
    let cfg = c.args.given.now.config.now in
    let names : Names = c.in-Some.names in
    let same : IsTrue c.is_same.result ↔ (names ≡ names_of p lists) =
    subst (λ (x : Names). IsTrue c.is_same.result ↔ (names ≡ x)) c.in_ok-own-in-Some.ensures c.is_same.ensures in
    let own = named p lists c.args.given.now.map.now cfg c.requires.given.program c.requires.given.entries c.requires.given.formed c.requires.units c.requires.cells names in
    let is : ◌≡◌ {A = Option Names} (Some names) cfg.names = cc in
    subst (λ (o : Option Names). IsTrue c.is_same.result ↔ IfSome o (NamesCarried p lists cfg)) is (λ yes. own.0 (same.0 yes), λ carried. same.1 (own.1 carried))
