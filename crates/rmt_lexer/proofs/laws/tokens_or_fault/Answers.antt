use Rattle.std.proofs.Common.{length, arith, subst}
use Rattle.rmt_lexer.specs.Text.{first_place}
use Rattle.rmt_lexer.proofs.Ends.{Fine, fine}
use Rattle.rmt_lexer.proofs.laws.tokens_or_fault.Goals as goal

pub returns-clause-ends : goal.returns-clause-ends
returns-clause-ends c text tokens is = (subst (Fine (length text)) is (fine 0 first_place text)).0

pub returns-clause-few : goal.returns-clause-few
returns-clause-few c text tokens is = omega (arith, (subst (Fine (length text)) is (fine 0 first_place text)).1)

pub returns-clause-fault : goal.returns-clause-fault
returns-clause-fault c text is = subst (Fine (length text)) is (fine 0 first_place text)
