use Rattle.std.proofs.Common.{List, ℕ, subst}
use Rattle.std.specs.Prelude.{IsTrue, ◌↔◌}
use Rattle.rmt_phv.specs.Sets.{Meet}
use Rattle.rmt_deps.proofs.EdgeLaws.{meet_is}
use Rattle.rmt_deps.proofs.edges.meet.Goals as goal

pub returns : goal.returns
returns c = λ xs ys in_first in_second.
    meet_is c.args.first.now c.args.second.now xs ys c.meets.result in_first in_second
    (subst (λ (a : List ℕ). IsTrue c.meets.result ↔ Meet a c.args.second.now) c.as_slice.ensures
    (subst (λ (b : List ℕ). IsTrue c.meets.result ↔ Meet c.as_slice.result.now b) c.as_slice-2.ensures c.meets.ensures))
