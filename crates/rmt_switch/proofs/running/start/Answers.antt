use Rattle.std.proofs.Common.{[], refl, sym, subst, arith}
use Rattle.rmt_config.specs.declared.config.Config.{Config}
use Rattle.rmt_chip.specs.Stands.{Stands}
use Rattle.rmt_switch.proofs.running.start.Goals as goal

pub returns : goal.returns
returns c = λ s file capture e.
    record {
      clocked = subst (λ (k : Config). Stands k [] c.in_ok-chip.chip) (sym e) c.in_ok-chip.ensures;
      holds = c.in_ok-ports.ensures capture;
      dropped = refl;
      few = omega arith;
    }
