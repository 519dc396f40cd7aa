use Rattle.std.proofs.Common.{refl}
use Rattle.rmt_switch.proofs.PortLaws.{fresh}
use Rattle.rmt_switch.proofs.ports.Ports.new.Goals as goal

pub returns : goal.returns
returns c = λ capture. fresh capture _ c.in_ok-queues.ensures.empty (c.in_ok-waiting.ensures.items_if_clones_equal (λ y e. e)) (c.in_ok-room.ensures.items_if_clones_equal (λ y e. e)) c.in_ok-files.ensures refl refl refl
