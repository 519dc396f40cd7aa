-- The line of the fault.
use Rattle.rmt_core.specs.ImageFaults.{bad_image_line}
use Rattle.rmt_core.proofs.bad_image.tell_bad_image.Goals as goal

pub returns : goal.returns
returns g c = record {
  line = c.tell.ensures.line (bad_image_line c.args.fault) c.bad_image_text.ensures;
  no_memory = λ e. absurd (c.in_default.not-NoMemory e);
  only_printed = c.tell.ensures.only_printed;
}
