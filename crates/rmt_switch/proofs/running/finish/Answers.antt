use Rattle.std.proofs.Common.{◌∙◌, ap, length}
use Rattle.rmt_switch.specs.Ports.{files_from}
use Rattle.rmt_switch.proofs.RunLaws.{given_at_end}
use Rattle.rmt_switch.proofs.running.finish.Goals as goal

pub files-requires : goal.files-requires
files-requires c = ap length c.captures_of.ensures ∙ c.requires.ends.2.holds.all_files

pub returns : goal.returns
returns c = λ k groups every file e.
    given_at_end k groups every file c.args.capture.now c.requires.head c.args.running e c.in_ok-files.files c.len.result c.from.result
    (c.in_ok-files.ensures ∙ ap (files_from 0) c.captures_of.ensures) c.len.ensures c.from.ensures
