use Rattle.std.proofs.Common.{◌≡◌, drop}
use Rattle.rmt_ast.specs.NameList.{is_known, seen}
use Rattle.rmt_config.proofs.form.names.words.is_among.Given as goal

abbrev pub invariant-loop-other : goal.invariant-loop-other
invariant-loop-other l = is_known (seen (drop l.other-index l.words)) l.word ≡ is_known (seen l.words) l.word
