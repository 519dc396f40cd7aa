use Rattle.std.proofs.Common.{◌≡◌, take, fold}
use Rattle.rmt_config.specs.Parser.{extracted}
use Rattle.rmt_ptcam.proofs.parse.extract.extract_all.Given as goal

abbrev pub invariant-loop-one : goal.invariant-loop-one
invariant-loop-one l = l.vector ≡ fold (extracted l.window) l.initial.vector (take l.one-index l.extracts)
