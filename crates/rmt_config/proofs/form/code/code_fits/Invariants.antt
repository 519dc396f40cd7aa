use Rattle.std.proofs.Common.{◌≡◌, drop}
use Rattle.rmt_config.specs.CodeForm.{places_of, code_is_formed}
use Rattle.rmt_config.proofs.form.code.code_fits.Given as goal

abbrev pub invariant-loop-unit : goal.invariant-loop-unit
invariant-loop-unit l = code_is_formed (places_of (drop l.unit-index l.units)) l.rest ≡ code_is_formed (places_of l.units) l.code
