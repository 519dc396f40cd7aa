use Rattle.std.proofs.Common.{◌≡◌, drop}
use Rattle.std.specs.List.{list_all}
use Rattle.rmt_config.specs.CodeForm.{vliw_is_formed}
use Rattle.rmt_config.proofs.form.code.each_vliw_fits.Given as goal

abbrev pub invariant-loop-vliw : goal.invariant-loop-vliw
invariant-loop-vliw l = list_all (vliw_is_formed l.place) (drop l.vliw-index l.code) ≡ list_all (vliw_is_formed l.place) l.code
