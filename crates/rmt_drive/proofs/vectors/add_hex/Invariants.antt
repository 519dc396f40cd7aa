-- The digits so far, and those of the places that are left, are all.
use Rattle.std.proofs.Common.{◌≡◌, ◌≤◌, ◌++◌}
use Rattle.rmt_drive.specs.ProbeText.{hex_text}
use Rattle.rmt_drive.proofs.vectors.add_hex.Given as goal

abbrev pub invariant-loop-places : goal.invariant-loop-places
invariant-loop-places l = record {
  within : l.places ≤ l.count;
  digits : l.text.items ++ hex_text l.places l.value ≡ l.initial.text.items ++ hex_text l.count l.value;
}

abbrev pub decreases-loop-places : goal.decreases-loop-places
decreases-loop-places l = l.places
