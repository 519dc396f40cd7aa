use Rattle.std.proofs.Common.{◌≡◌, List, Result, Ok, Err, IfOk, sym}
use Rattle.rmt_bits.specs.declared.lane.Lane.{Lane}
use Rattle.rmt_ast.specs.declared.program.Program.{Program}
use Rattle.rmt_phv.specs.declared.fault.PhvFull.{PhvFull}
use Rattle.rmt_phv.specs.declared.fault.PhvFull.TheVariants.{NoMemory}
use Rattle.rmt_phv.specs.Packing.{packing}
use Rattle.rmt_phv.specs.Places.{KeepsApart}
use Rattle.rmt_phv.proofs.PackingLaws.{packed_places}
use Rattle.rmt_phv.proofs.pack.pack_fields.Goals as goal

kept : (p : Program) (r : Result (List (List Lane)) PhvFull) → ((r ≡ Err NoMemory → ⊥) → r ≡ packing p) → IfOk r (KeepsApart p)
kept p (Ok places) packed = packed_places p places (sym (packed (λ e. cc)))
kept p (Err fault) packed = tt

pub returns-clause-places : goal.returns-clause-places
returns-clause-places c = kept c.args.program.now c.place_fields.result c.place_fields.ensures
