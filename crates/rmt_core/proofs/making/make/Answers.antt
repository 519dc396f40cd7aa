use Rattle.std.proofs.Common.{Result, Ok, Err, ap}
use Rattle.std.specs.Prelude.{IfOk}
use Rattle.rmt_core.specs.Making.{bytes_of}
use Rattle.rmt_core.proofs.MakeLaws.{are_nodes, built_files, lines_some}
use Rattle.rmt_drive.proofs.LineLaws.{both_ok}
use Rattle.rmt_core.proofs.NoFitLaws.{same_Err}
use Rattle.rmt_core.proofs.making.make.Goals as goal

all_ok : {A E : Type 0} {P Q S R : A → Type 0} (r : Result A E) → ((x : A) → P x → Q x → S x → R x) → IfOk r P → IfOk r Q → IfOk r S → IfOk r R
all_ok (Ok x) f p q s = f x p q s
all_ok (Err e) f p q s = tt

pub made_of-requires-clause-formed : goal.made_of-requires-clause-formed
made_of-requires-clause-formed c = c.in-Ok.ensures.built.makes.spells.formed

pub made_of-requires-clause-limits : goal.made_of-requires-clause-limits
made_of-requires-clause-limits c = c.in-Ok.ensures.built.makes.spells.limits

pub made_of-requires-clause-nodes : goal.made_of-requires-clause-nodes
made_of-requires-clause-nodes c = are_nodes c.args.program.now c.in-Ok.built.map.places c.in-Ok.built.bound c.requires.program c.in-Ok.ensures.built.makes.bounded.bound

pub made_of-requires-clause-places : goal.made_of-requires-clause-places
made_of-requires-clause-places c = c.in-Ok.ensures.built.makes.carries.places.apart

pub made_of-requires-clause-map : goal.made_of-requires-clause-map
made_of-requires-clause-map c = c.in-Ok.ensures.built.makes.map

pub returns-in-Ok-clause-made : goal.returns-in-Ok-clause-made
returns-in-Ok-clause-made c =
    all_ok c.made_of.result
    (λ m image map lines. built_files c.args.placer c.args.program.now c.args.entries.now c.in-Ok.built c.args.has_map m.image.items (bytes_of m.map) m.lines c.in-Ok.ensures.built image map lines)
    c.made_of.ensures.image c.made_of.ensures.map c.made_of.ensures.lines

pub returns-in-Ok-clause-some : goal.returns-in-Ok-clause-some
returns-in-Ok-clause-some c =
    both_ok c.made_of.result (λ m lines _. lines_some c.args.program.now c.in-Ok.built.config c.in-Ok.built.bound m.lines lines) c.made_of.ensures.lines c.made_of.ensures.lines

pub returns-in-Err-clause-refused : goal.returns-in-Err-clause-refused
returns-in-Err-clause-refused c = λ line e. c.in-Err.ensures.refused line (ap (λ r. Err r) (same_Err _ _ e))
