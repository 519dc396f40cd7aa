-- The joins are those of the program's parser.
use Rattle.std.proofs.Common.{◌≡◌, List, Option, Some, None, Result, Ok, sym, ap, subst, ◌∙◌}
use Rattle.rmt_bits.proofs.OptionLaws.{same_Ok}
use Rattle.rmt_ptcam.specs.declared.fault.ParserFault.{ParserFault}
use Rattle.rmt_ptcam.specs.declared.joins.Join.{Join}
use Rattle.rmt_ptcam.specs.Joins.{joins}
use Rattle.rmt_ptcam.specs.Needs.{refusal, unless}
use Rattle.rmt_verify.specs.Spelling.{MapFits, spelled_map}
use Rattle.rmt_drive.proofs.LineLaws.{both_ok}
use Rattle.rmt_core.proofs.making.map_bytes.Goals as goal

told_joins : (o : Option ParserFault) (made told : List Join) → ◌≡◌ {A = Result (List Join) ParserFault} (Ok told) (unless o made) → told ≡ made
told_joins None made told e = same_Ok told made e
told_joins (Some fault) made told e = absurd cc

pub write_map-requires : goal.write_map-requires
write_map-requires c =
    let p = c.args.program.now in
    let same = told_joins (refusal p) (joins p c.args.map.places) c.in-Ok.joins (c.in-Ok.ensures.made (λ e. cc)) in
    record { fits = subst (λ (js : List Join). MapFits (record { map = c.args.map; joins = js })) (sym same) c.requires.map.fits }

pub returns : goal.returns
returns c =
    let p = c.args.program.now in
    let same = told_joins (refusal p) (joins p c.args.map.places) c.in-Ok.joins (c.in-Ok.ensures.made (λ e. cc)) in
    both_ok c.write_map.result (λ bytes spells _. spells.spelled ∙ ap (λ (js : List Join). spelled_map (record { map = c.args.map; joins = js })) same) c.write_map.ensures.ok c.write_map.ensures.ok
