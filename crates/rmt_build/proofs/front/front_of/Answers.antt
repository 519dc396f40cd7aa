use Rattle.std.proofs.Common.{◌≡◌, None, Ok, ap, sym}
use Rattle.rmt_bits.proofs.OptionLaws.{done_not_failed}
use Rattle.rmt_phv.specs.declared.fault.PhvFull.TheVariants as phv
use Rattle.rmt_phv.proofs.FieldCount.{few_fields}
use Rattle.rmt_ptcam.specs.declared.fault.ParserFault.TheVariants as parser
use Rattle.rmt_ptcam.specs.Clustering.{clustered, clustered_or}
use Rattle.rmt_ptcam.specs.Needs.{refusal, unless}
use Rattle.rmt_vliw.specs.declared.fault.ActionDeep.TheVariants as action
use Rattle.rmt_build.proofs.RefusalLaws.{by_rule, not_refused}
use Rattle.rmt_build.proofs.front.front_of.Goals as goal

pub pack_fields-requires-clause-few_fields : goal.pack_fields-requires-clause-few_fields
pack_fields-requires-clause-few_fields c = few_fields c.args.program.now c.requires

pub returns-clause-front : goal.returns-clause-front
returns-clause-front c =
    let p = c.args.program.now in
    let places = c.in_ok-places.places in
    let fits : refusal p ≡ None = not_refused (refusal p) c.in_ok-parser_need.ensures in
    let made : clustered_or p places ≡ Ok (clustered p places) = ap (λ r. unless r (clustered p places)) fits in
    record {
      fits = fits;
      shallow = c.in_ok-folded.ensures.refused (done_not_failed c.in_ok-folded.folded action.NoMemory);
      packed = sym (c.in_ok-places.ensures.packed (done_not_failed places phv.NoMemory));
      folded = c.in_ok-folded.ensures.folded;
      apart = c.in_ok-places.ensures.places;
      parser = by_rule c.in_ok-parser.parser (clustered p places) parser.NoMemory (clustered_or p places) c.in_ok-parser.ensures.made made;
      agrees = c.in_ok-parser.ensures.agrees;
      deps = c.in_ok-deps.ensures.edges;
    }
