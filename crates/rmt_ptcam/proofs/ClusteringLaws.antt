-- The joins of the clustered parser, one after another.
use Rattle.std.proofs.Common.{◌≡◌, List, length, Option, Some, None, refl, ap, ◌∙◌}
use Rattle.std.specs.Prelude.{Ok}
use Rattle.std.proofs.lemmas.List.{length-set, length-map}
use Rattle.rmt_ptcam.specs.Types.{Program, ParserConfig}
use Rattle.rmt_bits.specs.declared.lane.Lane.{Lane}
use Rattle.rmt_ptcam.specs.declared.fault.ParserFault.{ParserFault}
use Rattle.rmt_ptcam.specs.Needs.{refusal, unless}
use Rattle.rmt_ptcam.specs.Plain.{plain, planned, state_of}
use Rattle.rmt_ptcam.specs.Joining.{IsGood, KeepsForm, lookups_at, together}
use Rattle.rmt_ptcam.specs.Clustering.{all_joined, clustered, compact}
use Rattle.rmt_ptcam.proofs.JoinsHold.{StaysUnderJoins, joins_hold}

pub good_same : (parser : ParserConfig) → KeepsForm parser → IsGood parser parser
good_same parser keeps = record { alike = λ frame small. refl; keeps = keeps }

pub good_on : (one two three : ParserConfig) → IsGood one two → IsGood two three → IsGood one three
good_on one two three first second = record { alike = λ frame small. second.alike frame small ∙ first.alike frame small; keeps = second.keeps }

-- joining leaves the number of states
abbrev pub AsMany : ParserConfig → ParserConfig → Type 0
AsMany one other = length other.states ≡ length one.states

pub many_stays : (one : ParserConfig) → StaysUnderJoins (AsMany one)
many_stays one parser at e m there on can same = length-set parser.states e.state (record { lookups = together (lookups_at parser.states e.state) e.advance (lookups_at parser.states m) }) ∙ same

-- ---- the plain parser that was made

pub planned_ok : (p : Program) (places : List (List Lane)) (parser : ParserConfig) → Ok parser ≡ planned p places → (refusal p ≡ None) × (parser ≡ plain p places)
planned_ok p places parser is = by (refusal p) refl is
  where
    by : (o : Option ParserFault) → refusal p ≡ o → Ok parser ≡ unless o (plain p places) → (refusal p ≡ None) × (parser ≡ plain p places)
    by None none e = (none, (let same : parser ≡ plain p places = cc in same))
    by (Some f) some e = absurd cc

-- the parser behind all joins has as many states as the program has headers, and what is left of it is the clustered parser
module _ (p : Program) (places : List (List Lane)) (parser new : ParserConfig) (made : parser ≡ plain p places) (joined : new ≡ all_joined p parser) where
  pub joined_states : length new.states ≡ length p.headers
  joined_states =
      ap (λ (q : ParserConfig). length q.states) joined ∙ joins_hold (AsMany parser) (many_stays parser) p parser refl ∙ ap (λ (q : ParserConfig). length q.states) made ∙ length-map p.headers (state_of p)

  pub is_clustered : compact new ≡ clustered p places
  is_clustered = ap compact (joined ∙ ap (all_joined p) made)
