use Rattle.std.proofs.Common.{◌≡◌, ℕ, List, [], ◌∷◌, length, get_or, sym, subst, ap, ◌∙◌, refl}
use Rattle.std.specs.Prelude.{All}
use Rattle.std.proofs.lemmas.Option.{slice_get-get_or}
use Rattle.rmt_bits.specs.declared.lane.Lane.{Lane}
use Rattle.rmt_build.specs.Types.{Header, Program}
use Rattle.rmt_ast.specs.Places.{lanes_of}
use Rattle.rmt_ast.specs.State.{width_of}
use Rattle.rmt_ast.specs.WellFormed.{IsProgram}
use Rattle.rmt_phv.specs.Packing.{pieces}
use Rattle.rmt_phv.specs.Places.{KeepsApart}
use Rattle.rmt_build.proofs.LaneLaws.{one_lane}
use Rattle.rmt_build.proofs.joined.config_of.Goals as goal

one_piece : (p : Program) (f w : ℕ) → width_of p f ≡ w → pieces w ≡ w ∷ [] → pieces (width_of p f) ≡ width_of p f ∷ []
one_piece p f w is one = ap pieces is ∙ one ∙ ap (λ n. n ∷ []) (sym is)

-- the field that tells whether a header is there has one lane
header_lanes : (p : Program) (places : List (List Lane)) → IsProgram p → KeepsApart p places → All (λ (h : Header). length (lanes_of places h.valid) ≡ 1) p.headers
header_lanes p places program apart i d lt =
    let h = get_or p.headers i d in
    one_lane p places h.valid apart (one_piece p h.valid 1 (program.headers i h (slice_get-get_or p.headers i d lt)).valid refl)

pub out_headers-requires : goal.out_headers-requires
out_headers-requires c =
    subst (All (λ (h : Header). length (lanes_of c.args.plan.now.places h.valid) ≡ 1)) (sym c.as_slice.ensures) (header_lanes c.args.program.now c.args.plan.now.places c.requires.program c.requires.places)

pub lane_of-requires : goal.lane_of-requires
lane_of-requires c =
    one_lane c.args.program.now c.args.plan.now.places 0 c.requires.places (one_piece c.args.program.now 0 9 c.requires.program.fields.in_port refl)

pub lane_of-requires-2 : goal.lane_of-requires-2
lane_of-requires-2 c =
    one_lane c.args.program.now c.args.plan.now.places 1 c.requires.places (one_piece c.args.program.now 1 9 c.requires.program.fields.out_port refl)

pub lane_of-requires-3 : goal.lane_of-requires-3
lane_of-requires-3 c =
    one_lane c.args.program.now c.args.plan.now.places 2 c.requires.places (one_piece c.args.program.now 2 1 c.requires.program.fields.drop refl)

pub returns-clause-names : goal.returns-clause-names
returns-clause-names c = refl
