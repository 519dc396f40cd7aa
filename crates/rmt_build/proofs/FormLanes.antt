-- The ports and the headers of a configuration keep the rules of form.
use Rattle.std.proofs.Common.{◌≡◌, ℕ, suc, ◌*◌, ◌<◌, ◌≤◌, true, List, [], ◌∷◌, Some, None, length, get_or, refl, sym, ap, ◌∙◌, subst, arith}
use Rattle.std.specs.Prelude.{All, slice_get}
use Rattle.std.specs.List.{AllZip, list_all}
use Rattle.std.proofs.lemmas.Bool.{eq-eqb, le-leb, lt-ltb}
use Rattle.std.proofs.lemmas.List.Elements.{All-head, All-tail}
use Rattle.std.proofs.lemmas.List.Sums.{list_all-from_AllPass}
use Rattle.rmt_bits.specs.declared.lane.Lane.{Lane}
use Rattle.rmt_bits.proofs.AllLaws.{All-from_items}
use Rattle.rmt_build.specs.Types.{Program, Header, Config, OutHeader}
use Rattle.rmt_ast.specs.State.{width_of}
use Rattle.rmt_ast.specs.WellFormed.{IsHeader, IsProgram}
use Rattle.rmt_phv.specs.Places.{KeepsApart, LiesInWord, high_first}
use Rattle.rmt_config.specs.LaneForm.{bits_of_lanes, header_is_formed, headers_are_formed, is_lane_of, lane_is_formed, ports_are_formed}
use Rattle.rmt_ptcam.specs.Needs.{extract_count, lookups_of, refusal}
use Rattle.rmt_ptcam.proofs.FormLaws.{in_order_lie, lane_formed}
use Rattle.rmt_ptcam.proofs.PlainLaws.{lanes_bits}
use Rattle.rmt_refine.specs.Places.{HeaderCarried, PlacesCarried, StandsIn}
use Rattle.rmt_phv.proofs.LaneLaws.{lanes_lie, lanes_width}
use Rattle.rmt_ptcam.proofs.PlainForm.{few_extracts, fields_count}
use Rattle.rmt_ptcam.proofs.AgreementLaws.{few_lookups}

-- ---- a header that isn't refused

-- it looks at no more than 4 bytes, and has no more than 64 extracts
abbrev pub IsNarrow : Program → Header → Type 0
IsNarrow p h = (length (lookups_of p h) ≤ 4) × (extract_count p h ≤ 64)

pub is_narrow : (p : Program) (n : ℕ) (h : Header) → refusal p ≡ None → slice_get p.headers n ≡ Some h → IsNarrow p h
is_narrow p n h fits is = (few_lookups p n h fits is, few_extracts p n h fits is)

-- ---- the lanes of fields

module _ (p : Program) (places : List (List Lane)) (keeps : KeepsApart p places) where
  -- a field of one piece
  pub one_lane : (f width : ℕ) (l : Lane) → StandsIn places f l → width_of p f ≡ width → is_lane_of width l ≡ true
  one_lane f width l stands is =
      let lies = All-head LiesInWord l [] (subst (All LiesInWord) stands (lanes_lie p places f keeps)) in
      let one : bits_of_lanes (l ∷ []) ≡ l.len = omega arith in
      let len : l.len ≡ width = sym one ∙ ap bits_of_lanes (sym stands) ∙ lanes_width p places f keeps.cut ∙ is in
      rw (lane_formed l lies, eq-eqb l.len width len) refl

  -- the lanes of some fields
  pub lanes_formed : (fields : List ℕ) → list_all lane_is_formed (high_first places fields) ≡ true
  lanes_formed fields =
      list_all-from_AllPass lane_is_formed (high_first places fields)
      (λ k d lt. lane_formed (get_or (high_first places fields) k d) (in_order_lie p places fields keeps k d lt))

  -- a header is sent by as many lanes as its fields have pieces
  pub header_sent : (n : ℕ) (h : Header) (o : OutHeader) → IsHeader p n h → IsNarrow p h → HeaderCarried places h o → header_is_formed o ≡ true
  header_sent n h o is few carried =
      let bits : bits_of_lanes o.pieces ≡ 8 * o.bytes = ap bits_of_lanes carried.pieces ∙ lanes_bits p places h.fields keeps ∙ is.whole_bytes ∙ ap (λ b. 8 * b) (sym carried.bytes) in
      rw (
        one_lane h.valid 1 o.valid carried.valid is.valid,
        le-leb 1 o.bytes (subst (λ b. 1 ≤ b) (sym carried.bytes) is.is_not_empty),
        le-leb o.bytes 64 (subst (λ b. b ≤ 64) (sym carried.bytes) is.is_not_long),
        lt-ltb (length o.pieces) 256 (omega (arith, ap length carried.pieces ∙ fields_count p places h.fields keeps, few.1)),
        ap (list_all lane_is_formed) carried.pieces ∙ lanes_formed h.fields,
        eq-eqb (bits_of_lanes o.pieces) (8 * o.bytes) bits,
      ) refl

  headers_sent : (hs : List Header) (os : List OutHeader) → All (λ h. (n : ℕ) × IsHeader p n h × IsNarrow p h) hs → AllZip (HeaderCarried places) hs os → list_all header_is_formed os ≡ true
  headers_sent [] [] all carried = refl
  headers_sent [] (o ∷ os) all carried = absurd carried
  headers_sent (h ∷ hs) [] all carried = absurd carried
  headers_sent (h ∷ hs) (o ∷ os) all carried =
      let own = All-head (λ x. (n : ℕ) × IsHeader p n x × IsNarrow p x) h hs all in
      rw (header_sent own.0 h o own.1 own.2 carried.0, headers_sent hs os (All-tail (λ x. (n : ℕ) × IsHeader p n x × IsNarrow p x) h hs all) carried.1) refl

  long : (hs : List Header) (os : List OutHeader) → AllZip (HeaderCarried places) hs os → length os ≡ length hs
  long [] [] carried = refl
  long [] (o ∷ os) carried = absurd carried
  long (h ∷ hs) [] carried = absurd carried
  long (h ∷ hs) (o ∷ os) carried = ap suc (long hs os carried.1)

  module _ (program : IsProgram p) (c : Config) (carried : PlacesCarried p places c) where
    pub headers_formed : refusal p ≡ None → headers_are_formed c.headers ≡ true
    headers_formed fits =
        let count = long p.headers c.headers carried.headers in
        let all = All-from_items (λ h. (n : ℕ) × IsHeader p n h × IsNarrow p h) p.headers (λ n h at. (n, program.headers n h at, is_narrow p n h fits at)) in
        rw (le-leb (length c.headers) 64 (omega (arith, count, program.counts.headers)), headers_sent p.headers c.headers all carried.headers) refl

    pub ports_formed : c.seed < 256 → ports_are_formed c ≡ true
    ports_formed seed =
        rw (
          lt-ltb c.seed 256 seed,
          one_lane 0 9 c.in_port carried.in_port program.fields.in_port,
          one_lane 1 9 c.out_port carried.out_port program.fields.out_port,
          one_lane 2 1 c.drop carried.drop program.fields.drop,
        ) refl
