-- The lanes of fields that stand by the packing rule, or by any that keeps them apart.
use Rattle.std.proofs.Common.{◌≡◌, ℕ, ◌<◌, List, [], ◌∷◌, length, get_or, inl, inr, refl, sym, ap, ◌∙◌, arith}
use Rattle.std.specs.Prelude.{Option, unwrap_or}
use Rattle.std.proofs.lemmas.Bool.{cases_lt}
use Rattle.std.proofs.lemmas.List.{get_or_default}
use Rattle.std.proofs.lemmas.Option.{slice_get_past, unwrap_or-slice_get}
use Rattle.rmt_bits.specs.declared.lane.Lane.{Lane}
use Rattle.rmt_build.specs.Types.{Program}
use Rattle.rmt_ast.specs.Places.{lanes_of}
use Rattle.rmt_ast.specs.State.{width_of}
use Rattle.rmt_phv.specs.Packing.{pieces}
use Rattle.rmt_phv.specs.Places.{KeepsApart}
use Rattle.rmt_phv.proofs.LaneLaws.{lanes_count}

-- a field of 1 to 32 bits has one lane
pub one_lane : (p : Program) (places : List (List Lane)) (f : ℕ) → KeepsApart p places → pieces (width_of p f) ≡ width_of p f ∷ [] → length (lanes_of places f) ≡ 1
one_lane p places f keeps one =
    lanes_count p places f keeps.cut ∙ ap length one

-- ---- the only lane of a field

pub field_there : (places : List (List Lane)) (f : ℕ) → length (lanes_of places f) ≡ 1 → f < length places
field_there places f one = elim (cases_lt f (length places)) [
  | inl lt ↦ lt
  | inr ge ↦
      let none : length (lanes_of places f) ≡ 0 = ap (λ (o : Option (List Lane)). length (unwrap_or o [])) (slice_get_past places f ge) in
      absurd (omega (arith, none, one))
]

pub lanes_at : (places : List (List Lane)) (f : ℕ) (ls : List Lane) → f < length places → ls ≡ get_or places f ls → lanes_of places f ≡ ls
lanes_at places f ls lt is = unwrap_or-slice_get places f [] ∙ (get_or_default places f [] ls lt ∙ sym is)

pub single : (ls : List Lane) (d : Lane) → length ls ≡ 1 → ls ≡ get_or ls 0 d ∷ []
single [] d one = absurd (omega (arith, one))
single (l ∷ []) d one = refl
single (l ∷ m ∷ ls) d one = absurd (omega (arith, one))
