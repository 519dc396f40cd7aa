-- The program on two stages: its fields and its units stand in the configuration.
use Rattle.std.proofs.Common.{◌≡◌, ℕ, zero, suc, ◌+◌, ◌<◌, Bool, true, not, ◌&&◌, ◌||◌, ◌==◌, List, [], ◌∷◌, map, refl, sym, ◌∙◌, subst, inl, inr, arith}
use Rattle.std.specs.Prelude.{All, Contains, IsSomeAnd, nat_lt, slice_get}
use Rattle.std.specs.List.{AllZip, flat_map, list_all}
use Rattle.std.proofs.lemmas.Bool.{and_parts, ltb-true, or_cases}
use Rattle.rmt_bits.specs.Words.{word_size}
use Rattle.rmt_bits.specs.declared.lane.Lane.{Lane}
use Rattle.rmt_refine.specs.Types.{Action, Assign, Stage}
use Rattle.rmt_ast.specs.WellFormed.{AreDistinct}
use Rattle.rmt_ast.proofs.WellFormedLemmas.{AreDistinct-from_apart, are_apart}
use Rattle.rmt_phv.specs.Places.{AreApart, KeepsApart, LiesInWord, WritesApart}
use Rattle.rmt_pack.specs.declared.placement.Part.{Part}
use Rattle.rmt_pack.specs.Placements.{quanta_of}
use Rattle.rmt_refine.specs.Places.{PlacesCarried}
use Rattle.rmt_refine.specs.Units.{UnitCarried, UnitsCarried, nodes_in}
use Rattle.rmt_refine.proofs.TwoStages.{config, go, keep, parts, places, program, restore}
use Rattle.rmt_refine.proofs.ListedLaws.{all_by, at_most, differ, pairs_by, three}
use Rattle.rmt_bits.proofs.MemberLaws.{Contains-split}

-- ---- places

abbrev lies : Lane → Bool
lies l = nat_lt l.word 224 && (nat_lt 0 l.len && nat_lt (l.low + l.len) (word_size l.word + 1))

it_lies : (l : Lane) → lies l ≡ true → LiesInWord l
it_lies l e =
    let r = and_parts (nat_lt l.word 224) (nat_lt 0 l.len && nat_lt (l.low + l.len) (word_size l.word + 1)) e in
    let q = and_parts (nat_lt 0 l.len) (nat_lt (l.low + l.len) (word_size l.word + 1)) r.1 in
    let some = ltb-true 0 l.len q.0 in
    record { exists = ltb-true l.word 224 r.0; has_bits = omega (arith, some); within = at_most (l.low + l.len) (word_size l.word) q.1 }

abbrev no_bit : Lane → Lane → Bool
no_bit a b = not (a.word == b.word) || nat_lt (a.low + a.len) (b.low + 1)

lanes_apart : (a b : Lane) → no_bit a b ≡ true → AreApart a b
lanes_apart a b e = elim (or_cases (not (a.word == b.word)) (nat_lt (a.low + a.len) (b.low + 1)) e) [
  | inl words ↦ inl (differ a.word b.word words)
  | inr below ↦ inr (inl (at_most (a.low + a.len) b.low below))
]

-- an action that writes one field
writes_one : (a : Action) (field : ℕ) → map (λ (x : Assign). x.dest) a.assigns ≡ field ∷ [] → WritesApart places a
writes_one a field one f g in_f in_g ne = absurd (ne (sym (only f in_f) ∙ only g in_g))
  where
    only : (h : ℕ) → Contains (map (λ (x : Assign). x.dest) a.assigns) h → field ≡ h
    only h there = elim (Contains-split field [] h (subst (λ xs. Contains xs h) one there)) [
      | inl e ↦ e
      | inr more ↦ absurd (let lt = more.1 in omega (arith, lt))
    ]

pub places_apart : KeepsApart program places
places_apart = record {
  cut = refl;
  within = all_by (list_all lies) (All LiesInWord) (λ ls e. all_by lies LiesInWord it_lies ls e) places refl;
  no_overlap = pairs_by no_bit AreApart lanes_apart (flat_map (λ (ls : List Lane). ls) places) refl;
  one_of_field =
      all_by (λ (ls : List Lane). are_apart (λ n. n) (map (λ (l : Lane). l.word) ls)) (λ (ls : List Lane). AreDistinct (map (λ (l : Lane). l.word) ls))
      (λ ls e. AreDistinct-from_apart (λ n. n) (map (λ (l : Lane). l.word) ls) e) places refl;
  written_apart = three (WritesApart places) go keep restore (writes_one go 1 refl) (writes_one keep 5 refl) (writes_one restore 4 refl);
}

pub places_carried : PlacesCarried program places config
places_carried = record {
  apart = places_apart;
  in_port = refl;
  out_port = refl;
  drop = refl;
  headers = (record { valid = refl; bytes = refl; pieces = refl }, tt);
}

-- ---- units

node_there : (n : ℕ) → n < 3 → 0 < quanta_of parts n
node_there zero lt = omega arith
node_there (suc zero) lt = omega arith
node_there (suc (suc zero)) lt = omega arith
node_there (suc (suc (suc n))) lt = absurd (omega (arith, lt))

units_there : (k : ℕ) → k < 2 → IsSomeAnd (slice_get config.stages k) (λ (s : Stage). AllZip (UnitCarried program places parts k) (nodes_in program parts k) s.units)
units_there zero lt = (
  record { number = refl; guard = refl; does = record { counted = refl; actions = refl; keys = refl; memory = tt; last = refl } },
  (record { number = refl; guard = refl; does = record { counted = refl; actions = refl; keys = refl; memory = refl; last = refl } }, tt),
)
units_there (suc zero) lt = (
  record { number = refl; guard = refl; does = record { counted = refl; actions = refl; keys = refl; memory = refl; last = refl } },
  (record { number = refl; guard = refl; does = record { counted = refl; actions = refl; keys = refl; memory = tt; last = refl } }, tt),
)
units_there (suc (suc k)) lt = absurd (omega (arith, lt))

abbrev own_part : Part → Bool
own_part x = nat_lt x.node 3 && (nat_lt x.stage 2 && nat_lt 0 x.quanta)

part_is_own : (x : Part) → own_part x ≡ true → (x.node < 3) × (x.stage < 2) × (0 < x.quanta)
part_is_own x e =
    let r = and_parts (nat_lt x.node 3) (nat_lt x.stage 2 && nat_lt 0 x.quanta) e in
    let q = and_parts (nat_lt x.stage 2) (nat_lt 0 x.quanta) r.1 in
    (ltb-true x.node 3 r.0, ltb-true x.stage 2 q.0, ltb-true 0 x.quanta q.1)

pub units_carried : UnitsCarried program places parts (0 ∷ 3 ∷ []) config
units_carried = record {
  each_node = node_there;
  no_other = all_by own_part (λ (x : Part). (x.node < 3) × (x.stage < 2) × (0 < x.quanta)) part_is_own parts refl;
  starts_are = refl;
  units = units_there;
}
