-- The units of a built stage keep the rules of form.
use Rattle.std.proofs.Common.{◌≡◌, ℕ, suc, ◌+◌, ◌/◌, ◌%◌, ◌^◌, ◌<◌, ◌≤◌, true, List, [], ◌∷◌, Option, Some, None, length, map, refl, sym, ap, ◌∙◌, subst, arith}
use Rattle.std.specs.Prelude.{All, bit_and, slice_get}
use Rattle.std.specs.List.{list_all}
use Rattle.std.proofs.lemmas.Bool.{eq-eqb, le-leb, lt-ltb}
use Rattle.std.proofs.lemmas.List.{length-reverse}
use Rattle.std.proofs.lemmas.List.Elements.{All-cons, All-head, All-nil, All-tail}
use Rattle.std.proofs.lemmas.List.Sums.{list_all-from_AllPass, sum_by-cons}
use Rattle.std.proofs.lemmas.Nat.{and_mod, and_shr}
use Rattle.std.proofs.lemmas.Option.{slice_get_within}
use Rattle.rmt_bits.proofs.BitLaws.{slice-lt}
use Rattle.rmt_bits.specs.Bits.{slice}
use Rattle.rmt_bits.specs.declared.lane.Lane.{Lane}
use Rattle.rmt_build.specs.Types.{Program, Test, Node, Guard, GateUnit}
use Rattle.rmt_ast.specs.Places.{lanes_of}
use Rattle.rmt_ast.specs.State.{width_of}
use Rattle.rmt_ast.specs.WellFormed.{IsGuard, IsProgram, IsTest}
use Rattle.rmt_phv.specs.Places.{KeepsApart, LiesInWord}
use Rattle.rmt_config.specs.LaneForm.{bits_of_lanes}
use Rattle.rmt_config.specs.UnitForm.{gate_is_formed, guard_is_formed, test_is_formed}
use Rattle.rmt_ptcam.proofs.FormLaws.{lane_formed}
use Rattle.rmt_refine.specs.Units.{guard_of, tests_from, tests_of}
use Rattle.rmt_build.specs.BuiltStage.{SmallGuard}
use Rattle.rmt_phv.proofs.LaneLaws.{lanes_lie, lanes_width}
use Rattle.rmt_bits.proofs.AllLaws.{All-reverse}

-- ---- guards

-- the mask of a node's guard has 16 bits, where that of its unit has
pub small_mask : (o : Option Guard) → SmallGuard (guard_of o) → (g : Guard) → o ≡ Some g → g.mask < 65536
small_mask o small g e = subst (λ x. SmallGuard (guard_of x)) e small

pub guard_formed : (n : ℕ) (o : Option Guard) → n < 256 → IsGuard n o → ((g : Guard) → o ≡ Some g → g.mask < 65536) → guard_is_formed (guard_of o) ≡ true
guard_formed n None few is small = refl
guard_formed n (Some g) few is small = let lt = is.0 in rw (lt-ltb g.parent 256 (omega (arith, lt, few)), lt-ltb g.mask 65536 (small g refl), eq-eqb (g.mask % 2) 0 is.1) refl

-- ---- gates

-- a run of bits of a value that has none outside a mask has none outside that of the mask
part_masked : (value mask low len : ℕ) → bit_and value mask ≡ value → bit_and (slice value low len) (slice mask low len) ≡ slice value low len
part_masked value mask low len e =
    sym (and_mod (value / 2 ^ low) (mask / 2 ^ low) len) ∙ ap (λ n. n % 2 ^ len) (sym (and_shr value mask low)) ∙ ap (λ n. slice n low len) e

tests_formed : (low : ℕ) (t : Test) (lanes : List Lane) → bit_and t.value t.mask ≡ t.value → All LiesInWord lanes → All (λ x. test_is_formed x ≡ true) (tests_from low t lanes)
tests_formed low t [] masked lie = All-nil (λ x. test_is_formed x ≡ true)
tests_formed low t (l ∷ lanes) masked lie =
    All-cons (λ x. test_is_formed x ≡ true) (record { lane = l; value = slice t.value low l.len; mask = slice t.mask low l.len }) (tests_from (low + l.len) t lanes)
    (rw (
      lane_formed l (All-head LiesInWord l lanes lie),
      lt-ltb (slice t.mask low l.len) (2 ^ l.len) (slice-lt t.mask low l.len),
      eq-eqb (bit_and (slice t.value low l.len) (slice t.mask low l.len)) (slice t.value low l.len) (part_masked t.value t.mask low l.len masked),
    ) refl)
    (tests_formed (low + l.len) t lanes masked (All-tail LiesInWord l lanes lie))

tests_count : (low : ℕ) (t : Test) (lanes : List Lane) → length (tests_from low t lanes) ≡ length lanes
tests_count low t [] = refl
tests_count low t (l ∷ lanes) = ap suc (tests_count (low + l.len) t lanes)

-- lanes have a bit each
pub few_lanes : (lanes : List Lane) → All LiesInWord lanes → length lanes ≤ bits_of_lanes lanes
few_lanes [] lie = omega arith
few_lanes (l ∷ lanes) lie =
    let all : bits_of_lanes (l ∷ lanes) ≡ l.len + bits_of_lanes lanes = sum_by-cons (λ n. n) l.len (map (λ (x : Lane). x.len) lanes) in
    omega (arith, (All-head LiesInWord l lanes lie).has_bits, few_lanes lanes (All-tail LiesInWord l lanes lie), all)

pub some_lanes : (lanes : List Lane) → 1 ≤ bits_of_lanes lanes → 1 ≤ length lanes
some_lanes [] le = absurd (omega (arith, le))
some_lanes (l ∷ lanes) le = omega arith

module _ (p : Program) (program : IsProgram p) (places : List (List Lane)) (keeps : KeepsApart p places) where
  pub gate_formed : (n : ℕ) (node : Node) (g : GateUnit) (field : ℕ) (t : Test) → slice_get p.nodes n ≡ Some node → g.node ≡ n → g.guard ≡ guard_of node.guard
      → field < length p.fields → IsTest (width_of p field) t → 1 ≤ width_of p field → width_of p field ≤ 128 → g.tests ≡ tests_of places field t → SmallGuard g.guard
      → gate_is_formed g ≡ true
  gate_formed n node g field t at number guard there is some few tests small =
      let within = slice_get_within p.nodes n node at in
      let nodes = program.counts.nodes in
      let lanes = lanes_of places field in
      let bits = lanes_width p places field keeps.cut in
      let lie = lanes_lie p places field keeps in
      let count : length g.tests ≡ length lanes = ap length tests ∙ length-reverse (tests_from 0 t lanes) ∙ tests_count 0 t lanes in
      let formed : list_all test_is_formed g.tests ≡ true =
      list_all-from_AllPass test_is_formed g.tests
      (subst (All (λ x. test_is_formed x ≡ true)) (sym tests) (All-reverse (λ x. test_is_formed x ≡ true) (tests_from 0 t lanes) (tests_formed 0 t lanes is.value_is_masked lie))) in
      let own : guard_is_formed g.guard ≡ true =
      ap guard_is_formed guard ∙ guard_formed n node.guard (omega (arith, within, nodes)) (program.nodes n node at).guard (small_mask node.guard (subst SmallGuard guard small)) in
      rw (
        lt-ltb g.node 256 (omega (arith, number, within, nodes)),
        own,
        le-leb 1 (length g.tests) (omega (arith, count, some_lanes lanes (omega (arith, bits, some)))),
        lt-ltb (length g.tests) 256 (omega (arith, count, few_lanes lanes lie, bits, few)),
        formed,
      ) refl
