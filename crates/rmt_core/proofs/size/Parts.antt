-- The nodes of a program have few parts, one for a node and a stage, each of few quanta.
use Rattle.std.proofs.Common.{◌≡◌, ℕ, ◌+◌, ◌*◌, ◌/◌, ◌==◌, ◌<◌, ◌≤◌, cond, eqb, false, List, length, get_or, map, refl, ap, subst, arith}
use Rattle.std.specs.Prelude.{All, AllPairs, IfSome, Ok}
use Rattle.std.proofs.lemmas.Bool.{eq-eqb, ne_eqb}
use Rattle.std.proofs.lemmas.List.{length-map}
use Rattle.std.proofs.lemmas.List.Elements.{All-map}
use Rattle.std.proofs.lemmas.List.Sums.{get_or-le-sum_by}
use Rattle.std.proofs.lemmas.Map.Keys.{IsDistinct-from_apart}
use Rattle.std.proofs.lemmas.Map.Steps.{length-le_from_distinct_below}
use Rattle.rmt_bits.proofs.ListLaws.{slice_get-item}
use Rattle.rmt_bits.proofs.PairLaws.{AllPairs-map}
use Rattle.rmt_bits.specs.declared.lane.Lane.{Lane}
use Rattle.rmt_core.specs.Types.{Program, Table, What}
use Rattle.rmt_ast.specs.declared.program.Kind.{Kind}
use Rattle.rmt_ast.specs.declared.program.Kind.TheVariants.{Keyless, Exact, Prefix, Ternary}
use Rattle.rmt_ast.specs.declared.program.What.TheVariants.{Apply, Gate}
use Rattle.rmt_ast.specs.WellFormed.{IsProgram, IsWhat}
use Rattle.rmt_deps.specs.Edges.{dependencies_of}
use Rattle.rmt_deps.proofs.EdgeLaws.{go_forward}
use Rattle.rmt_improve.proofs.BetterLaws.{better_keeps}
use Rattle.rmt_pack.specs.declared.format.Format.{Format}
use Rattle.rmt_pack.specs.declared.format.Need.{Need}
use Rattle.rmt_pack.specs.declared.placement.Part.{Part}
use Rattle.rmt_pack.specs.Formats.{HasNeed, IsFormat}
use Rattle.rmt_pack.specs.Placements.{IsNodeFormat, quanta_of, table_need}
use Rattle.rmt_pack.proofs.FormatLaws.{divided_up-least}
use Rattle.rmt_pack.proofs.NeedLaws.{has_need}
use Rattle.rmt_place.specs.Placing.{AreTwo, IsPart}
use Rattle.rmt_place.proofs.GoodLaws.{KeepsAll}
use Rattle.rmt_place.proofs.LegalLaws.{format_at}
use Rattle.rmt_place.proofs.LegalPlacement.{node_quanta}
use Rattle.rmt_verify.specs.Spelling.{PartFits}
use Rattle.rmt_core.specs.declared.placer.Placer.{Placer}
use Rattle.rmt_core.specs.declared.placer.Placer.TheVariants.{ByRule, ByTries}
use Rattle.rmt_core.specs.Placers.{placed_by}
use Rattle.rmt_core.proofs.size.Distinct.{member_below}

-- what a placement keeps, by the rule as by tries
pub placed_keeps : (placer : Placer) (p : Program) (places : List (List Lane)) (parts : List Part) → IsProgram p → placed_by placer p places ≡ Ok parts
    → KeepsAll p places (dependencies_of p places) parts
placed_keeps ByRule p places parts program is = better_keeps p places (dependencies_of p places) 1 parts program (go_forward p places) is
placed_keeps (ByTries budget) p places parts program is = better_keeps p places (dependencies_of p places) budget parts program (go_forward p places) is

-- ---- how many

-- a part by its node and its stage
abbrev number_of_part : Part → ℕ
number_of_part x = 32 * x.node + x.stage

pub parts_few : (nodes : ℕ) (parts : List Part) → nodes ≤ 128 → All (IsPart nodes) parts → AllPairs AreTwo parts → length parts ≤ 4096
parts_few nodes parts few each two =
    let apart : AllPairs (λ m n. eqb m n ≡ false) (map number_of_part parts) =
    AllPairs-map (λ m n. eqb m n ≡ false) number_of_part parts
    (λ i j d below lt. ne_eqb (number_of_part (get_or parts i d)) (number_of_part (get_or parts j d)) (differ i j d below lt)) in
    let below : All (λ n. n < 4096) (map number_of_part parts) =
    All-map (λ n. n < 4096) number_of_part parts (λ k d lt. (let x = each k d lt in omega (arith, x.node, x.stage, few))) in
    let count = length-le_from_distinct_below (map number_of_part parts) 4096 (IsDistinct-from_apart eqb (map number_of_part parts) apart)
    (λ q there. member_below 4096 q (map number_of_part parts) below there) in
    omega (arith, count, length-map parts number_of_part)
  where
    differ : (i j : ℕ) (d : Part) → i < j → j < length parts → number_of_part (get_or parts i d) ≡ number_of_part (get_or parts j d) → ⊥
    differ i j d below lt same =
        let x = get_or parts i d in
        let y = get_or parts j d in
        let first = each i d (omega (arith, below, lt)) in
        let second = each j d lt in
        let node : x.node ≡ y.node = omega (arith, same, first.stage, second.stage) in
        let stage : x.stage ≡ y.stage = omega (arith, same, node) in
        two i j d below lt node stage

-- ---- how many quanta

memory_few : (kind : Kind) (n : Need) (f : Format) → HasNeed kind n → IsFormat kind n f → f.quanta ≤ 512
memory_few Keyless n f has is = let same = ap (λ (x : Format). x.quanta) is in omega (arith, same)
memory_few Exact n f has is =
    let same = ap (λ (x : Format). x.quanta) is.layout in
    let least = divided_up-least (n.size + n.size / 8) (4096 * f.per) 512 (omega (arith, is.has_cells)) (omega (arith, is.has_cells, has.size)) in
    omega (arith, same, least)
memory_few Prefix n f has is =
    let same = ap (λ (x : Format). x.quanta) is in
    let least = divided_up-least n.size 2048 512 (omega arith) (omega (arith, has.size)) in
    omega (arith, same, least)
memory_few Ternary n f has is =
    let same = ap (λ (x : Format). x.quanta) is in
    let least = divided_up-least n.size 2048 512 (omega arith) (omega (arith, has.size)) in
    omega (arith, same, least)

format_few : (p : Program) → IsProgram p → (w : What) (f : Format) → IsWhat p w → IsNodeFormat p w f → f.quanta ≤ 512
format_few p program (Gate field test) f there is = let same = ap (λ (x : Format). x.quanta) is in omega (arith, same)
format_few p program (Apply t) f lt is =
    let item = slice_get-item p.tables t lt in
    memory_few item.0.kind (table_need p item.0) f (has_need p program t item.0 item.1) (subst (λ o. IfSome o (λ (x : Table). IsFormat x.kind (table_need p x) f)) item.1 is)

module _ (p : Program) (places : List (List Lane)) (parts : List Part) (program : IsProgram p) (keeps : KeepsAll p places (dependencies_of p places) parts) where
  node_few : (n : ℕ) → n < length p.nodes → quanta_of parts n ≤ 512
  node_few n lt =
      let item = slice_get-item p.nodes n lt in
      let format = format_few p program item.0.what (format_at p n) (program.nodes n item.0 item.1).what (keeps.legal.node_formats n item.0 item.1) in
      omega (arith, format, node_quanta p places program n lt, keeps.quanta n lt)

  pub parts_fit : All PartFits parts
  parts_fit k d lt =
      let x = get_or parts k d in
      let own = keeps.parts k d lt in
      let all = get_or-le-sum_by (λ (y : Part). cond (y.node == x.node) y.quanta 0) parts k d lt in
      let here : cond (x.node == x.node) x.quanta 0 ≡ x.quanta = ap (λ b. cond b x.quanta 0) (eq-eqb x.node x.node refl) in
      let few = node_few x.node own.node in
      record {
        node = omega (arith, own.node, program.counts.nodes);
        stage = omega (arith, own.stage);
        quanta = omega (arith, all, here, few);
      }
