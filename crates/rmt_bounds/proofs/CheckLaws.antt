-- What makes a chain, item by item.
use Rattle.std.proofs.Common.{◌≡◌, ℕ, ◌+◌, ◌-◌, ◌*◌, ◌<◌, ◌≤◌, List, [], ◌∷◌, true, suc, length, take, drop, refl, ap, sym, ◌∙◌, subst, arith}
use Rattle.std.specs.Prelude.{◌==◌, slice_index}
use Rattle.std.specs.List.{list_any}
use Rattle.std.proofs.lemmas.Bool.{and_parts, eqb-true}
use Rattle.std.proofs.lemmas.List.Elements.{All-contains}
use Rattle.rmt_ast.specs.declared.deps.Edge.{Edge}
use Rattle.rmt_ast.specs.declared.program.Program.{Program}
use Rattle.rmt_ast.specs.WellFormed.{IsProgram}
use Rattle.rmt_pack.specs.declared.placement.Placement.{Placement}
use Rattle.rmt_pack.specs.Formats.{divided_up}
use Rattle.rmt_pack.specs.Placements.{IsLegal}
use Rattle.rmt_bounds.specs.Bounds.{EdgesRise, all_bests, greatest, sram_sum, tcam_sum, table_count, stage_bound}
use Rattle.rmt_bounds.specs.Proofs.{joins}
use Rattle.rmt_bounds.specs.Used.{stages_used, taking_room}
use Rattle.rmt_bounds.proofs.BestLaws.{bound-le}
use Rattle.rmt_bounds.proofs.UsedLaws.{legal_taking_room}
use Rattle.rmt_bits.proofs.MemberLaws.{any_item}

-- the first of two nodes that an edge joins has the lesser number
joined-lt : (p : Program) (edges : List Edge) (a b : ℕ) → EdgesRise p edges → list_any (joins a b) edges ≡ true → a < b
joined-lt p edges a b rise joined =
    let item = any_item (joins a b) edges joined in
    let ends = and_parts (item.0.from == a) (item.0.to == b) item.2 in
    let rises = All-contains (λ (e : Edge). (e.from < e.to) × (e.to < length p.nodes)) edges item.0 rise item.1 in
    omega (arith, rises.0, eqb-true item.0.from a ends.0, eqb-true item.0.to b ends.1)

-- the first item behind the first
second : (xs : List ℕ) → slice_index (take (length xs - 1) (drop 1 xs)) 0 ≡ slice_index xs 1
second [] = refl
second (x ∷ []) = let none : 1 - 1 ≡ 0 = omega arith in refl
second (x ∷ y ∷ zs) =
    let less : suc (suc (length zs)) - 1 ≡ suc (length zs) = omega arith in ap (λ (n : ℕ). slice_index (take n (y ∷ zs)) 0) less

-- the stages of a chain are few, since its numbers rise
pub chain-small : (p : Program) (edges : List Edge) (xs : List ℕ) (own rest n : ℕ) → EdgesRise p edges → list_any (joins (slice_index xs 0) (slice_index xs 1)) edges ≡ true
    → own ≤ 512 → rest + 512 * slice_index (take (length xs - 1) (drop 1 xs)) 0 ≤ 65536 → n ≤ own + rest → n + 512 * slice_index xs 0 ≤ 65536
chain-small p edges xs own rest n rise joined own_small rest_small less =
    omega (arith, second xs, joined-lt p edges (slice_index xs 0) (slice_index xs 1) rise joined)

-- the number that is found is the stage bound
pub stages_is : (p : Program) (edges : List Edge) (bs : List ℕ) (sram tcam tables n : ℕ) → bs ≡ all_bests p edges → sram ≡ sram_sum p → tcam ≡ tcam_sum p → tables ≡ table_count p
    → n ≡ greatest (greatest bs ∷ divided_up sram 106 ∷ divided_up tcam 16 ∷ divided_up tables 16 ∷ []) → n ≡ (stage_bound p edges).stages
stages_is p edges bs sram tcam tables n bs_is sram_is tcam_is tables_is is =
    is
    ∙ (ap (λ (xs : List ℕ). greatest (greatest xs ∷ divided_up sram 106 ∷ divided_up tcam 16 ∷ divided_up tables 16 ∷ [])) bs_is
    ∙ (ap (λ (m : ℕ). greatest (greatest (all_bests p edges) ∷ divided_up m 106 ∷ divided_up tcam 16 ∷ divided_up tables 16 ∷ [])) sram_is
    ∙ (ap (λ (m : ℕ). greatest (greatest (all_bests p edges) ∷ divided_up (sram_sum p) 106 ∷ divided_up m 16 ∷ divided_up tables 16 ∷ [])) tcam_is
    ∙ ap (λ (m : ℕ). greatest (greatest (all_bests p edges) ∷ divided_up (sram_sum p) 106 ∷ divided_up (tcam_sum p) 16 ∷ divided_up m 16 ∷ [])) tables_is)))

pub found-le : (p : Program) → IsProgram p → (edges : List Edge) → EdgesRise p edges → (n : ℕ) → n ≡ (stage_bound p edges).stages → (placement : Placement) → IsLegal p edges placement
    → n ≤ stages_used p placement
found-le p is edges rise n n_is placement legal =
    subst (λ (m : ℕ). m ≤ stages_used p placement) (sym n_is) (bound-le p is edges rise (taking_room p placement) (legal_taking_room p edges placement legal))
