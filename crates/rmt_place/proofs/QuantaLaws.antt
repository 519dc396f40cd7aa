-- A placement gives each node exactly its quanta.
use Rattle.std.proofs.Common.{◌≡◌, ◌≢◌, ℕ, ◌+◌, ◌≤◌, List, [], ◌∷◌, Ok, cond, eqb, inl, inr, refl, sym, ap, subst, ◌∙◌, arith}
use Rattle.std.specs.Prelude.{All, AllPairs, Contains}
use Rattle.std.proofs.lemmas.Bool.{cases_eq, ne_eqb}
use Rattle.std.proofs.lemmas.List.Elements.{All-head, All-tail, All-contains}
use Rattle.std.proofs.lemmas.List.Sums.{sum_by-append, sum_by-cons}
use Rattle.rmt_bits.proofs.PairLaws.{AllPairs-head, AllPairs-tail}
use Rattle.rmt_bits.proofs.MemberLaws.{Contains-first, Contains-later}
use Rattle.rmt_ast.specs.declared.deps.Edge.{Edge}
use Rattle.rmt_pack.specs.declared.placement.Part.{Part}
use Rattle.rmt_pack.specs.Placements.{quanta_of}
use Rattle.rmt_place.specs.declared.demand.Demand.{Demand}
use Rattle.rmt_place.specs.Needs.{demand_at}
use Rattle.rmt_place.specs.Placing.{earliest_stage, placed_all, placed_node, spread, stages_from}
use Rattle.rmt_place.proofs.KeepLaws.{placed_induction, placed_is}
use Rattle.rmt_place.proofs.LegalLaws.{spread_quanta}

others_none : (xs : List Part) (n : ℕ) → All (λ (x : Part). x.node ≢ n) xs → quanta_of xs n ≡ 0
others_none [] n other = refl
others_none (x ∷ xs) n other =
    let first = sum_by-cons (λ (y : Part). cond (eqb y.node n) y.quanta 0) x xs ∙ ap (λ b. cond b x.quanta 0 + quanta_of xs n) (ne_eqb x.node n (All-head (λ (y : Part). y.node ≢ n) x xs other)) in
    omega (arith, first, others_none xs n (All-tail (λ (y : Part). y.node ≢ n) x xs other))

-- a node has no more quanta than it needs, and none before its turn
record HasFew (demands : List Demand) (n : ℕ) (rest : List ℕ) (parts : List Part) : Type 0 where
  apart : AllPairs (λ a b. a ≡ b → ⊥) rest
  none : Contains rest n → quanta_of parts n ≡ 0
  few : quanta_of parts n ≤ (demand_at demands n).quanta

few_next : (demands : List Demand) (edges : List Edge) (n m : ℕ) (rest : List ℕ) (parts more : List Part) → HasFew demands n (m ∷ rest) parts → placed_node demands edges parts m ≡ Ok more → HasFew demands n rest more
few_next demands edges n m rest parts more h placed =
    let earliest = earliest_stage edges parts m in
    let s = spread demands parts m (stages_from earliest) (demand_at demands m).quanta in
    let is = placed_is demands edges parts more m placed in
    let split : quanta_of more n ≡ quanta_of parts n + quanta_of s.parts n =
    ap (λ (l : List Part). quanta_of l n) is.behind ∙ sum_by-append (λ (x : Part). cond (eqb x.node n) x.quanta 0) parts s.parts in
    let all = spread_quanta demands parts m (stages_from earliest) (demand_at demands m).quanta in
    elim (cases_eq m n) [
      | inl same ↦
          let before : quanta_of parts n ≡ 0 = h.none (subst (Contains (m ∷ rest)) same (Contains-first m rest)) in
          let own : quanta_of s.parts m ≡ quanta_of s.parts n = ap (quanta_of s.parts) same in
          let needs : (demand_at demands m).quanta ≡ (demand_at demands n).quanta = ap (λ (j : ℕ). (demand_at demands j).quanta) same in
          record {
            apart = AllPairs-tail (λ a b. a ≡ b → ⊥) m rest h.apart;
            none = λ there. absurd (All-contains (λ j. m ≡ j → ⊥) rest n (AllPairs-head (λ a b. a ≡ b → ⊥) m rest h.apart) there same);
            few = omega (arith, split, before, own, needs, all);
          }
      | inr other ↦
          let own : quanta_of s.parts n ≡ 0 = others_none s.parts n (λ i d lt e. other (sym (is.own_parts i d lt).node ∙ e)) in
          record {
            apart = AllPairs-tail (λ a b. a ≡ b → ⊥) m rest h.apart;
            none = λ there. (let none = h.none (Contains-later m rest n there) in omega (arith, split, own, none));
            few = omega (arith, split, own, h.few);
          }
    ]

pub quanta_few : (demands : List Demand) (edges : List Edge) (nodes : List ℕ) (final : List Part) (n : ℕ) → AllPairs (λ a b. a ≡ b → ⊥) nodes → placed_all demands edges nodes [] ≡ Ok final
    → quanta_of final n ≤ (demand_at demands n).quanta
quanta_few demands edges nodes final n apart is =
    (placed_induction demands edges (HasFew demands n) (few_next demands edges n) nodes [] final (record { apart = apart; none = λ there. refl; few = omega arith }) is).few
