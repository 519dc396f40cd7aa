-- The greatest node of a configuration's units, stage by stage.
use Rattle.std.proofs.Common.{◌≡◌, ℕ, ◌+◌, ◌<◌, List, [], ◌∷◌, drop, get_or, length, map, max, refl, sym, ap, ◌∙◌}
use Rattle.std.specs.Prelude.{fold}
use Rattle.std.proofs.lemmas.List.Sums.{fold-append}
use Rattle.rmt_config.specs.declared.config.Stage.{Stage}
use Rattle.rmt_config.specs.declared.config.Unit.{Unit}
use Rattle.rmt_config.specs.TableForm.{Placed, node_of, placed_from}
use Rattle.rmt_config.proofs.RiseLaws.{one_off}

abbrev over : ℕ → Placed → ℕ
over n p = max n (node_of p.unit + 1)

nodes-placed : (k n : ℕ) (units : List Unit) → fold over n (map (λ unit. record { stage = k; unit = unit }) units) ≡ fold (λ n (u : Unit). max n (node_of u + 1)) n units
nodes-placed k n [] = refl
nodes-placed k n (u ∷ us) = nodes-placed k (max n (node_of u + 1)) us

-- one stage more
pub nodes-more : (i : ℕ) (stages seen : List Stage) (stage : Stage) (n m : ℕ) → seen ≡ stages → i < length seen → stage ≡ get_or seen i stage
    → m ≡ fold (λ n (u : Unit). max n (node_of u + 1)) n stage.units
    → fold (λ n (p : Placed). max n (node_of p.unit + 1)) m (placed_from (i + 1) (drop (i + 1) stages)) ≡ fold (λ n (p : Placed). max n (node_of p.unit + 1)) n (placed_from i (drop i stages))
nodes-more i stages seen stage n m same lt is value =
    let here : drop i stages ≡ stage ∷ drop (i + 1) stages =
    ap (drop i) (sym same) ∙ one_off seen i stage lt ∙ ap (λ (s : Stage). s ∷ drop (i + 1) seen) (sym is) ∙ ap (λ (ss : List Stage). stage ∷ drop (i + 1) ss) same in
    let rest = placed_from (i + 1) (drop (i + 1) stages) in
    let units : List Placed = map (λ unit. record { stage = i; unit = unit }) stage.units in
    ap (λ x. fold over x rest) (value ∙ sym (nodes-placed i n stage.units)) ∙ sym (fold-append over n units rest)
    ∙ ap (λ (ss : List Stage). fold over n (placed_from i ss)) (sym here)
