-- Instructions that are looked at one after another.
use Rattle.std.proofs.Common.{◌≡◌, ◌↔◌, ℕ, ◌+◌, ◌<◌, ◌∙◌, Bool, true, false, ◌&&◌, ltb, List, [], get_or, length, map, refl, sym, ap, subst, arith, inl, inr}
use Rattle.std.specs.List.{list_all}
use Rattle.std.specs.Prelude.{IsTrue, None, Option, Some, option_map, slice_get, unwrap_or}
use Rattle.std.proofs.lemmas.Bool.{and_parts, both_ways, cases_eq}
use Rattle.std.proofs.lemmas.Option.{get_or_from_slice_get, same_Some, slice_get-get_or}
use Rattle.rmt_bits.specs.declared.lane.Lane.{Lane}
use Rattle.rmt_bits.proofs.AllLaws.{All-slice_get}
use Rattle.rmt_config.specs.Instructions.{first_code}
use Rattle.rmt_config.specs.Form.{Formed}
use Rattle.rmt_config.specs.LaneForm.{headers_are_formed, ports_are_formed}
use Rattle.rmt_config.specs.ParserForm.{parser_is_formed}
use Rattle.rmt_config.specs.StageForm.{stage_is_formed, stages_are_formed, starts_are_formed}
use Rattle.rmt_config.specs.TailForm.{tails_have_headers}
use Rattle.rmt_config.specs.Life.{code_at}
use Rattle.rmt_config.specs.declared.config.Vliw.{Vliw}
use Rattle.rmt_refine.specs.Types.{Config, Operation, Program, Stage, Table, Unit}
use Rattle.rmt_vliw.specs.Coded.{IsCodeOf, IsDefaultCodeOf, TableCoded}
use Rattle.rmt_vliw.specs.Folding.{IsFolding}
use Rattle.rmt_vliw.specs.Operations.{IsInstruction, given, operations_of}
use Rattle.rmt_vliw.specs.declared.folded.Folded.{Folded}
use Rattle.rmt_verify.specs.StageCode.{UnitCoded}
use Rattle.rmt_verify.specs.WordsRise.{CodeRises, WordsRise}
use Rattle.rmt_verify.proofs.FoldedLaws.{folding_once}

-- an instruction of a stage has its operations by rising word; one that there isn't has none
pub code_at_rises : (stage : Stage) (i : ℕ) (ops : List Operation) → CodeRises stage → ops ≡ code_at stage i → WordsRise ops
code_at_rises stage i ops rises is = subst WordsRise (sym is) (at (slice_get stage.code i) refl)
  where
    at : (o : Option Vliw) → slice_get stage.code i ≡ o → WordsRise (unwrap_or (option_map (λ (v : Vliw). v.ops) o) [])
    at None e = refl
    at (Some v) e = All-slice_get (λ (w : Vliw). WordsRise w.ops) stage.code i v rises e

-- that of a folding of the action
pub code_is : (p : Program) (places : List (List Lane)) (action : ℕ) (own : Folded) (ops seen : List Operation) → IsFolding p action own → seen ≡ ops
    → IsCodeOf p places action ops → IsInstruction (operations_of places own.params own.values) seen
code_is p places action own ops seen folding same is =
    subst (λ (f : Folded). IsInstruction (operations_of places f.params f.values) seen) (folding_once p action is.folded own is.folding folding)
    (subst (IsInstruction (operations_of places is.folded.params is.folded.values)) (sym same) is.instruction)

pub default_is : (p : Program) (places : List (List Lane)) (action : ℕ) (args : List ℕ) (own : Folded) (ops seen : List Operation) → IsFolding p action own → seen ≡ ops
    → IsDefaultCodeOf p places action args ops → IsInstruction (operations_of places [] (map (given args) own.values)) seen
default_is p places action args own ops seen folding same is =
    subst (λ (f : Folded). IsInstruction (operations_of places [] (map (given args) f.values)) seen) (folding_once p action is.folded own is.folding folding)
    (subst (IsInstruction (operations_of places [] (map (given args) is.folded.values))) (sym same) is.instruction)

module _ (p : Program) (places : List (List Lane)) (actions : List ℕ) (stage : Stage) (first i : ℕ) (own : Folded) (seen : List Operation) (b : Bool) (inside : i < length actions)
    (folding : IsFolding p (get_or actions i 0) own) (is : seen ≡ code_at stage (first + i)) (made : IsTrue b ↔ IsInstruction (operations_of places own.params own.values) seen) where
  pub actions_fail : b ≡ false → ((j action : ℕ) → slice_get actions j ≡ Some action → IsCodeOf p places action (code_at stage (first + j))) → ⊥
  actions_fail fails all = both_ways b fails (made.1 (code_is p places (get_or actions i 0) own (code_at stage (first + i)) seen folding is (all i (get_or actions i 0) (slice_get-get_or actions i 0 inside))))

  pub actions_more : b ≡ true → ((j action : ℕ) → j < i → slice_get actions j ≡ Some action → IsCodeOf p places action (code_at stage (first + j)))
      → (j action : ℕ) → j < i + 1 → slice_get actions j ≡ Some action → IsCodeOf p places action (code_at stage (first + j))
  actions_more holds so_far j action lt at = elim (cases_eq j i) as (λ _. IsCodeOf p places action (code_at stage (first + j))) [
    | inl same ↦
        let its : get_or actions i 0 ≡ action = ap (λ k. get_or actions k 0) (sym same) ∙ get_or_from_slice_get actions j action 0 at in
        record {
          folded = own;
          folding = subst (λ a. IsFolding p a own) its folding;
          instruction = subst (IsInstruction (operations_of places own.params own.values)) (is ∙ ap (λ k. code_at stage (first + k)) (sym same)) (made.0 holds);
        }
    | inr other ↦ so_far j action (omega (arith, lt, other)) at
  ]

-- those of a table, once those of its list are known
pub table_answer : (p : Program) (places : List (List Lane)) (t : Table) (first : ℕ) (stage : Stage) (own : Folded) (seen : List Operation)
    → ((i action : ℕ) → slice_get t.actions i ≡ Some action → IsCodeOf p places action (code_at stage (first + i))) → IsFolding p t.default own → seen ≡ code_at stage (first + length t.actions)
    → (b : Bool) → (IsTrue b ↔ IsInstruction (operations_of places [] (map (given t.args) own.values)) seen) → (IsTrue b ↔ TableCoded p places t first stage)
table_answer p places t first stage own seen listed folding is b made = (
  λ holds. record {
    actions = listed;
    default = record {
      folded = own;
      folding = folding;
      instruction = subst (IsInstruction (operations_of places [] (map (given t.args) own.values))) is (made.0 holds);
    };
  },
  λ coded. made.1 (default_is p places t.default t.args own (code_at stage (first + length t.actions)) seen folding is coded.default),
)

-- a unit more of a stage
pub units_more : (p : Program) (places : List (List Lane)) (stage : Stage) (i : ℕ) (u : Unit) → slice_get stage.units i ≡ Some u → UnitCoded p places stage (first_code stage i) u
    → ((place : ℕ) (v : Unit) → place < i → slice_get stage.units place ≡ Some v → UnitCoded p places stage (first_code stage place) v)
    → (place : ℕ) (v : Unit) → place < i + 1 → slice_get stage.units place ≡ Some v → UnitCoded p places stage (first_code stage place) v
units_more p places stage i u at here so_far place v lt at_v = elim (cases_eq place i) as (λ _. UnitCoded p places stage (first_code stage place) v) [
  | inl same ↦
      let one : u ≡ v = same_Some u v (sym at ∙ ap (slice_get stage.units) (sym same) ∙ at_v) in
      subst (λ k. UnitCoded p places stage (first_code stage k) v) (sym same) (subst (UnitCoded p places stage (first_code stage i)) one here)
  | inr other ↦ so_far place v (omega (arith, lt, other)) at_v
]

-- ---- a formed configuration

pub stages_formed : (c : Config) → Formed c → list_all stage_is_formed c.stages ≡ true
stages_formed c formed =
    let front = ports_are_formed c && headers_are_formed c.headers && parser_is_formed c.parser && tails_have_headers c in
    let few = ltb (length c.stages) 256 in
    let each = list_all stage_is_formed c.stages in
    let starts = starts_are_formed (map (λ (s : Stage). s.start) c.stages) in
    (and_parts few each (and_parts (few && each) starts (and_parts front (stages_are_formed c.stages) formed.items).1).0).1
