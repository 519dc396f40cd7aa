-- The instructions of actions and of defaults.
use Rattle.std.proofs.Common.{◌≡◌, ℕ, ◌<◌, ◌≤◌, true, false, List, [], ◌++◌, Some, map, drop, refl, sym, ap, ◌∙◌, subst, arith}
use Rattle.std.specs.Prelude.{Option, None, IsSomeAnd, sum, length, slice_get}
use Rattle.std.specs.List.{AllZip}
use Rattle.std.proofs.lemmas.List.{append-nil, at_drop_all}
use Rattle.std.proofs.lemmas.Option.{none-some, slice_get_within}
use Rattle.rmt_bits.specs.declared.lane.Lane.{Lane}
use Rattle.rmt_bits.proofs.AllLaws.{All-slice_get}
use Rattle.rmt_vliw.specs.Types.{Program, Action, Assign, Vliw, Operation}
use Rattle.rmt_ast.specs.WellFormed.{IsProgram, IsAction, Fits, Takes}
use Rattle.rmt_phv.specs.Places.{KeepsApart}
use Rattle.rmt_config.specs.CodeForm.{vliw_is_formed}
use Rattle.rmt_vliw.specs.declared.folded.Folded.{Folded}
use Rattle.rmt_vliw.specs.Folding.{IsFolding}
use Rattle.rmt_vliw.specs.Operations.{operations_of, given, IsInstruction}
use Rattle.rmt_vliw.specs.Effects.{Does, DoesWith}
use Rattle.rmt_config.specs.Effects.{Hold, words_after, ChangesOnly}
use Rattle.rmt_vliw.proofs.MeaningLaws.{means, action_of, folded_is}
use Rattle.rmt_vliw.proofs.ValueLaws.{are_folded}
use Rattle.rmt_vliw.proofs.EffectLaws.{holds_after, changes_only}
use Rattle.rmt_vliw.proofs.FormedLaws.{formed, param_ends, params_few}
use Rattle.rmt_vliw.proofs.GivenLaws.{given_folded, given_lanes, given_all_set}

module _ (p : Program) (places : List (List Lane)) (folded : Folded) (good : IsProgram p) (keeps : KeepsApart p places) where
  -- the parameters of an action are few
  pub few_params : (n : ℕ) → IsFolding p n folded → sum folded.params ≤ 2048
  few_params n h =
      let found = action_of p n folded h in
      let a : IsAction p found.0 = All-slice_get (IsAction p) p.actions n found.0 good.actions found.1 in
      let same : folded.params ≡ found.0.params = (folded_is found.0 folded found.2).0 in
      let few = params_few found.0.params a.params in
      let count = a.few_params in
      let sums : sum folded.params ≡ sum found.0.params = ap sum same in
      omega (arith, few, count, sums)

  module _ (n : ℕ) (folding : IsFolding p n folded) (v : Vliw) where
    pub does : IsInstruction (operations_of places folded.params folded.values) v.ops → Does p places n folded v.ops
    does sorted =
        let values = are_folded p places n folded good keeps folding in
        record {
          acts = λ s args words held state taken has hold.
              subst (Hold places (words_after v.ops held words)) (sym (means p n folded good folding s args state))
              (holds_after p places folded.params folded.values keeps values v.ops sorted words held args s state taken has hold);
          others = changes_only p places folded.params folded.values keeps values v.ops sorted;
        }

    pub is_formed : IsInstruction (operations_of places folded.params folded.values) v.ops → (held : ℕ) → sum folded.params ≤ held → vliw_is_formed (record { held = held; is_default = false }) v ≡ true
    is_formed sorted held room =
        formed p places folded.params folded.values keeps (are_folded p places n folded good keeps folding) v sorted (record { held = held; is_default = false })
        (λ i width is. (refl, (let ends = param_ends folded.params i width is in omega (arith, ends, room))))

    pub does_with : (args : List ℕ) → AllZip Fits folded.params args → IsInstruction (operations_of places [] (map (given args) folded.values)) v.ops → DoesWith p places n args folded v.ops
    does_with args taken sorted =
        let values = given_folded p places folded.params args folded.values taken (are_folded p places n folded good keeps folding) in
        record {
          acts = λ s words held state hold.
              subst (Hold places (words_after v.ops held words)) (given_all_set p args s folded.values ∙ sym (means p n folded good folding s args state))
              (holds_after p places [] (map (given args) folded.values) keeps values v.ops sorted words held [] s state (tt {0}) (λ i width is. absurd (none-some width is)) hold);
          others = subst (λ (ls : List Lane). ChangesOnly ls v.ops) (given_lanes places args folded.values) (changes_only p places [] (map (given args) folded.values) keeps values v.ops sorted);
        }

    pub is_formed_with : (args : List ℕ) → AllZip Fits folded.params args → IsInstruction (operations_of places [] (map (given args) folded.values)) v.ops → (held : ℕ) → vliw_is_formed (record { held = held; is_default = true }) v ≡ true
    is_formed_with args taken sorted held =
        formed p places [] (map (given args) folded.values) keeps (given_folded p places folded.params args folded.values taken (are_folded p places n folded good keeps folding)) v sorted
        (record { held = held; is_default = true }) (λ i width is. absurd (none-some width is))

-- once no value is left, the operations are those of all
pub all_pushed : (F : List Assign → List Operation) (values seen : List Assign) (i : ℕ) (ops : List Operation) (v : Vliw) → F [] ≡ [] → seen ≡ values → length seen ≤ i
    → ops ++ F (drop i values) ≡ F values → IsInstruction ops v.ops → IsInstruction (F values) v.ops
all_pushed F values seen i ops v none same le so_far sorted =
    let ended : length values ≤ i = subst (λ (xs : List Assign). length xs ≤ i) same le in
    let rest : F (drop i values) ≡ [] = at_drop_all F values i ended ∙ none in
    let all : ops ≡ F values = sym (append-nil ops) ∙ ap (λ ys. ops ++ ys) (sym rest) ∙ so_far in
    subst (λ ys. IsInstruction ys v.ops) all sorted

-- ---- actions with arguments

-- the number of an action that takes arguments is that of an action
pub takes_within : (p : Program) (n : ℕ) (args : List ℕ) → Takes p n args → n < length p.actions
takes_within p n args takes = some_within (slice_get p.actions n) refl takes
  where
    some_within : (o : Option Action) → slice_get p.actions n ≡ o → IsSomeAnd o (λ (a : Action). AllZip Fits a.params args) → n < length p.actions
    some_within None at h = absurd h
    some_within (Some a) at h = slice_get_within p.actions n a at

-- its arguments fit the parameters of its folding
pub takes_folded : (p : Program) (n : ℕ) (args : List ℕ) (folded : Folded) → Takes p n args → IsFolding p n folded → AllZip Fits folded.params args
takes_folded p n args folded takes folding =
    let found = action_of p n folded folding in
    let there : AllZip Fits found.0.params args = subst (λ (o : Option Action). IsSomeAnd o (λ (a : Action). AllZip Fits a.params args)) found.1 takes in
    subst (λ ps. AllZip Fits ps args) (sym (folded_is found.0 folded found.2).0) there
