-- Instructions of a program's actions do what a configuration that carries the program asks of them.
use Rattle.std.proofs.Common.{ℕ, List, [], map, subst}
use Rattle.std.specs.List.{AllZip}
use Rattle.std.specs.List.Sorted.{IsPermutation}
use Rattle.rmt_bits.specs.declared.lane.Lane.{Lane}
use Rattle.rmt_refine.specs.Types.{Program, Table, Stage, Operation}
use Rattle.rmt_ast.specs.WellFormed.{Fits, IsProgram, IsTable, Takes}
use Rattle.rmt_deps.specs.Edges.{of_action}
use Rattle.rmt_phv.specs.Places.{KeepsApart, written_by}
use Rattle.rmt_vliw.specs.declared.folded.Folded.{Folded}
use Rattle.rmt_vliw.specs.Coded.{IsCodeOf, IsDefaultCodeOf, TableCoded}
use Rattle.rmt_vliw.specs.Effects as effects
use Rattle.rmt_vliw.specs.Folding.{IsFolding}
use Rattle.rmt_vliw.specs.Operations.{given, operations_of}
use Rattle.rmt_vliw.proofs.AssignedLaws.{changes_assigned, given_assigned, params_same, values_assigned, words_assigned}
use Rattle.rmt_vliw.proofs.InstructionLaws.{does, does_with, takes_folded}
use Rattle.rmt_refine.specs.Code.{DoesAction, DoesDefault, TableCode}
use Rattle.rmt_config.specs.Effects.{HasArguments}

-- ---- instructions

module _ (p : Program) (places : List (List Lane)) (n : ℕ) (folded : Folded) (folding : IsFolding p n folded) where
  abbrev fields : List ℕ
  fields = of_action p written_by n

  does_action : (ops : List Operation) → IsPermutation (operations_of places folded.params folded.values) ops → effects.Does p places n folded ops → DoesAction p places n ops
  does_action ops same does =
      let params = params_same p n folded folding in
      let values = values_assigned p n folded folding in
      record {
        acts = λ s args words held state fit has hold. does.acts s args words held state (subst (λ ps. AllZip Fits ps args) params fit) (subst (λ ps. HasArguments ps args held) params has) hold;
        others = changes_assigned places fields folded.values ops values does.others;
        words = words_assigned places fields folded.params folded.values ops values same;
      }

  does_default : (args : List ℕ) (ops : List Operation) → IsPermutation (operations_of places [] (map (given args) folded.values)) ops → effects.DoesWith p places n args folded ops → DoesDefault p places n args ops
  does_default args ops same does = record {
    acts = does.acts;
    others = changes_assigned places fields folded.values ops (values_assigned p n folded folding) does.others;
    words = words_assigned places fields [] (map (given args) folded.values) ops (given_assigned p n folded folding args) same;
  }

-- ---- those of a table

module _ (p : Program) (places : List (List Lane)) (program : IsProgram p) (keeps : KeepsApart p places) where
  code_does : (action : ℕ) (ops : List Operation) → IsCodeOf p places action ops → DoesAction p places action ops
  code_does action ops is =
      does_action p places action is.folded is.folding ops is.instruction.same
      (does p places is.folded program keeps action is.folding (record { ops = ops }) is.instruction)

  default_does : (action : ℕ) (args : List ℕ) (ops : List Operation) → Takes p action args → IsDefaultCodeOf p places action args ops → DoesDefault p places action args ops
  default_does action args ops takes is =
      does_default p places action is.folded is.folding args ops is.instruction.same
      (does_with p places is.folded program keeps action is.folding (record { ops = ops }) args (takes_folded p action args is.folded takes is.folding) is.instruction)

  pub table_does : (t : Table) (first : ℕ) (stage : Stage) → IsTable p t → TableCoded p places t first stage → TableCode p places t first stage
  table_does t first stage own coded = record {
    actions = λ i action at. code_does action _ (coded.actions i action at);
    default = default_does t.default t.args _ own.default coded.default;
  }
