use Rattle.std.proofs.Common.{◌<◌, List, length, sym, subst}
use Rattle.rmt_ast.specs.declared.program.Program.{Program}
use Rattle.rmt_ast.specs.declared.program.Table.{Table}
use Rattle.rmt_ast.specs.WellFormed.{IsProgram, IsTable, Takes}
use Rattle.std.specs.Prelude.{◌≡◌, ℕ, slice_index_or}
use Rattle.rmt_phv.proofs.FieldCount.{few_fields}
use Rattle.rmt_vliw.proofs.InstructionLaws.{takes_within, takes_folded}
use Rattle.rmt_map_tests.proofs.actions.default_in.Goals as goal

-- a table's default takes its arguments
default_takes : (p : Program) (seen : List Table) (n : ℕ) (t : Table) → IsProgram p → seen ≡ p.tables → n < length p.tables → t ≡ slice_index_or seen n t → Takes p t.default t.args
default_takes p seen n t good same lt is =
    let table : IsTable p (slice_index_or p.tables n t) = good.tables n t lt in
    let here : IsTable p (slice_index_or seen n t) = subst (λ (ts : List Table). IsTable p (slice_index_or ts n t)) (sym same) table in
    (subst (IsTable p) (sym is) here).default

pub fold_action-requires-clause-action : goal.fold_action-requires-clause-action
fold_action-requires-clause-action c =
    let p = c.args.program.now in
    let t = c.index-as_slice-table.result in
    takes_within p t.default t.args (default_takes p c.as_slice.result.now c.args.table t c.requires.program c.as_slice.ensures c.requires.table c.index-as_slice-table.is)

pub pack_fields-requires-clause-few_fields : goal.pack_fields-requires-clause-few_fields
pack_fields-requires-clause-few_fields c = few_fields c.args.program.now c.requires.program

pub default_instruction-requires-clause-folded : goal.default_instruction-requires-clause-folded
default_instruction-requires-clause-folded c = (c.index-as_slice-table.result.default, c.in-Ok.ensures.is_folding)

pub default_instruction-requires-clause-args : goal.default_instruction-requires-clause-args
default_instruction-requires-clause-args c =
    let p = c.args.program.now in
    let t = c.index-as_slice-table.result in
    takes_folded p t.default t.args c.in-Ok.folded
    (default_takes p c.as_slice.result.now c.args.table t c.requires.program c.as_slice.ensures c.requires.table c.index-as_slice-table.is) c.in-Ok.ensures.is_folding
