use Rattle.std.proofs.Common.{◌<◌, ℕ, List, length, sym, ap, subst, ◌∙◌, arith}
use Rattle.rmt_config.specs.KeysSeen.{WaysLow}
use Rattle.std.proofs.lemmas.Result.{IfOk-weaker}
use Rattle.rmt_config.specs.declared.config.Memory.TheVariants.{Exact, Ternary}
use Rattle.rmt_config.specs.MemoryRules.{ExactFits, FormedRows, SramRows, TernaryFits}
use Rattle.rmt_config.specs.PrefixRow.{PrefixRows}
use Rattle.rmt_config.proofs.PrefixRowLaws.{prefix-rows}
use Rattle.rmt_refine.specs.Types.{Memory, Stage}
use Rattle.rmt_refine.specs.Units.{HasKind}
use Rattle.rmt_config.specs.PartsTold.{part_at}
use Rattle.rmt_verify.proofs.TableLaws.{action_low, cell_below, exact_fit, exact_kind, exact_there, first_low, its_action, params_read, rows_stand, stage_is, ternary_fit, ternary_there, wanted, whole}
use Rattle.rmt_verify.proofs.cells.table.holds_entry.Goals as goal

pub bounds-as_slice-entry : goal.bounds-as_slice-entry
bounds-as_slice-entry c =
    let at = c.args.at.now in
    let own = its_action at.program.now at.config.now at.node at.table.now at.widths.now at.entries.now c.requires.known.its_table c.args.entry.now c.requires.entry in
    subst (λ (xs : List ℕ). c.args.entry.now.action < length xs) (sym c.as_slice.ensures) own.within

pub stage_of-stage-requires : goal.stage_of-stage-requires
stage_of-stage-requires c = c.requires.known.its_part.stands

pub overflow_add-code : goal.overflow_add-code
overflow_add-code c =
    let at = c.args.at.now in
    let first = first_low at.config.now (part_at c.args.part.now) c.requires.known.its_part.stands c.args.own.now c.requires.known.listed in
    let action = action_low at.program.now at.config.now at.node at.table.now at.widths.now at.entries.now c.requires.known.its_table c.args.entry.now c.requires.entry in
    record { fits = omega (arith, first, action) }

pub exact_holds-requires : goal.exact_holds-requires
exact_holds-requires c =
    let at = c.args.at.now in
    let config = at.config.now in
    let part = part_at c.args.part.now in
    let slot = c.args.part.now.slot.now in
    let known = c.requires.known in
    let stands = known.its_part.stands in
    let a = c.in-Exact in
    record {
      rows = subst SramRows (sym (c.as_slice-in-Exact.ensures ∙ ap (λ (s : Stage). s.srows) (stage_is config part stands c.stage_of-stage.result.now c.stage_of-stage.ensures))) (rows_stand config part stands);
      fits =
          subst (λ ks. ExactFits slot a.width a.per a.quanta ks c.as_slice-in-Exact-3.result.now) (sym c.as_slice-in-Exact-2.ensures)
          (subst (λ rs. ExactFits slot a.width a.per a.quanta a.keys rs) (sym c.as_slice-in-Exact-3.ensures) (exact_fit config part stands a.width a.per a.quanta a.first_way a.keys a.records a.counters a.is));
      ways = subst WaysLow a.is known.its_part.ways;
      cell = cell_below config part stands c.args.own.now (Exact a.width a.per a.quanta a.first_way a.keys a.records a.counters) known.listed a.is;
      wanted =
          wanted at.program.now config at.node at.table.now at.widths.now at.entries.now known.its_table c.args.entry.now c.requires.entry _
          (params_read at.program.now config at.node at.table.now at.widths.now at.entries.now known.its_table c.args.entry.now c.requires.entry c.as_slice.result.now c.as_slice-2.result.now c.index-as_slice-action.result c.as_slice.ensures c.as_slice-2.ensures);
      bits = known.its_part.bits_are;
      whole =
          whole at.program.now config at.node at.table.now at.widths.now at.entries.now known.its_table c.args.entry.now c.requires.entry
          (exact_kind at.table.now.kind known.its_part.quanta a.width a.per a.quanta a.first_way a.keys a.records a.counters (subst (λ (m : Memory). HasKind at.table.now.kind known.its_part.quanta m) a.is known.its_part.kind));
    }

pub ternary_holds-requires : goal.ternary_holds-requires
ternary_holds-requires c =
    let at = c.args.at.now in
    let config = at.config.now in
    let part = part_at c.args.part.now in
    let slot = c.args.part.now.slot.now in
    let known = c.requires.known in
    let stands = known.its_part.stands in
    let a = c.in-Ternary in
    let own = stage_is config part stands c.stage_of-stage.result.now c.stage_of-stage.ensures in
    record {
      rows = subst FormedRows (sym own) stands.rows;
      values = subst (λ (s : Stage). PrefixRows s.trows) (sym own) (prefix-rows config part stands known.its_table.memory);
      fits =
          subst (λ ks. TernaryFits slot a.quanta ks c.as_slice-in-Ternary-2.result.now) (sym c.as_slice-in-Ternary.ensures)
          (subst (λ rs. TernaryFits slot a.quanta a.keys rs) (sym c.as_slice-in-Ternary-2.ensures) (ternary_fit config part stands a.quanta a.keys a.records a.counters a.is));
      cell = cell_below config part stands c.args.own.now (Ternary a.quanta a.keys a.records a.counters) known.listed a.is;
      wanted =
          wanted at.program.now config at.node at.table.now at.widths.now at.entries.now known.its_table c.args.entry.now c.requires.entry _
          (params_read at.program.now config at.node at.table.now at.widths.now at.entries.now known.its_table c.args.entry.now c.requires.entry c.as_slice.result.now c.as_slice-2.result.now c.index-as_slice-action.result c.as_slice.ensures c.as_slice-2.ensures);
      bits = known.its_part.bits_are;
    }

pub returns-in-Exact : goal.returns-in-Exact
returns-in-Exact c =
    let at = c.args.at.now in
    let a = c.in-Exact in
    IfOk-weaker c.exact_holds.result _ _ (λ holds told. exact_there at.program.now at.config.now at.node at.table.now at.widths.now at.entries.now c.requires.known.its_table c.args.entry.now c.requires.entry
    (part_at c.args.part.now) c.requires.known.its_part.stands c.args.own.now c.requires.known.listed c.requires.number
    c.stage_of-stage.result.now c.as_slice.result.now c.as_slice-2.result.now c.index-as_slice-action.result c.stage_of-stage.ensures c.as_slice.ensures c.as_slice-2.ensures
    a.width a.per a.quanta a.first_way a.keys a.records a.counters c.as_slice-in-Exact.result.now c.as_slice-in-Exact-2.result.now c.as_slice-in-Exact-3.result.now holds a.is
    c.as_slice-in-Exact.ensures c.as_slice-in-Exact-2.ensures c.as_slice-in-Exact-3.ensures (told a.counters)) c.exact_holds.ensures

pub returns-in-Ternary : goal.returns-in-Ternary
returns-in-Ternary c =
    let at = c.args.at.now in
    let a = c.in-Ternary in
    IfOk-weaker c.ternary_holds.result _ _ (ternary_there at.program.now at.config.now at.node at.table.now at.widths.now at.entries.now c.requires.known.its_table c.args.entry.now c.requires.entry
    (part_at c.args.part.now) c.requires.known.its_part.stands c.args.own.now c.requires.known.listed c.requires.number
    c.stage_of-stage.result.now c.as_slice.result.now c.as_slice-2.result.now c.index-as_slice-action.result c.stage_of-stage.ensures c.as_slice.ensures c.as_slice-2.ensures
    a.quanta a.keys a.records a.counters c.as_slice-in-Ternary.result.now c.as_slice-in-Ternary-2.result.now a.is c.as_slice-in-Ternary.ensures c.as_slice-in-Ternary-2.ensures) c.ternary_holds.ensures
