use Rattle.std.proofs.Common.{◌≤◌, ◌<◌, ◌∙◌, ◌∷◌, [], length, sym, refl, arith, length-append}
use Rattle.rmt_entries.specs.Entries.{entries_at, has_keys_once, is_repeated}
use Rattle.rmt_entries.specs.NamedTables.{seen_table}
use Rattle.rmt_entries.proofs.GatherLaws.{beside_repeated, beside_full, beside_fits, once_own, list_at, lists_push}
use Rattle.rmt_entries.proofs.gathered.Gathered.admit.Goals as goal

pub returns-then-branch-clause-fault : goal.returns-then-branch-clause-fault
returns-then-branch-clause-fault c = (
  refl,
  λ terms es h applied.
      let again = c.in_ok-see_key.ensures.again terms es h.keys (once_own terms (seen_table c.args.table.now) c.args.entry.table c.requires.own applied) in
      beside_repeated (has_keys_once c.args.table.now.kind) (is_repeated es c.args.entry) c.args.table.now.size (entries_at es c.args.entry.table) c.args.entry (sym again ∙ c.if-branch.true),
)

pub returns-then-table-len-clause-fault : goal.returns-then-table-len-clause-fault
returns-then-table-len-clause-fault c = (
  refl,
  λ terms es h applied.
      let again = c.in_ok-see_key.ensures.again terms es h.keys (once_own terms (seen_table c.args.table.now) c.args.entry.table c.requires.own applied) in
      let own = list_at terms es c.args.self.now.lists.items c.args.entry.table c.index.result.now h.lists c.requires.within c.index.ensures in
      let full : c.args.table.now.size ≤ length (entries_at es c.args.entry.table) = rw (← own) (omega (arith, c.len.ensures, c.if-table-len.true)) in
      beside_full (has_keys_once c.args.table.now.kind) (is_repeated es c.args.entry) c.args.table.now.size (entries_at es c.args.entry.table) c.args.entry (sym again ∙ c.if-branch.false) full,
)

pub returns-clause-admitted : goal.returns-clause-admitted
returns-clause-admitted c terms es h applied =
    let again = c.in_ok-see_key.ensures.again terms es h.keys (once_own terms (seen_table c.args.table.now) c.args.entry.table c.requires.own applied) in
    let own = list_at terms es c.args.self.now.lists.items c.args.entry.table c.index.result.now h.lists c.requires.within c.index.ensures in
    let room : length (entries_at es c.args.entry.table) < c.args.table.now.size = rw (← own) (omega (arith, c.len.ensures, c.if-table-len.false)) in
    beside_fits (has_keys_once c.args.table.now.kind) (is_repeated es c.args.entry) c.args.table.now.size (entries_at es c.args.entry.table) c.args.entry (sym again ∙ c.if-branch.false) room

pub returns-clause-gathered : goal.returns-clause-gathered
returns-clause-gathered c terms es h applied = record {
  lists = lists_push terms es c.args.self.now.lists.items c.args.entry c.index_mut.result.now c.push.new.self h.lists c.requires.within c.index_mut.ensures.value c.in_ok-push.ensures.ok;
  number = omega (arith, h.number, length-append es (c.args.entry ∷ []));
  keys = c.in_ok-see_key.ensures.seen terms es h.keys (once_own terms (seen_table c.args.table.now) c.args.entry.table c.requires.own applied);
}
