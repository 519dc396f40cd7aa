use Rattle.std.proofs.Common.{◌≡◌, ℕ, ◌<◌, ◌++◌, List, Some, refl, sym, subst}
use Rattle.std.specs.Prelude.{All, AllPairs}
use Rattle.std.proofs.lemmas.List.Elements.{All-weaker}
use Rattle.rmt_ast.specs.declared.entry.Entry.{Entry}
use Rattle.rmt_ast.specs.declared.names.Names.{Names}
use Rattle.rmt_config.specs.declared.config.Config.{Config}
use Rattle.rmt_config.specs.Commits.{AreWrites, settled}
use Rattle.rmt_config.specs.RunCells.{RunCells}
use Rattle.rmt_update.specs.BookStands.{BookStands}
use Rattle.rmt_update.specs.Placing.{ArePlaced}
use Rattle.rmt_update.specs.Planned.{HasLengths, MayChange}
use Rattle.rmt_update.specs.declared.book.placing.Coming.{Coming}
use Rattle.rmt_book.specs.declared.table.TableCells.{TableCells}
use Rattle.rmt_book.specs.BookSpots.{kept_at}
use Rattle.rmt_update.specs.Come.{AreOrdered}
use Rattle.rmt_update.specs.Differences.{changes_in}
use Rattle.rmt_update.specs.TurnWrites.{AreChanged, AreSmall, HaveOwnSlots, IsFresh}
use Rattle.rmt_update.specs.Turning.{AreNext, IsSpotIn, come_to, left_kept}
use Rattle.rmt_update.proofs.BookNext.{book-next}
use Rattle.rmt_update.proofs.ChangesLaws.{changes-ordered}
use Rattle.rmt_lists.proofs.ResultLaws.{on_err}
use Rattle.rmt_update.proofs.FewLaws.{few-change}
use Rattle.rmt_update.proofs.RecentLaws.{recent-few}
use Rattle.rmt_update.proofs.SameTables.{stands-same}
use Rattle.rmt_update.proofs.SettleFacts.{are-fresh, are-small, changed-from, own-slots, settled-facts}
use Rattle.rmt_update.proofs.book.Book.settle.Goals as goal
use Rattle.rmt_update.proofs.book.Book.settle.Goals.{In_ok-cells, In_ok-writes}

-- what changes of the book's own tables
changed : (c : In_ok-cells) → AreChanged c.args.self.now.tables.items (λ s. come_to c.args.come s (left_kept c.args.self.now.odd c.args.changes.now.gone (kept_at c.args.self.now.tables.items s))) (changes_in c.in_ok-cells.cells.items)
changed c =
    let b = c.args.self.now in
    changed-from b.odd b.tables.items c.as_slice-tables.result.now c.args.changes.now.gone c.as_slice-gone.result.now c.args.come c.as_slice.result.now (changes_in c.in_ok-cells.cells.items) c.as_slice-tables.ensures.value c.as_slice-gone.ensures
    c.as_slice.ensures c.in_ok-cells.ensures

pub changes_at-requires-clause-small : goal.changes_at-requires-clause-small
changes_at-requires-clause-small c =
    let r = c.requires.may in
    subst (λ (ts : List TableCells). AreSmall ts) (sym c.as_slice-tables.ensures.value) (are-small r.0 r.2 r.3 c.args.self.now r.4)

pub changes_at-requires-clause-slots : goal.changes_at-requires-clause-slots
changes_at-requires-clause-slots c =
    let r = c.requires.may in
    subst (λ (ts : List TableCells). HaveOwnSlots ts) (sym c.as_slice-tables.ensures.value) (own-slots r.0 r.2 r.3 c.args.self.now r.4)

pub changes_at-requires-clause-fresh : goal.changes_at-requires-clause-fresh
changes_at-requires-clause-fresh c =
    let r = c.requires.may in
    subst (λ (ts : List TableCells). All (IsFresh ts) c.as_slice.result.now) (sym c.as_slice-tables.ensures.value)
    (subst (λ (xs : List Coming). All (IsFresh c.args.self.now.tables.items) xs) (sym c.as_slice.ensures) (are-fresh r.0 r.1 r.2 r.3 c.args.changes.now c.args.self.now c.args.come r.4 r.5 r.6 r.7))

pub changes_at-requires-clause-rise : goal.changes_at-requires-clause-rise
changes_at-requires-clause-rise c = subst (AllPairs (λ (a b : ℕ). a < b)) (sym c.as_slice-gone.ensures) c.requires.may.6.gone_rise

pub make_changes-requires-clause-there : goal.make_changes-requires-clause-there
make_changes-requires-clause-there c =
    let r = c.requires.may in
    let ts = c.args.self.now.tables.items in
    All-weaker (IsFresh ts) (λ (x : Coming). IsSpotIn ts x.spot) (λ x fresh. fresh.there) c.args.come (are-fresh r.0 r.1 r.2 r.3 c.args.changes.now c.args.self.now c.args.come r.4 r.5 r.6 r.7)

pub make_changes-requires-clause-spots : goal.make_changes-requires-clause-spots
make_changes-requires-clause-spots c = (changed (goal.at.make_changes-requires-clause-spots c).In_ok-cells).spots

-- the tables that come of it, and what is written for them
made : (c : In_ok-writes) → AreChanged c.args.self.now.tables.items (λ s. come_to c.args.come s (left_kept c.args.self.now.odd c.args.changes.now.gone (kept_at c.args.self.now.tables.items s))) (changes_in c.in_ok-cells.cells.items)
    → (config : Config) (names : Names) (cells : RunCells) (lists : List (List Entry)) (stands : BookStands config cells lists c.args.self.now) (named : config.names ≡ Some names) (may : MayChange config names cells lists c.args.changes.now)
    (placed : ArePlaced config names cells lists c.args.changes.now c.args.self.now.odd c.args.self.now.tables.items c.args.come)
    → AreNext c.args.self.now.odd c.args.changes.now.gone c.args.come c.args.self.now.tables.items c.make_changes.new.tables.items
    × AreWrites config cells (settled config names cells lists (placed.stay ++ placed.coming)) c.in_ok-writes.writes.items × All (HasLengths config) c.in_ok-writes.writes.items
made c own config names cells lists stands named may placed =
    settled-facts config names cells lists c.args.changes.now c.args.self.now c.args.come stands named may placed (changes_in c.in_ok-cells.cells.items) (changes-ordered c.in_ok-cells.cells.items) own c.make_changes.new.tables.items c.in_ok-writes.ensures.made
    (subst (All AreOrdered) c.as_slice-tables.ensures.value c.all_ordered.ensures) c.in_ok-writes.writes.items c.in_ok-writes.ensures.writes

pub returns-clause-writes : goal.returns-clause-writes
returns-clause-writes c = λ config names cells lists stands named may placed.
    let at = goal.at.returns-clause-writes c in (made at.In_ok-writes (changed at.In_ok-cells) config names cells lists stands named may placed).1

pub returns-clause-sizes : goal.returns-clause-sizes
returns-clause-sizes c = λ config names cells lists stands named may placed.
    let at = goal.at.returns-clause-sizes c in (made at.In_ok-writes (changed at.In_ok-cells) config names cells lists stands named may placed).2

pub returns-clause-stands : goal.returns-clause-stands
returns-clause-stands c = λ config names cells lists stands named may placed.
    let at = goal.at.returns-clause-stands c in
    let next = (made at.In_ok-writes (changed at.In_ok-cells) config names cells lists stands named may placed).0 in
    book-next config names cells lists c.args.changes.now c.args.self.now _ c.args.come stands named may placed next refl refl refl (c.in_ok-next.ensures c.make_changes.new.tables.items next)

pub returns-clause-few : goal.returns-clause-few
returns-clause-few c =
    let r = c.requires.may in
    let at = goal.at.returns-clause-few c in
    few-change r.0 r.1 r.2 r.3 c.args.changes.now c.args.self.now c.args.come r.4 r.5 r.6 r.7 c.in_ok-writes.writes.items (made at.In_ok-writes (changed at.In_ok-cells) r.0 r.1 r.2 r.3 r.4 r.5 r.6 r.7).1

pub returns-clause-recent : goal.returns-clause-recent
returns-clause-recent c =
    let r = c.requires.may in
    let at = goal.at.returns-clause-recent c in
    recent-few r.0 r.1 r.2 r.3 c.args.changes.now c.args.self.now c.args.come r.4 r.5 r.6 r.7 c.make_changes.new.tables.items (made at.In_ok-writes (changed at.In_ok-cells) r.0 r.1 r.2 r.3 r.4 r.5 r.6 r.7).0

pub returns-in_err-writes-clause-kept : goal.returns-in_err-writes-clause-kept
returns-in_err-writes-clause-kept c =
    let b = c.args.self.now in
    on_err c.from_residual-in_err-writes.result _ (λ config cells lists.
    stands-same config cells lists b _ (subst (All AreOrdered) c.as_slice-tables.ensures.value c.all_ordered.ensures) c.in_err-writes.ensures.kept refl refl refl tt)
