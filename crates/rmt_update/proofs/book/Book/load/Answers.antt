use Rattle.std.proofs.Common.{◌≡◌, ℕ, ◌<◌, List, Vec, length, refl, sym, ap, ◌∙◌, subst, arith}
use Rattle.std.specs.Prelude.{All, Err, IfErr, None, Ok, Result, Some}
use Rattle.std.specs.Result.{IsErrAnd}
use Rattle.rmt_ast.specs.declared.names.Names.{Names}
use Rattle.rmt_config.specs.declared.config.Config.{Config}
use Rattle.rmt_config.specs.Commits.{placed_after}
use Rattle.rmt_config.specs.RunCells.{RunCells}
use Rattle.rmt_update.specs.BookStands.{BookStands}
use Rattle.std.specs.Global.{Global}
use Rattle.std.specs.List.{AllZip}
use Rattle.rmt_ast.specs.declared.entry.Entry.{Entry}
use Rattle.rmt_ast.specs.NameRules.{AreEntriesOf}
use Rattle.rmt_book.specs.declared.spots.Spot.{Spot}
use Rattle.rmt_book.specs.declared.table.PartCells.{PartCells}
use Rattle.rmt_update.specs.Differences.{AreDifferences, CanChange, Goal, IsGoal, all_pairs}
use Rattle.rmt_book.specs.declared.table.TableCells.{TableCells}
use Rattle.rmt_update.specs.After.{left_of, with_come}
use Rattle.std.proofs.lemmas.Slice.Zip.{AllZip-long}
use Rattle.rmt_update.specs.Loads.{AreTables, IsLoaded, IsNotLoaded}
use Rattle.rmt_update.specs.Refill.{IsMoved, SamePart, TableFits}
use Rattle.rmt_update.specs.Planned.{IsUnplanned, MayChange, changed_lists}
use Rattle.rmt_book.specs.Seen.{HaveNumbers}
use Rattle.rmt_lists.proofs.ResultLaws.{on_err}
use Rattle.rmt_lists.specs.declared.fault.UpdateFault.TheVariants as UpdateFault
use Rattle.rmt_update.proofs.AfterLaws.{after-have}
use Rattle.rmt_update.proofs.LoadSteps.{after-few, can-change, planned, tables-are, tables-fit, unplanned}
use Rattle.rmt_update.proofs.book.Book.load.Goals as goal
use Rattle.rmt_update.proofs.book.Book.load.Goals.{In_ok-loaded, In_ok-parts}
use Rattle.rmt_update.proofs.ZipLaws.{zip-gives}

pub entries-requires : goal.entries-requires
entries-requires c = (c.requires.0, c.requires.2, c.requires.3, c.requires.4)

pub lists_after-requires-clause-tables : goal.lists_after-requires-clause-tables
lists_after-requires-clause-tables c =
    subst (λ (ls : List (List Entry)). All (λ (e : Entry). e.table < length ls) c.args.changes.now.come) (sym (c.in_ok-before.ensures.entries c.requires.0 c.requires.2 c.requires.3 c.requires.4)) c.requires.6.come_within

pub lists_after-requires-clause-numbers : goal.lists_after-requires-clause-numbers
lists_after-requires-clause-numbers c =
    let ch = c.args.changes.now in
    subst (λ (ls : List (List Entry)). (n : ℕ) → n < length ls → HaveNumbers (with_come (left_of ch.gone ls) ch.come n)) (sym (c.in_ok-before.ensures.entries c.requires.0 c.requires.2 c.requires.3 c.requires.4))
    (after-have c.requires.1 c.requires.3 ch c.requires.6.formed)

pub load_all-requires-clause-fit : goal.load_all-requires-clause-fit
load_all-requires-clause-fit c =
    let ch = c.args.changes.now in
    let b = c.args.self.now in
    let before = c.in_ok-before.ensures.entries c.requires.0 c.requires.2 c.requires.3 c.requires.4 in
    let after : c.in_ok-after.after ≡ changed_lists c.requires.3 ch = c.in_ok-after.ensures ∙ ap (λ (ls : List (List Entry)). changed_lists ls ch) before in (
      c.requires.0,
      c.requires.1,
      subst (AreTables c.requires.0 c.requires.1) (sym c.as_slice.ensures.value) (tables-are c.requires.0 c.requires.1 c.requires.2 c.requires.3 b c.requires.4 c.requires.5),
      subst (AreEntriesOf c.requires.1) (sym after) c.requires.6.formed,
    )

pub put_back-requires : goal.put_back-requires
put_back-requires c =
    let same = AllZip-long (λ (t : TableCells) (v : Vec PartCells Global). IsMoved c.in_ok-after.after c.as_slice-spots.result.now t v.items) c.as_slice-2.result.now c.in_ok-parts.parts.items c.in_ok-parts.ensures in
    let value = ap (λ (ts : List TableCells). length ts) c.as_slice-2.ensures.value in
    omega (arith, same, value)

-- what is loaded, of the entries behind the changes
loads : (c : In_ok-loaded) (config : Config) (names : Names) (cells : RunCells) (lists : List (List Entry)) → BookStands config cells lists c.args.self.now → config.names ≡ Some names → MayChange config names cells lists c.args.changes.now
    → IsLoaded config names (changed_lists lists c.args.changes.now) c.in_ok-loaded.loaded
loads c config names cells lists stands named may =
    let after : c.in_ok-after.after ≡ changed_lists lists c.args.changes.now =
    c.in_ok-after.ensures ∙ ap (λ (ls : List (List Entry)). changed_lists ls c.args.changes.now) (c.in_ok-before.ensures.entries config cells lists stands) in
    let tables = subst (AreTables config names) (sym c.as_slice.ensures.value) (tables-are config names cells lists c.args.self.now stands named) in
    subst (λ ls. IsLoaded config names ls c.in_ok-loaded.loaded) after (c.in_ok-loaded.ensures.loaded config names tables (subst (AreEntriesOf names) (sym after) may.formed))

-- and the parts as these entries move
moves : (c : In_ok-parts) (config : Config) (cells : RunCells) (lists : List (List Entry)) → BookStands config cells lists c.args.self.now
    → AllZip (λ (t : TableCells) (v : Vec PartCells Global). IsMoved (changed_lists lists c.args.changes.now) c.in_ok-loaded.loaded.spots t v.items) c.args.self.now.tables.items c.in_ok-parts.parts.items
moves c config cells lists stands =
    let R : List (List Entry) → List (List Spot) → TableCells → Vec PartCells Global → Type 0 = λ ls ss t v. IsMoved ls ss t v.items in
    let after : c.in_ok-after.after ≡ changed_lists lists c.args.changes.now =
    c.in_ok-after.ensures ∙ ap (λ (ls : List (List Entry)). changed_lists ls c.args.changes.now) (c.in_ok-before.ensures.entries config cells lists stands) in
    subst (λ (ts : List TableCells). AllZip (R (changed_lists lists c.args.changes.now) c.in_ok-loaded.loaded.spots) ts c.in_ok-parts.parts.items) c.as_slice-2.ensures.value
    (subst (λ (ls : List (List Entry)). AllZip (R ls c.in_ok-loaded.loaded.spots) c.as_slice-2.result.now c.in_ok-parts.parts.items) after
    (subst (λ (ss : List (List Spot)). AllZip (R c.in_ok-after.after ss) c.as_slice-2.result.now c.in_ok-parts.parts.items) c.as_slice-spots.ensures c.in_ok-parts.ensures))

pub moved_parts-requires : goal.moved_parts-requires
moved_parts-requires c =
    let ch = c.args.changes.now in
    let b = c.args.self.now in
    let r = c.requires in
    let after : c.in_ok-after.after ≡ changed_lists r.3 ch = c.in_ok-after.ensures ∙ ap (λ (ls : List (List Entry)). changed_lists ls ch) (c.in_ok-before.ensures.entries r.0 r.2 r.3 r.4) in
    subst (λ (ts : List TableCells). All (TableFits c.in_ok-after.after c.as_slice-spots.result.now) ts) (sym c.as_slice-2.ensures.value)
    (subst (λ (ls : List (List Entry)). All (TableFits ls c.as_slice-spots.result.now) b.tables.items) (sym after)
    (subst (λ (ss : List (List Spot)). All (TableFits (changed_lists r.3 ch) ss) b.tables.items) (sym c.as_slice-spots.ensures)
    (tables-fit r.0 r.1 r.2 r.3 b r.4 r.5 ch r.6 c.in_ok-loaded.loaded (loads (goal.at.moved_parts-requires c).In_ok-loaded r.0 r.1 r.2 r.3 r.4 r.5 r.6))))

pub returns-clause-planned : goal.returns-clause-planned
returns-clause-planned c = λ config names cells lists stands named may none.
    let at = goal.at.returns-clause-planned c in
    planned config names cells lists c.args.self.now stands named c.args.changes.now may c.in_ok-loaded.loaded (loads at.In_ok-loaded config names cells lists stands named may) c.in_ok-parts.parts.items (moves at.In_ok-parts config cells lists stands) _ _ none refl refl
    (subst (λ (ts : List TableCells). (g : Goal) → All (IsGoal g) (all_pairs ts c.in_ok-parts.parts.items) → AreDifferences (all_pairs ts c.in_ok-parts.parts.items) c.in_ok-writes.writes.items g) c.as_slice-3.ensures.value
    (subst (λ (vs : List (Vec PartCells Global)). (g : Goal) → All (IsGoal g) (all_pairs c.as_slice-3.result.now vs) → AreDifferences (all_pairs c.as_slice-3.result.now vs) c.in_ok-writes.writes.items g) c.as_slice-4.ensures.value c.in_ok-writes.ensures))
    refl refl refl c.put_back.ensures refl

pub differences-requires-clause-same : goal.differences-requires-clause-same
differences-requires-clause-same c =
    zip-gives (λ (t : TableCells) (v : Vec PartCells Global). IsMoved c.in_ok-after.after c.as_slice-spots.result.now t v.items) (λ (t : TableCells) (v : Vec PartCells Global). length v.items ≡ length t.parts.items)
    (λ t v m. AllZip-long SamePart t.parts.items v.items m.same) c.as_slice-3.result.now c.as_slice-4.result.now
    (subst (λ (ts : List TableCells). AllZip (λ (t : TableCells) (v : Vec PartCells Global). IsMoved c.in_ok-after.after c.as_slice-spots.result.now t v.items) ts c.as_slice-4.result.now) (c.as_slice-2.ensures.value ∙ sym c.as_slice-3.ensures.value)
    (subst (λ (vs : List (Vec PartCells Global)). AllZip (λ (t : TableCells) (v : Vec PartCells Global). IsMoved c.in_ok-after.after c.as_slice-spots.result.now t v.items) c.as_slice-2.result.now vs) (sym c.as_slice-4.ensures.value) c.in_ok-parts.ensures))

pub differences-requires-clause-can : goal.differences-requires-clause-can
differences-requires-clause-can c =
    let r = c.requires in
    let at = goal.at.differences-requires-clause-can c in
    subst (λ (vs : List (Vec PartCells Global)). All (λ (v : Vec PartCells Global). All CanChange v.items) vs) (sym c.as_slice-4.ensures.value)
    (can-change r.0 r.1 r.2 r.3 c.args.self.now r.4 r.5 c.args.changes.now r.6 c.in_ok-loaded.loaded (loads at.In_ok-loaded r.0 r.1 r.2 r.3 r.4 r.5 r.6) c.in_ok-parts.parts.items (moves at.In_ok-parts r.0 r.2 r.3 r.4))

pub load_all-requires-clause-few : goal.load_all-requires-clause-few
load_all-requires-clause-few c =
    let ch = c.args.changes.now in
    let b = c.args.self.now in
    let before = c.in_ok-before.ensures.entries c.requires.0 c.requires.2 c.requires.3 c.requires.4 in
    let after : c.in_ok-after.after ≡ changed_lists c.requires.3 ch = c.in_ok-after.ensures ∙ ap (λ (ls : List (List Entry)). changed_lists ls ch) before in
    subst (λ (ls : List (List Entry)). length ls < 4294967296) (sym after) (after-few c.requires.0 c.requires.1 c.requires.2 c.requires.3 b c.requires.4 c.requires.5 ch c.requires.6 c.is_word.ensures)

-- what holds of the one fault that there may be
caught : {A E : Type 0} (r : Result A E) (x : E) (P : E → Type 0) → IsErrAnd r (λ e. e ≡ x) → P x → IfErr r P
caught (Ok v) x P h p = tt
caught (Err e) x P h p = subst P (sym h) p

pub returns-in_err-loaded-clause-refused : goal.returns-in_err-loaded-clause-refused
returns-in_err-loaded-clause-refused c =
    let ch = c.args.changes.now in
    let b = c.args.self.now in
    let x = c.in_err-loaded.field-0.0 in
    caught c.from_residual-in_err-loaded.result x
    (λ fault. (config : Config) (names : Names) (cells : RunCells) (lists : List (List Entry)) → BookStands config cells lists b → config.names ≡ Some names → MayChange config names cells lists ch
    → placed_after config names cells lists (changed_lists lists ch) ≡ None → IsUnplanned config names cells lists (changed_lists lists ch) fault) c.from_residual-in_err-loaded.ensures.1
    (λ config names cells lists stands named may none.
    let before = c.in_ok-before.ensures.entries config cells lists stands in
    let after : c.in_ok-after.after ≡ changed_lists lists ch = c.in_ok-after.ensures ∙ ap (λ (ls : List (List Entry)). changed_lists ls ch) before in
    let tables = subst (AreTables config names) (sym c.as_slice.ensures.value) (tables-are config names cells lists b stands named) in
    let refused = c.in_err-loaded.ensures.refused config names tables (subst (AreEntriesOf names) (sym after) may.formed) in
    unplanned config names cells lists (changed_lists lists ch) x none (subst (λ ls. IsNotLoaded config names ls x) after refused))

-- the one other fault is want of memory, and then all is as before
pub returns-in_err-before-clause-refused : goal.returns-in_err-before-clause-refused
returns-in_err-before-clause-refused c =
    let ch = c.args.changes.now in
    caught c.from_residual.result c.in_err-before.field-0.0 _ c.from_residual.ensures.1
    (λ config names cells lists stands named may none. subst (IsUnplanned config names cells lists (changed_lists lists ch)) (sym c.in_err-before.ensures.fault) tt)

pub returns-in_err-after-clause-refused : goal.returns-in_err-after-clause-refused
returns-in_err-after-clause-refused c = caught c.from_residual-in_err-after.result UpdateFault.NoMemory _ c.from_residual-in_err-after.ensures.1 (λ config names cells lists stands named may none. tt)

pub returns-in_err-parts-clause-refused : goal.returns-in_err-parts-clause-refused
returns-in_err-parts-clause-refused c = caught c.from_residual-in_err-parts.result UpdateFault.NoMemory _ c.from_residual-in_err-parts.ensures.1 (λ config names cells lists stands named may none. tt)

pub returns-in_err-writes-clause-refused : goal.returns-in_err-writes-clause-refused
returns-in_err-writes-clause-refused c = caught c.from_residual-in_err-writes.result UpdateFault.NoMemory _ c.from_residual-in_err-writes.ensures.1 (λ config names cells lists stands named may none. tt)

pub returns-in_err-before-clause-kept : goal.returns-in_err-before-clause-kept
returns-in_err-before-clause-kept c = on_err c.from_residual.result _ (λ config cells lists stands. stands)

pub returns-in_err-after-clause-kept : goal.returns-in_err-after-clause-kept
returns-in_err-after-clause-kept c = on_err c.from_residual-in_err-after.result _ (λ config cells lists stands. stands)

pub returns-in_err-loaded-clause-kept : goal.returns-in_err-loaded-clause-kept
returns-in_err-loaded-clause-kept c = on_err c.from_residual-in_err-loaded.result _ (λ config cells lists stands. stands)

pub returns-in_err-parts-clause-kept : goal.returns-in_err-parts-clause-kept
returns-in_err-parts-clause-kept c = on_err c.from_residual-in_err-parts.result _ (λ config cells lists stands. stands)

pub returns-in_err-writes-clause-kept : goal.returns-in_err-writes-clause-kept
returns-in_err-writes-clause-kept c = on_err c.from_residual-in_err-writes.result _ (λ config cells lists stands. stands)
