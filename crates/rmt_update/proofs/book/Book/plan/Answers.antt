use Rattle.std.proofs.Common.{◌≡◌, ◌≤◌, ◌++◌, ◌∙◌, List, None, Some, true, false, length, subst, sym, ap, arith}
use Rattle.std.specs.Prelude.{IfSome}
use Rattle.std.proofs.lemmas.Bool.{false≢true}
use Rattle.std.proofs.lemmas.Result.{IfErr-weaker, IfOk-weaker, on_err_weaker}
use Rattle.rmt_ast.specs.declared.entry.Entry.{Entry}
use Rattle.rmt_ast.specs.declared.names.Names.{Names}
use Rattle.rmt_config.specs.declared.config.Config.{Config}
use Rattle.rmt_config.specs.Commits.{Makes, settled, stays}
use Rattle.rmt_config.specs.RunCells.{RunCells, with_version}
use Rattle.rmt_update.specs.declared.book.Book.{Book}
use Rattle.rmt_update.specs.BookStands.{BookStands}
use Rattle.rmt_update.specs.ComeIndex.{HasPlaced}
use Rattle.rmt_update.specs.Placing.{ArePlaced, IsPlacing}
use Rattle.rmt_update.specs.Planned.{MayChange, changed_lists}
use Rattle.rmt_update.specs.Recent.{recent}
use Rattle.rmt_lists.proofs.ResultLaws.{on_err}
use Rattle.rmt_update.proofs.TakenLaws.{taken-index, taken-stands}
use Rattle.rmt_update.proofs.book.Book.plan.Goals as goal
use Rattle.rmt_update.proofs.book.Book.plan.Goals.{In-None, In_ok-index}

pub take_index-requires : goal.take_index-requires
take_index-requires c = let m = c.requires.may in (m.0, m.2, m.3, m.4)

pub place-requires-clause-may : goal.place-requires-clause-may
place-requires-clause-may c =
    let m = c.requires.may in
    (m.0, m.1, m.2, m.3, taken-stands c.args.self.now c.take_index.new.self c.in_ok-index.ensures.rest m.0 m.2 m.3 m.4, m.5, m.6)

pub place-requires-clause-index : goal.place-requires-clause-index
place-requires-clause-index c = taken-index c.args.self.now c.take_index.new.self c.in_ok-index.ensures.rest c.in_ok-index.index c.in_ok-index.ensures.index

pub settle-requires-clause-may : goal.settle-requires-clause-may
settle-requires-clause-may c =
    let m = c.requires.may in
    let b = c.take_index.new.self in
    let stands = taken-stands c.args.self.now b c.in_ok-index.ensures.rest m.0 m.2 m.3 m.4 in
    (m.0, m.1, m.2, m.3, stands, m.5, m.6, subst (IsPlacing m.0 m.1 m.2 m.3 c.args.changes.now b.odd b.tables.items) c.in-Some.is (c.in_ok-come.ensures.placing m.0 m.1 m.2 m.3 stands m.5 m.6))

pub settle-requires-clause-index : goal.settle-requires-clause-index
settle-requires-clause-index c =
    let b = c.take_index.new.self in
    subst (λ o. IfSome o (λ come. HasPlaced b.odd c.args.changes.now.gone come b.tables.items c.place.new.index)) c.in-Some.is c.in_ok-come.ensures.index

-- the book without its index stands as before
stands : (c : In_ok-index) (config : Config) (cells : RunCells) (lists : List (List Entry)) → BookStands config cells lists c.args.self.now → BookStands config cells lists c.take_index.new.self
stands c config cells lists before = taken-stands c.args.self.now c.take_index.new.self c.in_ok-index.ensures.rest config cells lists before

-- and where no cell is found for the entries, there is none
unplaced : (c : In-None) (config : Config) (names : Names) (cells : RunCells) (lists : List (List Entry)) → BookStands config cells lists c.args.self.now → config.names ≡ Some names → MayChange config names cells lists c.args.changes.now
    → IsPlacing config names cells lists c.args.changes.now c.take_index.new.self.odd c.take_index.new.self.tables.items None
unplaced c config names cells lists before named may =
    let b = c.take_index.new.self in
    subst (IsPlacing config names cells lists c.args.changes.now b.odd b.tables.items) c.in-None.is
    (c.in_ok-come.ensures.placing config names cells lists (taken-stands c.args.self.now b c.in_ok-index.ensures.rest config cells lists before) named may)

pub load-requires : goal.load-requires
load-requires c =
    let m = c.requires.may in
    let at = goal.at.load-requires c in
    (m.0, m.1, m.2, m.3, stands at.In_ok-index m.0 m.2 m.3 m.4, m.5, m.6, unplaced at.In-None m.0 m.1 m.2 m.3 m.4 m.5 m.6)

pub returns-in_ok-writes-in-Some-clause-planned : goal.returns-in_ok-writes-in-Some-clause-planned
returns-in_ok-writes-in-Some-clause-planned c = λ config names cells lists before named may.
    let b = c.take_index.new.self in
    let ch = c.args.changes.now in
    let stands = taken-stands c.args.self.now b c.in_ok-index.ensures.rest config cells lists before in
    let placed : ArePlaced config names cells lists ch b.odd b.tables.items c.in-Some.come = subst (IsPlacing config names cells lists ch b.odd b.tables.items) c.in-Some.is (c.in_ok-come.ensures.placing config names cells lists stands named may) in
    let next = settled config names cells lists (placed.stay ++ placed.coming) in
    let b2 = c.settle.new.self in
    let st = c.in_ok-writes-in-Some.ensures.stands config names cells lists stands named may placed in (
      next,
      record {
        makes = subst (λ s. Makes config names cells lists (changed_lists lists ch) false s next) (sym st.seed) (stays (placed.stay ++ placed.coming) placed.placed);
        writes = c.in_ok-writes-in-Some.ensures.writes config names cells lists stands named may placed;
        sizes = c.in_ok-writes-in-Some.ensures.sizes config names cells lists stands named may placed;
        stands = subst (λ s. BookStands config (with_version next s) (changed_lists lists ch) b2) (sym st.seed) st;
      },
    )

pub returns-in-None-clause-planned : goal.returns-in-None-clause-planned
returns-in-None-clause-planned c =
    let at = goal.at.returns-in-None-clause-planned c in
    IfOk-weaker c.load.result _ _
    (λ plan h config names cells lists before named may. h config names cells lists (stands at.In_ok-index config cells lists before) named may (unplaced at.In-None config names cells lists before named may)) c.load.ensures.planned

pub returns-in-None-clause-refused : goal.returns-in-None-clause-refused
returns-in-None-clause-refused c =
    let at = goal.at.returns-in-None-clause-refused c in
    IfErr-weaker c.load.result _ _
    (λ fault h config names cells lists before named may. h config names cells lists (stands at.In_ok-index config cells lists before) named may (unplaced at.In-None config names cells lists before named may)) c.load.ensures.refused

pub returns-in_ok-writes-in-Some-clause-few : goal.returns-in_ok-writes-in-Some-clause-few
returns-in_ok-writes-in-Some-clause-few c = λ still.
    let few = c.in_ok-writes-in-Some.ensures.few in
    let come = subst (λ o. IfSome o (λ xs. length xs ≤ length c.args.changes.now.come)) c.in-Some.is c.in_ok-come.ensures.few in
    let same = ap (λ (b : Book). length (recent b.tables.items)) c.in_ok-index.ensures.rest in
    omega (arith, few, come, same)

pub returns-in_ok-writes-in-Some-clause-recent : goal.returns-in_ok-writes-in-Some-clause-recent
returns-in_ok-writes-in-Some-clause-recent c = λ still.
    let few = c.in_ok-writes-in-Some.ensures.recent in
    let come = subst (λ o. IfSome o (λ xs. length xs ≤ length c.args.changes.now.come)) c.in-Some.is c.in_ok-come.ensures.few in
    omega (arith, few, come)

pub returns-in-None-clause-few : goal.returns-in-None-clause-few
returns-in-None-clause-few c = IfOk-weaker c.load.result (λ plan. plan.moved ≡ true) _ (λ plan moves still. absurd (false≢true (sym still ∙ moves))) c.load.ensures.moved

pub returns-in-None-clause-recent : goal.returns-in-None-clause-recent
returns-in-None-clause-recent c = IfOk-weaker c.load.result (λ plan. plan.moved ≡ true) _ (λ plan moves still. absurd (false≢true (sym still ∙ moves))) c.load.ensures.moved

pub returns-in_err-writes-in-Some-clause-kept : goal.returns-in_err-writes-in-Some-clause-kept
returns-in_err-writes-in-Some-clause-kept c =
    on_err c.from_residual-in_err-writes-in-Some.result _ (λ config cells lists before.
    c.in_err-writes-in-Some.ensures.kept config cells lists (stands (goal.at.returns-in_err-writes-in-Some-clause-kept c).In_ok-index config cells lists before))

pub returns-in-None-clause-kept : goal.returns-in-None-clause-kept
returns-in-None-clause-kept c =
    on_err_weaker c.load.result (λ h config cells lists before. h config cells lists (stands (goal.at.returns-in-None-clause-kept c).In_ok-index config cells lists before)) c.load.ensures.kept
