use Rattle.std.proofs.Common.{◌≡◌, ◌<◌, ◌∙◌, ◌+◌, ℕ, List, Option, ap, arith, length, slice_get, subst, sym}
use Rattle.std.specs.Prelude.{All}
use Rattle.rmt_ast.specs.declared.entry.Entry.{Entry}
use Rattle.rmt_ast.specs.declared.names.TableName.{TableName}
use Rattle.rmt_lists.specs.declared.held.Held.{Held}
use Rattle.rmt_lists.specs.Stands.{AreLeft, left_at, somes}
use Rattle.rmt_lists.proofs.CommitLaws.{changes_are, gone_low, left_committed}
use Rattle.rmt_lists.proofs.SettleLaws.{lists_same}
use Rattle.rmt_lists.proofs.lists.Lists.commit.Goals as goal

pub settle-requires-clause-gone_old : goal.settle-requires-clause-gone_old
settle-requires-clause-gone_old c =
    let r = c.requires.stands.0 in
    let s = c.requires.stands.1 in
    gone_low r.last c.args.self.now.gone.keys c.args.self.now.come.items c.args.self.now.first r.now.lists s.left

pub returns-clause-committed : goal.returns-clause-committed
returns-clause-committed c r s =
    let gone = c.args.self.now.gone.keys in
    let come = c.args.self.now.come.items in
    let first = c.args.self.now.first in
    let lists = r.now.lists in
    let same : c.settle.new.last ≡ lists =
    lists_same c.settle.new.last lists (c.in_ok-settle.ensures.count ∙ ap length s.last ∙ sym s.left.count)
    (λ m. c.in_ok-settle.ensures.left m ∙ ap (λ (ls : List (List Entry)). left_at ls gone c.as_slice-places.result.now m) s.last ∙ ap (λ (xs : List (Option Entry)). left_at r.last gone xs m) c.as_slice-places.ensures.value ∙ sym (s.left.left m)) in
    let len : c.len.result ≡ length come = c.len.ensures ∙ c.args.self.now.come.ok.0 in
    let next : first + c.len.result ≡ first + length come = ap (λ (n : ℕ). first + n) len in
    let left = left_committed r.last gone come first lists s.left c.clear-2.new.self.keys c.clear.new.self.items c.clear-2.ensures.empty c.clear.ensures.items in
    record {
      names = s.names;
      formed = s.formed;
      tables = subst (λ (n : ℕ). All (λ (t : TableName). t.node < n) r.names.tables) (sym s.left.count) s.tables;
      last = same;
      left = subst (λ (n : ℕ). AreLeft lists c.clear-2.new.self.keys c.clear.new.self.items n lists) (sym next) left;
      next = ap (λ (xs : List (Option Entry)). first + c.len.result + length xs) c.clear.ensures.items ∙ omega (arith, next, s.next);
      held = s.held;
      taken = s.taken;
      most = s.most;
      numbers = s.numbers;
    }

pub returns-clause-changes : goal.returns-clause-changes
returns-clause-changes c r s =
    changes_are r.last c.args.self.now.gone.keys c.args.self.now.come.items c.args.self.now.first r.now.lists s.left c.in_ok-gone.gone c.come_of-come.result c.in_ok-gone.ensures.numbers (c.come_of-come.ensures ∙ ap somes c.as_mut_slice.ensures.value)
    c.in_ok-gone.ensures.rise

pub settle-requires-clause-counts : goal.settle-requires-clause-counts
settle-requires-clause-counts c m h at =
    let r = c.requires.stands.0 in
    let s = c.requires.stands.1 in
    let gone = c.args.self.now.gone.keys in
    let here = ap (λ (ts : List Held). slice_get ts m) (sym c.as_slice-held.ensures.value) ∙ at in
    (s.held.each m h here).count ∙ ap length (s.left.left m) ∙ ap (λ (ls : List (List Entry)). length (left_at ls gone c.args.self.now.come.items m)) (sym s.last)
    ∙ ap (λ (xs : List (Option Entry)). length (left_at c.args.self.now.last gone xs m)) (sym c.as_slice-places.ensures.value)
