use Rattle.std.proofs.Common.{◌≤◌, ◌∙◌, ◌+◌, ℕ, List, ap, drop, max, subst, sym}
use Rattle.std.specs.Prelude.{fold}
use Rattle.std.specs.List.{flat_map}
use Rattle.rmt_ast.specs.Answers.{entry_numbers}
use Rattle.rmt_ast.specs.declared.entry.Entry.{Entry}
use Rattle.rmt_lists.proofs.NewLaws.{item_numbers, next_more, next_up_to}
use Rattle.rmt_lists.proofs.start.next_number.Goals as goal

pub loop-list-preserved : goal.loop-list-preserved
loop-list-preserved c =
    let lists = c.args.lists.now in
    let i = c.loop-list.list-index in
    let item = c.list-item.result in
    let here = c.next_behind-next.ensures ∙ ap (λ (es : List Entry). fold (λ next n. max next (n + 1)) c.loop-list.next (entry_numbers es)) c.as_slice.ensures in
    record {
      folded =
          ap (λ (z : ℕ). fold (λ next n. max next (n + 1)) z (flat_map entry_numbers (drop (i + 1) lists))) here
          ∙ sym (next_more lists i item c.loop-list.next c.loop-list-test.true c.list-item.is) ∙ c.loop-list.invariant.folded;
      least = subst (λ (n : ℕ). n ≤ 4293918720) (sym here) (next_up_to 4293918720 c.loop-list.next (entry_numbers item) (item_numbers 4293918720 lists i item c.requires c.loop-list-test.true c.list-item.is) c.loop-list.invariant.least);
    }
