use Rattle.std.proofs.Common.{◌≡◌, ◌++◌, ◌∷◌, [], List, fold, length, drop, sym, ap, ◌∙◌}
use Rattle.std.specs.List.{enumerate_from}
use Rattle.std.proofs.lemmas.List.{drop_all}
use Rattle.rmt_check.specs.Parts.{Tree, NodeText}
use Rattle.rmt_check.specs.Reading.{all_added, with_arm, added, node_text}
use Rattle.rmt_check.proofs.ReadingLaws.{arms, adds_of, added_other, added_statement}
use Rattle.rmt_check.proofs.reading.control.+push_nodes.Goals as goal

pub returns-then-not-is_statement : goal.returns-then-not-is_statement
returns-then-not-is_statement t c =
    let under = c.args.under in
    let items = c.as_slice-part-items.result.now in
    let over : drop c.loop-part.part-index items ≡ [] = drop_all c.loop-part.part-index items c.loop-part-test.false in
    let kind = sym c.is_statement.ensures ∙ c.if-not-is_statement.true in
    sym (ap (λ (ts : List Tree). all_added (adds_of ts) under c.loop-part.nodes) over) ∙ c.loop-part.invariant
    ∙ ap (λ (ts : List Tree). all_added (adds_of ts) under c.args.nodes.now) c.as_slice-part-items.ensures
    ∙ sym (ap (λ (u : Tree). added u under c.args.nodes.now) c.in-Many.is ∙ added_other c.in-Many.rule c.in-Many.parts under c.args.nodes.now kind)

pub returns : goal.returns
returns t c =
    let under = c.args.under in
    let before = c.args.nodes.now in
    let items = c.as_slice-part-items-2.result.now in
    let parent = c.len-parent.result in
    let over : drop c.loop-part-2.part-index items ≡ [] = drop_all c.loop-part-2.part-index items c.loop-part-2-test.false in
    let kind = sym c.is_statement.ensures ∙ c.if-not-is_statement.false in
    let pushed = c.in_ok-push_node.ensures ∙ ap (λ (ts : List Tree). before ++ node_text under ts ∷ []) c.as_slice.ensures in
    sym (ap (λ (ts : List Tree). fold (with_arm parent) c.loop-part-2.nodes (enumerate_from c.loop-part-2.arm (arms ts))) over) ∙ c.loop-part-2.invariant.1
    ∙ ap (λ (ns : List NodeText). fold (with_arm parent) ns (enumerate_from 0 (arms items))) pushed
    ∙ ap (λ n. fold (with_arm n) (before ++ node_text under c.in-Many.parts ∷ []) (enumerate_from 0 (arms items))) c.len-parent.ensures
    ∙ ap (λ (ts : List Tree). fold (with_arm (length before)) (before ++ node_text under c.in-Many.parts ∷ []) (enumerate_from 0 (arms ts))) c.as_slice-part-items-2.ensures
    ∙ sym (ap (λ (u : Tree). added u under before) c.in-Many.is ∙ added_statement c.in-Many.rule c.in-Many.parts under before kind)
