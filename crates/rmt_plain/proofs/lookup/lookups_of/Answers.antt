use Rattle.std.proofs.Common.{◌+◌, ◌++◌, ◌∷◌, [], List, length, ap, sym, subst, ◌∙◌, arith}
use Rattle.std.proofs.lemmas.List.{length_push}
use Rattle.rmt_ast.specs.declared.program.Kind.{Kind}
use Rattle.rmt_plain.specs.declared.lookup.Lookup.{Lookup}
use Rattle.rmt_plain.specs.Running.{IsReady}
use Rattle.rmt_plain.specs.Running.{AreReady, kind_of_node}
use Rattle.rmt_plain.proofs.FirstLaws.{ready_push}
use Rattle.rmt_plain.proofs.lookup.lookups_of.Goals as goal

pub loop-list-preserved : goal.loop-list-preserved
loop-list-preserved c =
    let p = c.args.program.now in
    let list = c.in-Some.list in
    let was = c.loop-list.lookups.items in
    let own = c.in_ok-lookup_of.field-0 in
    let grown = c.in_ok-push.ensures.items in
    let here : IsReady (kind_of_node p (0 + length was)) list own =
    subst (λ (k : Kind). IsReady k list own) (c.kind_at-kind.ensures ∙ ap (kind_of_node p) (omega (arith, c.loop-list.lookups.ok.0, c.len-in-loop-list.ensures))) c.in_ok-lookup_of.ensures in
    record {
      one_each = ap (λ (ls : List Lookup). length ls) grown ∙ length_push was own ∙ ap (λ n. n + 1) c.loop-list.invariant.one_each ∙ sym (length_push c.loop-list.yielded list);
      ranked = subst (λ (ls : List Lookup). AreReady p 0 (c.loop-list.yielded ++ list ∷ []) ls) (sym grown) (ready_push p 0 c.loop-list.yielded was list own c.loop-list.invariant.ranked here);
    }
