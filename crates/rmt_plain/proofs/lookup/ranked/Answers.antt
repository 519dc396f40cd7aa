use Rattle.std.proofs.Common.{rules}
use Rattle.std.proofs.lemmas.List.Sorted.{IsNonDecreasingBy-from_sort_by_key}
use Rattle.std.proofs.lemmas.Fn.{always_returns_same}
use Rattle.rmt_ast.specs.declared.entry.Entry.{Entry}
use Rattle.rmt_plain.specs.Ranking.{weight_of, IsRanked}
use Rattle.rmt_plain.proofs.lookup.ranked.Goals as goal

pub returns : goal.returns
returns c =
    let weight = λ (e : Entry). weight_of c.args.kind e.rank in
    let ranked : IsRanked c.args.kind c.into_vec-entries.result.items c.sort_by_key.new.self.items = record {
      same = c.in_ok-sort_by_key.ensures.permutation;
      by_weight = IsNonDecreasingBy-from_sort_by_key weight _ c.in_ok-sort_by_key.ensures.sorted (λ a r q k. search rules);
      stable = c.in_ok-sort_by_key.ensures.stable weight (always_returns_same _ _ _ (λ a r q k. search rules));
    } in
    rw c.into_vec-entries.ensures at ranked
