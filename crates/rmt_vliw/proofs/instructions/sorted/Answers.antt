use Rattle.std.proofs.Common.{rules}
use Rattle.std.proofs.lemmas.List.Sorted.{IsNonDecreasingBy-from_sort_by_key}
use Rattle.rmt_vliw.specs.Types.{Operation}
use Rattle.rmt_vliw.specs.Operations.{IsInstruction}
use Rattle.rmt_vliw.proofs.instructions.sorted.Goals as goal

pub returns : goal.returns
returns c =
    let word = λ (op : Operation). op.word in
    let in_order : IsInstruction c.args.ops.items c.sort_unstable_by_key.new.self.items = record {
      same = c.sort_unstable_by_key.ensures.permutation;
      by_word = IsNonDecreasingBy-from_sort_by_key word _ c.sort_unstable_by_key.ensures.sorted (λ a r q k. search rules);
    } in
    rw (c.from_vec.ensures) in_order
