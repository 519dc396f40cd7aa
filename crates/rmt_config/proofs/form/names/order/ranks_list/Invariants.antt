use Rattle.std.proofs.Common.{◌≡◌, drop, map}
use Rattle.std.specs.Str.{bytes_eq}
use Rattle.rmt_ast.specs.declared.names.RankOf.{RankOf}
use Rattle.rmt_config.proofs.form.names.order.ranks_list.Given as goal

abbrev pub invariant-loop-at : goal.invariant-loop-at
invariant-loop-at l = bytes_eq (map (λ (r : RankOf). r.number) (drop l.at l.ranks)) (drop l.at l.numbers) ≡ bytes_eq (map (λ (r : RankOf). r.number) l.ranks) l.numbers
