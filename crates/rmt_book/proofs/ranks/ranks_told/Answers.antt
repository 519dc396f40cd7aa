use Rattle.std.proofs.Common.{◌≡◌, ◌-◌, ◌+◌, ap, ◌∙◌, arith, drop, eqb, option_map}
use Rattle.std.specs.Prelude.{find}
use Rattle.std.specs.BTreeMap.{get}
use Rattle.std.specs.Ordering.{nat_cmp}
use Rattle.rmt_ast.specs.declared.names.RankOf.{RankOf}
use Rattle.rmt_book.proofs.RankLaws.{told-more}
use Rattle.rmt_book.proofs.ranks.ranks_told.Goals as goal

pub loop-left-preserved : goal.loop-left-preserved
loop-left-preserved c =
    let ranks = c.args.ranks.now in
    let at = c.loop-left.left - 1 in
    let e : c.loop-left.left ≡ at + 1 = omega arith in
    record {
      within = omega arith;
      so_far = λ n.
          told-more ranks at n (record { number = 0; rank = 0 }) (get nat_cmp c.loop-left.told n) (get nat_cmp c.insert.new.self n) (omega arith) (c.in_ok-insert.ensures.updates.0 n)
          (c.loop-left.invariant.so_far n ∙ ap (λ i. option_map (λ (r : RankOf). r.rank) (find (λ (r : RankOf). eqb r.number n) (drop i ranks))) e);
    }
