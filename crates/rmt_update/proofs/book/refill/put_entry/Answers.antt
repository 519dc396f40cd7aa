use Rattle.std.proofs.Common.{◌∙◌, Some, ap, cond, refl, subst}
use Rattle.std.specs.BTreeMap.{get}
use Rattle.std.specs.Ordering.{nat_cmp}
use Rattle.rmt_book.specs.Coming.{HasSizes}
use Rattle.rmt_config.proofs.OrderLaws.{same_number}
use Rattle.rmt_update.proofs.book.refill.put_entry.Goals as goal

pub returns : goal.returns
returns c = record {
  same = record { stage = refl; place = refl; first = refl; shape = refl };
  kept = c.in_ok-kept.kept;
  keeps = c.in_ok-kept.ensures.keeps;
  sizes = subst (λ n. HasSizes c.args.table.now n c.in_ok-kept.kept) c.from-held.ensures c.in_ok-kept.ensures.sizes;
  put = λ m. c.in_ok-insert.ensures.updates.0 m ∙ ap (λ b. cond b (Some c.in_ok-kept.kept) (get nat_cmp c.args.part.now.cells m)) (same_number c.args.cell m);
  ordered = c.insert.ensures.ordered;
}
