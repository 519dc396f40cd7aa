use Rattle.std.proofs.Common.{◌≡◌, ◌≢◌, ℕ, length, Some, refl, subst, ◌∙◌, arith}
use Rattle.std.proofs.lemmas.List.{get_or_default}
use Rattle.std.specs.Ordering.{nat_cmp}
use Rattle.std.specs.BTreeMap.{Updates}
use Rattle.rmt_bits.proofs.PlaceLaws.{put_one, put_other}
use Rattle.rmt_bits.proofs.places.put_place.Goals as goal

pub returns-in_ok-insert : goal.returns-in_ok-insert
returns-in_ok-insert c =
    let old = c.args.places.now in
    let one : length c.args.values.items ≡ 1 = omega (arith, c.len.ensures, c.if-len-eq1.true) in
    put_one old (record { ones = c.insert.new.self; others = old.others }) c.args.values.items c.args.at one
    (subst (λ (k : ℕ). Updates nat_cmp old.ones c.insert.new.self k (Some c.args.at)) (c.index.ensures ∙ get_or_default c.args.values.items 0 c.index.result.now 0 (omega arith)) c.in_ok-insert.ensures.updates) refl

pub returns-in_ok-insert-2 : goal.returns-in_ok-insert-2
returns-in_ok-insert-2 c =
    let old = c.args.places.now in
    let more : length c.args.values.items ≢ 1 = omega (arith, c.len.ensures, c.if-len-eq1.false) in
    put_other old (record { ones = old.ones; others = c.insert-else-len-eq1.new.self }) c.args.values.items c.args.at c.args.values refl more
    c.in_ok-insert-2.ensures.entries refl
