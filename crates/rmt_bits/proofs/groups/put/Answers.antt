use Rattle.std.proofs.Common.{◌≡◌, None, refl, sym, ap, ◌∙◌}
use Rattle.rmt_bits.specs.Grouping.{place_in}
use Rattle.rmt_bits.proofs.PlaceLaws.{place_kept, put_new}
use Rattle.rmt_bits.proofs.groups.put.Goals as goal

pub returns-in-Some : goal.returns-in-Some
returns-in-Some c =
    let found = sym (c.in-Some.ensures ∙ ap (place_in c.args.group.now) c.deref.ensures.value) in
    record { masks = refl; first = refl; places = λ vs. place_kept c.args.group.now vs c.args.values.items c.args.at _ found }

pub returns-in_ok-put_place-in-None : goal.returns-in_ok-put_place-in-None
returns-in_ok-put_place-in-None c =
    let old = c.args.group.now in
    let none : place_in old c.args.values.items ≡ None = sym (c.in-None.ensures ∙ ap (place_in old) c.deref.ensures.value) in
    put_new old (record { masks = old.masks; first = old.first; places = c.put_place.new.places }) c.args.values.items c.args.at none refl refl c.in_ok-put_place-in-None.ensures
