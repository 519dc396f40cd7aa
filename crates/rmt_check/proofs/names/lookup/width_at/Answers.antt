use Rattle.std.proofs.Common.{◌≤◌, List, length, option_map, unwrap_or, sym, ap, subst}
use Rattle.std.proofs.lemmas.Option.{slice_get_past}
use Rattle.rmt_check.specs.Names.{Known, fields_of}
use Rattle.rmt_check.proofs.names.lookup.width_at.Goals as goal

pub returns-in-None : goal.returns-in-None
returns-in-None g c =
    let past : length (fields_of (g.N.Lookup.text c.args.names.now)) ≤ c.args.number = subst (λ (fs : List Known). length fs ≤ c.args.number) c.fields.ensures c.in-None.ensures.lookup.3 in
    ap (λ o. unwrap_or (option_map (λ (f : Known). f.width) o) 0) (sym (slice_get_past (fields_of (g.N.Lookup.text c.args.names.now)) c.args.number past))
