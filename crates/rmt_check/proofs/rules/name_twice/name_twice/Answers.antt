use Rattle.std.proofs.Common.{List, Ok, drop, map}
use Rattle.std.specs.List.{flat_map}
use Rattle.rmt_check.specs.Parts.{HeaderText, MetaText, ActionText, TableText}
use Rattle.rmt_check.specs.Rules.{repeated, declared_names, fields_twice, params_twice, listed_twice}
use Rattle.rmt_check.proofs.Earliest.{sought_in, join_sought}
use Rattle.rmt_check.proofs.rules.name_twice.name_twice.Goals as goal

pub returns : goal.returns
returns c =
    let header = sought_in (λ (hs : List HeaderText). repeated (map (λ (h : HeaderText). h.ident) hs)) c.repeated_names-header.result c.repeated_names-header.ensures c.as_slice-headers.ensures in
    let field = sought_in (flat_map fields_twice) c.try_earliest_of-field.result c.try_earliest_of-field.ensures c.as_slice-headers.ensures in
    let meta = sought_in (λ (ms : List MetaText). map (λ (m : MetaText). m.place) (drop 1 ms)) (Ok c.earliest_beyond-meta.result) c.earliest_beyond-meta.ensures c.as_slice-metas.ensures in
    let meta_field = sought_in (λ (ms : List MetaText). repeated (declared_names (flat_map (λ (m : MetaText). m.fields) ms))) c.meta_field_twice-meta_field.result c.meta_field_twice-meta_field.ensures c.as_slice-metas.ensures in
    let action = sought_in (λ (xs : List ActionText). repeated (map (λ (a : ActionText). a.ident) xs)) c.repeated_names-action.result c.repeated_names-action.ensures c.as_slice-actions.ensures in
    let param = sought_in (flat_map params_twice) c.try_earliest_of-param.result c.try_earliest_of-param.ensures c.as_slice-actions.ensures in
    let table = sought_in (λ (ts : List TableText). repeated (map (λ (t : TableText). t.ident) ts)) c.repeated_names-table.result c.repeated_names-table.ensures c.as_slice-tables.ensures in
    let listed = sought_in (flat_map listed_twice) c.try_earliest_of-listed.result c.try_earliest_of-listed.ensures c.as_slice-tables.ensures in
    let found = join_sought c.earlier_found-2.result c.earlier_found-2.ensures (join_sought c.earlier_found.result c.earlier_found.ensures header field) meta in
    let found = join_sought c.earlier_found-found.result c.earlier_found-found.ensures found meta_field in
    let found = join_sought c.earlier_found-4.result c.earlier_found-4.ensures (join_sought c.earlier_found-3.result c.earlier_found-3.ensures found action) param in
    let found = join_sought c.earlier_found-5.result c.earlier_found-5.ensures found table in
    (join_sought c.earlier_found-6.result c.earlier_found-6.ensures found listed).is
