use Rattle.std.proofs.Common.{◌≡◌, ◌∙◌, [], map, ap}
use Rattle.rmt_check.specs.declared.names.lists.TableNames.{TableNames}
use Rattle.rmt_check.specs.Parts.{ActionText, HeaderText, TableText}
use Rattle.rmt_check.specs.StoredFields.{list_names}
use Rattle.rmt_check.proofs.Together.{held, first_made, second_made}
use Rattle.rmt_check.proofs.names.declared_in.Goals as goal

pub returns : goal.returns
returns c =
    let m = c.in_ok-headers in
    let tables = c.tables_of-tables.result in
    let made = c.in_ok-headers.ensures.second in
    record {
      headers = held (λ ns. ns ≡ map (λ (h : HeaderText). h.ident.name) c.as_slice.result.now) c.names_of-headers.result m.headers
          (first_made c.names_of-headers.result c.both.result m.headers m.actions c.in_ok-headers.ensures.first c.both.ensures.first) c.names_of-headers.ensures
          ∙ ap (map (λ (h : HeaderText). h.ident.name)) c.as_slice.ensures;
      actions = held (λ ns. ns ≡ map (λ (a : ActionText). a.ident.name) c.as_slice-2.result.now) c.names_of-actions.result m.actions
          (second_made c.names_of-actions.result c.both.result m.headers m.actions c.in_ok-headers.ensures.first c.both.ensures.second) c.names_of-actions.ensures
          ∙ ap (map (λ (a : ActionText). a.ident.name)) c.as_slice-2.ensures;
      tables = held (λ (t : TableNames). t.names ≡ map (λ (t : TableText). t.ident.name) c.as_slice-3.result.now) tables m.tables made c.tables_of-tables.ensures.names
          ∙ ap (map (λ (t : TableText). t.ident.name)) c.as_slice-3.ensures;
      lists = held (λ (t : TableNames). t.lists ≡ list_names c.as_slice-3.result.now) tables m.tables made c.tables_of-tables.ensures.lists ∙ ap list_names c.as_slice-3.ensures;
      nothing = held (λ (t : TableNames). t.nothing ≡ []) tables m.tables made c.tables_of-tables.ensures.nothing;
    }
