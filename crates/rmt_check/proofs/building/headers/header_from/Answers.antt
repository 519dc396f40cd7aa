use Rattle.std.proofs.Common.{◌≡◌, ◌∙◌, ℕ, ◌+◌, ◌/◌, map, ap}
use Rattle.std.specs.List.{range_with_len}
use Rattle.std.specs.Prelude.{Vec}
use Rattle.std.specs.declared.alloc.Global.{Global}
use Rattle.rmt_check.specs.Parts.{Ident}
use Rattle.rmt_check.specs.Names.{selected}
use Rattle.rmt_check.specs.Meaning.{case_of, field_number}
use Rattle.rmt_check.proofs.Together.{held, first_made, second_made}
use Rattle.rmt_check.proofs.building.headers.header_from.Goals as goal

pub returns : goal.returns
returns g c =
    let s = g.N.Lookup.text c.args.names.now in
    let h = c.args.header.now in
    let m = c.in_ok-name in
    let own = λ (i : Ident). field_number s (selected s h i) in
    let name = held (λ n. n ≡ h.ident.name) c.copy_name.result m.name (first_made c.copy_name.result c.both.result m.name m.fields c.in_ok-name.ensures.first c.both.ensures.first) c.copy_name.ensures in
    let numbers =
    held (λ (ns : Vec ℕ Global). ns.items ≡ range_with_len (c.args.valid + 1) c.len-count.result) c.numbers_from.result m.fields
    (second_made c.numbers_from.result c.both.result m.name m.fields c.in_ok-name.ensures.first c.both.ensures.second) c.numbers_from.ensures in
    let fields = c.from_vec.ensures ∙ numbers ∙ ap (range_with_len (c.args.valid + 1)) c.len-count.ensures in
    let bytes = ap (λ bits. bits / 8) c.bits_of.ensures in
    let select =
    held (λ ns. ns ≡ map own c.as_slice.result.now) c.mapped.result m.select (first_made c.mapped.result c.both-2.result m.select m.cases c.in_ok-name.ensures.second c.both-2.ensures.first) c.mapped.ensures
    ∙ ap (map own) c.as_slice.ensures in
    let cases =
    held (λ cs. cs ≡ map (case_of s h) c.as_slice-2.result.now) c.mapped-2.result m.cases (second_made c.mapped-2.result c.both-2.result m.select m.cases c.in_ok-name.ensures.second c.both-2.ensures.second) c.mapped-2.ensures
    ∙ ap (map (case_of s h)) c.as_slice-2.ensures in
    λ i. record {
      name = name i;
      valid = c.args.valid;
      fields = fields i;
      bytes = bytes i;
      tail = c.tail_in.ensures i;
      select = select i;
      cases = cases i;
      other = c.target_of.ensures i;
    }
