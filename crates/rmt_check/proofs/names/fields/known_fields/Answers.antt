use Rattle.std.proofs.Common.{◌≡◌, ◌∙◌, ℕ, suc, ◌+◌, ◌<◌, List, ◌++◌, length, drop, drop-cons, get_or, codes, append_assoc, sym, ap, ap₂, subst, arith}
use Rattle.std.specs.List.{enumerate_from, flat_map}
use Rattle.rmt_check.specs.Parts.{HeaderText}
use Rattle.rmt_check.specs.Names.{Known, declared_fields, fields_of, header_fields, metadata, of_metadata}
use Rattle.rmt_check.proofs.names.fields.known_fields.Goals as goal

-- the fields of one header more, in front of those that are still to come
header_more : (hs : List HeaderText) (i : ℕ) (h : HeaderText) (end was now all : List Known) → i < length hs → h ≡ get_or hs i h
    → was ++ (flat_map header_fields (enumerate_from i (drop i hs)) ++ end) ≡ all → now ≡ was ++ header_fields (i, h) → now ++ (flat_map header_fields (enumerate_from (i + 1) (drop (i + 1) hs)) ++ end) ≡ all
header_more hs i h end was now all lt at so_far put =
    let rest : List Known = flat_map header_fields (enumerate_from (i + 1) (drop (i + 1) hs)) in
    let step : suc i ≡ i + 1 = omega arith in
    let here : flat_map header_fields (enumerate_from i (drop i hs)) ≡ header_fields (i, h) ++ rest =
    ap (λ (xs : List HeaderText). flat_map header_fields (enumerate_from i xs)) (drop-cons hs i h lt)
    ∙ ap₂ (λ (x : HeaderText) (j : ℕ). header_fields (i, x) ++ flat_map header_fields (enumerate_from (i + 1) (drop j hs))) (sym at) step in
    ap (λ (fs : List Known). fs ++ (rest ++ end)) put ∙ append_assoc was (header_fields (i, h)) (rest ++ end)
    ∙ ap (λ (fs : List Known). was ++ fs) (sym (append_assoc (header_fields (i, h)) rest end) ∙ ap (λ (fs : List Known). fs ++ end) (sym here)) ∙ so_far

pub loop-number-preserved : goal.loop-number-preserved
loop-number-preserved c =
    let s = c.args.source.now in
    let i = c.loop-number.number in
    let h = c.header-item.result in
    let same = c.as_slice-header-items.ensures in
    let within : i < length s.headers = subst (λ (hs : List HeaderText). i < length hs) same c.loop-number-test.true in
    let at = c.header-item.is ∙ ap (λ (hs : List HeaderText). get_or hs i h) same in
    let end = declared_fields of_metadata (codes "meta") (metadata s) in
    header_more s.headers i h end c.loop-number.fields c.add_header.new.fields (fields_of s) within at c.loop-number.invariant c.in_ok-add_header.ensures
