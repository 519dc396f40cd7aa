use Rattle.std.proofs.Common.{◌≡◌, ◌∙◌, ℕ, suc, ◌+◌, ◌<◌, List, [], ◌∷◌, ◌++◌, Result, Ok, Err, IsOk, IfOk, length, drop, drop-cons, get_or, append_assoc, sym, ap, ap₂, arith}
use Rattle.std.proofs.lemmas.List.Sums.{sum_by_more}
use Rattle.rmt_check.specs.Parts.{Header, HeaderText, Source}
use Rattle.rmt_check.specs.Meaning.{header_from, headers_from}
use Rattle.rmt_check.proofs.Bounds.{numbers_few}
use Rattle.rmt_check.proofs.building.headers.headers_of.Goals as goal

one_more : {E : Type 0} (s : Source) (hs : List HeaderText) (i n m : ℕ) (h : HeaderText) (was now all : List Header) (made : Result Header E) → i < length hs → h ≡ get_or hs i h → m ≡ n + (1 + length h.fields)
    → was ++ headers_from s n (drop i hs) ≡ all → IfOk made (λ b. b ≡ header_from s n h) → IsOk made × IfOk made (λ b. now ≡ was ++ b ∷ []) → now ++ headers_from s m (drop (i + 1) hs) ≡ all
one_more s hs i n m h was now all (Ok b) lt at next so_far is put =
    let rest : List Header = headers_from s m (drop (i + 1) hs) in
    let step : suc i ≡ i + 1 = omega arith in
    let number : n + 1 + length h.fields ≡ m = omega arith in
    let here : headers_from s n (drop i hs) ≡ b ∷ rest =
    ap (headers_from s n) (drop-cons hs i h lt) ∙ ap (λ (x : HeaderText). header_from s n x ∷ headers_from s (n + 1 + length x.fields) (drop (suc i) hs)) (sym at)
    ∙ ap₂ (λ (k j : ℕ). header_from s n h ∷ headers_from s k (drop j hs)) number step ∙ ap (λ (x : Header). x ∷ rest) (sym is) in
    ap (λ (bs : List Header). bs ++ rest) put.1 ∙ append_assoc was (b ∷ []) rest ∙ ap (λ (bs : List Header). was ++ bs) (sym here) ∙ so_far
one_more s hs i n m h was now all (Err e) lt at next so_far is put = grind arith

pub loop-header-preserved : goal.loop-header-preserved
loop-header-preserved g c =
    let s = g.N.Lookup.text c.args.names.now in
    let hs = c.as_slice-header-items.result.now in
    let next = ap (λ n. c.loop-header.valid + (1 + n)) c.len.ensures in
    record {
      built = one_more s hs c.loop-header.header-index c.loop-header.valid _ c.header-item.result _ _ _ c.header_from.result c.loop-header-test.true c.header-item.is next c.loop-header.invariant.built
          c.header_from.ensures c.in_ok-add.ensures;
      count = omega (
        arith,
        sum_by_more (λ (x : HeaderText). 1 + length x.fields) hs c.loop-header.header-index c.header-item.result c.loop-header-test.true,
        c.loop-header.invariant.count,
        c.len.ensures,
        ap (λ (x : HeaderText). length x.fields) c.header-item.is,
      );
    }

pub header_from-requires-clause-valid : goal.header_from-requires-clause-valid
header_from-requires-clause-valid g c =
    let items = c.as_slice-header-items.ensures ∙ ap (λ (s : Source). s.headers) c.source.ensures in
    omega (arith, numbers_few (g.N.Lookup.text c.args.names.now) _ _ _ c.requires items c.loop-header-test.true c.header-item.is)

pub overflow_add-valid-in-loop-header : goal.overflow_add-valid-in-loop-header
overflow_add-valid-in-loop-header g c =
    let items = c.as_slice-header-items.ensures ∙ ap (λ (s : Source). s.headers) c.source.ensures in
    omega (arith, numbers_few (g.N.Lookup.text c.args.names.now) _ _ _ c.requires items c.loop-header-test.true c.header-item.is)
