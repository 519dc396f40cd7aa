use Rattle.std.proofs.Common.{◌≡◌, ◌∙◌, ℕ, ◌+◌, ◌<◌, ◌≤◌, List, [], ◌∷◌, ◌++◌, length, map, take, zip, get_or, sym, ap, ap₂, arith}
use Rattle.std.proofs.lemmas.List.{map_more, take_all}
use Rattle.std.proofs.lemmas.Slice.Zip.{length-zip, get_or-zip}
use Rattle.rmt_check.specs.Parts.{Ident, ValueText, HeaderText, Test, Source}
use Rattle.rmt_check.specs.Names.{Named, selected, width_of}
use Rattle.rmt_check.specs.Meaning.{test_of}
use Rattle.rmt_check.proofs.building.headers.tests_of.Goals as goal

-- the test of a value for the field beside it
abbrev tested : Source → HeaderText → Ident × ValueText → Test
tested s h x = test_of (width_of s (selected s h x.0)) x.1

one_more : (s : Source) (h : HeaderText) (xs : List Ident) (ys : List ValueText) (i : ℕ) (x : Ident) (y : ValueText) (key : Named) (t : Test) (was now : List Test) → i < length xs → i < length ys
    → x ≡ get_or xs i x → key ≡ selected s h x → t ≡ test_of (width_of s key) (get_or ys i y) → now ≡ was ++ t ∷ [] → was ≡ map (tested s h) (take i (zip xs ys)) → now ≡ map (tested s h) (take (i + 1) (zip xs ys))
one_more s h xs ys i x y key t was now left right at of is put old =
    let within : i < length (zip xs ys) = rw (length-zip xs ys) (omega arith) in
    let here =
    is ∙ ap (λ (k : Named). test_of (width_of s k) (get_or ys i y)) (of ∙ ap (selected s h) at) ∙ ap (tested s h) (sym (get_or-zip xs ys i (x, y) left right)) in
    put ∙ ap₂ (λ (ts : List Test) (u : Test). ts ++ u ∷ []) old here ∙ sym (map_more (tested s h) (zip xs ys) i (x, y) within)

pub loop-number-preserved : goal.loop-number-preserved
loop-number-preserved g c =
    let s = g.N.Lookup.text c.args.names.now in
    let h = c.args.header.now in
    let i = c.loop-number.number in
    let x = c.index-select-number.result in
    let long : length c.as_slice-select.result.now ≡ length h.select = ap (λ (is : List Ident). length is) c.as_slice-select.ensures in
    let left : i < length h.select = grind arith in
    let right : i < length c.args.values.now = grind arith in
    let at = c.index-select-number.is ∙ ap (λ (is : List Ident). get_or is i x) c.as_slice-select.ensures in
    one_more s h h.select c.args.values.now i x _ _ _ _ _ left right at c.own_key-key.ensures c.test_at.ensures c.in_ok-push.ensures.items c.loop-number.invariant

pub returns : goal.returns
returns g c =
    let s = g.N.Lookup.text c.args.names.now in
    let h = c.args.header.now in
    let pairs = zip h.select c.args.values.now in
    let long : length c.as_slice-select.result.now ≡ length h.select = ap (λ (is : List Ident). length is) c.as_slice-select.ensures in
    let past : length pairs ≤ c.loop-number.number = rw (length-zip h.select c.args.values.now) (grind arith) in
    c.loop-number.invariant ∙ ap (map (tested s h)) (take_all c.loop-number.number pairs past)
