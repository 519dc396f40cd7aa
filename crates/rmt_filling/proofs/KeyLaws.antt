-- The widths of the fields of a key.
use Rattle.std.proofs.Common.{◌≡◌, ℕ, ◌<◌, ◌≤◌, List, [], ◌∷◌, length, map, get_or, sym, ap, ◌∙◌, arith}
use Rattle.std.specs.Prelude.{All, option_map, unwrap_or}
use Rattle.std.proofs.lemmas.List.Elements.{All-cons, All-head, All-nil, All-tail}
use Rattle.std.proofs.lemmas.Option.{get_or_from_slice_get}
use Rattle.rmt_bits.proofs.AllLaws.{All-slice_get}
use Rattle.rmt_bits.proofs.ListLaws.{slice_get-item}
use Rattle.rmt_filling.specs.Types.{Program, Field}
use Rattle.rmt_ast.specs.State.{width_of}
use Rattle.rmt_ast.specs.WellFormed.{IsProgram, IsWidth}

pub width_is : (p : Program) (xs : List Field) (f : ℕ) (x : Field) → xs ≡ p.fields → f < length p.fields → x ≡ get_or xs f x → x.width ≡ width_of p f
width_is p xs f x same within is =
    let y = slice_get-item p.fields f within in
    let found : x ≡ y.0 = is ∙ ap (λ ys. get_or ys f x) same ∙ get_or_from_slice_get p.fields f y.0 x y.1 in
    ap (λ (z : Field). z.width) found ∙ sym (ap (λ o. unwrap_or (option_map (λ (z : Field). z.width) o) 0) y.1)

pub widths_narrow : (p : Program) → IsProgram p → (fs : List ℕ) → All (λ f. f < length p.fields) fs → All (λ w. w ≤ 128) (map (width_of p) fs)
widths_narrow p good [] all = All-nil (λ w. w ≤ 128)
widths_narrow p good (f ∷ fs) all =
    let x = slice_get-item p.fields f (All-head (λ g. g < length p.fields) f fs all) in
    let same : width_of p f ≡ x.0.width = ap (λ o. unwrap_or (option_map (λ (z : Field). z.width) o) 0) x.1 in
    let most = (All-slice_get (λ (y : Field). IsWidth y.width) p.fields f x.0 good.fields.widths x.1).1 in
    All-cons (λ w. w ≤ 128) (width_of p f) (map (width_of p) fs) (omega (arith, same, most)) (widths_narrow p good fs (All-tail (λ g. g < length p.fields) f fs all))
