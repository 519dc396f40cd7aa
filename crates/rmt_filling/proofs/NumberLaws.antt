-- The numbers of the entries that stand, one more.
use Rattle.std.proofs.Common.{◌≡◌, ℕ, ◌+◌, ◌<◌, List, [], ◌∷◌, ◌++◌, Some, length, map, get_or, take, refl, sym, ap, ◌∙◌}
use Rattle.std.specs.Prelude.{Option, option_map, slice_get, unwrap_or}
use Rattle.std.proofs.lemmas.List.{map_more}
use Rattle.std.proofs.lemmas.Option.{slice_get_read}
use Rattle.rmt_ast.specs.declared.entry.Entry.{Entry}
use Rattle.rmt_filling.specs.Types.{CellNumber}
use Rattle.rmt_filling.specs.declared.stands.Stand.{Stand}
use Rattle.rmt_filling.specs.Numbers.{number_at}

pub number_step : (es : List Entry) (stands : List Stand) (i : ℕ) (d : Stand) (e : Entry) (numbers more : List CellNumber) → i < length stands → (get_or stands i d).entry < length es
    → e ≡ get_or es (get_or stands i d).entry e → numbers ≡ map (number_at es) (take i stands)
    → more ≡ numbers ++ (record { cell = (get_or stands i d).cell; number = (get_or es (get_or stands i d).entry e).number }) ∷ [] → more ≡ map (number_at es) (take (i + 1) stands)
number_step es stands i d e numbers more lt there at so_far pushed =
    let s = get_or stands i d in
    let item : slice_get es s.entry ≡ Some e = slice_get_read es (length es) s.entry e refl there at in
    let own : number_at es s ≡ record { cell = s.cell; number = e.number } =
    ap (λ (o : Option Entry). record { cell = s.cell; number = unwrap_or (option_map (λ (x : Entry). x.number) o) 0 }) item in
    pushed ∙ (ap (λ (x : Entry). numbers ++ (record { cell = s.cell; number = x.number }) ∷ []) (sym at)
    ∙ (ap (λ xs. xs ++ (record { cell = s.cell; number = e.number }) ∷ []) so_far
    ∙ (ap (λ (x : CellNumber). map (number_at es) (take i stands) ++ x ∷ []) (sym own) ∙ sym (map_more (number_at es) stands i d lt))))
