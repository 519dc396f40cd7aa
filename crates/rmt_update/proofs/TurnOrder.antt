-- Changed cells turn one after another, in whatever order.
use Rattle.std.proofs.Common.{◌≡◌, Bool, true, false, cond, List, [], ◌∷◌, ◌++◌, map, Option, refl, sym, ap, ◌∙◌, subst}
use Rattle.std.specs.Prelude.{All, AllPairs, reverse}
use Rattle.std.specs.List.Sorted.{IsStrictlySortedBy}
use Rattle.std.specs.Map.{keys_of}
use Rattle.std.specs.declared.cmp.Ordering.TheVariants.{Less, Equal}
use Rattle.std.proofs.lemmas.Bool.{false_from_ne_true}
use Rattle.std.proofs.lemmas.Cmp.{tied_itself}
use Rattle.std.proofs.lemmas.List.{map-append, reverse-append}
use Rattle.std.proofs.lemmas.List.Elements.{All-cons, All-head, All-nil, All-tail, All-weaker}
use Rattle.std.proofs.lemmas.List.Kept.{AllPairs-cons}
use Rattle.std.proofs.lemmas.Map.Keys.{sorted_tail}
use Rattle.std.proofs.lemmas.Map.Views.{All-after_first}
use Rattle.std.proofs.lemmas.Option.{same_Some}
use Rattle.rmt_bits.proofs.PairLaws.{AllPairs-head, AllPairs-none, AllPairs-tail}
use Rattle.rmt_update.specs.declared.book.changing.CellChange.{CellChange}
use Rattle.rmt_book.specs.declared.kept.Kept.{Kept}
use Rattle.rmt_book.specs.declared.spot.BookSpot.{BookSpot}
use Rattle.rmt_book.specs.declared.table.TableCells.{TableCells}
use Rattle.rmt_book.specs.BookSpots.{kept_at}
use Rattle.rmt_update.specs.Changing.{ChangeKey, key_cmp}
use Rattle.rmt_update.specs.Differences.{Changes}
use Rattle.rmt_update.specs.TurnWrites.{IsOfTables, cell_turn, key_in}
use Rattle.rmt_update.specs.Turning.{HaveCells, TablesWith, is_spot, part_of, turned, turned_by}
use Rattle.rmt_update.proofs.EnteringLaws.{tables-itself, tables-on, turned-append}
use Rattle.rmt_update.proofs.KeyedLaws.{key-total}
use Rattle.rmt_update.proofs.NextCells.{none-turn}
use Rattle.rmt_update.proofs.SettledPlaces.{same-spot}

-- a later one stands elsewhere
abbrev IsApart : ChangeKey × CellChange → ChangeKey × CellChange → Type 0
IsApart x y = is_spot y.1.spot x.1.spot ≡ false

-- changed cells by their keys are apart
module _ (ts : List TableCells) where
  apart : (x y : ChangeKey × CellChange) → IsOfTables ts x → IsOfTables ts y → key_cmp x.0 y.0 ≡ Less → IsApart x y
  apart x y own_x own_y less = false_from_ne_true (is_spot y.1.spot x.1.spot) (λ same.
      let one : y.1.spot ≡ x.1.spot = same-spot y.1.spot x.1.spot same in
      let two : own_y.0 ≡ own_x.0 = same_Some own_y.0 own_x.0 (sym own_y.1 ∙ ap (part_of ts) one ∙ own_x.1) in
      let key : y.0 ≡ x.0 = own_y.2 ∙ ap (λ p. key_in p y.1.spot) two ∙ ap (key_in own_x.0) one ∙ sym own_x.2 in
      differ (sym (sym (ap (key_cmp x.0) key) ∙ less) ∙ tied_itself key-total x.0))
    where
      differ : Less ≡ Equal → ⊥
      differ e = cc

  all-apart : (x : ChangeKey × CellChange) (es : Changes) → IsOfTables ts x → All (IsOfTables ts) es → All (λ q. key_cmp x.0 q ≡ Less) (keys_of es) → All (IsApart x) es
  all-apart x [] own all less = All-nil (IsApart x)
  all-apart x (e ∷ es) own all less =
      All-cons (IsApart x) e es (apart x e own (All-head (IsOfTables ts) e es all) (All-head (λ q. key_cmp x.0 q ≡ Less) e.0 (keys_of es) less))
      (all-apart x es own (All-tail (IsOfTables ts) e es all) (All-tail (λ q. key_cmp x.0 q ≡ Less) e.0 (keys_of es) less))

  pub spots-apart : (es : Changes) → IsStrictlySortedBy key_cmp (keys_of es) → All (IsOfTables ts) es → AllPairs IsApart es
  spots-apart [] sorted all = AllPairs-none IsApart
  spots-apart (e ∷ es) sorted all =
      AllPairs-cons IsApart e es (all-apart e es (All-head (IsOfTables ts) e es all) (All-tail (IsOfTables ts) e es all) (All-after_first key_cmp e.0 (keys_of es) sorted))
      (spots-apart es (sorted_tail key_cmp e.0 (keys_of es) sorted) (All-tail (IsOfTables ts) e es all))

-- those that are apart may turn from either end on
pub turned-reverse : (es : Changes) → AllPairs IsApart es → (s : BookSpot) (o : Option Kept) → turned (map cell_turn (reverse es)) s o ≡ turned (map cell_turn es) s o
turned-reverse [] pairs s o = refl
turned-reverse (e ∷ es) pairs s o =
    ap (λ xs. turned xs s o) (ap (map cell_turn) (reverse-append (e ∷ []) es) ∙ map-append cell_turn (reverse es) (e ∷ [])) ∙ turned-append (map cell_turn (reverse es)) (cell_turn e ∷ []) s o
    ∙ turned-reverse es (AllPairs-tail IsApart e es pairs) s (cond (is_spot e.1.spot s) (turned_by (cell_turn e).turn o) o) ∙ by (is_spot e.1.spot s) refl
  where
    elsewhere : is_spot e.1.spot s ≡ true → All (λ (x : ChangeKey × CellChange). is_spot x.1.spot s ≡ false) es
    elsewhere here =
        All-weaker (IsApart e) (λ (x : ChangeKey × CellChange). is_spot x.1.spot s ≡ false) (λ x h. subst (λ (z : BookSpot). is_spot x.1.spot z ≡ false) (same-spot e.1.spot s here) h) es
        (AllPairs-head IsApart e es pairs)

    by : (b : Bool) → is_spot e.1.spot s ≡ b → turned (map cell_turn es) s (cond b (turned_by (cell_turn e).turn o) o) ≡ cond b (turned_by (cell_turn e).turn (turned (map cell_turn es) s o)) (turned (map cell_turn es) s o)
    by true here = none-turn s (turned_by (cell_turn e).turn o) es (elsewhere here) ∙ sym (ap (turned_by (cell_turn e).turn) (none-turn s o es (elsewhere here)))
    by false there = refl

-- none has turned, and one more turns
pub none-turned : (ts : List TableCells) → HaveCells ts ts (λ s. turned (map cell_turn (reverse [])) s (kept_at ts s))
none-turned ts = record { same = tables-itself ts; each = λ s. refl }

pub turn-more : (ts us vs : List TableCells) (xs : Changes) (x : ChangeKey × CellChange) → HaveCells ts us (λ s. turned (map cell_turn (reverse xs)) s (kept_at ts s)) → TablesWith x.1.spot (turned_by (cell_turn x).turn) us vs
    → HaveCells ts vs (λ s. turned (map cell_turn (reverse (xs ++ x ∷ []))) s (kept_at ts s))
turn-more ts us vs xs x before put = record {
  same = tables-on ts us vs before.same put.same;
  each = λ s. put.each s ∙ ap (λ o. cond (is_spot x.1.spot s) (turned_by (cell_turn x).turn o) o) (before.each s)
      ∙ ap (λ (ys : Changes). turned (map cell_turn ys) s (kept_at ts s)) (sym (reverse-append xs (x ∷ [])));
}
