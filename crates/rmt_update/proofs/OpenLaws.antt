-- The first free one of some cells.
use Rattle.std.proofs.Common.{◌≡◌, ℕ, suc, ◌+◌, ◌-◌, ◌<◌, Bool, false, cond, List, [], ◌∷◌, Option, Some, None, drop, get_or, length, sum, refl, sym, ap, ◌∙◌, arith}
use Rattle.std.specs.Prelude.{All, find}
use Rattle.std.specs.BTreeSet.{BTreeSet}
use Rattle.std.specs.List.{AllZip, flat_map, range_with_len}
use Rattle.std.specs.Option.{option_or}
use Rattle.std.proofs.lemmas.List.{drop_more}
use Rattle.std.proofs.lemmas.List.Elements.{All-head, All-tail}
use Rattle.std.proofs.lemmas.List.Folds.{find-append}
use Rattle.rmt_bits.specs.Bits.{bytes_of}
use Rattle.rmt_ast.specs.NameRules.{terms_of_name}
use Rattle.rmt_ast.specs.declared.entry.Entry.{Entry}
use Rattle.rmt_config.specs.BlockCounts.{divided_up}
use Rattle.rmt_config.specs.Cells.{candidates}
use Rattle.rmt_config.specs.LaneForm.{bits_of_lanes}
use Rattle.rmt_config.specs.Rooms.{PartAt, key_number}
use Rattle.rmt_book.specs.declared.spots.Spot.{Spot}
use Rattle.rmt_book.specs.declared.table.PartCells.{PartCells}
use Rattle.rmt_book.specs.declared.table.TableCells.{TableCells}
use Rattle.rmt_update.specs.Loads.{HasShape}
use Rattle.rmt_update.specs.Open.{first_of, first_open, in_part, is_open}
use Rattle.rmt_book.specs.PartShape.{cells_for}
use Rattle.rmt_update.specs.Taking.{candidates_at, cells_of_parts}
use Rattle.rmt_update.proofs.PutRows.{keys-are}
use Rattle.rmt_book.proofs.ShapeLaws.{cells-told}

-- ---- the cells from one on to below another

-- the first is apart
range-apart : (a b : ℕ) → a < b → range_with_len a (b - a) ≡ a ∷ range_with_len (a + 1) (b - (a + 1))
range-apart a b lt = let more : b - a ≡ suc (b - (a + 1)) = omega (arith, lt) in ap (range_with_len a) more

module _ (p : ℕ → Bool) (a b : ℕ) (lt : a < b) (o : Option ℕ) (so_far : find p (range_with_len a (b - a)) ≡ o) where
  apart : find p (range_with_len a (b - a)) ≡ cond (p a) (Some a) (find p (range_with_len (a + 1) (b - (a + 1))))
  apart = ap (find p) (range-apart a b lt)

  -- one that isn't free is passed over
  pub cell-past : p a ≡ false → find p (range_with_len (a + 1) (b - (a + 1))) ≡ o
  cell-past other = sym (apart ∙ ap (λ f. cond f (Some a) (find p (range_with_len (a + 1) (b - (a + 1))))) other) ∙ so_far

-- ---- the rows in the ways from one on to below another

module _ (p : ℕ → Bool) (row : ℕ → List ℕ) (a b : ℕ) (lt : a < b) (o : Option ℕ) (so_far : find p (flat_map row (range_with_len a (b - a))) ≡ o) where
  abbrev rest : List ℕ
  rest = flat_map row (range_with_len (a + 1) (b - (a + 1)))

  row-apart : find p (flat_map row (range_with_len a (b - a))) ≡ option_or (find p (row a)) (find p rest)
  row-apart = ap (λ ns. find p (flat_map row ns)) (range-apart a b lt) ∙ find-append p (row a) rest

  -- a row with no free cell is passed over
  pub way-past : find p (row a) ≡ None → find p (flat_map row (range_with_len (a + 1) (b - (a + 1)))) ≡ o
  way-past none = sym (row-apart ∙ ap (λ q. option_or q (find p rest)) none) ∙ so_far

  -- and else its first is the answer
  pub way-here : (cell : ℕ) → find p (row a) ≡ Some cell → Some cell ≡ o
  way-here cell here = sym (row-apart ∙ ap (λ q. option_or q (find p rest)) here) ∙ so_far

-- ---- the parts

-- a part with no free one is passed over, and else its first is the answer
module _ (odd : Bool) (seed : ℕ) (key : List ℕ) (ps : List PartCells) (gs : List (BTreeSet ℕ)) (i : ℕ) (p : PartCells) (g : BTreeSet ℕ)
    (in_ps : i < length ps) (in_gs : i < length gs)
    (so_far : first_open odd i (drop i ps) (drop i gs) (cells_of_parts seed key (drop i ps)) ≡ first_open odd 0 ps gs (cells_of_parts seed key ps)) where
  abbrev own : Option ℕ
  own = find (is_open odd (get_or ps i p) (get_or gs i g)) (cells_for seed key (get_or ps i p).shape.grid)

  abbrev behind : Option Spot
  behind = first_open odd (i + 1) (drop (i + 1) ps) (drop (i + 1) gs) (cells_of_parts seed key (drop (i + 1) ps))

  opened : first_open odd i (drop i ps) (drop i gs) (cells_of_parts seed key (drop i ps)) ≡ first_of (in_part i own) behind
  opened =
      ap (λ xs. first_open odd i xs (drop i gs) (cells_of_parts seed key xs)) (drop_more ps i p in_ps)
      ∙ ap (λ xs. first_open odd i (get_or ps i p ∷ drop (i + 1) ps) xs (cells_of_parts seed key (get_or ps i p ∷ drop (i + 1) ps))) (drop_more gs i g in_gs)

  pub part-here : (cell : ℕ) → find (is_open odd (get_or ps i p) (get_or gs i g)) (cells_for seed key (get_or ps i p).shape.grid) ≡ Some cell
      → Some (record { part = i; cell = cell }) ≡ first_open odd 0 ps gs (cells_of_parts seed key ps)
  part-here cell here = sym (opened ∙ ap (λ o. first_of (in_part i o) behind) here) ∙ so_far

-- the cells of each part are the candidates of the key that has these bytes
cells-each : (seed number : ℕ) (key : List ℕ) (ps : List PartAt) (xs : List PartCells) → AllZip HasShape ps xs → All (λ (p : PartAt). key ≡ bytes_of (divided_up (bits_of_lanes p.slot.keys) 8) number) ps
    → cells_of_parts seed key xs ≡ candidates_at seed number ps
cells-each seed number key [] [] zip told = refl
cells-each seed number key [] (x ∷ xs) zip told = absurd zip
cells-each seed number key (p ∷ ps) [] zip told = absurd zip
cells-each seed number key (p ∷ ps) (x ∷ xs) zip told =
    let HasKey : PartAt → Type 0 = λ q. key ≡ bytes_of (divided_up (bits_of_lanes q.slot.keys) 8) number in
    ap (λ cs. cs ∷ cells_of_parts seed key xs) (cells-told seed number p.slot x.shape key zip.0 (All-head HasKey p ps told))
    ∙ ap (λ css. candidates seed (bits_of_lanes p.slot.keys) p.slot.memory number ∷ css) (cells-each seed number key ps xs zip.1 (All-tail HasKey p ps told))

-- what is found among them is the first free one of the candidates of an entry
pub first-candidate : (odd : Bool) (seed : ℕ) (t : TableCells) (e : Entry) (xs : List PartCells) (gs old : List (BTreeSet ℕ)) (key : List ℕ) (spot : Option Spot) → xs ≡ t.parts.items → gs ≡ old
    → key ≡ bytes_of (divided_up (sum t.name.keys) 8) (key_number (terms_of_name t.name) e) → spot ≡ first_open odd 0 xs gs (cells_of_parts seed key xs)
    → (ps : List PartAt) → AllZip HasShape ps t.parts.items → All (λ (p : PartAt). bits_of_lanes p.slot.keys ≡ sum t.name.keys) ps
    → spot ≡ first_open odd 0 t.parts.items old (candidates_at seed (key_number (terms_of_name t.name) e) ps)
first-candidate odd seed t e xs gs old key spot parts given told is ps zip own =
    is ∙ ap (λ ys. first_open odd 0 ys gs (cells_of_parts seed key ys)) parts ∙ ap (λ hs. first_open odd 0 t.parts.items hs (cells_of_parts seed key t.parts.items)) given
    ∙ ap (first_open odd 0 t.parts.items old)
    (cells-each seed (key_number (terms_of_name t.name) e) key ps t.parts.items zip (keys-are ps (sum t.name.keys) key (key_number (terms_of_name t.name) e) told own))
