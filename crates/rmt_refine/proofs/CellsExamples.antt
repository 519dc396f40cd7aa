-- The program on two stages: the cells of the configuration hold its entries.
use Rattle.std.proofs.Common.{◌≡◌, ◌≢◌, ℕ, zero, suc, ◌<◌, true, List, [], ◌∷◌, Some, map, refl, sym, ◌∙◌, subst, inl, inr, arith}
use Rattle.std.specs.Prelude.{All, Contains, IsSomeAnd, slice_get}
use Rattle.std.proofs.lemmas.List.Elements.{All-nil, All-contains}
use Rattle.std.proofs.lemmas.Option.{none-some, same_Some}
use Rattle.rmt_bits.specs.Bits.{slice}
use Rattle.rmt_refine.specs.Types.{Table, Stage}
use Rattle.rmt_ast.specs.declared.program.Kind.TheVariants.{Ternary}
use Rattle.rmt_ast.specs.declared.entry.Entry.{Entry}
use Rattle.rmt_ast.specs.RowOrder.{goes_first}
use Rattle.rmt_ast.specs.State.{width_of}
use Rattle.rmt_ast.proofs.WellFormedLemmas.{AreDistinct-from_apart}
use Rattle.rmt_config.specs.Instructions.{first_code}
use Rattle.rmt_config.specs.Cells.{is_seen}
use Rattle.rmt_refine.specs.declared.map.CellOf.{CellOf}
use Rattle.rmt_refine.specs.View.{own_content, own_number, own_view}
use Rattle.rmt_config.specs.Rooms.{tests_as_one}
use Rattle.rmt_refine.specs.Cells.{CellsCarried, HoldsEntry, IsBefore, IsCandidate, IsSpotOf, IsTold, Spot, TableCellsCarried}
use Rattle.rmt_config.specs.Effects.{HasArguments}
use Rattle.rmt_refine.specs.Units.{table_at}
use Rattle.rmt_refine.proofs.CellLaws.{carried_from}
use Rattle.rmt_pack.proofs.FindLaws.{Contains-range}
use Rattle.rmt_refine.proofs.CellNumberLaws.{cells_listed}
use Rattle.rmt_refine.proofs.MemoryExamples.{first_holds, second_holds}
use Rattle.rmt_refine.proofs.ListedLaws.{never, three}
use Rattle.rmt_refine.proofs.TwoStages.{back, cells, config, entries, first_line, first_stage, lists, lowest_last, note, ports, program, second_line, second_stage}
use Rattle.rmt_bits.proofs.MemberLaws.{Contains-split}

-- ---- cells

abbrev Told : ℕ → ℕ → ℕ → Type 0
Told k place n = (e : Entry) × Contains entries e × IsTold cells e (record { stage = k; place = place; cell = n })

-- no cell of the first part is seen but the two that it lists
first_only : (n : ℕ) → n < 2048 → is_seen (own_content config 0 1 n).head ≡ true → Told 0 1 n
first_only n lt seen = elim (Contains-split 0 (1 ∷ []) n ((cells_listed 3 first_stage 1 _ first_holds).others n lt seen)) [
  | inl e ↦ subst (Told 0 1) e (first_line, (1, omega arith, refl), (1, omega arith, refl))
  | inr later ↦ elim (Contains-split 1 [] n later) [
    | inl e ↦ subst (Told 0 1) e (second_line, (2, omega arith, refl), (2, omega arith, refl))
    | inr more ↦ absurd (let none = more.1 in omega (arith, none))
  ]
]

-- and of the second one but the one
second_only : (n : ℕ) → n < 2048 → is_seen (own_content config 1 0 n).head ≡ true → Told 1 0 n
second_only n lt seen = elim (Contains-split 0 [] n ((cells_listed 3 second_stage 0 _ second_holds).others n lt seen)) [
  | inl e ↦ subst (Told 1 0) e (lowest_last, (0, omega arith, refl), (0, omega arith, refl))
  | inr more ↦ absurd (let none = more.1 in omega (arith, none))
]

-- the place of the part in each stage
abbrev own_place : ℕ → ℕ
own_place zero = 1
own_place (suc k) = 0

abbrev spot : ℕ → ℕ → Spot
spot k n = record { stage = k; place = own_place k; cell = n }

only_there : (k place n : ℕ) → IsSpotOf config 1 (record { stage = k; place = place; cell = n }) → (place ≡ own_place k) × (is_seen (own_content config k place n).head ≡ true → Told k place n)
only_there zero zero n is = absurd (let e = is.0 in omega (arith, e))
only_there zero (suc zero) n is = (refl, first_only n is.1)
only_there zero (suc (suc place)) n is = absurd is
only_there (suc zero) zero n is = (refl, second_only n is.1)
only_there (suc zero) (suc zero) n is = absurd (let e = is.0 in omega (arith, e))
only_there (suc zero) (suc (suc place)) n is = absurd is
only_there (suc (suc k)) place n is = absurd is

-- where an entry stands, by its number
abbrev spot_of : ℕ → Spot
spot_of zero = spot 1 0
spot_of (suc n) = spot 0 n

each_entry : (P : Entry → Type 0) → P lowest_last → P first_line → P second_line → All P entries
each_entry P a b c = three P lowest_last first_line second_line a b c

abbrev IsTheirs : CellOf → Type 0
IsTheirs x = ◌≡◌ {A = Spot} (spot x.stage x.cell) (spot_of x.entry)

told_spot : All IsTheirs cells
told_spot = three IsTheirs _ _ _ refl refl refl

moved : (at : Spot) → at.place ≡ own_place at.stage → ◌≡◌ {A = Spot} at (spot at.stage at.cell)
moved at e = λ i. record { stage = at.stage; place = e i; cell = at.cell }

-- an argument of 9 bits alone is the whole data
one_argument : (port : ℕ) → slice port 0 9 ≡ port → HasArguments (9 ∷ []) (port ∷ []) port
one_argument port e zero w some = subst (λ len. slice port 0 len ≡ port) (same_Some 9 w some) e
one_argument port e (suc i) w some = absurd (none-some w some)

abbrev Stands : Entry → Type 0
Stands e =
    (stage : Stage) → slice_get config.stages (spot_of e.number).stage ≡ Some stage
    → HoldsEntry program ports (8 ∷ []) (first_code stage (spot_of e.number).place) e
    (own_number config (spot_of e.number).stage (spot_of e.number).place (spot_of e.number).cell)
    (own_content config (spot_of e.number).stage (spot_of e.number).place (spot_of e.number).cell)

abbrev Comes : Entry → Entry → Type 0
Comes e f = goes_first Ternary e f ≡ true → IsBefore (spot_of e.number) (spot_of f.number)

lowest_stands : Stands lowest_last
lowest_stands stage at =
    subst (λ st. HoldsEntry program ports (8 ∷ []) (first_code st 0) lowest_last (own_number config 1 0 0) (own_content config 1 0 0)) (same_Some second_stage stage at)
    (record { seen = refl; code = refl; key = refl; mask = refl; held = one_argument 1 refl; number_is = refl })

first_stands : Stands first_line
first_stands stage at =
    subst (λ st. HoldsEntry program ports (8 ∷ []) (first_code st 1) first_line (own_number config 0 1 0) (own_content config 0 1 0)) (same_Some first_stage stage at)
    (record { seen = refl; code = refl; key = refl; mask = refl; held = one_argument 2 refl; number_is = refl })

second_stands : Stands second_line
second_stands stage at =
    subst (λ st. HoldsEntry program ports (8 ∷ []) (first_code st 1) second_line (own_number config 0 1 1) (own_content config 0 1 1)) (same_Some first_stage stage at)
    (record { seen = refl; code = refl; key = refl; mask = refl; held = one_argument 3 refl; number_is = refl })

pub ports_cells : TableCellsCarried program config (own_view config) cells 1 ports (8 ∷ []) entries
ports_cells = carried_from program config (own_view config) cells 1 ports (8 ∷ []) entries (λ e. spot_of e.number) (record {
  only = λ at is seen. (only_there at.stage at.place at.cell is).1 seen;
  spots = each_entry (λ e. IsSpotOf config 1 (spot_of e.number)) (refl, omega arith) (refl, omega arith) (refl, omega arith);
  told = each_entry (λ e. IsTold cells e (spot_of e.number)) (0, omega arith, refl) (1, omega arith, refl) (2, omega arith, refl);
  one = λ e at there is told.
      moved at (only_there at.stage at.place at.cell is).0
      ∙ All-contains IsTheirs cells (record { entry = e.number; stage = at.stage; cell = at.cell }) told_spot told;
  holds = each_entry Stands lowest_stands first_stands second_stands;
  candidate = each_entry (λ e. IsCandidate config (own_view config) (tests_as_one (λ u. u.value) (8 ∷ []) e.tests) (spot_of e.number))
      (Contains-range 2048 0 (omega arith)) (Contains-range 2048 0 (omega arith)) (Contains-range 2048 1 (omega arith));
  order = each_entry (λ e. All (Comes e) entries)
      (each_entry (Comes lowest_last) (λ h. never h) (λ h. never h) (λ h. never h))
      (each_entry (Comes first_line) (λ h. inl (omega arith)) (λ h. never h) (λ h. inr (refl, omega arith)))
      (each_entry (Comes second_line) (λ h. inl (omega arith)) (λ h. never h) (λ h. never h));
})

-- a table without a key has no cell
no_cells : (n : ℕ) (t : Table) (widths : List ℕ) → ((at : Spot) → IsSpotOf config n at → ⊥) → TableCellsCarried program config (own_view config) cells n t widths []
no_cells n t widths none = record {
  only = λ at is seen. absurd (none at is);
  each = All-nil (λ e. (at : Spot) × IsSpotOf config n at × IsTold cells e at);
  one = λ e a b there is_a is_b told_a told_b. absurd (none a is_a);
  holds = λ e at stage there is told at_stage. absurd (none at is);
  candidate = λ e at there is told. absurd (none at is);
  order = λ e f a b there_e there_f is_a is_b told_a told_b before. absurd (none a is_a);
}

no_spot : (node : ℕ) → node ≢ 1 → (k place n : ℕ) → IsSpotOf config node (record { stage = k; place = place; cell = n }) → ⊥
no_spot node other zero zero n is = let lt = is.1 in omega (arith, lt)
no_spot node other zero (suc zero) n is = other (sym is.0)
no_spot node other zero (suc (suc place)) n is = is
no_spot node other (suc zero) zero n is = other (sym is.0)
no_spot node other (suc zero) (suc zero) n is = let lt = is.1 in omega (arith, lt)
no_spot node other (suc zero) (suc (suc place)) n is = is
no_spot node other (suc (suc k)) place n is = is

abbrev OwnCells : ℕ → Table → List Entry → Type 0
OwnCells n t es = TableCellsCarried program config (own_view config) cells n t (map (width_of program) t.key) es

of_table : (n : ℕ) (t u : Table) (es fs : List Entry) → Some t ≡ Some u → Some es ≡ Some fs → OwnCells n t es → OwnCells n u fs
of_table n t u es fs same_t same_es own = subst (λ x. OwnCells n x fs) (same_Some t u same_t) (subst (OwnCells n t) (same_Some es fs same_es) own)

table_cells : (n : ℕ) (t : Table) (es : List Entry) → table_at program n ≡ Some t → slice_get lists n ≡ Some es → OwnCells n t es
table_cells zero t es at list = of_table 0 note t [] es at list (no_cells 0 note [] (λ spot is. no_spot 0 (λ e. omega (arith, e)) spot.stage spot.place spot.cell is))
table_cells (suc zero) t es at list = of_table 1 ports t entries es at list ports_cells
table_cells (suc (suc zero)) t es at list = of_table 2 back t [] es at list (no_cells 2 back [] (λ spot is. no_spot 2 (λ e. omega (arith, e)) spot.stage spot.place spot.cell is))
table_cells (suc (suc (suc n))) t es at list = absurd (none-some t at)

abbrev OfSome : CellOf → Type 0
OfSome x =
    (n : ℕ) × (e : Entry) × (place : ℕ) × IsSomeAnd (slice_get lists n) (λ es. Contains es e) × (e.number ≡ x.entry)
    × IsSpotOf config n (record { stage = x.stage; place = place; cell = x.cell })

pub cells_carried : CellsCarried program config (own_view config) cells lists
cells_carried = record {
  tables = table_cells;
  once = AreDistinct-from_apart (λ (x : CellOf). x.entry) cells refl;
  no_other = three OfSome _ _ _ (1, lowest_last, 0, (0, omega arith, refl), refl, (refl, omega arith))
      (1, first_line, 1, (1, omega arith, refl), refl, (refl, omega arith)) (1, second_line, 1, (2, omega arith, refl), refl, (refl, omega arith));
}
