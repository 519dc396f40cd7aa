-- The parts of a configuration that is built by a plan hold the entries that the names of the program tell.
use Rattle.std.proofs.Common.{◌≡◌, ℕ, ◌≤◌, ◌∙◌, Bool, true, ◌&&◌, ◌==◌, List, Some, length, map, get_or, refl, sym, ap, subst, ◌⊎◌, inl, inr, arith}
use Rattle.std.specs.Prelude.{All, is_some, nat_le, slice_get, sum}
use Rattle.std.specs.List.{flat_map, list_all, list_any}
use Rattle.std.proofs.lemmas.Bool.{eq-eqb, le-leb}
use Rattle.std.proofs.lemmas.List.Elements.{All-weaker}
use Rattle.std.proofs.lemmas.List.Folds.{list_all-map}
use Rattle.std.proofs.lemmas.List.Sums.{list_all-from_AllPass}
use Rattle.std.proofs.lemmas.Option.{get_or_from_slice_get}
use Rattle.std.proofs.lemmas.Slice.Eq.{bytes_eq-Decides}
use Rattle.rmt_bits.proofs.ListLaws.{slice_get-alike}
use Rattle.rmt_bits.proofs.MemberLaws.{list_any-Contains}
use Rattle.rmt_bits.proofs.TestLaws.{all_three}
use Rattle.rmt_ast.specs.declared.entry.Entry.{Entry}
use Rattle.rmt_ast.specs.declared.names.RankOf.{RankOf}
use Rattle.rmt_ast.specs.declared.names.TableName.{TableName}
use Rattle.rmt_ast.specs.declared.program.Kind.TheVariants.{Keyless, Exact, Prefix, Ternary}
use Rattle.rmt_ast.specs.EntryLists.{AreEntries, AreTableEntries, terms_of}
use Rattle.rmt_ast.specs.Naming.{names_of, ranks_of, table_named}
use Rattle.rmt_ast.specs.State.{width_of}
use Rattle.rmt_ast.specs.WellFormed.{IsProgram}
use Rattle.rmt_config.specs.Cells.{candidates}
use Rattle.rmt_config.specs.LaneForm.{bits_of_lanes}
use Rattle.rmt_config.specs.NamesForm.{each_part, entries_by_cell, entry_in, has_entries, has_keys_once, has_masks, has_order, has_ranks, held_by, is_filled_so, prefix_length, stands_in_candidates}
use Rattle.rmt_config.specs.Rooms.{PartAt, parts_of, tests_as_one}
use Rattle.rmt_refine.specs.Units.{UnitsCarried, table_at}
use Rattle.rmt_refine.proofs.TheLaw.{table_entries}
use Rattle.rmt_build.specs.Types.{CellNumber, Config, Kind, Program, Stage, Table, Test}
use Rattle.rmt_filling.specs.declared.plan.Plan.{Plan}
use Rattle.rmt_filling.specs.declared.stands.Stand.{Stand}
use Rattle.rmt_build.specs.BuiltStage.{IsBuiltStage}
use Rattle.rmt_filling.specs.EntryCells.{StandInOrder, StandOnce}
use Rattle.rmt_filling.specs.Numbers.{number_at}
use Rattle.rmt_build.specs.Plans.{AreStands, stands_of_part}
use Rattle.rmt_build.specs.Promises.{HasRows}
use Rattle.rmt_build.specs.Told.{cells_told}
use Rattle.rmt_build.proofs.NamesFilledOrder.{as_many, as_they_stand, entry_at, keys_stand_once, no_entry, ranks_tell, rows_go_first}
use Rattle.rmt_build.proofs.NamesListed.{each_holds, each_may_stand, listed, numbers_are}
use Rattle.rmt_build.proofs.NamesListedParts.{IsPartOf, each_is_part}
use Rattle.rmt_refine.proofs.SpelledEntryLaws.{entry_spelled, prefix_spelled}
use Rattle.rmt_build.proofs.NamesTold.{all_told}
use Rattle.rmt_build.proofs.TableLaws.{AreInRows, AreLoaded}

all_four : (a b c d : Bool) → a ≡ true → b ≡ true → c ≡ true → d ≡ true → (a && b && c && d) ≡ true
all_four a b c d is_a is_b is_c is_d =
    ap (λ x. x && b && c && d) is_a ∙ ap (λ x. true && x && c && d) is_b ∙ ap (λ x. true && true && x && d) is_c ∙ ap (λ x. true && true && true && x) is_d

module _ (p : Program) (lists : List (List Entry)) (plan : Plan) (c : Config) (program : IsProgram p) (entries : AreEntries p lists)
    (units : UnitsCarried p plan.places plan.placement.parts plan.starts c) (stands : AreStands p lists plan.placement.parts plan.stands)
    (built : (k : ℕ) (stage : Stage) → slice_get c.stages k ≡ Some stage → IsBuiltStage p lists plan k stage)
    (loaded : AreLoaded p lists plan c (cells_told (length p.nodes) c.stages) entries units stands built refl)
    (in_rows : AreInRows p lists plan c (cells_told (length p.nodes) c.stages) entries units stands built refl) where
  module _ (n : ℕ) (t : Table) (es : List Entry) (own : List Stand) (table_is : table_at p n ≡ Some t) (es_are : slice_get lists n ≡ Some es) (own_is : slice_get plan.stands n ≡ Some own) where
    abbrev named : TableName
    named = table_named p n es t

    once : StandOnce (length es) own
    once = stands.each n es own es_are own_is

    are : AreTableEntries n es (terms_of p t)
    are = table_entries p lists n t es entries table_is es_are

    -- the cells of the parts spell the entries as they stand
    pub spelled : entries_by_cell c named ≡ as_they_stand es own
    spelled =
        listed p lists plan c entries units stands built n t es own table_is es_are own_is (entry_in c named) (entry_at es) (λ part is i d lt.
        (let s = get_or (stands_of_part p plan t n part.stage) i d in
        let h = each_holds p lists plan c entries units stands built n t es own table_is es_are own_is part is i d lt in
        entry_spelled p lists program entries n t es table_is es_are s.entry h.entry h.is part.first h.entry.number (held_by c part (number_at es s)) h.holds c part (number_at es s) refl refl h.number_is
        ∙ sym (get_or_from_slice_get es s.entry h.entry no_entry h.is)))

    -- their numbers are listed so
    numbers : flat_map (λ (part : PartAt). map (λ (x : CellNumber). x.number) part.slot.numbers) (parts_of c n) ≡ map (λ (s : Stand). (entry_at es s.entry).number) own
    numbers =
        listed p lists plan c entries units stands built n t es own table_is es_are own_is (λ part x. x.number) (λ i. (entry_at es i).number) (λ part is i d lt.
        (let s = get_or (stands_of_part p plan t n part.stage) i d in
        let h = each_holds p lists plan c entries units stands built n t es own table_is es_are own_is part is i d lt in
        h.number_is ∙ sym (ap (λ (e : Entry). e.number) (get_or_from_slice_get es s.entry h.entry no_entry h.is))))

    -- a rule of each cell that is listed
    each_cell : (rule : PartAt → CellNumber → Bool) → ((part : PartAt) → IsPartOf c n part → All (λ (s : Stand). rule part (number_at es s) ≡ true) (stands_of_part p plan t n part.stage))
        → each_part c (λ (part : PartAt). list_all (rule part) part.slot.numbers) named ≡ true
    each_cell rule each =
        list_all-from_AllPass (λ (part : PartAt). list_all (rule part) part.slot.numbers) (parts_of c n)
        (All-weaker (IsPartOf c n) (λ (part : PartAt). list_all (rule part) part.slot.numbers ≡ true)
        (λ part is.
        ap (list_all (rule part)) (numbers_are p lists plan c entries units stands built n t es own table_is es_are own_is part is)
        ∙ list_all-map (rule part) (number_at es) (stands_of_part p plan t n part.stage)
        ∙ list_all-from_AllPass (λ (s : Stand). rule part (number_at es s)) (stands_of_part p plan t n part.stage) (each part is))
        (parts_of c n) (each_is_part p lists plan c entries units stands built n t table_is))

    masks : (kind : Kind) → t.kind ≡ kind → has_masks c kind named ≡ true
    masks Keyless is_kind = refl
    masks Exact is_kind = refl
    masks Prefix is_kind =
        each_cell (λ part x. is_some (prefix_length (sum named.keys) (held_by c part x).mask)) (λ part is i d lt.
        (let s = get_or (stands_of_part p plan t n part.stage) i d in
        let h = each_holds p lists plan c entries units stands built n t es own table_is es_are own_is part is i d lt in
        prefix_spelled p lists program entries n t es table_is es_are s.entry h.entry h.is part.first h.entry.number (held_by c part (number_at es s)) h.holds is_kind))
    masks Ternary is_kind = refl

    in_order : (kind : Kind) → t.kind ≡ kind → HasRows kind → StandInOrder kind es own
    in_order kind is_kind has =
        subst (λ k. StandInOrder k es own) is_kind (in_rows n t es own table_is (subst HasRows (sym is_kind) has) es_are own_is)

    ranks : (kind : Kind) → t.kind ≡ kind → has_ranks c kind named ≡ true
    ranks Keyless is_kind = refl
    ranks Exact is_kind = refl
    ranks Prefix is_kind = refl
    ranks Ternary is_kind =
        let told = map (λ (r : RankOf). r.number) named.ranks in
        let there = flat_map (λ (part : PartAt). map (λ (x : CellNumber). x.number) part.slot.numbers) (parts_of c n) in
        let same : told ≡ there =
        ap (λ k. map (λ (r : RankOf). r.number) (ranks_of k es)) is_kind ∙ ranks_tell es own once (in_order Ternary is_kind tt) ∙ sym numbers in
        (bytes_eq-Decides told there).1 same

    may_stand : each_part c (stands_in_candidates c) named ≡ true
    may_stand =
        each_cell (λ part x. list_any (λ m. m == x.cell) (candidates c.seed (bits_of_lanes part.slot.keys) part.slot.memory (held_by c part x).key)) (λ part is i d lt.
        (let s = get_or (stands_of_part p plan t n part.stage) i d in
        let h = each_holds p lists plan c entries units stands built n t es own table_is es_are own_is part is i d lt in
        let may = each_may_stand p lists plan c entries units stands built n t es own table_is es_are own_is loaded in_rows part is i d lt h.entry h.is in
        ap (λ key. list_any (λ m. m == s.cell) (candidates c.seed (bits_of_lanes part.slot.keys) part.slot.memory key)) h.holds.key
        ∙ list_any-Contains (λ m. m == s.cell) (candidates c.seed (bits_of_lanes part.slot.keys) part.slot.memory (tests_as_one (λ (u : Test). u.value) (map (width_of p) t.key) h.entry.tests))
        s.cell may (eq-eqb s.cell s.cell refl)))

    has : has_entries c named ≡ true
    has =
        let each = each_part c (stands_in_candidates c) named in
        let few : length (as_they_stand es own) ≤ t.size = (let many = as_many es own once in let within = are.within_size in omega (arith, many, within)) in
        ap (λ xs. nat_le (length xs) t.size && has_keys_once t.kind xs && has_order t.kind xs && each) spelled
        ∙ all_four (nat_le (length (as_they_stand es own)) t.size) (has_keys_once t.kind (as_they_stand es own)) (has_order t.kind (as_they_stand es own)) each
        (le-leb (length (as_they_stand es own)) t.size few) (keys_stand_once es own once t.kind are.keys_once)
        (rows_go_first es own once t.kind rows) may_stand
      where
        rows : (t.kind ≡ Prefix) ⊎ (t.kind ≡ Ternary) → StandInOrder t.kind es own
        rows (inl is_kind) = in_rows n t es own table_is (subst HasRows (sym is_kind) tt) es_are own_is
        rows (inr is_kind) = in_rows n t es own table_is (subst HasRows (sym is_kind) tt) es_are own_is

    -- a table is named as its parts are filled
    pub table_filled : is_filled_so c named ≡ true
    table_filled = all_three (has_masks c t.kind named) (has_ranks c t.kind named) (has_entries c named) (masks t.kind refl) (ranks t.kind refl) has

  -- ---- all tables

  -- so are all tables of the program's names
  pub names_filled : All (λ (x : TableName). is_filled_so c x ≡ true) (names_of p lists).tables
  names_filled =
      all_told p lists entries (λ (x : TableName). is_filled_so c x ≡ true) (λ n es t at own key.
      (let its = slice_get-alike lists plan.stands n es stands.all_there own in table_filled n t es its.0 at own its.1))
