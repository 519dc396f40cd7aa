-- What is known of the entries of all nodes, where they are loaded.
use Rattle.std.proofs.Common.{◌≡◌, ℕ, zero, suc, ◌+◌, ◌-◌, ◌*◌, ◌<◌, ◌≤◌, cond, ◌&&◌, ◌==◌, List, [], ◌∷◌, Option, Some, None, length, get_or, refl, sym, ap, ◌∙◌, subst, arith}
use Rattle.std.specs.Prelude.{⊤, All, AllPairs, Contains, IsSomeAnd, MatchOption, nat_lt, option_and_then, option_map, slice_get, sum_by}
use Rattle.std.specs.List.{AllZip}
use Rattle.std.proofs.lemmas.List.{get_or-map, length-map}
use Rattle.std.proofs.lemmas.List.Elements.{All-nil, All-contains}
use Rattle.std.proofs.lemmas.List.FromFn.{get_or-range_with_len, length-range_with_len}
use Rattle.std.proofs.lemmas.List.Sorted.{IsPermutation-refl}
use Rattle.std.proofs.lemmas.List.Sums.{sum_by-cons}
use Rattle.std.proofs.lemmas.Nat.{mul-le}
use Rattle.std.proofs.lemmas.Option.{same_Some, slice_get-map, slice_get_within}
use Rattle.std.proofs.lemmas.Slice.Zip.{AllZip-right}
use Rattle.std.proofs.lemmas.Bool.Decides.{nat_tests}
use Rattle.rmt_bits.specs.Bits.{bytes_of}
use Rattle.rmt_build.specs.Types.{Program, Table, Kind, Node, What}
use Rattle.rmt_ast.specs.declared.program.Kind.TheVariants.{Keyless, Exact, Prefix, Ternary}
use Rattle.rmt_ast.specs.declared.entry.Entry.{Entry}
use Rattle.rmt_ast.specs.declared.program.What.TheVariants.{Apply, Gate}
use Rattle.rmt_ast.specs.EntryLists.{AreEntries, AreEntriesAt, AreTableEntries, terms_at, terms_of}
use Rattle.rmt_ast.specs.WellFormed.{HasKey, IsProgram, IsTable}
use Rattle.rmt_config.specs.Cells.{candidates as looked_in}
use Rattle.rmt_config.specs.BlockCounts.{divided_up}
use Rattle.rmt_cuckoo.specs.Loading.{candidates}
use Rattle.rmt_pack.specs.declared.placement.Part.{Part}
use Rattle.rmt_pack.specs.declared.format.Format.{Format}
use Rattle.rmt_pack.specs.Formats.{IsFormat, ternary_format}
use Rattle.rmt_pack.specs.Placements.{key_bits, quanta_in, quanta_of, table_need}
use Rattle.rmt_refine.specs.Outcomes.{entries_at}
use Rattle.rmt_refine.specs.Units.{applied, table_at}
use Rattle.rmt_refine.proofs.OutcomeLaws.{list_at}
use Rattle.rmt_refine.proofs.PartLaws.{some_and}
use Rattle.rmt_pack.proofs.PartLaws.{then_some}
use Rattle.rmt_refine.proofs.TheLaw.{table_entries}
use Rattle.rmt_filling.specs.declared.stands.Stand.{Stand}
use Rattle.rmt_build.specs.Loads.{AreAllLoaded, StandAt, StandBy, layout_of}
use Rattle.rmt_filling.specs.Keys.{keys_of}
use Rattle.rmt_build.specs.Plans.{AreParts, AreStands, parts_before, quanta_before}
use Rattle.rmt_filling.specs.Formats.{format_at}
use Rattle.rmt_build.specs.Promises.{HasRows}
use Rattle.rmt_filling.specs.EntryCells.{IsLoadedAt, StandInOrder, StandOnce, cells_for}
use Rattle.rmt_filling.proofs.CandidateLaws.{below_all, looked_for}
use Rattle.rmt_filling.specs.Holding.{value_for}
use Rattle.rmt_build.proofs.PartLaws.{quanta_more}
use Rattle.rmt_build.proofs.PlanLaws.{is_format, is_table, node_there}
use Rattle.rmt_bits.proofs.ListLaws.{slice_get-item, AllZip-slice_get}
use Rattle.rmt_config.specs.declared.config.Memory.TheVariants as memory

-- ---- one list beside another

pub zip_other : {X Y : Type 0} (R : X → Y → Type 0) (xs : List X) (ys : List Y) (i : ℕ) (y : Y) → AllZip R xs ys → slice_get ys i ≡ Some y → (x : X) × R x y
zip_other R xs ys i y zip at_y =
    let there = subst (λ o. MatchOption o ⊤ (λ b. IsSomeAnd (slice_get xs i) (λ a. R a b))) at_y (AllZip-right R xs ys zip i) in
    let x = some_and (slice_get xs i) (λ a. R a y) there in
    (x.0, x.2)

-- ---- rows

-- entries in order stand each in one cell
pub order_once : (kind : Kind) (es : List Entry) (ys : List Stand) → StandInOrder kind es ys → StandOnce (length es) ys
order_once kind es ys is = record { each = is.each; rise = rise }
  where
    rise : AllPairs (λ (a b : Stand). a.cell < b.cell) ys
    rise i j d lt inside =
        let range = length-range_with_len 0 (length es) in
        let in_j : j < length es = omega (arith, inside, length-map ys (λ (s : Stand). s.cell), ap length is.rows, range) in
        let at : (k : ℕ) → k < length ys → k < length es → (get_or ys k d).cell ≡ k = λ k in_ys in_es.
        sym (get_or-map (λ (s : Stand). s.cell) ys k d 0 in_ys) ∙ ap (λ ns. get_or ns k 0) is.rows ∙ get_or-range_with_len 0 (length es) k 0 in_es ∙ (let e : 0 + k ≡ k = omega arith in e) in
        omega (arith, at i (omega (arith, lt, inside)) (omega (arith, lt, in_j)), at j inside in_j, lt)

-- and below the number of the entries
pub order_within : (kind : Kind) (es : List Entry) (ys : List Stand) → StandInOrder kind es ys → All (λ (s : Stand). s.cell < length es) ys
order_within kind es ys is k d inside =
    let range = length-range_with_len 0 (length es) in
    let in_es : k < length es = omega (arith, inside, length-map ys (λ (s : Stand). s.cell), ap length is.rows, range) in
    let at : (get_or ys k d).cell ≡ 0 + k =
    sym (get_or-map (λ (s : Stand). s.cell) ys k d 0 inside) ∙ ap (λ ns. get_or ns k 0) is.rows ∙ get_or-range_with_len 0 (length es) k 0 in_es in
    omega (arith, at, in_es)

-- ---- the quanta before a stage are no more than all

abbrev early : List Part → ℕ → ℕ → ℕ
early parts n m = sum_by (λ (x : Part). cond ((x.node == n) && nat_lt x.stage m) x.quanta 0) parts

early_next : (parts : List Part) (n m : ℕ) → early parts n (m + 1) ≡ early parts n m + quanta_in parts n m
early_next [] n m = refl
early_next (x ∷ xs) n m =
    let all = sum_by-cons (λ (y : Part). cond ((y.node == n) && nat_lt y.stage (m + 1)) y.quanta 0) x xs in
    let before = sum_by-cons (λ (y : Part). cond ((y.node == n) && nat_lt y.stage m) y.quanta 0) x xs in
    let here = sum_by-cons (λ (y : Part). cond ((y.node == n) && (y.stage == m)) y.quanta 0) x xs in
    grind (arith, nat_tests, early_next xs n m, all, before, here)

early_most : (parts : List Part) (n m : ℕ) → early parts n m ≤ quanta_of parts n
early_most [] n m = omega arith
early_most (x ∷ xs) n m =
    let all = sum_by-cons (λ (y : Part). cond (y.node == n) y.quanta 0) x xs in
    let rest = early_most xs n m in
    grind (arith, nat_tests, rest, sum_by-cons (λ (y : Part). cond ((y.node == n) && nat_lt y.stage m) y.quanta 0) x xs, all)

before_early : (parts : List Part) (n m : ℕ) → quanta_before parts n m ≤ early parts n m
before_early parts n zero = omega arith
before_early parts n (suc m) =
    let e : suc m ≡ m + 1 = omega arith in
    let more = quanta_more parts n m in
    let next = early_next parts n m in
    subst (λ j. quanta_before parts n j ≤ early parts n j) (sym e) (omega (arith, before_early parts n m, more, next))

pub before_most : (parts : List Part) (n m : ℕ) → quanta_before parts n m ≤ quanta_of parts n
before_most parts n m = let a = before_early parts n m in let b = early_most parts n m in omega (arith, a, b)

-- ---- one table

module _ (p : Program) (lists : List (List Entry)) (parts : List Part) (seed : ℕ) (stands : List (List Stand)) (loaded : AreAllLoaded p lists parts seed stands) where
  stand_by : (n : ℕ) (t : Table) (es : List Entry) (own : List Stand) → table_at p n ≡ Some t → slice_get lists n ≡ Some es → slice_get stands n ≡ Some own → StandBy p parts seed n t es t.kind own
  stand_by n t es own at es_are own_are = subst (λ o. StandAt p parts seed n es o own) at (loaded.each n es own es_are own_are)

  -- the entries of a table with rows stand in order
  pub rows_in_order : (n : ℕ) (t : Table) (es : List Entry) (own : List Stand) → table_at p n ≡ Some t → HasRows t.kind → slice_get lists n ≡ Some es → slice_get stands n ≡ Some own
      → StandInOrder t.kind es own
  rows_in_order n t es own at has es_are own_are = by_kind t.kind has (stand_by n t es own at es_are own_are)
    where
      by_kind : (kind : Kind) → HasRows kind → StandBy p parts seed n t es kind own → StandInOrder kind es own
      by_kind Keyless rows h = absurd rows
      by_kind Exact rows h = absurd rows
      by_kind Prefix rows h = h
      by_kind Ternary rows h = h

  -- an entry of an exact table that stands in a cell of a part is looked for there
  pub loaded_there : (n : ℕ) (t : Table) (es : List Entry) (own : List Stand) (k cell width : ℕ) (ks rs cs : List ℕ) (e : Entry) (s : Stand)
      → table_at p n ≡ Some t → t.kind ≡ Exact → slice_get lists n ≡ Some es → slice_get stands n ≡ Some own → Contains own s → slice_get es s.entry ≡ Some e
      → s.cell ≡ cells_for Exact (format_at p n).per (quanta_before parts n k) + cell → cell < cells_for Exact (format_at p n).per (quanta_in parts n k)
      → Contains (looked_in seed (key_bits p t) (memory.Exact width (format_at p n).per (quanta_in parts n k) (4 * parts_before parts n k) ks rs cs) (value_for p t e)) cell
  loaded_there n t es own k cell width ks rs cs e s at exact es_are own_are there entry cell_is within =
      let by = subst (λ kind. StandBy p parts seed n t es kind own) exact (stand_by n t es own at es_are own_are) in
      let key : slice_get (keys_of p t es) s.entry ≡ Some (bytes_of (divided_up (key_bits p t) 8) (value_for p t e)) =
      slice_get-map (λ (x : Entry). bytes_of (divided_up (key_bits p t) 8) (value_for p t x)) es s.entry
      ∙ ap (option_map (λ (x : Entry). bytes_of (divided_up (key_bits p t) 8) (value_for p t x))) entry in
      let at_cell : slice_get by.0 s.entry ≡ Some s.cell = All-contains (IsLoadedAt by.0) own s by.3 there in
      let chosen = AllZip-slice_get (λ x y. Contains (candidates (layout_of p parts n) seed x) y) (keys_of p t es) by.0 s.entry _ s.cell by.1.stand key at_cell in
      let r = looked_for (quanta_in parts n) (format_at p n).per seed width (key_bits p t) (value_for p t e) k s.cell ks rs cs chosen (omega (arith, cell_is)) (omega (arith, cell_is, within)) in
      let back : s.cell - (4096 * quanta_before parts n k * (format_at p n).per) ≡ cell = omega (arith, cell_is) in
      subst (Contains (looked_in seed (key_bits p t) (memory.Exact width (format_at p n).per (quanta_in parts n k) (4 * parts_before parts n k) ks rs cs) (value_for p t e))) back r

  -- each cell that a key is loaded into is one of the table
  exact_within : (n : ℕ) (t : Table) (es : List Entry) (own : List Stand) → StandBy p parts seed n t es Exact own → All (λ (s : Stand). s.cell < cells_for Exact (format_at p n).per (quanta_of parts n)) own
  exact_within n t es own by i d inside =
      let s = get_or own i d in
      let at_cell : slice_get by.0 s.entry ≡ Some s.cell = by.3 i d inside in
      let key = zip_other (λ x y. Contains (candidates (layout_of p parts n) seed x) y) (keys_of p t es) by.0 s.entry s.cell by.1.stand at_cell in
      let most = before_most parts n 32 in
      let less = mul-le (4096 * quanta_before parts n 32) (format_at p n).per (4096 * quanta_of parts n) (format_at p n).per (omega (arith, most)) (omega arith) in
      omega (arith, below_all (quanta_in parts n) (format_at p n).per seed key.0 s.cell key.1, less)

-- ---- all tables

module _ (p : Program) (lists : List (List Entry)) (parts : List Part) (seed : ℕ) (stands : List (List Stand)) (good : IsProgram p) (entries : AreEntries p lists) (are : AreParts p parts)
    (loaded : AreAllLoaded p lists parts seed stands) where
  abbrev By : ℕ → Table → List Entry → Kind → List Stand → Type 0
  By n t es kind own = StandBy p parts seed n t es kind own

  no_entries : (es : List Entry) → length es ≤ 0 → es ≡ []
  no_entries [] le = refl
  no_entries (e ∷ es) le = absurd (omega (arith, le))

  none_once : (es : List Entry) (own : List Stand) → es ≡ [] → own ≡ [] → StandOnce (length es) own
  none_once es own none empty =
      subst (λ xs. StandOnce (length xs) own) (sym none)
      (subst (StandOnce 0) (sym empty) (record { each = IsPermutation-refl []; rise = λ i j d lt inside. absurd (omega (arith, inside)) }))

  by_once : (n : ℕ) (t : Table) (es : List Entry) (own : List Stand) → IsTable p t → AreTableEntries n es (terms_of p t) → (kind : Kind) → t.kind ≡ kind → By n t es kind own → StandOnce (length es) own
  by_once n t es own table list Keyless is h =
      none_once es own (no_entries es (omega (arith, list.within_size, (subst (λ kind. HasKey p kind t) is table.key).size))) h
  by_once n t es own table list Exact is h = h.2
  by_once n t es own table list Prefix is h = order_once Prefix es own h
  by_once n t es own table list Ternary is h = order_once Ternary es own h

  -- each entry of each node stands in one cell
  pub all_once : (n : ℕ) (es : List Entry) (own : List Stand) → slice_get lists n ≡ Some es → slice_get stands n ≡ Some own → StandOnce (length es) own
  all_once n es own list own_is = by_table (table_at p n) refl (loaded.each n es own list own_is)
    where
      gate_none : (node : Node) → slice_get p.nodes n ≡ Some node → table_at p n ≡ None → es ≡ []
      gate_none node at none =
          let known = list_at p lists n node entries at in
          let same : entries_at lists n ≡ es = same_Some (entries_at lists n) es (sym known.0 ∙ list) in
          sym same ∙ no_table node.what known.1 (sym (ap (option_and_then (λ (x : Node). applied p x.what)) at) ∙ none)
        where
          no_table : (w : What) → AreEntriesAt n (entries_at lists n) (terms_at p w) → applied p w ≡ None → entries_at lists n ≡ []
          no_table (Apply i) h none_there = subst (λ o. AreEntriesAt n (entries_at lists n) (option_map (terms_of p) o)) none_there h
          no_table (Gate field test) h none_there = h

      by_table : (o : Option Table) → table_at p n ≡ o → StandAt p parts seed n es (table_at p n) own → StandOnce (length es) own
      by_table (Some t) at h =
          let node = then_some (λ (x : Node). applied p x.what) (slice_get p.nodes n) t at in
          by_once n t es own (is_table p good n t at) (table_entries p lists n t es entries at list) t.kind refl (subst (λ o. StandAt p parts seed n es o own) at h)
      by_table None at h =
          let nodes = length-map p.nodes (λ (x : Node). terms_at p x.what) in
          let node = slice_get-item p.nodes n (omega (arith, slice_get_within lists n es list, entries.for_each_node, nodes)) in
          none_once es own (gate_none node.0 node.1 at) (subst (λ o. StandAt p parts seed n es o own) at h)

  rows_within : (n : ℕ) (t : Table) (es : List Entry) (own : List Stand) → table_at p n ≡ Some t → AreTableEntries n es (terms_of p t) → format_at p n ≡ ternary_format (table_need p t)
      → All (λ (s : Stand). s.cell < length es) own → All (λ (s : Stand). s.cell < 2048 * quanta_of parts n) own
  rows_within n t es own at list format below i d inside =
      let room : (format_at p n).quanta ≡ divided_up t.size 2048 = ap (λ (f : Format). f.quanta) format in
      omega (arith, below i d inside, list.within_size, room, are.whole n (node_there p good n t at))

  by_within : (n : ℕ) (t : Table) (es : List Entry) (own : List Stand) → table_at p n ≡ Some t → AreTableEntries n es (terms_of p t) → (kind : Kind) → t.kind ≡ kind → By n t es kind own
      → All (λ (s : Stand). s.cell < cells_for kind (format_at p n).per (quanta_of parts n)) own
  by_within n t es own at list Keyless is h = subst (All (λ (s : Stand). s.cell < 0)) (sym h) (All-nil (λ (s : Stand). s.cell < 0))
  by_within n t es own at list Exact is h = exact_within p lists parts seed stands loaded n t es own h
  by_within n t es own at list Prefix is h = rows_within n t es own at list (subst (λ kind. IsFormat kind (table_need p t) (format_at p n)) is (is_format p good n t at)) (order_within Prefix es own h)
  by_within n t es own at list Ternary is h = rows_within n t es own at list (subst (λ kind. IsFormat kind (table_need p t) (format_at p n)) is (is_format p good n t at)) (order_within Ternary es own h)

  -- in a cell of the table
  pub all_within : (n : ℕ) (t : Table) (own : List Stand) → table_at p n ≡ Some t → slice_get stands n ≡ Some own → All (λ (s : Stand). s.cell < cells_for t.kind (format_at p n).per (quanta_of parts n)) own
  all_within n t own at own_is =
      let node = then_some (λ (x : Node). applied p x.what) (slice_get p.nodes n) t at in
      let list = (list_at p lists n node.0 entries node.1).0 in
      by_within n t (entries_at lists n) own at (table_entries p lists n t (entries_at lists n) entries at list) t.kind refl (stand_by p lists parts seed stands loaded n t (entries_at lists n) own at list own_is)

  -- So the entries stand as a plan has to have them.
  pub they_stand : AreStands p lists parts stands
  they_stand = record {
    all_there = loaded.all_there ∙ sym (entries.for_each_node ∙ length-map p.nodes (λ (x : Node). terms_at p x.what));
    each = all_once;
    within = all_within;
  }
