-- What is known of the entries of the nodes so far, under one seed.
use Rattle.std.proofs.Common.{◌≡◌, ℕ, ◌+◌, ◌<◌, List, [], ◌∷◌, ◌++◌, Some, length, map, get_or, sym, ap, ◌∙◌, subst, arith}
use Rattle.std.specs.Prelude.{slice_get, unwrap_or}
use Rattle.std.proofs.lemmas.List.{length-append, length-map}
use Rattle.std.proofs.lemmas.Option.{get_or_from_slice_get, slice_get_within}
use Rattle.rmt_bits.proofs.ListLaws.{slice_get-item}
use Rattle.rmt_bits.specs.Bits.{bytes_of}
use Rattle.rmt_build.specs.Types.{Program, Table, Node}
use Rattle.rmt_ast.specs.declared.program.Kind.TheVariants.{Exact}
use Rattle.rmt_ast.specs.declared.entry.Entry.{Entry}
use Rattle.rmt_ast.specs.EntryLists.{AreEntries}
use Rattle.rmt_ast.proofs.WellFormedLemmas.{AllNumbered-push}
use Rattle.rmt_ast.specs.State.{width_of}
use Rattle.rmt_config.specs.BlockCounts.{divided_up}
use Rattle.rmt_cuckoo.specs.Loading.{IsOverfull}
use Rattle.rmt_pack.specs.declared.placement.Part.{Part}
use Rattle.rmt_pack.specs.Placements.{key_bits}
use Rattle.rmt_config.specs.Rooms.{tests_as_one}
use Rattle.rmt_refine.specs.Outcomes.{entries_at}
use Rattle.rmt_refine.specs.Units.{applied, table_at}
use Rattle.rmt_refine.proofs.OutcomeLaws.{list_at}
use Rattle.rmt_refine.proofs.PartLaws.{some_and}
use Rattle.rmt_pack.proofs.PartLaws.{then_some}
use Rattle.rmt_filling.specs.declared.stands.Stand.{Stand}
use Rattle.rmt_filling.specs.declared.keys.TableTried.{TableTried}
use Rattle.rmt_filling.specs.declared.keys.TableTried.TheVariants.{Overfull, Stand as Standing}
use Rattle.rmt_build.specs.Loads.{AreAllLoaded, AreLoaded, AreLoadedBefore, IsFull, StandAt, StandBy, layout_of}
use Rattle.rmt_filling.specs.Keys.{keys_of, IsTried}
use Rattle.rmt_filling.specs.EntryCells.{StandOnce}
use Rattle.rmt_build.specs.Tries.{StandOrFull}

-- ---- one node

-- the list of a node
pub list_is : (p : Program) (lists : List (List Entry)) (n : ℕ) (xs : List (List Entry)) (es : List Entry) → AreEntries p lists → n < length p.nodes → xs ≡ lists → es ≡ get_or xs n es → es ≡ entries_at lists n
list_is p lists n xs es entries within same is =
    let node = slice_get-item p.nodes n within in
    let list = list_at p lists n node.0 entries node.1 in
    is ∙ ap (λ ys. get_or ys n es) same ∙ get_or_from_slice_get lists n (entries_at lists n) es list.0

pub tried_stands : (p : Program) (parts : List Part) (seed n : ℕ) (t : Table) (es : List Entry) → t.kind ≡ Exact → (tried : TableTried) → IsTried (layout_of p parts n) seed (keys_of p t es) tried
    → StandOrFull p parts seed n es (Some t) tried
tried_stands p parts seed n t es exact (Standing own) h =
    let many = length-map es (λ (e : Entry). bytes_of (divided_up (key_bits p t) 8) (tests_as_one (λ test. test.value) (map (width_of p) t.key) e.tests)) in
    subst (λ kind. StandBy p parts seed n t es kind own) (sym exact) (h.0, h.1, subst (λ k. StandOnce k own) many h.2, h.3)
tried_stands p parts seed n t es exact (Overfull members cells) h = (exact, h.0, h.1, h.2)

-- ---- the nodes so far

-- what comes of the entries of node n
abbrev pub ComesOf : Program → List (List Entry) → List Part → ℕ → ℕ → TableTried → Type 0
ComesOf p lists parts seed n = StandOrFull p parts seed n (entries_at lists n) (table_at p n)

-- the entries of the first nodes stand
pub record LoadedUpto (p : Program) (lists : List (List Entry)) (parts : List Part) (seed m : ℕ) (stands : List (List Stand)) : Type 0 where
  pub count : length stands ≡ m
  pub each : (n : ℕ) (es : List Entry) (own : List Stand) → slice_get lists n ≡ Some es → slice_get stands n ≡ Some own → StandAt p parts seed n es (table_at p n) own

module _ (p : Program) (lists : List (List Entry)) (parts : List Part) (seed : ℕ) where
  entries_are : (n : ℕ) (es : List Entry) → slice_get lists n ≡ Some es → entries_at lists n ≡ es
  entries_are n es at = ap (λ o. unwrap_or o []) at

  pub loaded_push : (m : ℕ) (stands : List (List Stand)) (own : List Stand) → LoadedUpto p lists parts seed m stands → ComesOf p lists parts seed m (Standing own)
      → LoadedUpto p lists parts seed (m + 1) (stands ++ own ∷ [])
  loaded_push m stands own upto here = record {
    count = (let many = length-append stands (own ∷ []) in let count = upto.count in omega (arith, many, count));
    each = λ n es mine at mine_at.
        AllNumbered-push (λ k spots. (xs : List Entry) → slice_get lists k ≡ Some xs → StandAt p parts seed k xs (table_at p k) spots) stands own
        (λ k spots there xs of_k. upto.each k xs spots of_k there)
        (λ xs of_last. subst (λ ys. StandAt p parts seed (length stands) ys (table_at p (length stands)) own) (entries_are (length stands) xs of_last)
        (subst (λ k. StandAt p parts seed k (entries_at lists k) (table_at p k) own) (sym upto.count) here)) n mine mine_at es at;
  }

  -- every exact table before is loaded
  pub loaded_before : (m : ℕ) (stands : List (List Stand)) → LoadedUpto p lists parts seed m stands → AreLoadedBefore p lists parts seed m
  loaded_before m stands upto n t es lt applies =
      let own = slice_get-item stands n (let count = upto.count in omega (arith, count, lt)) in
      let stand = upto.each n es own.0 applies.entries own.1 in
      let by = subst (λ kind. StandBy p parts seed n t es kind own.0) applies.exact (subst (λ o. StandAt p parts seed n es o own.0) applies.table stand) in
      (by.0, by.1)

  -- where the entries of all nodes stand, every exact table is loaded
  pub all_loaded : (stands : List (List Stand)) → AreAllLoaded p lists parts seed stands → AreLoaded p lists parts seed
  all_loaded stands all n t es applies =
      let node = then_some (λ (x : Node). applied p x.what) (slice_get p.nodes n) t applies.table in
      loaded_before (length p.nodes) stands (record { count = all.all_there; each = all.each }) n t es (slice_get_within p.nodes n node.0 node.1) applies

  -- a table that isn't
  pub is_full : (n members cells : ℕ) → AreEntries p lists → n < length p.nodes → ComesOf p lists parts seed n (Overfull members cells) → IsFull p lists parts seed n members cells
  is_full n members cells entries within h =
      let t = some_and (table_at p n) (λ (x : Table). (x.kind ≡ Exact) × (own : List ℕ) × IsOverfull (layout_of p parts n) seed (keys_of p x (entries_at lists n)) own cells × (members ≡ length own)) h in
      let node = slice_get-item p.nodes n within in
      record {
        table = t.0;
        entries = entries_at lists n;
        own = t.2.1;
        applies = record { table = t.1; exact = t.2.0; entries = (list_at p lists n node.0 entries node.1).0 };
        overfull = t.2.2;
        many = t.2.3;
      }
