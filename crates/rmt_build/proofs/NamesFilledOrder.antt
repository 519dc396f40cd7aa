-- The entries of a table as they stand: as many as there are, each key once, and in the order of their precedence.
use Rattle.std.proofs.Common.{◌≡◌, ◌≢◌, ℕ, ◌<◌, ◌∙◌, Bool, true, false, not, ◌==◌, List, [], ◌∷◌, Some, length, map, get_or, refl, sym, ap, subst, ◌⊎◌, inl, inr, arith}
use Rattle.std.specs.Prelude.{All, AllPairs, Contains, slice_get}
use Rattle.std.specs.List.{range_with_len}
use Rattle.std.specs.Str.{bytes_eq}
use Rattle.std.proofs.lemmas.Bool.{and_parts, eqb-true, false≢true}
use Rattle.std.proofs.lemmas.List.{get_or_default, length-map}
use Rattle.std.proofs.lemmas.List.Elements.{All-map, Contains-get_or}
use Rattle.std.proofs.lemmas.List.FromFn.{length-range_with_len}
use Rattle.std.proofs.lemmas.List.Sorted.{length_permutation}
use Rattle.std.proofs.lemmas.Option.{slice_get-get_or}
use Rattle.std.proofs.lemmas.Simd.{map-map}
use Rattle.rmt_bits.proofs.MemberLaws.{Contains-item, Contains-map}
use Rattle.rmt_bits.proofs.PairLaws.{AllPairs-map}
use Rattle.rmt_ast.specs.declared.entry.Entry.{Entry}
use Rattle.rmt_ast.specs.declared.names.RankOf.{RankOf}
use Rattle.rmt_ast.specs.declared.program.Kind.TheVariants.{Keyless, Exact, Prefix, Ternary}
use Rattle.rmt_ast.specs.Changes.{are_same}
use Rattle.rmt_ast.specs.EntryLists.{HasKeysOnce}
use Rattle.rmt_ast.specs.Naming.{rank_of, ranks_in}
use Rattle.rmt_ast.specs.RowOrder.{goes_first}
use Rattle.rmt_config.specs.NamesForm.{each_later, has_keys_once, has_order}
use Rattle.rmt_config.proofs.NameRuleLaws.{each_later-from}
use Rattle.rmt_refine.proofs.RankLaws.{compare}
use Rattle.rmt_build.specs.Types.{Kind, Test}
use Rattle.rmt_filling.specs.declared.stands.Stand.{Stand}
use Rattle.rmt_filling.specs.EntryCells.{StandInOrder, StandOnce}
use Rattle.rmt_build.proofs.NamesFilledRanks.{StandsFirst, in_order, ranks_are}
use Rattle.rmt_build.proofs.PromiseLaws.{goes_true}
use Rattle.rmt_build.proofs.StandLaws.{entry_there, entry_within, one_stand}

abbrev pub no_entry : Entry
no_entry = record { table = 0; number = 0; tests = []; rank = 0; action = 0; args = [] }

-- an entry of a list by its place
abbrev pub entry_at : List Entry → ℕ → Entry
entry_at es i = get_or es i no_entry

-- the entries of a list as they stand
abbrev pub as_they_stand : List Entry → List Stand → List Entry
as_they_stand es own = map (λ (s : Stand). entry_at es s.entry) own

-- ---- tests of pairs

same_tests : (a b : List Test) → bytes_eq (map (λ (t : Test). t.value) a) (map (λ (t : Test). t.value) b) ≡ true
    → bytes_eq (map (λ (t : Test). t.mask) a) (map (λ (t : Test). t.mask) b) ≡ true → a ≡ b
same_tests [] [] values masks = refl
same_tests [] (y ∷ b) values masks = absurd (false≢true values)
same_tests (x ∷ a) [] values masks = absurd (false≢true values)
same_tests (x ∷ a) (y ∷ b) values masks =
    let v = and_parts (x.value == y.value) (bytes_eq (map (λ (t : Test). t.value) a) (map (λ (t : Test). t.value) b)) values in
    let m = and_parts (x.mask == y.mask) (bytes_eq (map (λ (t : Test). t.mask) a) (map (λ (t : Test). t.mask) b)) masks in
    ap (λ z. record { value = z; mask = x.mask } ∷ a) (eqb-true x.value y.value v.0)
    ∙ ap (λ z. record { value = y.value; mask = z } ∷ a) (eqb-true x.mask y.mask m.0)
    ∙ ap (λ ts. y ∷ ts) (same_tests a b v.1 m.1)

not_same : (a b : List Test) → a ≢ b → not (are_same a b) ≡ true
not_same a b ne = by (are_same a b) refl
  where
    by : (r : Bool) → are_same a b ≡ r → not r ≡ true
    by false e = refl
    by true e =
        let both = and_parts (bytes_eq (map (λ (t : Test). t.value) a) (map (λ (t : Test). t.value) b)) (bytes_eq (map (λ (t : Test). t.mask) a) (map (λ (t : Test). t.mask) b)) e in
        absurd (ne (same_tests a b both.0 both.1))

-- ---- entries that stand once

module _ (es : List Entry) (own : List Stand) (once : StandOnce (length es) own) where
  inside_list : (i : ℕ) (d : Stand) → i < length own → (get_or own i d).entry < length es
  inside_list i d lt = entry_within (length es) own once (get_or own i d) (Contains-get_or own i d lt)

  there : (i : ℕ) (d : Stand) → i < length own → slice_get es (get_or own i d).entry ≡ Some (entry_at es (get_or own i d).entry)
  there i d lt = slice_get-get_or es (get_or own i d).entry no_entry (inside_list i d lt)

  pub as_many : length (as_they_stand es own) ≡ length es
  as_many =
      let moved = length_permutation (range_with_len 0 (length es)) (map (λ (s : Stand). s.entry) own) once.each in
      let range = length-range_with_len 0 (length es) in
      omega (arith, length-map own (λ (s : Stand). entry_at es s.entry), length-map own (λ (s : Stand). s.entry), moved, range)

  entries_differ : AllPairs (λ (a b : Stand). a.entry ≢ b.entry) own
  entries_differ i j d lt inside same =
      let a = get_or own i d in
      let b = get_or own j d in
      let one = one_stand (length es) own once a b (Contains-get_or own i d (omega (arith, lt, inside))) (Contains-get_or own j d inside) same in
      omega (arith, ap (λ (s : Stand). s.cell) one, once.rise i j d lt inside)

  keys_differ : AllPairs (λ (a b : Entry). a.tests ≢ b.tests) es → AllPairs (λ (a b : Stand). (entry_at es a.entry).tests ≢ (entry_at es b.entry).tests) own
  keys_differ differ i j d lt inside e =
      let a = (get_or own i d).entry in
      let b = (get_or own j d).entry in
      elim (compare a b) [
        | inl less ↦ differ a b no_entry less (inside_list j d inside) e
        | inr (inl greater) ↦ differ b a no_entry greater (inside_list i d (omega (arith, lt, inside))) (sym e)
        | inr (inr same) ↦ entries_differ i j d lt inside same
      ]

  once_by_pairs : AllPairs (λ (a b : Entry). a.tests ≢ b.tests) es → each_later (λ (a b : Entry). not (are_same a.tests b.tests)) (as_they_stand es own) ≡ true
  once_by_pairs differ =
      let each = keys_differ differ in
      each_later-from (λ (a b : Entry). not (are_same a.tests b.tests)) (as_they_stand es own)
      (AllPairs-map (λ (a b : Entry). not (are_same a.tests b.tests) ≡ true) (λ (s : Stand). entry_at es s.entry) own
      (λ i j d lt inside. not_same (entry_at es (get_or own i d).entry).tests (entry_at es (get_or own j d).entry).tests (each i j d lt inside)))

  -- an exact key, and a prefix, stands once
  pub keys_stand_once : (kind : Kind) → HasKeysOnce kind es → has_keys_once kind (as_they_stand es own) ≡ true
  keys_stand_once Keyless h = refl
  keys_stand_once Exact h = once_by_pairs h
  keys_stand_once Prefix h = once_by_pairs h
  keys_stand_once Ternary h = refl

  -- ---- in order

  goes_later : (kind : Kind) → StandInOrder kind es own → each_later (goes_first kind) (as_they_stand es own) ≡ true
  goes_later kind order =
      each_later-from (goes_first kind) (as_they_stand es own)
      (AllPairs-map (λ (a b : Entry). goes_first kind a b ≡ true) (λ (s : Stand). entry_at es s.entry) own
      (λ i j d lt inside.
      goes_true kind (entry_at es (get_or own i d).entry) (entry_at es (get_or own j d).entry)
      (order.order i j d lt inside (entry_at es (get_or own i d).entry) (entry_at es (get_or own j d).entry) (there i d (omega (arith, lt, inside))) (there j d inside))))

  -- rows stand in the order of their precedence
  pub rows_go_first : (kind : Kind) → ((kind ≡ Prefix) ⊎ (kind ≡ Ternary) → StandInOrder kind es own) → has_order kind (as_they_stand es own) ≡ true
  rows_go_first Keyless order = refl
  rows_go_first Exact order = refl
  rows_go_first Prefix order = goes_later Prefix (order (inl refl))
  rows_go_first Ternary order = goes_later Ternary (order (inr refl))

  -- and the ranks of a ternary table tell their numbers
  pub ranks_tell : StandInOrder Ternary es own → map (λ (r : RankOf). r.number) (ranks_in es) ≡ map (λ (s : Stand). (entry_at es s.entry).number) own
  ranks_tell order = ap (map (λ (r : RankOf). r.number)) (ranks_are es ranks (in_order ranks rise) own_ranks all_ranks) ∙ map-map (λ (r : RankOf). r.number) rank_there own
    where
      rank_there : Stand → RankOf
      rank_there s = rank_of (entry_at es s.entry)

      ranks : List RankOf
      ranks = map rank_there own

      rise : AllPairs StandsFirst ranks
      rise =
          AllPairs-map StandsFirst rank_there own
          (λ i j d lt inside.
          order.order i j d lt inside (entry_at es (get_or own i d).entry) (entry_at es (get_or own j d).entry) (there i d (omega (arith, lt, inside))) (there j d inside))

      own_ranks : All (Contains (map rank_of es)) ranks
      own_ranks =
          All-map (Contains (map rank_of es)) rank_there own
          (λ i d lt. Contains-map rank_of es (entry_at es (get_or own i d).entry) (Contains-item es (get_or own i d).entry (entry_at es (get_or own i d).entry) (there i d lt)))

      all_ranks : All (λ (e : Entry). Contains ranks (rank_of e)) es
      all_ranks i d lt =
          let s = entry_there (length es) own once i lt in
          let same : entry_at es s.0.entry ≡ get_or es i d =
          ap (entry_at es) s.2 ∙ get_or_default es i no_entry d lt in
          subst (λ (e : Entry). Contains ranks (rank_of e)) same (Contains-map rank_there own s.0 s.1)
