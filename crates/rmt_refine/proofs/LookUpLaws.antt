-- A look-up finds the entry that the state hits.
use Rattle.std.proofs.Common.{◌≡◌, ℕ, ◌*◌, ◌<◌, ◌≤◌, Bool, true, false, not, ◌&&◌, ◌==◌, List, [], ◌∷◌, Option, Some, None, map, refl, sym, ap, ◌∙◌, subst, ◌⊎◌, inl, inr, arith}
use Rattle.std.specs.Prelude.{Contains, IsSomeAnd, bit_and, find, option_map, slice_get}
use Rattle.std.specs.List.{AllZip, list_all}
use Rattle.std.proofs.lemmas.Bool.{and_parts, both_ways, false_from_ne_true, not_from_false, not-true, and_from}
use Rattle.std.proofs.lemmas.List.Sums.{AllPass-from_list_all}
use Rattle.std.proofs.lemmas.Option.{none-some}
use Rattle.rmt_refine.specs.Types.{Program, Table, Kind, Config, Stage, SlotUnit, Memory}
use Rattle.rmt_ast.specs.declared.program.Kind.TheVariants as kind
use Rattle.rmt_ast.specs.declared.entry.Entry.{Entry}
use Rattle.rmt_ast.specs.EntryLists.{AreTableEntries, HasRank, IsEntry, terms_of}
use Rattle.rmt_ast.specs.Lookup.{hit_of, hits, matches, precedes}
use Rattle.rmt_ast.specs.State.{joined, width_of}
use Rattle.rmt_ast.specs.WellFormed.{IsTest}
use Rattle.rmt_config.specs.Instructions.{first_code}
use Rattle.rmt_config.specs.declared.config.Memory.TheVariants.{Without, Exact, Ternary}
use Rattle.rmt_config.specs.LaneForm.{bits_of_lanes}
use Rattle.rmt_config.specs.Cells.{Content, candidates, cells_in, has_key, is_seen}
use Rattle.rmt_refine.specs.declared.map.CellOf.{CellOf}
use Rattle.rmt_refine.specs.View.{View, found_at, look_in, slot_at, slot_of}
use Rattle.rmt_refine.specs.Units.{HasKind}
use Rattle.rmt_config.specs.Rooms.{tests_as_one}
use Rattle.rmt_refine.specs.Cells.{HoldsEntry, IsBefore, IsSpotOf, IsTold, Spot, TableCellsCarried}
use Rattle.rmt_refine.specs.LookUps.{FindsAs, FindsEntry}
use Rattle.rmt_pack.proofs.FindLaws.{best_there, find-least, none_unless, found_passes}
use Rattle.rmt_refine.proofs.KeyLaws.{FieldsFit, key_agrees, whole_key}
use Rattle.rmt_refine.proofs.RankLaws.{are_ordered, goes_where_precedes}
use Rattle.rmt_pack.proofs.RankLaws.{precedes_chain, precedes_never}
use Rattle.rmt_pack.proofs.PartLaws.{IsPart, and_at, part_of_slot}
use Rattle.rmt_refine.proofs.PartLaws.{candidates_within, look_of_part, part_of_spot, same_candidates, spot_of_part}
use Rattle.rmt_bits.proofs.MemberLaws.{Contains-first, Contains-later}
use Rattle.std.proofs.lemmas.List.Elements.{All-contains}
use Rattle.rmt_bits.proofs.FindLaws.{find-some}

-- ---- what a state hits

-- an entry that matches, and that no other matching one precedes
pub record IsHit (kd : Kind) (key s : List ℕ) (es : List Entry) (e : Entry) : Type 0 where
  pub there : Contains es e
  pub matching : matches key s e ≡ true
  pub first : (o : Entry) → Contains es o → matches key s o ≡ true → precedes kd o e ≡ true → ⊥

passes_each : {X : Type 0} (test : X → Bool) (xs : List X) → list_all test xs ≡ true → (x : X) → Contains xs x → test x ≡ true
passes_each test xs h x there = All-contains (λ z. test z ≡ true) xs x (AllPass-from_list_all test xs h) there

each_passes : {X : Type 0} (test : X → Bool) (xs : List X) → ((x : X) → Contains xs x → test x ≡ true) → list_all test xs ≡ true
each_passes test [] h = refl
each_passes test (y ∷ ys) h =
    and_from (test y) (list_all test ys) (h y (Contains-first y ys)) (each_passes test ys (λ x there. h x (Contains-later y ys x there)))

found_hit : (kd : Kind) (key s : List ℕ) (es : List Entry) (e : Entry) → find (hits kd key es s) es ≡ Some e → IsHit kd key s es e
found_hit kd key s es e found =
    let r = found_passes (hits kd key es s) es e found in
    let both = and_parts (matches key s e) (list_all (λ o. not (matches key s o && precedes kd o e)) es) r.1 in
    record {
      there = r.0;
      matching = both.0;
      first = λ o there pass before.
          both_ways (matches key s o && precedes kd o e)
          (not-true _ (passes_each (λ o. not (matches key s o && precedes kd o e)) es both.1 o there))
          (and_from (matches key s o) (precedes kd o e) pass before);
    }

hit_found : (kd : Kind) (key s : List ℕ) (es : List Entry) (o : Entry) → Contains es o → matches key s o ≡ true → find (hits kd key es s) es ≡ None → ⊥
hit_found kd key s es o there pass none =
    let b = best_there (matches key s) (precedes kd) (precedes_never kd) (precedes_chain kd) es o there pass in
    let is = b.1 in
    let hit = and_from (matches key s b.0) (list_all (λ x. not (matches key s x && precedes kd x b.0)) es) is.passes
    (each_passes (λ x. not (matches key s x && precedes kd x b.0)) es
    (λ x there. not_from_false _ (false_from_ne_true (matches key s x && precedes kd x b.0)
    (λ both. let r = and_parts (matches key s x) (precedes kd x b.0) both in is.best x there r.0 r.1)))) in
    let r = find-some (hits kd key es s) es b.0 is.there hit in
    none-some r.0 (sym none ∙ r.1)

exact_keyed : kind.Exact ≡ kind.Keyless → ⊥
exact_keyed e = cc

prefix_keyed : kind.Prefix ≡ kind.Keyless → ⊥
prefix_keyed e = cc

ternary_keyed : kind.Ternary ≡ kind.Keyless → ⊥
ternary_keyed e = cc

pub hit_some : (kd : Kind) (key s : List ℕ) (es : List Entry) (e : Entry) → hit_of kd key es s ≡ Some e → IsHit kd key s es e × (kd ≡ kind.Keyless → ⊥)
hit_some kind.Keyless key s es e h = absurd (none-some e h)
hit_some kind.Exact key s es e h = (found_hit kind.Exact key s es e h, exact_keyed)
hit_some kind.Prefix key s es e h = (found_hit kind.Prefix key s es e h, prefix_keyed)
hit_some kind.Ternary key s es e h = (found_hit kind.Ternary key s es e h, ternary_keyed)

-- where nothing is hit, a table has no key or no entry matches
hit_none : (kd : Kind) (key s : List ℕ) (es : List Entry) → hit_of kd key es s ≡ None → (kd ≡ kind.Keyless) ⊎ ((o : Entry) → Contains es o → matches key s o ≡ true → ⊥)
hit_none kind.Keyless key s es h = inl refl
hit_none kind.Exact key s es h = inr (λ o there pass. hit_found kind.Exact key s es o there pass h)
hit_none kind.Prefix key s es h = inr (λ o there pass. hit_found kind.Prefix key s es o there pass h)
hit_none kind.Ternary key s es h = inr (λ o there pass. hit_found kind.Ternary key s es o there pass h)

-- ---- cells and entries

-- what the law rests on, of one table and one state
pub record Loaded (p : Program) (c : Config) (v : View) (cells : List CellOf) (n : ℕ) (t : Table) (es : List Entry) (s : List ℕ) : Type 0 where
  pub fit : FieldsFit p s t.key
  pub are : AreTableEntries n es (terms_of p t)
  pub carried : TableCellsCarried p c v cells n t (map (width_of p) t.key) es
  pub kind_of : (k place : ℕ) (stage : Stage) (slot : SlotUnit) → IsPart c n k place stage slot → (q : ℕ) × (0 < q) × HasKind t.kind q slot.memory

abbrev at_cell : ℕ → ℕ → ℕ → Spot
at_cell k place cell = record { stage = k; place = place; cell = cell }

-- a cell that holds an entry has the key where the entry matches
holds_key : (p : Program) (t : Table) (s : List ℕ) (first : ℕ) (e : Entry) (number n : ℕ) (content : Content) → FieldsFit p s t.key → IsEntry n (terms_of p t) e
    → HoldsEntry p t (map (width_of p) t.key) first e number content → has_key (joined p t.key s) content ≡ matches t.key s e
holds_key p t s first e number n content fit is holds =
    let key = joined p t.key s in
    ap (λ b. b && (bit_and key content.mask == content.key)) holds.seen
    ∙ ap (λ m. bit_and key m == content.key) holds.mask
    ∙ ap (λ x. bit_and key (tests_as_one (λ u. u.mask) (map (width_of p) t.key) e.tests) == x) holds.key
    ∙ key_agrees p s t.key e.tests fit is.tests

-- an entry that stands at a spot
record StandsAt (c : Config) (cells : List CellOf) (n : ℕ) (es : List Entry) (e : Entry) (at : Spot) : Type 0 where
  there : Contains es e
  spot : IsSpotOf c n at
  told : IsTold cells e at

has_as_matches : (p : Program) (c : Config) (v : View) (cells : List CellOf) (n : ℕ) (t : Table) (es : List Entry) (s : List ℕ) (e : Entry) (at : Spot)
    → Loaded p c v cells n t es s → StandsAt c cells n es e at → has_key (joined p t.key s) (v.content at.stage at.place at.cell) ≡ matches t.key s e
has_as_matches p c v cells n t es s e at l stands =
    let part = part_of_spot c n at stands.spot in
    let is : IsEntry n (terms_of p t) e = All-contains (IsEntry n (terms_of p t)) es e l.are.each stands.there in
    holds_key p t s (first_code part.0 at.place) e (v.number at.stage at.place at.cell) n (v.content at.stage at.place at.cell) l.fit is
    (l.carried.holds e at part.0 stands.there stands.spot stands.told part.2.stage_is)

-- a candidate that has the key holds an entry that matches
cell_entry : (p : Program) (c : Config) (v : View) (cells : List CellOf) (n : ℕ) (t : Table) (es : List Entry) (s : List ℕ)
    (k place cell : ℕ) (stage : Stage) (slot : SlotUnit) → Loaded p c v cells n t es s → IsPart c n k place stage slot
    → Contains (candidates v.seed (bits_of_lanes slot.keys) slot.memory (joined p t.key s)) cell → has_key (joined p t.key s) (v.content k place cell) ≡ true
    → (e : Entry) × StandsAt c cells n es e (at_cell k place cell) × (matches t.key s e ≡ true)
cell_entry p c v cells n t es s k place cell stage slot l part there has =
    let at = at_cell k place cell in
    let kd = l.kind_of k place stage slot part in
    let within = All-contains (λ j. j < cells_in slot.memory) (candidates v.seed (bits_of_lanes slot.keys) slot.memory (joined p t.key s)) cell
    (candidates_within t.kind kd.0 slot.memory kd.2 kd.1 v.seed (bits_of_lanes slot.keys) (joined p t.key s)) there in
    let spot = spot_of_part c n k place cell stage slot part within in
    let content = v.content k place cell in
    let seen = and_parts (is_seen content.head) (bit_and (joined p t.key s) content.mask == content.key) has in
    let o = l.carried.only at spot seen.0 in
    let stands : StandsAt c cells n es o.0 at = record { there = o.1; spot = spot; told = o.2 } in
    (o.0, stands, sym (has_as_matches p c v cells n t es s o.0 at l stands) ∙ has)

-- ---- nothing is hit

keyless_none : (q : ℕ) (m : Memory) (seed bits key : ℕ) (test : ℕ → Bool) → HasKind kind.Keyless q m → find test (candidates seed bits m key) ≡ None
keyless_none q Without seed bits key test h = refl
keyless_none q (Exact k per d first ks rs cs) seed bits key test h = absurd h
keyless_none q (Ternary d ks rs cs) seed bits key test h = absurd h

misses : (p : Program) (c : Config) (v : View) (cells : List CellOf) (n : ℕ) (t : Table) (es : List Entry) (s : List ℕ) → Loaded p c v cells n t es s
    → (t.kind ≡ kind.Keyless) ⊎ ((o : Entry) → Contains es o → matches t.key s o ≡ true → ⊥)
    → (k place : ℕ) (slot : SlotUnit) → slot_at c k place ≡ Some slot → slot.node ≡ n → look_in c v k place (joined p t.key s) ≡ None
misses p c v cells n t es s l why k place slot at node =
    let key = joined p t.key s in
    let part = part_of_slot c n k place slot at node in
    let kd = l.kind_of k place part.0 slot part.1 in
    let test : ℕ → Bool = λ j. has_key key (v.content k place j) in
    let there = candidates v.seed (bits_of_lanes slot.keys) slot.memory key in
    let none : find test there ≡ None = elim why [
      | inl keyless ↦
          keyless_none kd.0 slot.memory v.seed (bits_of_lanes slot.keys) key test (let P : Kind → Type 0 = λ x. HasKind x kd.0 slot.memory in subst P keyless kd.2)
      | inr misses_all ↦ none_unless (find test there) (λ j found.
          let f = found_passes test there j found in
          let e = cell_entry p c v cells n t es s k place j part.0 slot l part.1 f.0 f.1 in
          misses_all e.0 e.1.there e.2)
    ] in
    look_of_part c v n k place key part.0 slot part.1 ∙ ap (option_map (found_at v k place)) none

-- ---- an entry is hit

-- what else matches stands behind the entry that is hit, or is that one
behind : (p : Program) (c : Config) (v : View) (cells : List CellOf) (n : ℕ) (t : Table) (es : List Entry) (s : List ℕ) (e o : Entry) (a b : Spot) → Loaded p c v cells n t es s
    → IsHit t.kind t.key s es e → (t.kind ≡ kind.Keyless → ⊥) → StandsAt c cells n es e a → StandsAt c cells n es o b → matches t.key s o ≡ true
    → (b ≡ a) ⊎ (IsBefore a b × (precedes t.kind e o ≡ true))
behind p c v cells n t es s e o a b l hit keyed sa sb pass =
    elim (are_ordered p n t es s e o l.are keyed sa.there sb.there hit.matching pass) [
      | inl same ↦ inl (l.carried.one e b a sa.there sb.spot sa.spot (subst (λ x. IsTold cells x b) (sym same) sb.told) sa.told)
      | inr (inl before) ↦ inr (l.carried.order e o a b sa.there sb.there sa.spot sb.spot sa.told sb.told (goes_where_precedes t.kind e o before), before)
      | inr (inr other) ↦ absurd (hit.first o sb.there pass other)
    ]

-- rows are looked at by rising number
rows_rise : (kd : Kind) (q : ℕ) (m : Memory) (seed bits key : ℕ) (test : ℕ → Bool) (e o : Entry) (j cell : ℕ) → HasKind kd q m → precedes kd e o ≡ true
    → find test (candidates seed bits m key) ≡ Some j → cell < cells_in m → test cell ≡ true → j ≤ cell
rows_rise kd q Without seed bits key test e o j cell h before found lt pass = absurd (none-some j found)
rows_rise kind.Keyless q (Exact k per d first ks rs cs) seed bits key test e o j cell h before found lt pass = absurd h
rows_rise kind.Exact q (Exact k per d first ks rs cs) seed bits key test e o j cell h before found lt pass = absurd (both_ways false refl before)
rows_rise kind.Prefix q (Exact k per d first ks rs cs) seed bits key test e o j cell h before found lt pass = absurd h
rows_rise kind.Ternary q (Exact k per d first ks rs cs) seed bits key test e o j cell h before found lt pass = absurd h
rows_rise kd q (Ternary d ks rs cs) seed bits key test e o j cell h before found lt pass =
    find-least test 0 (2048 * d) j cell found (omega arith) (omega (arith, lt)) pass

-- the masks of an exact entry are whole, so that it has the one key that it matches
exact_key : (kd : Kind) (p : Program) (s key : List ℕ) (e : Entry) → FieldsFit p s key → kd ≡ kind.Exact → AllZip IsTest (map (width_of p) key) e.tests
    → HasRank kd (map (width_of p) key) e → matches key s e ≡ true → tests_as_one (λ t. t.value) (map (width_of p) key) e.tests ≡ joined p key s
exact_key kd p s key e fit same tests rank pass =
    let P : Kind → Type 0 = λ x. HasRank x (map (width_of p) key) e in
    let r : P kind.Exact = subst P same rank in
    sym (whole_key p s key e.tests fit tests r.0 pass)

finds : (p : Program) (c : Config) (v : View) (cells : List CellOf) (n : ℕ) (t : Table) (es : List Entry) (s : List ℕ) (e : Entry) (a : Spot) → Loaded p c v cells n t es s
    → IsHit t.kind t.key s es e → (t.kind ≡ kind.Keyless → ⊥) → StandsAt c cells n es e a → FindsEntry p c v n t (joined p t.key s) e
finds p c v cells n t es s e a l hit keyed sa =
    let key = joined p t.key s in
    let q = part_of_spot c n a sa.spot in
    let stage = q.0 in
    let slot = q.1 in
    let part : IsPart c n a.stage a.place stage slot = q.2 in
    let kd = l.kind_of a.stage a.place stage slot part in
    let is : IsEntry n (terms_of p t) e = All-contains (IsEntry n (terms_of p t)) es e l.are.each sa.there in
    let test : ℕ → Bool = λ j. has_key key (v.content a.stage a.place j) in
    let there = candidates v.seed (bits_of_lanes slot.keys) slot.memory key in
    let pass : test a.cell ≡ true = has_as_matches p c v cells n t es s e a l sa ∙ hit.matching in
    let own = tests_as_one (λ u. u.value) (map (width_of p) t.key) e.tests in
    let could = and_at (slot_of stage a.place) (λ (x : SlotUnit). Contains (candidates v.seed (bits_of_lanes x.keys) x.memory own) a.cell) slot part.slot_is
    (and_at (slice_get c.stages a.stage) (λ (x : Stage). IsSomeAnd (slot_of x a.place) (λ (y : SlotUnit). Contains (candidates v.seed (bits_of_lanes y.keys) y.memory own) a.cell)) stage part.stage_is
    (l.carried.candidate e a sa.there sa.spot sa.told)) in
    let can = same_candidates t.kind kd.0 slot.memory kd.2 v.seed (bits_of_lanes slot.keys) key own a.cell
    (λ exact. exact_key t.kind p s t.key e l.fit exact is.tests is.rank hit.matching) could in
    let f = find-some test there a.cell can pass in
    let g = found_passes test there f.0 f.1 in
    let o = cell_entry p c v cells n t es s a.stage a.place f.0 stage slot l part g.0 g.1 in
    let same : f.0 ≡ a.cell = elim (behind p c v cells n t es s e o.0 a (at_cell a.stage a.place f.0) l hit keyed sa o.1 o.2) [
      | inl at ↦ ap (λ (x : Spot). x.cell) at
      | inr after ↦ elim after.0 [
        | inl lt ↦ absurd (omega (arith, lt))
        | inr both ↦
            let le = rows_rise t.kind kd.0 slot.memory v.seed (bits_of_lanes slot.keys) key test e o.0 f.0 a.cell kd.2 after.1 f.1 q.3 pass in
            absurd (omega (arith, both.1, le))
      ]
    ] in
    let holds = l.carried.holds e a stage sa.there sa.spot sa.told part.stage_is in
    record {
      k = a.stage;
      place = a.place;
      stage = stage;
      slot = slot;
      found = found_at v a.stage a.place a.cell;
      stage_is = part.stage_is;
      slot_is = part.slot_is;
      node_is = part.node_is;
      looks = look_of_part c v n a.stage a.place key stage slot part ∙ ap (option_map (found_at v a.stage a.place)) (f.1 ∙ ap Some same);
      is_entry = record { code = holds.code; held = holds.held; number = holds.number_is };
      none_before = λ j i other lt at node.
          let before = part_of_slot c n j i other at node in
          let test_there : ℕ → Bool = λ m. has_key key (v.content j i m) in
          let cands = candidates v.seed (bits_of_lanes other.keys) other.memory key in
          let none : find test_there cands ≡ None = none_unless (find test_there cands) (λ m found.
          let h = found_passes test_there cands m found in
          let x = cell_entry p c v cells n t es s j i m before.0 other l before.1 h.0 h.1 in
          elim (behind p c v cells n t es s e x.0 a (at_cell j i m) l hit keyed sa x.1 x.2) [
            | inl at_a ↦ let eq = ap (λ (y : Spot). y.stage) at_a in omega (arith, lt, eq)
            | inr after ↦ elim after.0 [
              | inl later ↦ omega (arith, lt, later)
              | inr both ↦ let eq = both.0 in omega (arith, lt, eq)
            ]
          ]) in
          look_of_part c v n j i key before.0 other before.1 ∙ ap (option_map (found_at v j i)) none;
    }

-- ---- the law

pub by_hit : (p : Program) (c : Config) (v : View) (cells : List CellOf) (n : ℕ) (t : Table) (es : List Entry) (s : List ℕ) → Loaded p c v cells n t es s
    → (o : Option Entry) → hit_of t.kind t.key es s ≡ o → FindsAs p c v n t (joined p t.key s) o
by_hit p c v cells n t es s l None h = misses p c v cells n t es s l (hit_none t.kind t.key s es h)
by_hit p c v cells n t es s l (Some e) h =
    let r = hit_some t.kind t.key s es e h in
    let hit = r.0 in
    let a = All-contains (λ (x : Entry). (at : Spot) × IsSpotOf c n at × IsTold cells x at) es e l.carried.each hit.there in
    finds p c v cells n t es s e a.0 l hit r.1 (record { there = hit.there; spot = a.1; told = a.2 })
