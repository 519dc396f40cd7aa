-- The rule of the clustered parser, on rows by state.
use Rattle.std.proofs.Common.{◌≡◌, cond, Bool, true, false, ◌+◌, ◌<◌, ◌≤◌, List, [], ◌∷◌, ◌++◌, length, map, take, drop, Option, Some, None, refl, sym, ap, ◌∙◌, arith}
use Rattle.std.specs.Prelude.{option_map, slice_get, slice_set}
use Rattle.std.proofs.lemmas.List.{length-append, length-map, length-take-le}
use Rattle.std.proofs.lemmas.Option.{same_Some, slice_get-map, slice_get_within}
use Rattle.rmt_bits.proofs.ListLaws.{slice_get-set_same}
use Rattle.rmt_ptcam.specs.Types.{Program, ParserConfig, ParserEntry, Next}
use Rattle.rmt_ptcam.specs.declared.joining.rows.StateRows.{StateRows}
use Rattle.rmt_ptcam.specs.declared.joins.Join.{Join}
use Rattle.rmt_config.specs.declared.config.Next.TheVariants as next
use Rattle.rmt_ptcam.specs.Clustering.{Clustering, all_headers, all_joined, behind_join, is_wanted, next_entry, one_entry}
use Rattle.rmt_ptcam.specs.Grouping.{Stand, by_state, joined_in, parser_in, put_at, put_in, stand_in_for, widened_row}
use Rattle.rmt_ptcam.specs.Joining.{KeepsForm, Row, entries_in, entries_to, entry_named, join_named, joined_row}
use Rattle.rmt_ptcam.proofs.AddingLaws.{numbers_within}
use Rattle.rmt_ptcam.proofs.GroupLaws.{parser_again}
use Rattle.rmt_ptcam.proofs.InPlaceLaws.{IsMade, absent_in, count_in_state, entries_in_state, joined_none, joined_stand, made}

-- where an entry goes
abbrev pub goes_on : Option ParserEntry → Option Next
goes_on o = option_map (λ (e : ParserEntry). e.next) o

-- ---- rows that are looked at

module _ (g : List StateRows) (stand : Stand g) (j : Join) where
  pub named_row : (s : StateRows) (o : Option Row) → slice_get g j.state ≡ Some s → slice_get s.rows j.entry ≡ o → entry_named (parser_in g) j ≡ option_map (λ (x : Row). x.entry) o
  named_row s o at_n at_j =
      ap (λ (es : List ParserEntry). slice_get es j.entry) (entries_in_state g j.state s stand.own at_n) ∙ slice_get-map (λ (x : Row). x.entry) s.rows j.entry ∙ ap (option_map (λ (x : Row). x.entry)) at_j

  pub named_nowhere : slice_get g j.state ≡ None → entry_named (parser_in g) j ≡ None
  named_nowhere none = ap (λ (es : List ParserEntry). slice_get es j.entry) (absent_in g j.state stand.own none)

-- ---- one entry

module _ (p : Program) (g : List StateRows) (stand : Stand g) (js : List Join) (j : Join) where
  abbrev now : Clustering
  now = record { parser = parser_in g; joins = js; behind = j.entry }

  -- the entry isn't there
  pub step_past : goes_on (entry_named (parser_in g) j) ≡ None → now ≡ next_entry p j.state now
  step_past none = by (entry_named (parser_in g) j) none
    where
      by : (o : Option ParserEntry) → goes_on o ≡ None → now ≡ one_entry p now j o
      by None is = refl
      by (Some e) is = absurd cc

  module _ (to : Next) (goes : goes_on (entry_named (parser_in g) j) ≡ Some to) where
    step_is : next_entry p j.state now ≡ behind_join now j to (cond (is_wanted p (parser_in g) to) (join_named (parser_in g) j) None)
    step_is = by (entry_named (parser_in g) j) goes
      where
        by : (o : Option ParserEntry) → goes_on o ≡ Some to → one_entry p now j o ≡ behind_join now j to (cond (is_wanted p (parser_in g) to) (join_named (parser_in g) j) None)
        by None is = absurd cc
        by (Some e) is = ap (λ (t : Next). behind_join now j t (cond (is_wanted p (parser_in g) t) (join_named (parser_in g) j) None)) (same_Some e.next to is)

    -- the entry is there
    pub step_there : j.entry < length (entries_in j.state (parser_in g).entries)
    step_there = by (entry_named (parser_in g) j) refl goes
      where
        by : (o : Option ParserEntry) → entry_named (parser_in g) j ≡ o → goes_on o ≡ Some to → j.entry < length (entries_in j.state (parser_in g).entries)
        by None there is = absurd cc
        by (Some e) there is = slice_get_within (entries_in j.state (parser_in g).entries) j.entry e there

    -- it isn't to be joined
    pub step_unwanted : is_wanted p (parser_in g) to ≡ false → ◌≡◌ {A = Clustering} (record { parser = parser_in g; joins = js; behind = j.entry + 1 }) (next_entry p j.state now)
    step_unwanted not = sym (step_is ∙ ap (λ (b : Bool). behind_join now j to (cond b (join_named (parser_in g) j) None)) not)

    -- it can't be joined
    pub step_alone : joined_in g j ≡ None → ◌≡◌ {A = Clustering} (record { parser = parser_in g; joins = js; behind = j.entry + 1 }) (next_entry p j.state now)
    step_alone none = sym (step_is ∙ ap (λ (o : Option ParserConfig). behind_join now j to (cond (is_wanted p (parser_in g) to) o None)) (joined_none g stand j none) ∙ by (is_wanted p (parser_in g) to))
      where
        by : (b : Bool) → behind_join now j to (cond b None None) ≡ record { parser = parser_in g; joins = js; behind = j.entry + 1 }
        by true = refl
        by false = refl

    -- it is joined
    module _ (wanted : is_wanted p (parser_in g) to ≡ true) (h : List StateRows) (joined : joined_in g j ≡ Some h) where
      pub step_joined : ◌≡◌ {A = Clustering} (record { parser = parser_in h; joins = js ++ j ∷ []; behind = j.entry + length (entries_to (parser_in g) to) }) (next_entry p j.state now)
      step_joined =
          sym (step_is ∙ ap (λ (b : Bool). behind_join now j to (cond b (join_named (parser_in g) j) None)) wanted ∙ ap (behind_join now j to) (joined_stand g h stand j joined).0)

      pub step_within : j.entry + length (entries_to (parser_in g) to) ≤ length (entries_in j.state (parser_in h).entries)
      step_within = by (stand_in_for g j) refl joined
        where
          by : (o : Option StateRows) → stand_in_for g j ≡ o → option_map (put_at g j (slice_get g j.state)) o ≡ Some h → j.entry + length (entries_to (parser_in g) to) ≤ length (entries_in j.state (parser_in h).entries)
          by None none given = absurd cc
          by (Some new) some given =
              let is : IsMade g j new = made g j new some in
              let put : StateRows = put_in is.s j.entry new in
              let same : slice_set g j.state put ≡ h = same_Some _ h (ap (λ (o : Option StateRows). Some (put_at g j o new)) (sym is.at_n) ∙ given) in
              let there : slice_get h j.state ≡ Some put = ap (λ (k : List StateRows). slice_get k j.state) (sym same) ∙ slice_get-set_same g j.state is.s put is.at_n in
              let count = count_in_state h j.state put (joined_stand g h stand j joined).1.own there in
              let on : to ≡ next.State is.m = sym (same_Some is.x.entry.next to (ap goes_on (sym (named_row g stand j is.s (Some is.x) is.at_n is.at_j)) ∙ goes)) ∙ is.on in
              let others : length (entries_to (parser_in g) to) ≡ length is.t.rows = ap (λ (t : Next). length (entries_to (parser_in g) t)) on ∙ count_in_state g is.m is.t stand.own is.at_m in
              let rows : length new.rows ≡ length is.t.rows = ap (λ (u : StateRows). length u.rows) is.is ∙ length-map is.t.rows (joined_row is.s.lookups is.t.lookups is.x.entry) in
              let low = slice_get_within is.s.rows j.entry is.x is.at_j in
              let a = length-append (map (widened_row is.s.lookups new.lookups) (take j.entry is.s.rows)) (new.rows ++ map (widened_row is.s.lookups new.lookups) (drop (j.entry + 1) is.s.rows)) in
              let b = length-append new.rows (map (widened_row is.s.lookups new.lookups) (drop (j.entry + 1) is.s.rows)) in
              let d = length-map (take j.entry is.s.rows) (widened_row is.s.lookups new.lookups) in
              let f = length-take-le j.entry is.s.rows (let lt = low in omega (arith, lt)) in
              omega (arith, count, others, rows, a, b, d, f)

      pub step_small : j.entry + length (entries_to (parser_in g) to) < 65536
      step_small =
          let within = step_within in
          let own = numbers_within j.state (parser_in h).entries in
          let few = (joined_stand g h stand j joined).1.keeps.few in
          omega (arith, within, own, few)

-- what is known where it was joined
pub record StepTaken (p : Program) (g : List StateRows) (js : List Join) (j : Join) (to : Next) (h : List StateRows) : Type 0 where
  pub step : ◌≡◌ {A = Clustering} (record { parser = parser_in h; joins = js ++ j ∷ []; behind = j.entry + length (entries_to (parser_in g) to) }) (next_entry p j.state (record { parser = parser_in g; joins = js; behind = j.entry }))
  pub stand : Stand h
  pub within : j.entry + length (entries_to (parser_in g) to) ≤ length (entries_in j.state (parser_in h).entries)
  pub small : j.entry + length (entries_to (parser_in g) to) < 65536

pub step_taken : (p : Program) (g : List StateRows) → Stand g → (js : List Join) (j : Join) (to : Next) → goes_on (entry_named (parser_in g) j) ≡ Some to → is_wanted p (parser_in g) to ≡ true
    → (h : List StateRows) (done : Bool) → cond done (Some h) None ≡ joined_in g j → done ≡ true → StepTaken p g js j to h
step_taken p g stand js j to goes wanted h done made is =
    let some : joined_in g j ≡ Some h = sym made ∙ ap (λ b. cond b (Some h) None) is in
    record {
      step = step_joined p g stand js j to goes wanted h some;
      stand = (joined_stand g h stand j some).1;
      within = step_within p g stand js j to goes wanted h some;
      small = step_small p g stand js j to goes wanted h some;
    }

-- ---- all of them

-- the parser behind all joins of the rule
pub joined_behind : (p : Program) (parser : ParserConfig) → KeepsForm parser → (start groups : List StateRows) (new : ParserConfig) → start ≡ by_state parser → parser_in groups ≡ all_joined p (parser_in start) → new ≡ parser_in groups
    → new ≡ all_joined p parser
joined_behind p parser keeps start groups new first joined is = is ∙ joined ∙ ap (all_joined p) (ap parser_in first ∙ parser_again parser keeps)

-- and the joins
pub joins_behind : (p : Program) (parser : ParserConfig) → KeepsForm parser → (start : List StateRows) (js : List Join) → start ≡ by_state parser → js ≡ (all_headers p (parser_in start)).joins → js ≡ (all_headers p parser).joins
joins_behind p parser keeps start js first is = is ∙ ap (λ (q : ParserConfig). (all_headers p q).joins) (ap parser_in first ∙ parser_again parser keeps)
