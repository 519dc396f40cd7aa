-- What each join keeps, all joins of the clustered parser keep.
use Rattle.std.proofs.Common.{◌≡◌, ℕ, zero, suc, ◌+◌, Bool, true, false, cond, eqb, nat_lt, List, [], ◌∷◌, ◌++◌, Option, Some, None, get_or, length, map, take, drop, refl, subst}
use Rattle.std.specs.Prelude.{All, IfSome, slice_get}
use Rattle.std.proofs.lemmas.List.Elements.{All-append, All-drop, All-map, All-take}
use Rattle.rmt_ptcam.specs.Types.{Program, ParserConfig, ParserEntry, Next}
use Rattle.rmt_config.specs.declared.config.Next.TheVariants as next
use Rattle.rmt_ptcam.specs.declared.joins.Join.{Join}
use Rattle.rmt_ptcam.specs.Clustering.{Clustering, all_joined, behind_join, is_wanted, next_entry, one_entry, one_header, some_entries, some_headers, unjoined}
use Rattle.rmt_ptcam.specs.Joining.{Row, can_join, entries_in, entry_named, join_at, join_named, join_of, join_to, joined, joined_row, lookups_at, number_of_entry, rows_in, rows_of, together, widened, widened_entry}

-- whatever entry is joined, P stays
abbrev pub StaysUnderJoins : (ParserConfig → Type 0) → Type 0
StaysUnderJoins P = (parser : ParserConfig) (at : ℕ) (e : ParserEntry) (m : ℕ) → slice_get parser.entries at ≡ Some e → e.next ≡ next.State m → can_join parser at e m ≡ true → P parser → P (joined parser at e m)

module _ (P : ParserConfig → Type 0) (stays : StaysUnderJoins P) where
  pub join_holds : (parser : ParserConfig) (at : ℕ) (o : Option ParserEntry) → slice_get parser.entries at ≡ o → P parser → IfSome (join_at parser at o) P
  join_holds parser at None there here = tt
  join_holds parser at (Some e) there here = by e.next refl
    where
      when : (m : ℕ) (b : Bool) → e.next ≡ next.State m → can_join parser at e m ≡ b → IfSome (cond b (Some (joined parser at e m)) None) P
      when m true on can = stays parser at e m there on can here
      when m false on can = tt

      by : (to : Next) → e.next ≡ to → IfSome (join_to parser at e to) P
      by next.Accept on = tt
      by next.Reject on = tt
      by (next.State m) on = when m (can_join parser at e m) on refl

  pub named_holds : (parser : ParserConfig) (j : Join) → P parser → IfSome (join_named parser j) P
  named_holds parser j here = by (nat_lt j.entry (length (entries_in j.state parser.entries)))
    where
      by : (b : Bool) → IfSome (cond b (join_of parser j.state j.entry) None) P
      by true = join_holds parser (number_of_entry parser.entries j.state j.entry) (slice_get parser.entries (number_of_entry parser.entries j.state j.entry)) refl here
      by false = tt

-- what each join keeps of a parser and of the joins that were made, all joins keep
module _ (C : ParserConfig → List Join → Type 0) (more : (parser q : ParserConfig) (js : List Join) (j : Join) → join_named parser j ≡ Some q → C parser js → C q (js ++ j ∷ [])) (p : Program) where
  abbrev Holds : Clustering → Type 0
  Holds c = C c.parser c.joins

  entry_holds : (n : ℕ) (c : Clustering) → Holds c → Holds (next_entry p n c)
  entry_holds n c here = by (entry_named c.parser j)
    where
      j : Join
      j = record { state = n; entry = c.behind }

      named : (to : Next) (o : Option ParserConfig) → join_named c.parser j ≡ o → Holds (behind_join c j to o)
      named to None is = here
      named to (Some q) is = more c.parser q c.joins j is here

      wanted : (to : Next) (b : Bool) → Holds (behind_join c j to (cond b (join_named c.parser j) None))
      wanted to true = named to (join_named c.parser j) refl
      wanted to false = here

      by : (o : Option ParserEntry) → Holds (one_entry p c j o)
      by None = here
      by (Some e) = wanted e.next (is_wanted p c.parser e.next)

  entries_hold : (n count : ℕ) (c : Clustering) → Holds c → Holds (some_entries p n count c)
  entries_hold n zero c here = here
  entries_hold n (suc count) c here = entries_hold n count (next_entry p n c) (entry_holds n c here)

  pub headers_hold : (n : ℕ) (c : Clustering) → Holds c → Holds (some_headers p n c)
  headers_hold zero c here = here
  headers_hold (suc n) c here = headers_hold n (one_header p n c) (entries_hold n (length (entries_in n c.parser.entries)) (record c { behind = 0 }) here)

pub joins_hold : (P : ParserConfig → Type 0) → StaysUnderJoins P → (p : Program) (parser : ParserConfig) → P parser → P (all_joined p parser)
joins_hold P stays p parser here =
    headers_hold (λ (q : ParserConfig) (js : List Join). P q) (λ (q r : ParserConfig) (js : List Join) (j : Join) is hold. subst (λ (o : Option ParserConfig). IfSome o P) is (named_holds P stays q j hold)) p (length p.headers) (unjoined parser) here

-- ---- rows

-- the rows of a parser in which entry number at, e, is joined to the entries of state m
abbrev pub rows_joined : ParserConfig → ℕ → ParserEntry → ℕ → List Row
rows_joined parser at e m =
    let here = lookups_at parser.states e.state in
    let there = lookups_at parser.states m in
    let to = together here e.advance there in
    map (widened here to e.state) (take at (rows_of parser)) ++ (map (joined_row here there e) (rows_in m (rows_of parser)) ++ map (widened here to e.state) (drop (at + 1) (rows_of parser)))

module _ (R : Row → Type 0) (wide : (from to : List ℕ) (x : Row) → R x → R (record x { entry = widened_entry from to x.entry })) where
  widened_holds : (from to : List ℕ) (state : ℕ) (x : Row) → R x → R (widened from to state x)
  widened_holds from to state x here = by (eqb x.entry.state state)
    where
      by : (b : Bool) → R (cond b (record x { entry = widened_entry from to x.entry }) x)
      by true = wide from to x here
      by false = here

  -- what holds of the rows of a parser, and of the joined ones
  pub rows_hold : (parser : ParserConfig) (at : ℕ) (e : ParserEntry) (m : ℕ) → All R (rows_of parser)
      → All R (map (joined_row (lookups_at parser.states e.state) (lookups_at parser.states m) e) (rows_in m (rows_of parser))) → All R (rows_joined parser at e m)
  rows_hold parser at e m all own =
      let here = lookups_at parser.states e.state in
      let there = lookups_at parser.states m in
      let wider = widened here (together here e.advance there) e.state in
      let each : (xs : List Row) → All R xs → All R (map wider xs) =
      λ xs hold. All-map R wider xs (λ k d lt. widened_holds here (together here e.advance there) e.state (get_or xs k d) (hold k d lt)) in
      All-append R (map wider (take at (rows_of parser))) (map (joined_row here there e) (rows_in m (rows_of parser)) ++ map wider (drop (at + 1) (rows_of parser)))
      (each (take at (rows_of parser)) (All-take R at (rows_of parser) all))
      (All-append R (map (joined_row here there e) (rows_in m (rows_of parser))) (map wider (drop (at + 1) (rows_of parser))) own
      (each (drop (at + 1) (rows_of parser)) (All-drop R (at + 1) (rows_of parser) all)))
