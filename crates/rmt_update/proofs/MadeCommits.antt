-- Whether a commit can be made is decided: it is made without a cell that moves, or by the first seed under which its entries load, or no
-- seed loads them.
use Rattle.std.proofs.Common.{◌≡◌, ◌⊎◌, ℕ, zero, suc, ◌<◌, Bool, true, false, List, [], Option, Some, None, option_map, unwrap_or, inl, inr, refl, sym, ap, subst, arith}
use Rattle.std.specs.Prelude.{Contains, IsSomeAnd, count_by, slice_get}
use Rattle.std.specs.Option.{option_to_list}
use Rattle.std.proofs.lemmas.Bool.{cases_eq}
use Rattle.std.proofs.lemmas.List.Elements.{All-weaker}
use Rattle.rmt_bits.proofs.MemberLaws.{Contains-first, Contains-split}
use Rattle.rmt_ast.specs.declared.entry.Entry.{Entry}
use Rattle.rmt_ast.specs.declared.names.Names.{Names}
use Rattle.rmt_ast.specs.declared.program.Kind.{Kind}
use Rattle.rmt_ast.specs.declared.program.Kind.TheVariants as kind
use Rattle.rmt_ast.specs.Changes.{list_of}
use Rattle.rmt_ast.specs.EntryLists.{Terms}
use Rattle.rmt_ast.specs.NameRules.{AreEntriesOf, terms_named}
use Rattle.rmt_ast.specs.RowOrder.{goes_first}
use Rattle.rmt_config.specs.declared.cell_write.CellWrite.{CellWrite}
use Rattle.rmt_config.specs.declared.config.Config.{Config}
use Rattle.rmt_config.specs.Commits.{AreFilled, AreWrites, IsFilled, Makes, Placed, all_entries, filled, moves, placed_after, settled, stays}
use Rattle.rmt_config.specs.Form.{Formed}
use Rattle.rmt_config.specs.Limits.{IsWithinLimits}
use Rattle.rmt_config.specs.Rooms.{Room, key_number, rooms_for}
use Rattle.rmt_config.specs.RunCells.{RunCells, with_version}
use Rattle.rmt_update.specs.Fitting.{AreFit}
use Rattle.rmt_update.proofs.FitMakes.{makes_fit, version_fit}
use Rattle.rmt_update.proofs.MadeChoices.{HasOneOf, rooms_decided}
use Rattle.rmt_update.proofs.MadeWrites.{are_writes_made}

-- ---- the rooms of an entry where rows are filled anew

some-there : {X : Type 0} (o : Option X) (x : X) → o ≡ Some x → Contains (option_to_list o) x
some-there o x e = subst (λ q. Contains (option_to_list q) x) (sym e) (Contains-first x [])

there-some : {X : Type 0} (o : Option X) (x : X) → Contains (option_to_list o) x → o ≡ Some x
there-some None x there = absurd (let lt = there.1 in omega (arith, lt))
there-some (Some y) x there = elim (Contains-split y [] x there) [
  | inl e ↦ ap Some e
  | inr later ↦ absurd (let lt = later.1 in omega (arith, lt))
]

abbrev row_room : Config → ℕ → Terms → Kind → List Entry → Entry → Option Room
row_room c seed t k es e = slice_get (rooms_for c seed e.table (key_number t e)) (count_by (λ f. goes_first k f e) es)

abbrev filled_rooms : Config → ℕ → Terms → Kind → List Entry → Entry → List Room
filled_rooms c seed t kind.Keyless es e = []
filled_rooms c seed t kind.Exact es e = rooms_for c seed e.table (key_number t e)
filled_rooms c seed t kind.Prefix es e = option_to_list (row_room c seed t kind.Prefix es e)
filled_rooms c seed t kind.Ternary es e = option_to_list (row_room c seed t kind.Ternary es e)

filled-given : (c : Config) (seed : ℕ) (t : Terms) (k : Kind) (es : List Entry) (e : Entry) (room : Room) → IsFilled c seed t k es e room → Contains (filled_rooms c seed t k es e) room
filled-given c seed t kind.Keyless es e room h = absurd h
filled-given c seed t kind.Exact es e room h = h
filled-given c seed t kind.Prefix es e room h = some-there (row_room c seed t kind.Prefix es e) room h
filled-given c seed t kind.Ternary es e room h = some-there (row_room c seed t kind.Ternary es e) room h

given-filled : (c : Config) (seed : ℕ) (t : Terms) (k : Kind) (es : List Entry) (e : Entry) (room : Room) → Contains (filled_rooms c seed t k es e) room → IsFilled c seed t k es e room
given-filled c seed t kind.Keyless es e room h = absurd (let lt = h.1 in omega (arith, lt))
given-filled c seed t kind.Exact es e room h = h
given-filled c seed t kind.Prefix es e room h = there-some (row_room c seed t kind.Prefix es e) room h
given-filled c seed t kind.Ternary es e room h = there-some (row_room c seed t kind.Ternary es e) room h

module _ (c : Config) (names : Names) (seed : ℕ) (lists : List (List Entry)) where
  abbrev rooms_by : Entry → Terms → List Room
  rooms_by e t = filled_rooms c seed t t.kind (list_of lists e.table) e

  abbrev rooms_given : Entry → List Room
  rooms_given e = unwrap_or (option_map (rooms_by e) (terms_named names e.table)) []

  abbrev HasItsRoom : Placed → Type 0
  HasItsRoom p = IsSomeAnd (terms_named names p.entry.table) (λ t. IsFilled c seed t t.kind (list_of lists p.entry.table) p.entry p.room)

  its-given : (p : Placed) → HasItsRoom p → HasOneOf rooms_given p
  its-given p h = by (terms_named names p.entry.table) h
    where
      by : (o : Option Terms) → IsSomeAnd o (λ t. IsFilled c seed t t.kind (list_of lists p.entry.table) p.entry p.room) → Contains (unwrap_or (option_map (rooms_by p.entry) o) []) p.room
      by None h = absurd h
      by (Some t) h = filled-given c seed t t.kind (list_of lists p.entry.table) p.entry p.room h

  given-its : (p : Placed) → HasOneOf rooms_given p → HasItsRoom p
  given-its p h = by (terms_named names p.entry.table) h
    where
      by : (o : Option Terms) → Contains (unwrap_or (option_map (rooms_by p.entry) o) []) p.room → IsSomeAnd o (λ t. IsFilled c seed t t.kind (list_of lists p.entry.table) p.entry p.room)
      by None h = absurd (let lt = h.1 in omega (arith, lt))
      by (Some t) h = given-filled c seed t t.kind (list_of lists p.entry.table) p.entry p.room h

  -- a seed loads entries or not
  pub loading_decided : ((placed : List Placed) × AreFilled c names seed lists placed) ⊎ ((placed : List Placed) → AreFilled c names seed lists placed → ⊥)
  loading_decided = elim (rooms_decided rooms_given (all_entries lists)) [
    | inl some ↦ inl (some.0, record { each = some.1.each; apart = some.1.apart; rooms = All-weaker (HasOneOf rooms_given) HasItsRoom given-its some.0 some.1.own })
    | inr none ↦ inr (λ placed filled. none placed (record { each = filled.each; apart = filled.apart; own = All-weaker HasItsRoom (HasOneOf rooms_given) its-given placed filled.rooms }))
  ]

-- ---- the first seed

module _ (c : Config) (names : Names) (lists : List (List Entry)) where
  -- no seed below this one loads entries
  abbrev NoneBelow : ℕ → Type 0
  NoneBelow n = (s : ℕ) (placed : List Placed) → s < n → AreFilled c names s lists placed → ⊥

  record Loads (n : ℕ) : Type 0 where
    seed : ℕ
    below : seed < n
    first : NoneBelow seed
    placed : List Placed
    filled : AreFilled c names seed lists placed

  first_below : (n : ℕ) → Loads n ⊎ NoneBelow n
  first_below zero = inr (λ s placed lt filled. absurd (omega (arith, lt)))
  first_below (suc n) = elim (first_below n) [
    | inl some ↦ inl (let lt = some.below in record { seed = some.seed; below = omega (arith, lt); first = some.first; placed = some.placed; filled = some.filled })
    | inr none ↦ elim (loading_decided c names n lists) [
      | inl here ↦ inl (record { seed = n; below = omega arith; first = none; placed = here.0; filled = here.1 })
      | inr not_here ↦ inr (λ s placed lt filled. elim (cases_eq s n) [
        | inl e ↦ not_here placed (subst (λ m. AreFilled c names m lists placed) e filled)
        | inr ne ↦ none s placed (omega (arith, lt, ne)) filled
      ])
    ]
  ]

-- ---- the decision

-- a commit that is made, with the changed cells that make it
pub record IsDone (c : Config) (names : Names) (cells : RunCells) (before after : List (List Entry)) : Type 0 where
  pub moved : Bool
  pub seed : ℕ
  pub next : RunCells
  pub writes : List CellWrite
  pub makes : Makes c names cells before after moved seed next
  pub writes_are : AreWrites c cells next writes
  pub fit : AreFit c (with_version next seed)

-- a cell must move, and no seed loads the entries
abbrev pub IsUnplaced : Config → Names → RunCells → List (List Entry) → List (List Entry) → Type 0
IsUnplaced c names cells before after = (placed_after c names cells before after ≡ None) × ((seed : ℕ) (placed : List Placed) → seed < 8 → AreFilled c names seed after placed → ⊥)

module _ (c : Config) (names : Names) (cells : RunCells) (before after : List (List Entry))
    (formed : Formed c) (limits : IsWithinLimits c) (named : c.names ≡ Some names) (entries : AreEntriesOf names after) (fit : AreFit c cells) where
  done : (moved : Bool) (seed : ℕ) (next : RunCells) → Makes c names cells before after moved seed next → IsDone c names cells before after
  done moved seed next makes =
      let next_fit = makes_fit c names cells before after moved seed next formed limits named entries fit makes in
      let made = are_writes_made c cells next next_fit in
      record { moved = moved; seed = seed; next = next; writes = made.0; makes = makes; writes_are = made.1; fit = version_fit c next seed next_fit }

  by_placed : (o : Option (List Placed)) → placed_after c names cells before after ≡ o → IsDone c names cells before after ⊎ IsUnplaced c names cells before after
  by_placed (Some placed) e = inl (done false cells.seed (settled c names cells before placed) (stays placed e))
  by_placed None e = elim (first_below c names after 8) [
    | inl some ↦
        inl (done true some.seed (filled c names cells some.placed) (moves some.seed some.placed e (record { in_range = some.below; first = some.first }) some.filled))
    | inr none ↦ inr (e, none)
  ]

  pub commit_decided : IsDone c names cells before after ⊎ IsUnplaced c names cells before after
  commit_decided = by_placed (placed_after c names cells before after) refl
