-- What an entry that is hit is, and what holds of the entries that are left.
use Rattle.std.proofs.Common.{◌≡◌, ℕ, ◌≤◌, Bool, true, false, cond, List, [], ◌∷◌, Some, arith}
use Rattle.std.specs.Prelude.{All, Contains}
use Rattle.std.proofs.lemmas.Option.{none-some}
use Rattle.std.proofs.lemmas.List.Elements.{All-cons, All-contains_itself, All-head, All-tail}
use Rattle.rmt_bits.proofs.AllLaws.{All-find}
use Rattle.rmt_ast.specs.declared.program.Kind.{Kind}
use Rattle.rmt_ast.specs.declared.program.Kind.TheVariants.{Keyless, Exact, Prefix, Ternary}
use Rattle.rmt_ast.specs.declared.entry.Entry.{Entry}
use Rattle.rmt_ast.specs.Changes.{Adds, Change, EntryKey, Installed, Removes, changed, is_keyed_by, without}
use Rattle.rmt_ast.specs.Lookup.{hit_of, hits}

-- an entry that is hit is of the table
pub hit_among : (kind : Kind) (key : List ℕ) (es : List Entry) (s : List ℕ) (e : Entry) → hit_of kind key es s ≡ Some e → Contains es e
hit_among Keyless key es s e same = absurd (none-some e same)
hit_among Exact key es s e same = All-find (Contains es) (hits Exact key es s) es e (All-contains_itself es) same
hit_among Prefix key es s e same = All-find (Contains es) (hits Prefix key es s) es e (All-contains_itself es) same
hit_among Ternary key es s e same = All-find (Contains es) (hits Ternary key es s) es e (All-contains_itself es) same

-- what holds of all entries holds without the one of a key
pub all_without : (P : Entry → Type 0) (key : EntryKey) (es : List Entry) → All P es → All P (without key es)
all_without P key [] all = all
all_without P key (e ∷ es) all = by (is_keyed_by key e) (all_without P key es (All-tail P e es all))
  where
    by : (b : Bool) → All P (without key es) → All P (cond b es (e ∷ without key es))
    by true rest = All-tail P e es all
    by false rest = All-cons P e (without key es) (All-head P e es all) rest

-- the next number only rises
pub next_changed : (s : Installed) (change : Change) → s.next ≤ (changed s change).next
next_changed s (Adds e) = omega arith
next_changed s (Removes node key) = omega arith
