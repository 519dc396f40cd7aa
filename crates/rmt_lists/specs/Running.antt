-- The entries of a run as the lines that change them leave them.
use Rattle.std.specs.Prelude.{◌≡◌, ◌<◌, ℕ, ◌+◌, List, [], ◌∷◌, ◌++◌, Bool, false, not, ◌==◌, ◌&&◌, ◌||◌, nat_le, if◌then◌else◌, Option, Some, None, Result, Ok, Err, All, AllPairs, IsTrue, drop, filter, length}
use Rattle.std.specs.List.{flat_map}
use Rattle.rmt_bits.specs.Members.{is_among}
use Rattle.rmt_ast.specs.Answers.{entry_numbers}
use Rattle.rmt_ast.specs.Changes.{Adds, Removes, EntryKey, Installed, at_first, changed, list_of, key_of_entry, is_held}
use Rattle.rmt_ast.specs.EntryLists.{Terms}
use Rattle.rmt_ast.specs.NameRules.{terms_named}
use Rattle.rmt_ast.specs.declared.program.Kind.{Kind}
use Rattle.rmt_ast.specs.declared.entry.Entry.{Entry}
use Rattle.rmt_ast.specs.declared.names.Names.{Names}
use Rattle.rmt_entries.specs.Entries.{has_keys_once}
use Rattle.rmt_entries.specs.NamedLines.{named_entry, named_key}
use Rattle.rmt_entries.specs.declared.named.EntryName.{EntryName}
use Rattle.rmt_lists.specs.declared.lists.Changes.{Changes}

-- A run: the names of its tables, its entries as of the last commit and as the lines since leave them, how many additions were taken
-- over all, and how many may be.
pub record Running : Type 0 where
  pub names : Names
  pub last : List (List Entry)
  pub now : Installed
  pub taken : ℕ
  pub most : ℕ

-- a run to which no change was made
abbrev pub fresh : Names → List (List Entry) → ℕ → Running
fresh names lists most = record { names = names; last = lists; now = at_first lists; taken = 0; most = most }

-- the key that a line names
abbrev pub key_of_name : EntryName → EntryKey
key_of_name k = record { tests = k.tests; rank = k.rank }

-- Why no entry with a key is added to these of a table of this kind and size: 6 where they have the key and may have it once alone, 7
-- where they are as many as the size, 9 where there were as many additions as there may be.
abbrev pub refusal_of : Kind → ℕ → ℕ → ℕ → EntryKey → List Entry → Option ℕ
refusal_of kind size most taken key es =
    if has_keys_once kind && is_held key es then Some 6
    else (if nat_le size (length es) then Some 7 else (if nat_le most taken then Some 9 else None))

-- a run, where no code stands against it
abbrev pub unless : Option ℕ → Running → Result Running ℕ
unless None r = Ok r
unless (Some code) r = Err code

-- a run with one entry more
abbrev pub with_one : Running → Entry → Running
with_one r e = record r { now = changed r.now (Adds e); taken = r.taken + 1 }

-- a run without the entry of a key
abbrev pub without_one : Running → ℕ → EntryKey → Running
without_one r node key = record r { now = changed r.now (Removes node key) }

-- a run behind an addition to a table with these terms
abbrev pub added_to : Running → Entry → Option Terms → Result Running ℕ
added_to r e None = Err 5
added_to r e (Some t) = unless (refusal_of t.kind t.size r.most r.taken (key_of_entry e) (list_of r.now.lists e.table)) (with_one r e)

-- a run behind a removal; 8 where the table doesn't hold the key
abbrev pub removed_from : Running → EntryName → Result Running ℕ
removed_from r k =
    if is_held (key_of_name k) (list_of r.now.lists k.table) then Ok (without_one r k.table (key_of_name k)) else Err 8

-- a run behind the addition of what an entry line says; 5 where it says no entry
abbrev pub with_entry : Running → Result Entry ℕ → Result Running ℕ
with_entry r (Err code) = Err 5
with_entry r (Ok e) = added_to r e (terms_named r.names e.table)

-- a run behind the removal of what a line names; 5 where it names no key
abbrev pub without_key : Running → Result EntryName ℕ → Result Running ℕ
without_key r (Err code) = Err 5
without_key r (Ok k) = removed_from r k

-- a line begins with a byte
abbrev pub begins : ℕ → List ℕ → Bool
begins b [] = false
begins b (c ∷ cs) = c == b

-- an addition or a removal: a line that begins with + or -, and a space behind
abbrev pub is_change : List ℕ → Bool
is_change line = (begins 43 line || begins 45 line) && begins 32 (drop 1 line)

-- A run behind a line, or the first code that the line breaks: 5 its form, 6 its key is held, 7 its table is full, 8 its key is not
-- held, 9 there were as many additions as there may be.
abbrev pub line_change : Running → List ℕ → Result Running ℕ
line_change r line =
    if nat_le 18444 (length line) then Err 5
    else (if begins 43 line then with_entry r (named_entry r.names (drop 2 line)) else without_key r (named_key r.names (drop 2 line)))

-- the lines since the last commit take effect
abbrev pub commit_of : Running → Running
commit_of r = record r { last = r.now.lists }

-- the kind and the size of a table
abbrev pub kind_and_size : Terms → Kind × ℕ
kind_and_size t = (t.kind, t.size)

-- What goes and what comes between lists of entries, by rising numbers: of each table what doesn't go is left, and behind it stands
-- what comes. The numbers that go stood there, and those that come are greater than all that stood.
pub record AreChanges (before after : List (List Entry)) (c : Changes) : Type 0 where
  pub gone_rise : AllPairs (λ (a b : ℕ). a < b) c.gone
  pub gone_stood : All (λ n. IsTrue (is_among (flat_map entry_numbers before) n)) c.gone
  pub come_rise : AllPairs (λ (a b : Entry). a.number < b.number) c.come
  pub come_new : All (λ (e : Entry). All (λ n. n < e.number) (flat_map entry_numbers before)) c.come
  pub left : (node : ℕ) → list_of after node ≡ filter (λ (e : Entry). not (is_among c.gone e.number)) (list_of before node) ++ filter (λ (e : Entry). node == e.table) c.come
