-- The entries of well-formed lists: each is in the list of its table, and has a number of its own.
use Rattle.std.proofs.Common.{◌≡◌, ◌≢◌, ℕ, ◌<◌, List, [], ◌∷◌, Option, Some, None, All, Contains, filter_map, length, map, refl, sym, ap, subst, ◌∙◌, inl, inr, arith}
use Rattle.std.specs.Prelude.{AllPairs, IsSomeAnd, option_and_then, option_map, slice_get, slice_index}
use Rattle.std.specs.List.{AllZip, cons_option}
use Rattle.std.proofs.lemmas.List.{length-map}
use Rattle.std.proofs.lemmas.List.Elements.{All-cons, All-contains, All-head, All-nil, All-tail}
use Rattle.std.proofs.lemmas.List.Kept.{AllPairs-cons}
use Rattle.rmt_bits.proofs.PairLaws.{AllPairs-head, AllPairs-none, AllPairs-tail}
use Rattle.std.proofs.lemmas.Option.{same_Some, slice_get-get_or, slice_get-map, slice_get_within}
use Rattle.rmt_bits.proofs.MemberLaws.{Contains-item, flat_from, Contains-flat_map}
use Rattle.rmt_ast.specs.declared.entry.Entry.{Entry}
use Rattle.rmt_ast.specs.declared.names.Names.{Names}
use Rattle.rmt_ast.specs.declared.program.What.TheVariants as what
use Rattle.rmt_ast.specs.EntryLists.{AreEntries, AreEntriesAt, IsEntry, params_of, terms_at, terms_of}
use Rattle.rmt_ast.specs.NameRules.{terms_named}
use Rattle.rmt_ast.specs.WellFormed.{AreDistinct, Fits}
use Rattle.rmt_refine.specs.Types.{Node, Program, Table, What}
use Rattle.rmt_config.specs.Commits.{all_entries}
use Rattle.rmt_refine.specs.Commits.{AreNamesOf}
use Rattle.rmt_refine.specs.Units.{applied, table_at}
use Rattle.rmt_refine.proofs.PartLaws.{some_and}
pub use Rattle.rmt_refine.proofs.RankLaws.{two_items}
use Rattle.rmt_refine.proofs.TheLaw.{table_entries}
use Rattle.rmt_pack.proofs.EntryLaws.{AllPairs-unmap, all_numbers}

-- ---- what a function gives of some items

pub All-filter_map : {X Y : Type 0} (f : X → Option Y) (P : X → Type 0) (Q : Y → Type 0) → ((x : X) (y : Y) → P x → f x ≡ Some y → Q y) → (xs : List X) → All P xs → All Q (filter_map f xs)
All-filter_map f P Q gives [] all = All-nil Q
All-filter_map {X} {Y} f P Q gives (x ∷ xs) all = by (f x) refl (All-filter_map f P Q gives xs (All-tail P x xs all))
  where
    by : (o : Option Y) → f x ≡ o → All Q (filter_map f xs) → All Q (cons_option o (filter_map f xs))
    by None e rest = rest
    by (Some y) e rest = All-cons Q y (filter_map f xs) (gives x y (All-head P x xs all) e) rest

pub AllPairs-filter_map : {X Y : Type 0} (f : X → Option Y) (R : X → X → Type 0) (S : Y → Y → Type 0) → ((x z : X) (y w : Y) → R x z → f x ≡ Some y → f z ≡ Some w → S y w)
    → (xs : List X) → AllPairs R xs → AllPairs S (filter_map f xs)
AllPairs-filter_map f R S gives [] pairs = AllPairs-none S
AllPairs-filter_map {X} {Y} f R S gives (x ∷ xs) pairs = by (f x) refl (AllPairs-filter_map f R S gives xs (AllPairs-tail R x xs pairs))
  where
    by : (o : Option Y) → f x ≡ o → AllPairs S (filter_map f xs) → AllPairs S (cons_option o (filter_map f xs))
    by None e rest = rest
    by (Some y) e rest =
        AllPairs-cons S y (filter_map f xs)
        (All-filter_map f (R x) (S y) (λ z w r g. gives x z y w r e g) xs (AllPairs-head R x xs pairs)) rest

-- ---- numbers

pub numbers_apart : (p : Program) (lists : List (List Entry)) → AreEntries p lists → AllPairs (λ (a b : Entry). a.number ≢ b.number) (all_entries lists)
numbers_apart p lists entries = AllPairs-unmap ◌≢◌ (λ (e : Entry). e.number) (all_entries lists) (subst AreDistinct (all_numbers lists) entries.numbers_once)

-- entries of one number are one
pub one_entry : (p : Program) (lists : List (List Entry)) (e f : Entry) → AreEntries p lists → Contains (all_entries lists) e → Contains (all_entries lists) f → e.number ≡ f.number → e ≡ f
one_entry p lists e f entries in_e in_f same = elim (two_items (λ (a b : Entry). a.number ≢ b.number) (all_entries lists) e f (numbers_apart p lists entries) in_e in_f) [
  | inl apart ↦ absurd (apart same)
  | inr (inl apart) ↦ absurd (apart (sym same))
  | inr (inr is) ↦ is
]

-- ---- the list of an entry

-- an entry is in the list of its table
pub record IsListed (p : Program) (lists : List (List Entry)) (e : Entry) : Type 0 where
  pub table : Table
  pub list : List Entry
  pub table_is : table_at p e.table ≡ Some table
  pub list_is : slice_get lists e.table ≡ Some list
  pub there : Contains list e
  pub is_entry : IsEntry e.table (terms_of p table) e

no_entry : (e : Entry) → Contains [] e → ⊥
no_entry e h = let lt = h.1 in omega (arith, lt)

-- a node with an entry applies a table
applies : (p : Program) (n : ℕ) (es : List Entry) (e : Entry) → Contains es e → IsSomeAnd (slice_get (map (λ (x : Node). terms_at p x.what) p.nodes) n) (AreEntriesAt n es) → (t : Table) × (table_at p n ≡ Some t)
applies p n es e there h = by (slice_get p.nodes n) (subst (λ o. IsSomeAnd o (AreEntriesAt n es)) (slice_get-map (λ (x : Node). terms_at p x.what) p.nodes n) h)
  where
    in_tables : (o : Option Table) → IsSomeAnd (Some (option_map (terms_of p) o)) (AreEntriesAt n es) → (t : Table) × (o ≡ Some t)
    in_tables None none = absurd (no_entry e (subst (λ xs. Contains xs e) none there))
    in_tables (Some t) k = (t, refl)

    of : (w : What) → IsSomeAnd (Some (terms_at p w)) (AreEntriesAt n es) → (t : Table) × (applied p w ≡ Some t)
    of (what.Apply i) k = in_tables (slice_get p.tables i) k
    of (what.Gate field test) none = absurd (no_entry e (subst (λ xs. Contains xs e) none there))

    by : (o : Option Node) → IsSomeAnd (option_map (λ (x : Node). terms_at p x.what) o) (AreEntriesAt n es) → (t : Table) × (option_and_then (λ (node : Node). applied p node.what) o ≡ Some t)
    by None k = absurd k
    by (Some node) k = of node.what k

pub entry_listed : (p : Program) (lists : List (List Entry)) (e : Entry) → AreEntries p lists → Contains (all_entries lists) e → IsListed p lists e
entry_listed p lists e entries there =
    let at = flat_from (λ es. es) lists e there in
    let t = applies p at.0 at.1 e at.3 (entries.each at.0 at.1 at.2) in
    let own = table_entries p lists at.0 t.0 at.1 entries t.1 at.2 in
    let is = All-contains (IsEntry at.0 (terms_of p t.0)) at.1 e own.each at.3 in
    record {
      table = t.0;
      list = at.1;
      table_is = ap (table_at p) is.table ∙ t.1;
      list_is = ap (slice_get lists) is.table ∙ at.2;
      there = at.3;
      is_entry = subst (λ n. IsEntry n (terms_of p t.0) e) (sym is.table) is;
    }

pub listed_in : (lists : List (List Entry)) (n : ℕ) (es : List Entry) (e : Entry) → slice_get lists n ≡ Some es → Contains es e → Contains (all_entries lists) e
listed_in lists n es e at there = Contains-flat_map (λ xs. xs) lists es e (Contains-item lists n es at) there

-- ---- the action of an entry

params_at : {X : Type 0} (f : ℕ → X) (xs : List ℕ) (i : ℕ) (y : X) → slice_get (map f xs) i ≡ Some y → (i < length xs) × (f (slice_index xs i) ≡ y)
params_at f xs i y e =
    let lt : i < length xs = subst (λ n. i < n) (length-map xs f) (slice_get_within (map f xs) i y e) in
    (lt, same_Some (f (slice_index xs i)) y (ap (option_map f) (sym (slice_get-get_or xs i 0 lt)) ∙ sym (slice_get-map f xs i) ∙ e))

pub record ActionIs (p : Program) (t : Table) (e : Entry) : Type 0 where
  pub within : e.action < length t.actions
  pub fits : AllZip Fits (params_of p (slice_index t.actions e.action)) e.args
  pub params : slice_get (map (params_of p) t.actions) e.action ≡ Some (params_of p (slice_index t.actions e.action))

pub action_is : (p : Program) (t : Table) (e : Entry) (n : ℕ) → IsEntry n (terms_of p t) e → ActionIs p t e
action_is p t e n is =
    let own = some_and (slice_get (map (params_of p) t.actions) e.action) (λ params. AllZip Fits params e.args) is.action in
    let at = params_at (params_of p) t.actions e.action own.0 own.1 in
    record { within = at.0; fits = subst (λ ps. AllZip Fits ps e.args) (sym at.1) own.2; params = own.1 ∙ ap Some (sym at.1) }

-- names tell the terms of its table
pub entry_named : (p : Program) (names : Names) (lists : List (List Entry)) (e : Entry) → AreNamesOf p names → (l : IsListed p lists e) → terms_named names e.table ≡ Some (terms_of p l.table)
entry_named p names lists e naming l =
    naming e.table l.table l.table_is (omega (arith, (action_is p l.table e e.table l.is_entry).within))
