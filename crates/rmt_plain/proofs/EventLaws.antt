-- A plain run over packets and commits: each packet and each commit is one step more.
use Rattle.std.proofs.Common.{◌≡◌, ℕ, zero, suc, ◌+◌, ◌<◌, ◌≤◌, ◌++◌, inl, inr, List, [], ◌∷◌, map, refl, sym, ap, subst, ◌∙◌, append-nil, arith}
use Rattle.std.specs.Prelude.{All, Contains, slice_set}
use Rattle.std.specs.List.{flat_map}
use Rattle.std.proofs.lemmas.List.{map-append}
use Rattle.std.proofs.lemmas.List.Elements.{All-append, All-contains, All-contains_itself, All-map, All-nil, All-push, All-set, All-weaker}
use Rattle.rmt_bits.specs.Packet.{Packet}
use Rattle.rmt_bits.specs.declared.answer.Answer.{Answer}
use Rattle.rmt_bits.proofs.AllLaws.{All-flat_map, All-left, All-parts, All-right, All-unmap}
use Rattle.rmt_ast.specs.declared.program.Program.{Program}
use Rattle.rmt_ast.specs.declared.entry.Entry.{Entry}
use Rattle.rmt_ast.specs.Answers.{answer_of, entry_numbers}
use Rattle.rmt_ast.specs.Changes.{Adds, Change, Installed, Removes, at_first, changed, committed, list_of, next_number, without}
use Rattle.rmt_ast.specs.Events.{Arrives, Commits, Event, Met, answers_of_events, counts_of_events, lists_from, met_from}
use Rattle.rmt_plain.specs.declared.plain.Plain.{Plain}
use Rattle.rmt_plain.specs.Stands.{FollowOn, HasMet, HasTaken, StaysOrIsNew, Stands, counts_met, entries_after, entries_in, meets, numbers_in}
use Rattle.rmt_bits.proofs.MostLaws.{fold_max}
use Rattle.rmt_ast.proofs.EntryLaws.{all_without, next_changed}

-- ---- events behind others, and one more packet or commit

pub entries_after-append : (s : Installed) (xs ys : List Event) → entries_after s (xs ++ ys) ≡ entries_after (entries_after s xs) ys
entries_after-append s [] ys = refl
entries_after-append s ((Arrives packet) ∷ xs) ys = entries_after-append s xs ys
entries_after-append s ((Commits changes) ∷ xs) ys = entries_after-append (committed s changes) xs ys

pub met_from-append : (s : Installed) (xs ys : List Event) → met_from s (xs ++ ys) ≡ met_from s xs ++ met_from (entries_after s xs) ys
met_from-append s [] ys = refl
met_from-append s ((Arrives packet) ∷ xs) ys = ap (λ (ms : List Met). meets s.lists packet ∷ ms) (met_from-append s xs ys)
met_from-append s ((Commits changes) ∷ xs) ys = met_from-append (committed s changes) xs ys

lists_packet : (s : Installed) (events : List Event) (packet : Packet) → lists_from s (events ++ Arrives packet ∷ []) ≡ lists_from s events
lists_packet s [] packet = refl
lists_packet s ((Arrives x) ∷ events) packet = lists_packet s events packet
lists_packet s ((Commits changes) ∷ events) packet = ap (λ (ls : List (List (List Entry))). s.lists ∷ ls) (lists_packet (committed s changes) events packet)

lists_commit : (s : Installed) (events : List Event) (changes : List Change)
    → lists_from s (events ++ Commits changes ∷ []) ≡ lists_from s events ++ (committed (entries_after s events) changes).lists ∷ []
lists_commit s [] changes = refl
lists_commit s ((Arrives x) ∷ events) changes = lists_commit s events changes
lists_commit s ((Commits more) ∷ events) changes = ap (λ (ls : List (List (List Entry))). s.lists ∷ ls) (lists_commit (committed s more) events changes)

module _ (p : Program) (lists : List (List Entry)) where
  -- the entries so far, those that stand now, and the packets with what they met
  abbrev so_far_of : List Event → List (List (List Entry))
  so_far_of events = lists_from (at_first lists) events

  abbrev now_of : List Event → Installed
  now_of events = entries_after (at_first lists) events

  abbrev met_of : List Event → List Met
  met_of events = met_from (at_first lists) events

  -- before the first event
  pub taken_first : (plain : Plain) → Stands p lists [] plain → HasTaken p lists [] plain
  taken_first plain stands = stands

  -- what `packet` leaves
  pub taken_packet : (events : List Event) (packet : Packet) (plain : Plain)
      → HasMet p (so_far_of events) (now_of events).lists (met_of events ++ meets (now_of events).lists packet ∷ []) plain
      → HasTaken p lists (events ++ Arrives packet ∷ []) plain
  taken_packet events packet plain h =
      let s = at_first lists in
      rw (lists_packet s events packet, entries_after-append s events (Arrives packet ∷ []), met_from-append s events (Arrives packet ∷ [])) h

  -- what `commit` leaves of the entries that changes give
  pub taken_commit : (events : List Event) (changes : List Change) (plain : Plain)
      → HasMet p (so_far_of events ++ (committed (now_of events) changes).lists ∷ []) (committed (now_of events) changes).lists (met_of events) plain
      → HasTaken p lists (events ++ Commits changes ∷ []) plain
  taken_commit events changes plain h =
      let s = at_first lists in
      let none = append-nil (met_from s events) in
      rw (lists_commit s events changes, entries_after-append s events (Commits changes ∷ []), met_from-append s events (Commits changes ∷ []), none) h

  -- what `counters` gives
  pub taken_counts : (events : List Event) → counts_met p (so_far_of events) (met_of events) ≡ counts_of_events p lists events
  taken_counts events = refl

  -- the answers to further packets come behind
  pub answers-append : (xs ys : List Event)
      → answers_of_events p lists (xs ++ ys) ≡ answers_of_events p lists xs ++ map (λ (m : Met). answer_of p m.lists m.packet) (met_from (now_of xs) ys)
  answers-append xs ys =
      let answer : Met → Answer = λ m. answer_of p m.lists m.packet in
      ap (map answer) (met_from-append (at_first lists) xs ys) ∙ map-append answer (met_of xs) (met_from (now_of xs) ys)

-- ---- the entries that changes leave follow on those so far

module _ (P : Entry → Type 0) where
  set_entries : (lists : List (List Entry)) (i : ℕ) (es : List Entry) → All P (entries_in lists) → All P es → All P (entries_in (slice_set lists i es))
  set_entries lists i es all own = All-flat_map P (λ (xs : List Entry). xs) (slice_set lists i es) (All-set (All P) lists i es own (All-parts P (λ (xs : List Entry). xs) lists all))

  list_entries : (lists : List (List Entry)) (i : ℕ) → All P (entries_in lists) → All P (list_of lists i)
  list_entries [] i all = All-nil P
  list_entries (es ∷ lists) zero all = All-left P es (entries_in lists) all
  list_entries (es ∷ lists) (suc i) all = list_entries lists i (All-right P es (entries_in lists) all)

  -- what holds of the entries, and of one of the next number, holds behind a change
  changed_entries : (s : Installed) (change : Change) → All P (entries_in s.lists) → ((e : Entry) → e.number ≡ s.next → P e) → All P (entries_in (changed s change).lists)
  changed_entries s (Adds e) all next =
      set_entries s.lists e.table (list_of s.lists e.table ++ record e { number = s.next } ∷ []) all
      (All-push P (list_of s.lists e.table) (record e { number = s.next }) (list_entries s.lists e.table all) (next (record e { number = s.next }) refl))
  changed_entries s (Removes node key) all next = set_entries s.lists node (without key (list_of s.lists node)) all (all_without P key (list_of s.lists node) (list_entries s.lists node all))

next_committed : (s : Installed) (changes : List Change) → s.next ≤ (committed s changes).next
next_committed s [] = omega arith
next_committed s (change ∷ changes) = let one = next_changed s change in let rest = next_committed (changed s change) changes in omega (arith, one, rest)

-- what holds of the entries, and of all from a number on, holds behind changes
committed_entries : (P : Entry → Type 0) (n : ℕ) → ((e : Entry) → n ≤ e.number → P e) → (s : Installed) (changes : List Change) → n ≤ s.next → All P (entries_in s.lists)
    → All P (entries_in (committed s changes).lists)
committed_entries P n new s [] le all = all
committed_entries P n new s (change ∷ changes) le all =
    committed_entries P n new (changed s change) changes (let one = next_changed s change in omega (arith, le, one)) (changed_entries P s change all (λ e is. new e (omega (arith, is, le))))

-- the number of each entry is below the next one
abbrev IsBelow : ℕ → Entry → Type 0
IsBelow n e = e.number < n

changed_below : (s : Installed) (change : Change) → All (IsBelow s.next) (entries_in s.lists) → All (IsBelow (changed s change).next) (entries_in (changed s change).lists)
changed_below s (Adds e) all =
    changed_entries (IsBelow (s.next + 1)) s (Adds e) (All-weaker (IsBelow s.next) (IsBelow (s.next + 1)) (λ x lt. omega (arith, lt)) (entries_in s.lists) all) (λ x is. omega (arith, is))
changed_below s (Removes node key) all = set_entries (IsBelow s.next) s.lists node (without key (list_of s.lists node)) all (all_without (IsBelow s.next) key (list_of s.lists node) (list_entries (IsBelow s.next) s.lists node all))

committed_below : (s : Installed) (changes : List Change) → All (IsBelow s.next) (entries_in s.lists) → All (IsBelow (committed s changes).next) (entries_in (committed s changes).lists)
committed_below s [] all = all
committed_below s (change ∷ changes) all = committed_below (changed s change) changes (changed_below s change all)

next_after : (s : Installed) (events : List Event) → s.next ≤ (entries_after s events).next
next_after s [] = omega arith
next_after s ((Arrives packet) ∷ events) = next_after s events
next_after s ((Commits changes) ∷ events) = let one = next_committed s changes in let rest = next_after (committed s changes) events in omega (arith, one, rest)

numbers_all : (P : ℕ → Type 0) (lists : List (List Entry)) → All (λ (e : Entry). P e.number) (entries_in lists) → All P (numbers_in lists)
numbers_all P lists all =
    All-flat_map P entry_numbers lists
    (All-weaker (All (λ (e : Entry). P e.number)) (λ (es : List Entry). All P (entry_numbers es)) (λ es own. All-map P (λ (e : Entry). e.number) es own) lists (All-parts (λ (e : Entry). P e.number) (λ (es : List Entry). es) lists all))

entries_all : (P : ℕ → Type 0) (lists : List (List Entry)) → All P (numbers_in lists) → All (λ (e : Entry). P e.number) (entries_in lists)
entries_all P lists all =
    All-flat_map (λ (e : Entry). P e.number) (λ (es : List Entry). es) lists
    (All-weaker (λ (es : List Entry). All P (entry_numbers es)) (All (λ (e : Entry). P e.number)) (λ es own. All-unmap P (λ (e : Entry). e.number) es own) lists (All-parts P entry_numbers lists all))

-- all numbers so far are below the next one
below_after : (s : Installed) (events : List Event) → All (IsBelow s.next) (entries_in s.lists) → All (λ n. n < (entries_after s events).next) (flat_map numbers_in (lists_from s events))
below_after s [] all = subst (All (λ n. n < s.next)) (sym (append-nil (numbers_in s.lists))) (numbers_all (λ n. n < s.next) s.lists all)
below_after s ((Arrives packet) ∷ events) all = below_after s events all
below_after s ((Commits changes) ∷ events) all =
    let later = committed s changes in
    let last = (entries_after later events).next in
    let one = next_committed s changes in
    let rest = next_after later events in
    All-append (λ n. n < last) (numbers_in s.lists) (flat_map numbers_in (lists_from later events))
    (All-weaker (λ n. n < s.next) (λ n. n < last) (λ n lt. omega (arith, lt, one, rest)) (numbers_in s.lists) (numbers_all (λ n. n < s.next) s.lists all))
    (below_after later events (committed_below s changes all))

first_below : (lists : List (List Entry)) → All (IsBelow (next_number lists)) (entries_in lists)
first_below lists = entries_all (λ n. n < next_number lists) lists (fold_max (numbers_in lists) 0).1

-- what the changes of a commit leave follows on the entries so far
pub follows_on : (lists : List (List Entry)) (events : List Event) (changes : List Change)
    → FollowOn (lists_from (at_first lists) events) (entries_after (at_first lists) events).lists (committed (entries_after (at_first lists) events) changes).lists
follows_on lists events changes =
    let s = entries_after (at_first lists) events in
    let so_far = lists_from (at_first lists) events in
    let below : All (λ n. n < s.next) (flat_map numbers_in so_far) = below_after (at_first lists) events (first_below lists) in
    committed_entries (StaysOrIsNew so_far s.lists) s.next
    (λ e le. inr (λ there. absurd (let lt = All-contains (λ n. n < s.next) (flat_map numbers_in so_far) e.number below there in omega (arith, lt, le))))
    s changes (omega arith)
    (All-weaker (Contains (entries_in s.lists)) (StaysOrIsNew so_far s.lists) (λ e there. inl there) (entries_in s.lists) (All-contains_itself (entries_in s.lists)))
