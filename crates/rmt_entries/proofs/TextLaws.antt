-- Texts, read line by line.
use Rattle.std.proofs.Common.{◌≡◌, ℕ, ◌+◌, true, false, List, [], ◌∷◌, ◌++◌, Option, All, Result, Ok, Err, length, refl, sym, ap, subst, ◌∙◌, length-append, arith}
use Rattle.std.specs.List.{before_first, after_first}
use Rattle.std.specs.Result.{IsErrAnd}
use Rattle.std.proofs.lemmas.List.{length-map}
use Rattle.rmt_ast.specs.declared.program.Program.{Program}
use Rattle.rmt_ast.specs.declared.program.Node.{Node}
use Rattle.rmt_ast.specs.EntryLists.{Terms, terms_at}
use Rattle.rmt_ast.specs.declared.entry.Entry.{Entry}
use Rattle.rmt_entries.specs.declared.fault.EntryFault.{EntryFault}
use Rattle.rmt_entries.specs.declared.fault.EntryFault.TheVariants.{At, NoMemory}
use Rattle.rmt_entries.specs.declared.gathered.Gathered.{Gathered}
use Rattle.rmt_entries.specs.Entries.{by_node, entries_of, entry_of, reading}
use Rattle.rmt_entries.specs.Fault.{Gives}
use Rattle.rmt_bits.specs.Lines.{is_passed_over, numbered_lines}
use Rattle.rmt_entries.specs.Reads.{Reads, node_terms}
use Rattle.rmt_entries.specs.LinesSoFar.{Addition, Gathers, IsAppliedBy, IsFault}
use Rattle.rmt_entries.specs.Tables.{AppliedTable, applied_tables}
use Rattle.rmt_entries.proofs.GatherLaws.{length-by_node}
use Rattle.rmt_entries.proofs.ProgramLaws.{are_applied}
use Rattle.rmt_bits.proofs.LineLaws.{is_feed, numbered_lines-first}

-- nothing is read yet
pub reads_first : (p : Program) (text : List ℕ) (g : Gathered) → Gathers (node_terms p) [] g → Reads p text text 1 g
reads_first p text g h = record { entries = []; gathered = h; same = refl; few = omega arith }

module _ (p : Program) (text rest : List ℕ) (n : ℕ) (g : Gathered) (r : Reads p text rest n g) (line behind : List ℕ) (front : line ≡ before_first is_feed rest) (back : behind ≡ after_first is_feed rest) where
  -- a line is passed over
  skipped : is_passed_over line ≡ true → numbered_lines n rest ≡ numbered_lines (n + 1) behind
  skipped h = numbered_lines-first n rest ∙ rw (← front, ← back, h) refl

  pub reads_passed : is_passed_over line ≡ true → Reads p text behind (n + 1) g
  reads_passed h = record {
    entries = r.entries;
    gathered = r.gathered;
    same = r.same ∙ ap (reading (applied_tables p) r.entries) (skipped h);
    few = omega (arith, r.few);
  }

  here : is_passed_over line ≡ false → numbered_lines n rest ≡ (n, line) ∷ numbered_lines (n + 1) behind
  here h = numbered_lines-first n rest ∙ rw (← front, ← back, h) refl

  -- the tables that were found are those that the nodes apply
  module _ (ts : List AppliedTable) (found : ts ≡ applied_tables p) where
    applied : All (IsAppliedBy (node_terms p)) ts
    applied = subst (λ (xs : List AppliedTable). All (IsAppliedBy (node_terms p)) xs) (sym found) (are_applied p)

    -- a line said its entry
    pub reads_added : (next : Gathered) → is_passed_over line ≡ false
        → ((terms : List (Option Terms)) (es : List Entry) → Gathers terms es g → All (IsAppliedBy terms) ts → Addition ts terms es line next) → Reads p text behind (n + 1) next
    reads_added next h adds =
        let addition = subst (λ (xs : List AppliedTable). Addition xs (node_terms p) r.entries line next) found (adds (node_terms p) r.entries r.gathered applied) in
        record {
          entries = r.entries ++ addition.entry ∷ [];
          gathered = addition.gathered;
          same = r.same ∙ ap (reading (applied_tables p) r.entries) (here h) ∙ rw addition.said refl;
          few = omega (arith, r.few, length-append r.entries (addition.entry ∷ []));
        }

    -- a line is bad
    pub reads_bad : (code : ℕ) → is_passed_over line ≡ false
        → ((terms : List (Option Terms)) (es : List Entry) → Gathers terms es g → All (IsAppliedBy terms) ts → entry_of ts es line ≡ Err code) → entries_of p text ≡ Err (At code n)
    reads_bad code h faults =
        let bad = subst (λ (xs : List AppliedTable). entry_of xs r.entries line ≡ Err code) found (faults (node_terms p) r.entries r.gathered applied) in
        let read : reading (applied_tables p) [] (numbered_lines 1 text) ≡ Err (At code n) = r.same ∙ ap (reading (applied_tables p) r.entries) (here h) ∙ rw bad refl in
        rw read refl

-- no line is left
pub reads_end : (p : Program) (text : List ℕ) (n : ℕ) (g : Gathered) → Reads p text [] n g → entries_of p text ≡ Ok g.lists.items
reads_end p text n g r =
    let nodes : length (node_terms p) ≡ length p.nodes = length-map p.nodes (λ (node : Node). terms_at p node.what) in
    rw r.same (ap (λ (k : ℕ). Ok (by_node k r.entries)) (sym nodes) ∙ ap Ok (sym r.gathered.lists))

-- a fault of a line, where the whole text has it
pub gives_fault : (fault : EntryFault) (n : ℕ) (wanted : Result (List (List Entry)) EntryFault) (P : ℕ → Type 0) → IsFault fault n P → ((code : ℕ) → P code → wanted ≡ Err (At code n)) → Gives (Err fault) wanted
gives_fault NoMemory n wanted P h each = tt
gives_fault (At code line) n wanted P h each = each code h.1 ∙ ap (λ (l : ℕ). Err (At code l)) (sym h.0)

-- the lists are as many as the nodes
pub lists_of_nodes : (p : Program) (text rest : List ℕ) (n : ℕ) (g : Gathered) → Reads p text rest n g → length (node_terms p) ≡ length g.lists.items
lists_of_nodes p text rest n g r = sym (ap length r.gathered.lists ∙ length-by_node (length (node_terms p)) r.entries)

-- a fault that is handed on
pub gives_handed : (r : Result (List (List Entry)) EntryFault) (fault : EntryFault) (wanted : Result (List (List Entry)) EntryFault) → IsErrAnd r (λ e. e ≡ fault) → Gives (Err fault) wanted
    → Gives r wanted
gives_handed (Ok x) fault wanted h g = absurd h
gives_handed (Err e) fault wanted h g = subst (λ (f : EntryFault). Gives (Err f) wanted) (sym h) g
