use Rattle.std.proofs.Common.{◌≡◌, ◌<◌, ◌∙◌, ℕ, List, Option, Result, Some, ap, arith, length, option_map, subst, sym}
use Rattle.std.proofs.lemmas.Option.{get_or_from_slice_get}
use Rattle.rmt_ast.specs.declared.entry.Entry.{Entry}
use Rattle.rmt_ast.specs.declared.names.Names.{Names}
use Rattle.rmt_ast.specs.declared.program.Kind.{Kind}
use Rattle.rmt_ast.specs.declared.program.Test.{Test}
use Rattle.rmt_ast.specs.Changes.{list_of, key_of_entry}
use Rattle.rmt_ast.specs.NameRules.{terms_named}
use Rattle.rmt_entries.specs.NamedLines.{IsNamedEntry}
use Rattle.rmt_lists.specs.declared.held.Held.{Held}
use Rattle.rmt_lists.specs.Holding.{Holds, spelled}
use Rattle.rmt_lists.specs.Running.{Running, kind_and_size, refusal_of}
use Rattle.rmt_lists.specs.Stands.{Stands, StandsFor}
use Rattle.rmt_lists.proofs.StandLaws.{added_allowed, added_refused, held_at, named_within}
use Rattle.rmt_lists.proofs.lists.Lists.add.Goals as goal
use Rattle.rmt_lists.proofs.lists.Lists.add.Goals.{After-index-held, After-terms_at, In-Some}

-- the entry's table is there
within : (c : After-terms_at) (r : Running) → Stands r c.args.self.now → c.args.entry.table < length c.args.self.now.held.items
within c r s =
    let inside : c.args.entry.table < length r.last = named_within r.names c.args.entry (length r.last) (subst (λ (ns : Names). IsNamedEntry ns c.args.entry) s.names c.requires.named) s.tables in
    omega (arith, inside, s.held.count, s.left.count)

-- what it holds, and the key that is looked up
held : (c : After-index-held) (r : Running) → Stands r c.args.self.now → c.args.entry.table < length c.args.self.now.held.items → Holds c.index-held.result.now (list_of r.now.lists c.args.entry.table)
held c r s inside = held_at c.args.self.now.held.items r.now.lists c.args.entry.table c.index-held.result.now s.held inside c.index-held.ensures

own : (c : After-index-held) → c.in_ok-key.key.items ≡ spelled (key_of_entry c.args.entry)
own c = c.in_ok-key.ensures ∙ ap (λ (ts : List Test). spelled (record { tests = ts; rank = c.args.entry.rank })) c.as_slice.ensures

-- the terms are those of the run
terms : (c : In-Some) (r : Running) → Stands r c.args.self.now → Some c.in-Some.terms ≡ option_map kind_and_size (terms_named r.names c.args.entry.table)
terms c r s = c.in-Some.ensures ∙ ap (λ (ns : Names). option_map kind_and_size (terms_named ns c.args.entry.table)) s.names

-- and so is what a change is refused for
refusal : (r : Running) (e : Entry) (terms : Kind × ℕ) (most taken : ℕ) (o : Option ℕ) → most ≡ r.most → taken ≡ r.taken → o ≡ refusal_of terms.0 terms.1 most taken (key_of_entry e) (list_of r.now.lists e.table)
    → o ≡ refusal_of terms.0 terms.1 r.most r.taken (key_of_entry e) (list_of r.now.lists e.table)
refusal r e terms most taken o most_same taken_same is =
    is ∙ ap (λ (m : ℕ). refusal_of terms.0 terms.1 m taken (key_of_entry e) (list_of r.now.lists e.table)) most_same ∙ ap (λ (t : ℕ). refusal_of terms.0 terms.1 r.most t (key_of_entry e) (list_of r.now.lists e.table)) taken_same

pub install-requires-clause-within : goal.install-requires-clause-within
install-requires-clause-within c = within (goal.at.install-requires-clause-within c).After-terms_at c.requires.stands.0 c.requires.stands.1

pub index-held-requires : goal.index-held-requires
index-held-requires c = let inside = within (goal.at.index-held-requires c).After-terms_at c.requires.stands.0 c.requires.stands.1 in omega (arith, inside, c.args.self.now.held.ok.0)

pub returns-in-Some-refusal_of-clause-fault : goal.returns-in-Some-refusal_of-clause-fault
returns-in-Some-refusal_of-clause-fault c r s =
    let e = c.args.entry in
    let at = goal.at.returns-in-Some-refusal_of-clause-fault c in
    let found = c.in-Some-refusal_of.ensures.refusal (list_of r.now.lists e.table) (key_of_entry e) (held at.After-index-held r s (within at.After-terms_at r s)) (own at.After-index-held) in
    added_refused r e (terms_named r.names e.table) c.in-Some.terms c.in-Some-refusal_of.code (terms at.In-Some r s) (refusal r e c.in-Some.terms _ _ _ s.most s.taken found)

pub install-requires-clause-room : goal.install-requires-clause-room
install-requires-clause-room c h at =
    let same : c.index-held.result.now ≡ h = c.index-held.ensures ∙ get_or_from_slice_get c.args.self.now.held.items c.args.entry.table h c.index-held.result.now at in
    subst (λ (x : Held). x.count < 4294967295) same c.in_default-refusal_of.ensures.room

pub install-requires-clause-number : goal.install-requires-clause-number
install-requires-clause-number c =
    let r = c.requires.stands.0 in
    let s = c.requires.stands.1 in
    omega (arith, s.next, s.numbers.room, s.taken, s.most, s.numbers.at_most, c.in_default-refusal_of.ensures.few)

pub returns-clause-changed : goal.returns-clause-changed
returns-clause-changed c r s =
    let e = c.args.entry in
    let at = goal.at.returns-clause-changed c in
    let found = c.in_default-refusal_of.ensures.refusal (list_of r.now.lists e.table) (key_of_entry e) (held at.After-index-held r s (within at.After-terms_at r s)) (own at.After-index-held) in
    let allowed = added_allowed r e (terms_named r.names e.table) c.in-Some.terms (terms at.In-Some r s) (refusal r e c.in-Some.terms _ _ _ s.most s.taken found) in
    subst (λ (o : Result Running ℕ). StandsFor o c.install.new.self) (sym allowed) (c.in_ok-install.ensures.changed r s)
