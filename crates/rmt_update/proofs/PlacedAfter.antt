-- The entries behind a commit with their rooms: those that stay where they are, and then those that come.
use Rattle.std.proofs.Common.{◌≡◌, Bool, true, false, ◌&&◌, cond, eqb, List, [], ◌∷◌, Option, Some, option_map, refl, sym, ap, ◌∙◌, inl, inr, arith}
use Rattle.std.specs.Prelude.{Contains, find, option_and_then}
use Rattle.std.proofs.lemmas.Bool.{and_parts, eq-eqb, eqb-true}
use Rattle.rmt_bits.proofs.MemberLaws.{Contains-first, Contains-later, Contains-split}
use Rattle.rmt_ast.specs.EntryLists.{Terms}
use Rattle.rmt_ast.specs.NameRules.{terms_named}
use Rattle.rmt_ast.specs.declared.entry.Entry.{Entry}
use Rattle.rmt_ast.specs.declared.names.Names.{Names}
use Rattle.rmt_config.specs.declared.config.Config.{Config}
use Rattle.rmt_config.specs.Commits.{placed_now, rooms_of}
use Rattle.rmt_config.specs.Rooms.{Room, content_in, number_in}
use Rattle.rmt_config.specs.RunCells.{RunCells, sees}

-- the one item that passes is the first
find-only : (test : Room → Bool) (xs : List Room) (x : Room) → Contains xs x → test x ≡ true → ((y : Room) → Contains xs y → test y ≡ true → y ≡ x) → find test xs ≡ Some x
find-only test [] x there own only = absurd (let lt = there.1 in omega (arith, lt))
find-only test (z ∷ xs) x there own only = by (test z) refl (λ later. find-only test xs x later own (λ y in_xs t. only y (Contains-later z xs y in_xs) t))
  where
    by : (b : Bool) → test z ≡ b → (Contains xs x → find test xs ≡ Some x) → cond b (Some z) (find test xs) ≡ Some x
    by true h rest = ap Some (only z (Contains-first z xs) h)
    by false h rest =
        elim (Contains-split z xs x there) [
          | inl same ↦ absurd (none (sym h ∙ ap test same ∙ own))
          | inr later ↦ rest later
        ]
      where
        none : false ≡ true → ⊥
        none e = cc

module _ (c : Config) (names : Names) (cells : RunCells) where
  -- an entry that stays has the room in which its cell is seen
  pub stays : (e : Entry) (t : Terms) (room : Room) → terms_named names e.table ≡ Some t → Contains (rooms_of c t cells e) room → sees true cells.version (content_in cells room).head ≡ true → number_in cells room ≡ e.number
      → ((r : Room) → Contains (rooms_of c t cells e) r → sees true cells.version (content_in cells r).head ≡ true → number_in cells r ≡ e.number → r ≡ room)
      → placed_now c names cells e ≡ Some (record { entry = e; room = room })
  stays e t room terms there seen number only =
      ap (λ (o : Option Terms). option_map (λ r. record { entry = e; room = r }) (option_and_then (λ (u : Terms). find own (rooms_of c u cells e)) o)) terms
      ∙ ap (option_map (λ r. record { entry = e; room = r })) (find-only own (rooms_of c t cells e) room there (both (sees true cells.version (content_in cells room).head) _ seen (eq-eqb (number_in cells room) e.number number))
      (λ r in_rooms h. let parts = and_parts _ _ h in only r in_rooms parts.0 (eqb-true (number_in cells r) e.number parts.1)))
    where
      own : Room → Bool
      own r = sees true cells.version (content_in cells r).head && eqb (number_in cells r) e.number

      both : (a b : Bool) → a ≡ true → b ≡ true → (a && b) ≡ true
      both true true p q = refl
      both true false p q = q
      both false b p q = p
