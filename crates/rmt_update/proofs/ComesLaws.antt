-- How entries that come take rooms, one after another.
use Rattle.std.proofs.Common.{◌≡◌, ℕ, ◌%◌, Bool, true, false, not, ◌&&◌, ◌||◌, cond, eqb, List, [], ◌∷◌, ◌++◌, map, Option, Some, None, option_map, refl, ap, ◌∙◌}
use Rattle.std.specs.Prelude.{find, fold, option_and_then}
use Rattle.std.specs.List.{flat_map, list_all}
use Rattle.rmt_ast.specs.EntryLists.{Terms}
use Rattle.rmt_ast.specs.NameRules.{terms_named}
use Rattle.rmt_ast.specs.declared.entry.Entry.{Entry}
use Rattle.rmt_ast.specs.declared.names.Names.{Names}
use Rattle.rmt_ast.specs.declared.program.Kind.TheVariants as kind
use Rattle.rmt_config.specs.declared.config.Config.{Config}
use Rattle.rmt_config.specs.Cells.{candidates}
use Rattle.rmt_config.specs.Commits.{Placed, is_free, keeps_order, rooms_of, with_coming}
use Rattle.rmt_config.specs.LaneForm.{bits_of_lanes}
use Rattle.rmt_config.specs.Rooms.{PartAt, Room, is_before}
use Rattle.rmt_config.specs.RunCells.{RunCells}
use Rattle.rmt_update.proofs.FreeLaws.{all_rooms, rooms_at}

module _ (c : Config) (names : Names) (cells : RunCells) where
  -- the room that an entry with these terms may take first
  abbrev pub room_for : List Placed → Terms → Entry → Option Room
  room_for ps t e = find (λ room. is_free cells ps room && keeps_order t.kind ps e room) (rooms_of c t cells e)

  abbrev pub taken : List Placed → Entry → Option Room → Option (List Placed)
  taken ps e o = option_map (λ room. ps ++ record { entry = e; room = room } ∷ []) o

  -- an entry takes the first room that it may take
  pub comes : (ps : List Placed) (e : Entry) (t : Terms) (o : Option Room) → terms_named names e.table ≡ Some t → room_for ps t e ≡ o → with_coming c names cells (Some ps) e ≡ taken ps e o
  comes ps e t o terms found = ap (λ (u : Option Terms). taken ps e (option_and_then (λ (t : Terms). room_for ps t e) u)) terms ∙ ap (taken ps e) found

  -- once one finds none, a cell must move
  pub none-comes : (es : List Entry) → fold (with_coming c names cells) None es ≡ None
  none-comes [] = refl
  none-comes (e ∷ es) = none-comes es

-- ---- an exact table has no order

exact-keeps : (ps : List Placed) (e : Entry) (room : Room) → keeps_order kind.Exact ps e room ≡ true
exact-keeps [] e room = refl
exact-keeps (p ∷ ps) e room = ap (λ b. b && list_all (λ (q : Placed). not (eqb q.entry.table e.table) || ((not false || is_before q.room room) && (not false || is_before room q.room))) ps) (either (eqb p.entry.table e.table)) ∙ exact-keeps ps e room
  where
    either : (b : Bool) → (not b || true) ≡ true
    either true = refl
    either false = refl

pub exact-room : (cells : RunCells) (ps : List Placed) (e : Entry) (rooms : List Room) → find (λ room. is_free cells ps room && keeps_order kind.Exact ps e room) rooms ≡ find (is_free cells ps) rooms
exact-room cells ps e [] = refl
exact-room cells ps e (r ∷ rooms) =
    ap (λ b. cond b (Some r) (find (λ room. is_free cells ps room && keeps_order kind.Exact ps e room) rooms)) (ap (λ b. is_free cells ps r && b) (exact-keeps ps e r) ∙ alone (is_free cells ps r))
    ∙ ap (cond (is_free cells ps r) (Some r)) (exact-room cells ps e rooms)
  where
    alone : (b : Bool) → (b && true) ≡ b
    alone true = refl
    alone false = refl

-- the rooms of a key are the candidate cells of each part
pub rooms-are : (cells : RunCells) (placed : List Placed) (odd : Bool) (is : odd ≡ eqb (cells.version % 2) 1) (seed key : ℕ) (ps : List PartAt)
    → flat_map (λ (p : PartAt). map (λ n. record { part = p; cell = n }) (candidates seed (bits_of_lanes p.slot.keys) p.slot.memory key)) ps
    ≡ all_rooms cells placed odd is ps (map (λ (p : PartAt). candidates seed (bits_of_lanes p.slot.keys) p.slot.memory key) ps)
rooms-are cells placed odd is seed key [] = refl
rooms-are cells placed odd is seed key (p ∷ ps) = ap (λ rs. rooms_at p (candidates seed (bits_of_lanes p.slot.keys) p.slot.memory key) ++ rs) (rooms-are cells placed odd is seed key ps)
