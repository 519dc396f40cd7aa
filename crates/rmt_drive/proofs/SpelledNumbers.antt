-- The numbers of the entries that a configuration spells leave room for those of additions.
use Rattle.std.proofs.Common.{◌≡◌, ℕ, ◌+◌, ◌<◌, ◌==◌, ◌&&◌, Bool, true, false, cond, List, [], ◌∷◌, ◌++◌, Option, Some, None, map, refl}
use Rattle.std.specs.Prelude.{All, find, fold, nat_lt, option_map, unwrap_or}
use Rattle.std.specs.List.{enumerate_from, flat_map, list_all, range_with_len}
use Rattle.std.proofs.lemmas.Bool.{false≢true, ltb-true}
use Rattle.std.proofs.lemmas.List.Elements.{All-append, All-cons, All-head, All-map, All-nil, All-tail, All-weaker}
use Rattle.rmt_bits.proofs.AllLaws.{All-flat_map, All-from_test, All-parts, All-range, All-unmap}
use Rattle.rmt_ast.specs.declared.entry.Entry.{Entry}
use Rattle.rmt_ast.specs.declared.names.Names.{Names}
use Rattle.rmt_ast.specs.declared.names.TableName.{TableName}
use Rattle.rmt_ast.specs.Answers.{entry_numbers}
use Rattle.rmt_ast.specs.NameRules.{names_are_formed}
use Rattle.rmt_config.specs.declared.config.CellNumber.{CellNumber}
use Rattle.rmt_config.specs.declared.config.Config.{Config}
use Rattle.rmt_config.specs.declared.config.Stage.{Stage}
use Rattle.rmt_config.specs.declared.config.Unit.{Unit as ChipUnit}
use Rattle.rmt_config.specs.declared.config.Unit.TheVariants.{Gate, Slot}
use Rattle.rmt_config.specs.CellForm.{numbers_of_stage, numbers_of_unit}
use Rattle.rmt_config.specs.Form.{Formed}
use Rattle.rmt_config.specs.NamesForm.{by_number, entries_by_cell, entries_of_node, entries_spelled, entry_in, is_filled_so, is_made_so, names_have_counts, node_count_of, numbers_leave_room, tables_are_those, with_entry}
use Rattle.rmt_update.proofs.BookLaws.{names-fit}
use Rattle.rmt_config.specs.Rooms.{PartAt, parts_among, parts_of}

abbrev Small : ℕ → Type 0
Small n = n < 4293918720

abbrev SmallPart : PartAt → Type 0
SmallPart p = All (λ (n : CellNumber). Small n.number) p.slot.numbers

abbrev SmallEntry : Entry → Type 0
SmallEntry e = Small e.number

-- ---- the parts of a table

among : (node k place first : ℕ) (units : List ChipUnit) → All (λ (u : ChipUnit). All Small (numbers_of_unit u)) units → All SmallPart (parts_among node k place first units)
among node k place first [] h = All-nil SmallPart
among node k place first (Gate g ∷ units) h = among node k (place + 1) first units (All-tail (λ (u : ChipUnit). All Small (numbers_of_unit u)) (Gate g) units h)
among node k place first (Slot s ∷ units) h =
    by (s.node == node)
    (among node k (place + 1) (first + s.actions + 1) units (All-tail (λ (u : ChipUnit). All Small (numbers_of_unit u)) (Slot s) units h))
  where
    own : SmallPart (record { stage = k; place = place; first = first; slot = s })
    own = All-unmap Small (λ (n : CellNumber). n.number) s.numbers (All-head (λ (u : ChipUnit). All Small (numbers_of_unit u)) (Slot s) units h)

    by : (b : Bool) → All SmallPart (parts_among node k (place + 1) (first + s.actions + 1) units)
        → All SmallPart (cond b (record { stage = k; place = place; first = first; slot = s } ∷ []) [] ++ parts_among node k (place + 1) (first + s.actions + 1) units)
    by true rest = All-cons SmallPart (record { stage = k; place = place; first = first; slot = s }) (parts_among node k (place + 1) (first + s.actions + 1) units) own rest
    by false rest = rest

from_stages : (node k : ℕ) (stages : List Stage) → All (λ (s : Stage). All Small (numbers_of_stage s)) stages
    → All SmallPart (flat_map (λ (x : ℕ × Stage). parts_among node x.0 0 0 x.1.units) (enumerate_from k stages))
from_stages node k [] h = All-nil SmallPart
from_stages node k (stage ∷ stages) h =
    All-append SmallPart (parts_among node k 0 0 stage.units) (flat_map (λ (x : ℕ × Stage). parts_among node x.0 0 0 x.1.units) (enumerate_from (k + 1) stages))
    (among node k 0 0 stage.units (All-parts Small numbers_of_unit stage.units (All-head (λ (s : Stage). All Small (numbers_of_stage s)) stage stages h)))
    (from_stages node (k + 1) stages (All-tail (λ (s : Stage). All Small (numbers_of_stage s)) stage stages h))

module _ (c : Config) (room : numbers_leave_room c ≡ true) where
  parts_small : (node : ℕ) → All SmallPart (parts_of c node)
  parts_small node =
      from_stages node 0 c.stages
      (All-parts Small numbers_of_stage c.stages (All-from_test Small (λ n. nat_lt n 4293918720) (λ n e. ltb-true n 4293918720 e) (flat_map numbers_of_stage c.stages) room))

  -- ---- their entries

  cells_small : (t : TableName) → All SmallEntry (entries_by_cell c t)
  cells_small t =
      All-flat_map SmallEntry (λ (part : PartAt). map (entry_in c t part) part.slot.numbers) (parts_of c t.node)
      (All-weaker SmallPart (λ (part : PartAt). All SmallEntry (map (entry_in c t part) part.slot.numbers))
      (λ part h. All-map SmallEntry (entry_in c t part) part.slot.numbers h) (parts_of c t.node) (parts_small t.node))

  placed : (e : Entry) (os : List Entry) → SmallEntry e → All SmallEntry os → All SmallEntry (with_entry e os)
  placed e [] h hs = All-cons SmallEntry e [] h (All-nil SmallEntry)
  placed e (o ∷ os) h hs = by (nat_lt o.number e.number) (placed e os h (All-tail SmallEntry o os hs))
    where
      by : (b : Bool) → All SmallEntry (with_entry e os) → All SmallEntry (cond b (o ∷ with_entry e os) (e ∷ o ∷ os))
      by true rest = All-cons SmallEntry o (with_entry e os) (All-head SmallEntry o os hs) rest
      by false rest = All-cons SmallEntry e (o ∷ os) h hs

  sorted : (es done : List Entry) → All SmallEntry es → All SmallEntry done → All SmallEntry (fold (λ ordered e. with_entry e ordered) done es)
  sorted [] done h hs = hs
  sorted (e ∷ es) done h hs = sorted es (with_entry e done) (All-tail SmallEntry e es h) (placed e done (All-head SmallEntry e es h) hs)

  node_small : (names : Names) (node : ℕ) → All SmallEntry (entries_of_node c names node)
  node_small names node = by (find (λ (t : TableName). t.node == node) names.tables)
    where
      by : (o : Option TableName) → All SmallEntry (unwrap_or (option_map (λ (t : TableName). by_number (entries_by_cell c t)) o) [])
      by None = All-nil SmallEntry
      by (Some t) = sorted (entries_by_cell c t) [] (cells_small t) (All-nil SmallEntry)

  pub spelled_small : (names : Names) → All (λ n. n < 4293918720) (flat_map entry_numbers (entries_spelled c names))
  spelled_small names =
      All-flat_map Small entry_numbers (entries_spelled c names)
      (All-map (λ (es : List Entry). All Small (entry_numbers es)) (entries_of_node c names) (range_with_len 0 (node_count_of c))
      (All-range (λ node. All Small (entry_numbers (entries_of_node c names node))) 0 (node_count_of c)
      (λ node lt. All-map Small (λ (e : Entry). e.number) (entries_of_node c names node) (node_small names node))))

-- the third of six tests that all hold
third : (a b d e f g : Bool) → (a && b && d && e && f && g) ≡ true → d ≡ true
third a b true e f g h = refl
third true true false e f g h = absurd (false≢true h)
third true false false e f g h = absurd (false≢true h)
third false b false e f g h = absurd (false≢true h)

-- of a configuration that keeps the rules
pub numbers_small : (c : Config) (names : Names) → Formed c → c.names ≡ Some names → All (λ n. n < 4293918720) (flat_map entry_numbers (entries_spelled c names))
numbers_small c names formed named =
    spelled_small c
    (third (names_are_formed names) (names_have_counts names) (numbers_leave_room c) (tables_are_those c names) (list_all (is_made_so c) names.tables) (list_all (is_filled_so c) names.tables) (names-fit c names formed named)) names
