-- What is answered to an offer, and why there is room for an item.
use Rattle.std.proofs.Common.{◌≡◌, ℕ, ◌-◌, ◌<◌, ◌≤◌, List, [], Bool, cond, true, false, ◌&&◌, map, length, get_or, refl, ap, sym, ◌∙◌, subst, arith}
use Rattle.std.specs.Prelude.{nat_eq, nat_lt, not, All, count_by}
use Rattle.std.specs.List.{list_any, IsDistinct}
use Rattle.std.proofs.lemmas.Bool.{eqb-true, ltb-true, lt-ltb, le-leb, lt-leb}
use Rattle.std.proofs.lemmas.List.{get_or_default, length-map}
use Rattle.std.proofs.lemmas.List.Elements.{All-contains}
use Rattle.std.proofs.lemmas.List.Folds.{Any-from_list_any}
use Rattle.std.proofs.lemmas.Map.Steps.{length-le_from_distinct_below}
use Rattle.std.proofs.lemmas.Map.Views.{Contains-from_any}
use Rattle.rmt_cells.specs.Pieces.{cells_for}
use Rattle.rmt_queues.specs.declared.queues.Offered.{Offered}
use Rattle.rmt_queues.specs.declared.queues.Offered.TheVariants.{CellsFull, Queued}
use Rattle.rmt_queues.specs.declared.queues.Queues.{Queues}
use Rattle.rmt_queues.specs.declared.rings.Ring.{Ring}
use Rattle.rmt_queues.specs.Lists.{Lists, fits, free_cells, has_room, offer_answer, offered, queue_of, with_item}
use Rattle.rmt_queues.specs.Rings.{ring_of}
use Rattle.rmt_queues.specs.Stands.{Stands, StandsAt}
use Rattle.rmt_bits.proofs.AlikeLaws.{sum_by_alike}
use Rattle.rmt_queues.proofs.CountLaws.{any_counted, others_counted, room_left, standing_few}
use Rattle.rmt_queues.proofs.StandingLaws.{index_of}

-- ports that are apart are no more than there are
pub few_ports : (ports : List ℕ) (n : ℕ) → IsDistinct nat_eq ports → All (λ port. port < n) ports → length ports ≤ n
few_ports ports n once within =
    length-le_from_distinct_below ports n once (λ q there. All-contains (λ port. port < n) ports q within (Contains-from_any eqb-true q ports there))

-- the rings tell which ports have room
pub room_same : (ix : List ℕ) (s : Lists) (q : Queues) (rings : List Ring) (ports : List ℕ) → StandsAt ix s q → rings ≡ q.rings.items → All (λ port. port < length s.queues) ports
    → count_by (λ port. nat_lt (length (ring_of rings port)) q.depth) ports ≡ count_by (has_room s) ports
room_same ix s q rings ports at is within =
    sum_by_alike (λ port. cond (nat_lt (length (ring_of rings port)) q.depth) 1 0) (λ port. cond (has_room s port) 1 0) ports
    (λ k d lt.
    let port = get_or ports k d in
    let ring : ring_of rings port ≡ map (index_of ix) (queue_of s port) = ap (λ (rs : List Ring). ring_of rs port) is ∙ at.rings port (within k d lt) in
    let size : length (ring_of rings port) ≡ length (queue_of s port) = ap (λ (xs : List ℕ). length xs) ring ∙ length-map (queue_of s port) (index_of ix) in
    ap {B = ℕ} (λ (n : ℕ). cond (nat_lt n q.depth) 1 0) size ∙ ap {B = ℕ} (λ (d' : ℕ). cond (nat_lt (length (queue_of s port)) d') 1 0) at.depth)

-- where some port has room an index is spare
pub some_spare : (ix : List ℕ) (s : Lists) (q : Queues) (ports : List ℕ) → StandsAt ix s q → All (λ port. port < length s.queues) ports → 0 < count_by (has_room s) ports → 0 < length q.spare.items
some_spare ix s q ports at within some =
    let (k, port, lt, there, is) = Any-from_list_any (has_room s) ports (any_counted (has_room s) ports ∙ lt-ltb 0 (count_by (has_room s) ports) some) in
    let room = ltb-true (length (queue_of s port)) s.depth is in
    let below = All-contains (λ p. p < length s.queues) ports port within (k, lt, there) in
    let deep : All (λ (queue : List ℕ). length queue ≤ s.depth) s.queues = λ p d less. subst (λ (xs : List ℕ). length xs ≤ s.depth) (get_or_default s.queues p [] d less) (at.deep p) in
    let fewer = room_left s.queues s.depth port below deep room in
    let most = standing_few s.queues (length s.items) in
    omega (arith, fewer, most, at.all, at.room)

-- ---- the definition, case by case

module _ (s : Lists) (ports item : List ℕ) where
  abbrev count : ℕ
  count = count_by (has_room s) ports

  abbrev choice : Bool → Bool → Lists
  choice a b = cond (a && b) (with_item s ports item) s

  abbrev told : Bool → Bool → Offered
  told a b = cond (a && not b) CellsFull (Queued count (count_by (λ port. not (has_room s port)) ports))

  no_room : count ≡ 0 → list_any (has_room s) ports ≡ false
  no_room none = any_counted (has_room s) ports ∙ ap (nat_lt 0) none

  some_room : 0 < count → list_any (has_room s) ports ≡ true
  some_room some = any_counted (has_room s) ports ∙ lt-ltb 0 count some

  pub offered_none : count ≡ 0 → offered s ports item ≡ s
  offered_none none = ap (λ (a : Bool). choice a (fits s item)) (no_room none)

  no_and : (a : Bool) → choice a false ≡ s
  no_and true = refl
  no_and false = refl

  pub offered_full : free_cells s < cells_for (length item) → offered s ports item ≡ s
  offered_full full = ap (choice (list_any (has_room s) ports)) (lt-leb (cells_for (length item)) (free_cells s) full) ∙ no_and (list_any (has_room s) ports)

  pub offered_stored : 0 < count → cells_for (length item) ≤ free_cells s → offered s ports item ≡ with_item s ports item
  offered_stored some enough =
      ap (λ (a : Bool). choice a (fits s item)) (some_room some) ∙ ap (choice true) (le-leb (cells_for (length item)) (free_cells s) enough)

  others : (n : ℕ) → n ≡ count → Queued n (length ports - n) ≡ Queued count (count_by (λ port. not (has_room s port)) ports)
  others n is =
      let rest : length ports - n ≡ count_by (λ port. not (has_room s port)) ports = let all = others_counted (has_room s) ports in omega (arith, all, is) in
      ap (λ (m : ℕ). Queued m (length ports - n)) is ∙ ap (Queued count) rest

  pub answer_none : (n : ℕ) → n ≡ count → n ≡ 0 → Queued n (length ports - n) ≡ offer_answer s ports item
  answer_none n is none = others n is ∙ sym (ap (λ (a : Bool). told a (fits s item)) (no_room (sym is ∙ none)))

  pub answer_full : 0 < count → free_cells s < cells_for (length item) → CellsFull ≡ offer_answer s ports item
  answer_full some full =
      sym (ap (λ (a : Bool). told a (fits s item)) (some_room some) ∙ ap (told true) (lt-leb (cells_for (length item)) (free_cells s) full))

  pub answer_stored : (n : ℕ) → n ≡ count → 0 < n → cells_for (length item) ≤ free_cells s → Queued n (length ports - n) ≡ offer_answer s ports item
  answer_stored n is some enough =
      others n is
      ∙ sym (ap (λ (a : Bool). told a (fits s item)) (some_room (omega (arith, is, some))) ∙ ap (told true) (le-leb (cells_for (length item)) (free_cells s) enough))

-- the item is stored, and the queues stand for what the definition makes
pub stored_stands : (ix : List ℕ) (s : Lists) (ports item : List ℕ) (q : Queues) → 0 < count_by (has_room s) ports → cells_for (length item) ≤ free_cells s
    → StandsAt ix (with_item s ports item) q → Stands (offered s ports item) q
stored_stands ix s ports item q some enough at =
    subst (λ (t : Lists). Stands t q) (sym (offered_stored s ports item some enough)) (record { indices = ix; at = at })
