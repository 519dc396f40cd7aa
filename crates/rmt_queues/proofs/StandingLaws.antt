-- The items that stand: where they are stored, and the cells that they have.
use Rattle.std.proofs.Common.{◌≡◌, ℕ, ◌<◌, ◌≤◌, List, [], ◌∷◌, Bool, cond, eqb, Option, Some, map, length, get_or, refl, ap, ◌∙◌, arith}
use Rattle.std.specs.Prelude.{nat_lt, All, count_by, sum_by}
use Rattle.std.specs.List.{range_with_len}
use Rattle.std.proofs.lemmas.Bool.{ne_eqb}
use Rattle.std.proofs.lemmas.List.{get_or_default}
use Rattle.std.proofs.lemmas.List.Elements.{All-cons, All-head, All-tail, All-filter, All-nil}
use Rattle.std.proofs.lemmas.List.Sums.{sum_by-append, sum_by-cons}
use Rattle.rmt_bits.proofs.AllLaws.{All-range}
use Rattle.rmt_cells.specs.declared.cells.Chain.{Chain}
use Rattle.rmt_cells.specs.Links.{times}
use Rattle.rmt_cells.specs.Pieces.{cells_for}
use Rattle.rmt_cells.specs.Stands.{Held, cells_held, held_if}
use Rattle.rmt_cells.proofs.Walks.{times_none}
use Rattle.rmt_queues.specs.declared.queues.Queues.{Queues}
use Rattle.rmt_queues.specs.declared.stored.Stored.{Stored}
use Rattle.rmt_queues.specs.Lists.{Lists, copies_of, free_cells, queue_of, standing}
use Rattle.rmt_queues.specs.Stands.{StandsAt, held_items}
use Rattle.rmt_queues.specs.Stored.{stored_at}
use Rattle.rmt_queues.proofs.AlikeLaws.{sum_by_none}

abbrev pub index_of : List ℕ → ℕ → ℕ
index_of indices number = get_or indices number 0

-- each item that stands is one of the items
pub standing_known : (s : Lists) → All (λ number. number < length s.items) (standing s)
standing_known s =
    All-filter (λ number. nat_lt 0 (copies_of s.queues number)) (λ number. number < length s.items) (range_with_len 0 (length s.items))
    (All-range (λ number. number < length s.items) 0 (length s.items) (λ w lt. omega (arith, lt)))

-- a number past those in a queue does not stand in it
pub count_absent : (most number : ℕ) (queue : List ℕ) → All (λ x. x < most) queue → most ≤ number → count_by (λ x. eqb x number) queue ≡ 0
count_absent most number queue below past =
    sum_by_none (λ x. cond (eqb x number) 1 0) queue
    (λ k d lt. ap {B = ℕ} (λ (b : Bool). cond b 1 0) (ne_eqb (get_or queue k d) number (λ same. let here = below k d lt in omega (arith, here, same, past))))

pub copies_absent : (s : Lists) (number : ℕ) → ((port : ℕ) → All (λ x. x < length s.items) (queue_of s port)) → length s.items ≤ number → copies_of s.queues number ≡ 0
copies_absent s number known past =
    sum_by_none (λ queue. count_by (λ x. eqb x number) queue) s.queues
    (λ port d lt.
    let same : get_or s.queues port d ≡ queue_of s port = get_or_default s.queues port d [] lt in
    ap (λ (queue : List ℕ). count_by (λ x. eqb x number) queue) same ∙ count_absent (length s.items) number (queue_of s port) (known port) past)

-- none of some numbers is stored at an index
pub all_apart : (index : ℕ) (f : ℕ → ℕ) (numbers : List ℕ) → times index (map f numbers) ≡ 0 → All (λ number. f number ≡ index → ⊥) numbers
all_apart index f [] none = All-nil (λ number. f number ≡ index → ⊥)
all_apart index f (x ∷ xs) none =
    let parts = times_none index (f x) (map f xs) none in
    All-cons (λ number. f number ≡ index → ⊥) x xs parts.0 (all_apart index f xs parts.1)

abbrev IsStored : List Stored → List ℕ → ℕ → Type 0
IsStored stored indices number = (chain : Chain) × ((stored_at stored (index_of indices number)).chain ≡ Some chain)

-- the cells of what is held are those of the items
pub cells_of_held : (stored : List Stored) (indices : List ℕ) (items : List (List ℕ)) (numbers : List ℕ) → All (IsStored stored indices) numbers
    → cells_held (held_items stored indices items numbers) ≡ sum_by (λ number. cells_for (length (get_or items number []))) numbers
cells_of_held stored indices items [] are = refl
cells_of_held stored indices items (x ∷ xs) are =
    let cells : Held → ℕ = λ h. cells_for (length h.bytes) in
    let bytes = get_or items x [] in
    let (chain, is) = All-head (IsStored stored indices) x xs are in
    let here : cells_held (held_if (stored_at stored (index_of indices x)).chain bytes) ≡ cells_for (length bytes) =
    ap (λ (o : Option Chain). cells_held (held_if o bytes)) is
    ∙ (let one = sum_by-cons cells (record { chain = chain; bytes = bytes }) [] in omega (arith, one)) in
    let parts = sum_by-append cells (held_if (stored_at stored (index_of indices x)).chain bytes) (held_items stored indices items xs) in
    let rest = cells_of_held stored indices items xs (All-tail (IsStored stored indices) x xs are) in
    let sum = sum_by-cons (λ number. cells_for (length (get_or items number []))) x xs in
    omega (arith, here, parts, rest, sum)

-- the free cells of the lists are those of the cells
pub free_told : (indices : List ℕ) (s : Lists) (q : Queues) → StandsAt indices s q → free_cells s ≡ q.cells.free
free_told indices s q at =
    let used = cells_of_held q.stored.items indices s.items (standing s) (λ k d lt. let keeps = at.kept k d lt in (keeps.chain, keeps.chained)) in
    let all = at.held.all in
    omega (arith, used, all, at.cells)
