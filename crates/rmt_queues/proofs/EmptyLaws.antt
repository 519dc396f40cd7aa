-- Queues in which nothing stands.
use Rattle.std.proofs.Common.{◌≡◌, ℕ, zero, suc, ◌+◌, ◌*◌, ◌<◌, ◌≤◌, List, [], ◌++◌, Bool, cond, eqb, map, length, get_or, vec_capacity, refl, ap, sym, ◌∙◌, subst, ⊎_elim, arith}
use Rattle.std.specs.Prelude.{replicate}
use Rattle.std.specs.List.{range_with_len}
use Rattle.std.proofs.lemmas.Bool.{cases_eq, ne_eqb}
use Rattle.std.proofs.lemmas.List.{append-nil, length-replicate}
use Rattle.std.proofs.lemmas.List.Elements.{All-nil, All-same}
use Rattle.std.proofs.lemmas.List.FromFn.{length-range_with_len}
use Rattle.rmt_bits.proofs.AllLaws.{All-range}
use Rattle.rmt_bits.proofs.TestLaws.{at_most_one}
use Rattle.rmt_cells.specs.Links.{times}
use Rattle.rmt_cells.specs.Stands.{Stands as CellsStand}
use Rattle.rmt_cells.proofs.Walks.{times_cons}
use Rattle.rmt_cells.proofs.Fresh.{times_before}
use Rattle.rmt_queues.specs.declared.queues.Queues.{Queues}
use Rattle.rmt_queues.specs.Lists.{empty, queue_of}
use Rattle.rmt_queues.specs.Rings.{AreRoomy, ring_of}
use Rattle.rmt_queues.specs.Stands.{Stands}
use Rattle.rmt_queues.specs.Stored.{no_item}

pub empty_queue : (ports port : ℕ) → get_or (replicate ports (let none : List ℕ = [] in none)) port [] ≡ []
empty_queue zero port = refl
empty_queue (suc ports) zero = refl
empty_queue (suc ports) (suc port) = empty_queue ports port

times_once : (x a n : ℕ) → times x (range_with_len a n) ≤ 1
times_once x a zero = omega arith
times_once x a (suc n) =
    let all = times_cons x a (range_with_len (a + 1) n) in
    ⊎_elim
    (λ (same : a ≡ x).
    let rest = times_before x (a + 1) n (omega (arith, same)) in
    omega (arith, all, rest, at_most_one (eqb a x)))
    (λ (other : a ≡ x → ⊥).
    let none : ◌≡◌ {A = ℕ} (cond (eqb a x) 1 0) 0 = ap (λ (b : Bool). cond b 1 0) (ne_eqb a x other) in
    let rest = times_once x (a + 1) n in
    omega (arith, all, none, rest))
    (cases_eq a x)

pub none_stand : (ports depth : ℕ) (q : Queues) → ports ≤ 512 → depth ≤ 64 → q.depth ≡ depth → CellsStand 65536 [] q.cells
    → q.spare.items ≡ range_with_len 0 (ports * depth) → ports * depth ≤ vec_capacity q.spare → q.stored.items ≡ replicate (ports * depth) no_item
    → length q.rings.items ≡ ports → ((port : ℕ) → port < ports → ring_of q.rings.items port ≡ []) → AreRoomy depth q.rings.items → Stands (empty 65536 ports depth) q
none_stand ports depth q few shallow deep cells spare spare_room stored many rings roomy =
    let n : ℕ = ports * depth in
    let none : List ℕ = [] in
    let queues : length (replicate ports none) ≡ ports = length-replicate ports none in
    let size : length q.stored.items ≡ n = ap length stored ∙ length-replicate n no_item in
    let used : q.spare.items ++ [] ≡ range_with_len 0 n = append-nil q.spare.items ∙ spare in
    let spares : length q.spare.items ≡ n = ap (λ (xs : List ℕ). length xs) spare ∙ length-range_with_len 0 n in
    record {
      indices = [];
      at = record {
        cells = refl;
        depth = deep;
        shallow = shallow;
        ports = many ∙ sym queues;
        few = omega (arith, queues, few);
        rings = λ port lt. rings port (omega (arith, lt, queues)) ∙ sym (ap (map (λ (k : ℕ). get_or none k 0)) (empty_queue ports port));
        roomy = roomy;
        deep = λ port. subst (λ (xs : List ℕ). length xs ≤ depth) (sym (empty_queue ports port)) (omega arith);
        known = λ port. All-same (λ (k : ℕ). k < 0) (queue_of (empty 65536 ports depth) port) [] (empty_queue ports port) (All-nil (λ (k : ℕ). k < 0));
        indexed = refl;
        small = All-nil (λ (item : List ℕ). length item ≤ 13320);
        kept = λ i d lt. absurd (omega (arith, lt));
        held = cells;
        room = size ∙ ap (λ (k : ℕ). k * depth) (sym queues);
        spare_room = omega (arith, size, spare_room);
        within = λ i d lt. let here = All-same (λ x. x < n) (q.spare.items ++ []) (range_with_len 0 n) used (All-range (λ x. x < n) 0 n (λ w less. omega (arith, less))) i d lt in omega (arith, here, size);
        once = λ i. subst (λ (xs : List ℕ). times i xs ≤ 1) (sym used) (times_once i 0 n);
        all = omega (arith, spares, size);
      };
    }
