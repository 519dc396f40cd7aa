-- A legal placement stays legal without the parts that take no room, so a bound counts only the stages that are used.
use Rattle.std.proofs.Common.{◌≡◌, ℕ, ◌*◌, ◌<◌, ◌≤◌, List, Bool, false, cond, filter, get_or, length, ap, sym, subst, arith}
use Rattle.std.specs.Prelude.{All, ◌==◌, ◌&&◌, nat_lt}
use Rattle.std.specs.List.{range_with_len}
use Rattle.std.proofs.lemmas.Bool.Decides.{nat_tests}
use Rattle.std.proofs.lemmas.List.Elements.{All-filter}
use Rattle.rmt_bits.proofs.AlikeLaws.{sum_by_alike}
use Rattle.rmt_bits.proofs.AllLaws.{All-range}
use Rattle.rmt_bits.proofs.ListLaws.{sum_by-filter}
use Rattle.rmt_ast.specs.declared.deps.Edge.{Edge}
use Rattle.rmt_ast.specs.declared.program.Program.{Program}
use Rattle.rmt_pack.specs.declared.format.Format.{Format}
use Rattle.rmt_pack.specs.declared.placement.Part.{Part}
use Rattle.rmt_pack.specs.declared.placement.Placement.{Placement}
use Rattle.rmt_pack.specs.Placements.{quanta_in, quanta_of, taken_in, tables_in, is_table_at, Keeps, IsLegal, IsLegalWith}
use Rattle.rmt_bounds.specs.Used.{takes_room, taking_room}

module _ (p : Program) (n : ℕ) (there : n < length p.nodes) where
  -- a part that takes no room adds nothing to what there is of a node of the program, wherever that is counted
  adds_nothing : (also : Part → Bool) (x : Part) → takes_room p x ≡ false → cond ((x.node == n) && also x) x.quanta 0 ≡ 0
  adds_nothing also x idle = grind (arith, nat_tests, idle, there)

  adds_none : (x : Part) → takes_room p x ≡ false → cond (x.node == n) x.quanta 0 ≡ 0
  adds_none x idle = grind (arith, nat_tests, idle, there)

  same_in : (parts : List Part) (k : ℕ) → quanta_in (filter (takes_room p) parts) n k ≡ quanta_in parts n k
  same_in parts k = sum_by-filter (λ (x : Part). cond ((x.node == n) && (x.stage == k)) x.quanta 0) (takes_room p) parts (adds_nothing (λ x. x.stage == k))

  same_of : (parts : List Part) → quanta_of (filter (takes_room p) parts) n ≡ quanta_of parts n
  same_of parts = sum_by-filter (λ (x : Part). cond (x.node == n) x.quanta 0) (takes_room p) parts adds_none

module _ (p : Program) (parts : List Part) where
  abbrev kept : List Part
  kept = filter (takes_room p) parts

  same_taken : (blocks : ℕ → ℕ) (k : ℕ) → taken_in p kept blocks k ≡ taken_in p parts blocks k
  same_taken blocks k =
      sum_by_alike (λ n. quanta_in kept n k * blocks n) (λ n. quanta_in parts n k * blocks n) (range_with_len 0 (length p.nodes))
      (All-range (λ n. quanta_in kept n k * blocks n ≡ quanta_in parts n k * blocks n) 0 (length p.nodes) (λ n lt. ap (λ q. q * blocks n) (same_in p n (let here = lt in omega (arith, here)) parts k)))

  same_tables : (k : ℕ) → tables_in p kept k ≡ tables_in p parts k
  same_tables k =
      let slot : ℕ → ℕ → ℕ = λ n q. cond (is_table_at p n && nat_lt 0 q) 1 0 in
      sum_by_alike (λ n. slot n (quanta_in kept n k)) (λ n. slot n (quanta_in parts n k)) (range_with_len 0 (length p.nodes))
      (All-range (λ n. slot n (quanta_in kept n k) ≡ slot n (quanta_in parts n k)) 0 (length p.nodes) (λ n lt. ap (slot n) (same_in p n (let here = lt in omega (arith, here)) parts k)))

  still_legal : (edges : List Edge) (formats : ℕ → Format) → IsLegalWith p edges formats parts → IsLegalWith p edges formats kept
  still_legal edges formats legal = record {
    node_formats = legal.node_formats;
    whole = λ n lt. subst (λ m. (formats n).quanta ≤ m) (sym (same_of p n lt parts)) (legal.whole n lt);
    order = λ i d lt.
        All-filter (takes_room p) (λ a. All (Keeps (get_or edges i d) a) kept) parts
        (λ j e less. All-filter (takes_room p) (Keeps (get_or edges i d) (get_or parts j e)) parts (legal.order i d lt j e less));
    sram = λ k. subst (λ m. m ≤ 106) (sym (same_taken (λ n. (formats n).sram) k)) (legal.sram k);
    tcam = λ k. subst (λ m. m ≤ 16) (sym (same_taken (λ n. (formats n).tcam) k)) (legal.tcam k);
    slots = λ k. subst (λ m. m ≤ 16) (sym (same_tables k)) (legal.slots k);
  }

pub legal_taking_room : (p : Program) (edges : List Edge) (placement : Placement) → IsLegal p edges placement → IsLegal p edges (taking_room p placement)
legal_taking_room p edges placement legal = (legal.0, still_legal p placement.parts edges legal.0 legal.1)
