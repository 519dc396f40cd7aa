-- Rings of ports, of which one is changed.
use Rattle.std.proofs.Common.{◌≡◌, ℕ, ◌+◌, ◌<◌, ◌≤◌, List, [], ◌∷◌, ◌++◌, cond, map, length, take, get_or, set, ap, sym, ◌∙◌, subst, ⊎_elim, arith}
use Rattle.std.specs.Prelude.{nat_eq, nat_lt, All}
use Rattle.std.specs.List.{IsDistinct}
use Rattle.std.proofs.lemmas.Bool.{cases_eq, cases_lt}
use Rattle.std.proofs.lemmas.List.{get_or-set_same, get_or-set_other, get_or-map, get_or_append_left, get_or_push, length-map, length-set, length_push, map-set, map_push}
use Rattle.std.proofs.lemmas.List.Elements.{All-get_or, All-push, All-set}
use Rattle.rmt_queues.specs.declared.rings.Ring.{Ring}
use Rattle.rmt_queues.specs.Copies.{with_copy}
use Rattle.rmt_queues.specs.Rings.{AreRoomy, IsRoomy, ring_of}
use Rattle.rmt_queues.proofs.CopyLaws.{among_more, among_other, not_before, with_copy_alike, with_copy_here, with_copy_none}

abbrev numbers_of : Ring → List ℕ
numbers_of ring = ring.numbers.items

-- the ring of a port
pub ring_at : (rings : List Ring) (port : ℕ) (d : Ring) → port < length rings → ring_of rings port ≡ numbers_of (get_or rings port d)
ring_at rings port d lt = get_or-map numbers_of rings port d [] lt

pub ring_set_same : (rings : List Ring) (port : ℕ) (ring : Ring) → port < length rings → ring_of (set rings port ring) port ≡ numbers_of ring
ring_set_same rings port ring lt =
    ap (λ (lists : List (List ℕ)). get_or lists port []) (map-set numbers_of rings port ring)
    ∙ get_or-set_same (map numbers_of rings) port (numbers_of ring) [] (let size = length-map rings numbers_of in omega (arith, size, lt))

pub ring_set_other : (rings : List Ring) (port other : ℕ) (ring : Ring) → (other ≡ port → ⊥) → ring_of (set rings port ring) other ≡ ring_of rings other
ring_set_other rings port other ring apart =
    ap (λ (lists : List (List ℕ)). get_or lists other []) (map-set numbers_of rings port ring)
    ∙ get_or-set_other (map numbers_of rings) port other (numbers_of ring) [] apart

-- one more port has its copy
pub sent_more : (depth : ℕ) (ports : List ℕ) (number i : ℕ) (was now : List Ring) (ring : Ring)
    → IsDistinct nat_eq ports → i < length ports → length now ≡ length was → get_or ports i 0 < length was
    → ((port : ℕ) → port < length was → ring_of now port ≡ with_copy depth (take i ports) number port (ring_of was port))
    → numbers_of ring ≡ cond (nat_lt (length (ring_of now (get_or ports i 0))) depth) (ring_of now (get_or ports i 0) ++ number ∷ []) (ring_of now (get_or ports i 0))
    → (port : ℕ) → port < length was → ring_of (set now (get_or ports i 0) ring) port ≡ with_copy depth (take (i + 1) ports) number port (ring_of was port)
sent_more depth ports number i was now ring once lt many inside copies pushed port below =
    let x = get_or ports i 0 in
    ⊎_elim
    (λ (same : port ≡ x).
    let old : ring_of now x ≡ ring_of was x = copies x inside ∙ with_copy_none depth (take i ports) number x (ring_of was x) (not_before ports i once lt) in
    subst (λ (p : ℕ). ring_of (set now x ring) p ≡ with_copy depth (take (i + 1) ports) number p (ring_of was p)) (sym same)
    (ring_set_same now x ring (omega (arith, inside, many)) ∙ pushed
    ∙ ap (λ (queue : List ℕ). cond (nat_lt (length queue) depth) (queue ++ number ∷ []) queue) old
    ∙ sym (with_copy_here depth (take (i + 1) ports) number x (ring_of was x) (among_more ports i lt))))
    (λ (other : port ≡ x → ⊥).
    ring_set_other now x port ring other ∙ copies port below
    ∙ sym (with_copy_alike depth (take (i + 1) ports) (take i ports) number port (ring_of was port) (among_other ports i port lt (λ e. other (sym e)))))
    (cases_eq port x)

pub all_sent_more : (depth : ℕ) (ports : List ℕ) (number i : ℕ) (was now : List Ring) (r r' : Ring)
    → IsDistinct nat_eq ports → i < length ports → All (λ port. port < length was) ports → length now ≡ length was → AreRoomy depth now
    → ((port : ℕ) → port < length was → ring_of now port ≡ with_copy depth (take i ports) number port (ring_of was port))
    → r ≡ get_or now (get_or ports i 0) r → IsRoomy depth r' → numbers_of r' ≡ cond (nat_lt (length (numbers_of r)) depth) (numbers_of r ++ number ∷ []) (numbers_of r)
    → (length (set now (get_or ports i 0) r') ≡ length was) × AreRoomy depth (set now (get_or ports i 0) r')
    × ((port : ℕ) → port < length was → ring_of (set now (get_or ports i 0) r') port ≡ with_copy depth (take (i + 1) ports) number port (ring_of was port))
all_sent_more depth ports number i was now r r' once lt within many roomy copies is room pushed =
    let x = get_or ports i 0 in
    let inside = All-get_or (λ port. port < length was) ports i 0 lt within in
    let old : ring_of now x ≡ numbers_of r = ring_at now x r (omega (arith, inside, many)) ∙ ap numbers_of (sym is) in (
      length-set now x r' ∙ many,
      All-set (IsRoomy depth) now x r' room roomy,
      sent_more depth ports number i was now r' once lt many inside copies
          (pushed ∙ ap (λ (queue : List ℕ). cond (nat_lt (length queue) depth) (queue ++ number ∷ []) queue) (sym old)),
    )

-- one more ring without numbers
pub empty_more : (rings : List Ring) (ring : Ring) → numbers_of ring ≡ [] → ((port : ℕ) → port < length rings → ring_of rings port ≡ [])
    → (port : ℕ) → port < length rings + 1 → ring_of (rings ++ ring ∷ []) port ≡ []
empty_more rings ring none all port lt =
    let lists = map numbers_of rings in
    let size : length lists ≡ length rings = length-map rings numbers_of in
    ap (λ (ls : List (List ℕ)). get_or ls port []) (map_push numbers_of rings ring)
    ∙ ⊎_elim
    (λ (before : port < length rings). get_or_append_left lists (numbers_of ring ∷ []) [] port (omega (arith, before, size)) ∙ all port before)
    (λ (past : length rings ≤ port). get_or_push lists (numbers_of ring) [] port (omega (arith, past, lt, size)) ∙ none)
    (cases_lt port (length rings))

pub rings_more : (depth count : ℕ) (rings now : List Ring) (ring : Ring) → now ≡ rings ++ ring ∷ [] → numbers_of ring ≡ [] → IsRoomy depth ring
    → length rings ≡ count → ((port : ℕ) → port < count → ring_of rings port ≡ []) → AreRoomy depth rings
    → (length now ≡ count + 1) × ((port : ℕ) → port < count + 1 → ring_of now port ≡ []) × AreRoomy depth now
rings_more depth count rings now ring is none roomy many all rest = (
  ap (λ (rs : List Ring). length rs) is ∙ length_push rings ring ∙ ap (λ (n : ℕ). n + 1) many,
  (λ port lt.
      ap (λ (rs : List Ring). ring_of rs port) is
      ∙ empty_more rings ring none (λ p below. all p (omega (arith, below, many))) port (omega (arith, lt, many))),
  subst (AreRoomy depth) (sym is) (All-push (IsRoomy depth) rings ring rest roomy),
)
