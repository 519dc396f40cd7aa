use Rattle.std.proofs.Common.{◌≡◌, ℕ, ◌<◌, ◌≤◌, List, [], ◌∷◌, ◌++◌, Some, length, set, refl, ap, sym, ◌∙◌, subst, ⊎_elim, arith}
use Rattle.std.specs.Prelude.{All, count_by}
use Rattle.std.proofs.lemmas.Bool.{cases_lt, false≢true}
use Rattle.rmt_cells.specs.declared.cells.Cells.{Cells}
use Rattle.rmt_cells.specs.Pieces.{cells_for}
use Rattle.rmt_queues.specs.declared.queues.Queues.{Queues}
use Rattle.rmt_queues.specs.Lists.{Lists, free_cells, has_room, offered, standing}
use Rattle.rmt_queues.specs.Stands.{Stands, held_items}
use Rattle.rmt_queues.proofs.AnswerLaws.{answer_full, answer_none, answer_stored, few_ports, offered_full, offered_none, room_same, some_spare, stored_stands}
use Rattle.rmt_queues.proofs.OfferLaws.{sent_stands, spare_within}
use Rattle.rmt_queues.proofs.StandingLaws.{free_told}
use Rattle.rmt_queues.proofs.queues.Queues.offer.Goals as goal
use Rattle.rmt_queues.proofs.queues.Queues.offer.Goals.{After-with_room-copies, In-Ok}

-- the ports are those of the lists
within_in : (s u : Lists) (q : Queues) (ports : List ℕ) → Stands s q → Stands u q → All (λ port. port < length s.queues) ports → All (λ port. port < length u.queues) ports
within_in s u q ports stands other within = λ i d lt.
    let here = within i d lt in
    let a = stands.at.ports in
    let b = other.at.ports in
    omega (arith, a, b, here)

-- so many of the ports have room in the lists
room_in : (c : After-with_room-copies) (s : Lists) → Stands s c.args.self.now → c.with_room-copies.result ≡ count_by (has_room s) c.args.ports.now
room_in c s stands =
    let (u, there, all) = c.requires.stands in
    c.with_room-copies.ensures
    ∙ room_same stands.indices s c.args.self.now c.as_slice.result.now c.args.ports.now stands.at c.as_slice.ensures.value (within_in u s c.args.self.now c.args.ports.now there stands all)

-- the cells were enough
enough : (c : In-Ok) (s : Lists) → Stands s c.args.self.now → cells_for (length c.args.item.now) ≤ free_cells s
enough c s stands =
    let told = free_told stands.indices s c.args.self.now stands.at in
    ⊎_elim (λ lt. absurd (false≢true (c.in-Ok.ensures.full.1 lt))) (λ le. omega (arith, le, told)) (cases_lt c.args.self.now.cells.free (cells_for (length c.args.item.now)))

pub with_room-copies-requires-clause-few : goal.with_room-copies-requires-clause-few
with_room-copies-requires-clause-few c =
    let (s, stands, within) = c.requires.stands in
    let most = few_ports c.args.ports.now (length s.queues) c.requires.once within in
    let few = stands.at.few in
    omega (arith, most, few)

pub overflow_cast-dropped : goal.overflow_cast-dropped
overflow_cast-dropped c =
    let (s, stands, within) = c.requires.stands in
    let most = few_ports c.args.ports.now (length s.queues) c.requires.once within in
    let few = stands.at.few in
    omega (arith, most, few)

pub returns-then-copies-eq0-clause-stands : goal.returns-then-copies-eq0-clause-stands
returns-then-copies-eq0-clause-stands c = λ s stands.
    let room = room_in (goal.at.returns-then-copies-eq0-clause-stands c).After-with_room-copies s stands in
    subst (λ (t : Lists). Stands t c.args.self.now) (sym (offered_none s c.args.ports.now c.args.item.now (sym room ∙ c.if-copies-eq0.true))) stands

pub returns-then-copies-eq0-clause-answer : goal.returns-then-copies-eq0-clause-answer
returns-then-copies-eq0-clause-answer c = λ s stands.
    answer_none s c.args.ports.now c.args.item.now c.with_room-copies.result (room_in (goal.at.returns-then-copies-eq0-clause-answer c).After-with_room-copies s stands) c.if-copies-eq0.true

pub returns-in-Err-clause-stands : goal.returns-in-Err-clause-stands
returns-in-Err-clause-stands c = λ s stands.
    let q = c.args.self.now in
    let told = free_told stands.indices s q stands.at in
    let full = c.in-Err.ensures.full.0 refl in
    subst (λ (cells : Cells). Stands (offered s c.args.ports.now c.args.item.now) (record q { cells = cells })) (sym c.in-Err.ensures.kept)
    (subst (λ (t : Lists). Stands t q) (sym (offered_full s c.args.ports.now c.args.item.now (omega (arith, told, full)))) stands)

pub returns-in-Err-clause-answer : goal.returns-in-Err-clause-answer
returns-in-Err-clause-answer c = λ s stands.
    let room = room_in (goal.at.returns-in-Err-clause-answer c).After-with_room-copies s stands in
    let told = free_told stands.indices s c.args.self.now stands.at in
    let full = c.in-Err.ensures.full.0 refl in
    answer_full s c.args.ports.now c.args.item.now (omega (arith, room, c.if-copies-eq0.false)) (omega (arith, told, full))

pub unreachable-requires : goal.unreachable-requires
unreachable-requires c =
    let (s, stands, within) = c.requires.stands in
    let room = room_in (goal.at.unreachable-requires c).After-with_room-copies s stands in
    let spare = some_spare stands.indices s c.args.self.now c.args.ports.now stands.at within (omega (arith, room, c.if-copies-eq0.false)) in
    let none = ap (λ (xs : List ℕ). length xs) c.in-None.ensures.items in
    omega (arith, spare, c.args.self.now.spare.ok.0, c.in-None.ensures.cases)

pub index_mut-requires : goal.index_mut-requires
index_mut-requires c =
    let (s, stands, within) = c.requires.stands in
    let q = c.args.self.now in
    let lt = spare_within stands.indices s q c.pop.new.self.items c.in-Some.index stands.at c.in-Some.ensures.items in
    let ok = q.stored.ok.0 in
    omega (arith, lt, ok)

pub returns-clause-stands : goal.returns-clause-stands
returns-clause-stands c = λ s stands.
    let (u, there, all) = c.requires.stands in
    let here = goal.at.returns-clause-stands c in
    let q = c.args.self.now in
    let ports = c.args.ports.now in
    let room = room_in here.After-with_room-copies s stands in
    let positive : 0 < count_by (has_room s) ports = omega (arith, room, c.if-copies-eq0.false) in
    stored_stands (stands.indices ++ c.in-Some.index ∷ []) s ports c.args.item.now _ positive (enough here.In-Ok s stands)
    (sent_stands stands.indices s ports c.args.item.now q _ c.in-Ok.chain c.in-Some.index stands.at c.requires.once (within_in u s q ports there stands all) c.requires.small positive refl
    c.send.ensures.many c.send.ensures.roomy c.send.ensures.copies c.in-Some.ensures.items c.in-Some.ensures.capacity
    (ap (λ (n : ℕ). set q.stored.items c.in-Some.index (record { chain = Some c.in-Ok.chain; len = length c.args.item.now; copies = n })) room)
    (c.in-Ok.ensures.stands 65536 (held_items q.stored.items stands.indices s.items (standing s)) stands.at.held))

pub returns-clause-answer : goal.returns-clause-answer
returns-clause-answer c = λ s stands.
    let here = goal.at.returns-clause-answer c in
    let room = room_in here.After-with_room-copies s stands in
    answer_stored s c.args.ports.now c.args.item.now c.with_room-copies.result room (omega (arith, room, c.if-copies-eq0.false)) (enough here.In-Ok s stands)
