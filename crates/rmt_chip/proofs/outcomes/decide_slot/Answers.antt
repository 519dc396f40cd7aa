use Rattle.std.proofs.Common.{◌≡◌, ◌<◌, ◌-◌, ◌+◌, ◌++◌, [], ◌∷◌, Bool, ap, sym, ◌∙◌, subst, ℕ, List, true, false, length, get_or, set}
use Rattle.std.proofs.lemmas.List.{get_or_default}
use Rattle.rmt_chip.specs.Types.{SlotUnit}
use Rattle.rmt_config.specs.Life.{Acts, runs, slot_acts}
use Rattle.rmt_memory.specs.declared.looked.Looked.{Looked}
use Rattle.rmt_chip.specs.declared.ran.Ran.{Ran}
use Rattle.rmt_chip.specs.Ran.{HaveDone, CountsAlso}
use Rattle.rmt_chip.proofs.DecidingLaws.{done_if, slot_found, slot_missed, slot_rests, one_if}
use Rattle.rmt_chip.proofs.outcomes.decide_slot.Goals as goal

-- what the unit read
read_is : (looked : List Looked) (unit at : ℕ) (read d : Looked) → unit < length looked → read ≡ get_or looked at read → at ≡ unit → read ≡ get_or looked unit d
read_is looked unit at read d inside is same = is ∙ ap (λ (i : ℕ). get_or looked i read) same ∙ get_or_default looked unit read d inside

-- the slot runs by the outcomes that the acts so far have set
test_is : (slot : SlotUnit) (acts : Acts) (outcomes : List ℕ) (ran : Bool) → ran ≡ runs slot.node slot.guard outcomes → ran ≡ true → outcomes ≡ acts.outcomes → runs slot.node slot.guard acts.outcomes ≡ true
test_is slot acts outcomes ran is on same = ap (λ (os : List ℕ). runs slot.node slot.guard os) (sym same) ∙ sym is ∙ on

pub returns-then-one-clause-done : goal.returns-then-one-clause-done
returns-then-one-clause-done c = λ stage found d first acts finds was.
    let slot = c.args.slot.now in
    let looked = c.args.looked.now in
    let unit = c.args.at.unit in
    let base = c.args.at.base in
    let before = c.args.counters.now.counts in
    let counters = c.count.new.counters.counts in
    let one = get_or looked unit d in
    let same = read_is looked unit c.from.result c.index-looked-from.result d c.requires.inside c.index-looked-from.is c.from.ensures in
    let code : c.from-code.result ≡ one.code = c.from-code.ensures ∙ ap (λ (l : Looked). l.code) same in
    let value : c.saturating_sub.result ≡ one.code - base = c.saturating_sub.ensures ∙ ap (λ (n : ℕ). n - base) code in
    let outcomes : set c.args.outcomes.now c.from-node.result (2 + c.saturating_sub.result) ≡ set c.args.outcomes.now slot.node (2 + (one.code - base)) =
    ap (λ (n : ℕ). set c.args.outcomes.now n (2 + c.saturating_sub.result)) c.from-node.ensures ∙ ap (λ (n : ℕ). set c.args.outcomes.now slot.node (2 + n)) value in
    let running : c.push_reserved.new.self.items ≡ c.args.running.now.items ++ record { code = one.code; unit = unit; found = true } ∷ [] =
    c.push_reserved.ensures.items ∙ ap (λ (n : ℕ). c.args.running.now.items ++ record { code = n; unit = unit; found = true } ∷ []) code in
    let counts = subst (λ (l : Looked). CountsAlso before counters (one_if slot.counted l.number c.args.bytes)) same c.count.ensures.counts in
    let done = slot_found stage slot found looked unit d c.args.bytes base first before counters acts c.args.outcomes.now c.args.running.now.items
    c.requires.inside finds (ap (λ (l : Looked). l.hit) (sym same) ∙ c.if-one.true) counts was in
    let test = test_is slot acts c.args.outcomes.now c.runs_now.result c.runs_now.ensures c.if-not-runs_now.false was.outcomes_are in
    done_if stage looked c.args.bytes first counters (slot_acts stage c.args.at.base slot found acts) acts _ c.push_reserved.new.self.items (runs slot.node slot.guard acts.outcomes) true test
    (subst (λ (os : List ℕ). HaveDone stage looked c.args.bytes first (slot_acts stage c.args.at.base slot found acts) os c.push_reserved.new.self.items counters) (sym outcomes)
    (subst (λ (rs : List Ran). HaveDone stage looked c.args.bytes first (slot_acts stage c.args.at.base slot found acts) (set c.args.outcomes.now slot.node (2 + (one.code - base))) rs counters) (sym running) done))

pub returns-then-slot-clause-done : goal.returns-then-slot-clause-done
returns-then-slot-clause-done c = λ stage found d first acts finds was.
    let slot = c.args.slot.now in
    let outcomes : set c.args.outcomes.now c.from-node.result 1 ≡ set c.args.outcomes.now slot.node 1 = ap (λ (n : ℕ). set c.args.outcomes.now n 1) c.from-node.ensures in
    let one : Ran = record { code = c.args.at.base + slot.actions; unit = c.args.at.unit; found = false } in
    let running : c.push_reserved-then-slot.new.self.items ≡ c.args.running.now.items ++ one ∷ [] =
    c.push_reserved-then-slot.ensures.items ∙ ap (λ (n : ℕ). c.args.running.now.items ++ record { code = n; unit = c.args.at.unit; found = false } ∷ []) c.default_code-code.ensures.value in
    let same = read_is c.args.looked.now c.args.at.unit c.from.result c.index-looked-from.result d c.requires.inside c.index-looked-from.is c.from.ensures in
    let done = slot_missed stage slot found c.args.looked.now (get_or c.args.looked.now c.args.at.unit d) c.args.at.unit c.args.bytes c.args.at.base first c.args.counters.now.counts acts c.args.outcomes.now c.args.running.now.items
    finds (ap (λ (l : Looked). l.hit) (sym same) ∙ c.if-one.false) c.if-slot.true was in
    let test = test_is slot acts c.args.outcomes.now c.runs_now.result c.runs_now.ensures c.if-not-runs_now.false was.outcomes_are in
    done_if stage c.args.looked.now c.args.bytes first c.args.counters.now.counts (slot_acts stage c.args.at.base slot found acts) acts _ c.push_reserved-then-slot.new.self.items (runs slot.node slot.guard acts.outcomes) true test
    (subst (λ (os : List ℕ). HaveDone stage c.args.looked.now c.args.bytes first (slot_acts stage c.args.at.base slot found acts) os c.push_reserved-then-slot.new.self.items c.args.counters.now.counts) (sym outcomes)
    (subst (λ (rs : List Ran). HaveDone stage c.args.looked.now c.args.bytes first (slot_acts stage c.args.at.base slot found acts) (set c.args.outcomes.now slot.node 1) rs c.args.counters.now.counts) (sym running) done))

pub returns-else-slot-clause-done : goal.returns-else-slot-clause-done
returns-else-slot-clause-done c = λ stage found d first acts finds was.
    let same = read_is c.args.looked.now c.args.at.unit c.from.result c.index-looked-from.result d c.requires.inside c.index-looked-from.is c.from.ensures in
    let slot = c.args.slot.now in
    let test = test_is slot acts c.args.outcomes.now c.runs_now.result c.runs_now.ensures c.if-not-runs_now.false was.outcomes_are in
    done_if stage c.args.looked.now c.args.bytes first c.args.counters.now.counts (slot_acts stage c.args.at.base slot found acts) acts c.args.outcomes.now c.args.running.now.items (runs slot.node slot.guard acts.outcomes) true test
    (slot_rests stage slot found c.args.looked.now (get_or c.args.looked.now c.args.at.unit d) c.args.bytes c.args.at.base first c.args.counters.now.counts acts c.args.outcomes.now c.args.running.now.items
    finds (ap (λ (l : Looked). l.hit) (sym same) ∙ c.if-one.false) c.if-slot.false was)
