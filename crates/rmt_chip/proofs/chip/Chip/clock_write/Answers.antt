use Rattle.std.proofs.Common.{◌≡◌, ℕ, ◌++◌, [], ◌∷◌, List, length, refl, sym, ap, subst, ◌∙◌, arith}
use Rattle.std.proofs.lemmas.List.{length-map, with_items_is}
use Rattle.rmt_bits.specs.Counts.{Hit, count_for, counts, in_order}
use Rattle.rmt_chip.specs.Types.{Config, Stage}
use Rattle.rmt_config.specs.RunInputs.{Writes, counts_in, hits_from, numbers_brought}
use Rattle.rmt_config.specs.RunCells.{with_write}
use Rattle.rmt_chip.specs.PacketsInFlight.{cells_after, numbers_after}
use Rattle.rmt_memory.specs.StageMemories.{MemoriesHold, MemoriesOf}
use Rattle.rmt_memory.specs.Writable.{IsTaken}
use Rattle.rmt_chip.proofs.KnownLaws.{hits-known}
use Rattle.rmt_chip.proofs.StandsLaws.{numbers_push, stands_next, took_counting}
use Rattle.rmt_chip.proofs.chip.Chip.clock_write.Goals as goal

pub returns-clause-stands : goal.returns-clause-stands
returns-clause-stands c = λ config inputs stands.
    let old = c.args.self.now in
    let w = c.args.write.now in
    let cells = cells_after config inputs in
    let numbers = numbers_after config inputs in
    let brought = numbers_brought old.config (Writes w) in
    let turned = c.turn-answer.new.self in
    let counting = took_counting config numbers (numbers ++ brought) inputs old _ refl refl refl refl refl refl refl refl
    (λ later was. c.bring.ensures.counts numbers (hits_from config (inputs ++ later) 0 inputs) was (hits-known config stands.formed inputs later)) stands in
    let t = (c.turn-answer.ensures.goes config (numbers ++ brought) inputs (Writes w) refl counting).0 in
    let stages : config.stages ≡ c.as_slice.result.now = ap (λ (k : Config). k.stages) (sym t.config_is) ∙ sym c.as_slice.ensures in
    let lent = c.deref_mut.ensures.len in
    let same = c.write_cell.auto.memories in
    let items = with_items_is turned.memories c.write_cell.new.memories (omega arith) in
    let held : MemoriesHold config cells c.deref_mut.result.now = subst (MemoriesHold config cells) (sym c.deref_mut.ensures.value) t.memories_are in
    stands_next config (numbers ++ brought) inputs (Writes w) turned _ t refl refl refl refl refl refl
    (subst (MemoriesHold config (with_write config cells w)) (sym items) (c.write_cell.ensures.hold config cells stages held))
    t.seed_is t.version_is (ap (λ (k : Config). numbers ++ numbers_brought k (Writes w)) stands.config_is)

pub returns-clause-answers : goal.returns-clause-answers
returns-clause-answers c = λ config inputs stands.
    let numbers = numbers_after config inputs in
    let brought = numbers_brought c.args.self.now.config (Writes c.args.write.now) in
    let counting = took_counting config numbers (numbers ++ brought) inputs c.args.self.now _ refl refl refl refl refl refl refl refl
    (λ later was. c.bring.ensures.counts numbers (hits_from config (inputs ++ later) 0 inputs) was (hits-known config stands.formed inputs later)) stands in
    (c.turn-answer.ensures.goes config (numbers ++ brought) inputs (Writes c.args.write.now) refl counting).1

-- how many counters there are depends on the numbers alone
as_many : (numbers others : List ℕ) (hits more : List Hit) → numbers ≡ others → length (counts numbers hits) ≡ length (counts others more)
as_many numbers others hits more same =
    length-map (in_order numbers) (count_for hits) ∙ ap (λ (ns : List ℕ). length (in_order ns)) same ∙ sym (length-map (in_order others) (count_for more))

pub returns-clause-spare : goal.returns-clause-spare
returns-clause-spare c = λ config inputs stands.
    let old = c.args.self.now in
    let w = c.args.write.now in
    let numbers = numbers_after config inputs in
    let brought = numbers_brought old.config (Writes w) in
    let hits = hits_from config (inputs ++ []) 0 inputs in
    let all = inputs ++ Writes w ∷ [] in
    let was = (stands.in_flight []).counters_are in
    let now = c.bring.ensures.counts numbers hits was (hits-known config stands.formed inputs []) in
    let before : length old.counters.counts ≡ length (counts_in config inputs) = ap length was ∙ as_many numbers numbers hits (hits_from config inputs 0 inputs) refl in
    let known : numbers ++ brought ≡ numbers_after config all = ap (λ (k : Config). numbers ++ numbers_brought k (Writes w)) stands.config_is ∙ sym (numbers_push config inputs (Writes w)) in
    let after : length c.bring.new.counters.counts ≡ length (counts_in config all) = ap length now ∙ as_many (numbers ++ brought) (numbers_after config all) hits (hits_from config all 0 all) known in
    let room = c.bring.ensures.spare in
    let kept = c.turn-answer.ensures.spare in
    omega (arith, before, after, room, kept)

pub bring-requires : goal.bring-requires
bring-requires c = record { room = c.requires.room }

pub write_cell-requires-clause-fit : goal.write_cell-requires-clause-fit
write_cell-requires-clause-fit c =
    let turned = c.turn-answer.new.self in
    subst (λ (ss : List Stage). MemoriesOf ss c.deref_mut.result.now) (sym c.as_slice.ensures) (subst (MemoriesOf turned.config.stages) (sym c.deref_mut.ensures.value) turned.fit)

pub write_cell-requires-clause-taken : goal.write_cell-requires-clause-taken
write_cell-requires-clause-taken c =
    subst (λ (ss : List Stage). IsTaken ss c.args.write.now) (sym (c.as_slice.ensures ∙ ap (λ (k : Config). k.stages) c.turn-answer.ensures.config)) c.requires.taken

pub invariant_of-self : goal.invariant_of-self
invariant_of-self c =
    let self = c.args.self.now in
    record {
      formed = self.formed;
      limits = self.limits;
      fit = self.fit;
      full = self.full;
      framed = self.framed;
      room = self.room;
      in_ring = self.in_ring;
      leaves = self.leaves;
    }

pub invariant_of-self-2 : goal.invariant_of-self-2
invariant_of-self-2 c =
    let turned = c.turn-answer.new.self in
    let lent = c.deref_mut.ensures.len in
    let same = c.write_cell.auto.memories in
    let items = with_items_is turned.memories c.write_cell.new.memories (omega arith) in
    record {
      formed = turned.formed;
      limits = turned.limits;
      fit = subst (MemoriesOf turned.config.stages) (sym items) (subst (λ (ss : List Stage). MemoriesOf ss c.write_cell.new.memories) c.as_slice.ensures c.write_cell.ensures.fit);
      full = turned.full;
      framed = turned.framed;
      room = turned.room;
      in_ring = turned.in_ring;
      leaves = turned.leaves;
    }
