use Rattle.std.proofs.Common.{◌≡◌, ℕ, ◌+◌, ◌*◌, List, ◌∷◌, ◌++◌, length, take, refl, ap, ◌∙◌, subst, rules}
use Rattle.std.proofs.lemmas.List.{length-take}
use Rattle.rmt_bits.proofs.ByteLaws.{AreBytes}
use Rattle.rmt_memory.specs.KeysWithin.{KeysSet}
use Rattle.rmt_memory.proofs.CellWriteLaws.{after-entry, entry-shown}
use Rattle.rmt_memory.proofs.MarkLaws.{marked-set}
use Rattle.rmt_memory.proofs.memory.SlotMemory.put.Goals as goal

pub returns-clause-holds : goal.returns-clause-holds
returns-clause-holds c = λ content number held.
    let w = c.args.write.now in
    let s = c.args.slot.now in
    let m = c.args.self.now in
    let some = c.requires.some in
    let taken = c.requires.taken.entry some in
    let head = 1 + 2 * w.visible + 8 * w.code in
    let key : c.args.key.now ≡ w.key = c.requires.key in
    let mask : c.args.mask.now ≡ w.mask = c.requires.mask in
    let bytes : c.args.held.now ≡ w.held = c.requires.held in
    let key-bytes : AreBytes w.key = subst AreBytes key (λ i. (c.type_inv.key i).fits) in
    let held-bytes : AreBytes w.held = subst AreBytes bytes (λ i. (c.type_inv.held i).fits) in
    let tail = take m.number_size c.number_bytes-number.result in
    let run = c.set_run.ensures.run
    ∙ ap (λ (bs : List ℕ). head ∷ (take m.stored bs ++ (c.args.held.now ++ tail))) key ∙ ap (λ (bs : List ℕ). head ∷ (take m.stored w.key ++ (bs ++ tail))) bytes
    ∙ ap (λ (bs : List ℕ). head ∷ (take m.stored w.key ++ (w.held ++ take m.number_size bs))) c.number_bytes-number.ensures.bytes in
    let keys = subst (λ (bs : List ℕ). KeysSet w.cell (entry-shown head w.mask bs) m.keys c.put_key.new.keys) key
    (subst (λ (bs : List ℕ). KeysSet w.cell (entry-shown head bs c.args.key.now) m.keys c.put_key.new.keys) mask c.put_key.ensures) in
    after-entry w s content number m _ held refl refl refl refl c.requires.taken.cell c.set_run.ensures.stay
    keys some taken key-bytes held-bytes c.number_bytes-number.ensures.few run

pub invariant_of-self-clause-marked : goal.invariant_of-self-clause-marked
invariant_of-self-clause-marked c =
    let w = c.args.write.now in
    let m = c.args.self.now in
    let key = c.args.key.now in
    let size : length (take m.stored key) ≡ m.stored = (let e = length-take m.stored key in search rules) in
    marked-set m.cells c.set_run.new.runs w.cell m.stored (1 + 2 * w.visible + 8 * w.code) (take m.stored key) (c.args.held.now ++ take m.number_size c.number_bytes-number.result) m.marks.words.items c.mark.new.marks.words.items
    c.set_run.ensures m.marked size c.mark.ensures.own c.mark.ensures.others
