use Rattle.std.proofs.Common.{◌≡◌, ◌<◌, List, length, Some, refl, sym, ap, subst, ◌∙◌, arith}
use Rattle.std.specs.Prelude.{slice_get, slice_index}
use Rattle.std.specs.Vec.{with_items}
use Rattle.std.proofs.lemmas.List.{with_items_is}
use Rattle.std.proofs.lemmas.Option.{slice_get-get_or, get_or_from_slice_get}
use Rattle.rmt_chip.specs.Types.{Stage}
use Rattle.rmt_memory.specs.declared.looked.Looked.{Looked}
use Rattle.rmt_chip.specs.declared.pending.Pending.{Pending}
use Rattle.rmt_memory.specs.Looked.{AllLooked, HaveRoom}
use Rattle.rmt_memory.specs.Memory.{StageHeld}
use Rattle.rmt_chip.specs.Looks.{LooksInto}
use Rattle.rmt_chip.proofs.PendingLaws.{looked_by, room_put}
use Rattle.rmt_chip.proofs.keys.read_keys.Goals as goal

pub returns-then-is_accepted-clause-looked : goal.returns-then-is_accepted-clause-looked
returns-then-is_accepted-clause-looked c = λ stage found cells look held seed looks.
    let place = c.args.place.now in
    let ps = place.pending.items in
    let k = c.args.k in
    let q = c.index_mut-pending.result.now in
    let stages = c.args.stages.now in
    let inside : k < length ps = (let many = c.requires.room.all_stages in let exists = c.requires.exists in omega arith) in
    let is : stage ≡ c.index-stages-k.result = sym (c.index-stages-k.is ∙ get_or_from_slice_get stages k stage c.index-stages-k.result found) in
    let here : slice_get ps k ≡ Some q = slice_get-get_or ps k q inside ∙ ap Some (sym c.index_mut-pending.ensures.value) in
    let p : Pending = record q { looked = with_items q.looked c.look_all.new.into } in
    let items : p.looked.items ≡ c.look_all.new.into = with_items_is q.looked c.look_all.new.into (let same = c.look_all.auto.into in let lent = c.deref_mut.ensures.len in omega arith) in
    looked_by look k stage place _ p q inside here refl (record { same = record { taken = refl; number = refl; version = refl; size = refl; parsed = refl; tails = refl }; vector = refl; outcomes = refl }) refl refl
    (subst (λ (x : Stage). AllLooked look k (λ v. slice_index place.vector v) x p.looked.items) (sym is)
    (subst (λ (xs : List Looked). AllLooked look k (λ v. slice_index place.vector v) c.index-stages-k.result xs) (sym items)
    (c.look_all.ensures.looked cells look k (subst (λ (x : Stage). StageHeld cells k x c.args.memories.now) is held) seed (subst (λ (x : Stage). LooksInto c.args.sight.named c.args.sight.version cells x look k) is looks))))

pub returns-then-is_accepted-clause-room : goal.returns-then-is_accepted-clause-room
returns-then-is_accepted-clause-room c =
    let ps = c.args.place.now.pending.items in
    let k = c.args.k in
    let q = c.index_mut-pending.result.now in
    let stages = c.args.stages.now in
    let stage = c.index-stages-k.result in
    let inside : k < length ps = (let many = c.requires.room.all_stages in let exists = c.requires.exists in omega arith) in
    let found : slice_get stages k ≡ Some stage = slice_get-get_or stages k stage c.requires.exists ∙ ap Some (sym c.index-stages-k.is) in
    let here : slice_get ps k ≡ Some q = slice_get-get_or ps k q inside ∙ ap Some (sym c.index_mut-pending.ensures.value) in
    let was = c.requires.room.each k stage q found here in
    let p : Pending = record q { looked = with_items q.looked c.look_all.new.into } in
    let items : p.looked.items ≡ c.look_all.new.into = with_items_is q.looked c.look_all.new.into (let same = c.look_all.auto.into in let lent = c.deref_mut.ensures.len in omega arith) in
    room_put stages ps k stage p inside found (record {
      looked = subst (λ (xs : List Looked). HaveRoom stage xs) (sym items) c.look_all.ensures.room;
      few = was.few;
      running = was.running;
      due = was.due;
    }) c.requires.room
