use Rattle.std.proofs.Common.{◌≡◌, ◌++◌, ◌∷◌, [], ◌∙◌, List, ℕ, Vec, Global, true, false, length, take, get_or, set, ap, refl, sym, subst, arith}
use Rattle.std.proofs.lemmas.List.{get_or-map, length-set, with_items_is}
use Rattle.rmt_queues.specs.Calls.{after_all}
use Rattle.rmt_switch.specs.Copies.{sent_in}
use Rattle.rmt_switch.specs.Ports.{file_text, start}
use Rattle.rmt_switch.proofs.PortLaws.{nothing_first, passed_over, passes_on, took}
use Rattle.rmt_switch.proofs.ports.Ports.take.Goals as goal

pub returns-in_ok-put_item-in-Some : goal.returns-in_ok-put_item-in-Some
returns-in_ok-put_item-in-Some c = λ calls h.
    let capture = c.args.capture.now in
    let p = c.args.self.now in
    let port = c.args.port in
    let at = c.from-at.ensures in
    let items : Vec ℕ Global → List ℕ = λ f. f.items in
    let same = with_items_is p.room c.take.new.into (c.take.auto.into ∙ c.deref_mut.ensures.len) in
    let size = ap length c.deref_mut.ensures.value ∙ h.room in
    let sent = sent_in start calls port in
    let all = h.all_files in
    let below = c.requires.port in
    let was = ap items c.index_mut.ensures.value ∙ ap (λ (n : ℕ). items (get_or p.files.items n c.index_mut.result.now)) at
    ∙ sym (get_or-map items p.files.items port c.index_mut.result.now [] (omega (arith, all, below))) ∙ h.files port below in
    let text = subst (λ (xs : List ℕ). c.put_item.new.file.items ≡ file_text capture (sent ++ take c.in-Some.len xs ∷ [])) (c.deref.ensures.value ∙ same)
    (c.in_ok-put_item-in-Some.ensures sent was) in
    took capture calls p h port below (take c.in-Some.len c.take.new.into) (c.in-Some.ensures.item (after_all start calls) h.queues) _ c.put_item.new.file
    (c.in-Some.ensures.stands (after_all start calls) h.queues) refl (ap length same ∙ c.take.auto.into ∙ size) (ap (λ (n : ℕ). set p.files.items n c.put_item.new.file) at) text refl refl refl

pub returns-in-None : goal.returns-in-None
returns-in-None c = λ calls h.
    let capture = c.args.capture.now in
    let p = c.args.self.now in
    let port = c.args.port in
    let t = after_all start calls in
    let at = c.from-at.ensures in
    let same = with_items_is p.room c.take.new.into (c.take.auto.into ∙ c.deref_mut.ensures.len) in
    let size = ap length c.deref_mut.ensures.value ∙ h.room in
    let none = nothing_first t port (c.in-None.ensures.item t h.queues) in
    passed_over capture calls p h port c.requires.port _ none (c.in-None.ensures.stands t h.queues) (length-set p.waiting.items c.from-at.result false ∙ h.all_waiting)
    (λ other lt e. passes_on capture calls p h port none other lt (ap (λ (n : ℕ). get_or (set p.waiting.items n false) other true) (sym at) ∙ e))
    (ap length same ∙ c.take.auto.into ∙ size) refl refl refl refl
