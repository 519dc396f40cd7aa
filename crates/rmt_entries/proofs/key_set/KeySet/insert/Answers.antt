use Rattle.std.proofs.Common.{◌≡◌, ◌∙◌, ℕ, List, cond, not, true, length, sym, ap, subst, arith}
use Rattle.std.specs.Str.{bytes_eq}
use Rattle.rmt_entries.specs.declared.key_set.Spot.TheVariants.{Crowded}
use Rattle.rmt_entries.specs.KeySets.{KeySet, has, holds, home, near, spot_of}
use Rattle.rmt_entries.proofs.KeySetLaws.{crowd_holds, crowd_stands, free_home, present, present_kept, put_whole, spot_seen, stands_more, with_list}
use Rattle.rmt_entries.proofs.key_set.KeySet.insert.Goals as goal

pub invariant_of-self : goal.invariant_of-self
invariant_of-self c = rw c.in_err-put_list-in-Free.ensures.kept.1 (stands_more c.self.inside.slots.items c.self.inside.held.items c.in_err-put_list-in-Free.ensures.kept.0 c.self.inside.crowded c.self.invariant)

pub index_mut-requires : goal.index_mut-requires
index_mut-requires c =
    let slots = c.self.inside.slots.items in
    let held = c.self.inside.held.items in
    let key = c.args.key.now.items in
    let own = spot_seen slots held key c.self.inside.crowded c.args.self.now c.as_slice.result.now c.spot_of.result c.self.view_is c.as_slice.ensures.value c.spot_of.ensures ∙ c.in-Free.is in
    omega (arith, (free_home slots held key c.in-Free.place own c.self.invariant.some).1, c.self.inside.slots.ok.0)

pub invariant_of-self-in-Free : goal.invariant_of-self-in-Free
invariant_of-self-in-Free c =
    let slots = c.self.inside.slots.items in
    let held = c.self.inside.held.items in
    let key = c.args.key.now in
    let own = spot_seen slots held key.items c.self.inside.crowded c.args.self.now c.as_slice.result.now c.spot_of.result c.self.view_is c.as_slice.ensures.value c.spot_of.ensures ∙ c.in-Free.is in
    (put_whole slots held c.self.inside.crowded c.self.invariant key c.in-Free.place c.len-begin.result c.put_list.new.held.items own (c.len-begin.ensures ∙ c.self.inside.held.ok.0)
    (c.in_ok-put_list-in-Free.ensures.put ∙ ap (with_list held) c.as_slice-in-Free.ensures.value)).0

pub invariant_of-self-in-Crowded : goal.invariant_of-self-in-Crowded
invariant_of-self-in-Crowded c =
    let slots = c.self.inside.slots.items in
    let held = c.self.inside.held.items in
    let key = c.args.key.now.items in
    let own = spot_seen slots held key c.self.inside.crowded c.args.self.now c.as_slice.result.now c.spot_of.result c.self.view_is c.as_slice.ensures.value c.spot_of.ensures ∙ c.in-Crowded.is in
    let same = sym c.in_ok-copy-in-Crowded.ensures in
    crowd_stands slots held c.self.inside.crowded c.self.invariant c.in_ok-copy-in-Crowded.copy c.insert.new.self c.in_ok-insert-in-Crowded.ensures.updates (subst (λ (xs : List ℕ). spot_of slots held near (home slots xs) xs ≡ Crowded) same own)

pub returns-in_ok-put_list-in-Free-clause-updates :
    goal.returns-in_ok-put_list-in-Free-clause-updates
returns-in_ok-put_list-in-Free-clause-updates c q =
    let slots = c.self.inside.slots.items in
    let held = c.self.inside.held.items in
    let key = c.args.key.now in
    let own = spot_seen slots held key.items c.self.inside.crowded c.args.self.now c.as_slice.result.now c.spot_of.result c.self.view_is c.as_slice.ensures.value c.spot_of.ensures ∙ c.in-Free.is in
    (put_whole slots held c.self.inside.crowded c.self.invariant key c.in-Free.place c.len-begin.result c.put_list.new.held.items own (c.len-begin.ensures ∙ c.self.inside.held.ok.0)
    (c.in_ok-put_list-in-Free.ensures.put ∙ ap (with_list held) c.as_slice-in-Free.ensures.value)).1 q
    ∙ ap (λ (k : KeySet). cond (bytes_eq key.items q.items) true (has k q)) c.self.view_is

pub returns-in-Held-clause-added : goal.returns-in-Held-clause-added
returns-in-Held-clause-added c =
    let slots = c.self.inside.slots.items in
    let held = c.self.inside.held.items in
    let own = spot_seen slots held c.args.key.now.items c.self.inside.crowded c.args.self.now c.as_slice.result.now c.spot_of.result c.self.view_is c.as_slice.ensures.value c.spot_of.ensures ∙ c.in-Held.is in
    ap not (sym (present slots held c.self.inside.crowded c.self.invariant c.args.key.now own)) ∙ ap (λ (k : KeySet). not (has k c.args.key.now)) c.self.view_is

pub returns-in-Held-clause-updates : goal.returns-in-Held-clause-updates
returns-in-Held-clause-updates c q =
    let slots = c.self.inside.slots.items in
    let held = c.self.inside.held.items in
    let own = spot_seen slots held c.args.key.now.items c.self.inside.crowded c.args.self.now c.as_slice.result.now c.spot_of.result c.self.view_is c.as_slice.ensures.value c.spot_of.ensures ∙ c.in-Held.is in
    ap (λ (k : KeySet). has k q) (sym c.self.view_is)
    ∙ present_kept slots held c.self.inside.crowded c.self.invariant c.args.key.now own q
    ∙ ap (λ (k : KeySet). cond (bytes_eq c.args.key.now.items q.items) true (has k q)) c.self.view_is

pub returns-in_ok-insert-in-Crowded-clause-updates :
    goal.returns-in_ok-insert-in-Crowded-clause-updates
returns-in_ok-insert-in-Crowded-clause-updates c q =
    crowd_holds c.self.inside.slots.items c.self.inside.held.items c.self.inside.crowded c.self.invariant c.in_ok-copy-in-Crowded.copy c.insert.new.self c.in_ok-insert-in-Crowded.ensures.updates q
    ∙ ap (λ (xs : List ℕ). cond (bytes_eq xs q.items) true (holds c.self.inside.slots.items c.self.inside.held.items c.self.inside.crowded q)) c.in_ok-copy-in-Crowded.ensures
    ∙ ap (λ (k : KeySet). cond (bytes_eq c.args.key.now.items q.items) true (has k q)) c.self.view_is
